use Rattle.std.proofs.Common.{◌≡◌, ◌++◌, Some, None, length, take, drop, vec_len, ap, sym, ◌∙◌}
use Rattle.std.specs.Ordering.{nat_cmp}
use Rattle.std.specs.Cmp.Lexicographic.{slice_cmp}
use Rattle.std.specs.FinMap.{find}
use Rattle.aff_model.specs.Held.{lengths, bytes_of}
use Rattle.aff_outside.proofs.Listed.{not_listed, all_inside, read_whole}
use Rattle.aff_outside.proofs.segment.read_segment.Goals as goal

pub returns-in_default-clause-found : goal.returns-in_default-clause-found
returns-in_default-clause-found g c = λ t.
    let all : c.deref.result.now ≡ lengths (g.F.Folder.held c.args.folder.now) = c.deref.ensures.value ∙ c.in_ok-segments.ensures.segments t in
    let none : find (slice_cmp nat_cmp) c.args.name.now (lengths (g.F.Folder.held c.args.folder.now)) ≡ None =
    ap (find (slice_cmp nat_cmp) c.args.name.now) (sym all) ∙ sym c.listed_len.ensures ∙ c.in_default.is in
    sym (not_listed _ _ none)

pub read_at-requires : goal.read_at-requires
read_at-requires g c = λ t.
    let all : c.deref.result.now ≡ lengths (g.F.Folder.held c.args.folder.now) = c.deref.ensures.value ∙ c.in_ok-segments.ensures.segments t in
    let some : find (slice_cmp nat_cmp) c.args.name.now (lengths (g.F.Folder.held c.args.folder.now)) ≡ Some c.in-Some.len =
    ap (find (slice_cmp nat_cmp) c.args.name.now) (sym all) ∙ sym c.listed_len.ensures ∙ c.in-Some.is in
    let room : length c.deref_mut.result.now ≡ c.in-Some.len = c.deref_mut.ensures.len ∙ c.in_ok-bytes.ensures.len in
    rw (c.list.ensures.same t, room) (all_inside _ _ _ some)

pub returns-clause-found : goal.returns-clause-found
returns-clause-found g c = λ t.
    let all : c.deref.result.now ≡ lengths (g.F.Folder.held c.args.folder.now) = c.deref.ensures.value ∙ c.in_ok-segments.ensures.segments t in
    let some : find (slice_cmp nat_cmp) c.args.name.now (lengths (g.F.Folder.held c.args.folder.now)) ≡ Some c.in-Some.len =
    ap (find (slice_cmp nat_cmp) c.args.name.now) (sym all) ∙ sym c.listed_len.ensures ∙ c.in-Some.is in
    let room : length c.deref_mut.result.now ≡ c.in-Some.len = c.deref_mut.ensures.len ∙ c.in_ok-bytes.ensures.len in
    let out : length c.read_at.new.out ≡ c.in-Some.len = c.read_at.auto.out ∙ room in
    let bytes : c.read_at.new.out ≡ take c.in-Some.len (drop 0 (bytes_of (g.F.Folder.held c.args.folder.now) c.args.name.now)) =
    c.in_ok-read_at.ensures.bytes t
    ∙ ap (λ n. take n (drop 0 (bytes_of (g.F.Folder.held c.list.new.self) c.args.name.now))) room
    ∙ ap (λ held. take c.in-Some.len (drop 0 (bytes_of held c.args.name.now))) (c.list.ensures.same t) in
    let items : length c.in_ok-bytes.bytes.items ≡ c.in-Some.len = ap length (sym c.deref_mut.ensures.value) ∙ room in
    let len : vec_len c.in_ok-bytes.bytes ≡ c.in-Some.len = c.in_ok-bytes.ensures.len in
    ap (λ n. Some (take n (c.read_at.new.out ++ drop (length c.read_at.new.out) c.in_ok-bytes.bytes.items))) len
    ∙ read_whole _ _ _ _ _ some out items bytes
