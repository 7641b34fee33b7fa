use Rattle.std.proofs.Common.{◌≡◌, ◌++◌, length, take, drop, vec_len, ap, sym, ◌∙◌, arith}
use Rattle.aff_model.specs.Held.{bytes_of}
use Rattle.aff_volume.proofs.Lengths.{is_inside, known_length, whole_read}
use Rattle.aff_volume.proofs.metadata.read_whole.Goals as goal

pub read_at-requires : goal.read_at-requires
read_at-requires g c = λ t.
    let room : length c.deref_mut.result.now ≡ c.args.len = c.deref_mut.ensures.len ∙ c.in_ok-bytes.ensures.len in
    is_inside (g.F.Folder.held c.args.folder.now) c.args.name.now c.args.len 0 (length c.deref_mut.result.now) (known_length (g.F.Folder.held c.args.folder.now) c.args.name.now c.args.len (c.requires.there t) (c.requires.length t)) (omega (arith, room))

pub returns-in-Ok-clause-bytes : goal.returns-in-Ok-clause-bytes
returns-in-Ok-clause-bytes g c = λ t.
    let room : length c.deref_mut.result.now ≡ c.args.len = c.deref_mut.ensures.len ∙ c.in_ok-bytes.ensures.len in
    let out : length c.read_at.new.out ≡ c.args.len = c.read_at.auto.out ∙ room in
    let bytes : c.read_at.new.out ≡ take c.args.len (drop 0 (bytes_of (g.F.Folder.held c.args.folder.now) c.args.name.now)) =
    c.in-Ok.ensures.bytes t ∙ ap (λ n. take n (drop 0 (bytes_of (g.F.Folder.held c.args.folder.now) c.args.name.now))) room in
    let items : length c.in_ok-bytes.bytes.items ≡ c.args.len = ap length (sym c.deref_mut.ensures.value) ∙ room in
    let len : vec_len c.in_ok-bytes.bytes ≡ c.args.len = c.in_ok-bytes.ensures.len in
    ap (λ n. take n (c.read_at.new.out ++ drop (length c.read_at.new.out) c.in_ok-bytes.bytes.items)) len
    ∙ whole_read (g.F.Folder.held c.args.folder.now) c.args.name.now c.read_at.new.out c.in_ok-bytes.bytes.items c.args.len (known_length (g.F.Folder.held c.args.folder.now) c.args.name.now c.args.len (c.requires.there t) (c.requires.length t)) out items bytes
