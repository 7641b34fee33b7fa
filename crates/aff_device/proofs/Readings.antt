-- What a part is after it was read, by how its reading went.
use Rattle.std.proofs.Common.{◌≡◌, ℕ, ◌+◌, ◌*◌, ◌/◌, ◌%◌, ◌≤◌, List, [], ◌++◌, length, replicate, sym, ap, ◌∙◌, subst, arith, append_assoc}
use Rattle.std.proofs.lemmas.List.{append-nil}
use Rattle.std.proofs.lemmas.List.FromFn.{length-range_with_len}
use Rattle.std.specs.Prelude.{Option, IfSome}
use Rattle.std.specs.List.{range_with_len}
use Rattle.aff_model.specs.declared.limits.TheConstants.{SECTOR}
use Rattle.aff_model.specs.Content.{Content, IsBlock, IsRead, Touches}
use Rattle.aff_model.specs.Legal.{blocks_in}
use Rattle.aff_device.specs.Around.{RoseBy, IsPart, IsPartRead, IsRange}
use Rattle.aff_device.proofs.Blocks.{blocks_none, whole_sectors, whole_sum}
use Rattle.aff_device.proofs.Parts.{whole_part, empty_part, block_part}
use Rattle.aff_device.proofs.Halves.{both_parts, rose_both}

rose_none : (block before now : ℕ) → IsBlock block → before ≤ now → RoseBy (blocks_in block []) before now
rose_none block before now is later =
    let P : ℕ → Type 0 = λ n. RoseBy n before now in
    subst P (sym (blocks_none block is)) (omega (arith, later))

pub whole_read : (content : Option Content) (block start first at len : ℕ) (bytes old : List ℕ) (before now : ℕ) → IsBlock block → at ≡ start + SECTOR * first → IsRange block start first len → length bytes ≡ len
    → IfSome content (λ c. IsRead c at bytes) → IfSome content (λ c. ¬ (Touches c.bad at len)) → before ≤ now → IsPartRead content block start first bytes old old before now
whole_read content block start first at len bytes old before now is place range same read good later = record {
  bad = [];
  added = sym (append-nil old);
  part = whole_part content block start first len bytes is range same (subst (λ t. IfSome content (λ c. IsRead c t bytes)) place read) (subst (λ t. IfSome content (λ c. ¬ (Touches c.bad t len))) place good);
  rose = rose_none block before now is later;
}

pub empty_read : (content : Option Content) (block start first : ℕ) (bytes old : List ℕ) (before now : ℕ) → IsBlock block → length bytes ≡ 0 → before ≤ now → IsPartRead content block start first bytes old old before now
empty_read content block start first bytes old before now is none later = record {
  bad = [];
  added = sym (append-nil old);
  part = empty_part content block start first bytes is none;
  rose = rose_none block before now is later;
}

pub block_read : (content : Option Content) (block start first at len n : ℕ) (bytes old new : List ℕ) (before now : ℕ) → IsBlock block → IfSome content (λ c. c.block ≡ block) → at ≡ start + SECTOR * first → IsRange block start first len
    → len / block ≡ 1 → n ≡ len / SECTOR → bytes ≡ replicate len 0 → length bytes ≡ len → IfSome content (λ c. Touches c.weak at len) → new ≡ old ++ range_with_len first n → RoseBy 1 before now
    → IsPartRead content block start first bytes old new before now
block_read content block start first at len n bytes old new before now is own place range one count zeros same weak added rose =
    let sectors = whole_sectors block len is range.len_whole in
    let bytes_of : SECTOR * length (range_with_len first n) ≡ len = omega (arith, length-range_with_len first n, count, sectors) in
    let P : ℕ → Type 0 = λ k. RoseBy k before now in
    record {
      bad = range_with_len first n;
      added = added;
      part = block_part content block start first len n bytes is own range one count zeros same (subst (λ t. IfSome content (λ c. Touches c.weak t len)) place weak);
      rose = subst P (sym (ap (λ k. k / block) bytes_of ∙ one)) rose;
    }

pub both_read : (content content1 content2 : Option Content) (block start first half first2 len : ℕ) (b1 b2 old mid new : List ℕ) (before t1 t2 now : ℕ) → IsBlock block → content1 ≡ content → content2 ≡ content
    → IsRange block start first len → half % block ≡ 0 → first2 ≡ first + half / SECTOR → length b1 ≡ half → before ≤ t1
    → IsPartRead content1 block start first b1 old mid t1 t2 → IsPartRead content2 block start first2 b2 mid new t2 now → IsPartRead content block start first (b1 ++ b2) old new before now
both_read content content1 content2 block start first half first2 len b1 b2 old mid new before t1 t2 now is e1 e2 range whole place len_is later p q =
    let h : ℕ = half / SECTOR in
    let half_is : half ≡ SECTOR * h = let s = whole_sectors block half is whole in omega (arith, s) in
    let edge : SECTOR * (first + h) % block ≡ 0 =
    let sum : SECTOR * first + half ≡ SECTOR * (first + h) = omega (arith, half_is) in
    subst (λ n. n % block ≡ 0) sum (whole_sum block (SECTOR * first) half is range.first_whole whole) in
    let a : IsPart content block start first b1 p.bad = subst (λ c. IsPart c block start first b1 p.bad) e1 p.part in
    let b : IsPart content block start (first + h) b2 q.bad = subst (λ f. IsPart content block start f b2 q.bad) place (subst (λ c. IsPart c block start first2 b2 q.bad) e2 q.part) in
    let r : RoseBy (blocks_in block p.bad) before t2 = let u = p.rose in omega (arith, u, later) in
    record {
      bad = p.bad ++ q.bad;
      added = q.added ∙ ap (λ t. t ++ q.bad) p.added ∙ append_assoc old p.bad q.bad;
      part = both_parts content block start first h b1 b2 p.bad q.bad is range.start_whole edge (len_is ∙ half_is) a b;
      rose = rose_both block p.bad q.bad before t2 now is a.whole b.whole r q.rose;
    }
