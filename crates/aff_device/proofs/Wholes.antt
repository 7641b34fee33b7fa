-- A whole extent that was read as one part.
use Rattle.std.proofs.Common.{◌≡◌, ℕ, ◌+◌, ◌*◌, ◌/◌, ◌%◌, ◌<◌, List, [], ◌++◌, length, sym, ap, ◌∙◌, subst, IsTrue, arith, zero-add}
use Rattle.std.specs.Prelude.{Option, None, Some, IfSome, All, Contains}
use Rattle.std.proofs.lemmas.List.Elements.{All-contains_itself}
use Rattle.aff_model.specs.declared.limits.TheConstants.{SECTOR}
use Rattle.aff_model.specs.Content.{Content, IsBlock}
use Rattle.aff_model.specs.Legal.{Fits, blocks_in}
use Rattle.aff_outside.specs.Seen.{IsZeroSector}
use Rattle.aff_device.specs.Around.{IsKnown, RoseBy, IsToldPart, IsPart, IsPartRead, IsRange}
use Rattle.aff_device.proofs.Blocks.{whole_none}

-- what holds of each number that the list has
each : (P : ℕ → Type 0) (bad : List ℕ) → ((s : ℕ) → Contains bad s → P s) → All P bad
each P bad f k d h = f _ (All-contains_itself bad k d h)

own : (content : Option Content) (block at first : ℕ) (bytes old new : List ℕ) (before now : ℕ) → old ≡ [] → (r : IsPartRead content block at first bytes old new before now) → r.bad ≡ new
own content block at first bytes old new before now none r = sym (r.added ∙ ap (λ t. t ++ r.bad) none)

pub fits : (content : Option Content) (block k at len priority before now : ℕ) (bytes old new : List ℕ) → block ≡ k → old ≡ [] → length bytes ≡ len → IsPartRead content block at 0 bytes old new before now → Fits content k (record { at = at; len = len; priority = priority }) new
fits content block k at len priority before now bytes old new is none same r =
    let p : IsPart content k at 0 bytes new = subst (λ m. IsPart content m at 0 bytes new) is (subst (λ b. IsPart content block at 0 bytes b) (own content block at 0 bytes old new before now none r) r.part) in
    record {
      rising = p.rising;
      inside = each (λ s. s < len / SECTOR) new (λ s has. let t = p.high s has in omega (arith, t, same));
      together = λ s t has below. p.together s t has (omega arith) (omega (arith, below, same));
      weak = elim content as (λ o. IfSome o (λ c. IsToldPart c at 0 bytes new) → IfSome o (λ c. All (λ s. IsTrue (c.weak (at / SECTOR + s))) new)) [
        | None ↦ λ t. tt
        | Some c ↦ λ t. each (λ s. IsTrue (c.weak (at / SECTOR + s))) new t.weak
      ] p.told;
      every_bad = elim content as (λ o. IfSome o (λ c. IsToldPart c at 0 bytes new) → IfSome o (λ c. (s : ℕ) → s < len / SECTOR → IsTrue (c.bad (at / SECTOR + s)) → Contains new s)) [
        | None ↦ λ t. tt
        | Some c ↦ λ t s below. t.every_bad s (omega arith) (omega (arith, below, same))
      ] p.told;
    }

pub known : (content : Option Content) (block at before now : ℕ) (bytes old new : List ℕ) → old ≡ [] → IsPartRead content block at 0 bytes old new before now → IfSome content (λ c. IsKnown c at bytes new)
known content block at before now bytes old new none r =
    let p : IsPart content block at 0 bytes new = subst (λ b. IsPart content block at 0 bytes b) (own content block at 0 bytes old new before now none r) r.part in
    elim content as (λ o. IfSome o (λ c. IsToldPart c at 0 bytes new) → IfSome o (λ c. IsKnown c at bytes new)) [
      | None ↦ λ t. tt
      | Some c ↦ λ t k below out.
          let place : 0 + k / SECTOR ≡ k / SECTOR = omega arith in
          let byte : at + SECTOR * 0 + k ≡ at + k = omega arith in
          t.known k below (λ has. out (subst (λ s. Contains new s) place has)) ∙ ap c.byte byte
    ] p.told

pub zeros : (content : Option Content) (block at before now : ℕ) (bytes old new : List ℕ) → old ≡ [] → IsPartRead content block at 0 bytes old new before now → All (IsZeroSector bytes) new
zeros content block at before now bytes old new none r =
    let p : IsPart content block at 0 bytes new = subst (λ b. IsPart content block at 0 bytes b) (own content block at 0 bytes old new before now none r) r.part in
    each (IsZeroSector bytes) new (λ s has. p.zero s (subst (λ t. Contains new t) (sym (zero-add s)) has))

-- the count, by the list of the whole extent
pub rose : (content : Option Content) (block k at before now : ℕ) (bytes old new : List ℕ) → block ≡ k → old ≡ [] → IsPartRead content block at 0 bytes old new before now → RoseBy (blocks_in k new) before now
rose content block k at before now bytes old new is none r =
    subst (λ m. RoseBy (blocks_in m new) before now) is (subst (λ b. RoseBy (blocks_in block b) before now) (own content block at 0 bytes old new before now none r) r.rose)

-- what the device says of its blocks
pub own_blocks : (content : Option Content) (block k : ℕ) → block ≡ k → IfSome content (λ c. c.block ≡ k) → IfSome content (λ c. c.block ≡ block)
own_blocks content block k is told = subst (λ m. IfSome content (λ c. c.block ≡ m)) (sym is) told

pub whole_range : (block k at len : ℕ) → IsBlock k → block ≡ k → at % k ≡ 0 → len % k ≡ 0 → IsRange block at 0 len
whole_range block k at len size is a l = subst (λ m. IsRange m at 0 len) (sym is) (record { start_whole = a; first_whole = whole_none k size; len_whole = l })
