-- Sectors of a piece's extent: of one kind, and shown alike.
use Rattle.std.proofs.Common.{◌≡◌, ℕ, zero, suc, ◌+◌, ◌-◌, ◌/◌, ◌%◌, ◌<◌, ◌≤◌, ◌==◌, ◌++◌, Bool, true, false, cond, IsTrue, List, length, map, replicate, get_or, refl, sym, ap, subst, ◌∙◌, arith}
use Rattle.std.specs.Prelude.{MatchBool}
use Rattle.std.specs.List.{list_any, range_with_len}
use Rattle.std.proofs.lemmas.List.FromFn.{get_or-map-range_with_len, length-map-range_with_len}
use Rattle.aff_model.specs.declared.cell.Kind.{Kind}
use Rattle.aff_model.specs.declared.cell.Kind.TheVariants.{Known, Unreadable, Unknown}
use Rattle.aff_model.specs.declared.cell.Run.{Run}
use Rattle.aff_model.specs.declared.extent.Extent.{Extent}
use Rattle.aff_model.specs.Cells.{is_bad_at}
use Rattle.aff_model.specs.History.{Part, Published, publication_of}
use Rattle.aff_model.specs.Kinds.{AreGreatest, spread}
use Rattle.aff_spec.specs.Symbols.{unknown_byte, unreadable_byte}
use Rattle.aff_map.specs.declared.target.Target.TheVariants as target
use Rattle.aff_map.specs.Symbol.{symbol_of}
use Rattle.aff_analyst.specs.Bytes.{Keeps, Shows}
use Rattle.aff_analyst.specs.Reads.{AreKept, IsReadTo, kind_in}
use Rattle.aff_analyst.proofs.Steps.{read_one}

-- places of one sector could be read together
pub bad_along : (e : Extent) (p : Published) (i j : ℕ) → i / 512 ≡ j / 512 → is_bad_at e p i ≡ is_bad_at e p j
bad_along e p i j same = ap (λ s. list_any (λ k. k == (s - e.at / 512)) p.bad) same

-- so the places of a range inside a sector
pub bad_in_sector : (e : Extent) (p : Published) (at len k : ℕ) (b : Bool) → len ≤ 512 - at % 512 → k < len → is_bad_at e p at ≡ b → is_bad_at e p (at + k) ≡ b
bad_in_sector e p at len k b short low is = bad_along e p (at + k) at (omega (arith, short, low)) ∙ is

-- a range inside a sector that could not be read
pub mark_bad : (tells : Bool) {R : Type 0} (told : R → List ℕ) (e : Extent) (p : Part R) (at len : ℕ) (xs : List ℕ) (r0 r1 : List Run)
    → 0 < len → len ≤ 512 - at % 512 → is_bad_at e (publication_of p) at ≡ true → xs ≡ map (symbol_of target.Unreadable) (range_with_len at len)
    → spread r1 ≡ spread r0 ++ replicate len Unreadable → AreGreatest r1 → length r1 ≤ length r0 + 1 → IsReadTo (kind_in e p) (Shows tells told e p) at xs r0 r1
mark_bad tells told e p at len xs r0 r1 some short bad is kinds greatest few =
    read_one (kind_in e p) (Shows tells told e p) at len Unreadable xs r0 r1 (ap length is ∙ length-map-range_with_len (symbol_of target.Unreadable) at len) some
    (λ k low. ap (λ b. cond b Unreadable Known) (bad_in_sector e (publication_of p) at len k true short low bad))
    (λ k low. subst (λ b. MatchBool b (get_or xs k 0 ≡ unreadable_byte (at + k)) (Keeps tells told e p (at + k) (get_or xs k 0))) (sym (bad_in_sector e (publication_of p) at len k true short low bad))
    (ap (λ l. get_or l k 0) is ∙ get_or-map-range_with_len (symbol_of target.Unreadable) at len k (at + k) 0 low refl))
    kinds greatest few

-- a range inside a sector that was read
pub mark_good : (tells : Bool) {R : Type 0} (told : R → List ℕ) (e : Extent) (p : Part R) (at len : ℕ) (xs : List ℕ) (r0 r1 : List Run)
    → 0 < len → len ≤ 512 - at % 512 → is_bad_at e (publication_of p) at ≡ false → length xs ≡ len → AreKept tells told e p at xs
    → spread r1 ≡ spread r0 ++ replicate len Known → AreGreatest r1 → length r1 ≤ length r0 + 1 → IsReadTo (kind_in e p) (Shows tells told e p) at xs r0 r1
mark_good tells told e p at len xs r0 r1 some short good is kept kinds greatest few =
    read_one (kind_in e p) (Shows tells told e p) at len Known xs r0 r1 is some
    (λ k low. ap (λ b. cond b Unreadable Known) (bad_in_sector e (publication_of p) at len k false short low good))
    (λ k low.
    let clear = bad_in_sector e (publication_of p) at len k false short low good in
    subst (λ b. MatchBool b (get_or xs k 0 ≡ unreadable_byte (at + k)) (Keeps tells told e p (at + k) (get_or xs k 0))) (sym clear) (kept k (omega (arith, low, is)) clear))
    kinds greatest few

-- a range that nobody has published
pub mark_unknown : (at len : ℕ) (xs : List ℕ) (r0 r1 : List Run) → 0 < len → xs ≡ map (symbol_of target.Unknown) (range_with_len at len)
    → spread r1 ≡ spread r0 ++ replicate len Unknown → AreGreatest r1 → length r1 ≤ length r0 + 1 → IsReadTo (λ i. Unknown) (λ i byte. byte ≡ unknown_byte i) at xs r0 r1
mark_unknown at len xs r0 r1 some is kinds greatest few =
    read_one (λ i. Unknown) (λ i byte. byte ≡ unknown_byte i) at len Unknown xs r0 r1 (ap length is ∙ length-map-range_with_len (symbol_of target.Unknown) at len) some
    (λ k low. refl)
    (λ k low. ap (λ l. get_or l k 0) is ∙ get_or-map-range_with_len (symbol_of target.Unknown) at len k (at + k) 0 low refl)
    kinds greatest few
