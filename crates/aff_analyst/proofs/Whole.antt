-- A whole range that was read is answered.
use Rattle.std.proofs.Common.{◌≡◌, ℕ, ◌+◌, ◌%◌, ◌<◌, ◌≤◌, Bool, Option, None, Some, IfSome, IsTrue, List, [], length, map, get_or, refl, sym, ap, subst, ◌∙◌, arith, All, slice_get}
use Rattle.std.specs.List.{range_with_len}
use Rattle.std.proofs.lemmas.Option.{slice_get_within, get_or_from_slice_get}
use Rattle.aff_model.specs.declared.cell.Run.{Run}
use Rattle.aff_model.specs.declared.extent.Extent.{Extent}
use Rattle.aff_model.specs.History.{Part, publication_of}
use Rattle.aff_model.specs.Index.{no_extent}
use Rattle.aff_model.specs.Kinds.{AreGreatest, kind_at, spread}
use Rattle.aff_model.specs.Plan.{Planned}
use Rattle.aff_model.proofs.Sectors.{IsSectored, IsSectorPlan}
use Rattle.aff_image.specs.Sound.{AreSound}
use Rattle.aff_analyst.specs.Answers.{IsReadBy}
use Rattle.aff_analyst.specs.Bytes.{IsShown}
use Rattle.aff_analyst.specs.Reads.{HaveRoom, IsReadTo}
use Rattle.aff_analyst.proofs.Contents.{cells_shown}

-- no run, with room for those of a range that is not too long
pub room_for : (at len : ℕ) → len ≤ 1048576 → HaveRoom at len []
room_for at len short = record {
  greatest = record { some = λ k d b. absurd (omega (arith, b)); apart = λ k d b. absurd (omega (arith, b)) };
  few = omega (arith, short);
  short = omega (arith, short);
}

sectored_by : (size : ℕ) (es : List Extent) (n : ℕ) (o : Option Extent) → All (IsSectored size) es → slice_get es n ≡ o → IfSome o (λ e. e.at % 512 ≡ 0)
sectored_by size es n None each is = tt
sectored_by size es n (Some e) each is =
    let P : Extent → Type 0 = IsSectored size in
    let one : IsSectored size e = subst P (get_or_from_slice_get es n e no_extent is) (each n no_extent (slice_get_within es n e is)) in
    one.at_whole

pub read_whole : (plan : Planned) (tells : Bool) {R : Type 0} (told : R → List ℕ) (pieces : List (Part R)) (at len : ℕ) (bytes : List ℕ) (runs : List Run)
    → IsSectorPlan plan.size plan.extents → length bytes ≡ len
    → IsReadTo (kind_at plan.extents (map publication_of pieces)) (IsShown tells told plan.extents pieces) at bytes [] runs → IsReadBy plan tells told pieces at len bytes runs
read_whole plan tells told pieces at len bytes runs sectors is had =
    let each : (k : ℕ) → k < len → IsShown tells told plan.extents pieces (at + k) (get_or bytes k 0) = λ k low. had.each k (omega (arith, low, is)) in
    record {
      answer = record {
        kinds = had.kinds ∙ ap (λ n. map (kind_at plan.extents (map publication_of pieces)) (range_with_len at n)) is;
        greatest = had.greatest;
      };
      shown = each;
      cells = λ t c sound k low. cells_shown c plan tells told pieces (at + k) (get_or bytes k 0) (λ n. sectored_by plan.size plan.extents n (slice_get plan.extents n) sectors.each refl) sound t (each k low);
    }

-- the same in a longer list that begins so
pub read_front : (plan : Planned) (tells : Bool) {R : Type 0} (told : R → List ℕ) (pieces : List (Part R)) (at len : ℕ) (bytes longer : List ℕ) (runs : List Run)
    → ((k : ℕ) → k < len → get_or bytes k 0 ≡ get_or longer k 0) → IsReadBy plan tells told pieces at len bytes runs → IsReadBy plan tells told pieces at len longer runs
read_front plan tells told pieces at len bytes longer runs same read = record {
  answer = read.answer;
  shown = λ k low. subst (IsShown tells told plan.extents pieces (at + k)) (same k low) (read.shown k low);
  cells = λ t c sound k low. sym (same k low) ∙ read.cells t c sound k low;
}
