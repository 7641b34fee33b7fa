-- Sessions that were told the whole list.
use Rattle.std.proofs.Common.{◌≡◌, ℕ, zero, suc, ◌+◌, ◌<◌, ◌≤◌, List, [], ◌∷◌, ◌++◌, length, map, take, refl, sym, ap, subst, ◌∙◌, arith, inl, inr}
use Rattle.std.specs.Prelude.{All, Bool, Option, slice_index_or}
use Rattle.std.proofs.lemmas.List.{take_at}
use Rattle.aff_model.specs.Causes.{Rose}
use Rattle.aff_model.specs.Content.{Content}
use Rattle.aff_model.specs.Held.{Held}
use Rattle.aff_model.specs.History.{Part}
use Rattle.aff_model.specs.Plan.{Planned}
use Rattle.aff_image.specs.Asked.{Asked}
use Rattle.aff_image.specs.Sound.{AreSound}
use Rattle.aff_script.specs.declared.script.Request.{Request}
use Rattle.aff_session.specs.Sittings.{Sitting}
use Rattle.aff_snapshot.specs.Lists.{HasEvery, ListName}
use Rattle.aff_run.specs.Ends.{Leaves}
use Rattle.aff_run.specs.declared.ending.RunEnd.{RunEnd}
use Rattle.aff_run.specs.declared.ending.RunEnd.TheVariants.{Done, Failed, Damaged, Memory}
use Rattle.aff_run.specs.Sessions.{HasLearned, HasLived, IsReady}
use Rattle.aff_run.proofs.Lives.{ready}

-- what holds of elements holds of them taken
pub giving : {S : Type 0} (news rest : List S) (n : ℕ) → length news ≡ n → (Q : List S → Type 0) → Q news → Q (take n (news ++ rest))
giving news rest n len Q is = subst Q (sym (take_at news rest n len)) is

pub rose_from : (a b n : ℕ) → a ≤ b → Rose b n → Rose a n
rose_from a b n less rose = omega (arith, less, rose)

-- an end leaves no less where a folder may have failed, too
pub leaves_more : {R : Type 0} (case : Option Content) (tells : Bool) (told : R → List ℕ) (ask : Asked) (before script : List (List Request)) (held : Held) (less folder peek : Type 0) (end : RunEnd R) → (less → folder) → before ≡ script
    → Leaves case tells told ask before held less peek end → Leaves case tells told ask script held folder peek end
leaves_more case tells told ask before script held less folder peek (Done a) more is left = subst (λ (s : List (List Request)). Leaves case tells told ask s held folder peek (Done a)) is left
leaves_more case tells told ask before script held less folder peek Failed more is (inl left) = inl (more left.0, left.1)
leaves_more case tells told ask before script held less folder peek Failed more is (inr left) = inr left
leaves_more case tells told ask before script held less folder peek (Damaged chunk recorded found) more is left = left
leaves_more case tells told ask before script held less folder peek Memory more is left = left

module _ {R P : Type 0} (pieces : List (Part R)) where
  abbrev pub AreLearned : List (Sitting R P) → List (Sitting R P) → Type 0
  AreLearned olds news = (k : ℕ) (d : Sitting R P) → k < length olds → HasLearned pieces (slice_index_or olds k d) (slice_index_or news k d)

  asked_all : (olds news : List (Sitting R P)) → length news ≡ length olds → AreLearned olds news → map (λ s. s.requests) news ≡ map (λ s. s.requests) olds
  asked_all [] [] len each = refl
  asked_all [] (y ∷ news) len each = absurd (omega (arith, len))
  asked_all (x ∷ olds) [] len each = absurd (omega (arith, len))
  asked_all (x ∷ olds) (y ∷ news) len each = λ i. ap (λ (s : Sitting R P). s.requests) (each zero x (omega arith)).same i ∷ asked_all olds news (omega (arith, len)) (λ k d below. each (suc k) d (omega (arith, below))) i

  -- they ask what they asked
  pub asked_same : (olds slice news : List (Sitting R P)) → slice ≡ olds → length news ≡ length slice → AreLearned slice news → map (λ s. s.requests) news ≡ map (λ s. s.requests) olds
  asked_same olds slice news is len each = asked_all slice news len each ∙ ap (map (λ (s : Sitting R P). s.requests)) is

module _ {R P : Type 0} (tells : Bool) (told : R → List ℕ) (faults : P → ℕ) (plan : Planned) (list : ListName) (pieces : List (Part R)) (olds slice news : List (Sitting R P)) (is : slice ≡ olds) (len : length news ≡ length slice)
    (each : AreLearned pieces slice news) (lives : All (λ (s : Sitting R P). HasLived plan list tells told faults s) olds) where
  living : All (λ (s : Sitting R P). HasLived plan list tells told faults s) slice
  living = subst (All (λ (s : Sitting R P). HasLived plan list tells told faults s)) (sym is) lives

  -- they are of the plan
  pub all_planned : All (λ (s : Sitting R P). s.plan ≡ plan) news
  all_planned k d below =
      let here : k < length slice = omega (arith, len, below) in
      ap (λ (s : Sitting R P). s.plan) (each k d here).same ∙ (living k d here).plan_is

-- and may be answered
pub all_ready : {R P : Type 0} (case : Option Content) (tells : Bool) (told : R → List ℕ) (faults : P → ℕ) (plan : Planned) (list : ListName) (pieces : List (Part R)) (olds slice news : List (Sitting R P)) → slice ≡ olds → length news ≡ length slice
    → AreLearned pieces slice news → All (λ (s : Sitting R P). HasLived plan list tells told faults s) olds → HasEvery plan pieces → AreSound case plan tells told pieces → All (IsReady case tells told faults pieces) news
all_ready {R} {P} case tells told faults plan list pieces olds slice news is len each lives every sound k d below =
    let here : k < length slice = omega (arith, len, below) in
    let living : All (λ (s : Sitting R P). HasLived plan list tells told faults s) slice = subst (All (λ (s : Sitting R P). HasLived plan list tells told faults s)) (sym is) lives in
    ready tells told faults case plan list pieces (slice_index_or slice k d) (slice_index_or news k d) (living k d here) (each k d here) every sound
