-- What an answer says of a text: it is taken or refused exactly where it has to be.
use Rattle.std.proofs.Common.{◌≡◌, ◌≢◌, ℕ, ◌⊎◌, inl, inr, List, refl, sym, subst}
use Rattle.aff_model.specs.declared.extent.Extent.{Extent}
use Rattle.aff_plan.specs.declared.error.PlanError.{PlanError}
use Rattle.aff_plan.specs.declared.error.PlanError.TheVariants.{Shape, Number, Sector, TooLong, TooMany, PastEnd, Overlap, Priority, Total, Memory}
use Rattle.aff_plan.specs.Refused.{IsPlanRefused, IsTextOf}
use Rattle.aff_plan.specs.Text.{numbered_lines}
use Rattle.aff_plan.proofs.Said.{same_said}
use Rattle.aff_plan.proofs.Same.{no_refusal, same_refusal}

is_memory : (e : PlanError) → (e ≡ Memory) ⊎ (e ≢ Memory)
is_memory (Shape n) = inr (λ is. cc)
is_memory (Number n) = inr (λ is. cc)
is_memory (Sector n) = inr (λ is. cc)
is_memory (TooLong n) = inr (λ is. cc)
is_memory (TooMany n) = inr (λ is. cc)
is_memory (PastEnd n) = inr (λ is. cc)
is_memory (Overlap n m) = inr (λ is. cc)
is_memory (Priority n) = inr (λ is. cc)
is_memory (Total n) = inr (λ is. cc)
is_memory Memory = inl refl

module _ (size block : ℕ) (text : List ℕ) where
  -- a text that was taken
  pub same_plan : (es fs : List Extent) → IsTextOf size block text es → IsTextOf size block text fs → es ≡ fs
  same_plan es fs p q = same_said (numbered_lines text) es fs p.lines q.lines

  pub not_refused : (es : List Extent) (e : PlanError) → IsTextOf size block text es → ¬ (IsPlanRefused size block text e)
  not_refused es e is = no_refusal size block (numbered_lines text) es e is.lines is.plan

  -- a text that was refused
  pub taken_unless : (e : PlanError) (es : List Extent) → (e ≢ Memory → IsPlanRefused size block text e) → IsTextOf size block text es → e ≡ Memory
  taken_unless e es refused is = elim (is_memory e) [
    | inl memory ↦ memory
    | inr other ↦ absurd (not_refused es e is (refused other))
  ]

  pub told_unless : (e x : PlanError) → (e ≢ Memory → IsPlanRefused size block text e) → IsPlanRefused size block text x → (e ≡ x) ⊎ (e ≡ Memory)
  told_unless e x refused is = elim (is_memory e) [
    | inl memory ↦ inr memory
    | inr other ↦ inl (same_refusal size block (numbered_lines text) e x (refused other) is)
  ]
