-- The devices that were handed in, as a run takes them.
use Rattle.std.proofs.Common.{◌≡◌, ℕ, ◌<◌, ◌≤◌, List, [], ◌∷◌, length, get_or, map, sym, ap, subst, subst₂, ◌∙◌, arith, Some, None}
use Rattle.std.specs.Prelude.{All, Option, IfSome}
use Rattle.std.proofs.lemmas.List.{get_or-map, length-map}
use Rattle.aff_model.specs.Content.{Content}
use Rattle.aff_model.specs.Plan.{Planned, IsPlan}
use Rattle.aff_command.specs.Devices.{ShownDevice, AreAlike, IsFit}
use Rattle.aff_run.specs.Devices.{Fits}
use Rattle.aff_script.specs.Script.{IsScript}
use Rattle.aff_top.specs.Outcomes.{IsPlanned, Script}
use Rattle.aff_top.specs.Texts.{IsRunText}

told_at : {D : Type 0} (case : Option Content) (content : D → Option Content) (xs : List D) → IfSome case (λ c. All (λ d. content d ≡ Some c) xs) → (k : ℕ) (d : D) → k < length xs
    → IfSome case (λ c. content (get_or xs k d) ≡ Some c)
told_at None content xs told k d low = tt
told_at (Some c) content xs told k d low = told k d low

module _ {D : Type 0} (f : D → ShownDevice) where
  -- the first device is the one that fits
  pub block_is : (xs : List D) (fit : IsFit (map f xs)) (n : ℕ) → ((d : D) → n ≡ (f (get_or xs 0 d)).block) → n ≡ fit.device.block
  block_is [] fit n is = absurd (omega (arith, ap length fit.are))
  block_is (x ∷ xs) fit n is = is x ∙ ap (λ v. (get_or v 0 (f x)).block) fit.are

  pub size_is : (xs : List D) (fit : IsFit (map f xs)) (n : ℕ) → ((d : D) → n ≡ (f (get_or xs 0 d)).size) → n ≡ fit.device.size
  size_is [] fit n is = absurd (omega (arith, ap length fit.are))
  size_is (x ∷ xs) fit n is = is x ∙ ap (λ v. (get_or v 0 (f x)).size) fit.are

  -- there are some of them, and not too many
  pub some_devices : (xs : List D) → IsFit (map f xs) → (0 < length xs) × (length xs ≤ 16)
  some_devices xs fit = (omega (arith, ap length fit.are, length-map xs f), omega (arith, fit.few, length-map xs f))

  -- each is one of the plan
  pub all_fit : (case : Option Content) (plan : Planned) (xs : List D) (fit : IsFit (map f xs)) → plan.size ≡ fit.device.size → plan.block ≡ fit.device.block
      → IfSome case (λ c. All (λ d. (f d).content ≡ Some c) xs) → All (λ d. Fits case plan (λ d. (f d).content) (λ d. (f d).block) (λ d. (f d).size) d) xs
  all_fit case plan xs fit size block told = λ k d low.
      let there : k < length (map f xs) = omega (arith, low, length-map xs f) in
      let like = subst (λ e. AreAlike e fit.device) (get_or-map f xs k d (f d) low) (fit.alike k (f d) there) in
      record { is_size = like.sizes ∙ sym size; is_block = like.blocks ∙ sym block; told = told_at case (λ d. (f d).content) xs told k d low }

-- a plan and a script of a text for the devices
pub planned_for : (devices : List ShownDevice) (fit : IsFit devices) (left : Option (List ℕ)) (plan : Planned) (script : Script) (size block : ℕ) → size ≡ fit.device.size → block ≡ fit.device.block
    → plan.size ≡ size → plan.block ≡ block → IsPlan size block plan.extents → IsScript size script → IfSome left (IsRunText size block plan.extents script) → IsPlanned devices left plan script
planned_for devices fit left plan script size block size_is block_is is_size is_block is_plan is_script is_text = record {
  fit = fit;
  size = is_size ∙ size_is;
  block = is_block ∙ block_is;
  is_plan = subst₂ (λ s b. IsPlan s b plan.extents) (sym is_size) (sym is_block) is_plan;
  is_script = subst (λ s. IsScript s script) (sym is_size) is_script;
  is_text = subst₂ (λ s b. IfSome left (IsRunText s b plan.extents script)) (sym is_size) (sym is_block) is_text;
}
