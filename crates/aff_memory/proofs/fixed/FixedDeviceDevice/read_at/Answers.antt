use Rattle.std.proofs.Common.{Some, ap, refl, sym, ◌∙◌}
use Rattle.aff_memory.specs.BlockSizes.{block_bytes}
use Rattle.aff_memory.specs.Fixed.{fixed_content}
use Rattle.aff_memory.proofs.Sectors.{touched, untouched}
use Rattle.aff_memory.proofs.fixed.FixedDeviceDevice.read_at.Goals as goal

pub returns-then-touches-clause-weak : goal.returns-then-touches-clause-weak
returns-then-touches-clause-weak c =
    touched _ _ _ _ _ _ _ (c.deref.ensures.value ∙ ap (λ v. v.bad) c.self.view_is) (c.bytes-block.ensures ∙ ap (λ v. block_bytes v.size) c.self.view_is) refl
    c.requires.whole (sym c.touches.ensures ∙ c.if-touches.true)

pub returns-then-touches-clause-content : goal.returns-then-touches-clause-content
returns-then-touches-clause-content c = ap (λ v. Some (fixed_content v)) c.self.view_is

pub returns-clause-good : goal.returns-clause-good
returns-clause-good c =
    untouched _ _ _ _ _ _ _ (c.deref.ensures.value ∙ ap (λ v. v.bad) c.self.view_is) (c.bytes-block.ensures ∙ ap (λ v. block_bytes v.size) c.self.view_is) refl
    c.requires.whole c.requires.whole_len (sym c.touches.ensures ∙ c.if-touches.false)
