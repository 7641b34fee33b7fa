use Rattle.std.proofs.Common.{◌≡◌, ◌+◌, ◌/◌, length, refl, ap, sym, ◌∙◌}
use Rattle.aff_model.specs.declared.limits.TheConstants.{SECTOR}
use Rattle.aff_memory.specs.declared.block_size.BlockSize.TheVariants.{Sector}
use Rattle.aff_memory.specs.Flaked.{still_fails}
use Rattle.aff_memory.proofs.Sectors.{touched}
use Rattle.aff_memory.proofs.Worn.{content_kept, listed, worn_items}
use Rattle.aff_memory.proofs.flaky_device.FlakyDeviceDevice.read_at.Goals as goal

pub returns-then-fails-clause-weak : goal.returns-then-fails-clause-weak
returns-then-fails-clause-weak c =
    let own : c.deref.result.now ≡ c.args.self.now.flaky = c.deref.ensures.value ∙ ap (λ v. v.flaky) c.self.view_is in
    touched Sector _ _ _ _ _ _ refl refl refl c.requires.whole
    (listed (c.args.at / SECTOR) ((c.args.at + length c.args.out.now) / SECTOR) c.args.self.now.flaky
    (ap (still_fails (c.args.at / SECTOR) ((c.args.at + length c.args.out.now) / SECTOR)) (sym own) ∙ sym c.any_fails-fails.ensures ∙ c.if-fails.true))

pub returns-then-fails-clause-content : goal.returns-then-fails-clause-content
returns-then-fails-clause-content c =
    content_kept (c.args.at / SECTOR) ((c.args.at + length c.args.out.now) / SECTOR) _ _ _ _ (ap (λ v. v.bytes) c.self.view_is)
    (worn_items (c.args.at / SECTOR) ((c.args.at + length c.args.out.now) / SECTOR) _ _ _ _ _ c.deref_mut.ensures.value c.deref_mut.ensures.len c.wear_all.ensures (ap (λ v. v.flaky) c.self.view_is))

pub returns-clause-content : goal.returns-clause-content
returns-clause-content c =
    content_kept (c.args.at / SECTOR) ((c.args.at + length c.args.out.now) / SECTOR) _ _ _ _ (ap (λ v. v.bytes) c.self.view_is)
    (worn_items (c.args.at / SECTOR) ((c.args.at + length c.args.out.now) / SECTOR) _ _ _ _ _ c.deref_mut.ensures.value c.deref_mut.ensures.len c.wear_all.ensures (ap (λ v. v.flaky) c.self.view_is))
