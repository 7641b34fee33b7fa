-- The image of some readings, and what is appended behind their chunks.
use Rattle.std.proofs.Common.{◌≡◌, ℕ, List, ◌++◌, refl, sym, ap, ◌∙◌, append_assoc}
use Rattle.std.specs.Prelude.{Option}
use Rattle.aff_model.specs.Content.{Content}
use Rattle.aff_model.specs.Held.{Held}
use Rattle.aff_model.specs.Plan.{Planned, IsPlan}
use Rattle.aff_fields.specs.declared.entry.Entry.{Entry}
use Rattle.aff_spec.specs.Acquired.{end_appends, map_appends, volume_appends}
use Rattle.aff_spec.specs.Appends.{applied}
use Rattle.aff_spec.specs.Bevvies.{ending, written}
use Rattle.aff_spec.specs.Names.{stream_urn}
use Rattle.aff_spec.proofs.Appends.{applied-append}
use Rattle.aff_spec.proofs.Bevvies.{written-ending}
use Rattle.aff_image.specs.Image.{Image, IsImageBy}
use Rattle.aff_image.specs.Witnesses.{Witnessed, AreWitnessed, history_of, kept_chunks}
use Rattle.aff_image.proofs.Contents.{one_content}
use Rattle.aff_image.proofs.Images.{image_of, is_image}

-- the readings make an image, whatever the devices tell
pub readings_image : (case : Option Content) (plan : Planned) (workers : ℕ) (readings : List Witnessed) → IsPlan plan.size plan.block plan.extents → AreWitnessed case plan workers readings
    → (m : Image) × (m.plan ≡ plan) × (m.history ≡ history_of readings) × (m.chunks ≡ kept_chunks readings) × IsImageBy case workers m
readings_image case plan workers readings is_plan are =
    let one = one_content case plan workers readings is_plan are in
    (image_of one.content plan readings, refl, refl, refl, is_image case one.content plan workers readings is_plan one.is_case one.are)

-- what is written and what is left are the whole volume
pub written-end : (uuid : List ℕ) (chunks : List (List ℕ)) (entries : List Entry) → written (stream_urn uuid) chunks ++ end_appends uuid chunks entries ≡ volume_appends uuid chunks entries
written-end uuid chunks entries =
    sym (append_assoc (written (stream_urn uuid) chunks) (ending (stream_urn uuid) chunks) (map_appends uuid entries))
    ∙ ap (λ v. v ++ map_appends uuid entries) (written-ending (stream_urn uuid) chunks)

-- all of what is left was appended
pub made-end : (uuid : List ℕ) (chunks : List (List ℕ)) (entries : List Entry) (old held new : Held) → held ≡ applied old (written (stream_urn uuid) chunks)
    → new ≡ applied held (end_appends uuid chunks entries) → new ≡ applied old (volume_appends uuid chunks entries)
made-end uuid chunks entries old held new before now =
    now ∙ ap (λ h. applied h (end_appends uuid chunks entries)) before
    ∙ sym (applied-append old (written (stream_urn uuid) chunks) (end_appends uuid chunks entries))
    ∙ ap (applied old) (written-end uuid chunks entries)
