-- Commands over a whole volume.
use Rattle.std.proofs.Common.{ℕ, true, List, length, refl, sym, ap, subst, ◌∙◌, inl, inr, arith}
use Rattle.std.specs.Prelude.{codes}
use Rattle.aff_model.specs.Held.{Held}
use Rattle.aff_command.specs.Finished.{IsOfFolder, IsOffline, IsRead}
use Rattle.aff_command.specs.declared.wanted.Offline.{Offline}
use Rattle.aff_command.specs.declared.wanted.Offline.TheVariants.{Read, Info, Verify}
use Rattle.aff_info.specs.Found.{Found}
use Rattle.aff_info.specs.declared.info.Info.{Info as InfoOf}
use Rattle.aff_verify.specs.Verdicts.{IsAgreement, IsFirstFinding}
use Rattle.aff_verify.specs.declared.finding.Finding.{Finding}
use Rattle.aff_verify.specs.declared.finding.Finding.TheVariants.{Block, Linear, BlockMap}
use Rattle.aff_volume.specs.Opened.{IsWholeVolume}
use Rattle.aff_volume.proofs.Refused.{one_named, whole_refused}
use Rattle.aff_offline.specs.Answered.{IsDamageOf, IsFindingOf, IsRangeOf, ShownFolder}
use Rattle.aff_offline.specs.Laws.{IsFoundSound, IsTaken}
use Rattle.aff_offline.specs.Outcomes.{IsOfflineOutcome, IsVolumeLine}
use Rattle.aff_offline.specs.declared.fault.RangeFault.{RangeFault}

not_refused : (words : List (List ℕ)) (old : ShownFolder) (found : Found) (line : List ℕ) → IsWholeVolume old.held found → ¬ (IsVolumeLine words true old line)
not_refused words old found line whole is = is.refused.is.named (whole_refused old.held found is.why whole (is.refused.is.refused refl))

pub is_taken : IsTaken
is_taken words old new before after status found are whole still outcome = (
  λ is. let at_usage = subst (IsOfflineOutcome words true old new before after) is outcome in at_usage.comes.0 are,
  λ is. let at_folder = subst (IsOfflineOutcome words true old new before after) is outcome in still at_folder.comes.1,
  λ is. let at_volume = subst (IsOfflineOutcome words true old new before after) is outcome in not_refused words old found at_volume.text whole at_volume.comes,
)

-- words of four are no words of two
other_words : (at len : ℕ) (command : List ℕ) (words : List (List ℕ)) → IsRead at len words → IsOfFolder command words → ⊥
other_words at len command words four two = absurd (omega (arith, ap length (sym four.are ∙ two.are)))

no_range : (words : List (List ℕ)) (held : Held) (why : RangeFault) (asked : Offline) → IsOffline asked words → IsOffline Verify words → ¬ (IsRangeOf true held why asked)
no_range words held why (Read at len) four two is = other_words at len (codes "verify") words four two
no_range words held why Info asked two is = is
no_range words held why Verify asked two is = is

no_damage : (words : List (List ℕ)) (held : Held) (chunk : ℕ) (recorded found : List ℕ) (asked : Offline) → IsOffline asked words → IsOffline Verify words → ¬ (IsDamageOf true held chunk recorded found asked)
no_damage words held chunk recorded found (Read at len) four two is = other_words at len (codes "verify") words four two
no_damage words held chunk recorded found Info asked two is = is
no_damage words held chunk recorded found Verify asked two is = is

-- where all agrees nothing is found
no_first : (held : Held) (info : InfoOf) → IsAgreement held info → (finding : Finding) → ¬ (IsFirstFinding held info finding)
no_first held info agrees (Block kind c recorded found) is = is.first.difference.differ (agrees.blocks c is.there found.kind is.first.kept)
no_first held info agrees (Linear kind recorded found) is = is.differ (agrees.linear kind)
no_first held info agrees (BlockMap recorded found) is = is.differ agrees.block_map

no_finding : (held : Held) (found : Found) → IsWholeVolume held found → IsAgreement held found.info → (finding : Finding) (asked : Offline) → ¬ (IsFindingOf true held finding asked)
no_finding held found whole agrees finding (Read at len) is = is
no_finding held found whole agrees finding Info is = is
no_finding held found whole agrees finding Verify is =
    let unsound = is refl in
    let same = ap (λ f. f.info) (one_named held found _ whole.named unsound.opened.whole.named) in
    no_first held unsound.volume.info (subst (IsAgreement held) same agrees) finding unsound.first

pub is_found_sound : IsFoundSound
is_found_sound words old new before after status found verify whole agrees outcome = (
  λ is.
      let at_range = subst (IsOfflineOutcome words true old new before after) is outcome in
      let line = at_range.comes in
      no_range words old.held line.why line.refused.asked line.refused.by_words verify line.refused.is,
  λ is.
      let at_unsound = subst (IsOfflineOutcome words true old new before after) is outcome in
      elim at_unsound.comes [
        | inl line ↦ no_damage words old.held line.chunk line.recorded line.found line.damaged.asked line.damaged.by_words verify line.damaged.is
        | inr line ↦ no_finding old.held found whole agrees line.finding line.found.asked line.found.is
      ],
)
