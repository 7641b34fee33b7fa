-- How each status comes of a command over a finished volume.
use Rattle.std.proofs.Common.{◌≡◌, ℕ, true, List, refl, ap, subst, ◌∙◌, arith, inl, inr}
use Rattle.std.specs.Prelude.{Bool, Option}
use Rattle.aff_model.specs.Causes.{Rose}
use Rattle.aff_model.specs.Content.{Content}
use Rattle.aff_model.specs.Held.{Held}
use Rattle.aff_command.specs.Finished.{AreOffline}
use Rattle.aff_command.specs.declared.wanted.Offline.{Offline}
use Rattle.aff_command.specs.declared.wanted.Offline.TheVariants.{Read, Info, Verify}
use Rattle.aff_image.specs.Asked.{Asked}
use Rattle.aff_image.specs.Image.{Image}
use Rattle.aff_info.specs.declared.info.Info.{Info as InfoOf}
use Rattle.aff_finish.specs.declared.hashes.Hashes.{Hashes}
use Rattle.aff_verify.specs.declared.finding.Verdict.TheVariants.{Sound, Unsound}
use Rattle.aff_finished.specs.Left.{IsLeftBy}
use Rattle.aff_finished.specs.Laws.{IsNowhereDamaged, IsRefusedForNothing, IsSoundThroughout, ReadsAsAcquired, SaysTheSame}
use Rattle.aff_verify.specs.declared.finding.Finding.{Finding}
use Rattle.aff_volume.specs.Refusals.{IsVolumeRefused}
use Rattle.aff_offline.specs.Answered.{IsAnswer, IsDamageOf, IsFindingOf, IsRange, IsRangeFault, IsRangeOf, ShownFolder}
use Rattle.aff_offline.specs.InfoText.{info_text}
use Rattle.aff_offline.specs.Outcomes.{Asks, Comes, IsOfflineOutcome, Status, Writes, status_at, done, usage, range, sink, folder, memory, volume, unsound, other}
use Rattle.aff_offline.specs.Written.{ShownSink}
use Rattle.aff_offline.specs.declared.fault.RangeFault.{RangeFault}
use Rattle.aff_offline.specs.declared.fault.RangeFault.TheVariants.{TooLong, PastEnd}
use Rattle.aff_outcomes.specs.Answers.{IsAnswerOf, IsAnsweredOf, IsBadRange}
use Rattle.aff_outcomes.proofs.Codes.{IsCode, code_is}

-- what is asked, with what follows of it
asks_more : (words : List (List ℕ)) (P Q : Offline → Type 0) → ((asked : Offline) → P asked → Q asked) → Asks words P → Asks words Q
asks_more words P Q more is = record { asked = is.asked; by_words = is.by_words; is = more is.asked is.is }

module _ (says : SaysTheSame) (sound : IsSoundThroughout) (reads : ReadsAsAcquired) (nowhere : IsNowhereDamaged) (unrefused : IsRefusedForNothing)
    (case : Option Content) (tells : Bool) (ask : Asked) (m : Image) (held : Held) (h : Hashes) (left : IsLeftBy case tells ask m held h) where
  -- ---- what is answered

  answer : (asked : Offline) (text : List ℕ) → IsAnswer true held asked text → IsAnswerOf ask.uuid m h asked text
  answer (Read at len) text is = (is.count, reads case tells ask m held h left is.volume (is.opened refl) at text (is.are refl))
  answer Info text is =
      let same = says case tells ask m held h left is.volume (is.opened refl) in
      is.says ∙ (λ i. info_text (same.0 i) (same.1 i))
  answer Verify text is = is.0

  -- ---- what is refused

  bad : (size at len : ℕ) (why : RangeFault) → IsRangeFault size at len why → ¬ (IsRange size at len)
  bad size at len TooLong fault ok = omega (arith, fault, ok.short)
  bad size at len PastEnd fault ok = omega (arith, fault.1, ok.inside)

  bad_range : (why : RangeFault) (asked : Offline) → IsRangeOf true held why asked → IsBadRange m asked
  bad_range why (Read at len) is =
      let same : is.volume.info.image_size ≡ m.plan.size = ap (λ (i : InfoOf). i.image_size) (says case tells ask m held h left is.volume (is.opened refl)).0 in
      bad m.plan.size at len why (subst (λ size. IsRangeFault size at len why) same is.why_is)
  bad_range why Info is = is
  bad_range why Verify is = is

  no_damage : (chunk : ℕ) (recorded found : List ℕ) (asked : Offline) → IsDamageOf true held chunk recorded found asked → ⊥
  no_damage chunk recorded found (Read at len) is = nowhere case tells ask m held h left is.volume (is.opened refl) at len chunk recorded found (is.first refl)
  no_damage chunk recorded found Info is = is
  no_damage chunk recorded found Verify is = is

  no_finding : (finding : Finding) (asked : Offline) → IsFindingOf true held finding asked → ⊥
  no_finding finding (Read at len) is = is
  no_finding finding Info is = is
  no_finding finding Verify is =
      let found = is refl in
      let same : Unsound finding ≡ Sound = (sound case tells ask m held h left found.volume found.opened).1 (Unsound finding) found.first in
      absurd cc

  module _ (words : List (List ℕ)) (old new : ShownFolder) (before after : ShownSink) (are : AreOffline words) (same : old.held ≡ held)
      (still : ¬ (Rose old.faults new.faults)) (calm : ¬ (Rose before.faults after.faults)) where
    -- ---- by the status

    by_status : (status : ℕ) (s : Status) (text : List ℕ) → status_at status ≡ s → Comes s words true old new text → Writes s before after text → IsAnsweredOf ask.uuid m h words before after status
    by_status status done text at comes writes =
        inl (subst (λ s. IsCode s status) at (code_is status), (text, asks_more words (λ asked. IsAnswer true old.held asked text) (λ asked. IsAnswerOf ask.uuid m h asked text) (λ asked is. answer asked text (subst (λ g. IsAnswer true g asked text) same is)) comes, writes))
    by_status status usage text at comes writes = absurd (comes.0 are)
    by_status status range text at comes writes =
        inr (inl (subst (λ s. IsCode s status) at (code_is status), asks_more words (IsRangeOf true old.held comes.why) (IsBadRange m) (λ asked is. bad_range comes.why asked (subst (λ g. IsRangeOf true g comes.why asked) same is)) comes.refused))
    by_status status sink text at comes writes = absurd (calm writes.rose)
    by_status status folder text at comes writes = absurd (still comes.1)
    by_status status memory text at comes writes = inr (inr (subst (λ s. IsCode s status) at (code_is status)))
    by_status status volume text at comes writes =
        absurd (comes.refused.is.named (unrefused case tells ask m held h left comes.why (subst (λ g. IsVolumeRefused g comes.why) same (comes.refused.is.refused refl))))
    by_status status unsound text at (inl line) writes =
        absurd (no_damage line.chunk line.recorded line.found line.damaged.asked (subst (λ g. IsDamageOf true g line.chunk line.recorded line.found line.damaged.asked) same line.damaged.is))
    by_status status unsound text at (inr line) writes =
        absurd (no_finding line.finding line.found.asked (subst (λ g. IsFindingOf true g line.finding line.found.asked) same line.found.is))
    by_status status other text at comes writes = absurd comes

    pub answered : (status : ℕ) → IsOfflineOutcome words true old new before after status → IsAnsweredOf ask.uuid m h words before after status
    answered status is = by_status status (status_at status) is.text refl is.comes is.writes
