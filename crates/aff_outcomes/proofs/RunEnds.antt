-- What each status of a run leaves in its folder.
use Rattle.std.proofs.Common.{◌≡◌, ℕ, ◌≤◌, true, List, [], ◌∷◌, length, refl, sym, ap, subst, ◌∙◌, inl, inr}
use Rattle.std.specs.Prelude.{None, Some, IsTrue}
use Rattle.std.specs.FinMap.{empty, get}
use Rattle.aff_model.specs.declared.limits.TheConstants.{MAX_SIZE}
use Rattle.aff_model.specs.Held.{Held}
use Rattle.aff_model.specs.Plan.{Planned}
use Rattle.aff_model.proofs.HeldLaws.{get_of_empty}
use Rattle.aff_spec.specs.Words.{is_uuid}
use Rattle.aff_spec.proofs.Members.{Contains-cases, Contains-none}
use Rattle.aff_image.specs.Asked.{Asked}
use Rattle.aff_image.specs.Image.{Image}
use Rattle.aff_command.specs.CommandLine.{AreAcquire, uuid_of}
use Rattle.aff_finish.specs.Container.{information_name}
use Rattle.aff_finish.specs.Finished.{IsFinished}
use Rattle.aff_finish.specs.declared.hashes.Hashes.{Hashes}
use Rattle.aff_finished.specs.Laws as finished
use Rattle.aff_finished.specs.Left.{IsAsked, IsLeftBy}
use Rattle.aff_volume.specs.Opened.{IsVolumeOf, Opened}
use Rattle.aff_run.specs.Ends.{asked}
use Rattle.aff_top.specs.Outcomes.{Facts, Output, Request, Script, IsDone, IsOutcome, IsPartlyDone, IsPlanned, IsUnanswered, Leaves, Status, done, usage, text, source, sink, folder, memory, occupied, damaged, devices, other, status_at}
use Rattle.aff_outcomes.specs.Runs.{IsIntoEmpty, IsLeftOfRun, IsVolumeOfRun, IsWholeEnd}

-- the third word of an acquisition is a uuid
named : (words : List (List ℕ)) → AreAcquire words → is_uuid (uuid_of words) ≡ true
named words are = ap (λ ws. is_uuid (uuid_of ws)) are.1.are ∙ are.1.uuid_is

module _ (F S D R : Type 0) (ask : Request R) (old new : Facts F S D) where
  -- what the run was asked for
  abbrev of_plan : Planned → Asked
  of_plan plan = asked (uuid_of ask.words) plan (length old.devices) (length old.examiners)

  module _ (words : AreAcquire ask.words) (told : IsTrue ask.tells) where
    accepted : (plan : Planned) (script : Script) → IsPlanned old.devices old.left plan script → IsAsked ask.tells (of_plan plan)
    accepted plan script planned = record {
      is_plan = planned.is_plan;
      small = subst (λ n. n ≤ MAX_SIZE) (sym planned.size) planned.fit.accepted.bounded;
      uuid = named ask.words words;
      told = told;
    }

    volume : (plan : Planned) (script : Script) → IsPlanned old.devices old.left plan script → (m : Image) (h : Hashes) (held : Held) → IsFinished ask.case ask.tells (of_plan plan) m held h → IsVolumeOfRun ask old held
    volume plan script planned m h held finished = record {
      asked = of_plan plan;
      uuid = refl;
      workers = refl;
      examiners = refl;
      script = script;
      planned = planned;
      accepted = accepted plan script planned;
      image = m;
      hashes = h;
      finished = finished;
    }

    of_done : (report : List ℕ) → IsDone ask old new report → IsVolumeOfRun ask old new.held
    of_done report is = volume is.plan is.script is.planned is.run.acquired.image is.run.hashes new.held is.run.acquired.finished

    of_unanswered : IsUnanswered ask old new → IsVolumeOfRun ask old new.held
    of_unanswered is = volume is.plan is.script is.planned is.left.image is.left.hashes new.held is.left.finished

    pub in_full : IsVolumeOfRun ask old new.held → IsLeftOfRun ask old new.held
    in_full is = record { last = new.held; volume = is; full = inl refl }

    -- ---- whatever the end

    module _ (opens : finished.OpensInFull) (free : old.held ≡ empty) (v : Opened) (is : IsVolumeOf new.held v) where
      -- a folder without a segment has no volume
      not_free : new.held ≡ old.held → ⊥
      not_free same =
          let none : None ≡ Some is.whole.named.text = sym (ap (λ g. get g information_name) (same ∙ free) ∙ get_of_empty information_name) ∙ is.whole.named.there in
          cc

      of_part : IsPartlyDone ask old new → IsLeftOfRun ask old new.held
      of_part part =
          let found = opens ask.case ask.tells (of_plan part.plan) part.cut_off.image new.held (record { ask = accepted part.plan part.script part.planned; stopped = part.cut_off.stopped }) v is in
          record {
            last = found.1.last;
            volume = volume part.plan part.script part.planned part.cut_off.image found.0 found.1.last found.1.finished;
            full = found.1.full;
          }

      pub opened : (s : Status) (report : List ℕ) → Leaves s ask old new report → IsLeftOfRun ask old new.held
      opened done report leaves = in_full (of_done report leaves.1)
      opened usage report leaves = absurd (not_free (ap (λ (f : Facts F S D). f.held) leaves.1))
      opened text report leaves = absurd (not_free (leaves.2.held told))
      opened source report leaves = absurd (not_free (leaves.2.held told))
      opened sink report leaves = in_full (of_done report leaves.1)
      opened folder report leaves = elim leaves.1 [
        | inl failed ↦ elim failed.1 [ inl untouched ↦ absurd (not_free (untouched.0.held told)) | inr part ↦ of_part part.1 ]
        | inr peeked ↦ in_full (of_unanswered peeked.2)
      ]
      opened memory report leaves = elim leaves [
        | inl same ↦ absurd (not_free (same told))
        | inr more ↦ elim more [
          | inl part ↦ of_part part
          | inr rest ↦ elim rest [ inl unanswered ↦ in_full (of_unanswered unanswered) | inr all ↦ in_full (of_done all.0 all.1) ]
        ]
      ]
      opened occupied report leaves = absurd (not_free (leaves.2.held told))
      opened damaged report leaves = in_full (of_unanswered leaves.1)
      opened devices report leaves = absurd (not_free (ap (λ (f : Facts F S D). f.held) leaves.2))
      opened other report leaves = absurd leaves

  -- ---- behind the last append

  module _ (status : ℕ) (report : List ℕ) (leaves : Leaves (status_at status) ask old new report) where
    at : (n : ℕ) → n ≡ status → Leaves (status_at n) ask old new report
    at n is = subst (λ k. Leaves (status_at k) ask old new report) (sym is) leaves

    pub whole_end : IsWholeEnd old new status → IsTrue ask.tells → IsVolumeOfRun ask old new.held
    whole_end (inl listed) told = elim (Contains-cases 0 (5 ∷ 9 ∷ []) status listed) [
      | inl zero_is ↦ let l = at 0 zero_is in of_done l.0.taken.words told report l.1
      | inr more ↦ elim (Contains-cases 5 (9 ∷ []) status more) [
        | inl five ↦ let l = at 5 five in of_done l.0.taken.words told report l.1
        | inr rest ↦ elim (Contains-cases 9 [] status rest) [
          | inl nine ↦ let l = at 9 nine in of_unanswered l.0.taken.words told l.1
          | inr none ↦ absurd (Contains-none status none)
        ]
      ]
    ]
    whole_end (inr six) told =
        let l = at 6 (sym six.0) in
        elim l.1 [ inl failed ↦ absurd (six.1 failed.0) | inr peeked ↦ of_unanswered l.0.words told peeked.2 ]

pub whole : (F S D R : Type 0) (ask : Request R) (old new : Facts F S D) (before after : Output) (status : ℕ) → IsOutcome ask old new before after status → IsWholeEnd old new status → IsTrue ask.tells → IsVolumeOfRun ask old new.held
whole F S D R ask old new before after status is end told = whole_end F S D R ask old new status is.report is.leaves end told

pub opens : (F S D R : Type 0) → finished.OpensInFull → (ask : Request R) (old new : Facts F S D) (before after : Output) (status : ℕ) → IsOutcome ask old new before after status
    → IsIntoEmpty ask old → (v : Opened) → IsVolumeOf new.held v → IsLeftOfRun ask old new.held
opens F S D R law ask old new before after status is into v volume_is = opened F S D R ask old new into.words into.told law into.free v volume_is (status_at status) is.report is.leaves

-- what was left in full was left by the run
pub left_by : (F S D R : Type 0) (ask : Request R) (old : Facts F S D) (held : Held) → (run : IsLeftOfRun ask old held) → IsLeftBy ask.case ask.tells run.volume.asked run.volume.image held run.volume.hashes
left_by F S D R ask old held run = record { ask = run.volume.accepted; last = run.last; finished = run.volume.finished; full = run.full }
