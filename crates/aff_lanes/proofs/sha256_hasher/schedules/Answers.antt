use Rattle.std.proofs.Common.{◌≡◌, ℕ, List, [], ◌+◌, ◌*◌, ap, sym, ◌∙◌, inl, inr, arith, slice_index}
use Rattle.std.proofs.lemmas.Bool.{cases_lt}
use Rattle.std.proofs.lemmas.List.{get_or-set_same, get_or-set_other, length-set}
use Rattle.sha2.specs.Sha256.{add32, round_constants, schedule}
use Rattle.sha2.proofs.Schedule256.{IsWindow_first, slice_index-schedule_first}
use Rattle.aff_lanes.specs.Lanes.{words}
use Rattle.aff_lanes.specs.Messages.{text}
use Rattle.aff_lanes.proofs.Lanes.{length-words, slice_index-words}
use Rattle.aff_lanes.proofs.Groups.{both_at, more_words}
use Rattle.aff_lanes.proofs.sha256_hasher.schedules.Goals as goal

pub words_be-x-requires : goal.words_be-x-requires
words_be-x-requires c = λ k d low. omega (arith, c.requires k d low)

pub load-preserved : goal.load-preserved
load-preserved c =
    let t = c.load.t in
    let x = c.words_be-x.result in (
      length-set c.load.w t x ∙ c.load.invariant.0,
      λ j low k lt. elim (cases_lt k t) [
        | inl under ↦ ap (λ (v : List ℕ). slice_index v j) (get_or-set_other c.load.w t k x [] (omega arith)) ∙ c.load.invariant.1 j low k under
        | inr over ↦
            let e : t ≡ k = omega arith in
            rw (← e) (ap (λ (v : List ℕ). slice_index v j) (get_or-set_same c.load.w t x [] (omega arith)) ∙ c.words_be-x.ensures j low)
      ],
      λ j low.
          let block = text c.args.blocks.now j in
          let word : slice_index x j ≡ slice_index (schedule block 48) t = c.words_be-x.ensures j low ∙ sym (slice_index-schedule_first block 48 t (omega arith)) in
          more_words c.load.flat c.put.new.flat block j t (t + 1) low (c.load.invariant.2 j low) (omega arith)
          (c.put.ensures.at j low ∙ ap (λ (n : ℕ). add32 n (slice_index round_constants t)) word) c.put.ensures.below,
    )

pub schedule-init : goal.schedule-init
schedule-init c = λ j low.
    let block = text c.args.blocks.now j in
    let done : c.load.t ≡ 16 = omega arith in (
      IsWindow_first block (words j c.load.w) (length-words c.load.w j ∙ c.load.invariant.0)
          (λ k lt. slice_index-words c.load.w j k ∙ c.load.invariant.1 j low k (omega arith)),
      rw done at (c.load.invariant.2 j low),
    )

pub schedule-preserved : goal.schedule-preserved
schedule-preserved c = λ j low.
    let b = text c.args.blocks.now j in
    let s0 = both_at _ _ b j _ _ (omega arith) (c.schedule.invariant j low) in
    let s1 = c.next_four.ensures j low b s0.0 s0.1 in
    let s2 = c.next_four-in-schedule.ensures j low b s1.0 s1.1 in
    let s3 = c.next_four-in-schedule-2.ensures j low b s2.0 s2.1 in
    let s4 = c.next_four-in-schedule-3.ensures j low b s3.0 s3.1 in
    both_at _ _ b j _ _ (omega arith) s4

pub returns : goal.returns
returns c = λ j low.
    let done : 16 * c.schedule.turn ≡ 64 = omega (arith, c.schedule.auto.turn-end (omega arith)) in
    rw done at ((c.schedule.invariant j low).1)
