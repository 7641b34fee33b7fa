use Rattle.std.proofs.Common.{◌≡◌, ◌∙◌, sym, subst, All, AllPairs}
use Rattle.std.specs.Prelude.{MatchOption}
use Rattle.aff_map.specs.Mapped.{AreApart, HasBytes, IsEntry}
use Rattle.aff_map.specs.Refusals.{IsFirstOverlap}
use Rattle.aff_map.proofs.Overlaps.{has_bytes}
use Rattle.aff_map.proofs.Reading.{is_sound, line_fault, overlap_fault, own_fault, ragged_fault}
use Rattle.aff_map.proofs.map.read.Goals as goal

pub returns-in-Err-clause-refused : goal.returns-in-Err-clause-refused
returns-in-Err-clause-refused c other =
    ragged_fault c.args.map.now c.args.idx.now c.args.size c.args.stream.now c.args.stream_size c.in-Err.fault (c.in-Err.ensures.refused other)

pub returns-in-Err-read_targets-clause-refused : goal.returns-in-Err-read_targets-clause-refused
returns-in-Err-read_targets-clause-refused c other =
    line_fault c.args.map.now c.args.idx.now c.args.size c.args.stream.now c.args.stream_size c.in-Ok.ensures.whole c.in-Err-read_targets.fault (c.in-Err-read_targets.ensures.refused other)

pub returns-in-Err-check_entries-clause-refused : goal.returns-in-Err-check_entries-clause-refused
returns-in-Err-check_entries-clause-refused c other =
    own_fault c.args.map.now c.args.idx.now c.args.size c.args.stream.now c.args.stream_size c.in-Ok.ensures.whole c.in-Ok-read_targets.ensures.named
    c.deref.result.now c.deref-2.result.now (c.deref.ensures.value ∙ c.in-Ok.ensures.entries) (c.deref-2.ensures.value ∙ c.in-Ok-read_targets.ensures.targets) c.in-Err-check_entries.fault c.in-Err-check_entries.ensures

pub first_overlap-requires : goal.first_overlap-requires
first_overlap-requires c =
    let same = c.deref-3.ensures.value ∙ sym c.deref.ensures.value in
    subst (All HasBytes) (sym same) (has_bytes c.args.size c.args.stream_size c.deref-2.result.now c.deref.result.now c.ranges.size.fits c.in_default.ensures)

pub returns-in-Some-clause-refused : goal.returns-in-Some-clause-refused
returns-in-Some-clause-refused c other =
    let same = c.deref-3.ensures.value ∙ sym c.deref.ensures.value in
    let es = c.deref-3.result.now in
    let overlap = subst (λ o. MatchOption o (AllPairs AreApart es) (λ p. IsFirstOverlap es p.0 p.1)) c.in-Some.is c.in_ok-earlier.ensures in
    overlap_fault c.args.map.now c.args.idx.now c.args.size c.args.stream.now c.args.stream_size c.in-Ok.ensures.whole c.in-Ok-read_targets.ensures.named
    c.deref.result.now c.deref-2.result.now (c.deref.ensures.value ∙ c.in-Ok.ensures.entries) (c.deref-2.ensures.value ∙ c.in-Ok-read_targets.ensures.targets) c.in_default.ensures c.in-Some.earlier c.in-Some.later
    (subst (λ v. IsFirstOverlap v c.in-Some.earlier c.in-Some.later) same overlap)

pub returns-clause-sound : goal.returns-clause-sound
returns-clause-sound c =
    let same = c.deref-3.ensures.value ∙ sym c.deref.ensures.value in
    let es = c.deref-3.result.now in
    let apart = subst (λ o. MatchOption o (AllPairs AreApart es) (λ p. IsFirstOverlap es p.0 p.1)) c.in_default-2.is c.in_ok-earlier.ensures in
    is_sound c.args.map.now c.args.idx.now c.args.size c.args.stream.now c.args.stream_size c.in-Ok.ensures.whole c.in-Ok-read_targets.ensures.named
    c.deref.result.now c.deref-2.result.now (c.deref.ensures.value ∙ c.in-Ok.ensures.entries) (c.deref-2.ensures.value ∙ c.in-Ok-read_targets.ensures.targets) c.in_default.ensures (subst (AllPairs AreApart) same apart)

pub invariant_of-result : goal.invariant_of-result
invariant_of-result c =
    let es = c.deref-3.result.now in
    let apart = subst (λ o. MatchOption o (AllPairs AreApart es) (λ p. IsFirstOverlap es p.0 p.1)) c.in_default-2.is c.in_ok-earlier.ensures in
    record {
      each = subst (λ v. All (IsEntry c.args.size c.args.stream_size v) c.in-Ok.entries.items) c.deref-2.ensures.value (subst (All (IsEntry c.args.size c.args.stream_size c.deref-2.result.now)) c.deref.ensures.value c.in_default.ensures);
      apart = subst (AllPairs AreApart) c.deref-3.ensures.value apart;
    }
