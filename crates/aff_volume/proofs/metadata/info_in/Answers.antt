use Rattle.std.proofs.Common.{sym, subst}
use Rattle.aff_info.specs.Reading.{IsError, IsInfo}
use Rattle.aff_volume.specs.Listing.{IsOfList}
use Rattle.aff_volume.specs.Refusals.{IsVolumeRefused}
use Rattle.aff_volume.proofs.Fits.{info_fits}
use Rattle.aff_volume.proofs.Refused.{info_of_list, info_refused, text_refused, turtle_of_list}
use Rattle.aff_volume.proofs.metadata.info_in.Goals as goal

pub returns-in-Err-clause-refused : goal.returns-in-Err-clause-refused
returns-in-Err-clause-refused c = λ held there. subst (IsVolumeRefused held) (sym c.of_turtle.ensures) (text_refused held c.args.text.now c.in-Err.error there c.in-Err.ensures.refused)

pub returns-in-Err-clause-early : goal.returns-in-Err-clause-early
returns-in-Err-clause-early c = subst IsOfList (sym c.of_turtle.ensures) (turtle_of_list c.in-Err.error)

pub returns-in-Ok-of_triples-clause-stated : goal.returns-in-Ok-of_triples-clause-stated
returns-in-Ok-of_triples-clause-stated c = record {
  facts = c.in-Ok.triples.items;
  turtle = c.in-Ok.ensures.found;
  stated = subst (λ fs. IsInfo fs c.in-Ok-of_triples.found) c.as_slice-facts.ensures.value c.in-Ok-of_triples.ensures.found;
}

pub returns-in-Ok-of_triples-clause-fit : goal.returns-in-Ok-of_triples-clause-fit
returns-in-Ok-of_triples-clause-fit c = info_fits c.as_slice-facts.result.now c.in-Ok-of_triples.found c.in-Ok-of_triples.ensures.found

pub returns-clause-refused : goal.returns-clause-refused
returns-clause-refused c = λ held there.
    subst (IsVolumeRefused held) (sym c.of_info.ensures)
    (info_refused held c.args.text.now c.in-Ok.triples.items c.in-Err-of_triples.error there c.in-Ok.ensures.found (subst (λ fs. IsError fs c.in-Err-of_triples.error) c.as_slice-facts.ensures.value c.in-Err-of_triples.ensures.refused))

pub returns-clause-early : goal.returns-clause-early
returns-clause-early c = subst IsOfList (sym c.of_info.ensures) (info_of_list c.in-Err-of_triples.error)
