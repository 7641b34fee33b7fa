use Rattle.std.proofs.Common.{sym, subst}
use Rattle.aff_model.specs.Plan.{chunk_count}
use Rattle.aff_spec.specs.Bevvies.{bevvy_count}
use Rattle.aff_bevvy.specs.Faults.{IsListFault}
use Rattle.aff_bevvy.specs.Segments.{AreBevvies, HaveLengths, listed_length}
use Rattle.aff_bevvy.proofs.FirstFaults.{no_chunk_fault, no_list_fault}
use Rattle.aff_bevvy.proofs.Lengths.{listed_held}
use Rattle.aff_bevvy.proofs.reader.StreamReader.open.Goals as goal

pub returns-in-Err-clause-refused : goal.returns-in-Err-clause-refused
returns-in-Err-clause-refused g c = λ t. (
  subst (λ l. IsListFault l c.args.stream.now (chunk_count c.args.size) c.in-Err.fault) (listed_held (g.F.Folder.held c.args.folder.now) c.args.segments.now (c.requires.listed t)) (subst (λ n. IsListFault (listed_length c.args.segments.now) c.args.stream.now n c.in-Err.fault) c.count_chunks.ensures c.in-Err.ensures.fault),
  no_chunk_fault (g.F.Folder.held c.args.folder.now) c.args.stream.now c.args.size c.in-Err.fault c.in-Err.ensures.early,
)

pub check_chunks-requires-clause-bevvies : goal.check_chunks-requires-clause-bevvies
check_chunks-requires-clause-bevvies g c κs within = λ t.
    subst (λ l. AreBevvies l c.args.stream.now (chunk_count c.args.size)) (listed_held (g.F.Folder.held c.args.folder.now) c.args.segments.now (c.requires.listed t)) (subst (AreBevvies (listed_length c.args.segments.now) c.args.stream.now) c.count_chunks.ensures c.in-Ok.ensures.bevvies)

pub check_chunks-requires-clause-lengths : goal.check_chunks-requires-clause-lengths
check_chunks-requires-clause-lengths g c κs within = λ t.
    subst (λ l. HaveLengths l c.args.stream.now (bevvy_count (chunk_count c.args.size)) c.deref.result.now) (listed_held (g.F.Folder.held c.args.folder.now) c.args.segments.now (c.requires.listed t))
    (subst (λ n. HaveLengths (listed_length c.args.segments.now) c.args.stream.now (bevvy_count n) c.deref.result.now) c.count_chunks.ensures
    (subst (HaveLengths (listed_length c.args.segments.now) c.args.stream.now (bevvy_count c.count_chunks.result)) (sym c.deref.ensures.value) c.in-Ok.ensures.lengths))

pub returns-in-Err-check_chunks-clause-fault : goal.returns-in-Err-check_chunks-clause-fault
returns-in-Err-check_chunks-clause-fault g c =
    no_list_fault (listed_length c.args.segments.now) c.args.stream.now (chunk_count c.args.size) c.in-Err-check_chunks.fault c.in-Err-check_chunks.ensures.late (subst (AreBevvies (listed_length c.args.segments.now) c.args.stream.now) c.count_chunks.ensures c.in-Ok.ensures.bevvies)

pub returns-in-Err-check_chunks-clause-refused : goal.returns-in-Err-check_chunks-clause-refused
returns-in-Err-check_chunks-clause-refused g c = λ t. (
  no_list_fault _ c.args.stream.now (chunk_count c.args.size) c.in-Err-check_chunks.fault c.in-Err-check_chunks.ensures.late (subst (λ l. AreBevvies l c.args.stream.now (chunk_count c.args.size)) (listed_held (g.F.Folder.held c.args.folder.now) c.args.segments.now (c.requires.listed t)) (subst (AreBevvies (listed_length c.args.segments.now) c.args.stream.now) c.count_chunks.ensures c.in-Ok.ensures.bevvies)),
  c.in-Err-check_chunks.ensures.fault t,
)

pub returns-in-Ok-try_clone-clause-ok : goal.returns-in-Ok-try_clone-clause-ok
returns-in-Ok-try_clone-clause-ok g c = λ t. record {
  bevvies = subst (λ l. AreBevvies l c.args.stream.now (chunk_count c.args.size)) (listed_held (g.F.Folder.held c.args.folder.now) c.args.segments.now (c.requires.listed t)) (subst (AreBevvies (listed_length c.args.segments.now) c.args.stream.now) c.count_chunks.ensures c.in-Ok.ensures.bevvies);
  chunks = c.in_default.ensures.ok t;
}
