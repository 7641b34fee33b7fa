use Rattle.aff_reader_rows.proofs.Requests.{is_asked}
use Rattle.aff_reader_rows.proofs.session.two_reads.Goals as goal

pub returns : goal.returns
returns c = is_asked
