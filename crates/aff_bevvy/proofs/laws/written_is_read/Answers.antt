use Rattle.aff_bevvy.proofs.Growing.{starts_with_none, appends_its_chunks}
use Rattle.aff_bevvy.proofs.Opening.{is_stream, has_chunks, has_bytes, is_not_refused}
use Rattle.aff_bevvy.proofs.laws.written_is_read.Goals as goal

pub returns-clause-start : goal.returns-clause-start
returns-clause-start c = starts_with_none

pub returns-clause-stream : goal.returns-clause-stream
returns-clause-stream c = is_stream

pub returns-clause-chunks : goal.returns-clause-chunks
returns-clause-chunks c = has_chunks

pub returns-clause-bytes : goal.returns-clause-bytes
returns-clause-bytes c = has_bytes

pub returns-clause-only_calls : goal.returns-clause-only_calls
returns-clause-only_calls c = is_not_refused

pub returns-clause-volume : goal.returns-clause-volume
returns-clause-volume c = appends_its_chunks
