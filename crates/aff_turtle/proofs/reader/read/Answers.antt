use Rattle.aff_turtle.proofs.Readings.{is_found, is_taken, is_refused_for, is_told}
use Rattle.aff_turtle.proofs.reader.read.Goals as goal

pub returns-clause-found : goal.returns-clause-found
returns-clause-found c = is_found (λ found. found.items) c.args.text.now c.read_bytes.result c.read_bytes.ensures

pub returns-clause-taken : goal.returns-clause-taken
returns-clause-taken c = λ ts h. is_taken (λ found. found.items) c.args.text.now ts c.read_bytes.result c.read_bytes.ensures h

pub returns-clause-refused : goal.returns-clause-refused
returns-clause-refused c = is_refused_for (λ found. found.items) c.args.text.now c.read_bytes.result c.read_bytes.ensures

pub returns-clause-told : goal.returns-clause-told
returns-clause-told c = λ why h. is_told (λ found. found.items) c.args.text.now why c.read_bytes.result c.read_bytes.ensures h
