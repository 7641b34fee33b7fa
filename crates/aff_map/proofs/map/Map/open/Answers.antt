use Rattle.aff_map.proofs.Refused.{is_taken, is_told}
use Rattle.aff_map.proofs.map.Map.open.Goals as goal

pub returns-clause-taken : goal.returns-clause-taken
returns-clause-taken c =
    is_taken c.args.map.now c.args.idx.now c.args.size c.args.stream.now c.args.stream_size c.read.result c.read.ensures.refused

pub returns-clause-told : goal.returns-clause-told
returns-clause-told c =
    is_told c.args.map.now c.args.idx.now c.args.size c.args.stream.now c.args.stream_size c.read.result c.read.ensures.sound c.read.ensures.refused
