use Rattle.std.proofs.Common.{◌≡◌, ℕ, length, map, sym, subst, ◌∙◌}
use Rattle.std.specs.Arc.{arc_value}
use Rattle.aff_model.specs.History.{publication_of}
use Rattle.aff_model.specs.Kinds.{kind_at}
use Rattle.aff_model.proofs.Sectors.{sector_plan}
use Rattle.aff_analyst.specs.Answers.{IsReadBy}
use Rattle.aff_analyst.specs.Bytes.{IsShown}
use Rattle.aff_analyst.specs.Reads.{HaveRoom, IsReadTo}
use Rattle.aff_analyst.proofs.Fetching.{both_ok}
use Rattle.aff_analyst.proofs.Whole.{read_whole, room_for}
use Rattle.aff_analyst.proofs.reads.answer.Goals as goal

pub read_range-result-requires-clause-runs : goal.read_range-result-requires-clause-runs
read_range-result-requires-clause-runs g c κs within =
    subst (HaveRoom c.args.at (length c.args.out.now)) (sym c.requires.empty) (room_for c.args.at (length c.args.out.now) c.requires.range.short)

pub returns-else-is_err-clause-read : goal.returns-else-is_err-clause-read
returns-else-is_err-clause-read g c =
    let plan = c.args.plan.now in
    let pieces = map arc_value c.args.pieces.now in
    let tells = g.R.Telling.receipt_tells in
    let told = g.R.Telling.told in
    let out = c.read_range-result.new.out in
    let runs = c.read_range-result.new.runs in
    both_ok c.read_range-result.result _ _ (IsReadBy plan tells told pieces c.args.at (length c.args.out.now) out runs)
    (λ read again. read_whole plan tells told pieces c.args.at (length c.args.out.now) out runs (sector_plan _ _ _ c.requires.planned) c.read_range-result.auto.out
    (subst (λ before. IsReadTo (kind_at plan.extents (map publication_of pieces)) (IsShown tells told plan.extents pieces) c.args.at out before runs) c.requires.empty read))
    c.read_range-result.ensures.read c.read_range-result.ensures.read
