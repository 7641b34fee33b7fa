use Rattle.aff_examine.proofs.Folding.{fold_none, fold_on}
use Rattle.aff_examine.proofs.laws.folds_go_on.Goals as goal

pub returns : goal.returns
returns g c = λ plan rule. record {
  none = fold_none plan g.R.Telling.receipt_tells g.R.Telling.told rule;
  on = fold_on plan g.R.Telling.receipt_tells g.R.Telling.told rule;
}
