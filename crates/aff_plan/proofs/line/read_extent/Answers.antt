use Rattle.aff_model.specs.declared.extent.Extent.{Extent}
use Rattle.aff_plan.proofs.Fields.{extent_read}
use Rattle.aff_plan.proofs.line.read_extent.Goals as goal

pub returns : goal.returns
returns c =
    let e : Extent = record { at = c.in-Some-number.at; len = c.in-Some-number-2.len; priority = c.in-Some-number-3.priority } in
    record {
      extent = e;
      is_line = extent_read c.args.line.now c.in-Some.at.now c.in-Some.len.now c.in-Some.priority.now e c.in-Some.ensures c.in-Some-number.ensures c.in-Some-number-2.ensures c.in-Some-number-3.ensures;
      is = cc c.min.ensures;
    }
