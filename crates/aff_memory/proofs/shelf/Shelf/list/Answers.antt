use Rattle.std.proofs.Common.{◌≡◌, length, map, ap, ◌∙◌, subst}
use Rattle.std.specs.Prelude.{IfOk}
use Rattle.aff_model.specs.Held.{lengths}
use Rattle.aff_memory.proofs.Shelves.{listed}
use Rattle.aff_memory.proofs.shelf.Shelf.list.Goals as goal

pub returns : goal.returns
returns c =
    subst (λ all. IfOk c.list_of.result (λ segments. segments.items ≡ all))
    (ap (map (λ e. (e.0, length e.1))) c.deref.ensures.value ∙ listed _ c.self.invariant ∙ ap lengths c.self.view_is)
    c.list_of.ensures
