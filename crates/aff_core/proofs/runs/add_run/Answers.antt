use Rattle.std.proofs.Common.{arith, subst, sym, length, get_or, List, ℕ, ◌+◌, ◌-◌, ◌≡◌, ◌≢◌, ◌∙◌}
use Rattle.std.proofs.lemmas.Bool.{false≢true}
use Rattle.aff_model.specs.declared.cell.Run.{Run}
use Rattle.aff_model.specs.Kinds.{AreGreatest}
use Rattle.aff_core.proofs.RunLists.{grown, greatest-push, nothing, other-last}
use Rattle.aff_core.proofs.runs.add_run.Goals as goal
use Rattle.aff_core.proofs.runs.add_run.Goals.{else-count-gt0-via-then-count-gt0+else-is_kind, else-count-gt0-via-else-count-gt0}

pub returns-then-is_kind-clause-kinds : goal.returns-then-is_kind-clause-kinds
returns-then-is_kind-clause-kinds c =
    let is : c.len-count.result - 1 + 1 ≡ length c.args.runs.now.items = omega (arith, c.len-count.ensures, c.args.runs.now.ok.0) in
    let g = grown _ _ c.args.len c.args.kind _ _ c.requires.greatest c.requires.some is c.index-then-is_kind.ensures c.index.ensures (c.is_kind.ensures.0 c.if-is_kind.true) in
    g.kinds

pub returns-then-is_kind-clause-greatest : goal.returns-then-is_kind-clause-greatest
returns-then-is_kind-clause-greatest c =
    let is : c.len-count.result - 1 + 1 ≡ length c.args.runs.now.items = omega (arith, c.len-count.ensures, c.args.runs.now.ok.0) in
    let g = grown _ _ c.args.len c.args.kind _ _ c.requires.greatest c.requires.some is c.index-then-is_kind.ensures c.index.ensures (c.is_kind.ensures.0 c.if-is_kind.true) in
    g.greatest

pub returns-in_ok-push-clause-greatest : goal.returns-in_ok-push-clause-greatest
returns-in_ok-push-clause-greatest c =
    let r : Run = record { len = c.args.len; kind = c.args.kind } in
    let P : List Run → Type 0 = AreGreatest in
    subst P (sym c.in_ok-push.ensures.items) (greatest-push c.args.runs.now.items r c.requires.greatest c.requires.some
    (λ i is. elim c.else-count-gt0.branch [
      | else-count-gt0-via-then-count-gt0+else-is_kind w ↦ (
          let at : i ≡ c.len-count.result - 1 = omega (arith, c.len-count.ensures, c.args.runs.now.ok.0) in
          let is_at : c.len-count.result - 1 + 1 ≡ length c.args.runs.now.items = omega (arith, c.len-count.ensures, c.args.runs.now.ok.0) in
          let Q : ℕ → Type 0 = λ k. (get_or c.args.runs.now.items k nothing).kind ≢ c.args.kind in
          subst Q (sym at) (other-last _ _ c.args.kind _ is_at w.index.ensures (λ e. false≢true (sym w.if-is_kind.false ∙ w.is_kind.ensures.1 e))))
      | else-count-gt0-via-else-count-gt0 w ↦ absurd (omega (arith, c.len-count.ensures, c.args.runs.now.ok.0, w.if-count-gt0.false))
    ]))
