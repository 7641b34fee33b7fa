use Rattle.std.proofs.Common.{arith, subst, sym, ap, length, get_or, replicate, List, ℕ, ◌+◌, ◌-◌, ◌≡◌, ◌≢◌, ◌∙◌, ◌++◌}
use Rattle.std.proofs.lemmas.Bool.{false≢true}
use Rattle.aff_model.specs.declared.cell.Run.{Run}
use Rattle.aff_model.specs.Kinds.{AreGreatest, spread}
use Rattle.aff_core.proofs.RunLists.{grown, greatest-push, nothing, other-last}
use Rattle.aff_analyst.proofs.run_list.RunList.add_len.Goals as goal
use Rattle.aff_analyst.proofs.run_list.RunList.add_len.Goals.{else-count-gt0-via-then-count-gt0+else-is_kind, else-count-gt0-via-else-count-gt0}

pub returns-then-is_kind-clause-kinds : goal.returns-then-is_kind-clause-kinds
returns-then-is_kind-clause-kinds c =
    let runs : List Run = c.self.inside.runs.items in
    let same : runs ≡ c.args.self.now = c.self.view_is in
    let is : c.len-count.result - 1 + 1 ≡ length runs = omega (arith, c.len-count.ensures, c.self.inside.runs.ok.0) in
    let g = grown _ _ c.args.len c.args.kind _ _ (subst AreGreatest (sym same) c.requires.greatest) c.requires.some is c.index-then-is_kind.ensures c.index.ensures (c.is_kind.ensures.0 c.if-is_kind.true) in
    g.kinds ∙ ap (λ l. spread l ++ replicate c.args.len c.args.kind) same

pub returns-then-is_kind-clause-greatest : goal.returns-then-is_kind-clause-greatest
returns-then-is_kind-clause-greatest c =
    let runs : List Run = c.self.inside.runs.items in
    let same : runs ≡ c.args.self.now = c.self.view_is in
    let is : c.len-count.result - 1 + 1 ≡ length runs = omega (arith, c.len-count.ensures, c.self.inside.runs.ok.0) in
    let g = grown _ _ c.args.len c.args.kind _ _ (subst AreGreatest (sym same) c.requires.greatest) c.requires.some is c.index-then-is_kind.ensures c.index.ensures (c.is_kind.ensures.0 c.if-is_kind.true) in
    g.greatest

pub returns-else-count-gt0-clause-greatest : goal.returns-else-count-gt0-clause-greatest
returns-else-count-gt0-clause-greatest c =
    let runs : List Run = c.self.inside.runs.items in
    let same : runs ≡ c.args.self.now = c.self.view_is in
    let r : Run = record { len = c.args.len; kind = c.args.kind } in
    subst AreGreatest (sym c.push_reserved.ensures.items) (greatest-push runs r (subst AreGreatest (sym same) c.requires.greatest) c.requires.some
    (λ i is. elim c.else-count-gt0.branch [
      | else-count-gt0-via-then-count-gt0+else-is_kind w ↦ (
          let at : i ≡ c.len-count.result - 1 = omega (arith, c.len-count.ensures, c.self.inside.runs.ok.0) in
          let is_at : c.len-count.result - 1 + 1 ≡ length runs = omega (arith, c.len-count.ensures, c.self.inside.runs.ok.0) in
          let Q : ℕ → Type 0 = λ k. (get_or runs k nothing).kind ≢ c.args.kind in
          subst Q (sym at) (other-last _ _ c.args.kind _ is_at w.index.ensures (λ e. false≢true (sym w.if-is_kind.false ∙ w.is_kind.ensures.1 e))))
      | else-count-gt0-via-else-count-gt0 w ↦ absurd (omega (arith, c.len-count.ensures, c.self.inside.runs.ok.0, w.if-count-gt0.false))
    ]))
