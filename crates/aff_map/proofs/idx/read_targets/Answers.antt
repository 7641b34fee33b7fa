use Rattle.std.proofs.Common.{◌≡◌, ◌≢◌, ◌<◌, ◌∙◌, ℕ, ap, arith, length, subst, sym, All}
use Rattle.std.specs.Prelude.{IfErr, IfOk, OnOk}
use Rattle.std.specs.List.{filter_map}
use Rattle.std.proofs.lemmas.Bool.Decides.{nat_tests}
use Rattle.aff_map.specs.declared.error.MapError.TheVariants.{BadTarget, Memory}
use Rattle.aff_spec.specs.Lines.{lines_of}
use Rattle.aff_map.specs.Targets.{IsFirstUnnamed, IsNamed, target_lines, target_of}
use Rattle.aff_map.proofs.Lines.{target_lines-none, target_lines-some}
use Rattle.aff_map.proofs.idx.read_targets.Goals as goal

pub returns-then-is_empty : goal.returns-then-is_empty
returns-then-is_empty c =
    let none : length c.args.idx.now ≡ 0 = grind (arith, nat_tests) in
    let lines = target_lines-none c.args.idx.now none in
    record {
      targets = c.new.ensures.items ∙ ap (filter_map (target_of c.args.stream.now)) (sym lines);
      named = subst (All (IsNamed c.args.stream.now)) (sym lines) (λ k d below. absurd (omega (arith, below)));
      refused = tt;
    }

pub returns : goal.returns
returns c =
    let some : 0 < length c.args.idx.now = grind (arith, nat_tests) in
    let lines = ap lines_of c.without_last_feed.ensures ∙ sym (target_lines-some c.args.idx.now some) in
    let s = c.args.stream.now in
    record {
      targets = subst (λ ls. IfOk c.read_lines.result (λ v. v.items ≡ filter_map (target_of s) ls)) lines c.read_lines.ensures.targets;
      named = subst (λ ls. OnOk c.read_lines.result (All (IsNamed s) ls)) lines c.read_lines.ensures.named;
      refused = subst (λ ls. IfErr c.read_lines.result (λ e. e ≢ Memory → (line : ℕ) × (e ≡ BadTarget line) × IsFirstUnnamed s ls line)) lines c.read_lines.ensures.refused;
    }
