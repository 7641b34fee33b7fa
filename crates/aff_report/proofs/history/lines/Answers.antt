use Rattle.std.proofs.Common.{◌≡◌, ◌+◌, ◌++◌, length, get_or, map, take, take_all, sym, ap, ◌∙◌, arith}
use Rattle.std.specs.String.{string_bytes}
use Rattle.std.proofs.lemmas.List.{length-map}
use Rattle.aff_model.specs.Pieces.{published}
use Rattle.aff_spec.specs.Report.{header_text, publication_line, publication_lines}
use Rattle.aff_report.proofs.Lines.{line_of_shared, lines-written}
use Rattle.aff_report.proofs.history.lines.Goals as goal

pub loop-number-preserved : goal.loop-number-preserved
loop-number-preserved g c =
    let line : c.deref-in-loop-number.result.now ≡ publication_line (c.loop-number.number + 1) (published (get_or c.args.pieces.now c.loop-number.number c.index-pieces-number.result)) =
    c.deref-in-loop-number.ensures ∙ c.in_ok-line.ensures ∙ line_of_shared (c.loop-number.number + 1) c.args.pieces.now c.loop-number.number c.index-pieces-number.result c.deref.result.now c.deref.ensures c.index-pieces-number.is in
    lines-written published c.args.pieces.now c.loop-number.number c.index-pieces-number.result (string_bytes c.in_ok-text.text) (string_bytes c.loop-number.text) (string_bytes c.push_str.new.self) c.deref-in-loop-number.result.now
    c.loop-number-test.true c.loop-number.invariant line c.in_ok-push_str.ensures.bytes

pub returns : goal.returns
returns g c =
    let all : take c.loop-number.number c.args.pieces.now ≡ c.args.pieces.now = take_all c.loop-number.number c.args.pieces.now (omega arith) in
    let count : length c.args.pieces.now ≡ length (map published c.args.pieces.now) = sym (length-map c.args.pieces.now published) in
    c.loop-number.invariant
    ∙ ap (λ v. string_bytes c.in_ok-text.text ++ publication_lines 1 (map published v)) all
    ∙ ap (λ v. v ++ publication_lines 1 (map published c.args.pieces.now)) (c.in_ok-text.ensures ∙ ap (header_text c.args.uuid.now c.args.size c.args.extents) count)
