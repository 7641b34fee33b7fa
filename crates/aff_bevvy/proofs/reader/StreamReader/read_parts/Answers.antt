use Rattle.std.proofs.Common.{◌≡◌, ◌+◌, ◌-◌, ◌/◌, ◌%◌, ◌≤◌, length, take, drop, ap, ◌∙◌, arith}
use borrow.Rule.Slice.PartMut.{same_len_mid, mid_len}
use Rattle.aff_spec.specs.Streams.{chunk_of}
use Rattle.aff_bevvy.proofs.Parts.{parts_more}
use Rattle.aff_bevvy.proofs.reader.StreamReader.read_parts.Goals as goal

pub loop-filled-preserved : goal.loop-filled-preserved
loop-filled-preserved g c =
    let end_low : c.min-end.result ≤ length c.loop-filled.out = omega (arith, c.min-end.ensures) in
    let whole : c.loop-filled.filled + (c.min-end.result - c.loop-filled.filled) ≡ c.min-end.result = omega (arith, c.min-end.ensures, c.loop-filled-test.true) in
    let inside : (c.args.at + c.loop-filled.filled) % 32768 + (c.min-end.result - c.loop-filled.filled) ≤ 32768 = omega (arith, c.min-end.ensures) in
    let mid = mid_len c.loop-filled.filled c.min-end.result c.loop-filled.out end_low in
    let len = same_len_mid c.loop-filled.filled (c.min-end.result - c.loop-filled.filled) c.loop-filled.out c.read_part.new.out c.read_part.auto.out in
    record {
      low = omega (arith, len, end_low);
      bytes = λ t k below.
          parts_more (g.F.Folder.held c.args.folder.now) c.args.self.now.stream c.args.at c.loop-filled.filled (c.min-end.result - c.loop-filled.filled) c.loop-filled.out c.read_part.new.out
          c.loop-filled.invariant.low (c.read_part.auto.out ∙ mid) inside
          (c.in_default.ensures.bytes t
          ∙ ap (λ m. take m (drop ((c.args.at + c.loop-filled.filled) % 32768) (chunk_of (g.F.Folder.held c.loop-filled.folder) c.args.self.now.stream ((c.args.at + c.loop-filled.filled) / 32768)))) mid
          ∙ ap (λ h. take (c.min-end.result - c.loop-filled.filled) (drop ((c.args.at + c.loop-filled.filled) % 32768) (chunk_of h c.args.self.now.stream ((c.args.at + c.loop-filled.filled) / 32768)))) (c.loop-filled.invariant.same t))
          (c.loop-filled.invariant.bytes t) k (omega (arith, below, whole));
      same = λ t. c.in_default.ensures.same t ∙ c.loop-filled.invariant.same t;
      later = omega (arith, c.loop-filled.invariant.later, c.in_default.ensures.cause.later);
    }

pub returns-clause-bytes : goal.returns-clause-bytes
returns-clause-bytes g c = λ t k low. c.loop-filled.invariant.bytes t k (omega (arith, low, c.loop-filled-test.false))
