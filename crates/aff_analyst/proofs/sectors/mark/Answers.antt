use Rattle.std.proofs.Common.{◌≡◌, ℕ, ◌+◌, ◌-◌, ◌%◌, ◌<◌, ◌≤◌, List, length, take, drop, get_or, refl, sym, ap, subst, ◌∙◌, arith, length-take}
use Rattle.std.proofs.lemmas.List.{get_or-drop, get_or-take, take_all}
use Rattle.std.proofs.lemmas.Slice.{take-put_mid}
use borrow.Rule.Slice.PartMut.{mid_len, same_len_mid}
use Rattle.aff_model.specs.declared.cell.Run.{Run}
use Rattle.aff_model.specs.Cells.{is_bad_at}
use Rattle.aff_model.specs.History.{publication_of}
use Rattle.aff_analyst.specs.Bytes.{Keeps, Shows}
use Rattle.aff_analyst.specs.Reads.{IsReadTo, kind_in}
use Rattle.aff_analyst.proofs.Puts.{after_put}
use Rattle.aff_analyst.proofs.Steps.{read_more, read_none, room_less, room_more}
use Rattle.aff_analyst.proofs.sectors.mark.Goals as goal

pub loop-done-init : goal.loop-done-init
loop-done-init g c = record {
  inside = omega arith;
  whole = refl;
  count = refl;
  met = λ some low. absurd (omega (arith, some));
  start = λ z. refl;
  read = read_none (kind_in c.args.extent.now c.args.piece.now) (Shows g.R.Telling.receipt_tells g.R.Telling.told c.args.extent.now c.args.piece.now) c.args.at c.args.runs.now c.requires.runs.greatest;
  rest = λ k low. refl;
}

pub mark_sector-requires-clause-kept : goal.mark_sector-requires-clause-kept
mark_sector-requires-clause-kept g c κs alive = λ k low clear.
    let inv = c.loop-done.invariant in
    let done : ℕ = c.loop-done.done in
    let count : ℕ = c.min-count.result in
    let end_low : done + count ≤ length c.loop-done.out = omega (arith, c.min-count.ensures, inv.whole, inv.count, c.loop-done-test.true) in
    let mid = mid_len done (done + count) c.loop-done.out end_low in
    let inside : k < done + count - done = omega (arith, low, mid) in
    let sum : c.args.at + done + k ≡ c.args.at + (done + k) = omega arith in
    let at_k : get_or (take (done + count - done) (drop done c.loop-done.out)) k 0 ≡ get_or c.args.out.now (done + k) 0 =
    get_or-take (done + count - done) (drop done c.loop-done.out) k 0 inside ∙ get_or-drop done c.loop-done.out k 0 ∙ inv.rest (done + k) (omega arith) in
    subst (λ i. Keeps g.R.Telling.receipt_tells g.R.Telling.told c.args.extent.now c.args.piece.now i (get_or (take (done + count - done) (drop done c.loop-done.out)) k 0)) (sym sum)
    (subst (λ v. Keeps g.R.Telling.receipt_tells g.R.Telling.told c.args.extent.now c.args.piece.now (c.args.at + (done + k)) v) (sym at_k)
    (c.requires.kept (done + k) (omega (arith, inside, end_low, inv.count)) (ap (λ i. is_bad_at c.args.extent.now (publication_of c.args.piece.now) i) (sym sum) ∙ clear)))

pub mark_sector-requires-clause-runs : goal.mark_sector-requires-clause-runs
mark_sector-requires-clause-runs g c κs alive =
    let inv = c.loop-done.invariant in
    let done : ℕ = c.loop-done.done in
    let count : ℕ = c.min-count.result in
    let low : done ≤ length c.loop-done.out = omega (arith, inv.inside, inv.whole, inv.count) in
    let end_low : done + count ≤ length c.loop-done.out = omega (arith, c.min-count.ensures, inv.whole, inv.count, c.loop-done-test.true) in
    let mid = mid_len done (done + count) c.loop-done.out end_low in
    let taken : length (take done c.loop-done.out) ≡ done = omega (arith, length-take done c.loop-done.out, low) in
    room_less (c.args.at + done) _ (length c.args.out.now - done) c.loop-done.runs (omega (arith, mid, end_low, inv.count))
    (room_more (kind_in c.args.extent.now c.args.piece.now) (Shows g.R.Telling.receipt_tells g.R.Telling.told c.args.extent.now c.args.piece.now) c.args.at done (length c.args.out.now - done) (length c.args.out.now) (take done c.loop-done.out) c.args.runs.now c.loop-done.runs
    taken (omega (arith, low, inv.count)) inv.start (λ some. inv.met some c.loop-done-test.true) c.requires.runs inv.read)

pub loop-done-preserved : goal.loop-done-preserved
loop-done-preserved g c =
    let inv = c.loop-done.invariant in
    let done : ℕ = c.loop-done.done in
    let count : ℕ = c.min-count.result in
    let out = c.loop-done.out in
    let more = c.mark_sector.new.out in
    let low : done ≤ length out = omega (arith, inv.inside, inv.whole, inv.count) in
    let end_low : done + count ≤ length out = omega (arith, c.min-count.ensures, inv.whole, inv.count, c.loop-done-test.true) in
    let mid = mid_len done (done + count) out end_low in
    let len : length more ≡ done + count - done = c.mark_sector.auto.out ∙ mid in
    let kind = kind_in c.args.extent.now c.args.piece.now in
    let shown = Shows g.R.Telling.receipt_tells g.R.Telling.told c.args.extent.now c.args.piece.now in
    record {
      inside = omega (arith, c.min-count.ensures, c.loop-done-test.true);
      whole = inv.whole;
      count = same_len_mid done (done + count - done) out more c.mark_sector.auto.out ∙ inv.count;
      met = λ some inner. omega (arith, c.min-count.ensures, c.loop-done-test.true, inner);
      start = λ z. absurd (omega (arith, z, c.min-count.ensures, c.loop-done-test.true));
      read = subst (λ l. IsReadTo kind shown c.args.at l c.args.runs.now c.mark_sector.new.runs) (sym (take-put_mid done (done + count - done) out more (done + count) (omega (arith, len)) low))
          (read_more kind shown c.args.at done (take done out) more c.args.runs.now c.loop-done.runs c.mark_sector.new.runs
          (omega (arith, length-take done out, low)) inv.start (λ some. inv.met some c.loop-done-test.true) inv.read c.mark_sector.ensures);
      rest = λ k past. after_put done (done + count - done) k out more 0 (omega (arith, past)) low len ∙ inv.rest k (omega (arith, past));
    }

pub returns : goal.returns
returns g c =
    let inv = c.loop-done.invariant in
    subst (λ l. IsReadTo (kind_in c.args.extent.now c.args.piece.now) (Shows g.R.Telling.receipt_tells g.R.Telling.told c.args.extent.now c.args.piece.now) c.args.at l c.args.runs.now c.loop-done.runs)
    (take_all c.loop-done.done c.loop-done.out (omega (arith, c.loop-done-test.false, inv.count, inv.whole))) inv.read
