use Rattle.std.proofs.Common.{◌≡◌, ◌+◌, List, ℕ, ◌∙◌, arith, Vec, Global}
use Rattle.aff_run.proofs.Showing.{found_push}
use Rattle.aff_run.proofs.watching.findings_of.Goals as goal

pub loop-examiner-preserved : goal.loop-examiner-preserved
loop-examiner-preserved g c =
    let i = c.loop-examiner.invariant in
    let p = c.push_reserved.ensures in
    let n = c.loop-examiner.examiner-index in
    record {
      len = omega (arith, p.len, i.len);
      room = p.capacity ∙ i.room;
      found = found_push (λ (v : Vec ℕ Global). v.items) (λ e. (goal.Examiner-dyn g (e.vtable, e.value)).text e.value ((goal.Examiner-dyn g (e.vtable, e.value)).state e.value)) c.args.examiners.now n c.examiner-item.result
          c.loop-examiner.findings.items c.push_reserved.new.self.items c.in_ok-finding_of.field-0 c.loop-examiner-test.true c.examiner-item.is p.items i.found c.in_ok-finding_of.ensures;
    }
