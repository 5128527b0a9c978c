-- `leader_call::step` meets its contract: what was judged, and what was then performed. Assumes nothing.
use Rattle.message.proofs.Guards.{passed, failed}
use Rattle.leader.proofs.Judging.{call_refused, call_unsound, call_sound}
use Rattle.leader_call.proofs.step.Goals as goal

pub returns-in-Err : goal.returns-in-Err
returns-in-Err c = call_refused _ _ _ _ _ _ c.in-Err.ensures

pub returns-then-not-is_summary : goal.returns-then-not-is_summary
returns-then-not-is_summary c =
    call_unsound _ _ _ _ _ c.in_default.ensures (failed c.is_summary.ensures c.if-not-is_summary.true)

pub returns : goal.returns
returns c = call_sound _ _ _ _ _ c.in_default.ensures (passed c.is_summary.ensures c.if-not-is_summary.false) _ c.perform.ensures
