-- `rehearsing::rehearse` meets its contract: a buffer that is too short, the text of the events, and a plan that is refused. Assumes nothing.
use Rattle.rehearsing.proofs.Rehearsing.{nothing_put, rehearsal_put, given_plan, events_within, plan_given_lem, plan_refused}
use Rattle.rehearsing.proofs.rehearse.Goals as goal

pub returns-then-output-lt-MAX_OUTPUT : goal.returns-then-output-lt-MAX_OUTPUT
returns-then-output-lt-MAX_OUTPUT c = nothing_put _ _ c.if-output-lt-MAX_OUTPUT.true

pub run_fresh-requires-clause-plan_value : goal.run_fresh-requires-clause-plan_value
run_fresh-requires-clause-plan_value c = given_plan _ _ c.plan_in.ensures _ c.in-Ok.is

pub run_fresh-requires-clause-events_len_bound : goal.run_fresh-requires-clause-events_len_bound
run_fresh-requires-clause-events_len_bound c = events_within _ _ c.events_in.ensures

pub returns-in-Ok : goal.returns-in-Ok
returns-in-Ok c =
    rehearsal_put _ _ c.if-output-lt-MAX_OUTPUT.false
    _ (plan_given_lem _ _ c.plan_in.ensures _ c.in-Ok.is _ c.events_in.ensures)
    _ c.run_fresh.ensures

pub returns-in-Err : goal.returns-in-Err
returns-in-Err c =
    rehearsal_put _ _ c.if-output-lt-MAX_OUTPUT.false
    _ (plan_refused _ _ c.plan_in.ensures _ c.in-Err.is) _ (rw c.number.ensures at c.put_line.ensures)
