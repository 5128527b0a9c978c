-- `rehearsing::run_fresh` meets its contract: each part has the length that the plan asks for, so opening accepts, and leaves a sound record.
-- Assumes nothing.
use Rattle.message.proofs.PlanLaws.{plan_bounds}
use Rattle.rehearsing.proofs.Rehearsing.{votes_within, summary_within, opened_judged, run_opened}
use lib.ListN.{length-take}
use native.Mathlib.Omega.{arith}
use Rattle.rehearsing.proofs.run_fresh.Goals as goal

pub slice_bounds-states-end : goal.slice_bounds-states-end
slice_bounds-states-end c = let most = (plan_bounds _ c.requires.plan_value).rms_most in omega arith

pub slice_bounds-states_part-end : goal.slice_bounds-states_part-end
slice_bounds-states_part-end c = let most = (plan_bounds _ c.requires.plan_value).rms_most in simp length-take (omega arith)

pub slice_bounds-votes-end : goal.slice_bounds-votes-end
slice_bounds-votes-end c = let v = votes_within _ c.requires.plan_value in omega arith

pub slice_bounds-votes_part-end : goal.slice_bounds-votes_part-end
slice_bounds-votes_part-end c = let v = votes_within _ c.requires.plan_value in simp length-take (omega arith)

pub slice_bounds-inboxes-end : goal.slice_bounds-inboxes-end
slice_bounds-inboxes-end c = let most = (plan_bounds _ c.requires.plan_value).leaders_most in omega arith

pub slice_bounds-inboxes_part-end : goal.slice_bounds-inboxes_part-end
slice_bounds-inboxes_part-end c = let most = (plan_bounds _ c.requires.plan_value).leaders_most in simp length-take (omega arith)

pub slice_bounds-summary-end : goal.slice_bounds-summary-end
slice_bounds-summary-end c = let b = summary_within _ c.requires.plan_value in omega arith

pub slice_bounds-summary_part-end : goal.slice_bounds-summary_part-end
slice_bounds-summary_part-end c = let b = summary_within _ c.requires.plan_value in simp length-take (omega arith)

pub run_events-requires-clause-summary_value : goal.run_events-requires-clause-summary_value
run_events-requires-clause-summary_value c =
    opened_judged _ c.requires.plan_value _ _ _ _ _
    (c.zeros-states.ensures, c.zeros-votes.ensures, c.zeros-network.ensures, c.zeros-inboxes.ensures, c.zeros-summary.ensures)
    _ c.«open».ensures

pub returns : goal.returns
returns c =
    run_opened _ c.requires.plan_value _ _ _ _ _
    (c.zeros-states.ensures, c.zeros-votes.ensures, c.zeros-network.ensures, c.zeros-inboxes.ensures, c.zeros-summary.ensures)
    _ c.«open».ensures _ _ _ c.run_events.ensures
