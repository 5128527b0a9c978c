-- `record::step` meets its contract: what was judged, and what was then performed. Assumes nothing.
use Rattle.record.specs.Record.{tables_of}
use Rattle.record.proofs.Stepping.{step_refused, step_performed}
use Rattle.record.proofs.step.Goals as goal

-- it refuses
pub returns-in-Err : goal.returns-in-Err
returns-in-Err c =
    step_refused c.args.plan (tables_of c.args.states.now c.args.votes.now c.args.network.now c.args.inboxes.now c.args.summary.now)
    c.args.event.now _ c.in-Err.ensures

-- the event was performed
pub returns : goal.returns
returns c =
    step_performed c.args.plan (tables_of c.args.states.now c.args.votes.now c.args.network.now c.args.inboxes.now c.args.summary.now)
    c.args.event.now c.in_default.ensures _ c.perform.ensures
