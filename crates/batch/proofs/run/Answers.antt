-- `batch::run` meets its contract: what was judged, and then the events one after the other. Assumes nothing.
use Rattle.message.proofs.Outcome.Laws.{left_by}
use Rattle.record.specs.Record.{tables_of}
use Rattle.batch.proofs.Judging.{run_stopped, run_ready, run_finished}
use Rattle.batch.proofs.run.Goals as goal

-- it refuses
pub returns-in_err-judge_list : goal.returns-in_err-judge_list
returns-in_err-judge_list c =
    rw (left_by c.from_residual.ensures.1)
    (run_stopped c.args.plan (tables_of c.args.states.now c.args.votes.now c.args.network.now c.args.inboxes.now c.args.summary.now)
    c.args.events.now c.args.answers.now _ c.in_err-judge_list.ensures)

-- the events run
pub run_events-requires : goal.run_events-requires
run_events-requires c =
    run_ready c.args.plan (tables_of c.args.states.now c.args.votes.now c.args.network.now c.args.inboxes.now c.args.summary.now)
    c.args.events.now c.args.answers.now c.in_ok-judge_list.ensures

-- and have run
pub returns : goal.returns
returns c =
    run_finished c.args.plan (tables_of c.args.states.now c.args.votes.now c.args.network.now c.args.inboxes.now c.args.summary.now)
    c.args.events.now c.args.answers.now c.in_ok-judge_list.ensures _ c.run_events.ensures
