-- `batch::run_events` meets its contract: one event further, the answers so far and the calls that are left come to the same. Assumes nothing.
use mathlib.Core.Path.{refl, ◌∙◌}
use lib.ListN.{length-set}
use Rattle.record.specs.Record.{tables_of, record_step_of}
use Rattle.batch.proofs.Running.{running_start, running_next, running_end}
use Rattle.batch.proofs.run_events.Goals as goal

pub loop-i-init : goal.loop-i-init
loop-i-init c = (running_start _ _ _ _ c.requires.0 c.requires.1, refl, refl, refl, refl, refl, refl)

-- one event further: the loop's test, what was performed, and the tables as it left them
pub loop-i-preserved : goal.loop-i-preserved
loop-i-preserved c =
    let loop = c.loop-i in
    let kept = c.perform-answer.auto in
    let left = c.perform-answer.new in (
      running_next _ _ _ _ _ _ loop.invariant.0 (rw loop.invariant.6 c.loop-i-test.true)
          (record_step_of c.perform-answer.result (tables_of left.states left.votes left.network left.inboxes left.summary)) c.perform-answer.ensures
          c.number_of.result c.number_of.ensures,
      kept.states ∙ loop.invariant.1,
      kept.votes ∙ loop.invariant.2,
      kept.network ∙ loop.invariant.3,
      kept.inboxes ∙ loop.invariant.4,
      kept.summary ∙ loop.invariant.5,
      length-set loop.answers loop.i c.number_of.result ∙ loop.invariant.6,
    )

-- the list's end
pub returns : goal.returns
returns c = running_end _ _ _ _ _ _ c.loop-i.invariant.0 (rw c.loop-i.invariant.6 c.loop-i-test.false)
