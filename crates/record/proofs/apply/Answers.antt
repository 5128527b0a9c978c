-- `record::apply` meets its contract: the verdict, and what was stored for it. Assumes nothing.
use Rattle.record.specs.Record.{tables_of}
use Rattle.record.proofs.Stepping.{apply_accepted}
use Rattle.record.proofs.apply.Goals as goal

pub returns : goal.returns
returns c s =
    rw c.in_ok-change.was
    (apply_accepted c.args.plan c.args.leader (tables_of c.args.states.now c.args.votes.now c.args.network.now c.args.inboxes.now s)
    c.in_ok-change.change _ _ _ _ c.update_table.ensures c.apply_store.ensures)
