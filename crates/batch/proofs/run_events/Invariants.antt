-- What the loop of `batch::run_events` keeps: one event further, the answers so far and the calls that are left come to the same. Assumes nothing.
use mathlib.Core.Path.{◌≡◌}
use lib.ListN.{length}
use Rattle.record.specs.Record.{tables_of}
use Rattle.batch.proofs.Running.{Running}
use Rattle.batch.proofs.run_events.Given as goal

abbrev pub invariant-loop-i : goal.invariant-loop-i
invariant-loop-i l =
    Running l.plan (tables_of l.initial.states l.initial.votes l.initial.network l.initial.inboxes l.initial.summary) l.events
    (tables_of l.states l.votes l.network l.inboxes l.summary) l.answers l.i
    × (length l.states ≡ length l.initial.states)
    × (length l.votes ≡ length l.initial.votes)
    × (length l.network ≡ length l.initial.network)
    × (length l.inboxes ≡ length l.initial.inboxes)
    × (length l.summary ≡ length l.initial.summary)
    × (length l.answers ≡ length l.initial.answers)
