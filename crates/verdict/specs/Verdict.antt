-- What an event comes to on an order record, over the view of the tables' bytes: they are not judged. On a judged record it is what the event call
-- answers and stores (`step_applied` of record/proofs/Stepping.antt). The tables are the crate `opening`, leader l's inbox the crate `judging`; its
-- bytes of the summary are a part of it as the inbox is of I.
--     leader_on         what a leader makes of its event
--     record_verdict    7 where it is no event, else what the role of its kind makes of it
-- Assumes nothing.
use Rattle.std.specs.Prelude.{ℕ, not, cond, List, leb, eqb}
use Rattle.message.specs.declared.Plan.{Plan}
use Rattle.message.specs.Outcome.{Outcome, refuse_if}
use Rattle.slots.specs.View.Bytes.{view_bytes}
use Rattle.change.specs.declared.Change.{Change}
use Rattle.event.specs.Event.{kind_of, who_of, is_event}
use Rattle.rm.specs.Rm.{rm_verdict}
use Rattle.acceptor.specs.Acceptor.{acceptor_verdict}
use Rattle.leader.specs.Leader.{stands, leader_verdict_by}
use Rattle.opening.specs.Opening.{Tables}
use Rattle.judging.specs.Judging.{inbox_of}

-- a leader's event is taken on its inbox and its bytes of the summary
abbrev pub leader_on : Plan → List ℕ → List ℕ → List ℕ → List ℕ → Outcome Change
leader_on p inboxes summary network e =
    leader_verdict_by p (stands (inbox_of p summary (who_of e))) (view_bytes p (inbox_of p inboxes (who_of e))) (view_bytes p network) e

unfoldable pub record_verdict : Plan → Tables → List ℕ → Outcome Change
record_verdict p t e =
    refuse_if (not (is_event p e)) 7
    (cond (leb (kind_of e) 2) (rm_verdict p t.states (view_bytes p t.network) e)
    (cond (eqb (kind_of e) 3) (acceptor_verdict p t.votes (view_bytes p t.network) e)
    (leader_on p t.inboxes t.summary t.network e)))
