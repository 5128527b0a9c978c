-- What `record::perform` answers and leaves: the event call without the judgement of the tables, over the view of their bytes. On a judged
-- record it is the event call (proofs/Stepping.antt, step_applied).
--     kept_inbox, changed      the tables after a change, which is of W, of Q or of the inbox of the event's leader; and of N
--     applied_to               what a verdict answers and leaves
--     record_applied           that of the event's verdict: the answer and the tables, the summary marked
-- What the event comes to, record_verdict, is of the crate `verdict`. Laws are in Applied/Laws.antt. Assumes nothing.
pub mod Laws
use Rattle.std.specs.Prelude.{ℕ, cond, List, ltb, Option}
use Rattle.message.specs.declared.Plan.{Plan}
use Rattle.message.specs.Outcome.{Outcome, accepted, refused}
use Rattle.slots.specs.declared.Put.{Put}
use Rattle.slots.specs.View.{store_bytes}
use Rattle.slots.specs.View.Bytes.{view_bytes}
use Rattle.change.specs.declared.Update as UpdateType
use Rattle.change.specs.declared.Update.TheVariants.{State, Vote, Inbox}
use Rattle.change.specs.declared.Change.{Change}
use Rattle.change.specs.Change.{updated}
use Rattle.event.specs.Event.{who_of}
use Rattle.summary.specs.Summary.{decided_bytes}
use Rattle.verdict.specs.Verdict.{record_verdict}
use Rattle.record.specs.Record.{Tables, with_states, with_votes, with_network, with_inboxes, inbox_of, with_inbox, RecordStep, record_refusal, marking}

-- I after a store in leader l's inbox; there is none past the last leader
unfoldable pub kept_inbox : Plan → List ℕ → ℕ → Option Put → List ℕ
kept_inbox p inboxes l store = cond (ltb l p.leaders) (with_inbox p inboxes l (store_bytes p store (inbox_of p inboxes l))) inboxes

abbrev pub changed : Plan → ℕ → Tables → UpdateType.Update → List ℕ → Tables
changed p l t (State who state) network = with_network (with_states t (updated p (State who state) t.states)) network
changed p l t (Vote at mbal bal val) network = with_network (with_votes t (updated p (Vote at mbal bal val) t.votes)) network
changed p l t (Inbox store) network = with_network (with_inboxes t (kept_inbox p t.inboxes l store)) network

-- what a verdict stores, where l is the event's leader
abbrev pub applied_to : Plan → ℕ → Tables → Outcome Change → RecordStep
applied_to p l t (accepted change) =
    record { answer = accepted change.sent; tables = changed p l t change.table (store_bytes p change.network t.network) }
applied_to p l t (refused number) = record_refusal t number

unfoldable pub record_applied : Plan → Tables → List ℕ → RecordStep
record_applied p t e =
    marking p (decided_bytes p) (view_bytes p) e (applied_to p (who_of e) t (record_verdict p t e))
