-- The order record: the event call of all nine kinds (document 01, "The plan and four tables" and "Refusals by place"; document 02, Papers 5 and 6). The
-- tables, their lengths and opening them are the crate `opening`, judging the four of document 01 (inbox_of, are_inboxes, record_judged) the crate
-- `judging`; their definitions have their names here too.
--     with_inbox                         I with other bytes in one inbox
--     summary_of                         leader l's bytes of the summary
--     lent_judged                        rows 1 to 6 and 20: the plan and all that is lent
--     RecordStep, record_step_of, record_refusal         what an event call answers and leaves; a refusal changes no byte
--     on_states, on_votes, on_inbox      a role's own step as a step of the record
--     role_step, settled                 the step of the role of the event's kind, by what each leader reads as Decided
--     by_summary, marking, record_step   the event call: Decided is read from the summary, and an accepted receipt marks it
--     by_inbox, plain_step               beside it the call without a summary: what is Decided or declined is read from the inbox
-- Its laws are in Record/. Assumes nothing.
pub mod Applied
pub mod Laws
pub mod Parts
pub mod Plain
pub mod Summary
use Rattle.std.specs.Prelude.{ℕ, ◌+◌, ◌*◌, Bool, not, cond, List, ◌++◌, leb, eqb, take, drop, Result}
use Rattle.message.specs.declared.Plan.{Plan}
use Rattle.message.specs.Outcome.{Outcome, accepted, refused, and_then, refuse_if, outcome}
use Rattle.slots.specs.Table.{messages}
use Rattle.slots.specs.View.{View, view_table}
use Rattle.change.specs.declared.Sent.{Sent}
use Rattle.change.specs.Change.{Step}
use Rattle.event.specs.Event.{kind_of, who_of, is_event}
use Rattle.rm.specs.Rm.{rm_step}
use Rattle.acceptor.specs.Acceptor.{acceptor_step}
use Rattle.inbox.specs.Inbox.{decided}
use Rattle.summary.specs.Summary.{decided_or_declined}
use Rattle.leader.specs.Leader.{stands, is_summary, leader_step_by, summary_after}
use Rattle.message.specs.declared.Refusal.{Refusal}
pub use Rattle.opening.specs.Opening.{Tables, tables_of, with_states, with_votes, with_network, with_inboxes, with_summary, Opening, opening_of, opened}
unfoldable pub use Rattle.opening.specs.Opening.{inbox_size, are_lengths, lengths_judged, open_judged, zeroed, record_open}
unfoldable pub use Rattle.judging.specs.Judging.{inbox_of, are_inboxes, record_judged}

-- I with other bytes in leader l's inbox
unfoldable pub with_inbox : Plan → List ℕ → ℕ → List ℕ → List ℕ
with_inbox p inboxes l inbox =
    take (l * inbox_size p inboxes) inboxes ++ (inbox ++ drop (l * inbox_size p inboxes + inbox_size p inboxes) inboxes)

-- leader l's bytes of the summary, n of n × L: the l-th equal part, as of I
abbrev pub summary_of : Plan → Tables → ℕ → List ℕ
summary_of p t l = inbox_of p t.summary l

-- row 20 after 6: the summary has n × L bytes, none above 3
unfoldable pub lent_judged : Plan → Tables → Outcome (Unit {0})
lent_judged p t =
    and_then (record_judged p t) (λ _.
    refuse_if (not (is_summary (p.rms * p.leaders) t.summary)) 20
    (accepted tt))

pub record RecordStep : Type 0 where
  pub answer : Outcome Sent
  pub tables : Tables

-- the answer's enum and the tables at exit
abbrev pub record_step_of : Result Sent Refusal → Tables → RecordStep
record_step_of answer t = record { answer = outcome answer; tables = t }

-- a refused call: the number, and the tables as they were
abbrev pub record_refusal : Tables → ℕ → RecordStep
record_refusal t number = record { answer = refused number; tables = t }

-- a resource manager's step on W and N, an acceptor's on Q and N, leader l's on its inbox and N; everything else as it was
abbrev pub on_states : Tables → Step → RecordStep
on_states t s = record { answer = s.answer; tables = with_network (with_states t s.table) s.network }

abbrev pub on_votes : Tables → Step → RecordStep
on_votes t s = record { answer = s.answer; tables = with_network (with_votes t s.table) s.network }

abbrev pub on_inbox : Plan → ℕ → Tables → Step → RecordStep
on_inbox p l t s = record { answer = s.answer; tables = with_network (with_inboxes t (with_inbox p t.inboxes l s.table)) s.network }

-- kinds 0 to 2 are a resource manager's, 3 an acceptor's, 4 to 8 a leader's, with `by l i v` for Decided(i, v); a role's step judges its own tables
-- again, to no effect
unfoldable pub role_step : Plan → (ℕ → ℕ → ℕ → Bool) → Tables → List ℕ → RecordStep
role_step p by t e =
    cond (leb (kind_of e) 2) (on_states t (rm_step p t.states t.network e))
    (cond (eqb (kind_of e) 3) (on_votes t (acceptor_step p t.votes t.network e))
    (on_inbox p (who_of e) t (leader_step_by p (by (who_of e)) (inbox_of p t.inboxes (who_of e)) t.network e)))

-- the step that was accepted, or the refusal
abbrev pub settled : Tables → Outcome RecordStep → RecordStep
settled t (accepted s) = s
settled t (refused number) = record_refusal t number

-- leader l reads its bytes of the summary
abbrev pub by_summary : Plan → Tables → ℕ → ℕ → ℕ → Bool
by_summary p t l = stands (summary_of p t l)

-- the bytes of the event's leader are marked, by the inbox after the step
abbrev pub marking : Plan → (List ℕ → ℕ → ℕ → Bool) → (List ℕ → View) → List ℕ → RecordStep → RecordStep
marking p isDecided view e r =
    let t = r.tables in
    let l = who_of e in
    let own = summary_after (isDecided (inbox_of p t.inboxes l)) (view t.network) e r.answer (summary_of p t l) in
    record { answer = r.answer; tables = with_summary t (with_inbox p t.summary l own) }

-- the event call
unfoldable pub record_step : Plan → Tables → List ℕ → RecordStep
record_step p t e =
    settled t (and_then (lent_judged p t) (λ _.
    refuse_if (not (is_event p e)) 7
    (accepted (marking p (λ inbox. decided p (messages p inbox)) (view_table p) e (role_step p (by_summary p t) t e)))))

-- leader l reads its inbox: Decide widened by the 2a of a weight that declines
abbrev pub by_inbox : Plan → Tables → ℕ → ℕ → ℕ → Bool
by_inbox p t l = decided_or_declined p (messages p (inbox_of p t.inboxes l))

-- a summary is neither read nor changed
unfoldable pub plain_step : Plan → Tables → List ℕ → RecordStep
plain_step p t e =
    settled t (and_then (record_judged p t) (λ _.
    refuse_if (not (is_event p e)) 7
    (accepted (role_step p (by_inbox p t) t e))))
