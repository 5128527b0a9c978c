-- What the match of the event call with module PaxosCommit speaks of. The theorems are in proofs/Theorems.antt, their proofs in Record/.
--     record_state   the variables rmState, aState and msgs, as W, Q and N hold them
--     own_inbox, own_summary, OwnStands   the inbox of the event's leader; its bytes of the summary, and what they say is Decided
--     on_own         a leader's own step as a step of the record
--     table_rows, summary_row, lent_rows, event_rows, record_rows  the rows of "Refusals by place" for the event call: of the plan and the four tables,
--                    the summary's, both, of the event, and all
--     open_rows       those of opening
--     SoundStates, SoundVotes, SoundInboxes, SoundSummary, SoundOthers     the tables that a role's own call is not lent
--     EventForm, inboxes_up_to   row 7 and the parts of I in document 01's words
--     heard          the tables after a receipt
--     Acted          what an accepted event call does: a case for each published action, and for the receipt
-- The actions at a plan's constants, and each role's part of a row, are those of the crate matching. Assumes nothing.
use Rattle.std.specs.Prelude.{ℕ, zero, suc, ◌+◌, ◌*◌, ◌%◌, ◌≤◌, ◌<◌, true, false, List, [], ◌++◌, ◌⊎◌, ◌≡◌, length, set}
use Rattle.message.specs.declared.Plan.{Plan}
use Rattle.message.specs.declared.Message as Wire
use Rattle.message.specs.declared.Message.TheVariants.{Phase1a, Phase2a, Phase2b, Decision}
use Rattle.message.specs.Outcome.{Outcome, accepted}
use Rattle.message.specs.Plan.{is_plan}
use Rattle.message.specs.Rows.{Rows, end, guard, row, Either}
use Rattle.slots.specs.Table.{is_table_length, is_table, messages}
use Rattle.change.specs.declared.Sent.{Sent}
use Rattle.change.specs.declared.Sent.TheVariants.{Quiet}
use Rattle.event.specs.Event.{kind_of, who_of, high_of, low_of, is_event}
use Rattle.tcommit.specs.RmState.{prepared, committed, aborted}
use Rattle.paxos_commit.specs.PaxosCommit.{State, Val, Message, phase2a, Commit, Abort}
use Rattle.rm.specs.Rm.{are_states}
use Rattle.votes.specs.Votes.{are_votes}
use Rattle.acceptor.specs.Acceptor.{vote_at}
use Rattle.inbox.specs.Inbox.{decided}
use Rattle.summary.specs.Summary.{marked}
use Rattle.leader.specs.Leader.{owns, is_summary, stands, LeaderStep}
use Rattle.record.specs.Record.{Tables, with_states, with_votes, with_network, with_inboxes, with_summary, inbox_size, inbox_of, with_inbox, summary_of, RecordStep}
use Rattle.matching.specs.Reading.{is_rm, is_acceptor, val_of, message_of, set_of, rm_state_of, a_state_of}
use Rattle.matching.specs.Call.{SlotUnused, SlotHolds, Sends, Stores}
use Rattle.matching.specs.Rm as Rm
use Rattle.matching.specs.Rm.{RMPrepare, RMChooseToAbort, RMRcvCommitMsg, RMRcvAbortMsg}
use Rattle.matching.specs.Acceptor as Acceptor
use Rattle.matching.specs.Acceptor.{Phase1bAction, Phase2bAction, report_of, InSlot}
use Rattle.matching.specs.Leader as Leader
use Rattle.matching.specs.Leader.{Phase1aAction, Phase2aAction, CommitBy, AbortBy, proposed, NotOwned, WrongSummary}
use Rattle.matching.specs.Leader.Decided.{DecidedBy}

-- W as rm_state, Q as a_state, N as msgs
abbrev pub record_state : Plan → Tables → State
record_state p t = record { rm_state = rm_state_of t.states; a_state = a_state_of p t.votes; msgs = set_of (messages p t.network) }

-- the inbox of leader `who`
abbrev pub own_inbox : Plan → Tables → List ℕ → List ℕ
own_inbox p t e = inbox_of p t.inboxes (who_of e)

-- its bytes of the summary
abbrev pub own_summary : Plan → Tables → List ℕ → List ℕ
own_summary p t e = summary_of p t (who_of e)

-- what they say is Decided
abbrev pub OwnStands : Plan → Tables → List ℕ → ℕ → Val → Type 0
OwnStands p t e = DecidedBy (stands (own_summary p t e))

-- leader l's own step on its inbox, its bytes of the summary and N; everything else as it was
abbrev pub on_own : Plan → ℕ → Tables → LeaderStep → RecordStep
on_own p l t s =
    record {
      answer = s.step.answer;
      tables =
          with_summary (with_network (with_inboxes t (with_inbox p t.inboxes l s.step.table)) s.step.network)
          (with_inbox p t.summary l s.summary);
    }

-- row 2: W not n bytes; Q not 3 × n × A; N not whole slots or over 1,024; I not L equal parts of whole slots or a part over 1,024
abbrev pub WrongLengths : Plan → Tables → Type 0
WrongLengths p t =
    (length t.states ≡ p.rms → ⊥)
    ⊎ ((length t.votes ≡ 3 * (p.rms * p.acceptors) → ⊥)
    ⊎ ((is_table_length (length t.network) ≡ false)
    ⊎ ((length t.inboxes % p.leaders ≡ 0 → ⊥)
    ⊎ (is_table_length (inbox_size p t.inboxes) ≡ false))))

-- row 9: the message in the slot is of no kind that the role's row names
abbrev pub NotTaken : Plan → Tables → List ℕ → Type 0
NotTaken p t e =
    ((kind_of e ≡ 2) × SlotHolds p t.network e (λ m. Rm.is_decision m ≡ false))
    ⊎ (((kind_of e ≡ 3) × SlotHolds p t.network e (λ m. Acceptor.is_taken m ≡ false))
    ⊎ ((kind_of e ≡ 4) × SlotHolds p t.network e (λ m. Leader.is_received m ≡ false)))

-- row 12: the published action is not enabled; a leader reads Phase2a's conditions from its own inbox, and Decided from its bytes of the summary
abbrev pub Disabled : Plan → Tables → List ℕ → Type 1
Disabled p t e =
    Either (Rm.Disabled p e (record_state p t))
    (Either ((kind_of e ≡ 3) × Acceptor.Disabled p t.network e (record_state p t))
    (Leader.DisabledBy p (OwnStands p t e) (own_inbox p t e) e (record_state p t)))

-- row 13
abbrev pub Full : Plan → Tables → List ℕ → Type 0
Full p t e =
    Rm.Full p t.network e
    ⊎ (((kind_of e ≡ 3) × Acceptor.Full p t.votes t.network e)
    ⊎ Leader.Full p (own_inbox p t e) t.network e)

-- rows 1 to 6, and those below them: the plan and the four tables
abbrev pub table_rows : Plan → Tables → Rows → Rows
table_rows p t rest =
    row 1 (is_plan p ≡ false)
    (row 2 (WrongLengths p t)
    (row 3 (are_states t.states ≡ false)
    (row 4 (are_votes t.votes ≡ false)
    (row 5 (is_table p t.network ≡ false)
    (row 6 ((l : ℕ) × (l < p.leaders) × (is_table p (inbox_of p t.inboxes l) ≡ false))
    rest)))))

-- with row 20 after them: all that is lent
abbrev pub summary_row : Plan → Tables → Rows → Rows
summary_row p t rest = row 20 (WrongSummary (p.rms * p.leaders) t.summary) rest

abbrev pub lent_rows : Plan → Tables → Rows → Rows
lent_rows p t rest = table_rows p t (summary_row p t rest)

-- opening, which asks for the summary's length alone
abbrev pub open_rows : Plan → Tables → Rows
open_rows p t = row 1 (is_plan p ≡ false) (row 2 (WrongLengths p t) (row 20 (length t.summary ≡ p.rms * p.leaders → ⊥) end))

-- the event, and the rows of all nine kinds
abbrev pub event_rows : Plan → Tables → List ℕ → Rows
event_rows p t e =
    row 7 (is_event p e ≡ false)
    (row 8 ((2 ≤ kind_of e) × (kind_of e ≤ 4) × SlotUnused p t.network e)
    (row 9 (NotTaken p t e)
    (row 10 (NotOwned p e)
    (row 11 ((kind_of e ≡ 2) × SlotHolds p t.network e (λ m. Rm.Contradicts (rm_state_of t.states (who_of e)) m))
    (guard 12 (Disabled p t e)
    (row 13 (Full p t e)
    (row 14 (Leader.InboxFull p (own_inbox p t e) t.network e)
    end)))))))

-- the event call
abbrev pub record_rows : Plan → Tables → List ℕ → Rows
record_rows p t e = lent_rows p t (event_rows p t e)

-- row 7: who is a resource manager, an acceptor or a leader; kinds 0, 1, 7 and 8 have zeros, 5 and 6 an instance and any ballot
abbrev pub EventForm : Plan → ℕ → ℕ → ℕ → ℕ → Type 0
EventForm p kind who high low =
    ((kind ≤ 1) × (who < p.rms) × (high ≡ 0) × (low ≡ 0))
    ⊎ (((kind ≡ 2) × (who < p.rms))
    ⊎ (((kind ≡ 3) × (who < p.acceptors))
    ⊎ (((kind ≡ 4) × (who < p.leaders))
    ⊎ (((4 < kind) × (kind ≤ 6) × (who < p.leaders) × (high < p.rms))
    ⊎ ((6 < kind) × (kind ≤ 8) × (who < p.leaders) × (high ≡ 0) × (low ≡ 0))))))

-- the first so many inboxes, one after the other
unfoldable pub inboxes_up_to : Plan → List ℕ → ℕ → List ℕ
inboxes_up_to p inboxes zero = []
inboxes_up_to p inboxes (suc l) = inboxes_up_to p inboxes l ++ inbox_of p inboxes l

-- W is as rows 2 and 3 ask
abbrev pub SoundStates : Plan → Tables → Type 0
SoundStates p t = (length t.states ≡ p.rms) × (are_states t.states ≡ true)

-- Q is as rows 2 and 4 ask
abbrev pub SoundVotes : Plan → Tables → Type 0
SoundVotes p t = (length t.votes ≡ 3 * (p.rms * p.acceptors)) × (are_votes t.votes ≡ true)

-- I is as rows 2 and 6 ask
abbrev pub SoundInboxes : Plan → Tables → Type 0
SoundInboxes p t =
    (length t.inboxes % p.leaders ≡ 0)
    × (is_table_length (inbox_size p t.inboxes) ≡ true)
    × ((l : ℕ) → l < p.leaders → is_table p (inbox_of p t.inboxes l) ≡ true)

-- the summary is as row 20 asks
abbrev pub SoundSummary : Plan → Tables → Type 0
SoundSummary p t = is_summary (p.rms * p.leaders) t.summary ≡ true

-- I is L equal parts, and the inboxes of the other leaders are tables; the summary has n × L bytes, and none of the other leaders' is above 3
abbrev pub SoundOthers : Plan → Tables → ℕ → Type 0
SoundOthers p t l =
    (length t.inboxes % p.leaders ≡ 0)
    × ((k : ℕ) → k < p.leaders → (k ≡ l → ⊥) → is_table p (inbox_of p t.inboxes k) ≡ true)
    × (length t.summary ≡ p.rms * p.leaders)
    × ((k : ℕ) → k < p.leaders → (k ≡ l → ⊥) → is_summary p.rms (summary_of p t k) ≡ true)

-- the tables after the event's leader received m: its inbox, and its bytes of the summary marked
abbrev pub heard : Plan → Tables → List ℕ → Wire.Message → List ℕ → Tables
heard p t e m inbox =
    with_summary (with_inboxes t (with_inbox p t.inboxes (who_of e) inbox))
    (with_inbox p t.summary (who_of e) (marked (decided p (messages p inbox)) (own_summary p t e) m))

-- an event call on the tables t that answers `answer` and leaves t': the kind and who acts; the published action; the message that is sent and
-- the slot that is answered, or quiet; and all tables
module _ (p : Plan) (t : Tables) (e : List ℕ) (answer : Outcome Sent) (t' : Tables) where
  -- N gains m, and the answer is the first slot where it stands
  abbrev Sent-in-N : Wire.Message → Type 0
  Sent-in-N m = Sends p t.network m answer t'.network

  -- the first of the three bytes of Q of the instance and the acceptor: mbal, bal, val
  abbrev at : ℕ → ℕ
  at ins = vote_at p ins (who_of e)

  -- what the leader has received
  abbrev seen : Message → Type 0
  seen = set_of (messages p (own_inbox p t e))

  -- the value that Phase2a proposes
  abbrev value_of : Phase2aAction p seen (low_of e) (high_of e) (record_state p t) (record_state p t') → Val
  value_of acts = acts.1.2

  pub data Acted : Type 0 where
    prepares : kind_of e ≡ 0 → is_rm p (who_of e) → RMPrepare p (who_of e) (record_state p t) (record_state p t') → Sent-in-N (Phase2a (who_of e) 0 1)
        → t' ≡ with_network (with_states t (set t.states (who_of e) prepared)) t'.network → Acted
    chooses_to_abort : kind_of e ≡ 1 → is_rm p (who_of e) → RMChooseToAbort p (who_of e) (record_state p t) (record_state p t')
        → Sent-in-N (Phase2a (who_of e) 0 2)
        → t' ≡ with_network (with_states t (set t.states (who_of e) aborted)) t'.network → Acted
    receives_commit : kind_of e ≡ 2 → is_rm p (who_of e) → SlotHolds p t.network e (λ m. message_of m ≡ Commit)
        → RMRcvCommitMsg p (who_of e) (record_state p t) (record_state p t') → answer ≡ accepted Quiet
        → t' ≡ with_states t (set t.states (who_of e) committed) → Acted
    receives_abort : kind_of e ≡ 2 → is_rm p (who_of e) → SlotHolds p t.network e (λ m. message_of m ≡ Abort)
        → RMRcvAbortMsg p (who_of e) (record_state p t) (record_state p t') → answer ≡ accepted Quiet
        → t' ≡ with_states t (set t.states (who_of e) aborted) → Acted
    promises : kind_of e ≡ 3 → is_acceptor p (who_of e) → (ins bal : ℕ) → InSlot p t.network e (Phase1a ins bal)
        → Phase1bAction p (who_of e) ins bal (record_state p t) (record_state p t') → Sent-in-N (report_of p t.votes (who_of e) ins bal)
        → t' ≡ with_network (with_votes t (set t.votes (at ins) bal)) t'.network → Acted
    casts_vote : kind_of e ≡ 3 → is_acceptor p (who_of e) → (ins bal val : ℕ) → InSlot p t.network e (Phase2a ins bal val)
        → Phase2bAction p (who_of e) ins bal (val_of val) (record_state p t) (record_state p t') → Sent-in-N (Phase2b ins (who_of e) bal val)
        → t' ≡ with_network (with_votes t (set (set (set t.votes (at ins) bal) (at ins + 1) bal) (at ins + 2) val)) t'.network → Acted
    receives : kind_of e ≡ 4 → who_of e < p.leaders → (m : Wire.Message) → InSlot p t.network e m → Leader.is_received m ≡ true
        → answer ≡ accepted Quiet → (inbox : List ℕ) → Stores p (own_inbox p t e) m inbox
        → t' ≡ heard p t e m inbox → Acted
    opens_ballot : kind_of e ≡ 5 → who_of e < p.leaders → is_rm p (high_of e) → owns p (who_of e) (low_of e) ≡ true
        → Phase1aAction p (low_of e) (high_of e) (record_state p t) (record_state p t') → Sent-in-N (Phase1a (high_of e) (low_of e))
        → t' ≡ with_network t t'.network → Acted
    proposes : kind_of e ≡ 6 → who_of e < p.leaders → is_rm p (high_of e) → owns p (who_of e) (low_of e) ≡ true
        → (acts : Phase2aAction p seen (low_of e) (high_of e) (record_state p t) (record_state p t'))
        → phase2a (high_of e) (low_of e) (value_of acts) ≡ message_of (proposed p (own_inbox p t e) e) → Sent-in-N (proposed p (own_inbox p t e) e)
        → (inbox : List ℕ) → Stores p (own_inbox p t e) (proposed p (own_inbox p t e) e) inbox
        → t' ≡ with_network (with_inboxes t (with_inbox p t.inboxes (who_of e) inbox)) t'.network → Acted
    commits : kind_of e ≡ 7 → who_of e < p.leaders → CommitBy p (OwnStands p t e) (record_state p t) (record_state p t') → Sent-in-N (Decision 1)
        → t' ≡ with_network t t'.network → Acted
    aborts : kind_of e ≡ 8 → who_of e < p.leaders → AbortBy p (OwnStands p t e) (record_state p t) (record_state p t') → Sent-in-N (Decision 2)
        → t' ≡ with_network t t'.network → Acted
