-- What the match of a leader's step speaks of. The theorems are in proofs/Theorems.antt, their proofs in proofs/Leader/Laws.antt.
--     Phase1aAction, Phase2aAction     the actions at a plan's constants; `seen` is what Phase2a's conditions are read from
--     CommitBy, AbortBy                Decide, by what counts as decided
--     DecidedIn, DecidedOrDeclinedIn   what is decided by the messages of a set; and what Decide as widened takes for it (document 02, Paper 6)
--     CommitAction, AbortAction        Decide widened, by the messages of a set
--     state_of                          the variables of module PaxosCommit: msgs as N holds them; a leader changes no other
--     is_received, proposed, Reports   the messages that a leader takes; the 2a that it proposes; the votes that 1b messages report
--     NotOwned, DisabledBy, Full, InboxFull, WrongSummary     rows 10, 12, 13, 14 and 20
--     leader_table_rows, leader_event_rows  the rows of "Refusals by place" for the call: those of its plan and tables, those of its event
--     leader_rows_by, leader_rows      all of them: without a summary, by what counts as decided; with it, and Decided read from it
-- Assumes nothing.
pub mod Decided
use Rattle.std.specs.Prelude.{ℕ, ◌<◌, Bool, true, false, ◌⊎◌, ◌≡◌, eqb, length, get_or, Some}
use mathlib.Core.List.{List, Memᴰ}
use Rattle.message.specs.declared.Plan.{Plan}
use Rattle.message.specs.declared.Message as Wire
use Rattle.message.specs.declared.Message.TheVariants.{Phase1a, Phase1b, Phase2a, Phase2b, Decision}
use Rattle.message.specs.Plan.{is_plan}
use Rattle.message.specs.Rows.{Rows, end, guard, row, Either}
use Rattle.slots.specs.Table.{is_table_length, is_table, messages}
use Rattle.event.specs.Event.{kind_of, who_of, high_of, low_of, is_event}
use Rattle.inbox.specs.Inbox.{highest_report, proposal}
use Rattle.paxos_commit.specs.PaxosCommit as Source
use Rattle.paxos_commit.specs.PaxosCommit.{Val, Message, AState, State}
use Rattle.paxos_commit.specs.Widened.{DecidedOrDeclined}
use Rattle.leader.specs.Leader.{owns, stands}
use Rattle.matching.specs.Reading.{is_rm, is_acceptor, is_majority_set, set_of}
use Rattle.matching.specs.Call.{Enabled, HasRoom, SlotUnused, SlotHolds}
use Rattle.matching.specs.Leader.Decided.{DecidedBy}
use Rattle.message.specs.Form.{cast_vote}

abbrev pub Phase1aAction : Plan → ℕ → ℕ → State → State → Type 0
Phase1aAction p = Source.Phase1a (is_rm p) (is_acceptor p) (is_majority_set p)

abbrev pub Phase2aAction : Plan → (Message → Type 0) → ℕ → ℕ → State → State → Type 0
Phase2aAction p = Source.Phase2aFrom (is_rm p) (is_acceptor p) (is_majority_set p)

-- Decide, by what counts as decided
abbrev pub CommitBy : Plan → (ℕ → Val → Type 0) → State → State → Type 0
CommitBy p = Source.DecideCommitWhere (is_rm p) (is_acceptor p) (is_majority_set p)

abbrev pub AbortBy : Plan → (ℕ → Val → Type 0) → State → State → Type 0
AbortBy p = Source.DecideAbortWhere (is_rm p) (is_acceptor p) (is_majority_set p)

-- what the source calls decided, by the messages of a set
abbrev pub DecidedIn : Plan → (Message → Type 0) → ℕ → Val → Type 0
DecidedIn p = Source.Decided (is_rm p) (is_acceptor p) (is_majority_set p)

-- that, and aborted also where the resource manager has proposed so at ballot 0 (document 001, section 4.2); and Decide by it
abbrev pub DecidedOrDeclinedIn : Plan → (Message → Type 0) → ℕ → Val → Type 0
DecidedOrDeclinedIn p = DecidedOrDeclined (is_rm p) (is_acceptor p) (is_majority_set p)

abbrev pub CommitAction : Plan → (Message → Type 0) → State → State → Type 0
CommitAction p seen = CommitBy p (DecidedOrDeclinedIn p seen)

abbrev pub AbortAction : Plan → (Message → Type 0) → State → State → Type 0
AbortAction p seen = AbortBy p (DecidedOrDeclinedIn p seen)

-- N as msgs; rm_state and a_state are no leader's
abbrev pub state_of : Plan → List ℕ → (ℕ → ℕ) → (ℕ → ℕ → AState) → State
state_of p network rm_state a_state = record { rm_state = rm_state; a_state = a_state; msgs = set_of (messages p network) }

-- 1b and 2b, and of the 2a messages those at ballot 0
abbrev pub is_received : Wire.Message → Bool
is_received (Phase1a ins bal) = false
is_received (Phase1b ins acc mbal vote) = true
is_received (Phase2a ins bal val) = eqb bal 0
is_received (Phase2b ins acc bal val) = true
is_received (Decision val) = false

-- kind 6: the value of the highest report in the inbox, of several the first; 2 where none reports a vote
abbrev pub proposed : Plan → List ℕ → List ℕ → Wire.Message
proposed p inbox e = Phase2a (high_of e) (low_of e) (proposal (highest_report (high_of e) (low_of e) (messages p inbox)))

-- a 1b of (i, b) among these messages reports a vote at ballot c
abbrev pub Reports : List Wire.Message → ℕ → ℕ → ℕ → Type 0
Reports ms i b c = (a v : ℕ) × Memᴰ (Phase1b i a b (cast_vote c v)) ms

-- row 10: the ballot of kinds 5 and 6 is not the leader's
abbrev pub NotOwned : Plan → List ℕ → Type 0
NotOwned p e = ((kind_of e ≡ 5) ⊎ (kind_of e ≡ 6)) × (owns p (who_of e) (low_of e) ≡ false)

-- row 12: the kind's action is not enabled, Phase2a read from the inbox and Decide by what counts as decided
abbrev pub DisabledBy : Plan → (ℕ → Val → Type 0) → List ℕ → List ℕ → State → Type 1
DisabledBy p Decided inbox e s =
    Either
    ((kind_of e ≡ 6) × (Enabled p (Phase2aAction p (set_of (messages p inbox)) (low_of e) (high_of e)) s → ⊥))
    (Either
    ((kind_of e ≡ 7) × (Enabled p (CommitBy p Decided) s → ⊥))
    ((kind_of e ≡ 8) × (Enabled p (AbortBy p Decided) s → ⊥)))

-- row 13: the message to send is not in N, and N has no unused slot
abbrev pub Full : Plan → List ℕ → List ℕ → List ℕ → Type 0
Full p inbox network e =
    ((kind_of e ≡ 5) × (HasRoom p network (Phase1a (high_of e) (low_of e)) → ⊥))
    ⊎ (((kind_of e ≡ 6) × (HasRoom p network (proposed p inbox e) → ⊥))
    ⊎ (((kind_of e ≡ 7) × (HasRoom p network (Decision 1) → ⊥))
    ⊎ ((kind_of e ≡ 8) × (HasRoom p network (Decision 2) → ⊥))))

-- row 14: likewise for the inbox, of the received message and of the leader's own 2a
abbrev pub InboxFull : Plan → List ℕ → List ℕ → List ℕ → Type 0
InboxFull p inbox network e =
    ((kind_of e ≡ 4) × SlotHolds p network e (λ m. HasRoom p inbox m → ⊥))
    ⊎ ((kind_of e ≡ 6) × (HasRoom p inbox (proposed p inbox e) → ⊥))

-- row 20: the summary does not have `count` bytes, or one of them is above 3
abbrev pub WrongSummary : ℕ → List ℕ → Type 0
WrongSummary count summary = (length summary ≡ count → ⊥) ⊎ ((i : ℕ) × (3 < get_or summary i 0))

-- a leader's own call: the plan and its two tables, then the rows below
abbrev pub leader_table_rows : Plan → List ℕ → List ℕ → Rows → Rows
leader_table_rows p inbox network rest =
    row 1 (is_plan p ≡ false)
    (row 2 ((is_table_length (length inbox) ≡ false) ⊎ (is_table_length (length network) ≡ false))
    (row 5 (is_table p network ≡ false)
    (row 6 (is_table p inbox ≡ false)
    rest)))

-- the event, and the rows of kinds 4 to 8
abbrev pub leader_event_rows : Plan → (ℕ → Val → Type 0) → List ℕ → List ℕ → List ℕ → State → Rows
leader_event_rows p Decided inbox network e s =
    row 7 ((is_event p e ≡ false) ⊎ (kind_of e < 4))
    (row 8 ((kind_of e ≡ 4) × SlotUnused p network e)
    (row 9 ((kind_of e ≡ 4) × SlotHolds p network e (λ m. is_received m ≡ false))
    (row 10 (NotOwned p e)
    (guard 12 (DisabledBy p Decided inbox e s)
    (row 13 (Full p inbox network e)
    (row 14 (InboxFull p inbox network e)
    end))))))

-- the call without a summary
abbrev pub leader_rows_by : Plan → (ℕ → Val → Type 0) → List ℕ → List ℕ → List ℕ → State → Rows
leader_rows_by p Decided inbox network e s = leader_table_rows p inbox network (leader_event_rows p Decided inbox network e s)

-- a leader's own call: row 20 before the event's rows, and Decided read from the summary
abbrev pub leader_rows : Plan → List ℕ → List ℕ → List ℕ → List ℕ → State → Rows
leader_rows p inbox summary network e s =
    leader_table_rows p inbox network
    (row 20 (WrongSummary p.rms summary)
    (leader_event_rows p (DecidedBy (stands summary)) inbox network e s))
