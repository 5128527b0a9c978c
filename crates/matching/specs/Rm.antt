-- What the match of a resource manager's step speaks of. The theorems are in proofs/Theorems.antt, their proofs in proofs/Rm/Laws.antt.
--     RMPrepare, RMChooseToAbort, RMRcvCommitMsg, RMRcvAbortMsg     the actions at a plan's constants
--     state_of                  the variables of module PaxosCommit, as W and N hold them
--     is_decision, Contradicts, Disabled, Full    the messages that a resource manager takes; rows 11, 12 and 13
--     rm_table_rows, rm_rows   the rows of "Refusals by place" for the call: those of its plan and tables, and all
-- Assumes nothing.
use Rattle.std.specs.Prelude.{ℕ, ◌<◌, Bool, true, false, List, ◌⊎◌, ◌≡◌, length}
use Rattle.message.specs.declared.Plan.{Plan}
use Rattle.message.specs.declared.Message as Wire
use Rattle.message.specs.declared.Message.TheVariants.{Phase1a, Phase1b, Phase2a, Phase2b, Decision}
use Rattle.message.specs.Plan.{is_plan}
use Rattle.message.specs.Rows.{Rows, end, guard, row, Either}
use Rattle.slots.specs.Table.{is_table_length, is_table, messages}
use Rattle.event.specs.Event.{kind_of, who_of, is_event}
use Rattle.tcommit.specs.RmState.{working, committed, aborted}
use Rattle.paxos_commit.specs.PaxosCommit as Source
use Rattle.paxos_commit.specs.PaxosCommit.{AState, State, Commit, Abort}
use Rattle.rm.specs.Rm.{are_states}
use Rattle.matching.specs.Reading.{is_rm, is_acceptor, is_majority_set, message_of, set_of, rm_state_of}
use Rattle.matching.specs.Call.{Enabled, HasRoom, SlotUnused, SlotHolds}

abbrev pub RMPrepare : Plan → ℕ → State → State → Type 0
RMPrepare p = Source.RMPrepare (is_rm p) (is_acceptor p) (is_majority_set p)

abbrev pub RMChooseToAbort : Plan → ℕ → State → State → Type 0
RMChooseToAbort p = Source.RMChooseToAbort (is_rm p) (is_acceptor p) (is_majority_set p)

abbrev pub RMRcvCommitMsg : Plan → ℕ → State → State → Type 0
RMRcvCommitMsg p = Source.RMRcvCommitMsg (is_rm p) (is_acceptor p) (is_majority_set p)

abbrev pub RMRcvAbortMsg : Plan → ℕ → State → State → Type 0
RMRcvAbortMsg p = Source.RMRcvAbortMsg (is_rm p) (is_acceptor p) (is_majority_set p)

-- W and N as rm_state and msgs; a_state is no resource manager's
abbrev pub state_of : Plan → List ℕ → List ℕ → (ℕ → ℕ → AState) → State
state_of p states network a_state = record { rm_state = rm_state_of states; a_state = a_state; msgs = set_of (messages p network) }

abbrev pub is_decision : Wire.Message → Bool
is_decision (Phase1a ins bal) = false
is_decision (Phase1b ins acc mbal vote) = false
is_decision (Phase2a ins bal val) = false
is_decision (Phase2b ins acc bal val) = false
is_decision (Decision val) = true

-- Commit while working or aborted; Abort while committed
abbrev pub Contradicts : ℕ → Wire.Message → Type 0
Contradicts state m =
    ((message_of m ≡ Commit) × ((state ≡ working) ⊎ (state ≡ aborted)))
    ⊎ ((message_of m ≡ Abort) × (state ≡ committed))

-- row 12: the kind's action is not enabled
abbrev pub Disabled : Plan → List ℕ → State → Type 1
Disabled p e s =
    Either
    ((kind_of e ≡ 0) × (Enabled p (RMPrepare p (who_of e)) s → ⊥))
    ((kind_of e ≡ 1) × (Enabled p (RMChooseToAbort p (who_of e)) s → ⊥))

-- row 13: the 2a to send is not in N, and N has no unused slot
abbrev pub Full : Plan → List ℕ → List ℕ → Type 0
Full p network e =
    ((kind_of e ≡ 0) × (HasRoom p network (Phase2a (who_of e) 0 1) → ⊥))
    ⊎ ((kind_of e ≡ 1) × (HasRoom p network (Phase2a (who_of e) 0 2) → ⊥))

-- a resource manager's own call: the plan and its two tables, then the rows below
abbrev pub rm_table_rows : Plan → List ℕ → List ℕ → Rows → Rows
rm_table_rows p states network rest =
    row 1 (is_plan p ≡ false)
    (row 2 ((length states ≡ p.rms → ⊥) ⊎ (is_table_length (length network) ≡ false))
    (row 3 (are_states states ≡ false)
    (row 5 (is_table p network ≡ false)
    rest)))

-- with the event, and the rows of kinds 0, 1 and 2
abbrev pub rm_rows : Plan → List ℕ → List ℕ → List ℕ → State → Rows
rm_rows p states network e s =
    rm_table_rows p states network
    (row 7 ((is_event p e ≡ false) ⊎ (2 < kind_of e))
    (row 8 ((kind_of e ≡ 2) × SlotUnused p network e)
    (row 9 ((kind_of e ≡ 2) × SlotHolds p network e (λ m. is_decision m ≡ false))
    (row 11 ((kind_of e ≡ 2) × SlotHolds p network e (λ m. Contradicts (rm_state_of states (who_of e)) m))
    (guard 12 (Disabled p e s)
    (row 13 (Full p network e)
    end))))))
