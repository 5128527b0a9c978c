-- What the match of an acceptor's step speaks of. The theorems are in proofs/Theorems.antt, their proofs in proofs/Acceptor/Laws.antt.
--     Phase1bAction, Phase2bAction     the actions at a plan's constants, on the message in the event's slot
--     state_of                          the variables of module PaxosCommit, as Q and N hold them
--     report_of                        the 1b that is sent
--     is_taken, InSlot                  the messages that an acceptor takes; what the event's slot holds
--     Disabled, Full                   rows 12 and 13
--     acceptor_table_rows, acceptor_rows  the rows of "Refusals by place" for the call: those of its plan and tables, and all
-- Assumes nothing.
use Rattle.std.specs.Prelude.{ℕ, ◌+◌, ◌*◌, Bool, true, false, List, ◌⊎◌, ◌≡◌, length, get_or}
use Rattle.message.specs.declared.Plan.{Plan}
use Rattle.message.specs.declared.Message as Wire
use Rattle.message.specs.declared.Message.TheVariants.{Phase1a, Phase1b, Phase2a, Phase2b, Decision}
use Rattle.message.specs.Outcome.{accepted}
use Rattle.message.specs.Plan.{is_plan}
use Rattle.message.specs.Rows.{Rows, end, guard, row, Either}
use Rattle.slots.specs.Table.{is_table_length, is_table, messages}
use Rattle.slots.specs.Send.{message_at}
use Rattle.event.specs.Event.{kind_of, who_of, slot_number, is_event}
use Rattle.paxos_commit.specs.PaxosCommit as Source
use Rattle.paxos_commit.specs.PaxosCommit.{Val, State}
use Rattle.votes.specs.Votes.{are_votes}
use Rattle.acceptor.specs.Acceptor.{vote_at, vote_of}
use Rattle.matching.specs.Reading.{is_rm, is_acceptor, is_majority_set, val_of, set_of, a_state_of}
use Rattle.matching.specs.Call.{Enabled, HasRoom, SlotUnused, SlotHolds}

-- of an acceptor, for the message 1a(ins, bal)
abbrev pub Phase1bAction : Plan → ℕ → ℕ → ℕ → State → State → Type 0
Phase1bAction p = Source.Phase1bOn (is_rm p) (is_acceptor p) (is_majority_set p)

-- of an acceptor, for the message 2a(ins, bal, val)
abbrev pub Phase2bAction : Plan → ℕ → ℕ → ℕ → Val → State → State → Type 0
Phase2bAction p = Source.Phase2bOn (is_rm p) (is_acceptor p) (is_majority_set p)

-- Q and N as a_state and msgs; rm_state is no acceptor's
abbrev pub state_of : Plan → List ℕ → List ℕ → (ℕ → ℕ) → State
state_of p votes network rm_state = record { rm_state = rm_state; a_state = a_state_of p votes; msgs = set_of (messages p network) }

-- the 1b that is sent: the ballot, and the acceptor's last vote
abbrev pub report_of : Plan → List ℕ → ℕ → ℕ → ℕ → Wire.Message
report_of p votes acc ins bal = Phase1b ins acc bal (vote_of (get_or votes (vote_at p ins acc + 1) 0) (get_or votes (vote_at p ins acc + 2) 0))

abbrev pub is_taken : Wire.Message → Bool
is_taken (Phase1a ins bal) = true
is_taken (Phase1b ins acc mbal vote) = false
is_taken (Phase2a ins bal val) = true
is_taken (Phase2b ins acc bal val) = false
is_taken (Decision val) = false

-- the event's slot holds this message
abbrev pub InSlot : Plan → List ℕ → List ℕ → Wire.Message → Type 0
InSlot p network e m = message_at (messages p network) (slot_number e) ≡ accepted m

-- row 12: the action on the message in the slot is not enabled
abbrev pub Disabled : Plan → List ℕ → List ℕ → State → Type 1
Disabled p network e s =
    Either
    ((ins bal : ℕ) × InSlot p network e (Phase1a ins bal) × (Enabled p (Phase1bAction p (who_of e) ins bal) s → ⊥))
    ((ins bal val : ℕ) × InSlot p network e (Phase2a ins bal val) × (Enabled p (Phase2bAction p (who_of e) ins bal (val_of val)) s → ⊥))

-- row 13: the 1b or 2b to send is not in N, and N has no unused slot
abbrev pub Full : Plan → List ℕ → List ℕ → List ℕ → Type 0
Full p votes network e =
    ((ins bal : ℕ) × InSlot p network e (Phase1a ins bal) × (HasRoom p network (report_of p votes (who_of e) ins bal) → ⊥))
    ⊎ ((ins bal val : ℕ) × InSlot p network e (Phase2a ins bal val) × (HasRoom p network (Phase2b ins (who_of e) bal val) → ⊥))

-- an acceptor's own call: the plan and its two tables, then the rows below
abbrev pub acceptor_table_rows : Plan → List ℕ → List ℕ → Rows → Rows
acceptor_table_rows p votes network rest =
    row 1 (is_plan p ≡ false)
    (row 2 ((length votes ≡ 3 * (p.rms * p.acceptors) → ⊥) ⊎ (is_table_length (length network) ≡ false))
    (row 4 (are_votes votes ≡ false)
    (row 5 (is_table p network ≡ false)
    rest)))

-- with the event, and the rows of kind 3
abbrev pub acceptor_rows : Plan → List ℕ → List ℕ → List ℕ → State → Rows
acceptor_rows p votes network e s =
    acceptor_table_rows p votes network
    (row 7 ((is_event p e ≡ false) ⊎ (kind_of e ≡ 3 → ⊥))
    (row 8 (SlotUnused p network e)
    (row 9 (SlotHolds p network e (λ m. is_taken m ≡ false))
    (guard 12 (Disabled p network e s)
    (row 13 (Full p votes network e)
    end)))))
