-- The published action of an event (demand 2). What is proved of it is in proofs/Action/Laws.antt, and stated in the crate demands.
--     received       what the event's leader has received: its own inbox (`OwnStands` of Record.antt is what it reads as Decided)
--     ActsOnSlot     the published action of an acceptor on the message in the event's slot
--     Action         the published action of an event, of each kind
--     Copies         what a receipt does
-- The actions are module PaxosCommit's at the plan's constants (crate matching). Assumes nothing.
use Rattle.std.specs.Prelude.{ℕ, true, List, ◌⊎◌, ◌≡◌}
use Rattle.message.specs.declared.Plan.{Plan}
use Rattle.message.specs.declared.Message as Wire
use Rattle.message.specs.declared.Message.TheVariants.{Phase1a, Phase2a}
use Rattle.slots.specs.Table.{messages}
use Rattle.event.specs.Event.{kind_of, who_of, high_of, low_of}
use Rattle.paxos_commit.specs.PaxosCommit.{State, Message, Commit, Abort, UnchangedMsgs}
use Rattle.record.specs.Record.{Tables}
use Rattle.matching.specs.Reading.{is_rm, is_acceptor, is_majority_set, val_of, message_of, set_of}
use Rattle.matching.specs.Call.{SlotHolds, Stores}
use Rattle.matching.specs.Rm.{RMPrepare, RMChooseToAbort, RMRcvCommitMsg, RMRcvAbortMsg}
use Rattle.matching.specs.Acceptor.{Phase1bAction, Phase2bAction, InSlot}
use Rattle.matching.specs.Leader.{Phase1aAction, Phase2aAction, CommitBy, AbortBy, is_received}
use Rattle.conformance.specs.Record.{own_inbox, OwnStands, heard}

-- what the event's leader has received
abbrev pub received : Plan → Tables → List ℕ → Message → Type 0
received p t e = set_of (messages p (own_inbox p t e))

-- an acceptor acts on the 1a or the 2a in the event's slot
abbrev pub ActsOnSlot : Plan → Tables → List ℕ → State → State → Type 0
ActsOnSlot p t e s s' =
    ((ins bal : ℕ) × InSlot p t.network e (Phase1a ins bal) × Phase1bAction p (who_of e) ins bal s s')
    ⊎ ((ins bal val : ℕ) × InSlot p t.network e (Phase2a ins bal val) × Phase2bAction p (who_of e) ins bal (val_of val) s s')

-- the action of the event e on a record that holds the tables t, between two states: of each kind its published action. A resource manager acts
-- on the decision in the event's slot; a leader's conditions are read from its own inbox, Decided from its bytes of the summary; by a receipt the
-- variables stay
pub record Action (p : Plan) (t : Tables) (e : List ℕ) (s s' : State) : Type 0 where
  pub kind_0 : kind_of e ≡ 0 → RMPrepare p (who_of e) s s'
  pub kind_1 : kind_of e ≡ 1 → RMChooseToAbort p (who_of e) s s'
  pub kind_2 : kind_of e ≡ 2
      → (SlotHolds p t.network e (λ m. message_of m ≡ Commit) × RMRcvCommitMsg p (who_of e) s s')
      ⊎ (SlotHolds p t.network e (λ m. message_of m ≡ Abort) × RMRcvAbortMsg p (who_of e) s s')
  pub kind_3 : kind_of e ≡ 3 → ActsOnSlot p t e s s'
  pub kind_4 : kind_of e ≡ 4
      → (s'.rm_state ≡ s.rm_state) × (s'.a_state ≡ s.a_state) × UnchangedMsgs (is_rm p) (is_acceptor p) (is_majority_set p) s s'
  pub kind_5 : kind_of e ≡ 5 → Phase1aAction p (low_of e) (high_of e) s s'
  pub kind_6 : kind_of e ≡ 6 → Phase2aAction p (received p t e) (low_of e) (high_of e) s s'
  pub kind_7 : kind_of e ≡ 7 → CommitBy p (OwnStands p t e) s s'
  pub kind_8 : kind_of e ≡ 8 → AbortBy p (OwnStands p t e) s s'

-- a receipt: the leader's inbox gains the 1b, 2b or 2a at ballot 0 in the event's slot, unless it is there; its byte i of the summary gains v's bit of a
-- 2b for (i, v) where Decided(i, v) holds in the inbox then, and aborted's of the 2a for (i, 0, aborted); and no other byte changes
abbrev pub Copies : Plan → Tables → List ℕ → Tables → Type 0
Copies p t e t' =
    (m : Wire.Message) × InSlot p t.network e m
    × (is_received m ≡ true)
    × ((inbox : List ℕ) × Stores p (own_inbox p t e) m inbox
    × (t' ≡ heard p t e m inbox))
