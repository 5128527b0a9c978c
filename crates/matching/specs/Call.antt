-- What is said of the calls of all roles.
--     Accepted               the call was accepted
--     Enabled                the source's, at a plan's constants
--     room_of, HasRoom       rows 13 and 14 do not apply: an equal message stands in the table, or a slot is unused
--     SlotUnused, SlotHolds  what the slot of N that an event names holds
--     HeldBy                 a table holds messages: its bytes are their slots, then unused ones
--     Stores                 a table after a message was stored there: its bytes are kept where the message stood, else they are those of the
--                            table that holds the message at the end
--     Sends                  that, and the answer: the first slot where the message stands
-- Its laws are in proofs/Call/Laws.antt. Assumes nothing.
use Rattle.std.specs.Prelude.{ℕ, ◌/◌, ◌≤◌, ◌<◌, true, ◌⊎◌, ◌≡◌, length}
use mathlib.Core.List.{List, [], ◌∷◌, ◌++◌, Memᴰ}
use Rattle.message.specs.declared.Plan.{Plan}
use Rattle.message.specs.declared.Message.{Message}
use Rattle.message.specs.Outcome.{Outcome, accepted}
use Rattle.message.specs.Form.{is_in_range}
use Rattle.slots.specs.Table.{slot_size, messages, table_of}
use Rattle.slots.specs.Send.{message_at}
use Rattle.change.specs.declared.Sent as SentType
use Rattle.change.specs.declared.Sent.TheVariants.{Slot}
use Rattle.event.specs.Event.{slot_number}
use Rattle.paxos_commit.specs.PaxosCommit as Source
use Rattle.paxos_commit.specs.PaxosCommit.{State}
use Rattle.matching.specs.Reading.{is_rm, is_acceptor, is_majority_set}

abbrev pub Accepted : Outcome SentType.Sent → Type 0
Accepted answer = (sent : SentType.Sent) × (answer ≡ accepted sent)

abbrev pub Enabled : Plan → (State → State → Type 0) → State → Type 1
Enabled p = Source.Enabled (is_rm p) (is_acceptor p) (is_majority_set p)

abbrev pub room_of : List ℕ → ℕ
room_of table = length table / slot_size

abbrev pub HasRoom : Plan → List ℕ → Message → Type 0
HasRoom p table m = Memᴰ m (messages p table) ⊎ (length (messages p table) < room_of table)

abbrev pub SlotUnused : Plan → List ℕ → List ℕ → Type 0
SlotUnused p network e = length (messages p network) ≤ slot_number e

abbrev pub SlotHolds : Plan → List ℕ → List ℕ → (Message → Type 0) → Type 0
SlotHolds p network e P = (m : Message) × (message_at (messages p network) (slot_number e) ≡ accepted m) × P m

abbrev pub HeldBy : Plan → List ℕ → List Message → Type 0
HeldBy p table ms =
    (table ≡ table_of p (room_of table) ms)
    × (length ms ≤ room_of table)
    × ((m : Message) → Memᴰ m ms → is_in_range p m ≡ true)

abbrev pub Stores : Plan → List ℕ → Message → List ℕ → Type 0
Stores p table m table' =
    (Memᴰ m (messages p table) × (table' ≡ table))
    ⊎ ((Memᴰ m (messages p table) → ⊥)
    × (messages p table' ≡ messages p table ++ (m ∷ []))
    × (table' ≡ table_of p (room_of table) (messages p table')))

pub record Sends (p : Plan) (network : List ℕ) (m : Message) (answer : Outcome SentType.Sent) (network' : List ℕ) : Type 0 where
  pub slot : ℕ
  pub answered : answer ≡ accepted (Slot slot)
  pub stands : message_at (messages p network') slot ≡ accepted m
  pub first : (k : ℕ) → k < slot → message_at (messages p network') k ≡ accepted m → ⊥
  pub stores : Stores p network m network'
