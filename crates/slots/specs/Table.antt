-- Slot tables: N, or one inbox (document 01, "The plan and four tables"; rows 2, 5 and 6 of "Refusals by place"; document 02, Paper 1: slots of 8 bytes).
--     max_slots, is_table_length  how many bytes a table may have
--     slots                      a table's slots, in order
--     is_zero, read_slot           what one slot holds: nothing, a message followed by zeros, or neither
--     read_table, is_table       what all slots hold; whether none is bad and used slots come first
--     messages                   the messages in a table, in order
--     table_of                    the table of so many slots that holds these messages
--     same_bytes, store_at       whether two slots are the same; a slot's bytes replaced
-- Its laws are in proofs/Table/Laws.antt, and what a judged table holds in proofs/Table/Holds.antt; proofs/Table/Foreign.antt is another order's message;
-- Table/Scan.antt is how the code looks at bytes, proofs/Table/Edge.antt where used slots end, Table/Words.antt at many bytes together.
-- Assumes nothing.
pub mod Scan
pub mod Words
use Rattle.std.specs.Prelude.{ℕ, zero, suc, ◌+◌, ◌*◌, ◌-◌, ◌/◌, ◌%◌, Bool, true, false, ◌&&◌, cond, List, [], ◌∷◌, ◌++◌, map, ltb, leb, eqb, length, get_or, take, drop, replicate}
use Rattle.message.specs.declared.Plan.{Plan}
use Rattle.message.specs.declared.Message.{Message}
use Rattle.message.specs.Outcome.{Outcome, accepted, refused}
use Rattle.message.specs.Form as Form
use Rattle.message.specs.Codec.{read_message}
use Rattle.slots.specs.All.{all}

-- the bytes of a slot
abbrev pub slot_size : ℕ
slot_size = Form.slot_size

-- the most slots that a table may have
abbrev pub max_slots : ℕ
max_slots = 1024

-- whole slots, and not too many
unfoldable pub is_table_length : ℕ → Bool
is_table_length len = eqb (len % slot_size) 0 && leb (len / slot_size) max_slots

-- the first `count` slots
unfoldable pub slots_up_to : ℕ → List ℕ → List (List ℕ)
slots_up_to zero t = []
slots_up_to (suc count) t = take slot_size t ∷ slots_up_to count (drop slot_size t)

-- the slots of a table
unfoldable pub slots : List ℕ → List (List ℕ)
slots t = slots_up_to (length t / slot_size) t

-- zeros alone
unfoldable pub is_zero : List ℕ → Bool
is_zero = all (λ x. eqb x 0)

-- what a slot holds: nothing, a message followed by zeros, or neither
pub data Slot : Type 0 where
  Unused : Slot
  Used : Message → Slot
  Bad : Slot

-- a readable message with zeros after it, or a bad slot
abbrev pub used_slot : Outcome Message → Bool → Slot
used_slot (refused number) zeros = Bad
used_slot (accepted m) true = Used m
used_slot (accepted m) false = Bad

-- an unused slot is zeros alone; in a used one the message ends where its map says
unfoldable pub read_slot : Plan → List ℕ → Slot
read_slot p s =
    cond (is_zero s) Unused
    (used_slot (read_message p (take (Form.map_length (get_or s 0 0)) s)) (is_zero (drop (Form.map_length (get_or s 0 0)) s)))

-- what the slots of a table hold
unfoldable pub read_table : Plan → List ℕ → List Slot
read_table p t = map (read_slot p) (slots t)

-- unused slots alone
unfoldable pub all_unused : List Slot → Bool
all_unused [] = true
all_unused (Unused ∷ rest) = all_unused rest
all_unused (Used m ∷ rest) = false
all_unused (Bad ∷ rest) = false

-- no bad slot, and no used one after an unused one
unfoldable pub is_ordered : List Slot → Bool
is_ordered [] = true
is_ordered (Unused ∷ rest) = all_unused rest
is_ordered (Used m ∷ rest) = is_ordered rest
is_ordered (Bad ∷ rest) = false

-- a table of rows 5 and 6
unfoldable pub is_table : Plan → List ℕ → Bool
is_table p t = is_ordered (read_table p t)

-- the messages in the used slots
unfoldable pub used_messages : List Slot → List Message
used_messages [] = []
used_messages (Unused ∷ rest) = used_messages rest
used_messages (Used m ∷ rest) = m ∷ used_messages rest
used_messages (Bad ∷ rest) = used_messages rest

-- the messages that a table holds, in order
unfoldable pub messages : Plan → List ℕ → List Message
messages p t = used_messages (read_table p t)

-- slots one after the other
unfoldable pub join_slots : List (List ℕ) → List ℕ
join_slots [] = []
join_slots (s ∷ ss) = s ++ join_slots ss

-- the table of `count` slots that holds these messages: their slots, then unused ones
unfoldable pub table_of : Plan → ℕ → List Message → List ℕ
table_of p count ms = join_slots (map (Form.slot_of p) ms ++ replicate (count - length ms) (replicate slot_size 0))

-- whether two lists of bytes are the same
unfoldable pub same_bytes : List ℕ → List ℕ → Bool
same_bytes [] [] = true
same_bytes [] (y ∷ ys) = false
same_bytes (x ∷ xs) [] = false
same_bytes (x ∷ xs) (y ∷ ys) = eqb x y && same_bytes xs ys

-- the slot's bytes become the form; past the table's end nothing changes
unfoldable pub store_at : List ℕ → ℕ → List ℕ → List ℕ
store_at t place form =
    cond (ltb place (length t / slot_size))
    (take (place * slot_size) t ++ (form ++ drop (place * slot_size + slot_size) t))
    t
