-- Steps on a table that was judged before: they look at bytes and judge nothing, so they are defined for all bytes. What they mean on
-- a table that holds messages is in proofs/SendLaws.antt; proofs/Table/Scan/Laws.antt has them slot by slot, proofs/Table/Edge.antt the edge.
--     peek_slot, peek_table    a slot by its first byte: unused, or the message that its bytes make
--     slot_message, peek_at     the message in a slot, and that in the slot at a place: 8 where it is unused or beyond the table
--     is_step, steps_from      from a place on by steps of so many slots, as long as the last slot of each is used
--     near_edge, edge          where the used slots of a judged table end
--     slots_held, peek_messages  the slots before it, and their messages
--     locate                   the first of these with this form, else the slot after them
-- Assumes nothing.
use Rattle.std.specs.Prelude.{ℕ, zero, suc, ◌+◌, ◌-◌, ◌*◌, ◌/◌, Bool, not, ◌&&◌, cond, List, [], ◌∷◌, map, ltb, leb, eqb, length, get_or, take}
use Rattle.message.specs.declared.Message.{Message}
use Rattle.message.specs.Outcome.{Outcome, accepted, refused}
use Rattle.message.specs.Form.{decode}
use Rattle.slots.specs.Table.{Slot, Unused, Used, Bad, slot_size, slots, same_bytes}
use Rattle.slots.specs.declared.Place.{Place}
use Rattle.slots.specs.declared.Place.TheVariants.{At, Free, Full}

-- a slot by its first byte: 0 is no map, and any other byte is taken for one (`decode`: what is none of five, for a decision's)
unfoldable pub peek_slot : List ℕ → Slot
peek_slot s = cond (eqb (get_or s 0 0) 0) Unused (Used (decode s))

-- all slots of a table so
unfoldable pub peek_table : List ℕ → List Slot
peek_table t = map peek_slot (slots t)

-- the message in a slot, or 8
abbrev pub slot_message : Slot → Outcome Message
slot_message Unused = refused 8
slot_message (Used m) = accepted m
slot_message Bad = refused 8

-- that of the slot at a place; beyond the table it is refused as an unused one
unfoldable pub peek_at : List ℕ → ℕ → Outcome Message
peek_at t k = slot_message (get_or (peek_table t) k Unused)

-- the last of so many slots from a place on is one of the table, and in use
abbrev pub is_step : List ℕ → ℕ → ℕ → Bool
is_step t step place = leb step (length t / slot_size - place) && not (eqb (get_or t ((place + step - 1) * slot_size) 0) 0)

-- from a place on by such steps, `most` of them at most
unfoldable pub steps_from : List ℕ → ℕ → ℕ → ℕ → ℕ
steps_from t step zero place = place
steps_from t step (suc most) place = cond (is_step t step place) (steps_from t step most (place + step)) place

-- by steps of 128 and 16: less than 16 slots before the edge (`near_close`)
unfoldable pub near_edge : List ℕ → ℕ
near_edge t = steps_from t 16 (length t / slot_size) (steps_from t 128 (length t / slot_size) 0)

-- and by single slots: where the used slots of a judged table end (`edge_holds`)
unfoldable pub edge : List ℕ → ℕ
edge t = steps_from t 1 (length t / slot_size) (near_edge t)

-- the slots up to there, and the messages that their bytes make
unfoldable pub slots_held : List ℕ → List (List ℕ)
slots_held t = take (edge t) (slots t)

unfoldable pub peek_messages : List ℕ → List Message
peek_messages t = map decode (slots_held t)

-- of these slots, counted from `place`, the first with this form, else the place after them, if it is one of `room`
unfoldable pub locate_from : ℕ → ℕ → List (List ℕ) → List ℕ → Place
locate_from place room [] form = cond (ltb place room) (Free place) Full
locate_from place room (s ∷ ss) form = cond (same_bytes s form) (At place) (locate_from (suc place) room ss form)

-- the same of a table
unfoldable pub locate : List ℕ → List ℕ → Place
locate t form = locate_from 0 (length t / slot_size) (slots_held t) form
