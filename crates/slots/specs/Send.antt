-- "Send appends to N unless an equal message is there" (document 01, "The nine events"), over the messages that a table holds.
--     same_message    whether two messages are equal: whether their bytes are
--     place_in         the place where an equal message stands, else the first unused one, else none
--     message_at      the message in the slot at a place, or 8
-- How the code looks at bytes is Table/Scan.antt; proofs/SendLaws.antt says that the two agree. Assumes nothing.
use Rattle.std.specs.Prelude.{ℕ, zero, suc, Bool, cond, List, [], ◌∷◌, ltb}
use Rattle.message.specs.declared.Plan.{Plan}
use Rattle.message.specs.declared.Message.{Message}
use Rattle.message.specs.Outcome.{Outcome, accepted, refused}
use Rattle.message.specs.Form.{slot_of}
use Rattle.slots.specs.declared.Place.{Place}
use Rattle.slots.specs.declared.Place.TheVariants.{At, Free, Full}
use Rattle.slots.specs.Table.{same_bytes}

-- whether two messages are equal: their slots are
unfoldable pub same_message : Plan → Message → Message → Bool
same_message p m m' = same_bytes (slot_of p m) (slot_of p m')

-- where an equal message stands among these, counted from `place`, else the first unused slot of `room`, else none
unfoldable pub place_from : Plan → ℕ → ℕ → List Message → Message → Place
place_from p place room [] m = cond (ltb place room) (Free place) Full
place_from p place room (x ∷ ms) m = cond (same_message p x m) (At place) (place_from p (suc place) room ms m)

-- of all messages of a table of `room` slots
unfoldable pub place_in : Plan → ℕ → List Message → Message → Place
place_in p room ms m = place_from p 0 room ms m

-- the message in the slot at a place; row 8: past the last one it is unused
unfoldable pub message_at : List Message → ℕ → Outcome Message
message_at [] place = refused 8
message_at (m ∷ ms) zero = accepted m
message_at (m ∷ ms) (suc place) = message_at ms place
