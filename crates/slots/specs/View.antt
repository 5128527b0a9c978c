-- What a step may ask of a table, and what it may have stored there. A step is defined once, over a view. A reader takes it as the view
-- of the messages that a judged table holds; the code is proved against the view of bytes (View/Bytes.antt).
--     View               the message in the slot at a place, or 8; the messages in order, and what sending a message comes to
--     view_messages      the view of a table of `room` slots that holds these messages
--     view_table         the view of a table that was judged: of the messages that it holds
--     put_at, sends      what is stored, and what sending comes to where there is room
--     send_of            where an equal message stands nothing is stored, else the message in the first unused slot
--     sending            a row "storing" of "Refusals by place": the number where there is no room
--     store_bytes, store_messages   the table after a store, and the messages
-- proofs/View/Laws.antt says that on a judged table the two views and the two stores agree. Assumes nothing.
pub mod Bytes
use Rattle.std.specs.Prelude.{ℕ, ◌/◌, List, [], ◌∷◌, ◌++◌, length, None, Option, Some}
use Rattle.message.specs.declared.Plan.{Plan}
use Rattle.message.specs.declared.Message.{Message}
use Rattle.message.specs.Outcome.{Outcome, refused}
use Rattle.message.specs.Form.{slot_of}
use Rattle.slots.specs.Table.{slot_size, messages, store_at}
use Rattle.slots.specs.declared.Sending.{Sending}
use Rattle.slots.specs.declared.Place.{Place}
use Rattle.slots.specs.declared.Place.TheVariants.{At, Free, Full}
use Rattle.slots.specs.declared.Put.{Put}
use Rattle.slots.specs.Send.{place_in, message_at}

-- what a step may ask: the slot at a place, the messages in order, and what sending a message comes to
pub record View : Type 0 where
  pub slot : ℕ → Outcome Message
  pub messages : List Message
  pub send : Message → Option Sending

-- the message put in the slot at a place; a message sent, which stands in the slot then, with what is stored for it
abbrev pub put_at : ℕ → Message → Option Put
put_at place m = Some (record { place = place; m = m })

abbrev pub sends : ℕ → Option Put → Option Sending
sends slot put = Some (record { slot = slot; put = put })

-- where an equal message stands nothing is stored, else the message in the first unused slot
abbrev pub send_of : Place → Message → Option Sending
send_of (At slot) m = sends slot None
send_of (Free slot) m = sends slot (put_at slot m)
send_of Full m = None

-- the view of a table of `room` slots that holds these messages
abbrev pub view_messages : Plan → ℕ → List Message → View
view_messages p room ms = record { slot = message_at ms; messages = ms; send = λ m. send_of (place_in p room ms m) m }

-- the view of a table that was judged
abbrev pub view_table : Plan → List ℕ → View
view_table p t = view_messages p (length t / slot_size) (messages p t)

-- the table after a store, and the messages in it
abbrev pub store_bytes : Plan → Option Put → List ℕ → List ℕ
store_bytes p None t = t
store_bytes p (Some put) t = store_at t put.place (slot_of p put.m)

abbrev pub store_messages : Option Put → List Message → List Message
store_messages None ms = ms
store_messages (Some put) ms = ms ++ (put.m ∷ [])

-- a row "storing": the number where there is no room, else what goes on with the slot and the store
unfoldable pub sending : {A : Type 0} → ℕ → Option Sending → (ℕ → Option Put → Outcome A) → Outcome A
sending number (Some sent) go = go sent.slot sent.put
sending number None go = refused number
