-- The view of bytes: what the code of a step is proved against. On a judged table it is the view of the messages (proofs/View/Laws.antt).
--     view_bytes         the view
-- Assumes nothing.
use Rattle.std.specs.Prelude.{ℕ, List}
use Rattle.message.specs.declared.Plan.{Plan}
use Rattle.message.specs.Form.{slot_of}
use Rattle.slots.specs.Table.Scan.{peek_at, peek_messages, locate}
use Rattle.slots.specs.View.{View, send_of}

-- the view of a table's bytes
abbrev pub view_bytes : Plan → List ℕ → View
view_bytes p t = record { slot = peek_at t; messages = peek_messages t; send = λ m. send_of (locate t (slot_of p m)) m }
