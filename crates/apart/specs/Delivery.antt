-- A delivery in the documents' words: the rows of "Refusals by place", and 18 of document 02, that it answers by.
--     NoPlace          13, of the message that the bytes are
--     deliver_rows     1, 2 and 5 of N, this, and 15 to 18 of the reader
-- The theorems are in proofs/Theorems.antt, their proofs in proofs/Delivery/Ruled.antt. Assumes nothing.
use Rattle.std.specs.Prelude.{ℕ, false, List, ◌≡◌, length}
use Rattle.message.specs.declared.Plan.{Plan}
use Rattle.message.specs.declared.Message.{Message}
use Rattle.message.specs.Outcome.{accepted}
use Rattle.message.specs.Plan.{is_plan}
use Rattle.message.specs.Codec.{read_message}
use Rattle.message.specs.Rows.{Rows, row}
use Rattle.message.specs.Theorems.{bytes_rows}
use Rattle.slots.specs.Table.{is_table_length, is_table}
use Rattle.matching.specs.Call.{HasRoom}

-- the message is not in N, and N has no unused slot
abbrev pub NoPlace : Plan → List ℕ → List ℕ → Type 0
NoPlace p network bytes = (m : Message) × (read_message p bytes ≡ accepted m) × (HasRoom p network m → ⊥)

abbrev pub deliver_rows : Plan → List ℕ → List ℕ → Rows
deliver_rows p network bytes =
    row 1 (is_plan p ≡ false)
    (row 2 (is_table_length (length network) ≡ false)
    (row 5 (is_table p network ≡ false)
    (row 13 (NoPlace p network bytes)
    (bytes_rows p bytes))))
