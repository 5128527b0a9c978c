-- Demand 2's last sentence: each message has one byte form; reading it gives the message, and all bytes that are read are such a form. And
-- document 02, Paper 1: the order number in every form, and what another order's message is refused with. For all plans, messages and slices;
-- `read_message` and `write_message` are what the calls' contracts equate their answers with.
--     bytes_rows, reader_rows, writer_rows  the rows of "Refusals by place" for bytes under a plan in range, for the reader and for the writer
--     form                the bytes that the writer gives, without the zeros after them
--     fields, bit, joined     a message's fields in the order of the map's bits; whether one is there; one list after the other
-- Assumes nothing.
use Rattle.std.specs.Prelude.{Option, None, Some, ℕ, false, cond, List, [], ◌∷◌, ◌++◌, ◌⊎◌, ◌≡◌, eqb, length, get_or, take}
use Rattle.message.specs.declared.Plan.{Plan}
use Rattle.message.specs.declared.Vote.{Vote}
use Rattle.message.specs.declared.Message.{Message}
use Rattle.message.specs.declared.Message.TheVariants.{Phase1a, Phase1b, Phase2a, Phase2b, Decision}
use Rattle.message.specs.declared.Written.{Written}
use Rattle.message.specs.Outcome.{Outcome, accepted, refused}
use Rattle.message.specs.Plan.{is_plan}
use Rattle.message.specs.Form.{order_bytes, map_length, decode, is_in_range, has_order}
use Rattle.message.specs.Rows.{Rows, end, row}

-- an empty slice or an unknown map; another length than the map's; a field out of range; another order number
abbrev pub bytes_rows : Plan → List ℕ → Rows
bytes_rows p bytes =
    row 15 ((length bytes ≡ 0) ⊎ (map_length (get_or bytes 0 0) ≡ 0))
    (row 16 (length bytes ≡ map_length (get_or bytes 0 0) → ⊥)
    (row 17 (is_in_range p (decode bytes) ≡ false)
    (row 18 (has_order p (map_length (get_or bytes 0 0)) bytes ≡ false)
    end)))

abbrev pub reader_rows : Plan → List ℕ → Rows
reader_rows p bytes = row 1 (is_plan p ≡ false) (bytes_rows p bytes)

abbrev pub writer_rows : Plan → Message → Rows
writer_rows p m =
    row 1 (is_plan p ≡ false)
    (row 17 (is_in_range p m ≡ false)
    end)

-- the writer's answer: number 0 is an acceptance
abbrev pub answer : Written → Outcome Written
answer w = cond (eqb w.number 0) (accepted w) (refused w.number)

abbrev pub form : Written → List ℕ
form w = take w.len w.bytes

-- ins, acc, mbal, bal, val and the order number, the fields of bits 0 to 5: none where the message has no such field
abbrev pub fields1b : Plan → ℕ → ℕ → ℕ → Option Vote → List (List ℕ)
fields1b p ins acc mbal None = (ins ∷ []) ∷ (acc ∷ []) ∷ (mbal ∷ []) ∷ [] ∷ [] ∷ order_bytes p ∷ []
fields1b p ins acc mbal (Some vote) = (ins ∷ []) ∷ (acc ∷ []) ∷ (mbal ∷ []) ∷ (vote.bal ∷ []) ∷ (vote.val ∷ []) ∷ order_bytes p ∷ []

abbrev pub fields : Plan → Message → List (List ℕ)
fields p (Phase1a ins bal) = (ins ∷ []) ∷ [] ∷ [] ∷ (bal ∷ []) ∷ [] ∷ order_bytes p ∷ []
fields p (Phase1b ins acc mbal vote) = fields1b p ins acc mbal vote
fields p (Phase2a ins bal val) = (ins ∷ []) ∷ [] ∷ [] ∷ (bal ∷ []) ∷ (val ∷ []) ∷ order_bytes p ∷ []
fields p (Phase2b ins acc bal val) = (ins ∷ []) ∷ (acc ∷ []) ∷ [] ∷ (bal ∷ []) ∷ (val ∷ []) ∷ order_bytes p ∷ []
fields p (Decision val) = [] ∷ [] ∷ [] ∷ [] ∷ (val ∷ []) ∷ order_bytes p ∷ []

-- the bit of a field: 1 where it is there
abbrev pub bit : List ℕ → ℕ
bit [] = 0
bit (b ∷ bytes) = 1

abbrev pub joined : List (List ℕ) → List ℕ
joined [] = []
joined (list ∷ lists) = list ++ joined lists
