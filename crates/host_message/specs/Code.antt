-- The reader and the writer for other languages: what they are given and answer, as numbers.
--     fields_of, message_of        a message as its map and all five fields, and back; 15 for an unknown map
--     read_code                    the reader's answer: byte 0 the refusal or 0, bytes 1 to 6 the map and the fields
--     host_write, written_code    the writer by map and fields; its answer: the eight bytes, or byte 1 the refusal
-- Their laws are in proofs/CodeLaws.antt, those of the writer's number in proofs/CodeWriting.antt. Assumes nothing.
use Rattle.std.specs.Prelude.{ℕ, ◌*◌, not, cond, List, [], ◌∷◌, eqb, None, Option, Some}
use Rattle.message.specs.declared.Plan.{Plan}
use Rattle.message.specs.declared.Vote.{Vote}
use Rattle.message.specs.declared.Message.{Message}
use Rattle.message.specs.declared.Message.TheVariants.{Phase1a, Phase1b, Phase2a, Phase2b, Decision}
use Rattle.message.specs.declared.Written.{Written}
use Rattle.message.specs.Outcome.{Outcome, accepted, refused, refuse_if}
use Rattle.message.specs.Plan.{is_plan}
use Rattle.message.specs.Form.{map1a, map1b, map1b_vote, map2a, map2b, map_decision, is_known, cast_vote}
use Rattle.message.specs.Codec.{written, write_message}
use Rattle.host_code.specs.Code.{packed}

-- a 1b's map and fields
abbrev pub fields_of1b : ℕ → ℕ → ℕ → Option Vote → List ℕ
fields_of1b ins acc mbal None = map1b ∷ ins ∷ acc ∷ mbal ∷ 0 ∷ 0 ∷ []
fields_of1b ins acc mbal (Some vote) = map1b_vote ∷ ins ∷ acc ∷ mbal ∷ vote.bal ∷ vote.val ∷ []

-- the map, then ins, acc, mbal, bal and val, each 0 where the message has no such field
abbrev pub fields_of : Message → List ℕ
fields_of (Phase1a ins bal) = map1a ∷ ins ∷ 0 ∷ 0 ∷ bal ∷ 0 ∷ []
fields_of (Phase1b ins acc mbal vote) = fields_of1b ins acc mbal vote
fields_of (Phase2a ins bal val) = map2a ∷ ins ∷ 0 ∷ 0 ∷ bal ∷ val ∷ []
fields_of (Phase2b ins acc bal val) = map2b ∷ ins ∷ acc ∷ 0 ∷ bal ∷ val ∷ []
fields_of (Decision val) = map_decision ∷ 0 ∷ 0 ∷ 0 ∷ 0 ∷ val ∷ []

-- the message with this map; fields that it does not have are not looked at. Document 01's writer is given a message, which has a kind:
-- the message with a known map, of the fields that it has
unfoldable pub message_with : ℕ → ℕ → ℕ → ℕ → ℕ → ℕ → Message
message_with map ins acc mbal bal val =
    cond (eqb map map1a) (Phase1a ins bal)
    (cond (eqb map map1b) (Phase1b ins acc mbal None)
    (cond (eqb map map1b_vote) (Phase1b ins acc mbal (cast_vote bal val))
    (cond (eqb map map2a) (Phase2a ins bal val)
    (cond (eqb map map2b) (Phase2b ins acc bal val)
    (Decision val)))))

-- and 15 for an unknown map
unfoldable pub message_of : ℕ → ℕ → ℕ → ℕ → ℕ → ℕ → Outcome Message
message_of map ins acc mbal bal val = refuse_if (not (is_known map)) 15 (accepted (message_with map ins acc mbal bal val))

-- byte 0 the refusal's number, and for a message 0; then its map and its fields
abbrev pub read_code : Outcome Message → ℕ
read_code (accepted m) = packed (0 ∷ fields_of m)
read_code (refused number) = number

-- the writer's answer for what may be no message
abbrev pub write_outcome : Plan → Outcome Message → Written
write_outcome p (accepted m) = write_message p m
write_outcome p (refused number) = written p (refused number)

-- the writer by map and fields: 1, then 15 for the map, then as the writer of document 01
unfoldable pub host_write : Plan → ℕ → ℕ → ℕ → ℕ → ℕ → ℕ → Written
host_write p map ins acc mbal bal val = write_outcome p (refuse_if (not (is_plan p)) 1 (message_of map ins acc mbal bal val))

-- the eight bytes, of which the first is a map; of a refusal byte 0 is 0 and byte 1 its number
unfoldable pub written_code : Written → ℕ
written_code w = cond (eqb w.number 0) (packed w.bytes) (256 * w.number)
