-- The reader and the writer (document 01, "Message bytes"; rows 1 and 15 to 17 of "Refusals by place"; document 02, Paper 1: row 18).
--     read_message                 the message that a slice is, or the refusal
--     write_message                the writer's answer: the number, eight bytes and a length, all zero if it refuses
-- Their laws are in proofs/Codec/Laws.antt. Assumes nothing.
pub mod Laws
use Rattle.std.specs.Prelude.{ℕ, not, List, eqb, length, get_or, replicate}
use Rattle.message.specs.declared.Plan.{Plan}
use Rattle.message.specs.declared.Message.{Message}
use Rattle.message.specs.declared.Written.{Written}
use Rattle.message.specs.Outcome.{Outcome, accepted, refused, refuse_if}
use Rattle.message.specs.Plan.{is_plan}
use Rattle.message.specs.Form.{slot_size, slot_of, message_length, map_length, decode, is_in_range, has_order}

-- the message that a slice is
unfoldable pub read_message : Plan → List ℕ → Outcome Message
read_message p bytes =
    refuse_if (not (is_plan p)) 1
    (refuse_if (eqb (length bytes) 0) 15
    (refuse_if (eqb (map_length (get_or bytes 0 0)) 0) 15
    (refuse_if (not (eqb (length bytes) (map_length (get_or bytes 0 0)))) 16
    (refuse_if (not (is_in_range p (decode bytes))) 17
    (refuse_if (not (has_order p (map_length (get_or bytes 0 0)) bytes)) 18
    (accepted (decode bytes)))))))

-- the writer's answer: number 0, the message followed by zeros and its length; or the number, eight zeros and 0
abbrev pub written : Plan → Outcome Message → Written
written p (accepted m) = record { number = 0; bytes = slot_of p m; len = message_length p m }
written p (refused number) = record { number = number; bytes = replicate slot_size 0; len = 0 }

-- the writer
unfoldable pub write_message : Plan → Message → Written
write_message p m =
    written p (refuse_if (not (is_plan p)) 1
    (refuse_if (not (is_in_range p m)) 17
    (accepted m)))
