-- The reader and the writer case by case, in the order of the refusals.
--     read_message_plan, _empty, _unknown
--     FormOf, read_message_form, _none   what is read is the form of a message in range, and has bytes
--     shape_number                       rows 1 to 17 alone
--     Begins, shape_length, _range, _none, shape_unknown     their number where the map is known: another length, a field out of range, or 0; and where it is not
--     write_message_plan, _range, _accepted
-- Assumes nothing.
use Rattle.std.specs.Prelude.{ℕ, ◌<◌, true, not, cond, List, ◌≡◌, eqb, length, get_or}
use Rattle.message.specs.declared.Plan.{Plan}
use Rattle.message.specs.declared.Message.{Message}
use Rattle.message.specs.Outcome.{accepted, refuse_if, number_of}
use Rattle.message.specs.Plan.{is_plan}
use Rattle.message.specs.Form.{bytes_of, map_length, decode, is_in_range}

-- the bytes are the form of the message, which is in range under the plan
pub record FormOf (p : Plan) (m : Message) (bytes : List ℕ) : Type 0 where
  pub plan : is_plan p ≡ true
  pub in_range : is_in_range p m ≡ true
  pub bytes_form : bytes ≡ bytes_of p m

-- rows 1 to 17: what a slice is refused with before its order number is looked at
unfoldable pub shape_number : Plan → List ℕ → ℕ
shape_number p bytes =
    number_of (refuse_if (not (is_plan p)) 1
    (refuse_if (eqb (length bytes) 0) 15
    (refuse_if (eqb (map_length (get_or bytes 0 0)) 0) 15
    (refuse_if (not (eqb (length bytes) (map_length (get_or bytes 0 0)))) 16
    (refuse_if (not (is_in_range p (decode bytes))) 17
    (accepted (decode bytes)))))))

-- the rows after a chain are asked where it has no number
unfoldable pub and_after : ℕ → ℕ → ℕ
and_after k n = cond (eqb k 0) n k

-- a slice under a plan in range that begins with a known map
pub record Begins (p : Plan) (map : ℕ) (bytes : List ℕ) : Type 0 where
  pub plan : is_plan p ≡ true
  pub first : get_or bytes 0 0 ≡ map
  pub known : 0 < map_length map
