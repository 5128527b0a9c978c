-- The writer's answer by cases.
--     host_write_plan, _by               a plan out of range, and what is answered for a message or an unknown map
--     host_write_unknown, _message       an unknown map, and what document 01's writer answers
--     written_refused, _bytes            the number of a writer's answer by cases
-- Assumes nothing.
use Rattle.std.specs.Prelude.{ℕ, ◌*◌, true, false, ◌≡◌}
use Rattle.std.proofs.Common.{eq-eqb, ne_eqb}
use Rattle.message.specs.declared.Plan.{Plan}
use Rattle.message.specs.declared.Message.{Message}
use Rattle.message.specs.declared.Written.{Written}
use Rattle.message.specs.Outcome.{Outcome, refuse_if}
use Rattle.message.specs.Plan.{is_plan}
use Rattle.message.specs.Form.{is_known}
use Rattle.message.specs.Codec.{write_message}
use Rattle.host_code.specs.Code.{packed}
use Rattle.host_message.specs.Code.{message_with, message_of, write_outcome, host_write, written_code}

module _ (p : Plan) (map ins acc mbal bal val : ℕ) where
  pub host_write_plan : is_plan p ≡ false → 256 ≡ written_code (host_write p map ins acc mbal bal val)
  unfolding host_write written_code refuse_if
  host_write_plan h = rw h

  -- under a plan in range, what the writer answers for the message with this map
  pub host_write_by : is_plan p ≡ true → (o : Outcome Message) → o ≡ message_of map ins acc mbal bal val
      → written_code (write_outcome p o) ≡ written_code (host_write p map ins acc mbal bal val)
  unfolding host_write refuse_if
  host_write_by plan o is = rw (plan, is)

  pub host_write_unknown : is_plan p ≡ true → is_known map ≡ false → 256 * 15 ≡ written_code (host_write p map ins acc mbal bal val)
  unfolding host_write written_code refuse_if message_of
  host_write_unknown plan unknown = rw (plan, unknown)

  pub host_write_message : is_plan p ≡ true → is_known map ≡ true → (k : ℕ) (m : Message) → map ≡ k → message_with k ins acc mbal bal val ≡ m
      → written_code (write_message p m) ≡ written_code (host_write p map ins acc mbal bal val)
  unfolding host_write refuse_if message_of
  host_write_message plan known k m is made = rw (plan, known, is, made)

-- the number by cases
pub written_refused : (w : Written) → (w.number ≡ 0 → ⊥) → 256 * w.number ≡ written_code w
unfolding written_code
written_refused w n = rw (ne_eqb w.number 0 n)

pub written_bytes : (w : Written) → w.number ≡ 0 → packed w.bytes ≡ written_code w
unfolding written_code
written_bytes w z = rw (eq-eqb w.number 0 z)
