-- The reader's number.
--     read_refused               a number that is not 0 is the refusal's
--     map_of                     the length of a slice whose map the code was told
--     code_known, code_other     the number where that map is a given one; where it is none of the five that are tested, so a decision's
-- Assumes nothing.
use Prim.Native.Nat.{ℕ}
use mathlib.Core.List.{List, ◌∷◌}
use mathlib.Core.Path.{◌≡◌, sym, ◌∙◌, ap}
use lib.ListN.{get_or}
use Rattle.message.specs.declared.Plan.{Plan}
use Rattle.message.specs.declared.Message.{Message}
use Rattle.message.specs.declared.Message.TheVariants.{Decision}
use Rattle.message.specs.Outcome.{number_of}
use Rattle.message.proofs.Outcome.Laws.{refused_number}
use Rattle.message.specs.Form.{map_length, fields_message, decode}
use Rattle.message.proofs.Form.Maps.{Other, fields_other, decode_fields}
use Rattle.message.specs.Codec.{read_message}
use Rattle.host_code.specs.Code.{packed}
use Rattle.host_message.specs.Code.{fields_of, read_code}

pub read_refused : (p : Plan) (bytes : List ℕ) (k : ℕ) → k ≡ number_of (read_message p bytes) → (k ≡ 0 → ⊥) → k ≡ read_code (read_message p bytes)
read_refused p bytes k e n = ap read_code (refused_number (read_message p bytes) k e n)

pub map_of : {n told map known size : ℕ} → n ≡ map_length told → map ≡ told → map ≡ known → map_length known ≡ size → n ≡ size
map_of n told is len = n ∙ ap map_length (sym told ∙ is) ∙ len

module _ (bytes : List ℕ) {map code : ℕ} (told : map ≡ get_or bytes 0 0) where
  made : (m : Message) → fields_message map (get_or bytes 1 0) (get_or bytes 2 0) (get_or bytes 3 0) (get_or bytes 4 0) (get_or bytes 5 0) ≡ m
      → code ≡ packed (0 ∷ fields_of m) → code ≡ packed (0 ∷ fields_of (decode bytes))
  made m is e =
      e ∙ sym (ap (λ (m : Message). packed (0 ∷ fields_of m)) (decode_fields bytes
      ∙ ap (λ (k : ℕ). fields_message k (get_or bytes 1 0) (get_or bytes 2 0) (get_or bytes 3 0) (get_or bytes 4 0) (get_or bytes 5 0)) (sym told)
      ∙ is))

  pub code_known : {known : ℕ} (m : Message) → map ≡ known
      → fields_message known (get_or bytes 1 0) (get_or bytes 2 0) (get_or bytes 3 0) (get_or bytes 4 0) (get_or bytes 5 0) ≡ m
      → code ≡ packed (0 ∷ fields_of m) → code ≡ packed (0 ∷ fields_of (decode bytes))
  code_known m known is = made m (rw known is)

  pub code_other : Other map → code ≡ packed (0 ∷ fields_of (Decision (get_or bytes 1 0))) → code ≡ packed (0 ∷ fields_of (decode bytes))
  code_other o = made (Decision (get_or bytes 1 0)) (fields_other _ _ _ _ _ map o)
