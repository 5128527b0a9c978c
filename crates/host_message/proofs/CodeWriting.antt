-- The writer's number taken apart.
--     written_first      of a form its lowest byte is the form's map
--     refused_code       a refusal's number is 256 × the refusal
--     written_inj        equal numbers are of one answer
--     host_written       what the writer by map and fields answers, the writer of document 01 can answer
-- Assumes nothing.
use Rattle.std.specs.Prelude.{ℕ, ◌*◌, ◌%◌, ◌<◌, Bool, true, false, not, List, [], ◌∷◌, ◌≡◌, refl, get_or}
use Rattle.std.proofs.Common.{sym, ◌∙◌, ap, arith, lit<}
use Rattle.std.proofs.Math.Decide.{ℕ_discrete}
use Rattle.message.specs.declared.Plan.{Plan}
use Rattle.message.specs.declared.Message.{Message}
use Rattle.message.specs.Outcome.{Outcome, accepted, refused, refuse_if}
use Rattle.message.specs.Plan.{is_plan}
use Rattle.message.specs.Form.{bytes_of, message_length, slot_of, map_length, is_in_range}
use Rattle.message.proofs.Form.Laws.{message_length_bounds, map_length_bytes_of, length_slot_of, first_slot_of, first_bytes_of, known_map}
use Rattle.message.specs.Codec.{written, write_message}
use Rattle.message.proofs.Codec.Laws.{write_message_plan, write_message_range, write_message_accepted}
use Rattle.host_code.specs.Code.{packed, are_bytes}
use Rattle.host_code.proofs.CodeLaws.{packed_first, packed_inj}
use Rattle.host_message.specs.Code.{message_of, write_outcome, host_write, written_code}
use Rattle.host_message.proofs.CodeLaws.{written_bytes, written_refused}

-- a map is a byte
first_byte : (p : Plan) (m : Message) → get_or (bytes_of p m) 0 0 < 256
first_byte p m =
    known_map (λ (map : ℕ). map < 256) (lit< tt) (lit< tt) (lit< tt) (lit< tt) (lit< tt) (lit< tt) (get_or (bytes_of p m) 0 0)
    (λ z. omega (arith, map_length_bytes_of p m, (message_length_bounds p m).0))

packed_head : (bytes : List ℕ) → get_or bytes 0 0 < 256 → packed bytes % 256 ≡ get_or bytes 0 0
packed_head [] h = refl
packed_head (byte ∷ bytes) h = packed_first byte bytes h

module _ (p : Plan) (m : Message) where
  pub written_first : written_code (written p (accepted m)) % 256 ≡ get_or (bytes_of p m) 0 0
  written_first =
      ap (λ (code : ℕ). code % 256) (sym (written_bytes (written p (accepted m)) refl))
      ∙ packed_head (slot_of p m) (rw (first_slot_of p m) (first_byte p m))
      ∙ first_slot_of p m

pub refused_code : (p : Plan) (k : ℕ) → written_code (written p (refused k)) ≡ 256 * k
refused_code p k = go (ℕ_discrete k 0)
  where
    go : Dec (k ≡ 0) → written_code (written p (refused k)) ≡ 256 * k
    go (yes z) = sym (written_bytes (written p (refused k)) z) ∙ sym (ap (λ (n : ℕ). 256 * n) z)
    go (no n) = sym (written_refused (written p (refused k)) n)

-- a form's number is no refusal's
apart : (p q : Plan) (m : Message) (k : ℕ) → written_code (written p (accepted m)) ≡ written_code (written q (refused k)) → ⊥
apart p q m k e = first_bytes_of p m (sym (written_first p m) ∙ ap (λ (code : ℕ). code % 256) (e ∙ refused_code q k) ∙ omega arith)

module _ (p q : Plan) where
  pub written_inj : (o o' : Outcome Message) → are_bytes (written p o).bytes ≡ true → are_bytes (written q o').bytes ≡ true
      → written_code (written p o) ≡ written_code (written q o') → written p o ≡ written q o'
  written_inj (accepted m) (accepted n) h k e =
      let same : slot_of p m ≡ slot_of q n = packed_inj (slot_of p m) (slot_of q n) (length_slot_of p m ∙ sym (length_slot_of q n)) h k
      (written_bytes (written p (accepted m)) refl ∙ e ∙ sym (written_bytes (written q (accepted n)) refl)) in
      let len : message_length p m ≡ message_length q n =
      sym (map_length_bytes_of p m) ∙ ap map_length (sym (first_slot_of p m) ∙ ap (λ (s : List ℕ). get_or s 0 0) same ∙ first_slot_of q n) ∙ map_length_bytes_of q n in
      (λ i. record { number = 0; bytes = same i; len = len i })
  written_inj (accepted m) (refused k) h j e = absurd (apart p q m k e)
  written_inj (refused k) (accepted n) h j e = absurd (apart q p n k (sym e))
  written_inj (refused k) (refused j) h i e =
      let same : k ≡ j = omega (arith, refused_code p k, refused_code q j) in
      ap (λ (number : ℕ). written p (refused number)) same

-- what the writer of document 01 answers is a form or a refusal
wrote : (p : Plan) (m : Message) → (o : Outcome Message) × (write_message p m ≡ written p o)
wrote p m = go (is_plan p) refl (is_in_range p m) refl
  where
    go : (plan : Bool) → is_plan p ≡ plan → (range : Bool) → is_in_range p m ≡ range → (o : Outcome Message) × (write_message p m ≡ written p o)
    go false h range i = (refused 1, write_message_plan p m h)
    go true h false i = (refused 17, write_message_range p m h i)
    go true h true i = (accepted m, write_message_accepted p m h i)

outcome_written : (p : Plan) (o : Outcome Message) → (o' : Outcome Message) × (write_outcome p o ≡ written p o')
outcome_written p (accepted m) = wrote p m
outcome_written p (refused k) = (refused k, refl)

pub host_written : (p : Plan) (map ins acc mbal bal val : ℕ) → (o : Outcome Message) × (host_write p map ins acc mbal bal val ≡ written p o)
unfolding host_write
host_written p map ins acc mbal bal val = outcome_written p (refuse_if (not (is_plan p)) 1 (message_of map ins acc mbal bal val))
