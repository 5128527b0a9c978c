-- Demand 2's last sentence: each message has one byte form; reading it gives the message, and all bytes that are read are such a form. And
-- document 02, Paper 1: the order number in every form, and what another order's message is refused with. For all plans, messages and slices;
-- `read_message` and `write_message` are what the calls' contracts equate their answers with.
--     reader_answers, writer_answers    they answer the lowest number that applies, and accept exactly where no row applies
--     reader_numbers                    the reader refuses with 1 or 15 to 18
--     other_order, other_order_row     a message of another order number is 18 where nothing else is wrong; row 18 applies to it always
--     other_written, one_order         what another order's writer gives is never read; no form is of two orders
--     writer_refusal                    a refusal of the writer is all zeros
--     writer_zeros                      an answer has the size of a slot, and zeros after the form
--     read_of_written     what the writer gives for a message reads as that message
--     written_of_read     a slice that is read is exactly what the writer gives for what was read
--     one_message         two messages with the same bytes are one
--     one_form            no message has two forms
--     read_exactly, written_exactly     read as a message exactly where the plan and the message are in range and the bytes are its form; likewise written
--     map_rule            bit k of the map stands exactly where field k is there
--     fields_rule         the bytes after the map are the fields that are there, in this order
--     map_unknown, map_others, map_lengths     a map without bit 5 is unknown, one above 3F, and every other than six; these and their lengths
--     map_ones, map_none     the length of a known map is 2 plus the count of its ones, that of an unknown one 0
--     order_bytes_lem, order_compared_words  the order number, high byte first; what row 18 compares
-- Assumes nothing.
use Rattle.std.specs.Prelude.{ℕ, zero, suc, ◌+◌, ◌*◌, ◌-◌, ◌/◌, ◌%◌, ◌^◌, ◌≤◌, ◌<◌, true, false, List, [], ◌∷◌, map, ◌⊎◌, ◌↔◌, ◌≡◌, refl, eqb, length, get_or, drop, replicate}
use Rattle.std.proofs.Common.{inl, inr, sym, ◌∙◌, ap, arith, eq-eqb, eqb-true}
use Rattle.std.specs.Int.Count.{ones}
use Rattle.message.proofs.Outcome.Laws.{both}
use Rattle.message.specs.declared.Plan.{Plan}
use Rattle.message.specs.declared.Message.{Message}
use Rattle.message.specs.declared.Written.{Written}
use Rattle.message.specs.Outcome.{accepted, refused}
use Rattle.message.specs.Plan.{is_plan}
use Rattle.message.specs.Form.{slot_size, bytes_of, bytes_of1b, order_bytes, is_known, map_length, decode, is_in_range, has_order}
use Rattle.message.proofs.Form.Laws.{message_cases, decode_bytes_of, bytes_of_order, has_order_bytes, has_order_other}
use Rattle.message.proofs.Form.Laws.{known_map, known_some, map_length_none, map_length_unknown, map_length_bytes_of}
use Rattle.message.specs.Codec.{read_message, write_message}
use Rattle.message.specs.Rows.{here, below, Applies, Lowest}
use Rattle.message.proofs.Rows.Laws.{is_ascending, lowest_of_ruled}
use Rattle.message.proofs.Codec.Answers.{reader_ruled, writer_ruled, refusal_zeros, zeros_after, writes, form_accepted}
use Rattle.message.proofs.Codec.Laws.{write_message_accepted, read_message_bytes_of, read_message_other, read_message_of_other, read_message_form}
use Rattle.message.specs.Theorems.{reader_rows, writer_rows, answer, form, fields, bit, joined}

pub reader_answers : (p : Plan) (bytes : List ℕ) → Lowest (reader_rows p bytes) (read_message p bytes)
unfolding is_ascending
reader_answers p bytes = lowest_of_ruled (reader_rows p bytes) refl (read_message p bytes) (reader_ruled p bytes)

-- no other number is a refusal of the reader
pub reader_numbers : (p : Plan) (bytes : List ℕ) (k : ℕ) → read_message p bytes ≡ refused k → (k ≡ 1) ⊎ ((15 ≤ k) × (k ≤ 18))
reader_numbers p bytes k e = number (((reader_answers p bytes).refuses k).0 e).0
  where
    number : Applies (reader_rows p bytes) k → (k ≡ 1) ⊎ ((15 ≤ k) × (k ≤ 18))
    number (here h) = inl h.0
    number (below (here h)) = inr (omega (arith, h.0), omega (arith, h.0))
    number (below (below (here h))) = inr (omega (arith, h.0), omega (arith, h.0))
    number (below (below (below (here h)))) = inr (omega (arith, h.0), omega (arith, h.0))
    number (below (below (below (below (here h))))) = inr (omega (arith, h.0), omega (arith, h.0))
    number (below (below (below (below (below none))))) = absurd (none tt)

-- a message of another order number is 18 where nothing else is wrong with it
pub other_order : (p q : Plan) (m : Message) → is_plan p ≡ true → is_in_range p m ≡ true → (p.order ≡ q.order → ⊥) → read_message p (bytes_of q m) ≡ refused 18
other_order = read_message_other

pub writer_answers : (p : Plan) (m : Message) → Lowest (writer_rows p m) (answer (write_message p m))
unfolding is_ascending
writer_answers p m = lowest_of_ruled (writer_rows p m) refl (answer (write_message p m)) (writer_ruled p m)

pub writer_refusal : (p : Plan) (m : Message) → ((write_message p m).number ≡ 0 → ⊥)
    → ((write_message p m).bytes ≡ replicate slot_size 0) × ((write_message p m).len ≡ 0)
writer_refusal = refusal_zeros

pub writer_zeros : (p : Plan) (m : Message) → (write_message p m).number ≡ 0
    → (length (write_message p m).bytes ≡ slot_size)
    × (drop (write_message p m).len (write_message p m).bytes ≡ replicate (slot_size - (write_message p m).len) 0)
writer_zeros = zeros_after

pub read_of_written : (p : Plan) (m : Message) → (write_message p m).number ≡ 0 → read_message p (form (write_message p m)) ≡ accepted m
read_of_written p m e =
    let w = writes p m e in
    ap (read_message p) (form_accepted p m w.0 w.1) ∙ read_message_bytes_of p m w.0 w.1

pub written_of_read : (p : Plan) (bytes : List ℕ) (m : Message) → read_message p bytes ≡ accepted m → ((write_message p m).number ≡ 0) × (form (write_message p m) ≡ bytes)
written_of_read p bytes m e =
    let f = read_message_form p bytes m e in
    (ap (λ (w : Written). w.number) (write_message_accepted p m f.plan f.in_range), form_accepted p m f.plan f.in_range ∙ sym f.bytes_form)

-- row 18 applies, whatever the counts are
pub other_order_row : (p q : Plan) (m : Message) → (p.order ≡ q.order → ⊥) → Applies (reader_rows p (bytes_of q m)) 18
other_order_row p q m differs =
    below (below (below (below (here (
      refl,
      (
        ap (λ (len : ℕ). has_order p len (bytes_of q m)) (map_length_bytes_of q m) ∙ has_order_other p q differs m,
        tt,
      ),
    )))))

-- whatever another order's writer gives, it is not read
pub other_written : (p q : Plan) (m n : Message) → (p.order ≡ q.order → ⊥) → (write_message q m).number ≡ 0 → read_message p (form (write_message q m)) ≡ accepted n → ⊥
other_written p q m n differs e is =
    let w = writes q m e in
    read_message_of_other p q m n differs (ap (read_message p) (sym (form_accepted q m w.0 w.1)) ∙ is)

-- so two orders have no byte form in common
pub one_order : (p q : Plan) (m n : Message) → (p.order ≡ q.order → ⊥) → bytes_of p m ≡ bytes_of q n → ⊥
one_order = bytes_of_order

pub one_message : (p : Plan) (m m' : Message) → bytes_of p m ≡ bytes_of p m' → m ≡ m'
one_message p m m' e = sym (decode_bytes_of p m) ∙ ap decode e ∙ decode_bytes_of p m'

pub one_form : (p : Plan) (bytes bytes' : List ℕ) (m : Message) → read_message p bytes ≡ accepted m → read_message p bytes' ≡ accepted m → bytes ≡ bytes'
one_form p bytes bytes' m e e' = (read_message_form p bytes m e).bytes_form ∙ sym (read_message_form p bytes' m e').bytes_form

module _ (p : Plan) (m : Message) where
  pub read_exactly : (bytes : List ℕ) → (read_message p bytes ≡ accepted m) ↔ ((is_plan p ≡ true) × (is_in_range p m ≡ true) × (bytes ≡ bytes_of p m))
  read_exactly bytes = (
    (λ e. let f = read_message_form p bytes m e in (f.plan, f.in_range, f.bytes_form)),
    λ (plan, range, is). rw is (read_message_bytes_of p m plan range),
  )

  pub written_exactly : ((write_message p m).number ≡ 0) ↔ ((is_plan p ≡ true) × (is_in_range p m ≡ true) × (form (write_message p m) ≡ bytes_of p m))
  written_exactly = (
    (λ e. let (plan, range) = writes p m e in (plan, range, form_accepted p m plan range)),
    λ (plan, range, is). rw (write_message_accepted p m plan range),
  )

-- what holds at 0 to 5 holds below 6
below_six : (P : ℕ → Type 0) → P 0 → P 1 → P 2 → P 3 → P 4 → P 5 → (k : ℕ) → k < 6 → P k
below_six P a b c d e f zero h = a
below_six P a b c d e f (suc zero) h = b
below_six P a b c d e f (suc (suc zero)) h = c
below_six P a b c d e f (suc (suc (suc zero))) h = d
below_six P a b c d e f (suc (suc (suc (suc zero)))) h = e
below_six P a b c d e f (suc (suc (suc (suc (suc zero))))) h = f
below_six P a b c d e f (suc (suc (suc (suc (suc (suc k)))))) h = absurd (omega arith)

pub map_rule : (p : Plan) (m : Message)
    → (get_or (bytes_of p m) 0 0 < 64) × ((k : ℕ) → k < 6 → get_or (bytes_of p m) 0 0 / 2 ^ k % 2 ≡ bit (get_or (fields p m) k []))
unfolding bytes_of bytes_of1b
map_rule p =
    message_cases _
    (λ i b. (omega arith, below_six _ refl refl refl refl refl refl))
    (λ i a m. (omega arith, below_six _ refl refl refl refl refl refl))
    (λ i a m b v. (omega arith, below_six _ refl refl refl refl refl refl))
    (λ i b v. (omega arith, below_six _ refl refl refl refl refl refl))
    (λ i a b v. (omega arith, below_six _ refl refl refl refl refl refl))
    (λ v. (omega arith, below_six _ refl refl refl refl refl refl))

pub fields_rule : (p : Plan) (m : Message) → drop 1 (bytes_of p m) ≡ joined (fields p m)
unfolding bytes_of bytes_of1b
fields_rule p = message_cases _ (λ i b. refl) (λ i a m. refl) (λ i a m b v. refl) (λ i b v. refl) (λ i a b v. refl) (λ v. refl)

-- "A map without bit 5 is unknown, and so is one above 3F"
pub map_unknown : (map : ℕ) → (map / 32 % 2 ≡ 0) ⊎ (0x3F < map) → map_length map ≡ 0
map_unknown map (inl h) = map_length_unknown map (λ e. omega arith) (λ e. omega arith) (λ e. omega arith) (λ e. omega arith) (λ e. omega arith) (λ e. omega arith)
map_unknown map (inr h) = map_length_unknown map (λ e. omega arith) (λ e. omega arith) (λ e. omega arith) (λ e. omega arith) (λ e. omega arith) (λ e. omega arith)

-- and so is every other than these six
pub map_others : (map : ℕ)
    → (map ≡ 0x29 → ⊥) → (map ≡ 0x27 → ⊥) → (map ≡ 0x3F → ⊥) → (map ≡ 0x39 → ⊥) → (map ≡ 0x3B → ⊥) → (map ≡ 0x30 → ⊥) → map_length map ≡ 0
map_others = map_length_unknown

-- "The length of a known map becomes 2 plus the count of its ones" (document 02, Paper 3): bit by bit, and none stands above the sixth
pub map_ones : (map : ℕ) → is_known map ≡ true
    → (map < 64) × (map_length map ≡ 2 + (map % 2 + map / 2 % 2 + map / 4 % 2 + map / 8 % 2 + map / 16 % 2 + map / 32 % 2))
unfolding map_length is_known ones
map_ones map known =
    known_map (λ (k : ℕ). (k < 64) × (map_length k ≡ 2 + (k % 2 + k / 2 % 2 + k / 4 % 2 + k / 8 % 2 + k / 16 % 2 + k / 32 % 2)))
    (omega arith, refl)
    (omega arith, refl)
    (omega arith, refl)
    (omega arith, refl)
    (omega arith, refl)
    (omega arith, refl)
    map (known_some map known)

-- "an unknown map still has 0"
pub map_none : (map : ℕ) → is_known map ≡ false → map_length map ≡ 0
map_none = map_length_none

-- the six maps in document 02's numbers, and their lengths
pub map_lengths : map map_length (0x29 ∷ 0x27 ∷ 0x3F ∷ 0x39 ∷ 0x3B ∷ 0x30 ∷ []) ≡ 5 ∷ 6 ∷ 8 ∷ 6 ∷ 7 ∷ 4 ∷ []
unfolding map_length is_known ones
map_lengths = refl

-- "high byte first"
pub order_bytes_lem : (p : Plan) → (256 * get_or (order_bytes p) 0 0 + get_or (order_bytes p) 1 0 ≡ p.order) × (get_or (order_bytes p) 1 0 < 256)
order_bytes_lem p = (omega arith, omega arith)

pub order_bytes_example : order_bytes (record { rms = 1; acceptors = 1; leaders = 1; order = 0x0102 }) ≡ 1 ∷ 2 ∷ []
order_bytes_example = refl

-- the two bytes where a message of this length has its number are the plan's, each of them
pub order_compared_words : (p : Plan) (len : ℕ) (bytes : List ℕ)
    → (has_order p len bytes ≡ true) ↔ ((get_or bytes (len - 2) 0 ≡ get_or (order_bytes p) 0 0) × (get_or bytes (len - 1) 0 ≡ get_or (order_bytes p) 1 0))
order_compared_words p len bytes = (
  (λ h. let b = both (eqb (get_or bytes (len - 2) 0) (p.order / 256)) _ (sym (has_order_bytes p len bytes) ∙ h) in (eqb-true _ _ b.0, eqb-true _ _ b.1)),
  λ (high, low). has_order_bytes p len bytes ∙ rw (eq-eqb _ _ high, eq-eqb _ _ low),
)
