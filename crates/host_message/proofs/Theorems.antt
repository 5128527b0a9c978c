-- What the reader's number and the writer's say, and that the writer takes the fields that the reader gives.
--     message_of_zero       byte 0 of the reader's number is 0 exactly for a message
--     one_message           no number stands for two messages; a message's fields are bytes
--     message_of_fields_of  the map and the fields of a message are, for the writer, that message
--     fields_mean, message_means     the map and the fields of each message, in numbers; what the writer takes them for
--     host_writes, host_plan, host_unknown     it gives what document 01's writer gives under the same plan; 1, then 15
--     read_refused          a refusal of the reader is its number
--     Answer, host_answers  an answer of the writer: a form or a refusal; the writer by map and fields gives no other
--     form_means            a form's number is its eight bytes, the lowest its map, which is not 0 and stands for the length
--     refusal_means         refusal k is 256 × k
--     one_written           no number stands for two answers of the writer, whose eight bytes are bytes
--     read_examples, write_examples, other_examples     numbers that the reader and the writer give, computed: every field has a value of its own
-- Assumes nothing.
use Rattle.std.specs.Prelude.{ℕ, ◌*◌, ◌-◌, ◌%◌, ◌≤◌, ◌<◌, Bool, not, List, [], ◌∷◌, ◌⊎◌, ◌↔◌, ◌≡◌, refl, length, get_or, take, drop, replicate, None}
use Rattle.std.proofs.Math.Bool.{true, false}
use Rattle.std.proofs.Common.{inl, inr, sym, ◌∙◌, ap, arith}
use Rattle.std.specs.Int.Count.{ones}
use Rattle.message.specs.declared.Plan.{Plan}
use Rattle.message.specs.declared.Message.{Message}
use Rattle.message.specs.declared.Message.TheVariants.{Phase1a, Phase1b, Phase2a, Phase2b, Decision}
use Rattle.message.specs.declared.Written.{Written}
use Rattle.message.specs.Outcome.{Outcome, accepted, refused}
use Rattle.message.proofs.Outcome.Laws.{accepted_inj, accepted_not_refused}
use Rattle.message.specs.Outcome.{refuse_if}
use Rattle.message.specs.Plan.{is_count, is_plan}
use Rattle.message.specs.Form.{is_value, is_vote, is_in_range, bytes_of1b, bytes_of, message_length, slot_size, slot_of, is_known, map_length, fields_message, decode, has_order, cast_vote}
use Rattle.message.proofs.Form.Laws.{unknown_length, message_cases, map_length_bytes_of, take_slot_of, drop_slot_of, first_bytes_of}
use Rattle.message.specs.Codec.{read_message, written, write_message}
use Rattle.message.proofs.Codec.Laws.{write_message_plan}
use Rattle.message.proofs.Theorems.{reader_numbers}
use Rattle.host_code.specs.Code.{plan_of, packed, are_bytes}
use Rattle.host_code.proofs.CodeLaws.{packed_first, packed_inj}
use Rattle.host_message.specs.Code.{fields_of, message_with, message_of, read_code, write_outcome, host_write, written_code}
use Rattle.host_message.proofs.CodeLaws.{written_bytes}
use Rattle.host_message.proofs.CodeWriting.{written_first, refused_code, written_inj, host_written}

pub message_of_zero : (p : Plan) (bytes : List ℕ) → (read_code (read_message p bytes) % 256 ≡ 0) ↔ ((m : Message) × (read_message p bytes ≡ accepted m))
message_of_zero p bytes = go (read_message p bytes) refl
  where
    number : (k : ℕ) → (k ≡ 1) ⊎ ((15 ≤ k) × (k ≤ 18)) → (0 < k) × (k < 256)
    number k (inl h) = (omega arith, omega arith)
    number k (inr h) = (omega (arith, h.0), omega (arith, h.1))

    go : (o : Outcome Message) → read_message p bytes ≡ o → (read_code o % 256 ≡ 0) ↔ ((m : Message) × (o ≡ accepted m))
    go (accepted m) e = ((λ z. (m, refl)), (λ s. packed_first 0 (fields_of m) (omega arith)))
    go (refused k) e =
        let bounds = number k (reader_numbers p bytes k e) in
        ((λ z. absurd (omega (arith, bounds.0, bounds.1))), (λ s. absurd (accepted_not_refused s.1)))

pub message_of_fields_of : (m : Message)
    → message_of (get_or (fields_of m) 0 0) (get_or (fields_of m) 1 0) (get_or (fields_of m) 2 0) (get_or (fields_of m) 3 0) (get_or (fields_of m) 4 0) (get_or (fields_of m) 5 0)
    ≡ accepted m
unfolding message_of message_with is_known refuse_if
message_of_fields_of = message_cases _ (λ i b. refl) (λ i a m. refl) (λ i a m b v. refl) (λ i b v. refl) (λ i a b v. refl) (λ v. refl)

length_fields_of : (m : Message) → length (fields_of m) ≡ 6
length_fields_of = message_cases _ (λ i b. refl) (λ i a m. refl) (λ i a m b v. refl) (λ i b v. refl) (λ i a b v. refl) (λ v. refl)

pub one_message : (m m' : Message) → are_bytes (fields_of m) ≡ true → are_bytes (fields_of m') ≡ true → read_code (accepted m) ≡ read_code (accepted m') → m ≡ m'
one_message m m' h h' e =
    let same : fields_of m ≡ fields_of m' = packed_inj (fields_of m) (fields_of m') (length_fields_of m ∙ sym (length_fields_of m')) h h' (omega arith) in
    accepted_inj (sym (message_of_fields_of m)
    ∙ ap (λ (f : List ℕ). message_of (get_or f 0 0) (get_or f 1 0) (get_or f 2 0) (get_or f 3 0) (get_or f 4 0) (get_or f 5 0)) same
    ∙ message_of_fields_of m')

-- in the order map, ins, acc, mbal, bal, val: what the reader answers of each message, and what the writer takes; a field that the message does
-- not have is 0, and is not looked at
pub fields_mean : (i a m b v : ℕ)
    → (fields_of (Phase1a i b) ≡ 0x29 ∷ i ∷ 0 ∷ 0 ∷ b ∷ 0 ∷ [])
    × (fields_of (Phase1b i a m None) ≡ 0x27 ∷ i ∷ a ∷ m ∷ 0 ∷ 0 ∷ [])
    × (fields_of (Phase1b i a m (cast_vote b v)) ≡ 0x3F ∷ i ∷ a ∷ m ∷ b ∷ v ∷ [])
    × (fields_of (Phase2a i b v) ≡ 0x39 ∷ i ∷ 0 ∷ 0 ∷ b ∷ v ∷ [])
    × (fields_of (Phase2b i a b v) ≡ 0x3B ∷ i ∷ a ∷ 0 ∷ b ∷ v ∷ [])
    × (fields_of (Decision v) ≡ 0x30 ∷ 0 ∷ 0 ∷ 0 ∷ 0 ∷ v ∷ [])
fields_mean i a m b v = (refl, refl, refl, refl, refl, refl)

pub message_means : (i a m b v : ℕ)
    → (message_of 0x29 i a m b v ≡ accepted (Phase1a i b))
    × (message_of 0x27 i a m b v ≡ accepted (Phase1b i a m None))
    × (message_of 0x3F i a m b v ≡ accepted (Phase1b i a m (cast_vote b v)))
    × (message_of 0x39 i a m b v ≡ accepted (Phase2a i b v))
    × (message_of 0x3B i a m b v ≡ accepted (Phase2b i a b v))
    × (message_of 0x30 i a m b v ≡ accepted (Decision v))
unfolding message_of message_with is_known refuse_if
message_means i a m b v = (refl, refl, refl, refl, refl, refl)

-- the writer by map and fields gives for a message what document 01's writer gives, under the same plan; 1 for a plan out of range, and then 15
-- for what is no map
module _ (p : Plan) where
  pub host_writes : (m : Message)
      → host_write p (get_or (fields_of m) 0 0) (get_or (fields_of m) 1 0) (get_or (fields_of m) 2 0) (get_or (fields_of m) 3 0) (get_or (fields_of m) 4 0) (get_or (fields_of m) 5 0)
      ≡ write_message p m
  unfolding host_write refuse_if
  host_writes m = rw (message_of_fields_of m) (go (is_plan p) refl)
    where
      go : (b : Bool) → is_plan p ≡ b → write_outcome p (refuse_if (not (is_plan p)) 1 (accepted m)) ≡ write_message p m
      go true h = rw h
      go false h = rw h (sym (write_message_plan p m h))

  pub host_plan : (map ins acc mbal bal val : ℕ) → is_plan p ≡ false → host_write p map ins acc mbal bal val ≡ written p (refused 1)
  unfolding host_write refuse_if
  host_plan map ins acc mbal bal val bad = rw bad

  pub host_unknown : (map ins acc mbal bal val : ℕ) → is_plan p ≡ true → map_length map ≡ 0 → host_write p map ins acc mbal bal val ≡ written p (refused 15)
  unfolding host_write refuse_if message_of
  host_unknown map ins acc mbal bal val good none = rw (good, unknown_length map none)

-- a refusal of the reader is its number
pub read_refused : (k : ℕ) → read_code (refused k) ≡ k
read_refused k = refl

-- an answer of the writer under some plan
pub record Answer (w : Written) : Type 0 where
  pub plan : Plan
  pub outcome : Outcome Message
  pub is : w ≡ written plan outcome

pub host_answers : (p : Plan) (map ins acc mbal bal val : ℕ) → Answer (host_write p map ins acc mbal bal val)
host_answers p map ins acc mbal bal val =
    let w = host_written p map ins acc mbal bal val in
    record { plan = p; outcome = w.0; is = w.1 }

module _ (p : Plan) (m : Message) where
  abbrev w : Written
  w = written p (accepted m)

  -- the bytes after the form are zeros
  pub form_means : (written_code w ≡ packed w.bytes)
      × (take w.len w.bytes ≡ bytes_of p m)
      × (drop w.len w.bytes ≡ replicate (slot_size - w.len) 0)
      × (written_code w % 256 ≡ get_or (bytes_of p m) 0 0)
      × (written_code w % 256 ≡ 0 → ⊥)
      × (map_length (written_code w % 256) ≡ w.len)
  form_means = (
    sym (written_bytes w refl),
    take_slot_of p m,
    drop_slot_of p m,
    written_first p m,
    λ z. first_bytes_of p m (sym (written_first p m) ∙ z),
    ap map_length (written_first p m) ∙ map_length_bytes_of p m,
  )

pub refusal_means : (p : Plan) (k : ℕ) → written_code (written p (refused k)) ≡ 256 * k
refusal_means = refused_code

pub one_written : (w w' : Written) → Answer w → Answer w' → are_bytes w.bytes ≡ true → are_bytes w'.bytes ≡ true → written_code w ≡ written_code w' → w ≡ w'
one_written w w' a a' h h' e =
    a.is
    ∙ written_inj a.plan a'.plan a.outcome a'.outcome
    (sym (ap (λ (v : Written). are_bytes v.bytes) a.is) ∙ h)
    (sym (ap (λ (v : Written). are_bytes v.bytes) a'.is) ∙ h')
    (sym (ap written_code a.is) ∙ e ∙ ap written_code a'.is)
    ∙ sym a'.is

-- of order 0102: 1b of instance 5, acceptor 3, mbal 9, with a vote at ballot 8 for 2; 2b of these; 2a; an instance that only the first count
-- allows; another order; no map
pub read_examples : (read_code (read_message (plan_of 16 7 4 0x0102) (0x3F ∷ 5 ∷ 3 ∷ 9 ∷ 8 ∷ 2 ∷ 1 ∷ 2 ∷ [])) ≡ 0x02080903053F00)
    × (read_code (read_message (plan_of 16 7 4 0x0102) (0x3B ∷ 5 ∷ 3 ∷ 8 ∷ 2 ∷ 1 ∷ 2 ∷ [])) ≡ 0x02080003053B00)
    × (read_code (read_message (plan_of 2 1 1 0x0102) (0x39 ∷ 1 ∷ 0 ∷ 1 ∷ 1 ∷ 2 ∷ [])) ≡ 0x01000000013900)
    × (read_code (read_message (plan_of 1 2 1 0x0102) (0x39 ∷ 1 ∷ 0 ∷ 1 ∷ 1 ∷ 2 ∷ [])) ≡ 17)
    × (read_code (read_message (plan_of 2 1 1 0x0201) (0x39 ∷ 1 ∷ 0 ∷ 1 ∷ 1 ∷ 2 ∷ [])) ≡ 18)
    × (read_code (read_message (plan_of 1 1 1 0x0102) (0 ∷ [])) ≡ 15)
unfolding read_message refuse_if is_plan is_count map_length is_known ones decode fields_message has_order is_in_range is_vote is_value
read_examples = (refl, refl, refl, refl, refl, refl)

-- the same two messages; a 1a, whose acceptor, mbal and value are not looked at; an instance out of range; no map
pub write_examples : (written_code (host_write (plan_of 16 7 4 0x0102) 0x3F 5 3 9 8 2) ≡ 0x020102080903053F)
    × (written_code (host_write (plan_of 16 7 4 0x0102) 0x3B 5 3 9 8 2) ≡ 0x000201020803053B)
    × (written_code (host_write (plan_of 2 1 1 0x0102) 0x29 1 77 77 4 77) ≡ 0x0000000201040129)
    × (written_code (host_write (plan_of 1 2 1 0x0102) 0x29 1 0 0 4 0) ≡ 0x1100)
    × (written_code (host_write (plan_of 1 1 1 0x0102) 0x11 0 0 0 0 1) ≡ 0x0F00)
unfolding host_write message_of message_with is_known written_code write_message refuse_if is_plan is_count is_in_range is_vote is_value bytes_of bytes_of1b message_length slot_of
write_examples = (refl, refl, refl, refl, refl)

-- the other three messages, read and written: 1a and 1b of instance 5, 2a at ballot 8 for 2, and Abort
pub other_examples : (read_code (read_message (plan_of 16 7 4 0x0102) (0x29 ∷ 5 ∷ 8 ∷ 1 ∷ 2 ∷ [])) ≡ 0x080000052900)
    × (read_code (read_message (plan_of 16 7 4 0x0102) (0x27 ∷ 5 ∷ 3 ∷ 9 ∷ 1 ∷ 2 ∷ [])) ≡ 0x0903052700)
    × (read_code (read_message (plan_of 16 7 4 0x0102) (0x30 ∷ 2 ∷ 1 ∷ 2 ∷ [])) ≡ 0x02000000003000)
    × (written_code (host_write (plan_of 16 7 4 0x0102) 0x27 5 3 9 8 2) ≡ 0x020109030527)
    × (written_code (host_write (plan_of 16 7 4 0x0102) 0x39 5 3 9 8 2) ≡ 0x020102080539)
    × (written_code (host_write (plan_of 16 7 4 0x0102) 0x30 5 3 9 8 2) ≡ 0x02010230)
unfolding read_message refuse_if is_plan is_count map_length is_known ones decode fields_message has_order is_in_range is_vote is_value host_write message_of message_with written_code
    write_message bytes_of bytes_of1b message_length slot_of
other_examples = (refl, refl, refl, refl, refl, refl)
