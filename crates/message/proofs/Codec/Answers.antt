-- The reader and the writer along their rows, and what the writer leaves.
--     reader_ruled, writer_ruled       the rows, along the definitions
--     refusal_zeros, zeros_after       a refusal, and the bytes after a form
--     writes, form_accepted            where the writer accepts, and what it then gives
-- Assumes nothing.
use Rattle.std.specs.Prelude.{ℕ, ◌-◌, Bool, false, not, cond, List, ◌⊎◌, ◌≡◌, eqb, length, get_or, take, drop, replicate}
use Rattle.std.proofs.Math.Bool.{true, false≢true}
use Rattle.std.proofs.Common.{inl, inr, sym, ◌∙◌, ap, arith, eqb-true}
use Rattle.std.proofs.Math.Path.{refl}
use Rattle.std.proofs.lemmas.Bool.{eqb-false, not-true, not-false}
use Rattle.message.specs.declared.Plan.{Plan}
use Rattle.message.specs.declared.Message.{Message}
use Rattle.message.specs.declared.Written.{Written}
use Rattle.message.specs.Outcome.{accepted, refused}
use Rattle.message.specs.Plan.{is_plan}
use Rattle.message.specs.Form.{slot_size, map_length, decode, is_in_range, has_order, bytes_of}
use Rattle.message.proofs.Form.Laws.{length_slot_of, drop_slot_of, take_slot_of}
use Rattle.message.specs.Codec.{read_message, write_message}
use Rattle.message.proofs.Codec.Laws.{write_message_plan, write_message_range, write_message_accepted}
use Rattle.message.specs.Rows.{end, row, here, below}
use Rattle.message.proofs.Rows.Laws.{Ruled, ruled_row, ruled_both}

clash : (b : Bool) → not b ≡ false → b ≡ false → ⊥
clash b h k = false≢true (sym k ∙ not-false b h)

pub reader_ruled : (p : Plan) (bytes : List ℕ)
    → Ruled (read_message p bytes)
    (row 1 (is_plan p ≡ false)
    (row 15 ((length bytes ≡ 0) ⊎ (map_length (get_or bytes 0 0) ≡ 0))
    (row 16 (length bytes ≡ map_length (get_or bytes 0 0) → ⊥)
    (row 17 (is_in_range p (decode bytes) ≡ false)
    (row 18 (has_order p (map_length (get_or bytes 0 0)) bytes ≡ false)
    end)))))
unfolding read_message Ruled
reader_ruled p bytes =
    ruled_row _ 1 _ _ _ (not-true (is_plan p)) (clash (is_plan p))
    (λ plan. ruled_both _ _ 15 _ _ _ (λ h. inl (eqb-true _ _ h)) (λ h. inr (eqb-true _ _ h)) known
    (λ some map. ruled_row _ 16 _ _ _ (λ h. eqb-false _ _ (not-true _ h)) (λ h n. n (eqb-true _ _ (not-false _ h)))
    (λ len. ruled_row _ 17 _ _ _ (not-true (is_in_range p (decode bytes))) (clash (is_in_range p (decode bytes)))
    (λ range. ruled_row _ 18 _ _ _ (not-true (has_order p (map_length (get_or bytes 0 0)) bytes)) (clash (has_order p (map_length (get_or bytes 0 0)) bytes)) (λ order. tt)))))
  where
    known : eqb (length bytes) 0 ≡ false → eqb (map_length (get_or bytes 0 0)) 0 ≡ false → (length bytes ≡ 0) ⊎ (map_length (get_or bytes 0 0) ≡ 0) → ⊥
    known h k (inl e) = eqb-false _ _ h e
    known h k (inr e) = eqb-false _ _ k e

module _ (p : Plan) (m : Message) where
  pub writer_ruled : Ruled (cond (eqb (write_message p m).number 0) (accepted (write_message p m)) (refused (write_message p m).number))
      (row 1 (is_plan p ≡ false) (row 17 (is_in_range p m ≡ false) end))
  unfolding Ruled
  writer_ruled = go (is_plan p) (is_in_range p m) refl refl
    where
      no : (b : Bool) → b ≡ true → (b ≡ false) × Unit {1} → ⊥
      no b h k = false≢true (sym k.0 ∙ h)

      go : (plan range : Bool) → is_plan p ≡ plan → is_in_range p m ≡ range
          → Ruled (cond (eqb (write_message p m).number 0) (accepted (write_message p m)) (refused (write_message p m).number))
          (row 1 (is_plan p ≡ false) (row 17 (is_in_range p m ≡ false) end))
      go false range h i = rw (write_message_plan p m h) (here (refl, (h, tt)))
      go true false h i = rw (write_message_range p m h i) (below (no _ h, here (refl, (i, tt))))
      go true true h i = rw (write_message_accepted p m h i) (no _ h, (no _ i, tt))

  pub refusal_zeros : ((write_message p m).number ≡ 0 → ⊥) → ((write_message p m).bytes ≡ replicate slot_size 0) × ((write_message p m).len ≡ 0)
  refusal_zeros n = go (is_plan p) (is_in_range p m) refl refl
    where
      go : (plan range : Bool) → is_plan p ≡ plan → is_in_range p m ≡ range
          → ((write_message p m).bytes ≡ replicate slot_size 0) × ((write_message p m).len ≡ 0)
      go false range h i = rw (write_message_plan p m h) (refl, refl)
      go true false h i = rw (write_message_range p m h i) (refl, refl)
      go true true h i = absurd (n (ap (λ (w : Written). w.number) (write_message_accepted p m h i)))

  pub zeros_after : (write_message p m).number ≡ 0
      → (length (write_message p m).bytes ≡ slot_size)
      × (drop (write_message p m).len (write_message p m).bytes ≡ replicate (slot_size - (write_message p m).len) 0)
  zeros_after e = go (is_plan p) (is_in_range p m) refl refl
    where
      go : (plan range : Bool) → is_plan p ≡ plan → is_in_range p m ≡ range
          → (length (write_message p m).bytes ≡ slot_size)
          × (drop (write_message p m).len (write_message p m).bytes ≡ replicate (slot_size - (write_message p m).len) 0)
      go false range h i = absurd (let z : ◌≡◌ {A = ℕ} 1 0 = ap (λ (w : Written). w.number) (sym (write_message_plan p m h)) ∙ e in omega arith)
      go true false h i = absurd (let z : ◌≡◌ {A = ℕ} 17 0 = ap (λ (w : Written). w.number) (sym (write_message_range p m h i)) ∙ e in omega arith)
      go true true h i = rw (write_message_accepted p m h i) (length_slot_of p m, drop_slot_of p m)

-- the writer accepts exactly the messages in range under a plan in range
pub writes : (p : Plan) (m : Message) → (write_message p m).number ≡ 0 → (is_plan p ≡ true) × (is_in_range p m ≡ true)
writes p m e = go (is_plan p) (is_in_range p m) refl refl
  where
    go : (plan range : Bool) → is_plan p ≡ plan → is_in_range p m ≡ range → (is_plan p ≡ true) × (is_in_range p m ≡ true)
    go true true h i = (h, i)
    go true false h i = let n : ◌≡◌ {A = ℕ} 17 0 = ap (λ (w : Written). w.number) (sym (write_message_range p m h i)) ∙ e in absurd (omega arith)
    go false range h i = let n : ◌≡◌ {A = ℕ} 1 0 = ap (λ (w : Written). w.number) (sym (write_message_plan p m h)) ∙ e in absurd (omega arith)

pub form_accepted : (p : Plan) (m : Message) → is_plan p ≡ true → is_in_range p m ≡ true → take (write_message p m).len (write_message p m).bytes ≡ bytes_of p m
form_accepted p m h i = ap (λ (w : Written). take w.len w.bytes) (write_message_accepted p m h i) ∙ take_slot_of p m
