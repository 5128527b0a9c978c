-- The reader and the writer case by case, in the order of the refusals.
--     read_message_plan, _empty, _unknown
--     read_message_bytes_of, _other, _of_other   the form of a message in range reads as the message; that of another order is 18, and never read
--     FormOf, read_message_form, _none   what is read is the form of a message in range, and has bytes
--     read_message_whole                 a slice of its map's length: its fields and its order number decide
--     read_message_number, _number_length   a slice whose number is 0 is read as what it decodes to, and has its map's length
--     Begins, shape_length, _range, _none, shape_unknown     their number where the map is known: another length, a field out of range, or 0; and where it is not
--     shape_whole, read_number_early, _order   a slice that they pass; the reader's number is theirs, or else 18 or 0
--     write_message_plan, _range, _accepted
-- Assumes nothing.
use Rattle.std.specs.Prelude.{ℕ, ◌≤◌, Bool, true, false, not, cond, List, [], ◌≡◌, refl, eqb, length, get_or}
use Rattle.std.proofs.Math.Path.{sym}
use Rattle.std.proofs.Common.{◌∙◌, ap, arith}
use Rattle.std.proofs.Math.ListN.{get_or-eq_default}
use borrow.Author.Tests.{eq-eqb, ne_eqb, eqb-true, eqb-false, not-false}
use Rattle.message.specs.declared.Plan.{Plan}
use Rattle.message.specs.declared.Message.{Message}
use Rattle.message.specs.Outcome.{Outcome, accepted, refused, refuse_if, number_of}
use Rattle.message.proofs.Outcome.Laws.{accepted_inj, refuse_if_accepted, refuse_if_zero}
use Rattle.message.specs.Plan.{is_plan}
use Rattle.message.specs.Form.{bytes_of, message_length, map_length, decode, is_in_range, has_order}
use Rattle.message.proofs.Form.Laws.{message_length_length, message_length_bounds, map_length_bytes_of, decode_bytes_of, bytes_of_decode, has_order_bytes_of, has_order_other, bytes_of_order}
use Rattle.message.proofs.Form.Laws.{map_length_zero, map_length_least}
use Rattle.message.specs.Codec.{read_message, write_message, written}
use Rattle.message.specs.Codec.Laws.{FormOf, shape_number, and_after, Begins}

module _ (p : Plan) (bytes : List ℕ) where
  pub read_message_plan : is_plan p ≡ false → read_message p bytes ≡ refused 1
  unfolding read_message refuse_if
  read_message_plan h = simp h

  pub read_message_empty : is_plan p ≡ true → length bytes ≡ 0 → read_message p bytes ≡ refused 15
  unfolding read_message refuse_if
  read_message_empty h e = simp (h, eq-eqb _ _ e)

  module _ (h : is_plan p ≡ true) (e : length bytes ≡ 0 → ⊥) where
    pub read_message_unknown : map_length (get_or bytes 0 0) ≡ 0 → read_message p bytes ≡ refused 15
    unfolding read_message refuse_if
    read_message_unknown u = simp (h, ne_eqb _ _ e, eq-eqb _ _ u)

pub read_message_bytes_of : (p : Plan) (m : Message) → is_plan p ≡ true → is_in_range p m ≡ true → read_message p (bytes_of p m) ≡ accepted m
unfolding read_message refuse_if
read_message_bytes_of p m h i =
    simp (
      h,
      decode_bytes_of,
      map_length_bytes_of,
      message_length_length,
      ne_eqb (message_length p m) 0 (λ e. omega (arith, (message_length_bounds p m).0)),
      eq-eqb
          (message_length p m) _ refl,
      i,
      has_order_bytes_of,
    )

-- of another order number it is refused, after all else
pub read_message_other : (p q : Plan) (m : Message) → is_plan p ≡ true → is_in_range p m ≡ true → (p.order ≡ q.order → ⊥)
    → read_message p (bytes_of q m) ≡ refused 18
unfolding read_message refuse_if
read_message_other p q m h i differs =
    simp (
      h,
      decode_bytes_of,
      map_length_bytes_of,
      message_length_length,
      ne_eqb (message_length q m) 0 (λ e. omega (arith, (message_length_bounds q m).0)),
      eq-eqb (message_length q m) _ refl,
      i,
      has_order_other p q differs m,
    )

-- and whatever the counts, it is not read
pub read_message_form : (p : Plan) (bytes : List ℕ) (m : Message) → read_message p bytes ≡ accepted m → FormOf p m bytes
unfolding read_message
read_message_form p bytes m e =
    let plan = refuse_if_accepted _ _ _ _ e in
    let nonempty = refuse_if_accepted _ _ _ _ plan.1 in
    let known = refuse_if_accepted _ _ _ _ nonempty.1 in
    let len = refuse_if_accepted _ _ _ _ known.1 in
    let range = refuse_if_accepted _ _ _ _ len.1 in
    let order = refuse_if_accepted _ _ _ _ range.1 in
    let m-is : decode bytes ≡ m = accepted_inj order.1 in
    record {
      plan = not-false _ plan.0;
      in_range = rw m-is at (not-false (is_in_range p (decode bytes)) range.0);
      bytes_form = sym (bytes_of_decode p bytes (eqb-false _ _ known.0) (eqb-true _ _ (not-false _ len.0)) (not-false _ order.0)) ∙ ap (bytes_of p) m-is;
    }

pub read_message_of_other : (p q : Plan) (m n : Message) → (p.order ≡ q.order → ⊥) → read_message p (bytes_of q m) ≡ accepted n → ⊥
read_message_of_other p q m n differs e = bytes_of_order p q n m differs (sym (read_message_form p (bytes_of q m) n e).bytes_form)

-- no message has no bytes
pub read_message_none : (p : Plan) (m : Message) → read_message p [] ≡ accepted m → ⊥
read_message_none p m e =
    let empty = ap (λ (l : List ℕ). length l) (read_message_form p [] m e).bytes_form ∙ message_length_length p m in
    omega (arith, (message_length_bounds p m).0, empty)

pub read_message_number : (p : Plan) (bytes : List ℕ) → number_of (read_message p bytes) ≡ 0 → accepted (decode bytes) ≡ read_message p bytes
unfolding read_message
read_message_number p bytes z =
    let plan = refuse_if_zero _ 1 _ (λ e. omega arith) z in
    let nonempty = refuse_if_zero _ 15 _ (λ e. omega arith) plan.1 in
    let known = refuse_if_zero _ 15 _ (λ e. omega arith) nonempty.1 in
    let len = refuse_if_zero _ 16 _ (λ e. omega arith) known.1 in
    let range = refuse_if_zero _ 17 _ (λ e. omega arith) len.1 in
    let order = refuse_if_zero _ 18 _ (λ e. omega arith) range.1 in
    sym (plan.0 ∙ nonempty.0 ∙ known.0 ∙ len.0 ∙ range.0 ∙ order.0)

-- and it has the length that its map stands for
pub read_message_number_length : (p : Plan) (bytes : List ℕ) → number_of (read_message p bytes) ≡ 0 → length bytes ≡ map_length (get_or bytes 0 0)
read_message_number_length p bytes z =
    let form = (read_message_form p bytes (decode bytes) (sym (read_message_number p bytes z))).bytes_form in
    ap (λ (l : List ℕ). length l) form ∙ message_length_length p (decode bytes)
    ∙ sym (ap (λ (l : List ℕ). map_length (get_or l 0 0)) form ∙ map_length_bytes_of p (decode bytes))

-- under a plan in range, of a slice that has its known map's length, only the last two rows are left
pub read_message_whole : (p : Plan) (bytes : List ℕ) (len : ℕ) → is_plan p ≡ true → map_length (get_or bytes 0 0) ≡ len → (len ≡ 0 → ⊥) → length bytes ≡ len
    → read_message p bytes ≡ refuse_if (not (is_in_range p (decode bytes))) 17 (refuse_if (not (has_order p len bytes)) 18 (accepted (decode bytes)))
unfolding read_message refuse_if
read_message_whole p bytes len h known some n = rw (h, known, n, ne_eqb len 0 some, eq-eqb len len refl)

rows_after : (plan empty unknown len range order : Bool) (m : Message)
    → number_of (refuse_if plan 1 (refuse_if empty 15 (refuse_if unknown 15 (refuse_if len 16 (refuse_if range 17 (refuse_if (not order) 18 (accepted m)))))))
    ≡ and_after (number_of (refuse_if plan 1 (refuse_if empty 15 (refuse_if unknown 15 (refuse_if len 16 (refuse_if range 17 (accepted m))))))) (cond order 0 18)
unfolding refuse_if and_after
rows_after true empty unknown len range order m = refl
rows_after false true unknown len range order m = refl
rows_after false false true len range order m = refl
rows_after false false false true range order m = refl
rows_after false false false false true order m = refl
rows_after false false false false false true m = refl
rows_after false false false false false false m = refl

row_zero : (b : Bool) (k : ℕ) (rest : Outcome Message) → (k ≡ 0 → ⊥) → number_of (refuse_if b k rest) ≡ 0 → (b ≡ false) × (number_of rest ≡ 0)
unfolding refuse_if
row_zero true k rest some z = absurd (some z)
row_zero false k rest some z = (refl, z)

module _ (p : Plan) (bytes : List ℕ) where
  read_number_shape : number_of (read_message p bytes)
      ≡ and_after (shape_number p bytes) (cond (has_order p (map_length (get_or bytes 0 0)) bytes) 0 18)
  unfolding read_message shape_number
  read_number_shape =
      rows_after (not (is_plan p)) (eqb (length bytes) 0) (eqb (map_length (get_or bytes 0 0)) 0) (not (eqb (length bytes) (map_length (get_or bytes 0 0))))
      (not (is_in_range p (decode bytes))) (has_order p (map_length (get_or bytes 0 0)) bytes) (decode bytes)

  -- a number of rows 1 to 17 is the reader's
  pub read_number_early : (k : ℕ) → k ≡ shape_number p bytes → (k ≡ 0 → ⊥) → k ≡ number_of (read_message p bytes)
  unfolding and_after
  read_number_early k e some = sym (read_number_shape ∙ rw (← e, ne_eqb k 0 some))

  -- a slice that they pass has its map's length, and no map has less than four bytes
  pub shape_whole : shape_number p bytes ≡ 0 → (length bytes ≡ map_length (get_or bytes 0 0)) × (4 ≤ length bytes)
  unfolding shape_number
  shape_whole z =
      let nonempty = row_zero _ 1 _ (λ e. omega arith) z in
      let known = row_zero _ 15 _ (λ e. omega arith) nonempty.1 in
      let len = row_zero _ 15 _ (λ e. omega arith) known.1 in
      let range = row_zero _ 16 _ (λ e. omega arith) len.1 in
      let n = eqb-true (length bytes) (map_length (get_or bytes 0 0)) (not-false _ range.0) in
      (n, rw n (map_length_least (get_or bytes 0 0) (eqb-false _ _ len.0)))

  -- and the reader's number is then that of its order number
  pub read_number_order : shape_number p bytes ≡ 0 → (b : Bool) → b ≡ has_order p (length bytes) bytes → cond b 0 18 ≡ number_of (read_message p bytes)
  unfolding and_after
  read_number_order z b e = sym (read_number_shape ∙ rw (z, ← (shape_whole z).0, e))

-- its number: 16, 17 or 0
module _ (p : Plan) (map : ℕ) (bytes : List ℕ) (b : Begins p map bytes) where
  nonempty : length bytes ≡ 0 → ⊥
  nonempty e =
      let zero_first : map ≡ 0 = sym b.first ∙ get_or-eq_default bytes 0 {n = 0} (omega arith) in
      let none : map_length map ≡ 0 = ap map_length zero_first ∙ map_length_zero in
      omega (arith, b.known)

  shape_known : shape_number p bytes ≡ number_of (refuse_if (not (eqb (length bytes) (map_length map))) 16 (refuse_if (not (is_in_range p (decode bytes))) 17 (accepted (decode bytes))))
  unfolding shape_number refuse_if
  shape_known = rw (b.plan, b.first, ne_eqb _ _ nonempty, ne_eqb (map_length map) 0 (λ e. omega (arith, b.known)))

  pub shape_length : (length bytes ≡ map_length map → ⊥) → 16 ≡ shape_number p bytes
  unfolding refuse_if
  shape_length n = sym (shape_known ∙ rw (ne_eqb _ _ n))

  pub shape_range : length bytes ≡ map_length map → false ≡ is_in_range p (decode bytes) → 17 ≡ shape_number p bytes
  unfolding refuse_if
  shape_range n i = sym (shape_known ∙ rw (eq-eqb _ _ n, ← i))

  pub shape_none : length bytes ≡ map_length map → true ≡ is_in_range p (decode bytes) → 0 ≡ shape_number p bytes
  unfolding refuse_if
  shape_none n i = sym (shape_known ∙ rw (eq-eqb _ _ n, ← i))

-- a slice that begins with no known map, an empty one too
pub shape_unknown : (p : Plan) (bytes : List ℕ) → is_plan p ≡ true → map_length (get_or bytes 0 0) ≡ 0 → 15 ≡ shape_number p bytes
unfolding shape_number refuse_if
shape_unknown p bytes h u = go (eqb (length bytes) 0) refl
  where
    go : (b : Bool) → eqb (length bytes) 0 ≡ b → 15 ≡ shape_number p bytes
    go true e = rw (h, e)
    go false e = rw (h, e, eq-eqb _ _ u)

module _ (p : Plan) (m : Message) where
  pub write_message_plan : is_plan p ≡ false → write_message p m ≡ written p (refused 1)
  unfolding write_message refuse_if
  write_message_plan h = simp h

  pub write_message_range : is_plan p ≡ true → is_in_range p m ≡ false → write_message p m ≡ written p (refused 17)
  unfolding write_message refuse_if
  write_message_range h i = simp (h, i)

  pub write_message_accepted : is_plan p ≡ true → is_in_range p m ≡ true → write_message p m ≡ written p (accepted m)
  unfolding write_message refuse_if
  write_message_accepted h i = simp (h, i)
