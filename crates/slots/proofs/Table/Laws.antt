-- The laws of slot tables.
--     is_zero_replicate, is_zero_form                 zeros
--     length_slots_up_to, get_d_slots_up_to, drop_slots_up_to, join_slots_slots_up_to  slots by place
--     length_slots, get_d_slots, first_slot           the slots of a table, and their first bytes
--     read_slot_unused, _used                         a slot of zeros, and one with a message
--     slot_at, slot_at_end, length_read_table          the slot at a place, by any rule
--     peek_at_in, peek_at_out                         its message
--     leading_used, _bound, _read_table               how many slots at the start are used
--     map_drop                                        a part of what a rule makes
--     is_table_zero, _none, _first                    a table is well formed where all bytes after them are zeros
-- Assumes nothing.
use Rattle.std.specs.Prelude.{ℕ, zero, suc, ◌+◌, ◌-◌, ◌*◌, ◌/◌, ◌≤◌, ◌<◌, Bool, true, false, ◌&&◌, cond, ◌≡◌, refl, eqb, length, get_or, take, drop, replicate}
use Rattle.std.proofs.Common.{zero-le, suc-le-suc, sym, ◌∙◌, ap₂, add-zero, not-suc-le-zero, arith, lit≤, drop-drop, take-add, get_or-take, get_or-drop, eqb-true}
use mathlib.Core.List.{List, [], ◌∷◌, ◌++◌, map}
use Rattle.std.proofs.Math.Path.{ap}
use Rattle.std.proofs.Math.Nat.{add-sub_cancel_left, sub-zero, suc-sub-suc}
use Rattle.std.proofs.lemmas.List.{length-map}
use Rattle.std.proofs.Math.ListN.{get_or-map, get_or-eq_default}
use Rattle.message.specs.declared.Plan.{Plan}
use Rattle.message.specs.declared.Message.{Message}
use Rattle.message.specs.Outcome.{Outcome, accepted, refused}
use Rattle.message.specs.Form.{map_length}
use Rattle.message.specs.Codec.{read_message}
use Rattle.slots.specs.Table.{Slot, Unused, Used, Bad, slot_size, slots_up_to, slots, is_zero, used_slot, read_slot, read_table, all_unused, is_ordered, is_table, join_slots}
use Rattle.slots.specs.All.{all}
use Rattle.message.proofs.Outcome.Laws.{both}
use Rattle.slots.proofs.All.Laws.{all_append}
use Rattle.slots.specs.Table.Scan.{peek_slot, peek_table, slot_message, peek_at}
use Rattle.slots.proofs.Table.Scan.Laws.{peek_slot_unused}
use Rattle.message.proofs.Codec.Laws.{read_message_none}

pub is_zero_replicate : (n : ℕ) → is_zero (replicate n 0) ≡ true
unfolding is_zero all
is_zero_replicate zero = refl
is_zero_replicate (suc n) = is_zero_replicate n

pub is_zero_form : (l : List ℕ) → is_zero l ≡ true → l ≡ replicate (length l) 0
unfolding is_zero all
is_zero_form [] e = refl
is_zero_form (x ∷ l) e = let b = both _ _ e in ap₂ (λ (y : ℕ) (r : List ℕ). y ∷ r) (eqb-true x 0 b.0) (is_zero_form l b.1)

pub length_slots_up_to : (n : ℕ) (t : List ℕ) → length (slots_up_to n t) ≡ n
unfolding slots_up_to
length_slots_up_to zero t = refl
length_slots_up_to (suc n) t = ap suc (length_slots_up_to n (drop slot_size t))

times_suc : (k : ℕ) → suc k * slot_size ≡ slot_size + k * slot_size
times_suc k = omega arith

times_sub : (m u : ℕ) → (m - u) * slot_size ≡ m * slot_size - u * slot_size
times_sub m u = omega arith

pub get_d_slots_up_to : (n k : ℕ) (t : List ℕ) → k < n → get_or (slots_up_to n t) k [] ≡ take slot_size (drop (k * slot_size) t)
unfolding slots_up_to
get_d_slots_up_to zero k t h = absurd (not-suc-le-zero h)
get_d_slots_up_to (suc n) zero t h = refl
get_d_slots_up_to (suc n) (suc k) t h = get_d_slots_up_to n k (drop slot_size t) (omega arith) ∙ rw (drop-drop, ← times_suc k)

pub drop_slots_up_to : (n u : ℕ) (t : List ℕ) → u ≤ n → drop u (slots_up_to n t) ≡ slots_up_to (n - u) (drop (u * slot_size) t)
unfolding slots_up_to
drop_slots_up_to n zero t h = rw sub-zero
drop_slots_up_to zero (suc u) t h = absurd (not-suc-le-zero h)
drop_slots_up_to (suc n) (suc u) t h =
    drop_slots_up_to n u (drop slot_size t) (omega arith)
    ∙ rw (drop-drop, ← times_suc u, suc-sub-suc)

pub join_slots_slots_up_to : (n : ℕ) (t : List ℕ) → join_slots (slots_up_to n t) ≡ take (n * slot_size) t
unfolding slots_up_to join_slots
join_slots_slots_up_to zero t = refl
join_slots_slots_up_to (suc n) t = ap (λ (r : List ℕ). take slot_size t ++ r) (join_slots_slots_up_to n (drop slot_size t)) ∙ rw (times_suc n, take-add)

pub length_slots : (t : List ℕ) → length (slots t) ≡ length t / slot_size
unfolding slots
length_slots t = length_slots_up_to (length t / slot_size) t

pub get_d_slots : (t : List ℕ) (k : ℕ) → k < length t / slot_size → get_or (slots t) k [] ≡ take slot_size (drop (k * slot_size) t)
unfolding slots
get_d_slots t k h = get_d_slots_up_to (length t / slot_size) k t h

pub first_slot : (t : List ℕ) (k : ℕ) → k < length t / slot_size → get_or (get_or (slots t) k []) 0 0 ≡ get_or t (k * slot_size) 0
first_slot t k h =
    ap (λ (s : List ℕ). get_or s 0 0) (get_d_slots t k h)
    ∙ get_or-take slot_size (drop (k * slot_size) t) 0 0 (lit≤ tt)
    ∙ get_or-drop (k * slot_size) t 0 0
    ∙ ap (λ (i : ℕ). get_or t i 0) (add-zero (k * slot_size))

-- a slot case by case
module _ (p : Plan) (s : List ℕ) where
  pub read_slot_unused : is_zero s ≡ true → read_slot p s ≡ Unused
  unfolding read_slot
  read_slot_unused z = rw z

  pub read_slot_used : is_zero s ≡ false → (m : Message) → read_message p (take (map_length (get_or s 0 0)) s) ≡ accepted m
      → is_zero (drop (map_length (get_or s 0 0)) s) ≡ true → read_slot p s ≡ Used m
  unfolding read_slot
  read_slot_used z m e r = rw (z, e, r)

pub length_read_table : (p : Plan) (t : List ℕ) → length (read_table p t) ≡ length t / slot_size
unfolding read_table
length_read_table p t = length-map (slots t) (read_slot p) ∙ length_slots t

-- the slot at a place, read by any rule, and past the end
module _ {A : Type 0} (read : List ℕ → A) (none : A) (of_none : read [] ≡ none) (t : List ℕ) (k : ℕ) where
  pub slot_at : k < length t / slot_size → read (take (k * slot_size + slot_size - k * slot_size) (drop (k * slot_size) t)) ≡ get_or (map read (slots t)) k none
  slot_at h =
      rw (add-sub_cancel_left (k * slot_size) slot_size)
      (ap read (sym (get_d_slots t k h)) ∙ sym (rw of_none at (get_or-map read (slots t) k [])))

  pub slot_at_end : length t / slot_size ≤ k → none ≡ get_or (map read (slots t)) k none
  slot_at_end h = sym (get_or-eq_default (map read (slots t)) none (rw (length-map (slots t) read, length_slots t) h))

-- the message in the slot at a place, and past the end
module _ (t : List ℕ) (k : ℕ) where
  pub peek_at_in : k < length t / slot_size → slot_message (peek_slot (take (k * slot_size + slot_size - k * slot_size) (drop (k * slot_size) t))) ≡ peek_at t k
  unfolding peek_at peek_table
  peek_at_in h = ap slot_message (slot_at peek_slot Unused (peek_slot_unused [] refl) t k h)

  pub peek_at_out : length t / slot_size ≤ k → refused 8 ≡ peek_at t k
  unfolding peek_at peek_table
  peek_at_out h = ap slot_message (slot_at_end peek_slot Unused (peek_slot_unused [] refl) t k h)

-- how many slots at the start are used
unfoldable pub leading_used : List Slot → ℕ
leading_used [] = 0
leading_used (Unused ∷ rest) = 0
leading_used (Used m ∷ rest) = suc (leading_used rest)
leading_used (Bad ∷ rest) = 0

pub leading_used_bound : (l : List Slot) → leading_used l ≤ length l
unfolding leading_used
leading_used_bound [] = zero-le
leading_used_bound (Unused ∷ l) = zero-le
leading_used_bound (Used m ∷ l) = suc-le-suc (leading_used_bound l)
leading_used_bound (Bad ∷ l) = zero-le

-- so the leading used slots are within the table
pub leading_used_read_table : (p : Plan) (t : List ℕ) (u : ℕ) → u ≡ leading_used (read_table p t) → u ≤ length t / slot_size
leading_used_read_table p t u e = rw (e, ← length_read_table p t) (leading_used_bound _)

-- used slots come first exactly when no slot after the leading ones is in use
is_ordered_leading : (l : List Slot) → is_ordered l ≡ all_unused (drop (leading_used l) l)
unfolding is_ordered all_unused leading_used
is_ordered_leading [] = refl
is_ordered_leading (Unused ∷ l) = refl
is_ordered_leading (Used m ∷ l) = is_ordered_leading l
is_ordered_leading (Bad ∷ l) = refl

-- a slot is unused exactly when it is zeros
all_unused_cons : (p : Plan) (s : List ℕ) (rest : List Slot) → all_unused (read_slot p s ∷ rest) ≡ (is_zero s && all_unused rest)
unfolding read_slot all_unused
all_unused_cons p s rest = go (is_zero s) (read_message p (take (map_length (get_or s 0 0)) s)) (is_zero (drop (map_length (get_or s 0 0)) s))
  where
    go : (z : Bool) (o : Outcome Message) (r : Bool) → all_unused (cond z Unused (used_slot o r) ∷ rest) ≡ (z && all_unused rest)
    go true o r = refl
    go false (refused k) r = refl
    go false (accepted m) true = refl
    go false (accepted m) false = refl

all_unused_slots : (p : Plan) (ss : List (List ℕ)) → all_unused (map (read_slot p) ss) ≡ is_zero (join_slots ss)
unfolding join_slots all_unused is_zero all
all_unused_slots p [] = refl
all_unused_slots p (s ∷ ss) =
    all_unused_cons p s (map (read_slot p) ss) ∙ ap (λ (b : Bool). is_zero s && b) (all_unused_slots p ss) ∙ sym (all_append (λ x. eqb x 0) s (join_slots ss))

pub map_drop : {A B : Type 0} (f : A → B) (u : ℕ) (l : List A) → drop u (map f l) ≡ map f (drop u l)
map_drop f zero l = refl
map_drop f (suc u) [] = refl
map_drop f (suc u) (x ∷ l) = map_drop f u l

-- a table is well formed exactly when all bytes after its leading used slots are zeros
pub is_table_zero : (p : Plan) (t : List ℕ) (u : ℕ) → u ≡ leading_used (read_table p t) → is_table p t ≡ is_zero (take (length t / slot_size * slot_size - u * slot_size) (drop (u * slot_size) t))
unfolding is_table read_table slots
is_table_zero p t u e =
    is_ordered_leading _
    ∙ ap (λ (k : ℕ). all_unused (drop k (map (read_slot p) (slots_up_to (length t / slot_size) t)))) (sym e)
    ∙ ap all_unused (map_drop (read_slot p) u _)
    ∙ all_unused_slots p _
    ∙ ap is_zero
    (ap join_slots (drop_slots_up_to _ u t (leading_used_read_table p t u e))
    ∙ join_slots_slots_up_to _ (drop (u * slot_size) t)
    ∙ ap (λ (k : ℕ). take k (drop (u * slot_size) t)) (times_sub (length t / slot_size) u))

-- a slot whose first byte is no map is not used
unused_first : (p : Plan) (s : List ℕ) (rest : List Slot) → map_length (get_or s 0 0) ≡ 0 → 0 ≡ leading_used (read_slot p s ∷ rest)
unfolding read_slot leading_used
unused_first p s rest e = rw e (go (is_zero s) (read_message p []) (is_zero s) (read_message_none p))
  where
    go : (z : Bool) (o : Outcome Message) (r : Bool) → ((m : Message) → o ≡ accepted m → ⊥) → 0 ≡ leading_used (cond z Unused (used_slot o r) ∷ rest)
    go true o r none = refl
    go false (refused k) r none = refl
    go false (accepted m) r none = absurd (none m refl)

-- so a table that begins with such a byte has no leading used slots
leading_used_first : (p : Plan) (t : List ℕ) → map_length (get_or t 0 0) ≡ 0 → 0 ≡ leading_used (read_table p t)
unfolding read_table slots slots_up_to leading_used
leading_used_first p t e = go (length t / slot_size)
  where
    go : (n : ℕ) → 0 ≡ leading_used (map (read_slot p) (slots_up_to n t))
    go zero = refl
    go (suc n) =
        unused_first p (take slot_size t) (map (read_slot p) (slots_up_to n (drop slot_size t)))
        (ap map_length (get_or-take slot_size t 0 0 (lit≤ tt)) ∙ e)

-- without leading used slots all bytes are zeros
pub is_table_none : (p : Plan) (t : List ℕ) → 0 ≡ leading_used (read_table p t) → is_table p t ≡ is_zero (take (length t / slot_size * slot_size) t)
is_table_none p t e = is_table_zero p t 0 e ∙ ap (λ (n : ℕ). is_zero (take n t)) (sub-zero (length t / slot_size * slot_size))

pub is_table_first : (p : Plan) (t : List ℕ) → map_length (get_or t 0 0) ≡ 0 → is_table p t ≡ is_zero (take (length t / slot_size * slot_size) t)
is_table_first p t e = is_table_none p t (leading_used_first p t e)
