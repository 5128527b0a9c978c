-- Looking for a form in a table.
--     is_form_lem, not_form                 a slot and the form as numbers
--     found_near, looked_near               what is found before the place near the edge
--     Looked, looked_at, _next, _free, _full     what the slot at a place from there on says
--     message_located                       where a message stands or goes, by its form
-- Assumes nothing.
use Prim.Native.Nat.{ℕ, zero, suc, ◌+◌, ◌*◌, ◌/◌, ◌≤◌, ◌<◌, zero-le}
use mathlib.Core.List.{List, []}
use mathlib.Core.Path.{◌≡◌, refl, sym, ◌∙◌, ap, subst}
use native.Mathlib.Nat.{le_refl, le_of_eq}
use native.Mathlib.Numerals.{add-one}
use native.Mathlib.Omega.{arith}
use lib.ListN.{length, get_or, drop}
use Rattle.message.specs.declared.Plan.{Plan}
use Rattle.message.specs.declared.Message.{Message}
use Rattle.message.specs.Form.{slot_of}
use Rattle.message.proofs.Form.Laws.{length_slot_of}
use Rattle.slots.specs.declared.Place.{Place}
use Rattle.slots.specs.declared.Place.TheVariants.{At, Free, Full}
use Rattle.slots.specs.Table.{slot_size, slots, same_bytes}
use Rattle.slots.specs.Table.Scan.{near_edge, edge, slots_held, locate_from, locate}
use Rattle.slots.proofs.Table.Scan.Laws.{same_bytes_refl, same_bytes_false, locate_from_at, locate_from_next, locate_from_free, locate_from_full}
use Rattle.slots.proofs.Table.Edge.{near_below, edge_within, edge_at, edge_on, length_slots_held, held_at}
use Rattle.slots.proofs.Eight.{eight, slot_eight}
use Rattle.search.specs.Words.{EightFrom}
use Rattle.search.specs.Words.Laws.{same_bytes_lem, same_number, eight_of}
use Rattle.search.specs.Blocks.{IsForm, NoneIsForm, Found, Located}
use Rattle.search.proofs.Blocks.{none_next}

-- `slot` is the number of the eight bytes from `i` on
module _ {t : List ℕ} {i form slot : ℕ} (of-slot : EightFrom t i slot) where
  pub is_form_lem : slot ≡ form → EightFrom t i form
  is_form_lem e = rw (← e) of-slot

  pub not_form : (slot ≡ form → ⊥) → EightFrom t i form → ⊥
  not_form differs is = differs (same_number of-slot is refl)

-- a place from the one near the edge up to the edge, before which no slot is the form
pub record Looked (t : List ℕ) (form k : ℕ) : Type 0 where
  pub from : near_edge t ≤ k
  pub to : k ≤ edge t
  pub others : NoneIsForm t form 0 k

-- what looking from the slot at `k` on finds
look_from : List ℕ → List ℕ → ℕ → Place
look_from t bytes k = locate_from k (length t / slot_size) (drop k (slots_held t)) bytes

-- `form` is the number of these bytes
module _ (t : List ℕ) (form : ℕ) (bytes : List ℕ) (size : length bytes ≡ slot_size) (of-form : EightFrom bytes 0 form) where
  -- a slot is the form when it is these bytes
  bytes_are : (k : ℕ) → k < edge t → IsForm t form k → get_or (slots t) k [] ≡ bytes
  bytes_are k h is = slot_eight t k (omega (arith, edge_within t)) ∙ same_bytes_lem is of-form refl ∙ sym (eight bytes size)

  is_bytes : (k : ℕ) → k < edge t → get_or (slots t) k [] ≡ bytes → IsForm t form k
  is_bytes k h e = eight_of (subst (λ (l : List ℕ). EightFrom l 0 form) (sym e ∙ slot_eight t k (omega (arith, edge_within t))) of-form)

  look_start : look_from t bytes 0 ≡ locate t bytes
  unfolding look_from locate
  look_start = refl

  look_other : (k : ℕ) → k < edge t → (IsForm t form k → ⊥) → look_from t bytes (k + 1) ≡ look_from t bytes k
  unfolding look_from
  look_other k h differs =
      locate_from_next _ (slots_held t) bytes k (rw (length_slots_held t) h)
      (rw (held_at t k h) (same_bytes_false _ _ (λ e. differs (is_bytes k h e))))

  -- none of the slots before it is the form
  look_passed : (k : ℕ) → k ≤ edge t → NoneIsForm t form 0 k → look_from t bytes k ≡ locate t bytes
  look_passed zero h none = look_start
  look_passed (suc k) h none =
      rw (← add-one k) (look_other k h (none k zero-le (le_refl _)) ∙ look_passed k (omega arith) (λ j l m. none j l (omega arith)))

  look_at : (k : ℕ) → k < edge t → IsForm t form k → At k ≡ look_from t bytes k
  unfolding look_from
  look_at k h is =
      sym (locate_from_at _ (slots_held t) bytes k (rw (length_slots_held t) h)
      (rw (held_at t k h) (ap (λ (s : List ℕ). same_bytes s bytes) (bytes_are k h is) ∙ same_bytes_refl bytes)))

  look_free : (k : ℕ) → edge t ≡ k → k < length t / slot_size → Free k ≡ look_from t bytes k
  unfolding look_from
  look_free k e h = sym (locate_from_free _ (slots_held t) bytes k (rw (length_slots_held t) (le_of_eq e)) h)

  look_full : (k : ℕ) → edge t ≡ k → length t / slot_size ≤ k → Full ≡ look_from t bytes k
  unfolding look_from
  look_full k e h = sym (locate_from_full _ (slots_held t) bytes k (rw (length_slots_held t) (le_of_eq e)) h)

-- what looking from the slot at `k` on finds is the answer, where none of the slots before it is the form
located : (t : List ℕ) (form k : ℕ) (r : Place) → k ≤ edge t → NoneIsForm t form 0 k
    → ((bytes : List ℕ) → length bytes ≡ slot_size → EightFrom bytes 0 form → r ≡ look_from t bytes k)
    → Located t form r
located t form k r h none here =
    record { of_bytes = λ bytes size of-form. here bytes size of-form ∙ look_passed t form bytes size of-form k h none }

-- what is found before the place near the edge
module _ {t : List ℕ} {form r : ℕ} (f : Found t form 0 (near_edge t) r) where
  pub found_near : r < near_edge t → Located t form (At r)
  found_near h =
      let in_edge : r < edge t = omega (arith, near_below t) in
      located t form r _ (omega (arith, in_edge)) f.passed.others (λ bytes size of-form. look_at t form bytes size of-form r in_edge (f.is h))

  pub looked_near : near_edge t ≤ r → Looked t form (near_edge t)
  looked_near h = record { from = le_refl _; to = near_below t; others = λ k l m. f.passed.others k l (omega arith) }

-- and slot by slot from there on
module _ {t : List ℕ} {form k : ℕ} (l : Looked t form k) where
  pub looked_full : length t / slot_size ≤ k → Located t form Full
  looked_full h =
      located t form k _ l.to l.others (λ bytes size of-form. look_full t form bytes size of-form k (omega (arith, l.to, edge_within t)) h)

  module _ (h : k < length t / slot_size) where
    pub looked_free : get_or t (k * slot_size) 0 ≡ 0 → Located t form (Free k)
    looked_free e =
        located t form k _ l.to l.others (λ bytes size of-form. look_free t form bytes size of-form k (edge_at t k l.from l.to e) h)

    module _ (used : get_or t (k * slot_size) 0 ≡ 0 → ⊥) where
      in_edge : k < edge t
      in_edge = edge_on t k l.from l.to h used

      pub looked_at : IsForm t form k → Located t form (At k)
      looked_at is = located t form k _ l.to l.others (λ bytes size of-form. look_at t form bytes size of-form k in_edge is)

      pub looked_next : (IsForm t form k → ⊥) → Looked t form (k + 1)
      looked_next differs = record { from = omega (arith, l.from); to = omega (arith, in_edge); others = none_next t form 0 k l.others differs }

pub message_located : (p : Plan) (m : Message) {t : List ℕ} {form : ℕ} {r : Place} → EightFrom (slot_of p m) 0 form → Located t form r
    → r ≡ locate t (slot_of p m)
message_located p m of-form l = l.of_bytes (slot_of p m) (length_slot_of p m) of-form
