-- The laws of the steps on a judged table.
--     peek_slot_unused, _used               a slot by its first byte
--     same_bytes_true, _refl, _false        comparing byte by byte
--     locate_from_at, _next, _free, _full   looking slot by slot
--     store_at_in, store_at_out             the table after a store
-- Assumes nothing.
use Rattle.std.specs.Prelude.{ℕ, ◌+◌, ◌*◌, ◌/◌, ◌≤◌, ◌<◌, Bool, true, false, ◌≡◌, refl, length, get_or, take, drop}
use Rattle.std.proofs.lemmas.Bool.{false≢true}
use mathlib.Core.List.{List, [], ◌∷◌, ◌++◌}
use Rattle.std.proofs.Common.{ap₂, add-one, drop_of_length-le, drop-cons}
use borrow.Author.Tests.{eq-eqb, ne_eqb, eqb-true, lt-ltb, le-ltb}
use Rattle.message.proofs.Outcome.Laws.{both}
use Rattle.message.specs.Form.{decode}
use Rattle.slots.specs.declared.Place.TheVariants.{At, Free, Full}
use Rattle.slots.specs.Table.{Unused, Used, slot_size, same_bytes, store_at}
use Rattle.slots.specs.Table.Scan.{peek_slot, locate_from}

module _ (s : List ℕ) where
  pub peek_slot_unused : get_or s 0 0 ≡ 0 → peek_slot s ≡ Unused
  unfolding peek_slot
  peek_slot_unused e = rw (eq-eqb _ _ e)

  pub peek_slot_used : (get_or s 0 0 ≡ 0 → ⊥) → peek_slot s ≡ Used (decode s)
  unfolding peek_slot
  peek_slot_used n = rw (ne_eqb _ _ n)

pub same_bytes_true : (a b : List ℕ) → same_bytes a b ≡ true → a ≡ b
unfolding same_bytes
same_bytes_true [] [] e = refl
same_bytes_true [] (y ∷ b) e = absurd (false≢true e)
same_bytes_true (x ∷ a) [] e = absurd (false≢true e)
same_bytes_true (x ∷ a) (y ∷ b) e =
    let h = both _ _ e in ap₂ (λ (z : ℕ) (r : List ℕ). z ∷ r) (eqb-true x y h.0) (same_bytes_true a b h.1)

pub same_bytes_refl : (a : List ℕ) → same_bytes a a ≡ true
unfolding same_bytes
same_bytes_refl [] = refl
same_bytes_refl (x ∷ a) = rw (eq-eqb x x refl) (same_bytes_refl a)

pub same_bytes_false : (a b : List ℕ) → (a ≡ b → ⊥) → same_bytes a b ≡ false
same_bytes_false a b n = go (same_bytes a b) refl
  where
    go : (r : Bool) → same_bytes a b ≡ r → same_bytes a b ≡ false
    go true e = absurd (n (same_bytes_true a b e))
    go false e = e

-- one slot further
module _ (room : ℕ) (ss : List (List ℕ)) (form : List ℕ) (k : ℕ) where
  pub locate_from_at : k < length ss → same_bytes (get_or ss k []) form ≡ true → locate_from k room (drop k ss) form ≡ At k
  unfolding locate_from
  locate_from_at h e = rw (drop-cons ss k [] h, e)

  pub locate_from_next : k < length ss → same_bytes (get_or ss k []) form ≡ false → locate_from (k + 1) room (drop (k + 1) ss) form ≡ locate_from k room (drop k ss) form
  unfolding locate_from
  locate_from_next h e = rw (drop-cons ss k [] h, e, add-one)

  pub locate_from_free : length ss ≤ k → k < room → locate_from k room (drop k ss) form ≡ Free k
  unfolding locate_from
  locate_from_free h r = rw (drop_of_length-le ss h, lt-ltb k room r)

  pub locate_from_full : length ss ≤ k → room ≤ k → locate_from k room (drop k ss) form ≡ Full
  unfolding locate_from
  locate_from_full h r = rw (drop_of_length-le ss h, le-ltb k room r)

module _ (t : List ℕ) (k : ℕ) (form : List ℕ) where
  pub store_at_in : k < length t / slot_size → store_at t k form ≡ take (k * slot_size) t ++ (form ++ drop (k * slot_size + slot_size) t)
  unfolding store_at
  store_at_in h = rw (lt-ltb _ _ h)

  pub store_at_out : length t / slot_size ≤ k → store_at t k form ≡ t
  unfolding store_at
  store_at_out h = rw (le-ltb _ _ h)
