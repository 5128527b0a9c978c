-- Storing a form.
--     copy_step, copy_end   copying byte by byte: after `i` bytes the first `i` agree
--     store_part            the table with the copied part put back is the table after the store
-- Assumes nothing.
use Prim.Native.Nat.{ℕ, ◌+◌, ◌-◌, ◌*◌, ◌/◌, ◌≤◌, ◌<◌}
use mathlib.Core.List.{List}
use mathlib.Core.Path.{◌≡◌, sym, ◌∙◌}
use native.Mathlib.Numerals.{add-one}
use lib.ListN.{length, get_or, take, set}
use native.Mathlib.Nat.{add-sub_cancel_left}
use borrow.Rule.Slice.PartMut.{put_mid}
use Rattle.slots.specs.Table.{slot_size, store_at}
use Rattle.slots.proofs.Table.Scan.Laws.{store_at_in}
use lib.Seq.{take-suc, take-suc-set, take_all, drop-drop}

module _ (slot form : List ℕ) (i : ℕ) where
  pub copy_step : i < length slot → i < length form → take i slot ≡ take i form → take (i + 1) (set slot i (get_or form i 0)) ≡ take (i + 1) form
  copy_step h k e = rw (add-one i, take-suc-set slot i _ h, take-suc form i 0 k, e)

  pub copy_end : length slot ≤ i → length form ≤ i → take i slot ≡ take i form → slot ≡ form
  copy_end h k e = sym (take_all i slot h) ∙ e ∙ take_all i form k

pub store_part : (t : List ℕ) (k : ℕ) (part form form' : List ℕ) → k < length t / slot_size → part ≡ form → form ≡ form'
    → put_mid (k * slot_size) (k * slot_size + slot_size - k * slot_size) t part ≡ store_at t k form'
store_part t k part form form' h e e' =
    rw (store_at_in t k form' h, e ∙ e', add-sub_cancel_left (k * slot_size) slot_size, drop-drop slot_size (k * slot_size) t)
