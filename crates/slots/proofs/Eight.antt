-- A slot byte by byte.
--     eight       eight bytes, one by one
--     slot_eight  the slot at a place of a table
-- Assumes nothing.
use Prim.Native.Nat.{ℕ, zero, suc, ◌+◌, ◌*◌, ◌/◌, ◌≤◌, ◌<◌}
use mathlib.Core.List.{List, [], ◌∷◌}
use mathlib.Core.Path.{◌≡◌, refl, sym, ◌∙◌, ap}
use native.Mathlib.Nat.{add-zero, add-suc, le_of_eq}
use native.Mathlib.Omega.{arith}
use lib.ListN.{length, get_or, take, drop}
use lib.Seq.{drop-cons, take_all}
use Rattle.slots.specs.Table.{slot_size, slots}
use Rattle.slots.proofs.Table.Laws.{get_d_slots}

-- the n bytes from k + j on
bytes_from : ℕ → ℕ → ℕ → List ℕ → List ℕ
bytes_from zero k j l = []
bytes_from (suc n) k j l = get_or l (k + j) 0 ∷ bytes_from n k (suc j) l

take_bytes : (n k j : ℕ) (l : List ℕ) → k + j + n ≤ length l → take n (drop (k + j) l) ≡ bytes_from n k j l
unfolding bytes_from
take_bytes zero k j l h = refl
take_bytes (suc n) k j l h =
    rw (drop-cons l (k + j) 0 (omega arith))
    (ap (λ (r : List ℕ). get_or l (k + j) 0 ∷ r) (rw (← add-suc k j) (take_bytes n k (suc j) l (omega arith))))

pub eight : (s : List ℕ) → length s ≡ slot_size
    → s ≡ get_or s 0 0 ∷ get_or s 1 0 ∷ get_or s 2 0 ∷ get_or s 3 0 ∷ get_or s 4 0 ∷ get_or s 5 0 ∷ get_or s 6 0 ∷ get_or s 7 0 ∷ []
unfolding bytes_from
eight s n = sym (take_all slot_size s (le_of_eq n)) ∙ take_bytes slot_size 0 0 s (omega arith)

module _ (t : List ℕ) (k : ℕ) where
  pub slot_eight : k < length t / slot_size
      → get_or (slots t) k [] ≡ get_or t (k * slot_size) 0 ∷ get_or t (k * slot_size + 1) 0 ∷ get_or t (k * slot_size + 2) 0 ∷ get_or t (k * slot_size + 3) 0
      ∷ get_or t (k * slot_size + 4) 0 ∷ get_or t (k * slot_size + 5) 0 ∷ get_or t (k * slot_size + 6) 0 ∷ get_or t (k * slot_size + 7) 0 ∷ []
  unfolding bytes_from
  slot_eight h =
      get_d_slots t k h
      ∙ (rw add-zero at (take_bytes slot_size (k * slot_size) 0 t (omega arith)))
