-- The slots of a block, one by one.
--     below_next                          what holds of each number below i, and of i, holds of each below i + 1
--     word_le                             four bytes as `u32::from_le_bytes` takes them
--     used_start, used_next, used_fewer   all slots so far are in use: before the first, one slot further, of fewer slots
-- Assumes nothing.
use Rattle.std.specs.Prelude.{ℕ, ◌+◌, ◌*◌, ◌≤◌, ◌<◌, List, [], ◌∷◌, ◌≡◌, get_or}
use Rattle.std.proofs.Common.{sym, subst, not-suc-le-zero, le_trans, arith}
use Rattle.std.proofs.Math.Decide.{ℕ_discrete}
use Rattle.slots.specs.Table.{slot_size}
use Rattle.std.specs.Int.{w32, from_le_bytes}
use Rattle.slots.specs.Table.Words.{Word, AllUsed}

pub below_next : (P : ℕ → Type 0) (i : ℕ) → ((k : ℕ) → k < i → P k) → P i → (k : ℕ) → k < i + 1 → P k
below_next P i below last k l =
    elim (ℕ_discrete k i) [
      | yes e ↦ subst P (sym e) last
      | no n ↦ below k (omega arith)
    ]

pub word_le : {b0 b1 b2 b3 r : ℕ} → b0 < 256 → b1 < 256 → b2 < 256 → b3 < 256 → r ≡ from_le_bytes w32 (b0 ∷ b1 ∷ b2 ∷ b3 ∷ []) → Word b0 b1 b2 b3 r
word_le h0 h1 h2 h3 e =
    record {
      sum = omega (arith, e);
      digit0 = omega (arith, e);
      digit1 = omega (arith, e);
      digit2 = omega (arith, e);
      digit3 = omega (arith, e);
      below = omega (arith, e);
    }

module _ (t : List ℕ) (at : ℕ) where
  pub used_start : AllUsed t at 0
  used_start = record { used = λ k l. absurd (not-suc-le-zero l) }

  pub used_next : (i : ℕ) → (get_or t (at + i * slot_size) 0 ≡ 0 → ⊥) → AllUsed t at i → AllUsed t at (i + 1)
  used_next i last x = record { used = below_next (λ (k : ℕ). get_or t (at + k * slot_size) 0 ≡ 0 → ⊥) i x.used last }

  pub used_fewer : (i n : ℕ) → n ≤ i → AllUsed t at i → AllUsed t at n
  used_fewer i n h x = record { used = λ k l. x.used k (le_trans l h) }
