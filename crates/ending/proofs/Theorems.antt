-- How an order stands, in document 01's words ("The rehearsal") and numbers: 2 is committed, 3 aborted.
--     committed_words, aborted_words, open_words     COMMITTED: all are; ABORTED: all are; OPEN: neither. W has a weight or more
-- Assumes nothing.
use Rattle.std.specs.Prelude.{ℕ, ◌<◌, List, ◌↔◌, ◌≡◌, length, get_or}
use Rattle.std.proofs.Common.{arith}
use Rattle.ending.specs.declared.Ending.TheVariants.{Committed, Aborted, Open}
use Rattle.ending.specs.Ending.{ending_of}
use Rattle.ending.proofs.EndingLaws.{committed_exactly, aborted_exactly, open_exactly}

module _ (W : List ℕ) where
  pub committed_words : (ending_of W ≡ Committed) ↔ ((i : ℕ) → i < length W → get_or W i 0 ≡ 2)
  committed_words = committed_exactly W

  pub aborted_words : 0 < length W → (ending_of W ≡ Aborted) ↔ ((i : ℕ) → i < length W → get_or W i 0 ≡ 3)
  aborted_words some =
      (λ e. ((aborted_exactly W).0 e).0, λ all. (aborted_exactly W).1 (all, λ other. let a = all 0 some in let b = other 0 some in omega arith))

  pub open_words : (ending_of W ≡ Open)
      ↔ ((((i : ℕ) → i < length W → get_or W i 0 ≡ 2) → ⊥) × (((i : ℕ) → i < length W → get_or W i 0 ≡ 3) → ⊥))
  open_words = open_exactly W
