-- Many bytes of a table looked at together.
--     word_size           the bytes of a word
--     Word, WordFrom     the number of four bytes, the first of them the lowest, and each byte as a digit of it; of four bytes of a list
--     AllUsed            so many slots are in use
-- proofs/Table/Words/Laws.antt has the slots one by one. Assumes nothing.
use Rattle.std.specs.Prelude.{ℕ, ◌+◌, ◌*◌, ◌/◌, ◌%◌, ◌<◌, List, ◌≡◌, get_or}
use Rattle.slots.specs.Table.{slot_size}

-- the bytes of a word
abbrev pub word_size : ℕ
word_size = 4

-- `r` is the number of these four bytes, and each of them is a digit of it
pub record Word (b0 b1 b2 b3 r : ℕ) : Type 0 where
  pub sum : r ≡ b0 + b1 * 0x100 + b2 * 0x10000 + b3 * 0x1000000
  pub digit0 : r % 0x100 ≡ b0
  pub digit1 : r / 0x100 % 0x100 ≡ b1
  pub digit2 : r / 0x10000 % 0x100 ≡ b2
  pub digit3 : r / 0x1000000 ≡ b3
  pub below : r < 0x100000000

-- `r` is the number of the four bytes from `i` on
abbrev pub WordFrom : List ℕ → ℕ → ℕ → Type 0
WordFrom l i r = Word (get_or l i 0) (get_or l (i + 1) 0) (get_or l (i + 2) 0) (get_or l (i + 3) 0) r

-- none of the first n slots from `at` on begins with 0
pub record AllUsed (t : List ℕ) (at n : ℕ) : Type 0 where
  pub used : (k : ℕ) → k < n → get_or t (at + k * slot_size) 0 ≡ 0 → ⊥
