-- A slot as one number: eight bytes are two words, the first of them the lower.
--     low_byte, low_half, high_half      the lowest byte of a number, and the two words of a number of eight bytes
--     EightFrom                       the number of eight bytes of a list
-- Words/Laws.antt says that slots are compared by their numbers. Assumes nothing.
pub mod Laws
use Rattle.std.specs.Prelude.{ℕ, ◌+◌, ◌/◌, ◌%◌, List, ◌≡◌}
use Rattle.slots.specs.Table.Words.{word_size, WordFrom}

-- the lowest byte
abbrev pub low_byte : ℕ → ℕ
low_byte r = r % 0x100

-- the first word and the second of a number of eight bytes
abbrev pub low_half : ℕ → ℕ
low_half r = r % 0x100000000

abbrev pub high_half : ℕ → ℕ
high_half r = r / 0x100000000

-- `r` is the number of the eight bytes from `i` on
pub record EightFrom (l : List ℕ) (i r : ℕ) : Type 0 where
  pub first : WordFrom l i (low_half r)
  pub second : WordFrom l (i + word_size) (high_half r)
