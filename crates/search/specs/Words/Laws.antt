-- Slots are compared by their numbers.
--     first_byte                   the lowest byte of a number is the first byte
--     eight_at, eight_of           eight bytes of a list by themselves; their number is that of the eight bytes in the list
--     same_bytes_lem, same_number  two numbers of eight bytes are the same exactly when the bytes are
--     eight_le                     eight bytes as `u64::from_le_bytes` takes them
-- Assumes nothing.
use Rattle.std.specs.Prelude.{ℕ, ◌+◌, ◌<◌, List, [], ◌∷◌, ◌≡◌, get_or}
use Rattle.std.proofs.Common.{◌∙◌, add_assoc, arith}
use Rattle.std.specs.Int.{w64, from_le_bytes}
use Rattle.slots.proofs.Table.Words.Laws.{word_le}
use Rattle.search.specs.Words.{low_byte, low_half, high_half, EightFrom}

pub first_byte : {l : List ℕ} {i r : ℕ} → EightFrom l i r → low_byte r ≡ get_or l i 0
first_byte {l} {i} {r} x = low ∙ x.first.digit0
  where
    low : low_byte r ≡ low_byte (low_half r)
    low = omega arith

-- the eight bytes from `i` on
abbrev pub eight_at : List ℕ → ℕ → List ℕ
eight_at l i =
    get_or l i 0 ∷ get_or l (i + 1) 0 ∷ get_or l (i + 2) 0 ∷ get_or l (i + 3) 0
    ∷ get_or l (i + 4) 0 ∷ get_or l (i + 5) 0 ∷ get_or l (i + 6) 0 ∷ get_or l (i + 7) 0 ∷ []

pub eight_of : {l : List ℕ} {i r : ℕ} → EightFrom (eight_at l i) 0 r → EightFrom l i r
eight_of x = record { first = x.first; second = simp add_assoc x.second }

module _ {l m : List ℕ} {i j r s : ℕ} (x : EightFrom l i r) (y : EightFrom m j s) where
  pub same_bytes_lem : r ≡ s → eight_at l i ≡ eight_at m j
  same_bytes_lem e =
      let a = x.first in
      let b = simp add_assoc at x.second in
      let c = y.first in
      let d = simp add_assoc at y.second in
      cc

  pub same_number : eight_at l i ≡ eight_at m j → r ≡ s
  same_number e =
      let a = x.first in
      let b = simp add_assoc at x.second in
      let c = y.first in
      let d = simp add_assoc at y.second in
      let low : low_half r ≡ low_half s = cc in
      let high : high_half r ≡ high_half s = cc in
      omega arith

pub eight_le : {l : List ℕ} {i r : ℕ} → get_or l i 0 < 256 → get_or l (i + 1) 0 < 256 → get_or l (i + 2) 0 < 256 → get_or l (i + 3) 0 < 256
    → get_or l (i + 4) 0 < 256 → get_or l (i + 5) 0 < 256 → get_or l (i + 6) 0 < 256 → get_or l (i + 7) 0 < 256
    → r ≡ from_le_bytes w64 (eight_at l i) → EightFrom l i r
eight_le h0 h1 h2 h3 h4 h5 h6 h7 e =
    record {
      first = word_le h0 h1 h2 h3 (omega (arith, e));
      second = simp add_assoc (word_le h4 h5 h6 h7 (omega (arith, e)));
    }
