-- The text of a rehearsal (document 01, "The rehearsal").
--     ascii            a text as bytes
--     line             the line of a number
--     word_of           the last line
--     Put, put_of       a buffer, and where what was put into it ends
--     put              a text put at a place of a buffer
-- Their laws are in proofs/Text/Laws.antt. Assumes nothing.
use Prim.Native.Char.{code}
use Rattle.std.specs.Prelude.{ℕ, suc, ◌+◌, ◌/◌, ◌%◌, cond, List, [], ◌∷◌, ltb, length, set}
use Prim.Native.String.{String, [] as []ˢ, ◌∷◌ as ◌∷ˢ◌}
use Rattle.ending.specs.declared.Ending as EndingType
use Rattle.ending.specs.declared.Ending.TheVariants.{Committed, Aborted, Open}

abbrev pub ascii : String → List ℕ
ascii []ˢ = []
ascii (c ∷ˢ s) = code c ∷ ascii s

-- the ASCII code of a digit
abbrev pub digit : ℕ → ℕ
digit d = 48 + d

-- a number below 1,000 in decimal, and LF
unfoldable pub line : ℕ → List ℕ
line n =
    cond (ltb n 10) (digit (n % 10) ∷ 10 ∷ [])
    (cond (ltb n 100) (digit (n / 10 % 10) ∷ digit (n % 10) ∷ 10 ∷ [])
    (digit (n / 100) ∷ digit (n / 10 % 10) ∷ digit (n % 10) ∷ 10 ∷ []))

-- "one of the fixed words COMMITTED (all are), ABORTED (all are) and OPEN"
abbrev pub word_of : EndingType.Ending → List ℕ
word_of Committed = ascii "COMMITTED\n"
word_of Aborted = ascii "ABORTED\n"
word_of Open = ascii "OPEN\n"

pub record Put : Type 0 where
  pub end : ℕ
  pub buffer : List ℕ

abbrev pub put_of : ℕ → List ℕ → Put
put_of end buffer = record { end = end; buffer = buffer }

-- byte by byte, as far as the buffer has room
unfoldable pub put : ℕ → List ℕ → List ℕ → Put
put at [] buffer = put_of at buffer
put at (b ∷ text) buffer = cond (ltb at (length buffer)) (put (suc at) text (set buffer at b)) (put_of at buffer)
