-- A set of acceptors as the bits of a byte: bit a for acceptor a.
--     has_bit     whether a bit stands
--     insert_bit  the number with a bit set
--     join        the byte with an acceptor's bit set: one from 8 on has no bit, and changes nothing
--     ones        how many of the first so many bits stand
-- Its laws are in proofs/Mask/Laws.antt. Assumes nothing.
use Rattle.std.specs.Prelude.{ℕ, zero, suc, ◌+◌, ◌*◌, ◌/◌, ◌%◌, Bool, cond, ltb, eqb}

unfoldable pub has_bit : ℕ → ℕ → Bool
has_bit mask zero = eqb (mask % 2) 1
has_bit mask (suc a) = has_bit (mask / 2) a

unfoldable pub insert_bit : ℕ → ℕ → ℕ
insert_bit mask zero = mask / 2 * 2 + 1
insert_bit mask (suc a) = mask % 2 + insert_bit (mask / 2) a * 2

abbrev pub join : ℕ → ℕ → ℕ
join mask a = cond (ltb a 8) (insert_bit mask a) mask

unfoldable pub ones : ℕ → ℕ → ℕ
ones zero mask = 0
ones (suc total) mask = mask % 2 + ones total (mask / 2)
