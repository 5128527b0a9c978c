-- The majorities as a table (document 02, Paper 7).
--     entry            "1 exactly when twice the ones of the mask exceed A", else 0
--     entries, row     the entries of so many acceptors, masks counting up
--     rows             one such row after the other
--     majorities       the table: A from 1 to 7
--     entry_number     "its entry for A and mask is number 2^A - 2 + mask"
-- Their laws are in proofs/MajorityLaws.antt. Assumes nothing.
use Rattle.std.specs.Prelude.{ℕ, zero, suc, ◌+◌, ◌-◌, ◌^◌, cond, List, [], ◌∷◌, ◌++◌}
use Rattle.quorum.specs.Quorum.{is_majority}
use Rattle.quorum.specs.Mask.{ones}

unfoldable pub entry : ℕ → ℕ → ℕ
entry total mask = cond (is_majority total (ones total mask)) 1 0

-- so many of them, from a mask on
unfoldable pub entries : ℕ → ℕ → ℕ → List ℕ
entries total mask zero = []
entries total mask (suc count) = entry total mask ∷ entries total (suc mask) count

unfoldable pub row : ℕ → List ℕ
row total = entries total 0 (2 ^ total)

-- so many of them, from a number of acceptors on
unfoldable pub rows : ℕ → ℕ → List ℕ
rows total zero = []
rows total (suc count) = row total ++ rows (suc total) count

unfoldable pub majorities : List ℕ
majorities = rows 1 7

abbrev pub entry_number : ℕ → ℕ → ℕ
entry_number total mask = 2 ^ total - 2 + mask
