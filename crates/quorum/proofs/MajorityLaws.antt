-- The laws of the table of majorities.
--     length_majorities            it has 254 entries
--     majorities_entry             the entry for a number of acceptors and a mask stands at its number
--     majority_at, majority_out    what the table tells of a set, and that it has none of no or of more than seven acceptors
--     majority_within              up to seven acceptors nothing else is asked
-- Assumes nothing.
use Rattle.std.specs.Prelude.{ℕ, zero, suc, ◌+◌, ◌-◌, ◌*◌, ◌%◌, ◌^◌, ◌≤◌, ◌<◌, Bool, true, false, ◌&&◌, cond, List, ◌≡◌, refl, eqb, leb, get_or, length}
use Rattle.std.proofs.Common.{suc-le-suc, zero-le, ap, ◌∙◌, sym, not-suc-le-zero, le_of_suc-le-suc, mod-lt, mod-eq_of_lt, pow-suc, arith, pow_pos, pow_mono, get_or-append-add, le-leb}
use Rattle.std.specs.Int.Count as Count
use Rattle.std.proofs.Math.ListN.{get_or-append}
use Rattle.std.proofs.lemmas.Bool.{lt-leb}
use Rattle.quorum.specs.Quorum.{is_majority}
use Rattle.quorum.specs.Mask.{ones}
use Rattle.quorum.proofs.Mask.Laws.{ones_low}
use Rattle.quorum.specs.Majorities.{entry, entries, row, rows, majorities, entry_number}

entries_length : (total mask count : ℕ) → length (entries total mask count) ≡ count
unfolding entries
entries_length total mask zero = refl
entries_length total mask (suc count) = ap suc (entries_length total (suc mask) count)

entries_at : (total mask count k : ℕ) → k < count → get_or (entries total mask count) k 0 ≡ entry total (mask + k)
unfolding entries
entries_at total mask zero k h = absurd (not-suc-le-zero h)
entries_at total mask (suc count) zero h = let e : mask ≡ mask + 0 = omega arith in ap (entry total) e
entries_at total mask (suc count) (suc k) h =
    let e : suc mask + k ≡ mask + suc k = omega arith in
    entries_at total (suc mask) count k (le_of_suc-le-suc h) ∙ ap (entry total) e

row_length : (total : ℕ) → length (row total) ≡ 2 ^ total
unfolding row
row_length total = entries_length total 0 (2 ^ total)

row_entry : (total mask : ℕ) → mask < 2 ^ total → get_or (row total) mask 0 ≡ entry total mask
unfolding row
row_entry total mask h = let e : 0 + mask ≡ mask = omega arith in entries_at total 0 (2 ^ total) mask h ∙ ap (entry total) e

-- the rows before that of `more` acceptors more have 2 ^ (total + more) - 2 ^ total entries
rows_entry : (total count more mask : ℕ) → more < count → mask < 2 ^ (total + more)
    → get_or (rows total count) (2 ^ (total + more) - 2 ^ total + mask) 0 ≡ entry (total + more) mask
unfolding rows
rows_entry total zero more mask h k = absurd (not-suc-le-zero h)
rows_entry total (suc count) zero mask h k =
    let e : total + 0 ≡ total = omega arith in
    let first : 2 ^ (total + 0) - 2 ^ total + mask ≡ mask = rw e (omega arith) in
    rw (first, e)
    (get_or-append (row total) (rows (suc total) count) 0 mask (rw (row_length total) (rw e at k)) ∙ row_entry total mask (rw e at k))
rows_entry total (suc count) (suc more) mask h k =
    let e : total + suc more ≡ suc total + more = omega arith in
    let most : 2 ^ suc total ≤ 2 ^ (suc total + more) = pow_mono (omega arith) in
    let twice : 2 ^ suc total ≡ 2 ^ total * 2 = pow-suc 2 total in
    let past : 2 ^ (suc total + more) - 2 ^ total + mask ≡ length (row total) + (2 ^ (suc total + more) - 2 ^ suc total + mask)
    = rw (row_length total) (omega arith) in
    rw (e, past)
    (get_or-append-add (row total) (rows (suc total) count) _ 0 ∙ rows_entry (suc total) count more mask (le_of_suc-le-suc h) (rw e at k))

pub length_majorities : length majorities ≡ 254
unfolding majorities rows row entries
length_majorities = refl

pub majorities_entry : (total mask : ℕ) → 1 ≤ total → total ≤ 7 → mask < 2 ^ total → get_or majorities (entry_number total mask) 0 ≡ entry total mask
unfolding majorities
majorities_entry total mask least most fits =
    let e : 1 + (total - 1) ≡ total = omega arith in
    rw e at (rows_entry 1 7 (total - 1) mask (omega arith) (rw e fits))

-- bits from `total` on do not count
ones_cut : (total mask : ℕ) → ones total (mask % 2 ^ total) ≡ ones total mask
ones_cut total mask =
    sym (ones_low total (mask % 2 ^ total)) ∙ ap Count.ones (mod-eq_of_lt (mod-lt mask (pow_pos total))) ∙ ones_low total mask

told : (b : Bool) → eqb (cond b 1 0) 1 ≡ b
told true = refl
told false = refl

-- as code reads it: `table` is the constant, `at` the entry's number
pub majority_at : {table : List ℕ} → table ≡ majorities → (total mask : ℕ) {at : ℕ} → at ≡ entry_number total (mask % 2 ^ total) → 1 ≤ total → total ≤ 7
    → eqb (get_or table at 0) 1 ≡ (leb total 7 && is_majority total (ones total mask))
unfolding entry
majority_at of-table total mask of_at least most =
    rw (of-table, of_at, majorities_entry total (mask % 2 ^ total) least most (mod-lt mask (pow_pos total)), ones_cut total mask, le-leb total 7 most)
    (told (is_majority total (ones total mask)))

-- the table has no entry for none, nor for more than seven
pub majority_out : (total mask : ℕ) → (1 ≤ total → 7 < total) → false ≡ (leb total 7 && is_majority total (ones total mask))
unfolding is_majority ones
majority_out zero mask out = refl
majority_out (suc total) mask out = rw (lt-leb (suc total) 7 (out (suc-le-suc zero-le)))

-- of up to seven acceptors nothing else is asked
pub majority_within : (total : ℕ) → total ≤ 7 → {r b : Bool} → r ≡ (leb total 7 && b) → r ≡ b
majority_within total most {r} {b} h = h ∙ ap (λ (t : Bool). t && b) (le-leb total 7 most)
