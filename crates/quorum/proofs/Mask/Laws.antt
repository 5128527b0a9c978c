-- The laws of sets of acceptors as bits.
--     has_bit_zero                      the empty set
--     has_bit_insert, has_bit_other     the bit that was set, and any other
--     join_bit                          so after a joining the members are those before, and the acceptor that joined
--     ones_count, mask_quorum           the ones are the bits that stand, so a mask's majority is the quorum of its members
--     bit_value, bit_value_32, or_insert    a bit's value in a byte and in 32 bits, and setting the bit by it
--     ones_low, ones_all                counting the ones of the low bits, and of a byte
-- Assumes nothing.
use Rattle.std.specs.Prelude.{ℕ, zero, suc, ◌+◌, ◌*◌, ◌/◌, ◌%◌, ◌^◌, ◌≤◌, ◌<◌, max, Bool, true, false, ◌||◌, cond, ◌≡◌, refl, ltb, eqb}
use Rattle.std.proofs.Math.Bool.{or-true, or-false}
use Rattle.std.proofs.Common.{sym, ◌∙◌, ap, ap₂, add_comm, one-mul, mod-lt, mod-eq_of_lt, pow-suc, lt_of_lt_of_le, add-one, arith, lit<, pow_mono, shl_exact, eq-eqb, ltb-false, eqb-true}
use Rattle.std.proofs.Math.Nat.{max-zero, max-eq_right}
use Rattle.std.specs.Int.Bits.{bit_or, or_step, or_zero_r}
use Rattle.std.specs.Int.Count as Count
use Rattle.std.proofs.Math.Pow.{field, mod-mod-pow}
use Rattle.std.proofs.lemmas.Bool.{eqb-false}
use Rattle.quorum.specs.Quorum.{count_acceptors, is_majority, is_quorum}
use Rattle.quorum.specs.Mask.{has_bit, insert_bit, join, ones}

pub has_bit_zero : (a : ℕ) → has_bit 0 a ≡ false
unfolding has_bit
has_bit_zero zero = refl
has_bit_zero (suc a) = has_bit_zero a

even_half : (m x : ℕ) → (m % 2 + x * 2) / 2 ≡ x
even_half m x = omega arith

even_rest : (m x : ℕ) → (m % 2 + x * 2) % 2 ≡ m % 2
even_rest m x = omega arith

odd_half : (m : ℕ) → (m / 2 * 2 + 1) / 2 ≡ m / 2
odd_half m = omega arith

odd_rest : (m : ℕ) → (m / 2 * 2 + 1) % 2 ≡ 1
odd_rest m = omega arith

pub has_bit_insert : (a mask : ℕ) → has_bit (insert_bit mask a) a ≡ true
unfolding has_bit insert_bit
has_bit_insert zero mask = eq-eqb _ _ (odd_rest mask)
has_bit_insert (suc a) mask = rw (even_half mask (insert_bit (mask / 2) a)) (has_bit_insert a (mask / 2))

pub has_bit_other : (a b mask : ℕ) → (b ≡ a → ⊥) → has_bit (insert_bit mask a) b ≡ has_bit mask b
unfolding has_bit insert_bit
has_bit_other zero zero mask n = absurd (n refl)
has_bit_other zero (suc b) mask n = rw (odd_half mask)
has_bit_other (suc a) zero mask n = rw (even_rest mask (insert_bit (mask / 2) a))
has_bit_other (suc a) (suc b) mask n = rw (even_half mask (insert_bit (mask / 2) a)) (has_bit_other a b (mask / 2) (λ e. n (ap suc e)))

pub join_bit : (mask acc a : ℕ) → a < 8 → has_bit (join mask acc) a ≡ (has_bit mask a || eqb acc a)
join_bit mask acc a h = go (ltb acc 8) refl (eqb acc a) refl
  where
    go : (t : Bool) → ltb acc 8 ≡ t → (e : Bool) → eqb acc a ≡ e → has_bit (cond t (insert_bit mask acc) mask) a ≡ (has_bit mask a || e)
    go true t true e = ap (has_bit (insert_bit mask acc)) (sym (eqb-true acc a e)) ∙ has_bit_insert acc mask ∙ sym (or-true (has_bit mask a))
    go true t false e = has_bit_other acc a mask (λ q. eqb-false acc a e (sym q)) ∙ sym (or-false (has_bit mask a))
    go false t true e = absurd (let l : 8 ≤ acc = ltb-false acc 8 t in let q : acc ≡ a = eqb-true acc a e in omega arith)
    go false t false e = sym (or-false (has_bit mask a))

pub ones_count : (total mask : ℕ) → ones total mask ≡ count_acceptors total (has_bit mask)
unfolding ones count_acceptors has_bit
ones_count zero mask = refl
ones_count (suc total) mask = ap₂ ◌+◌ (low (eqb (mask % 2) 1) refl) (ones_count total (mask / 2))
  where
    low : (t : Bool) → eqb (mask % 2) 1 ≡ t → mask % 2 ≡ cond (eqb (mask % 2) 1) 1 0
    low true e = eqb-true (mask % 2) 1 e ∙ sym (ap (λ (t : Bool). cond t 1 0) e)
    low false e = let z : mask % 2 ≡ 0 = omega (arith, eqb-false (mask % 2) 1 e) in z ∙ sym (ap (λ (t : Bool). cond t 1 0) e)

pub mask_quorum : (total mask : ℕ) → is_majority total (ones total mask) ≡ is_quorum total (λ a. has_bit mask a)
unfolding is_quorum
mask_quorum total mask = ap (is_majority total) (ones_count total mask)

-- 1 shifted, in a word that is wide enough
pub bit_value : (a : ℕ) → a < 8 → 1 * 2 ^ a % 256 ≡ 2 ^ a
bit_value a h = shl_exact 1 a 8 (lit< tt) (omega arith) ∙ one-mul (2 ^ a)

pub bit_value_32 : (a : ℕ) → a < 32 → 1 * 2 ^ a % 4294967296 ≡ 2 ^ a
bit_value_32 a h = shl_exact 1 a 32 (lit< tt) (omega arith) ∙ one-mul (2 ^ a)

-- the value of bit a is 2 ^ a
pub or_insert : (a mask : ℕ) → bit_or mask (2 ^ a) ≡ insert_bit mask a
unfolding insert_bit
or_insert zero mask = or_step mask 1 ∙ ap₂ (λ (x y : ℕ). x * 2 + y) (or_zero_r (mask / 2)) (max-eq_right (below (mask % 2) (mod-lt mask (lit< tt))))
  where
    below : (x : ℕ) → x < 2 → x ≤ 1
    below x h = omega arith
or_insert (suc a) mask =
    or_step mask (2 ^ suc a)
    ∙ ap₂ (λ (x y : ℕ). bit_or (mask / 2) x * 2 + max (mask % 2) y) half rest
    ∙ ap₂ (λ (x y : ℕ). x * 2 + y) (or_insert a (mask / 2)) (max-zero (mask % 2))
    ∙ add_comm _ _
  where
    half : 2 ^ suc a / 2 ≡ 2 ^ a
    half = rw pow-suc (omega arith)

    rest : 2 ^ suc a % 2 ≡ 0
    rest = rw pow-suc (omega arith)

pub ones_low : (total mask : ℕ) → Count.ones (mask % 2 ^ total) ≡ ones total mask
unfolding ones Count.ones
ones_low zero mask = ap Count.ones one
  where
    one : mask % 1 ≡ 0
    one = omega arith
ones_low (suc total) mask =
    Count.ones_step (mask % 2 ^ suc total)
    ∙ ap₂ (λ (x y : ℕ). x + Count.ones y) (rest total) (half total)
    ∙ ap (λ (x : ℕ). mask % 2 + x) (ones_low total (mask / 2))
  where
    rest : (k : ℕ) → mask % 2 ^ suc k % 2 ≡ mask % 2
    rest k = rw (← add-one k) (mod-mod-pow mask k 1)

    half : (k : ℕ) → mask % 2 ^ suc k / 2 ≡ mask / 2 % 2 ^ k
    half k = rw (← add-one k) (field mask k 1)

pub ones_all : (total mask : ℕ) → 8 ≤ total → mask < 256 → Count.ones mask ≡ ones total mask
ones_all total mask h k = let p : 2 ^ 8 ≤ 2 ^ total = pow_mono h in ap Count.ones (sym (mod-eq_of_lt (lt_of_lt_of_le k p))) ∙ ones_low total mask
