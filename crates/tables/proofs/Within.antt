-- A byte beside its bounds.
--     within_beyond                      how far above the lowest it lies, round past 255, and how far beyond the span
--     within_only, _any, _from, _value, _below, _most, _far     the kinds of bounds
-- Assumes nothing.
use Prim.Native.Nat.{ℕ, ◌+◌, ◌-◌, ◌%◌, ◌≤◌, ◌<◌}
use mathlib.Core.Bool.{true, false, ◌&&◌, ◌||◌, cond}
use mathlib.Core.Path.{◌≡◌, refl, sym, ◌∙◌}
use native.Mathlib.Decide.{dec_le, ℕ_discrete}
use native.Mathlib.Omega.{arith}
use lib.Dec.{leb, ltb, eqb, leb-zero}
use borrow.Author.Tests.{eq-eqb, ne_eqb, le-leb, lt-leb, lt-ltb, le-ltb}
use Rattle.message.specs.Form.{is_value}
use Rattle.tables.specs.Tables.Bounds.{is_within}
use Rattle.message.proofs.Form.Maps.{is_value_bounds}

over : (a b : ℕ) → eqb (a - b) 0 ≡ leb a b
over a b = go (dec_le a b)
  where
    go : Dec (a ≤ b) → eqb (a - b) 0 ≡ leb a b
    go (yes h) = rw (le-leb a b h) (eq-eqb (a - b) 0 (omega arith))
    go (no h) = rw (lt-leb a b (omega arith)) (ne_eqb (a - b) 0 (λ e. absurd (omega (arith, h, e))))

-- a byte is at most 255
module _ (low byte span : ℕ) where
  within_above : low ≤ byte → byte < 256 → leb (byte - low) span ≡ is_within low byte span
  unfolding is_within
  within_above x h = rw (le-leb low byte x) (go (ℕ_discrete span 0) (dec_le 255 span) (dec_le 255 (low + span)))
    where
      only : span ≡ 0 → Dec (byte ≡ low) → leb (byte - low) span ≡ eqb byte low
      only z (yes e) = rw (eq-eqb byte low e) (le-leb (byte - low) span (omega arith))
      only z (no e) = rw (ne_eqb byte low e) (lt-leb (byte - low) span (omega (arith, e)))

      go : Dec (span ≡ 0) → Dec (255 ≤ span) → Dec (255 ≤ low + span)
          → leb (byte - low) span ≡ cond (eqb span 0) (eqb byte low) (leb 255 span || (leb 255 (low + span) || leb (byte - low) span))
      go (yes z) k y = rw (eq-eqb span 0 z) (only z (ℕ_discrete byte low))
      go (no z) (yes k) y = rw (ne_eqb span 0 z, le-leb 255 span k) (le-leb (byte - low) span (omega arith))
      go (no z) (no k) (yes y) = rw (ne_eqb span 0 z, lt-leb 255 span (omega arith), le-leb 255 (low + span) y) (le-leb (byte - low) span (omega arith))
      go (no z) (no k) (no y) = rw (ne_eqb span 0 z, lt-leb 255 span (omega arith), lt-leb 255 (low + span) (omega arith))

  within_under : byte < low → low < 256 → leb (byte + 256 - low) span ≡ is_within low byte span
  unfolding is_within
  within_under x l = rw (lt-leb low byte x) (go (ℕ_discrete span 0) (dec_le 255 span))
    where
      go : Dec (span ≡ 0) → Dec (255 ≤ span)
          → leb (byte + 256 - low) span ≡ cond (eqb span 0) (eqb byte low) (leb 255 span || leb (byte + 256 - low) span)
      go (yes z) k = rw (eq-eqb span 0 z, ne_eqb byte low (λ e. omega (arith, e))) (lt-leb (byte + 256 - low) span (omega arith))
      go (no z) (yes k) = rw (ne_eqb span 0 z, le-leb 255 span k) (le-leb (byte + 256 - low) span (omega arith))
      go (no z) (no k) = rw (ne_eqb span 0 z, lt-leb 255 span (omega arith))

  -- the byte's distance, round past 255, and how far that is above the span
  pub within_beyond : low < 256 → byte < 256 → eqb ((byte + (256 - low)) % 256 - span) 0 ≡ is_within low byte span
  within_beyond l h = over _ span ∙ go (dec_le low byte)
    where
      go : Dec (low ≤ byte) → leb ((byte + (256 - low)) % 256) span ≡ is_within low byte span
      go (yes x) = let e : (byte + (256 - low)) % 256 ≡ byte - low = omega (arith, x) in rw e (within_above x h)
      go (no x) = let e : (byte + (256 - low)) % 256 ≡ byte + 256 - low = omega (arith, x) in rw e (within_under (omega (arith, x)) l)

-- the kinds of bounds
pub within_only : (low b : ℕ) → is_within low b 0 ≡ eqb b low
unfolding is_within
within_only low b = refl

pub within_any : (low b : ℕ) → is_within low b 255 ≡ true
unfolding is_within
within_any low b = refl

pub within_from : (b : ℕ) → is_within 1 b 254 ≡ leb 1 b
unfolding is_within
within_from b = go (dec_le 1 b)
  where
    go : Dec (1 ≤ b) → cond (leb 1 b) true (leb (b + 256 - 1) 254) ≡ leb 1 b
    go (yes h) = rw (le-leb 1 b h) refl
    go (no h) = rw (lt-leb 1 b (omega arith)) (lt-leb (b + 256 - 1) 254 (omega arith))

pub within_value : (b : ℕ) → is_within 1 b 1 ≡ is_value b
unfolding is_within
within_value b = go (dec_le 1 b) (dec_le b 2) ∙ sym (is_value_bounds b)
  where
    go : Dec (1 ≤ b) → Dec (b ≤ 2) → cond (leb 1 b) (leb (b - 1) 1) (leb (b + 256 - 1) 1) ≡ (leb 1 b && leb b 2)
    go (yes h) (yes k) = rw (le-leb 1 b h, le-leb b 2 k) (le-leb (b - 1) 1 (omega arith))
    go (yes h) (no k) = rw (le-leb 1 b h, lt-leb b 2 (omega arith)) (lt-leb (b - 1) 1 (omega arith))
    go (no h) d = rw (lt-leb 1 b (omega arith)) (lt-leb (b + 256 - 1) 1 (omega arith))

pub within_below : (b n : ℕ) → 1 ≤ n → n ≤ 16 → is_within 0 b (n - 1) ≡ ltb b n
unfolding is_within
within_below b n l m = go (ℕ_discrete (n - 1) 0) (dec_le n b)
  where
    go : Dec (n - 1 ≡ 0) → Dec (n ≤ b)
        → cond (eqb (n - 1) 0) (eqb b 0) (leb 255 (n - 1) || cond (leb 0 b) (leb 255 (0 + (n - 1)) || leb (b - 0) (n - 1)) (leb (b + 256 - 0) (n - 1))) ≡ ltb b n
    go (yes e) (yes k) = rw (eq-eqb (n - 1) 0 e, ne_eqb b 0 (λ z. omega arith), le-ltb b n k)
    go (yes e) (no k) = rw (eq-eqb (n - 1) 0 e, eq-eqb b 0 (omega (arith, k)), lt-ltb b n (omega arith))
    go (no e) (yes k) =
        rw (ne_eqb (n - 1) 0 e, leb-zero b, lt-leb 255 (n - 1) (omega arith), lt-leb 255 (0 + (n - 1)) (omega arith), le-ltb b n k)
        (lt-leb (b - 0) (n - 1) (omega arith))
    go (no e) (no k) =
        rw (ne_eqb (n - 1) 0 e, leb-zero b, lt-leb 255 (n - 1) (omega arith), lt-leb 255 (0 + (n - 1)) (omega arith), lt-ltb b n (omega arith))
        (le-leb (b - 0) (n - 1) (omega arith))

pub within_most : (m : ℕ) → m ≤ 254 → is_within 0 m 254 ≡ true
unfolding is_within
within_most m h = rw (leb-zero m) (le-leb (m - 0) 254 (omega arith))

pub within_far : (m : ℕ) → 256 ≤ m → is_within 0 m 254 ≡ false
unfolding is_within
within_far m h = rw (leb-zero m) (lt-leb (m - 0) 254 (omega arith))
