-- The rows of a plan's bounds.
--     put_row_lem     what is set for two forms of a map is its rows
--     unknown_map     a first byte that is no map does not lie within its rows
-- Assumes nothing.
use Prim.Native.Nat.{ℕ, ◌+◌, ◌%◌, ◌≤◌, ◌<◌}
use mathlib.Core.Bool.{Bool, true, false, not, ◌&&◌, ◌||◌}
use mathlib.Core.List.{List, [], ◌∷◌}
use mathlib.Core.Path.{◌≡◌, refl, sym, ◌∙◌, ap}
use native.Mathlib.Decide.{dec_le, ℕ_discrete}
use native.Mathlib.Nat.{zero-add}
use native.Mathlib.Omega.{arith}
use lib.Dec.{leb, eqb, lit≤}
use lib.ListN.{get_or, set}
use borrow.Author.Tests.{ne_eqb, eqb-true, eqb-false, leb-true, not-true}
use Rattle.message.specs.declared.Plan.{Plan}
use Rattle.message.proofs.Outcome.Laws.{both}
use Rattle.message.specs.Form.{map1a, map1b, map1b_vote, map2a, map2b, map_decision, map_length}
use Rattle.message.proofs.Form.Laws.{known_map}
use Rattle.message.proofs.Form.Maps.{length_1a, length_1b, length_1b_vote, length_2a, length_2b, length_decision}
use Rattle.tables.specs.Tables.Bounds.{is_within, set_rows, put_row, put_bounds, bounds_of}
use Rattle.tables.specs.Tables.Each.{each, each_at}
use Rattle.tables.proofs.Within.{within_only, within_far}

pub put_row_lem : (map : ℕ) {l s lowest spans low span : List ℕ} {b c d : List (List ℕ)} → map % 256 ≡ map → lowest ≡ map ∷ l → spans ≡ map ∷ s → b ≡ c
    → low ≡ lowest → span ≡ spans → d ≡ set_rows b (get_or low 0 0 % 256) (set low 0 0) (set span 0 254) → d ≡ put_row c map lowest spans
unfolding put_row
put_row_lem map m e f g h k x = rw (x, h, k, g, e, f, m) refl

module _ (p : Plan) where
  -- the first bounds of a row
  abbrev lowest : ℕ → ℕ
  lowest k = get_or (get_or (bounds_of p) k []) 0 0

  abbrev span : ℕ → ℕ
  span k = get_or (get_or (bounds_of p) (k + 1) []) 0 0

  -- those of a map are no bound
  Free : ℕ → Type 0
  Free k = (lowest k ≡ 0) × (span k ≡ 254)

  free_map : (k : ℕ) → (map_length k ≡ 0 → ⊥) → Free k
  unfolding Free bounds_of put_bounds put_row
  free_map = known_map Free (refl, refl) (refl, refl) (refl, refl) (refl, refl) (refl, refl) (refl, refl)

  -- those of no map are another byte alone
  is_map : ℕ → Bool
  is_map k = eqb k map1a || (eqb k map1b || (eqb k map1b_vote || (eqb k map2a || (eqb k map2b || eqb k map_decision))))

  is_other : ℕ → Bool
  is_other k = eqb (span k) 0 && leb (lowest k) 254 && not (eqb (lowest k) k)

  rows_other : each (λ k. is_map k || is_other k) 0 256 ≡ true
  unfolding each is_map is_other bounds_of put_bounds put_row
  rows_other = refl

  other_map : (k : ℕ) → k < 256 → map_length k ≡ 0 → is_other k ≡ true
  unfolding is_map
  other_map k h u =
      rw (
        not_map map1a length_1a (lit≤ tt),
        not_map map1b length_1b (lit≤ tt),
        not_map map1b_vote length_1b_vote (lit≤ tt),
        not_map map2a length_2a (lit≤ tt),
        not_map map2b length_2b (lit≤ tt),
        not_map map_decision length_decision (lit≤ tt),
      )
      at (rw zero-add at (each_at (λ k. is_map k || is_other k) 0 256 k rows_other h))
    where
      not_map : (m : ℕ) {n : ℕ} → map_length m ≡ n → 1 ≤ n → eqb k m ≡ false
      not_map m {n} e some = ne_eqb k m (λ x. let none : n ≡ 0 = sym e ∙ ap map_length (sym x) ∙ u in omega arith)

  -- rows are found by the remainder
  pub unknown_map : (m : ℕ) → map_length m ≡ 0
      → is_within (get_or (get_or (bounds_of p) (m % 256) []) 0 0) m (get_or (get_or (bounds_of p) (m % 256 + 1) []) 0 0) ≡ false
  unfolding Free is_other
  unknown_map m u = go (ℕ_discrete (map_length (m % 256)) 0)
    where
      other : (low far : ℕ) → (eqb far 0 && leb low 254 && not (eqb low (m % 256))) ≡ true → is_within low m far ≡ false
      other low far o =
          let differs = both (eqb far 0 && leb low 254) (not (eqb low (m % 256))) o in
          let small = both (eqb far 0) (leb low 254) differs.0 in
          rw (eqb-true far 0 small.0, within_only low m)
          (ne_eqb m low (λ x. eqb-false low (m % 256) (not-true (eqb low (m % 256)) differs.1) (omega (arith, x, leb-true low 254 small.1))))

      go : Dec (map_length (m % 256) ≡ 0) → is_within (lowest (m % 256)) m (span (m % 256)) ≡ false
      go (yes z) = other (lowest (m % 256)) (span (m % 256)) (other_map (m % 256) (omega arith) z)
      go (no z) =
          let free = free_map (m % 256) z in
          let above : 256 ≤ m = elim (dec_le 256 m) [ yes h ↦ h | no h ↦ absurd (z (ap map_length (omega (arith, h)) ∙ u)) ] in
          rw (free.0, free.1) (within_far m above)
