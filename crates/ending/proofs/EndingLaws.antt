-- How an order stands, said of each resource manager's state.
--     Everyone                                  every one is in the state
--     are_all_true, are_all_of                  what `are_all` says
--     ending_committed, _aborted, _open         the ending by the tests, as the code meets them
--     committed_exactly, open_exactly, aborted_exactly     when the ending is which
-- Assumes nothing.
use Rattle.std.specs.Prelude.{ℕ, zero, suc, ◌<◌, Bool, true, false, List, [], ◌∷◌, ◌↔◌, ◌≡◌, refl, eqb, length, get_or}
use Rattle.std.proofs.lemmas.Bool.{false≢true}
use Rattle.std.proofs.Common.{sym, ◌∙◌, le_of_suc-le-suc, arith, eq-eqb, eqb-true}
use Rattle.message.proofs.Outcome.Laws.{both}
use Rattle.slots.specs.All.{all}
use Rattle.tcommit.specs.RmState.{committed, aborted}
use Rattle.ending.specs.declared.Ending.TheVariants.{Committed, Aborted, Open}
use Rattle.ending.specs.Ending.{are_all, ending_of}

abbrev pub Everyone : ℕ → List ℕ → Type 0
Everyone state states = (i : ℕ) → i < length states → get_or states i 0 ≡ state

pub are_all_true : (state : ℕ) (states : List ℕ) → are_all state states ≡ true → Everyone state states
unfolding are_all all
are_all_true state [] e i h = omega arith
are_all_true state (x ∷ xs) e zero h = eqb-true x state (both (eqb x state) (are_all state xs) e).0
are_all_true state (x ∷ xs) e (suc i) h = are_all_true state xs (both (eqb x state) (are_all state xs) e).1 i (le_of_suc-le-suc h)

pub are_all_of : (state : ℕ) (states : List ℕ) → Everyone state states → are_all state states ≡ true
unfolding are_all all
are_all_of state [] h = refl
are_all_of state (x ∷ xs) h = rw (eq-eqb x state (h zero (omega arith))) (are_all_of state xs (λ i k. h (suc i) (omega arith)))

-- the three endings differ
aborted_committed : Aborted ≡ Committed → ⊥
aborted_committed e = let z : ◌≡◌ {A = ℕ} 0 1 = cc in omega arith

open_committed : Open ≡ Committed → ⊥
open_committed e = let z : ◌≡◌ {A = ℕ} 0 1 = cc in omega arith

open_aborted : Open ≡ Aborted → ⊥
open_aborted e = let z : ◌≡◌ {A = ℕ} 0 1 = cc in omega arith

module _ (states : List ℕ) where
  pub ending_committed : are_all committed states ≡ true → ending_of states ≡ Committed
  unfolding ending_of
  ending_committed c = rw c

  pub ending_aborted : are_all committed states ≡ false → are_all aborted states ≡ true → ending_of states ≡ Aborted
  unfolding ending_of
  ending_aborted c a = rw (c, a)

  pub ending_open : are_all committed states ≡ false → are_all aborted states ≡ false → ending_of states ≡ Open
  unfolding ending_of
  ending_open c a = rw (c, a)

  -- the tests decide the ending, so a statement on it is proved in three cases
  by_tests : {P : Type 0} → (are_all committed states ≡ true → P) → (are_all committed states ≡ false → are_all aborted states ≡ true → P)
      → (are_all committed states ≡ false → are_all aborted states ≡ false → P) → P
  by_tests {P} committing aborting opening = go _ refl _ refl
    where
      go : (c : Bool) → are_all committed states ≡ c → (a : Bool) → are_all aborted states ≡ a → P
      go true c a _ = committing c
      go false c true a = aborting c a
      go false c false a = opening c a

  not_all : (state : ℕ) → are_all state states ≡ false → Everyone state states → ⊥
  not_all state f every = false≢true (sym f ∙ are_all_of state states every)

  pub committed_exactly : (ending_of states ≡ Committed) ↔ Everyone committed states
  committed_exactly = (
    λ e.
        by_tests (are_all_true committed states) (λ c a. absurd (aborted_committed (sym (ending_aborted c a) ∙ e)))
        (λ c a. absurd (open_committed (sym (ending_open c a) ∙ e))),
    λ every. ending_committed (are_all_of committed states every),
  )

  pub aborted_exactly : (ending_of states ≡ Aborted) ↔ (Everyone aborted states × (Everyone committed states → ⊥))
  aborted_exactly = (
    λ e.
        by_tests (λ c. absurd (aborted_committed (sym e ∙ ending_committed c))) (λ c a. (are_all_true aborted states a, not_all committed c))
        (λ c a. absurd (open_aborted (sym (ending_open c a) ∙ e))),
    λ h.
        by_tests (λ c. absurd (h.1 (are_all_true committed states c))) (λ c a. ending_aborted c a) (λ c a. absurd (not_all aborted a h.0)),
  )

  pub open_exactly : (ending_of states ≡ Open) ↔ ((Everyone committed states → ⊥) × (Everyone aborted states → ⊥))
  open_exactly = (
    λ e.
        by_tests (λ c. absurd (open_committed (sym e ∙ ending_committed c))) (λ c a. absurd (open_aborted (sym e ∙ ending_aborted c a)))
        (λ c a. (not_all committed c, not_all aborted a)),
    λ h.
        by_tests (λ c. absurd (h.0 (are_all_true committed states c))) (λ c a. absurd (h.1 (are_all_true aborted states a))) (λ c a. ending_open c a),
  )
