-- Module TCommit of document 001 (A.1), in its order and under its names. A set is a predicate on numbers, an action a relation between the row of
-- states before it and after it, and a behaviour a row for each time. Its theorem is in paxos_commit's Theorems.antt.
--     except                             [f EXCEPT ![x] = v]
--     TCTypeOK, TCInit                   the states that a resource manager may have; the first row
--     can_commit, not_committed          the two state predicates
--     Prepare, Decide, TCNext            the actions
--     TCStep, TCSpec                     [TCNext]_rmState; the behaviours that the specification allows
--     TCConsistent                       no two resource managers have decided differently
-- Assumes nothing.
use Rattle.std.specs.Prelude.{ℕ, suc, ◌≤◌, cond, ◌⊎◌, ◌≡◌, eqb}
use Rattle.tcommit.specs.RmState.{working, prepared, committed, aborted}

abbrev pub except : {A : Type 0} → (ℕ → A) → ℕ → A → (ℕ → A)
except f x v = λ y. cond (eqb y x) v (f y)

module _ (RM : ℕ → Type 0) where
  abbrev pub TCTypeOK : (ℕ → ℕ) → Type 0
  TCTypeOK rm_state = (rm : ℕ) → RM rm → rm_state rm ≤ aborted

  abbrev pub TCInit : (ℕ → ℕ) → Type 0
  TCInit rm_state = (rm : ℕ) → RM rm → rm_state rm ≡ working

  -- all resource managers are prepared or committed
  abbrev pub can_commit : (ℕ → ℕ) → Type 0
  can_commit rm_state = (rm : ℕ) → RM rm → (rm_state rm ≡ prepared) ⊎ (rm_state rm ≡ committed)

  -- no resource manager is committed
  abbrev pub not_committed : (ℕ → ℕ) → Type 0
  not_committed rm_state = (rm : ℕ) → RM rm → rm_state rm ≡ committed → ⊥

  abbrev pub Prepare : ℕ → (ℕ → ℕ) → (ℕ → ℕ) → Type 0
  Prepare rm rm_state rm_state' = (rm_state rm ≡ working) × (rm_state' ≡ except rm_state rm prepared)

  abbrev pub Decide : ℕ → (ℕ → ℕ) → (ℕ → ℕ) → Type 0
  Decide rm rm_state rm_state' =
      ((rm_state rm ≡ prepared) × can_commit rm_state × (rm_state' ≡ except rm_state rm committed))
      ⊎ (((rm_state rm ≡ working) ⊎ (rm_state rm ≡ prepared)) × not_committed rm_state × (rm_state' ≡ except rm_state rm aborted))

  abbrev pub TCNext : (ℕ → ℕ) → (ℕ → ℕ) → Type 0
  TCNext rm_state rm_state' = (rm : ℕ) × RM rm × (Prepare rm rm_state rm_state' ⊎ Decide rm rm_state rm_state')

  -- [TCNext]_rmState: an action, or the row stays
  abbrev pub TCStep : (ℕ → ℕ) → (ℕ → ℕ) → Type 0
  TCStep rm_state rm_state' = TCNext rm_state rm_state' ⊎ (rm_state' ≡ rm_state)

  -- rm_state t is the row at time t
  abbrev pub TCSpec : (ℕ → ℕ → ℕ) → Type 0
  TCSpec rm_state = TCInit (rm_state 0) × ((t : ℕ) → TCStep (rm_state t) (rm_state (suc t)))

  abbrev pub TCConsistent : (ℕ → ℕ) → Type 0
  TCConsistent rm_state = (rm1 rm2 : ℕ) → RM rm1 → RM rm2 → rm_state rm1 ≡ aborted → rm_state rm2 ≡ committed → ⊥
