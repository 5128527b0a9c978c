-- The laws of module TCommit.
--     except_cases        what holds of the new value at its place and of the old ones elsewhere holds of f EXCEPT
--     except_here         the new value stands at its place
--     except_unchanged    to put a value where it stands changes nothing
--     tc_safe             in every behaviour of TCSpec, TCTypeOK and TCConsistent hold at every time
-- Assumes nothing.
use Rattle.std.specs.Prelude.{ℕ, zero, suc, ◌≤◌, Bool, true, false, cond, ◌⊎◌, ◌≡◌, refl, eqb}
use Rattle.std.proofs.Common.{inl, inr, sym, arith, eqb-true}
use Rattle.std.proofs.Math.Path.{fun_ext}
use Rattle.std.proofs.lemmas.Bool.{eqb-false}
use Rattle.tcommit.specs.RmState.{prepared, committed, aborted}
use Rattle.tcommit.specs.TCommit.{except, TCTypeOK, TCStep, TCSpec, TCConsistent, not_committed}

pub except_cases : {A : Type 0} (P : ℕ → A → Type 0) (f : ℕ → A) (x : ℕ) (v : A)
    → P x v → ((y : ℕ) → (y ≡ x → ⊥) → P y (f y)) → (y : ℕ) → P y (except f x v y)
except_cases P f x v here there y = go (eqb y x) refl
  where
    go : (t : Bool) → eqb y x ≡ t → P y (cond t v (f y))
    go true e = rw (eqb-true y x e) here
    go false e = there y (eqb-false y x e)

pub except_here : {A : Type 0} (f : ℕ → A) (x : ℕ) (v : A) → except f x v x ≡ v
except_here f x v = except_cases (λ y u. y ≡ x → u ≡ v) f x v (λ e. refl) (λ y other e. absurd (other e)) x refl

pub except_unchanged : {A : Type 0} (f : ℕ → A) (x : ℕ) (v : A) → f x ≡ v → except f x v ≡ f
except_unchanged f x v e = fun_ext (except_cases (λ y u. u ≡ f y) f x v (sym e) (λ y n. refl))

module _ (RM : ℕ → Type 0) where
  -- one resource manager moves to a state that agrees with all the others
  tc_move : (r : ℕ → ℕ) (x n : ℕ) → n ≤ aborted → (n ≡ aborted → not_committed RM r) → (n ≡ committed → (i : ℕ) → RM i → r i ≡ aborted → ⊥)
      → TCTypeOK RM r × TCConsistent RM r → TCTypeOK RM (except r x n) × TCConsistent RM (except r x n)
  tc_move r x n k a c (ok, agree) = (
    except_cases (λ i u. RM i → u ≤ aborted) r x n (λ q. k) (λ i other. ok i),
    except_cases (λ i u. (j : ℕ) → RM i → RM j → u ≡ aborted → except r x n j ≡ committed → ⊥) r x n
        (except_cases (λ j u. RM x → RM j → n ≡ aborted → u ≡ committed → ⊥) r x n (λ p q e d. omega arith) (λ j other p q e. a e j q))
        (λ i other. except_cases (λ j u. RM i → RM j → r i ≡ aborted → u ≡ committed → ⊥) r x n (λ p q e d. c d i p e) (λ j other'. agree i j)),
  )

  pub tc_safe : (rm_state : ℕ → ℕ → ℕ) → TCSpec RM rm_state → (t : ℕ) → TCTypeOK RM (rm_state t) × TCConsistent RM (rm_state t)
  tc_safe rm_state (first, steps) zero =
      (λ i q. rw (first i q) (omega arith), λ i j p q e d. let z = first i p in omega arith)
  tc_safe rm_state (first, steps) (suc t) = tc_step (rm_state t) (rm_state (suc t)) (steps t) (tc_safe rm_state (first, steps) t)
    where
      tc_step : (r r' : ℕ → ℕ) → TCStep RM r r' → TCTypeOK RM r × TCConsistent RM r → TCTypeOK RM r' × TCConsistent RM r'
      tc_step r r' (inl (x, q, inl (w, e))) h = rw e (tc_move r x prepared (omega arith) (λ k. omega arith) (λ k. omega arith) h)
      tc_step r r' (inl (x, q, inr (inl (p, can, e)))) h =
          rw e (tc_move r x committed (omega arith) (λ k. omega arith) (λ k i m d. none_aborted (can i m) d) h)
        where
          none_aborted : {n : ℕ} → (n ≡ prepared) ⊎ (n ≡ committed) → n ≡ aborted → ⊥
          none_aborted (inl a) b = omega arith
          none_aborted (inr a) b = omega arith
      tc_step r r' (inl (x, q, inr (inr (w, none, e)))) h = rw e (tc_move r x aborted (omega arith) (λ k. none) (λ k. omega arith) h)
      tc_step r r' (inr e) h = rw e h
