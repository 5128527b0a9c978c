-- The judgement of the plan and the lengths, and then that of the four tables.
--     lengths_refused     what the plan or the lengths refuse, the whole judgement refuses
--     lengths_passed      where they are sound, rows 1 and 2 do not apply
--     lengths_plan        and the plan is in range
-- Assumes nothing.
use Prim.Native.Nat.{ℕ}
use mathlib.Core.Bool.{Bool, true, false, not}
use mathlib.Core.Path.{◌≡◌, sym}
use borrow.Author.Tests.{not-false}
use Rattle.message.specs.declared.Plan.{Plan}
use Rattle.message.specs.Outcome.{Outcome, accepted, refused, refuse_if}
use Rattle.message.proofs.Outcome.Laws.{accepted_not_refused, refuse_if_accepted}
use Rattle.message.specs.Plan.{is_plan}
use Rattle.message.proofs.Guards.{pass}
use Rattle.opening.specs.Opening.{Tables, are_lengths, lengths_judged}
use Rattle.judging.specs.Judging.{record_judged}

-- a chain of two rows that refuses does so whatever stands below them
two_rows : {A : Type 0} (a b : Bool) (i j k : ℕ) (x : A) (rest : Outcome A)
    → refused k ≡ refuse_if a i (refuse_if b j (accepted x)) → refused k ≡ refuse_if a i (refuse_if b j rest)
unfolding refuse_if
two_rows true b i j k x rest e = e
two_rows false true i j k x rest e = e
two_rows false false i j k x rest e = absurd (accepted_not_refused e)

module _ (p : Plan) (t : Tables) where
  pub lengths_refused : (k : ℕ) → refused k ≡ lengths_judged p t → refused k ≡ record_judged p t
  unfolding lengths_judged record_judged
  lengths_refused k e = two_rows (not (is_plan p)) (not (are_lengths p t)) 1 2 k tt _ e

  module _ (sound : accepted tt ≡ lengths_judged p t) where
    rows : (not (is_plan p) ≡ false) × (not (are_lengths p t) ≡ false)
    unfolding lengths_judged
    rows =
        let plan = refuse_if_accepted (not (is_plan p)) _ _ _ (sym sound) in
        (plan.0, (refuse_if_accepted (not (are_lengths p t)) _ _ _ plan.1).0)

    pub lengths_plan : is_plan p ≡ true
    lengths_plan = not-false _ rows.0

    pub lengths_passed : (rest : Outcome (Unit {0})) {o : Outcome (Unit {0})} → o ≡ rest → o ≡ refuse_if (not (is_plan p)) 1 (refuse_if (not (are_lengths p t)) 2 rest)
    lengths_passed rest h = pass _ _ _ rows.0 (pass _ _ _ rows.1 h)
