-- A call whose answer became a number.
--     opening_coded, event_coded     opening, and the event call
--     ending_ruled                   the ending along its rows
--     ending_sound                   where no row applies
--     number_ending                  no number stands for two endings
-- Assumes nothing.
use Rattle.std.specs.Prelude.{ℕ, Bool, true, false, not, List, ◌≡◌, length}
use Rattle.std.proofs.lemmas.Bool.{false≢true}
use Rattle.std.proofs.Math.Path.{refl}
use Rattle.std.proofs.Common.{sym, ◌∙◌, ap, arith}
use borrow.Author.Tests.{eq-eqb, eqb-true, eqb-false, not-true, not-false}
use Rattle.message.specs.declared.Plan.{Plan}
use Rattle.message.specs.Outcome.{accepted, number_of, refuse_if}
use Rattle.message.specs.Plan.{is_plan}
use Rattle.message.specs.Rows.{end, row}
use Rattle.message.proofs.Rows.Laws.{Ruled, ruled_row}
use Rattle.rm.specs.Rm.{are_states}
use Rattle.ending.specs.declared.Ending.{Ending}
use Rattle.ending.specs.declared.Ending.TheVariants.{Open, Committed, Aborted}
use Rattle.ending.specs.Ending.{ending_of}
use Rattle.record.specs.Record.{Opening, RecordStep}
use Rattle.host_code.specs.Code.{answer_code}
use Rattle.host_record.specs.Code.{host_opening, host_opening_of, host_event, host_event_of, ending_number, ending_outcome}

pub opening_coded : {r o : Opening} → r ≡ o → {number : ℕ} → number ≡ number_of r.answer → host_opening number r.tables ≡ host_opening_of o
opening_coded {r} e h = ap (λ (k : ℕ). host_opening k r.tables) h ∙ ap host_opening_of e

pub event_coded : {r s : RecordStep} → r ≡ s → {code : ℕ} → code ≡ answer_code r.answer → host_event code r.tables ≡ host_event_of s
event_coded {r} e h = ap (λ (k : ℕ). host_event k r.tables) h ∙ ap host_event_of e

module _ (p : Plan) (states : List ℕ) where
  clash : (b : Bool) → not b ≡ false → b ≡ false → ⊥
  clash b h k = false≢true (sym k ∙ not-false b h)

  pub ending_ruled : Ruled (ending_outcome p states)
      (row 1 (is_plan p ≡ false) (row 2 (length states ≡ p.rms → ⊥) (row 3 (are_states states ≡ false) end)))
  unfolding ending_outcome Ruled
  ending_ruled =
      ruled_row _ 1 _ _ _ (not-true (is_plan p)) (clash (is_plan p))
      (λ plan. ruled_row _ 2 _ _ _ (λ h. eqb-false _ _ (not-true _ h)) (λ h n. n (eqb-true _ _ (not-false _ h)))
      (λ whole. ruled_row _ 3 _ _ _ (not-true (are_states states)) (clash (are_states states)) (λ known. tt)))

  pub ending_sound : is_plan p ≡ true → length states ≡ p.rms → are_states states ≡ true → ending_outcome p states ≡ accepted (ending_of states)
  unfolding ending_outcome refuse_if
  ending_sound plan whole known = rw (plan, eq-eqb (length states) p.rms whole, known) refl

pub number_ending : (a b : Ending) → ending_number a ≡ ending_number b → a ≡ b
number_ending Open Open e = refl
number_ending Open Committed e = absurd (omega arith)
number_ending Open Aborted e = absurd (omega arith)
number_ending Committed Open e = absurd (omega arith)
number_ending Committed Committed e = refl
number_ending Committed Aborted e = absurd (omega arith)
number_ending Aborted Open e = absurd (omega arith)
number_ending Aborted Committed e = absurd (omega arith)
number_ending Aborted Aborted e = refl
