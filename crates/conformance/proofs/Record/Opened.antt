-- Opening a record.
--     ruled, keeps, zeros     it answers the first of its three rows that applies; refused it leaves the tables, accepted it zeroes them
-- Assumes nothing.
use Rattle.std.specs.Prelude.{ℕ, ◌*◌, false, not, ◌≡◌, eqb, length, replicate}
use Rattle.std.proofs.Math.Path.{refl}
use Rattle.message.specs.declared.Plan.{Plan}
use Rattle.message.specs.Outcome.{Outcome, accepted, refused, refuse_if}
use Rattle.message.proofs.Outcome.Laws.{accepted_not_refused}
use Rattle.message.specs.Plan.{is_plan}
use Rattle.message.specs.Rows.{Rows, end, row}
use Rattle.message.proofs.Rows.Laws.{Ruled, ruled_row, ruled_end}
use Rattle.record.specs.Record.{Tables, tables_of, are_lengths, lengths_judged, open_judged, zeroed, opened, record_open}
use Rattle.matching.proofs.Call.Laws.{ruled_judged, ruled_sound}
use Rattle.conformance.specs.Record.{WrongLengths}
use Rattle.conformance.proofs.Record.Ruled.{no_false, wrong_lengths, right_lengths}
use Rattle.std.proofs.Common.{eqb-true, sym}
use Rattle.std.proofs.lemmas.Bool.{eqb-false, not-true, not-false}

module _ (p : Plan) (t : Tables) where
  -- the plan, the lengths of the four tables, and the length of the summary
  abbrev pub open_rows : Rows
  open_rows = row 1 (is_plan p ≡ false) (row 2 (WrongLengths p t) (row 20 (length t.summary ≡ p.rms * p.leaders → ⊥) end))

  pub ruled : Ruled (record_open p t).answer open_rows
  unfolding record_open open_judged lengths_judged Ruled
  ruled = go (open_judged p t) judged
    where
      next : Unit {0} → Outcome (Unit {0})
      next _ = refuse_if (not (eqb (length t.summary) (p.rms * p.leaders))) 20 (accepted tt)

      judged : Ruled (open_judged p t) open_rows
      judged =
          ruled_judged next (not (is_plan p)) 1 _ _ _ (not-true _) (λ h. no_false (not-false _ h)) (λ plan.
          ruled_judged next (not (are_lengths p t)) 2 _ _ _ (λ h. wrong_lengths p t (not-true _ h)) (λ h. right_lengths p t (not-false _ h)) (λ l.
          ruled_sound next tt _
          (ruled_row _ 20 _ _ _ (λ h. eqb-false _ _ (not-true _ h)) (λ h k. k (eqb-true _ _ (not-false _ h))) (λ s. ruled_end (tt {0})))))

      go : (o : Outcome (Unit {0})) → Ruled o open_rows
          → Ruled (opened t o).answer open_rows
      go (accepted a) r = r
      go (refused k) r = r

  pub keeps : (k : ℕ) → (record_open p t).answer ≡ refused k → (record_open p t).tables ≡ t
  unfolding record_open
  keeps k = go (open_judged p t)
    where
      go : (o : Outcome (Unit {0})) → (opened t o).answer ≡ refused k → (opened t o).tables ≡ t
      go (accepted a) is = absurd (accepted_not_refused (sym is))
      go (refused j) is = refl

  pub zeros : (record_open p t).answer ≡ accepted tt
      → (record_open p t).tables
      ≡ tables_of (replicate (length t.states) 0) (replicate (length t.votes) 0) (replicate (length t.network) 0)
      (replicate (length t.inboxes) 0) (replicate (length t.summary) 0)
  unfolding record_open zeroed
  zeros = go (open_judged p t)
    where
      go : (o : Outcome (Unit {0})) → (opened t o).answer ≡ accepted tt
          → (opened t o).tables
          ≡ tables_of (replicate (length t.states) 0) (replicate (length t.votes) 0) (replicate (length t.network) 0)
          (replicate (length t.inboxes) 0) (replicate (length t.summary) 0)
      go (accepted a) is = refl
      go (refused j) is = absurd (accepted_not_refused is)
