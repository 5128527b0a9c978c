-- The judgements of the plan and the tables answer the first of their rows that applies.
--     record_judges, lent_judges, rm_judges, acceptor_judges, leader_judges
--     record_judges_then, lent_judges_then     so where a call judges more after them
-- Assumes nothing.
use Rattle.std.specs.Prelude.{ℕ, ◌*◌, not, List, ◌≡◌, refl}
use Rattle.std.proofs.lemmas.Bool.{not-true, not-false}
use Rattle.message.specs.declared.Plan.{Plan}
use Rattle.message.specs.Plan.{is_plan}
use Rattle.message.specs.Outcome.{Outcome, accepted, refused, and_then, refuse_if}
use Rattle.message.specs.Rows.{Rows, end}
use Rattle.message.proofs.Rows.Laws.{Ruled, ruled_end}
use Rattle.slots.specs.Table.{is_table}
use Rattle.inbox.specs.Inbox.Quantifiers.{for_all_all, for_all_fails}
use Rattle.rm.specs.Rm.{are_states, rm_judged}
use Rattle.votes.specs.Votes.{are_votes}
use Rattle.acceptor.specs.Acceptor.{acceptor_judged}
use Rattle.leader.specs.Leader.{is_summary, leader_judged}
use Rattle.record.specs.Record.{Tables, are_inboxes, record_judged, lent_judged}
use Rattle.matching.proofs.Call.Laws.{clash, ruled_judged, ruled_sound}
use Rattle.matching.specs.Rm.{rm_table_rows}
use Rattle.matching.proofs.Rm.Ruled.{rm_judges_then}
use Rattle.matching.specs.Acceptor.{acceptor_table_rows}
use Rattle.matching.proofs.Acceptor.Ruled.{acceptor_judges_then}
use Rattle.matching.specs.Leader.{leader_table_rows}
use Rattle.matching.proofs.Leader.Ruled.{leader_judges_then}
use Rattle.matching.proofs.Leader.Own.{summary_wrong, summary_right}
use Rattle.conformance.specs.Record.{table_rows, lent_rows}
use Rattle.conformance.proofs.Record.Ruled.{no_false, wrong_lengths, right_lengths}

then_accepted : (o : Outcome (Unit {0})) → and_then o (λ _. accepted (tt {0})) ≡ o
unfolding and_then
then_accepted (accepted a) = refl
then_accepted (refused number) = refl

then_assoc : {A : Type 0} (o m : Outcome (Unit {0})) (after : Outcome A)
    → and_then (and_then o (λ _. m)) (λ _. after) ≡ and_then o (λ _. and_then m (λ _. after))
unfolding and_then
then_assoc (accepted a) m after = refl
then_assoc (refused number) m after = refl

module _ (p : Plan) (t : Tables) where
  -- the plan and the four tables, and then the rows of a call
  pub record_judges_then : {A : Type 0} (rows : Rows) (after : Outcome A) → Ruled after rows
      → Ruled (and_then (record_judged p t) (λ _. after)) (table_rows p t rows)
  unfolding record_judged are_inboxes
  record_judges_then rows after next =
      ruled_judged (λ _. after) _ 1 _ _ _ (not-true (is_plan p)) (clash (is_plan p))
      (λ _. ruled_judged (λ _. after) _ 2 _ _ _ (λ h. wrong_lengths p t (not-true _ h)) (λ h. right_lengths p t (not-false _ h))
      (λ _. ruled_judged (λ _. after) _ 3 _ _ _ (not-true (are_states t.states)) (clash (are_states t.states))
      (λ _. ruled_judged (λ _. after) _ 4 _ _ _ (not-true (are_votes t.votes)) (clash (are_votes t.votes))
      (λ _. ruled_judged (λ _. after) _ 5 _ _ _ (not-true (is_table p t.network)) (clash (is_table p t.network))
      (λ _. ruled_judged (λ _. after) _ 6 _ _ _ (λ h. for_all_fails _ p.leaders (not-true _ h))
      (λ f h. no_false (for_all_all _ p.leaders (not-false _ f) h.0 h.1) h.2)
      (λ _. ruled_sound (λ _. after) tt _ next))))))

  pub record_judges : Ruled (record_judged p t) (table_rows p t end)
  record_judges = rw (then_accepted (record_judged p t)) at (record_judges_then end (accepted tt) (ruled_end (tt {0})))

  -- all that is lent, and then the rows of a call
  pub lent_judges_then : {A : Type 0} (rows : Rows) (after : Outcome A) → Ruled after rows
      → Ruled (and_then (lent_judged p t) (λ _. after)) (lent_rows p t rows)
  unfolding lent_judged
  lent_judges_then {A} rows after next =
      rw (then_assoc (record_judged p t) summary after)
      (record_judges_then _ (and_then summary (λ _. after))
      (ruled_judged (λ _. after) _ 20 _ _ _ (λ h. summary_wrong _ t.summary (not-true _ h)) (λ h. summary_right _ t.summary (not-false _ h))
      (λ right. ruled_sound (λ _. after) tt _ next)))
    where
      summary : Outcome (Unit {0})
      summary = refuse_if (not (is_summary (p.rms * p.leaders) t.summary)) 20 (accepted tt)

  pub lent_judges : Ruled (lent_judged p t) (lent_rows p t end)
  lent_judges = rw (then_accepted (lent_judged p t)) at (lent_judges_then end (accepted tt) (ruled_end (tt {0})))

module _ (p : Plan) (table network : List ℕ) where
  pub rm_judges : Ruled (rm_judged p table network) (rm_table_rows p table network end)
  rm_judges = rw (then_accepted (rm_judged p table network)) at (rm_judges_then p table network (λ _. accepted tt) end (λ plan. ruled_end (tt {0})))

  pub acceptor_judges : Ruled (acceptor_judged p table network) (acceptor_table_rows p table network end)
  acceptor_judges =
      rw (then_accepted (acceptor_judged p table network)) at
      (acceptor_judges_then p table network (λ _. accepted tt) end (λ plan whole ordered. ruled_end (tt {0})))

  pub leader_judges : Ruled (leader_judged p table network) (leader_table_rows p table network end)
  leader_judges =
      rw (then_accepted (leader_judged p table network)) at
      (leader_judges_then p table network (λ _. accepted tt) end (λ plan whole ordered. ruled_end (tt {0})))
