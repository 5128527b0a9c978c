-- `judging::judge` meets its contract: each `return` is one row of `record_judged`, rows 1 and 2 together. Assumes nothing.
use mathlib.Core.Path.{◌∙◌}
use Rattle.message.proofs.Guards.{told, halt, pass}
use Rattle.message.proofs.Outcome.Laws.{left_by}
use Rattle.tables.specs.Tables.Laws.{tables_passed}
use Rattle.judging.specs.Judging.{record_judged}
use Rattle.judging.proofs.Inboxes.{inboxes_are}
use Rattle.judging.proofs.Judging.{lengths_refused, lengths_plan, lengths_passed}
use Rattle.judging.proofs.judge.Goals as goal

pub returns-in_err-judge_lengths : goal.returns-in_err-judge_lengths
returns-in_err-judge_lengths c = rw (left_by c.from_residual.ensures.1) (lengths_refused _ _ _ c.in_err-judge_lengths.ensures)

pub returns-then-not-are_states : goal.returns-then-not-are_states
unfolding record_judged
returns-then-not-are_states c = lengths_passed _ _ c.in_ok-judge_lengths.ensures _ (halt _ _ _ (told c.are_states.ensures c.if-not-are_states.true))

pub returns-then-not-are_votes : goal.returns-then-not-are_votes
unfolding record_judged
returns-then-not-are_votes c = lengths_passed _ _ c.in_ok-judge_lengths.ensures _ (pass _ _ _ (told c.are_states.ensures c.if-not-are_states.false) (halt _ _ _ (told c.are_votes.ensures c.if-not-are_votes.true)))

pub returns : goal.returns
unfolding record_judged
returns c = lengths_passed _ _ c.in_ok-judge_lengths.ensures _ (pass _ _ _ (told c.are_states.ensures c.if-not-are_states.false) (pass _ _ _ (told c.are_votes.ensures c.if-not-are_votes.false) (c.judge.ensures ∙ tables_passed _ (lengths_plan _ _ c.in_ok-judge_lengths.ensures) _ _ _ _ (inboxes_are _ _))))
