-- `host_record::ending_of` meets its contract: each `return` is a row of `ending_outcome`, or the ending. Assumes nothing.
use mathlib.Core.Bool.{not}
use mathlib.Core.Path.{ap}
use borrow.Author.Tests.{eq-eqb, ne_eqb}
use Rattle.message.specs.Outcome.{accepted}
use Rattle.message.proofs.Guards.{told, halt, pass}
use Rattle.host_record.specs.Code.{ending_outcome}
use Rattle.host_record.proofs.ending_of.Goals as goal

pub returns-then-not-is_plan : goal.returns-then-not-is_plan
unfolding ending_outcome
returns-then-not-is_plan c = halt _ _ _ (told c.is_plan.ensures c.if-not-is_plan.true)

pub returns-then-states-plan : goal.returns-then-states-plan
unfolding ending_outcome
returns-then-states-plan c =
    pass _ _ _ (told c.is_plan.ensures c.if-not-is_plan.false) (halt _ _ _ (ap not (ne_eqb _ _ c.if-states-plan.true)))

pub returns-then-not-are_states : goal.returns-then-not-are_states
unfolding ending_outcome
returns-then-not-are_states c =
    pass _ _ _ (told c.is_plan.ensures c.if-not-is_plan.false)
    (pass _ _ _ (ap not (eq-eqb _ _ c.if-states-plan.false)) (halt _ _ _ (told c.are_states.ensures c.if-not-are_states.true)))

pub returns : goal.returns
unfolding ending_outcome
returns c =
    pass _ _ _ (told c.is_plan.ensures c.if-not-is_plan.false)
    (pass _ _ _ (ap not (eq-eqb _ _ c.if-states-plan.false))
    (pass _ _ _ (told c.are_states.ensures c.if-not-are_states.false) (ap accepted c.ending_of.ensures)))
