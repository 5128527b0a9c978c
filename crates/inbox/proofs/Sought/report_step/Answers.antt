-- `inbox::Sought::report_step` meets its contract: the arms say which map it is, the guards whether the ballot is that one. Assumes nothing.
use native.Mathlib.Omega.{arith}
use borrow.Author.Rules.{rules}
use Rattle.inbox.proofs.Reporting.{skip_instance, skip_2a, step_2a, skip_1b, step_1b, step_1b_vote, skip_map}
use Rattle.inbox.proofs.Sought.report_step.Goals as goal

pub returns-then-inbox-at : goal.returns-then-inbox-at
returns-then-inbox-at c = skip_instance _ _ _ _ _ c.if-inbox-at.true

pub returns-in-57 : goal.returns-in-57
returns-in-57 c = step_2a _ _ _ _ _ c.in-57.is c.if-inbox-at.false c.if-inbox-at-2.true

pub returns-in-39 : goal.returns-in-39
returns-in-39 c = step_1b _ _ _ _ _ c.if-inbox-at.false c.if-inbox-at-3.true _ c.insert_bit.ensures c.in-39.is

pub returns-in-63 : goal.returns-in-63
returns-in-63 c =
    step_1b_vote _ _ _ _ _ c.if-inbox-at.false c.if-inbox-at-4.true _ c.insert_bit-in-63.ensures c.in-63.is _ c.higher_vote.ensures

pub returns-in_default : goal.returns-in_default
returns-in_default c = skip_2a _ _ _ _ _ c.in-57.is c.if-inbox-at-2.false

pub returns-in_default-2 : goal.returns-in_default-2
returns-in_default-2 c = skip_1b _ _ _ _ _ (λ e. omega (arith, c.in-39.is, e)) c.if-inbox-at-3.false

pub returns-in_default-3 : goal.returns-in_default-3
returns-in_default-3 c = skip_1b _ _ _ _ _ (λ e. omega (arith, c.in-63.is, e)) c.if-inbox-at-4.false

pub returns-in_default-4 : goal.returns-in_default-4
returns-in_default-4 c = skip_map _ _ _ _ _ (search rules) (search rules) (search rules)
