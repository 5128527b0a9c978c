-- `ending::ending_of` meets its contract: one law for each `return`. Assumes nothing.
use mathlib.Core.Path.{sym, ◌∙◌}
use Rattle.ending.proofs.EndingLaws.{ending_committed, ending_aborted, ending_open}
use Rattle.ending.proofs.ending_of.Goals as goal

pub returns-then-are_all : goal.returns-then-are_all
returns-then-are_all c = sym (ending_committed _ (sym c.are_all.ensures ∙ c.if-are_all.true))

pub returns-then-are_all-2 : goal.returns-then-are_all-2
returns-then-are_all-2 c = sym (ending_aborted _ (sym c.are_all.ensures ∙ c.if-are_all.false) (sym c.are_all-2.ensures ∙ c.if-are_all-2.true))

pub returns : goal.returns
returns c = sym (ending_open _ (sym c.are_all.ensures ∙ c.if-are_all.false) (sym c.are_all-2.ensures ∙ c.if-are_all-2.false))
