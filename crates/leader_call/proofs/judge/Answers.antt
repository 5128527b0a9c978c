-- `leader_call::judge` meets its contract: the last row is what the tables' own call says, rows 5 and 6 together. Assumes nothing.
use mathlib.Core.Path.{◌∙◌}
use Rattle.message.proofs.Guards.{passed, told, pass}
use Rattle.tables.specs.Tables.Laws.{are_tables_one, tables_passed}
use Rattle.leader.specs.Leader.{leader_judged}
use Rattle.leader_call.proofs.judge.Goals as goal

pub returns : goal.returns
unfolding leader_judged
returns c =
    pass _ _ _ (told c.is_plan.ensures c.if-not-is_plan.false)
    (pass _ _ _ (told c.is_table_length.ensures c.if-not-is_table_length.false)
    (pass _ _ _ (told c.is_table_length-2.ensures c.if-not-is_table_length-2.false)
    (c.judge.ensures ∙ tables_passed _ (passed c.is_plan.ensures c.if-not-is_plan.false) _ _ 1 _ (are_tables_one _ _))))
