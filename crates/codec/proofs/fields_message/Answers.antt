-- `codec::fields_message` meets its contract: each arm is one map. Assumes nothing.
use Rattle.std.proofs.Common.{sym, arith}
use Rattle.message.proofs.Form.Maps.{fields_1a, fields_1b, fields_1b_vote, fields_2a, fields_2b, fields_other}
use Rattle.codec.proofs.fields_message.Goals as goal

pub returns-in-41 : goal.returns-in-41
returns-in-41 c = sym (rw c.in-41.is (fields_1a _ _ _ _ _))

pub returns-in-39 : goal.returns-in-39
returns-in-39 c = sym (rw c.in-39.is (fields_1b _ _ _ _ _))

pub returns-in-63 : goal.returns-in-63
returns-in-63 c = sym (rw c.in-63.is (fields_1b_vote _ _ _ _ _))

pub returns-in-57 : goal.returns-in-57
returns-in-57 c = sym (rw c.in-57.is (fields_2a _ _ _ _ _))

pub returns-in-59 : goal.returns-in-59
returns-in-59 c = sym (rw c.in-59.is (fields_2b _ _ _ _ _))

pub returns-in_default : goal.returns-in_default
returns-in_default c =
    sym (fields_other _ _ _ _ _ _ (record {
      not_1a = λ e. grind arith;
      not_1b = λ e. grind arith;
      not_1b_vote = λ e. grind arith;
      not_2a = λ e. grind arith;
      not_2b = λ e. grind arith;
    }))
