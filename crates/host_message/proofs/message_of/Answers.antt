-- `host_message::message_of` meets its contract: each arm knows the map, the last that it is none. Assumes nothing.
use Rattle.message.specs.Outcome.{refuse_if}
use Rattle.message.specs.Form.{map1a, map1b, map1b_vote, map2a, map2b, map_decision, is_known}
use borrow.Author.Tests.{ne_eqb}
use Rattle.std.proofs.Common.{arith}
use Rattle.host_message.specs.Code.{message_of, message_with}
use Rattle.host_message.proofs.message_of.Goals as goal

pub returns-in-41 : goal.returns-in-41
unfolding message_of message_with is_known refuse_if
returns-in-41 c = rw c.in-41.is

pub returns-in-39 : goal.returns-in-39
unfolding message_of message_with is_known refuse_if
returns-in-39 c = rw c.in-39.is

pub returns-in-63 : goal.returns-in-63
unfolding message_of message_with is_known refuse_if
returns-in-63 c = rw c.in-63.is

pub returns-in-57 : goal.returns-in-57
unfolding message_of message_with is_known refuse_if
returns-in-57 c = rw c.in-57.is

pub returns-in-59 : goal.returns-in-59
unfolding message_of message_with is_known refuse_if
returns-in-59 c = rw c.in-59.is

pub returns-in-48 : goal.returns-in-48
unfolding message_of message_with is_known refuse_if
returns-in-48 c = rw c.in-48.is

pub returns-in_default : goal.returns-in_default
unfolding message_of is_known refuse_if
returns-in_default c =
    rw (
      ne_eqb c.args.map map1a (λ e. grind arith),
      ne_eqb c.args.map map1b (λ e. grind arith),
      ne_eqb c.args.map map1b_vote (λ e. grind arith),
      ne_eqb c.args.map map2a (λ e. grind arith),
      ne_eqb c.args.map map2b (λ e. grind arith),
      ne_eqb c.args.map map_decision (λ e. grind arith),
    )
