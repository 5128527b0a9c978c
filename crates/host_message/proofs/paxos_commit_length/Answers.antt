-- `host_message::paxos_commit_length` meets its contract: a length is within a slot, so it fits. Assumes nothing.
use native.Mathlib.Omega.{arith}
use Rattle.message.proofs.Form.Laws.{map_length_bound}
use Rattle.host_message.proofs.paxos_commit_length.Goals as goal

pub overflow_cast-result : goal.overflow_cast-result
overflow_cast-result c = record { fits = omega (arith, c.map_length.ensures, map_length_bound c.args.map) }

pub returns : goal.returns
returns c = c.map_length.ensures
