-- `host_leader::paxos_commit_leader_step` meets its contract: the step, and the number of its answer. Assumes nothing.
use Rattle.host_leader.specs.Code.Laws.{leader_coded}
use Rattle.host_leader.proofs.paxos_commit_leader_step.Goals as goal

pub returns : goal.returns
returns c =
    leader_coded c.step.ensures c.answer_code.ensures
