-- `host_rm::paxos_commit_rm_step` meets its contract: the step, and the number of its answer. Assumes nothing.
use Rattle.host_code.proofs.CodeLaws.{coded}
use Rattle.host_rm.proofs.paxos_commit_rm_step.Goals as goal

pub returns : goal.returns
returns c =
    coded c.step.ensures c.answer_code.ensures
