-- `host_batch::paxos_commit_run` meets its contract: the list call, and the number of its answer. Assumes nothing.
use Rattle.host_batch.specs.Code.Laws.{run_coded}
use Rattle.host_batch.proofs.paxos_commit_run.Goals as goal

pub returns : goal.returns
returns c = run_coded c.run.ensures c.number_of.ensures
