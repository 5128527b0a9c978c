-- `host_deliver::paxos_commit_deliver` meets its contract: the delivery, and the number of its answer. Assumes nothing.
use Rattle.host_deliver.proofs.CodeLaws.{delivery_coded}
use Rattle.host_deliver.proofs.paxos_commit_deliver.Goals as goal

pub returns : goal.returns
returns c = delivery_coded c.deliver.ensures c.answer_code.ensures
