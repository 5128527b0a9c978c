-- `host_record::paxos_commit_step` meets its contract: the event call, and the number of its answer. Assumes nothing.
use Rattle.host_record.proofs.CodeLaws.{event_coded}
use Rattle.host_record.proofs.paxos_commit_step.Goals as goal

pub returns : goal.returns
returns c =
    event_coded c.step.ensures c.answer_code.ensures
