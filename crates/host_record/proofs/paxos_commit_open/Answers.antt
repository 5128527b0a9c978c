-- `host_record::paxos_commit_open` meets its contract: opening, and the number of its answer. Assumes nothing.
use Rattle.host_record.proofs.CodeLaws.{opening_coded}
use Rattle.host_record.proofs.paxos_commit_open.Goals as goal

pub returns : goal.returns
returns c =
    opening_coded c.«open».ensures c.number_of.ensures
