-- A leader's own call whose answer became a number (leader_coded). Assumes nothing.
use Rattle.std.specs.Prelude.{ℕ, ◌≡◌}
use Rattle.std.proofs.Common.{◌∙◌, ap}
use Rattle.leader.specs.Leader.{LeaderStep}
use Rattle.host_code.specs.Code.{answer_code}
use Rattle.host_leader.specs.Code.{host_leader, host_leader_of}

pub leader_coded : {r s : LeaderStep} → r ≡ s → {code : ℕ} → code ≡ answer_code r.step.answer
    → host_leader code r.step.table r.summary r.step.network ≡ host_leader_of s
leader_coded {r} e h = ap (λ (k : ℕ). host_leader k r.step.table r.summary r.step.network) h ∙ ap host_leader_of e
