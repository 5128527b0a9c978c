-- `votes::gather` meets its contract: where nothing is left, no part left anything. Assumes nothing.
use Rattle.std.proofs.Common.{arith}
use Rattle.votes.specs.Votes.Laws.Lanes.{or_none, ordered}
use Rattle.votes.proofs.gather.Goals as goal

pub returns : goal.returns
returns c e =
    let p = or_none _ _ e in
    let q = or_none _ _ p.0 in (
      q.0,
      ordered _ _ c.min-least.result (omega (arith, q.1)) (omega (arith, p.1)) (λ z. omega arith),
    )
