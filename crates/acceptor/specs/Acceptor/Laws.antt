-- The places of Q.
--     vote_at_bound    a place of Q is small, so the code's numbers fit
-- Assumes nothing.
use Rattle.std.specs.Prelude.{ℕ, ◌≤◌, ◌<◌}
use Rattle.std.proofs.Common.{arith}
use Rattle.message.specs.declared.Plan.{Plan}
use Rattle.message.proofs.PlanLaws.{bytes_bound}
use Rattle.acceptor.specs.Acceptor.{vote_at}

pub vote_at_bound : (p : Plan) (ins acc : ℕ) → p.acceptors < 256 → ins < 256 → acc < 256 → vote_at p ins acc ≤ 195840
unfolding vote_at
vote_at_bound p ins acc a i c = omega (arith, bytes_bound ins p.acceptors i a)
