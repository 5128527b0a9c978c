-- `leader::phase1a_of` meets its contract: the branch decides ownership. Assumes nothing.
use Prim.Native.Nat.{ℕ}
use mathlib.Core.Bool.{Bool, true}
use Rattle.std.specs.Prelude.{◌&&◌, leb}
use Rattle.message.specs.declared.Plan.{Plan}
use Rattle.message.specs.Plan.{is_plan}
use mathlib.Core.Path.{◌≡◌, ◌∙◌}
use borrow.Author.Tests.{le-leb}
use Rattle.message.proofs.PlanLaws.{plan_bounds}
use Rattle.message.proofs.Guards.{told, halt, pass}
use Rattle.leader.specs.Leader.{owns, phase1a}
use Rattle.leader.proofs.phase1a_of.Goals as goal

-- what the callee says of ownership; a plan in range has leaders
owned : (p : Plan) (who ballot : ℕ) → is_plan p ≡ true → (r : Bool) → r ≡ (leb 1 p.leaders && owns p who ballot) → r ≡ owns p who ballot
owned p who ballot plan r e = e ∙ rw (le-leb 1 _ (plan_bounds _ plan).leaders_least)

pub returns-then-not-owns_ballot : goal.returns-then-not-owns_ballot
unfolding phase1a
returns-then-not-owns_ballot c = halt _ _ _ (told (owned _ _ _ c.requires _ c.owns_ballot.ensures) c.if-not-owns_ballot.true)

pub returns : goal.returns
unfolding phase1a
returns c =
    pass _ _ _ (told (owned _ _ _ c.requires _ c.owns_ballot.ensures) c.if-not-owns_ballot.false) c.send_only.ensures
