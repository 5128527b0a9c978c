-- `phase2a::phase2a_message` meets its contract: each `return` is one case of `phase2a_message`. Assumes nothing.
use Prim.Native.Nat.{ℕ}
use mathlib.Core.Bool.{Bool, true, not}
use Rattle.std.specs.Prelude.{◌&&◌, leb}
use Rattle.message.specs.declared.Plan.{Plan}
use Rattle.message.specs.Plan.{is_plan}
use mathlib.Core.Path.{◌≡◌, sym, ◌∙◌, ap}
use borrow.Author.Tests.{le-leb}
use Rattle.message.proofs.PlanLaws.{plan_bounds}
use Rattle.message.proofs.Guards.{told, halt, pass}
use Rattle.phase2a.specs.Phase2a.{owns, phase2a_message}
use Rattle.phase2a.specs.Phase2a.Own.{refuses, proposes}
use Rattle.phase2a.proofs.Proposing.{proposed_is, quorum_is, proposal_is, count_is}
use Rattle.phase2a.proofs.phase2a_message.Goals as goal

-- what the callee says of ownership; a plan in range has leaders
owned : (p : Plan) (who ballot : ℕ) → is_plan p ≡ true → (r : Bool) → r ≡ (leb 1 p.leaders && owns p who ballot) → r ≡ owns p who ballot
owned p who ballot plan r e = e ∙ rw (le-leb 1 _ (plan_bounds _ plan).leaders_least)

pub returns-then-not-owns_ballot : goal.returns-then-not-owns_ballot
unfolding phase2a_message
returns-then-not-owns_ballot c = refuses _ _ _ _ _ _ (halt _ _ _ (told (owned _ _ _ c.requires _ c.owns_ballot.ensures) c.if-not-owns_ballot.true))

pub returns-then-reports : goal.returns-then-reports
unfolding phase2a_message
returns-then-reports c =
    refuses _ _ _ _ _ _
    (pass _ _ _ (told (owned _ _ _ c.requires _ c.owns_ballot.ensures) c.if-not-owns_ballot.false)
    (halt _ _ _ (sym (proposed_is _ _ _ _ _ c.gather_reports-reports.ensures) ∙ c.if-reports.true)))

pub returns-then-not-reports : goal.returns-then-not-reports
unfolding phase2a_message
returns-then-not-reports c =
    refuses _ _ _ _ _ _
    (pass _ _ _ (told (owned _ _ _ c.requires _ c.owns_ballot.ensures) c.if-not-owns_ballot.false)
    (pass _ _ _ (sym (proposed_is _ _ _ _ _ c.gather_reports-reports.ensures) ∙ c.if-reports.false)
    (halt _ _ _ (ap not (sym (quorum_is _ _ _ _ _ c.gather_reports-reports.ensures c.requires)) ∙ c.if-not-reports.true))))

pub returns : goal.returns
unfolding phase2a_message
returns c =
    let gathered = c.gather_reports-reports.ensures in
    let none = sym (proposed_is _ _ _ _ _ gathered) ∙ c.if-reports.false in
    proposes _ _ _ _ _ _ _
    (pass _ _ _ (told (owned _ _ _ c.requires _ c.owns_ballot.ensures) c.if-not-owns_ballot.false)
    (pass _ _ _ none
    (pass _ _ _ (ap not (sym (quorum_is _ _ _ _ _ gathered c.requires)) ∙ c.if-not-reports.false)
    (proposal_is _ _ _ _ _ gathered _ c.proposal_of.ensures))))
    none (count_is _ _ _ _ _ gathered)
