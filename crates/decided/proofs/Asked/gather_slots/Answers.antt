-- `decided::Asked::gather_slots` meets its contract: what was gathered and what is ahead make up what all messages say. Assumes nothing.
use mathlib.Core.Bool.{false≢true}
use mathlib.Core.Path.{◌≡◌, refl, sym}
use native.Mathlib.Omega.{arith}
use borrow.Author.Rules.{rules}
use Rattle.slots.proofs.Table.Edge.{edge_within}
use Rattle.decided.proofs.Deciding.{turn_next, turn_decides}
use Rattle.decided.proofs.Asked.gather_slots.Goals as goal

pub loop-place-init : goal.loop-place-init
loop-place-init c = (c.requires.1, c.requires.3)

pub overflow_mul-place : goal.overflow_mul-place
overflow_mul-place c = omega (arith, c.requires.2, edge_within c.args.inbox.now)

pub vote_step-requires : goal.vote_step-requires
vote_step-requires c =
    omega (arith, c.loop-place-test.true, c.requires.2, edge_within c.args.inbox.now)

pub returns-then-vote_step : goal.returns-then-vote_step
returns-then-vote_step c =
    record {
      decides = λ same. turn_decides _ _ _ _ _ refl _ _ c.loop-place.invariant.1 c.requires.0 (omega (arith, c.loop-place-test.true, c.requires.2))
          (λ j. search rules) _ _ c.vote_step.ensures c.if-vote_step.true;
      further = λ none. absurd (false≢true (sym none));
    }

pub loop-place-preserved : goal.loop-place-preserved
loop-place-preserved c = (
  search rules,
  turn_next _ _ _ _ _ refl _ _ c.loop-place.invariant.1 c.requires.0 (omega (arith, c.loop-place-test.true, c.requires.2))
      (λ j. search rules) _ _ c.vote_step.ensures c.if-vote_step.false,
)

pub returns : goal.returns
returns c =
    let whole : c.loop-place.place ≡ c.args.to = omega (arith, c.loop-place.invariant.0, c.loop-place-test.false) in
    record { decides = λ same. absurd (false≢true same); further = λ none. rw whole at c.loop-place.invariant.1 }
