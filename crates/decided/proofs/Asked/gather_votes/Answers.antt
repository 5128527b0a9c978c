-- `decided::Asked::gather_votes` meets its contract: a passed block leaves what was gathered, `gather_slots` says what another comes to. Assumes nothing.
use Prim.Native.Nat.{◌+◌, ◌≤◌}
use mathlib.Core.Path.{sym, ◌∙◌}
use native.Mathlib.Nat.{le_of_eq}
use native.Mathlib.Omega.{arith}
use borrow.Author.Rules.{rules}
use Rattle.inbox.specs.Inbox.Quantifiers.{for_some_none}
use Rattle.inbox.specs.Inbox.Slots.{used_within}
use Rattle.inbox.specs.Inbox.Votes.{counts_start}
use Rattle.decided.specs.Pass.{block_slots}
use Rattle.decided.proofs.Deciding.{block_next, counted_end}
use Rattle.decided.proofs.Asked.gather_votes.Goals as goal

pub loop-place-init : goal.loop-place-init
loop-place-init c = (search rules, rw c.requires.2 (counts_start _ _ _ _))

pub any_2b-requires : goal.any_2b-requires
any_2b-requires c =
    omega (arith, c.loop-place-test.true, used_within _ _ c.requires.1)

pub gather_slots-requires : goal.gather_slots-requires
gather_slots-requires c =
    (c.requires.0, omega arith, rw (← c.requires.1) (omega (arith, c.loop-place.invariant.0, c.loop-place-test.true)), c.loop-place.invariant.1)

pub returns-then-gather_slots : goal.returns-then-gather_slots
returns-then-gather_slots c = sym (c.gather_slots.ensures.decides c.if-gather_slots.true)

pub loop-place-preserved-else-gather_slots : goal.loop-place-preserved-else-gather_slots
loop-place-preserved-else-gather_slots c =
    (omega (arith, c.loop-place.invariant.0, c.loop-place-test.true), c.gather_slots.ensures.further c.if-gather_slots.false)

pub loop-place-preserved : goal.loop-place-preserved
loop-place-preserved c =
    let whole : c.loop-place.place + block_slots ≤ c.args.used = omega (arith, c.loop-place.invariant.0, c.loop-place-test.true) in (
      whole,
      block_next _ _ _ _ _ c.requires.1 c.requires.0 (λ j. search rules) _ _ c.loop-place.invariant.1
          block_slots whole (for_some_none _ block_slots (sym c.any_2b.ensures ∙ c.if-any_2b.false)),
    )

pub gather_slots-requires-2 : goal.gather_slots-requires-2
gather_slots-requires-2 c =
    (c.requires.0, c.loop-place.invariant.0, le_of_eq c.requires.1, c.loop-place.invariant.1)

pub returns : goal.returns
returns c =
    counted_end _ _ _ _ _ c.requires.1 _ _ c.gather_slots-2.ensures
