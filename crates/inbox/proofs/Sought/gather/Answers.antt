-- `inbox::Sought::gather` meets its contract: what was gathered and what is ahead make up what all messages say. Assumes nothing.
use native.Mathlib.Nat.{le_refl}
use native.Mathlib.Omega.{arith}
use borrow.Author.Rules.{rules}
use Rattle.inbox.specs.Inbox.Slots.{used_within, ahead_next, ahead_end}
use Rattle.inbox.specs.Inbox.Reports.{gathers_start, gathers_next, gathers_end}
use Rattle.inbox.proofs.Skipping.{gathers_passed}
use Rattle.inbox.proofs.Sought.gather.Goals as goal

pub loop-place-init : goal.loop-place-init
loop-place-init c = (search rules, gathers_start _ _ _)

pub next-requires : goal.next-requires
next-requires c = (c.loop-place.invariant.0, used_within _ _ c.requires)

pub overflow_mul-place : goal.overflow_mul-place
overflow_mul-place c = omega (arith, c.in-Some.ensures.1, used_within _ _ c.requires)

pub report_step-seen-requires : goal.report_step-seen-requires
report_step-seen-requires c = omega (arith, c.in-Some.ensures.1, used_within _ _ c.requires)

pub loop-place-preserved : goal.loop-place-preserved
loop-place-preserved c =
    let met = c.in-Some.ensures in
    let passed = gathers_passed _ _ _ _ _ c.requires _ _ _ (omega (arith, met.1)) met.2 c.loop-place.invariant.1 met.0 in
    (omega (arith, met.1), gathers_next _ _ _ _ _ passed _ _ (ahead_next _ _ c.requires _ met.1) _ c.report_step-seen.ensures)

pub returns : goal.returns
returns c =
    gathers_end _ _ _ _ _ (gathers_passed _ _ _ _ _ c.requires _ _ _ (le_refl _) c.in_default.ensures c.loop-place.invariant.1 c.loop-place.invariant.0)
    (ahead_end _ _ c.requires _ (le_refl _))
