-- `search::find_from` meets its contract: no slot before `place` is the form. Assumes nothing.
use mathlib.Core.Path.{◌≡◌}
use native.Mathlib.Nat.{le_refl}
use native.Mathlib.Omega.{arith}
use Rattle.search.proofs.Blocks.{passed_start, passed_one, found_end, found_here}
use Rattle.search.proofs.Look.{is_form_lem, not_form}
use Rattle.search.proofs.find_from.Goals as goal

pub loop-place-init : goal.loop-place-init
loop-place-init c = passed_start _ _ _ _ c.requires.0

pub returns-then-eight_from-form : goal.returns-then-eight_from-form
returns-then-eight_from-form c = found_here _ _ _ _ _ c.loop-place.invariant (is_form_lem c.eight_from.ensures c.if-eight_from-form.true)

pub loop-place-preserved : goal.loop-place-preserved
loop-place-preserved c =
    passed_one _ _ _ _ _ c.loop-place-test.true c.loop-place.invariant (not_form c.eight_from.ensures c.if-eight_from-form.false)

pub returns : goal.returns
returns c =
    let whole : c.loop-place.place ≡ c.args.end = omega (arith, c.loop-place.invariant.before, c.loop-place-test.false) in
    found_end _ _ _ _ _ (le_refl _) (rw whole at c.loop-place.invariant)
