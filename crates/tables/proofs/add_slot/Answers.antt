-- `tables::add_slot` meets its contract: each byte of the slot beside its map's rows. Assumes nothing.
use Rattle.std.proofs.Common.{Bool, ◌&&◌, eqb, get_or, ap, ◌∙◌, arith}
use Rattle.slots.proofs.Zeros.{or_zero}
use Rattle.tables.specs.Tables.Bounds.{is_within_at, is_form}
use Rattle.tables.proofs.Seen.{added_none, added_step, added_all}
use Rattle.tables.proofs.add_slot.Goals as goal

pub loop-place-init : goal.loop-place-init
loop-place-init c = added_none _ _ _ _

pub loop-place-preserved : goal.loop-place-preserved
unfolding is_within_at
loop-place-preserved c =
    let before = get_or c.loop-place.seen c.loop-place.place 0 in
    added_step _ _ _ _ _ _ c.loop-place.invariant (omega arith) _
    (or_zero before c.beyond.result ∙ ap (λ (b : Bool). eqb before 0 && b) c.beyond.ensures)

pub returns : goal.returns
unfolding is_form
returns c = added_all _ _ _ _ _ _ c.loop-place.invariant c.loop-place-test.false c.told-seen
