-- `tables::are_forms` meets its contract: what was seen is zero exactly while all slots so far are used. Assumes nothing.
use Rattle.std.proofs.Common.{◌∙◌, arith, length-take}
use Rattle.tables.specs.Tables.Each.{each, each_end}
use Rattle.tables.specs.Tables.Edge.{are_used}
use Rattle.tables.proofs.Forms.{slot_is, form_step}
use Rattle.tables.proofs.Seen.{none_seen}
use Rattle.tables.proofs.are_forms.Goals as goal

pub loop-slot-init : goal.loop-slot-init
unfolding each
loop-slot-init c = λ p b. none_seen

pub loop-slot-preserved : goal.loop-slot-preserved
loop-slot-preserved c =
    let many = length-take c.args.used c.as_chunks.result.0.now in
    λ p b. form_step b _ _ _ _ _ (omega (arith, c.as_chunks.ensures.front_len, many))
    (slot_is _ _ _ _ c.as_chunks.ensures.front (omega (arith, many))) (c.loop-slot.invariant p b) c.add_slot.ensures

pub returns : goal.returns
unfolding are_used
returns c =
    let many = length-take c.args.used c.as_chunks.result.0.now in
    c.is_zero.ensures
    ∙ each_end _ _ _ _ (c.loop-slot.invariant _ c.requires.0) (omega (arith, many)) (omega (arith, c.as_chunks.ensures.front_len, many))
