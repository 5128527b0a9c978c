-- `tables::put_bounds` meets its contract: the rows one after the other, each at the map of its form. Assumes nothing.
use mathlib.Core.Path.{refl}
use Rattle.message.proofs.PlanLaws.{plan_bounds}
use Rattle.message.specs.Form.{map1a, map1b, map1b_vote, map2a, map2b, map_decision}
use Rattle.tables.specs.Tables.Bounds.{put_bounds}
use Rattle.message.proofs.Form.Maps.{slot_1a, slot_1b, slot_1b_vote, slot_2a, slot_2b, slot_decision}
use Rattle.tables.proofs.Rows.{put_row_lem}
use Rattle.tables.proofs.put_bounds.Goals as goal

pub overflow_sub-ins : goal.overflow_sub-ins
overflow_sub-ins c = (plan_bounds _ c.requires).rms_least

pub overflow_sub-acc : goal.overflow_sub-acc
overflow_sub-acc c = (plan_bounds _ c.requires).acceptors_least

pub returns : goal.returns
unfolding put_bounds
returns c =
    let of-1a =
    put_row_lem map1a refl (slot_1a _ _ 0 0 _ 0) (slot_1a _ _ 0 0 _ 0) refl
    refl refl c.put_row.ensures in
    let of-1b =
    put_row_lem map1b refl (slot_1b _ _ _ _ 0 0) (slot_1b _ _ _ _ 0 0) of-1a
    refl refl c.put_row-2.ensures in
    let of-vote =
    put_row_lem map1b_vote refl (slot_1b_vote _ _ _ _ _ _) (slot_1b_vote _ _ _ _ _ _) of-1b
    refl refl c.put_row-3.ensures in
    let of-2a =
    put_row_lem map2a refl (slot_2a _ _ 0 0 _ _) (slot_2a _ _ 0 0 _ _) of-vote
    refl refl c.put_row-4.ensures in
    let of-2b =
    put_row_lem map2b refl (slot_2b _ _ _ 0 _ _) (slot_2b _ _ _ 0 _ _) of-2a
    refl refl c.put_row-5.ensures in
    put_row_lem map_decision refl (slot_decision _ 0 0 0 0 _) (slot_decision _ 0 0 0 0 _) of-2b
    refl refl c.put_row-6.ensures
