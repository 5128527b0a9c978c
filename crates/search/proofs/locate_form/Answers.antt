-- `search::locate_form` meets its contract: up to `place` no slot is the form, and from the place near the edge on all are used. Assumes nothing.
use mathlib.Core.Path.{sym, ◌∙◌}
use Rattle.slots.proofs.Table.Edge.{near_within}
use Rattle.search.specs.Words.Laws.{first_byte}
use Rattle.search.proofs.Look.{is_form_lem, not_form, found_near, looked_near, looked_at, looked_next, looked_free, looked_full}
use Rattle.search.proofs.locate_form.Goals as goal

pub find_before-found-requires : goal.find_before-found-requires
find_before-found-requires c = rw c.near_edge-near.ensures (near_within _)

pub returns-then-found-near : goal.returns-then-found-near
returns-then-found-near c = found_near (rw c.near_edge-near.ensures at c.find_before-found.ensures) (rw c.near_edge-near.ensures at c.if-found-near.true)

pub loop-place-init : goal.loop-place-init
loop-place-init c =
    let near = c.near_edge-near.ensures in
    rw near (looked_near (rw c.near_edge-near.ensures at c.find_before-found.ensures) (rw near at c.if-found-near.false))

pub returns-then-slot-eq0 : goal.returns-then-slot-eq0
returns-then-slot-eq0 c =
    looked_free c.loop-place.invariant c.loop-place-test.true (sym (first_byte c.eight_from-slot.ensures) ∙ c.if-slot-eq0.true)

pub returns-then-slot-form : goal.returns-then-slot-form
returns-then-slot-form c =
    looked_at c.loop-place.invariant c.loop-place-test.true
    (λ e. c.if-slot-eq0.false (first_byte c.eight_from-slot.ensures ∙ e))
    (is_form_lem c.eight_from-slot.ensures c.if-slot-form.true)

pub loop-place-preserved : goal.loop-place-preserved
loop-place-preserved c =
    looked_next c.loop-place.invariant c.loop-place-test.true
    (λ e. c.if-slot-eq0.false (first_byte c.eight_from-slot.ensures ∙ e))
    (not_form c.eight_from-slot.ensures c.if-slot-form.false)

pub returns : goal.returns
returns c = looked_full c.loop-place.invariant c.loop-place-test.false
