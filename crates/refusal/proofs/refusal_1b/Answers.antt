-- `refusal::refusal_1b` meets its contract: the length is the table's entry, and each branch decides one field. Assumes nothing.
use mathlib.Core.Path.{◌∙◌}
use lib.Dec.{lit<}
use Rattle.message.proofs.Form.Maps.{length_1b, decoded_1b}
use Rattle.message.proofs.Codec.Laws.{shape_length, shape_range, shape_none}
use Rattle.message.proofs.Guards.{guards, within}
use Rattle.refusal.proofs.Slices.{whole, not_whole}
use Rattle.refusal.proofs.refusal_1b.Goals as goal

pub returns-then-bytes-map_length : goal.returns-then-bytes-map_length
returns-then-bytes-map_length c =
    shape_length _ _ _ c.requires.1 (not_whole c.if-bytes-map_length.true c.map_length.ensures c.requires.0)

pub bounds-bytes-1 : goal.bounds-bytes-1
bounds-bytes-1 c =
    within (whole c.if-bytes-map_length.false c.map_length.ensures c.requires.0 ∙ length_1b) (lit< tt)

pub returns-then-plan-bytes : goal.returns-then-plan-bytes
returns-then-plan-bytes c =
    shape_range _ _ _ c.requires.1 (whole c.if-bytes-map_length.false c.map_length.ensures c.requires.0)
    (rw (decoded_1b _ _ c.requires.1.first) (search guards))

pub bounds-bytes-2 : goal.bounds-bytes-2
bounds-bytes-2 c =
    within (whole c.if-bytes-map_length.false c.map_length.ensures c.requires.0 ∙ length_1b) (lit< tt)

pub returns-then-plan-bytes-2 : goal.returns-then-plan-bytes-2
returns-then-plan-bytes-2 c =
    shape_range _ _ _ c.requires.1 (whole c.if-bytes-map_length.false c.map_length.ensures c.requires.0)
    (rw (decoded_1b _ _ c.requires.1.first) (search guards))

pub returns : goal.returns
returns c =
    shape_none _ _ _ c.requires.1 (whole c.if-bytes-map_length.false c.map_length.ensures c.requires.0)
    (rw (decoded_1b _ _ c.requires.1.first) (search guards))
