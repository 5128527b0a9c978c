-- `slots::store_message` meets its contract: the copied part is put back at its place. Assumes nothing.
use mathlib.Core.Path.{sym}
use Rattle.slots.proofs.Table.Scan.Laws.{store_at_out}
use Rattle.slots.proofs.Copy.{store_part}
use Rattle.slots.proofs.store_message.Goals as goal

pub returns-then-count-place : goal.returns-then-count-place
returns-then-count-place c = sym (store_at_out _ _ _ c.if-count-place.true)

pub returns : goal.returns
returns c =
    store_part _ _ _ _ _ c.if-count-place.false c.copy_form.ensures c.encode-form.ensures
