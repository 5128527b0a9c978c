-- The loop of `slots::copy_form`.
use mathlib.Core.Path.{◌≡◌}
use lib.ListN.{length, take}
use Rattle.slots.specs.Table.{slot_size}
use Rattle.slots.proofs.copy_form.Given as goal

abbrev pub invariant-loop-i : goal.invariant-loop-i
invariant-loop-i l = (length l.slot ≡ slot_size) × (take l.i l.slot ≡ take l.i l.form)
