-- The loop of `tables::zeros::is_zero`.
use Rattle.std.proofs.Common.{◌&&◌, ◌≡◌, eqb, get_or}
use Rattle.tables.specs.Tables.Each.{each}
use Rattle.tables.proofs.zeros.is_zero.Given as goal

abbrev pub invariant-loop-i : goal.invariant-loop-i
invariant-loop-i l =
    eqb l.any 0 ≡ (each (λ k. eqb (get_or l.bytes k 0) 0) 0 l.i && each (λ k. eqb (get_or l.bytes k 0) 0) l.half l.i)
