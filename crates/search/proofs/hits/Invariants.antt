-- The loop of `search::hits`.
use Prim.Native.Nat.{◌+◌}
use mathlib.Core.Bool.{false}
use mathlib.Core.Path.{◌≡◌}
use Rattle.search.specs.Blocks.{NoneBegins}
use Rattle.search.proofs.hits.Given as goal

abbrev pub invariant-loop-i : goal.invariant-loop-i
invariant-loop-i l = l.any ≡ false → NoneBegins l.table l.head l.place (l.place + l.i)
