-- The loop of `summary::all_prepared`.
use Rattle.std.specs.Prelude.{◌≡◌, take}
use Rattle.std.specs.List.{fold}
use Rattle.std.proofs.Common.{bit_and}
use Rattle.summary.proofs.all_prepared.Given as goal

abbrev pub invariant-loop-byte : goal.invariant-loop-byte
invariant-loop-byte l = l.all ≡ fold bit_and 1 (take l.byte-index l.summary)
