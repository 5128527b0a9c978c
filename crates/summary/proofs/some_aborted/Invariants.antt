-- The loop of `summary::some_aborted`.
use Rattle.std.specs.Prelude.{◌≡◌, take}
use Rattle.std.specs.List.{fold}
use Rattle.std.proofs.Common.{bit_or}
use Rattle.summary.proofs.some_aborted.Given as goal

abbrev pub invariant-loop-byte : goal.invariant-loop-byte
invariant-loop-byte l = l.any ≡ fold bit_or 0 (take l.byte-index l.summary)
