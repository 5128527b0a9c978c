-- `summary::some_aborted` meets its contract: bit 1 of the bytes put together stands exactly where aborted does for some instance. Assumes nothing.
use Rattle.std.specs.Prelude.{ℕ, ◌/◌, ◌%◌, ◌≤◌, ◌≡◌, eqb, length, take}
use Rattle.std.specs.List.{fold}
use Rattle.std.proofs.Common.{arith, ap, ◌∙◌, bit_or, length-take-le}
use Rattle.summary.proofs.Reading.{some_fold, some_past}
use Rattle.summary.proofs.some_aborted.Goals as goal

pub returns : goal.returns
returns c =
    let s = c.args.summary.now in
    let n = c.min-n.result in
    let within : n ≤ length s = omega (arith, c.min-n.ensures) in
    let end : c.loop-byte.byte-index ≡ n = omega (arith, length-take-le n s within) in
    ap (λ (x : ℕ). eqb (x / 2 % 2) 1) (c.loop-byte.invariant ∙ ap (λ (k : ℕ). fold bit_or 0 (take k s)) end)
    ∙ some_fold s n within
    ∙ some_past s n c.args.plan.rms c.min-n.ensures
