-- `summary::all_prepared` meets its contract: bit 0 of the bytes put together stands exactly where prepared does for each instance. Assumes nothing.
use Rattle.std.specs.Prelude.{ℕ, ◌%◌, ◌≡◌, eqb, take}
use Rattle.std.specs.List.{fold}
use Rattle.std.proofs.Common.{arith, ap, ◌∙◌, bit_and, length-take-le}
use Rattle.summary.proofs.Reading.{all_fold, all_short}
use Rattle.summary.proofs.all_prepared.Goals as goal

pub returns-then-summary-n : goal.returns-then-summary-n
returns-then-summary-n c = all_short _ _ c.if-summary-n.true

pub returns : goal.returns
returns c =
    let s = c.args.summary.now in
    let n = c.args.plan.rms in
    let end : c.loop-byte.byte-index ≡ n = omega (arith, length-take-le n s c.if-summary-n.false) in
    ap (λ (x : ℕ). eqb (x % 2) 1) (c.loop-byte.invariant ∙ ap (λ (k : ℕ). fold bit_and 1 (take k s)) end)
    ∙ all_fold s n c.if-summary-n.false
