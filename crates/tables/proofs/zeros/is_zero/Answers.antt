-- `tables::zeros::is_zero` meets its contract: what was seen is zero exactly while all bytes so far are, of both halves. Assumes nothing.
use Rattle.std.proofs.Common.{ℕ, ◌+◌, ◌/◌, Bool, ◌&&◌, List, refl, ◌∙◌, ap, eqb, length, get_or, arith, bit_or}
use Rattle.slots.proofs.Zeros.{or_zero}
use Rattle.tables.specs.Tables.Each.{each, halves_suc, halves_end, each_suc, zero_all}
use Rattle.tables.proofs.zeros.is_zero.Goals as goal
use Rattle.tables.proofs.zeros.is_zero.Goals.{then-half-bytes, else-half-bytes}

-- the byte at an index is zero
abbrev zero_at : List ℕ → ℕ → Bool
zero_at l k = eqb (get_or l k 0) 0

pub loop-i-init : goal.loop-i-init
unfolding each
loop-i-init c = refl

pub loop-i-preserved : goal.loop-i-preserved
loop-i-preserved c =
    let bytes = c.args.bytes.now in
    let first = get_or bytes c.loop-i.i 0 in
    let second = get_or bytes (length bytes / 2 + c.loop-i.i) 0 in
    halves_suc (zero_at bytes) _ c.loop-i.i _ _ c.loop-i.invariant
    (or_zero c.loop-i.any (bit_or first second) ∙ ap (λ (t : Bool). eqb c.loop-i.any 0 && t) (or_zero first second))

pub returns : goal.returns
returns c =
    let bytes = c.args.bytes.now in
    let halves = halves_end (zero_at bytes) _ _ _ c.loop-i.invariant c.loop-i.auto.i-end c.loop-i-test.false in
    elim c.if-half-bytes.branch [
      | then-half-bytes w ↦ rw w.any-is (zero_all bytes _ _ (each_suc (zero_at bytes) _ _ _ halves (or_zero c.loop-i.any _)) (omega (arith, w.if-half-bytes.true)) (omega arith))
      | else-half-bytes w ↦ rw w.any-is (zero_all bytes _ _ halves (omega arith) (omega (arith, w.if-half-bytes.false)))
    ]
