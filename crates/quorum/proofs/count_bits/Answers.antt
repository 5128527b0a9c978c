-- `quorum::count_bits` meets its contract: the ones of the byte, or of its low bits, are counted. Assumes nothing.
use Rattle.std.proofs.Common.{ℕ, ◌-◌, ◌^◌, ◌≡◌, ◌∙◌, ap, arith}
use Rattle.std.specs.Int.Bits.{bit_and}
use lib.Bits.{and_mask}
use Rattle.std.specs.Int.Count as Count
use borrow.Author.Rules.{rules}
use Rattle.quorum.proofs.Mask.Laws.{bit_value, ones_low, ones_all}
use Rattle.quorum.specs.Mask.{ones}
use Rattle.quorum.proofs.count_bits.Goals as goal

-- the bits that a mask keeps, by the mask's value
kept : (total mask low : ℕ) → low ≡ 2 ^ total - 1 → Count.ones (bit_and mask low) ≡ ones total mask
kept total mask low is = ap (λ (l : ℕ). Count.ones (bit_and mask l)) is ∙ ap Count.ones (and_mask _ _) ∙ ones_low _ _

pub returns-then-total-ge8 : goal.returns-then-total-ge8
returns-then-total-ge8 c = ones_all _ _ c.if-total-ge8.true (search rules)

pub returns : goal.returns
returns c = kept _ _ _ (rw (bit_value _ c.if-total-ge8.false) (omega arith))
