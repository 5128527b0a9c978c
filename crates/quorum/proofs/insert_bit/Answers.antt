-- `quorum::insert_bit` meets its contract: the branch decides whether the byte has the bit, and the bit is set by its value. Assumes nothing.
use mathlib.Core.Path.{◌∙◌, ap}
use lib.Bits.{bit_or}
use borrow.Author.Tests.{lt-ltb}
use Rattle.quorum.proofs.Mask.Laws.{bit_value, or_insert}
use Rattle.quorum.proofs.insert_bit.Goals as goal

pub returns : goal.returns
returns c = rw (lt-ltb _ _ c.if-acc-ge8.false) (ap (bit_or c.args.mask) (bit_value _ c.if-acc-ge8.false) ∙ or_insert _ _)
