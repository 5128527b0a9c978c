-- `slots::are_two_bits` meets its contract: all bits together are a number of two bits exactly where each byte is. Assumes nothing.
use Rattle.std.specs.Prelude.{leb, ◌≡◌}
use Rattle.std.specs.List.{fold}
use Rattle.std.proofs.Common.{rules, ap, ◌∙◌, bit_or}
use Rattle.slots.proofs.TwoBits.{two_bits_fold}
use Rattle.slots.proofs.are_two_bits.Goals as goal

pub returns : goal.returns
returns c =
    let e : c.fold.result ≡ fold bit_or 0 c.args.bytes.now = search rules in ap (λ bits. leb bits 3) e ∙ two_bits_fold 0 _
