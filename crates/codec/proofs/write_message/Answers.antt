-- `codec::write_message` meets its contract: what is refused, and the form of what is not, whose map stands for its length. Assumes nothing.
use Rattle.std.proofs.Common.{ℕ, List, ◌∙◌, ap, get_or}
use Rattle.message.specs.Outcome.{and_then}
use Rattle.message.specs.Form.{map_length}
use Rattle.message.proofs.Form.Laws.{map_length_slot_of}
use Rattle.codec.proofs.write_message.Goals as goal

pub returns : goal.returns
unfolding and_then
returns c =
    (λ i. record {
      number = 0;
      bytes = c.encode-bytes.ensures i;
      len = (c.map_length.ensures ∙ ap (λ (s : List ℕ). map_length (get_or s 0 0)) c.encode-bytes.ensures ∙ map_length_slot_of _ _) i;
    })
    ∙ c.in_default.ensures
