-- `codec::decode_message` meets its contract: the six bytes are those that `decode` reads. Assumes nothing.
use mathlib.Core.Path.{◌∙◌}
use Rattle.message.proofs.Form.Maps.{decode_fields}
use Rattle.codec.proofs.decode_message.Goals as goal

pub returns : goal.returns
returns c =
    c.fields_message.ensures
    ∙ rw (
      decode_fields,
      c.byte_at-6.ensures,
      c.byte_at-5.ensures,
      c.byte_at-4.ensures,
      c.byte_at-3.ensures,
      c.byte_at-2.ensures,
      c.byte_at.ensures,
    )
