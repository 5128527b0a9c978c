-- `search::form_of` meets its contract: the bytes are the message's slot. Assumes nothing.
use borrow.Author.Rules.{rules}
use Rattle.message.proofs.Form.Laws.{length_slot_of}
use Rattle.slots.proofs.Eight.{eight}
use Rattle.search.specs.Words.Laws.{eight_le}
use Rattle.search.proofs.form_of.Goals as goal

pub returns : goal.returns
returns c =
    let bytes = rw (eight _ (length_slot_of c.args.plan c.args.m)) at (rw c.encode.ensures at c.from_le_bytes.ensures) in
    eight_le (search rules) (search rules) (search rules) (search rules) (search rules) (search rules) (search rules) (search rules) bytes
