-- `inbox::word_from` meets its contract: the number is that of the bytes. Assumes nothing.
use borrow.Author.Rules.{rules}
use Rattle.slots.proofs.Table.Words.Laws.{word_le}
use Rattle.inbox.proofs.word_from.Goals as goal

pub returns : goal.returns
returns c = word_le (search rules) (search rules) (search rules) (search rules) c.from_le_bytes.ensures
