-- `decided::begins_2b` meets its contract: its two bytes are one number. Assumes nothing.
use borrow.Author.Rules.{rules}
use Rattle.slots.proofs.Table.Words.Laws.{word_le}
use Rattle.decided.proofs.Voting.{begins_word}
use Rattle.decided.proofs.begins_2b.Goals as goal

pub returns : goal.returns
returns c =
    begins_word _ _ _ _ _ (word_le (search rules) (search rules) (search rules) (search rules) c.from_le_bytes-word.ensures)
    (word_le (search rules) (search rules) (search rules) (search rules) c.from_le_bytes.ensures)
