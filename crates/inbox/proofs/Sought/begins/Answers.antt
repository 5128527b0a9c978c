-- `inbox::Sought::begins` meets its contract: only a word that fails both tests is answered by no. Assumes nothing.
use borrow.Author.Rules.{rules}
use borrow.Author.Tests.{eqb-false}
use Rattle.std.proofs.lemmas.Bool.{or_parts}
use Rattle.slots.proofs.Table.Words.Laws.{word_le}
use Rattle.inbox.proofs.Skipping.{passed_word}
use Rattle.inbox.proofs.Sought.begins.Goals as goal

pub returns : goal.returns
returns c none =
    let parts = or_parts _ _ none in
    passed_word _ _ _ _ _ _ _
    c.word_from-word.ensures
    (word_le (search rules) (search rules) (search rules) (search rules) c.from_le_bytes-of_1b.ensures)
    (word_le (search rules) (search rules) (search rules) (search rules) c.from_le_bytes-of_2a.ensures)
    (eqb-false _ _ parts.0) (eqb-false _ _ parts.1)
