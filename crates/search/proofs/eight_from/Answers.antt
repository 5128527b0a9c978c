-- `search::eight_from` meets its contract: the number is that of the bytes. Assumes nothing.
use borrow.Author.Rules.{rules}
use Rattle.search.specs.Words.Laws.{eight_le}
use Rattle.search.proofs.eight_from.Goals as goal

pub returns : goal.returns
returns c =
    eight_le (search rules) (search rules) (search rules) (search rules) (search rules) (search rules) (search rules) (search rules) c.from_le_bytes.ensures
