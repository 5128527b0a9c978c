-- `search::hits` meets its contract: while none is met no slot so far begins with `head`. Assumes nothing.
use native.Mathlib.Nat.{add_assoc}
use borrow.Author.Rules.{rules}
use borrow.Author.Tests.{eqb-false}
use Rattle.std.proofs.lemmas.Bool.{or_parts}
use Rattle.slots.proofs.Table.Words.Laws.{word_le}
use Rattle.search.proofs.Blocks.{begins_next}
use Rattle.search.proofs.hits.Goals as goal

pub loop-i-preserved : goal.loop-i-preserved
loop-i-preserved c none =
    let parts = or_parts _ _ none in
    rw (← add_assoc) (begins_next _ _ _ _ _ (word_le (search rules) (search rules) (search rules) (search rules) c.from_le_bytes-word.ensures) (eqb-false _ _ parts.1) (c.loop-i.invariant parts.0))
