-- `decided::Asked::vote_step` meets its contract: the branch decides whether the slot counts, and a ballot has its set. Assumes nothing.
use mathlib.Core.Path.{refl}
use borrow.Author.Rules.{rules}
use Rattle.slots.proofs.Table.Words.Laws.{word_le}
use Rattle.decided.proofs.Voting.{vote_other, vote_taken}
use Rattle.decided.proofs.Asked.vote_step.Goals as goal

pub returns-then-form-from_le_bytes : goal.returns-then-form-from_le_bytes
returns-then-form-from_le_bytes c =
    vote_other _ _ c.args.self.plan _ _ _ _ _ (word_le (search rules) (search rules) (search rules) (search rules) c.from_le_bytes-form.ensures)
    (word_le (search rules) (search rules) (search rules) (search rules) c.from_le_bytes.ensures) c.if-form-from_le_bytes.true

pub returns : goal.returns
returns c =
    vote_taken _ _ c.args.self.plan _ _ _ _ _ (word_le (search rules) (search rules) (search rules) (search rules) c.from_le_bytes-form.ensures)
    (word_le (search rules) (search rules) (search rules) (search rules) c.from_le_bytes.ensures) c.if-form-from_le_bytes.false
    _ refl _ c.insert_bit-mask.ensures _ c.is_majority.ensures
