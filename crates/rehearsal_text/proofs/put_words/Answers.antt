-- `rehearsal_text::put_words` meets its contract: no room, or the part that has room is copied. Assumes nothing.
use Rattle.std.proofs.Common.{sym}
use Rattle.rehearsal_text.proofs.Text.Laws.{put_full}
use Rattle.rehearsal_text.proofs.put_words.Goals as goal

pub returns-then-output-at : goal.returns-then-output-at
returns-then-output-at c = sym (put_full _ _ _ c.if-output-at.true)
