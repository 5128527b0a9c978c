-- `rehearsal_text::put_line` meets its contract: a digit and LF, or the digits and then LF. Assumes nothing.
use Rattle.std.proofs.Common.{arith}
use Rattle.rehearsal_text.proofs.Putting.{put_as, two_put, line_one, line_of}
use Rattle.rehearsal_text.proofs.put_line.Goals as goal

pub returns-then-number-lt10 : goal.returns-then-number-lt10
returns-then-number-lt10 c = put_as (line_one _ c.if-number-lt10.true) _ _ c.put_words.ensures

pub returns : goal.returns
returns c =
    two_put _ _ _ _ _ (line_of _ c.args.number (omega arith) (omega arith)) _ _ (rw (c.as_bytes.ensures.value, c.format.ensures.text) at c.put_words-end.ensures) c.put_words-2.ensures
