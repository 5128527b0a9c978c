-- The loop of `rehearsing::put_answers`: the lines of the numbers that are left, put where those so far end, give the whole. Assumes nothing.
use mathlib.Core.Path.{◌≡◌}
use lib.ListN.{drop}
use Rattle.rehearsal_text.specs.Text.{put}
use Rattle.rehearsing.specs.Rehearsal.{number_lines}
use Rattle.rehearsing.proofs.put_answers.Given as goal

abbrev pub invariant-loop-number : goal.invariant-loop-number
invariant-loop-number l =
    put l.at (number_lines (drop l.number-index l.answers)) l.output ≡ put 0 (number_lines l.answers) l.initial.output
