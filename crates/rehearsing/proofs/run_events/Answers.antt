-- `rehearsing::run_events` meets its contract: the lines of the list call's answers, that of a cut event and the word are the text. Assumes nothing.
use Rattle.rehearsing.proofs.Running.{run_put}
use Rattle.rehearsing.proofs.run_events.Goals as goal

pub returns : goal.returns
returns c =
    run_put _ _ c.requires.events_len_bound c.zeros-answers.ensures _ _ c.requires.summary_value _ _ c.run.ensures
    _ c.put_answers-lines_end.ensures _ c.put_cut-cut_end.ensures _ c.ending_of.ensures _ c.put_ending.ensures
