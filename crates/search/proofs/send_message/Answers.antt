-- `search::send_message` meets its contract: each arm says which place it is. Assumes nothing.
use Rattle.search.proofs.Look.{message_located}
use Rattle.search.proofs.send_message.Goals as goal

pub returns-in-At : goal.returns-in-At
returns-in-At c =
    rw (← message_located _ _ c.form_of.ensures c.locate_form.ensures, c.in-At.is)

pub returns-in-Free : goal.returns-in-Free
returns-in-Free c =
    rw (← message_located _ _ c.form_of.ensures c.locate_form.ensures, c.in-Free.is)

pub returns-in-Full : goal.returns-in-Full
returns-in-Full c = rw (← message_located _ _ c.form_of.ensures c.locate_form.ensures, c.in-Full.is)
