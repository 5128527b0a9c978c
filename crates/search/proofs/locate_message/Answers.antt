-- `search::locate_message` meets its contract: the form is that of the message. Assumes nothing.
use Rattle.search.proofs.Look.{message_located}
use Rattle.search.proofs.locate_message.Goals as goal

pub returns : goal.returns
returns c = message_located _ _ c.form_of.ensures c.locate_form.ensures
