-- `slots::slot_message` meets its contract: a first byte 0 is no map. Assumes nothing.
use mathlib.Core.Path.{sym, ◌∙◌, ap}
use Rattle.message.specs.Outcome.{accepted}
use Rattle.slots.specs.Table.Scan.{slot_message}
use Rattle.slots.proofs.Table.Scan.Laws.{peek_slot_unused, peek_slot_used}
use Rattle.slots.proofs.slot_message.Goals as goal

pub returns-then-byte_at-eq0 : goal.returns-then-byte_at-eq0
returns-then-byte_at-eq0 c = ap slot_message (sym (peek_slot_unused _ (sym c.byte_at.ensures ∙ c.if-byte_at-eq0.true)))

pub returns : goal.returns
returns c =
    ap accepted c.decode_message.ensures ∙ ap slot_message (sym (peek_slot_used _ (λ e. c.if-byte_at-eq0.false (c.byte_at.ensures ∙ e))))
