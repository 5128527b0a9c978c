-- `host_code::sent_code` meets its contract: the slot is below the bound or not, as the test found it. Assumes nothing.
use borrow.Author.Tests.{lt-ltb, le-ltb}
use Rattle.slots.specs.Table.{max_slots}
use Rattle.host_code.proofs.sent_code.Goals as goal

pub returns-then-slot-ge-MAX_SLOTS : goal.returns-then-slot-ge-MAX_SLOTS
returns-then-slot-ge-MAX_SLOTS c = rw (c.in-Slot.is, le-ltb _ max_slots c.if-slot-ge-MAX_SLOTS.true)

pub returns-else-slot-ge-MAX_SLOTS : goal.returns-else-slot-ge-MAX_SLOTS
returns-else-slot-ge-MAX_SLOTS c = rw (c.in-Slot.is, lt-ltb _ max_slots c.if-slot-ge-MAX_SLOTS.false)
