-- The summary (document 02, Papers 5 and 6), a leader's bytes of it: one for each instance, bit 0 when prepared is Decided, bit 1 when aborted is or the
-- weight has declined.
--     is_summary    row 20: the length, and no byte above 3
--     stands        the bit of a value in the byte of an instance
--     is_decline    the 2a by which a weight declines: aborted at ballot 0 (document 001, section 4.2)
--     with_bit      the bytes with one bit set
--     marked        what receiving a message does: a 2b for (i, v) sets v's bit of i where Decided(i, v), a decline of i sets aborted's bit of i
--     marked_at     the message of a slot, and nothing where the slot is unused
--     decided_or_declined   what a leader may announce, by the messages of an inbox
--     standing      the byte that an inbox says: what a summary that was zeroed at opening holds
--     decided_bytes  for the code, which judges no table: Decided by the bytes of an inbox
-- The laws of its bytes are in Summary/Laws.antt, what it says of its inbox in Summary/Standing.antt. Assumes nothing.
pub mod Laws
pub mod Standing
use Rattle.std.specs.Prelude.{ℕ, ◌+◌, ◌-◌, Bool, false, ◌&&◌, ◌||◌, cond, List, leb, eqb, length, get_or, set}
use Rattle.message.specs.declared.Plan.{Plan}
use Rattle.message.specs.declared.Message.{Message}
use Rattle.message.specs.declared.Message.TheVariants.{Phase1a, Phase1b, Phase2a, Phase2b, Decision}
use Rattle.message.specs.Outcome.{Outcome, accepted, refused}
use Rattle.message.specs.Plan.{is_plan}
use Rattle.slots.specs.All.{all}
use Rattle.slots.specs.View.Bytes.{view_bytes}
use Rattle.quorum.specs.Mask.{has_bit, join}
use Rattle.inbox.specs.Inbox.{any, decided}

-- row 20
unfoldable pub is_summary : ℕ → List ℕ → Bool
is_summary count s = eqb (length s) count && all (λ b. leb b 3) s

-- bit 0 for prepared, which is 1, and bit 1 for aborted, which is 2
unfoldable pub stands : List ℕ → ℕ → ℕ → Bool
stands s i v = has_bit (get_or s i 0) (v - 1)

-- of instance i
unfoldable pub is_decline : ℕ → Message → Bool
is_decline i (Phase1a _ _) = false
is_decline i (Phase1b _ _ _ _) = false
is_decline i (Phase2a ins bal val) = eqb ins i && (eqb bal 0 && eqb val 2)
is_decline i (Phase2b _ _ _ _) = false
is_decline i (Decision _) = false

-- the bit of value v of instance i
abbrev pub with_bit : List ℕ → ℕ → ℕ → List ℕ
with_bit s i v = set s i (join (get_or s i 0) (v - 1))

-- no bit is cleared; `isDecided` is what the inbox says after the receipt
unfoldable pub marked : (ℕ → ℕ → Bool) → List ℕ → Message → List ℕ
marked isDecided s (Phase1a ins bal) = s
marked isDecided s (Phase1b ins acc mbal vote) = s
marked isDecided s (Phase2a ins bal val) = cond (eqb bal 0 && eqb val 2) (with_bit s ins 2) s
marked isDecided s (Phase2b ins acc bal val) = cond (isDecided ins val) (with_bit s ins val) s
marked isDecided s (Decision val) = s

abbrev pub marked_at : (ℕ → ℕ → Bool) → List ℕ → Outcome Message → List ℕ
marked_at isDecided s (accepted m) = marked isDecided s m
marked_at isDecided s (refused number) = s

-- Decided(i, v); or v is aborted, and the 2a by which weight i declines is there
unfoldable pub decided_or_declined : Plan → List Message → ℕ → ℕ → Bool
decided_or_declined p seen i v = decided p seen i v || (eqb v 2 && any (is_decline i) seen)

-- for instance i, by the messages of an inbox
unfoldable pub standing : Plan → List Message → ℕ → ℕ
standing p seen i = cond (decided_or_declined p seen i 1) 1 0 + cond (decided_or_declined p seen i 2) 2 0

-- over the view of bytes; with a plan out of range nothing is Decided
abbrev pub decided_bytes : Plan → List ℕ → ℕ → ℕ → Bool
decided_bytes p inbox i v = is_plan p && decided p (view_bytes p inbox).messages i v
