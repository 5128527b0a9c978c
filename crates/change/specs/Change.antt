-- What a step answers and leaves (document 01: "An accepted event returns the first slot of N where the sent message stands, or quiet";
-- "all tables keep their bytes").
--     updated                          a role's own table (W, Q or one inbox) after a change
--     Step, step_of, refusal, applied   the answer and both tables after a verdict; a refusal changes no byte
-- Its laws are in Change/Laws.antt. Assumes nothing.
pub mod Laws
pub mod Updates
use Rattle.std.specs.Prelude.{ℕ, ◌+◌, List, set, Result}
use Rattle.message.specs.declared.Plan.{Plan}
use Rattle.message.specs.declared.Refusal.{Refusal}
use Rattle.message.specs.Outcome.{Outcome, accepted, refused, outcome}
use Rattle.slots.specs.View.{store_bytes}
use Rattle.change.specs.declared.Sent.{Sent}
use Rattle.change.specs.declared.Update as UpdateType
use Rattle.change.specs.declared.Update.TheVariants.{State, Vote, Inbox}
use Rattle.change.specs.declared.Change as ChangeType

-- one byte of W; mbal, bal and val of one instance and acceptor in Q; a slot of an inbox
abbrev pub updated : Plan → UpdateType.Update → List ℕ → List ℕ
updated p (State who state) t = set t who state
updated p (Vote at mbal bal val) t = set (set (set t at mbal) (at + 1) bal) (at + 2) val
updated p (Inbox store) t = store_bytes p store t

pub record Step : Type 0 where
  pub answer : Outcome Sent
  pub table : List ℕ
  pub network : List ℕ

-- the answer and both tables at exit
abbrev pub step_of : Result Sent Refusal → List ℕ → List ℕ → Step
step_of answer table network = record { answer = outcome answer; table = table; network = network }

-- a refused step: the number, and both tables as they were
abbrev pub refusal : List ℕ → List ℕ → ℕ → Step
refusal table network number = record { answer = refused number; table = table; network = network }

abbrev pub applied : Plan → List ℕ → List ℕ → Outcome ChangeType.Change → Step
applied p table network (accepted change) =
    record { answer = accepted change.sent; table = updated p change.table table; network = store_bytes p change.network network }
applied p table network (refused number) = refusal table network number
