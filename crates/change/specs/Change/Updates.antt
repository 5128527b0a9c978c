-- Which table a change is for: a resource manager's step changes W, an acceptor's Q, a leader's its inbox.
--     IsState, IsVote, IsInbox     an update of W, of Q, of an inbox
--     Changes                      what is accepted has such an update
--     changes_refuse_if, changes_cond, changes_and_then, changes_sending   along a chain of refusals
-- Assumes nothing.
use Rattle.std.specs.Prelude.{ℕ, Bool, cond, None, Option, Some}
use Rattle.std.proofs.Math.Bool.{true, false}
use Rattle.message.specs.Outcome.{Outcome, accepted, refused, and_then, refuse_if}
use Rattle.slots.specs.declared.Sending.{Sending}
use Rattle.slots.specs.declared.Put.{Put}
use Rattle.slots.specs.View.{sending}
use Rattle.change.specs.declared.Update as UpdateType
use Rattle.change.specs.declared.Update.TheVariants.{State, Vote, Inbox}
use Rattle.change.specs.declared.Change.{Change}

abbrev pub IsState : UpdateType.Update → Type 0
IsState (State who state) = Unit {0}
IsState (Vote at mbal bal val) = ⊥
IsState (Inbox store) = ⊥

abbrev pub IsVote : UpdateType.Update → Type 0
IsVote (State who state) = ⊥
IsVote (Vote at mbal bal val) = Unit {0}
IsVote (Inbox store) = ⊥

abbrev pub IsInbox : UpdateType.Update → Type 0
IsInbox (State who state) = ⊥
IsInbox (Vote at mbal bal val) = ⊥
IsInbox (Inbox store) = Unit {0}

abbrev pub Changes : (UpdateType.Update → Type 0) → Outcome Change → Type 0
Changes Is (accepted change) = Is change.table
Changes Is (refused number) = Unit {0}

module _ (Is : UpdateType.Update → Type 0) where
  pub changes_refuse_if : (b : Bool) (k : ℕ) (o : Outcome Change) → Changes Is o → Changes Is (refuse_if b k o)
  unfolding refuse_if
  changes_refuse_if true k o h = tt
  changes_refuse_if false k o h = h

  pub changes_cond : (b : Bool) (o q : Outcome Change) → Changes Is o → Changes Is q → Changes Is (cond b o q)
  changes_cond true o q h i = h
  changes_cond false o q h i = i

  pub changes_and_then : {A : Type 0} (o : Outcome A) (next : A → Outcome Change) → ((a : A) → Changes Is (next a)) → Changes Is (and_then o next)
  unfolding and_then
  changes_and_then (accepted a) next h = h a
  changes_and_then (refused k) next h = tt

  pub changes_sending : (k : ℕ) (s : Option Sending) (next : ℕ → Option Put → Outcome Change) → ((slot : ℕ) (store : Option Put) → Changes Is (next slot store))
      → Changes Is (sending k s next)
  unfolding sending
  changes_sending k (Some s) next h = h s.slot s.put
  changes_sending k None next h = tt
