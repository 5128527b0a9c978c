-- Row 11: no decision in N contradicts the state of a resource manager.
--     row_7, row_11, row_14      what these rows say of an event call, by what it answered
--     not_contradicted           on a grounded record the answer is not 11
--     not_contradicted_empty     nor where N holds no message
-- Assumes nothing.
use Rattle.std.specs.Prelude.{ℕ, Bool, true, false, List, [], ◌⊎◌, ◌≡◌, refl}
use Rattle.std.proofs.Common.{inl, inr, arith}
use Rattle.message.specs.declared.Plan.{Plan}
use Rattle.message.specs.declared.Message as Wire
use Rattle.message.specs.Outcome.{Outcome, accepted, refused}
use Rattle.message.proofs.Outcome.Laws.{accepted_not_refused}
use Rattle.message.specs.Rows.{Either, here, below, InOrder}
use Rattle.message.proofs.Rows.Laws.{applies_of_first}
use Rattle.message.proofs.Rows.Named.{row_applies, applies_row, first_passed}
use Rattle.slots.specs.Table.{messages}
use Rattle.slots.specs.Send.{message_at}
use Rattle.change.specs.declared.Sent.{Sent}
use Rattle.event.specs.Event.{kind_of, who_of, is_event}
use Rattle.event.specs.Event.Laws.{rm_who}
use Rattle.tcommit.specs.RmState.{working, prepared, committed, aborted}
use Rattle.paxos_commit.proofs.PaxosCommit.Safety.Agreement.{can_commit_lem, not_committed_lem}
use Rattle.record.specs.Record.{Tables}
use Rattle.matching.specs.Reading.{is_rm, message_of, rm_state_of}
use Rattle.matching.proofs.Theorems.{majorities_meet}
use Rattle.matching.specs.Call.{SlotHolds}
use Rattle.matching.proofs.Call.Laws.{member_at}
use Rattle.matching.specs.Rm.{Contradicts}
use Rattle.matching.specs.Leader.{InboxFull}
use Rattle.conformance.specs.Record.{own_inbox, record_rows}
use Rattle.safety.specs.Grounds.{sent_in, Grounded}

module _ (p : Plan) (t : Tables) (e : List ℕ) (answer : Outcome Sent) (rows : InOrder (record_rows p t e) answer) where
  -- a call that refused with 11 was given an event: row 7 stands before it
  row_7 : answer ≡ refused 11 → is_event p e ≡ true
  row_7 is = go (is_event p e) refl (first_passed (record_rows p t e) 11 7 ((rows.refuses 11).0 is))
    where
      go : (b : Bool) → is_event p e ≡ b → ((is_event p e ≡ false) × Unit {1} → ⊥) → is_event p e ≡ true
      go true h none = h
      go false h none = absurd (none (h, tt))

  -- row 11
  abbrev Contradicted : Type 0
  Contradicted = (kind_of e ≡ 2) × SlotHolds p t.network e (λ m. Contradicts (rm_state_of t.states (who_of e)) m)

  row_11 : answer ≡ refused 11 → Contradicted
  row_11 is = go (row_applies (record_rows p t e) 11 (applies_of_first (record_rows p t e) 11 ((rows.refuses 11).0 is)))
    where
      go : Either (Contradicted × Unit {1}) (Unit {1} → ⊥) → Contradicted
      go (here h) = h.0
      go (below h) = absurd (h tt)

  -- a call that was accepted found the room that it needed in the inbox
  pub row_14 : (sent : Sent) → answer ≡ accepted sent → InboxFull p (own_inbox p t e) t.network e → ⊥
  row_14 sent is h = rows.accepts.0 (sent, is) 14 (applies_row (record_rows p t e) 14 (here (h, tt)))

  pub not_contradicted_empty : messages p t.network ≡ [] → answer ≡ refused 11 → ⊥
  unfolding message_at
  not_contradicted_empty none is = let (kind, (m, there, against)) = row_11 is in accepted_not_refused (rw none at there)

  module _ (g : Grounded p t) where
    -- a Commit finds all prepared or committed, an Abort none committed
    disagrees : is_rm p (who_of e) → (m : Wire.Message) → sent_in p t (message_of m) → Contradicts (rm_state_of t.states (who_of e)) m → ⊥
    disagrees rm m there (inl (commit, state)) =
        let ready = can_commit_lem g.inv (majorities_meet p).1 (rw commit at there) (who_of e) rm in
        apart (rm_state_of t.states (who_of e)) ready state
      where
        apart : (n : ℕ) → (n ≡ prepared) ⊎ (n ≡ committed) → (n ≡ working) ⊎ (n ≡ aborted) → ⊥
        apart n (inl a) (inl b) = omega arith
        apart n (inl a) (inr b) = omega arith
        apart n (inr a) (inl b) = omega arith
        apart n (inr a) (inr b) = omega arith
    disagrees rm m there (inr (abort, state)) = not_committed_lem g.inv (majorities_meet p).1 (rw abort at there) (who_of e) rm state

    pub not_contradicted : answer ≡ refused 11 → ⊥
    not_contradicted is =
        let (kind, (m, there, against)) = row_11 is in
        disagrees (rm_who p e (row_7 is) (omega arith)) m (m, member_at _ _ m there, refl) against
