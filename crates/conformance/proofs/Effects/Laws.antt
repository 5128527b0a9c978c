-- The cases behind Effects.antt.
--     receives_either     the decision in the event's slot, and its receipt
--     members_acted       who acts in each case of `Acted`
-- Assumes nothing.
use Rattle.std.specs.Prelude.{ℕ, ◌≤◌, ◌<◌, true, List, ◌⊎◌, ◌≡◌}
use Rattle.std.proofs.Common.{inl, inr, ⊎_elim, arith}
use Rattle.message.specs.declared.Plan.{Plan}
use Rattle.message.specs.declared.Message as Wire
use Rattle.message.specs.Outcome.{Outcome, accepted}
use Rattle.slots.specs.Table.{messages}
use Rattle.slots.specs.Send.{message_at}
use Rattle.event.specs.Event.{kind_of, who_of, high_of, low_of, slot_number}
use Rattle.change.specs.declared.Sent.{Sent}
use Rattle.leader.specs.Leader.{owns}
use Rattle.record.specs.Record.{Tables}
use Rattle.paxos_commit.specs.PaxosCommit as Module
use Rattle.paxos_commit.specs.PaxosCommit.{State, Commit, Abort}
use Rattle.matching.specs.Reading.{is_rm, is_acceptor, is_majority_set, message_of}
use Rattle.matching.specs.Call.{SlotHolds}
use Rattle.conformance.specs.Record.{Acted}
use Rattle.conformance.specs.Record.{prepares, chooses_to_abort, receives_commit, receives_abort, promises, casts_vote, receives}
use Rattle.conformance.specs.Record.{opens_ballot, proposes, commits, aborts}

module _ (p : Plan) (t : Tables) (e : List ℕ) where
  -- the message in the event's slot of N
  abbrev InSlot : Wire.Message → Type 0
  InSlot m = message_at (messages p t.network) (slot_number e) ≡ accepted m

  module _ (s s' : State) where
    -- the decision in the slot, and its receipt
    abbrev Receives : Type 0
    Receives =
        (m : Wire.Message) × InSlot m
        × (((message_of m ≡ Commit) × Module.RMRcvCommitMsg (is_rm p) (is_acceptor p) (is_majority_set p) (who_of e) s s')
        ⊎ ((message_of m ≡ Abort) × Module.RMRcvAbortMsg (is_rm p) (is_acceptor p) (is_majority_set p) (who_of e) s s'))

    pub receives_either :
        (SlotHolds p t.network e (λ m. message_of m ≡ Commit) × Module.RMRcvCommitMsg (is_rm p) (is_acceptor p) (is_majority_set p) (who_of e) s s')
        ⊎ (SlotHolds p t.network e (λ m. message_of m ≡ Abort) × Module.RMRcvAbortMsg (is_rm p) (is_acceptor p) (is_majority_set p) (who_of e) s s')
        → Receives
    receives_either (inl ((m, held, is), h)) = (m, held, inl (is, h))
    receives_either (inr ((m, held, is), h)) = (m, held, inr (is, h))

  -- who the event names, and of kinds 5 and 6 the instance and the ballot
  abbrev pub Members : Type 0
  Members =
      (kind_of e ≤ 2 → who_of e < p.rms)
      × (kind_of e ≡ 3 → who_of e < p.acceptors)
      × (3 < kind_of e → who_of e < p.leaders)
      × ((kind_of e ≡ 5) ⊎ (kind_of e ≡ 6) → (high_of e < p.rms) × (owns p (who_of e) (low_of e) ≡ true))

  no_ballot : (kind_of e ≡ 5 → ⊥) → (kind_of e ≡ 6 → ⊥) → (kind_of e ≡ 5) ⊎ (kind_of e ≡ 6) → (high_of e < p.rms) × (owns p (who_of e) (low_of e) ≡ true)
  no_ballot five six = ⊎_elim (λ k. absurd (five k)) (λ k. absurd (six k))

  rm_members : kind_of e ≤ 2 → who_of e < p.rms → Members
  rm_members kind who = (λ k. who, λ k. absurd (omega arith), λ k. absurd (omega arith), no_ballot (λ k. omega arith) (λ k. omega arith))

  acceptor_members : kind_of e ≡ 3 → who_of e < p.acceptors → Members
  acceptor_members kind who = (λ k. absurd (omega arith), λ k. who, λ k. absurd (omega arith), no_ballot (λ k. omega arith) (λ k. omega arith))

  leader_members : 3 < kind_of e → who_of e < p.leaders
      → ((kind_of e ≡ 5) ⊎ (kind_of e ≡ 6) → (high_of e < p.rms) × (owns p (who_of e) (low_of e) ≡ true)) → Members
  leader_members kind who ballot = (λ k. absurd (omega arith), λ k. absurd (omega arith), λ k. who, ballot)

  pub members_acted : {answer : Outcome Sent} {u : Tables} → Acted p t e answer u → Members
  members_acted (prepares kind rm acts sent same) = rm_members (omega arith) rm
  members_acted (chooses_to_abort kind rm acts sent same) = rm_members (omega arith) rm
  members_acted (receives_commit kind rm slot acts is same) = rm_members (omega arith) rm
  members_acted (receives_abort kind rm slot acts is same) = rm_members (omega arith) rm
  members_acted (promises kind acc ins bal slot acts sent same) = acceptor_members kind acc
  members_acted (casts_vote kind acc ins bal val slot acts sent same) = acceptor_members kind acc
  members_acted (receives kind member m slot taken is box stores same) =
      leader_members (omega arith) member (no_ballot (λ k. omega arith) (λ k. omega arith))
  members_acted (opens_ballot kind member rm owned acts sent same) = leader_members (omega arith) member (λ k. (rm, owned))
  members_acted (proposes kind member rm owned acts is sent box stores same) = leader_members (omega arith) member (λ k. (rm, owned))
  members_acted (commits kind member acts sent same) = leader_members (omega arith) member (no_ballot (λ k. omega arith) (λ k. omega arith))
  members_acted (aborts kind member acts sent same) = leader_members (omega arith) member (no_ballot (λ k. omega arith) (λ k. omega arith))
