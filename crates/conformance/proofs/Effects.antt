-- What `Action`, `Acted` and `Copies` say: the published module's own actions, who acts, and bytes without a choice.
--     role_states       each role's part of the state is the record's
--     action_kinds      the action of each kind, in the module's words
--     acted_action      an accepted call does its kind's action
--     acted_members     the process, the instance and the ballot of an accepted call are those that the plan allows
--     copies_one, heard_exactly     a receipt leaves one record, and which
-- That `Acted` leaves one record is `acted_one` of Theorems.antt. Assumes nothing.
pub mod Laws
use Rattle.std.specs.Prelude.{ℕ, ◌≤◌, ◌<◌, true, List, ◌⊎◌, ◌↔◌, ◌≡◌, refl}
use Rattle.std.proofs.Common.{sym, ◌∙◌, ap₂}
use Rattle.message.specs.declared.Plan.{Plan}
use Rattle.message.specs.declared.Message as Wire
use Rattle.message.specs.declared.Message.TheVariants.{Phase1a, Phase2a}
use Rattle.message.specs.Outcome.{Outcome, accepted}
use Rattle.message.proofs.Outcome.Laws.{accepted_inj}
use Rattle.slots.specs.Table.{messages}
use Rattle.slots.specs.Send.{message_at}
use Rattle.event.specs.Event.{kind_of, who_of, high_of, low_of, slot_number}
use Rattle.change.specs.declared.Sent.{Sent}
use Rattle.inbox.specs.Inbox.{decided}
use Rattle.summary.specs.Summary.{marked}
use Rattle.leader.specs.Leader.{owns, stands}
use Rattle.record.specs.Record.{Tables, with_inboxes, with_summary, inbox_of, with_inbox}
use Rattle.paxos_commit.specs.PaxosCommit as Module
use Rattle.paxos_commit.specs.PaxosCommit.{State, Message, Commit, Abort}
use Rattle.matching.specs.Reading.{is_rm, is_acceptor, is_majority_set, val_of, message_of, set_of, rm_state_of, a_state_of}
use Rattle.matching.specs.Rm as Rm
use Rattle.matching.specs.Acceptor as Acceptor
use Rattle.matching.specs.Leader as Leader
use Rattle.matching.specs.Leader.Decided.{value_number}
use Rattle.conformance.specs.Record.{record_state, own_inbox, heard, Acted}
use Rattle.conformance.proofs.Record.Determined.{stores_one}
use Rattle.conformance.specs.Action.{Action, Copies}
use Rattle.conformance.proofs.Action.Laws.{action_acted}
use Rattle.conformance.proofs.Effects.Laws.{receives_either, members_acted}

module _ (p : Plan) (t : Tables) where
  pub role_states :
      (Rm.state_of p t.states t.network (a_state_of p t.votes) ≡ record_state p t)
      × (Acceptor.state_of p t.votes t.network (rm_state_of t.states) ≡ record_state p t)
      × (Leader.state_of p t.network (rm_state_of t.states) (a_state_of p t.votes) ≡ record_state p t)
  role_states = (refl, refl, refl)

module _ (p : Plan) (t : Tables) (e : List ℕ) where
  module _ (s s' : State) where
    pub action_kinds : Action p t e s s'
        → (kind_of e ≡ 0 → Module.RMPrepare (is_rm p) (is_acceptor p) (is_majority_set p) (who_of e) s s')
        × (kind_of e ≡ 1 → Module.RMChooseToAbort (is_rm p) (is_acceptor p) (is_majority_set p) (who_of e) s s')
        × (kind_of e ≡ 2 → (m : Wire.Message) × (message_at (messages p t.network) (slot_number e) ≡ accepted m)
        × (((message_of m ≡ Commit) × Module.RMRcvCommitMsg (is_rm p) (is_acceptor p) (is_majority_set p) (who_of e) s s')
        ⊎ ((message_of m ≡ Abort) × Module.RMRcvAbortMsg (is_rm p) (is_acceptor p) (is_majority_set p) (who_of e) s s')))
        × (kind_of e ≡ 3
        → ((ins bal : ℕ) × (message_at (messages p t.network) (slot_number e) ≡ accepted (Phase1a ins bal))
        × Module.Phase1bOn (is_rm p) (is_acceptor p) (is_majority_set p) (who_of e) ins bal s s')
        ⊎ ((ins bal val : ℕ) × (message_at (messages p t.network) (slot_number e) ≡ accepted (Phase2a ins bal val))
        × Module.Phase2bOn (is_rm p) (is_acceptor p) (is_majority_set p) (who_of e) ins bal (val_of val) s s'))
        × (kind_of e ≡ 4 → (s'.rm_state ≡ s.rm_state) × (s'.a_state ≡ s.a_state) × ((x : Message) → s'.msgs x ↔ s.msgs x))
        × (kind_of e ≡ 5 → Module.Phase1a (is_rm p) (is_acceptor p) (is_majority_set p) (low_of e) (high_of e) s s')
        × (kind_of e ≡ 6
        → Module.Phase2aFrom (is_rm p) (is_acceptor p) (is_majority_set p) (set_of (messages p (inbox_of p t.inboxes (who_of e)))) (low_of e) (high_of e) s s')
        × (kind_of e ≡ 7
        → Module.DecideCommitWhere (is_rm p) (is_acceptor p) (is_majority_set p)
        (λ rm v. stands (inbox_of p t.summary (who_of e)) rm (value_number v) ≡ true) s s')
        × (kind_of e ≡ 8
        → Module.DecideAbortWhere (is_rm p) (is_acceptor p) (is_majority_set p)
        (λ rm v. stands (inbox_of p t.summary (who_of e)) rm (value_number v) ≡ true) s s')
    action_kinds a = (
      a.kind_0,
      a.kind_1,
      λ kind. receives_either p t e s s' (a.kind_2 kind),
      a.kind_3,
      a.kind_4,
      a.kind_5,
      a.kind_6,
      a.kind_7,
      a.kind_8,
    )

  pub acted_action : (answer : Outcome Sent) (u : Tables) → Acted p t e answer u → Action p t e (record_state p t) (record_state p u)
  acted_action = action_acted p t e

  pub acted_members : (answer : Outcome Sent) (u : Tables) → Acted p t e answer u
      → (kind_of e ≤ 2 → who_of e < p.rms)
      × (kind_of e ≡ 3 → who_of e < p.acceptors)
      × (3 < kind_of e → who_of e < p.leaders)
      × ((kind_of e ≡ 5) ⊎ (kind_of e ≡ 6) → (high_of e < p.rms) × (owns p (who_of e) (low_of e) ≡ true))
  acted_members answer u acted = members_acted p t e acted

  pub copies_one : (u v : Tables) → Copies p t e u → Copies p t e v → u ≡ v
  copies_one u v (m, held, taken, (box, h, is)) (n, holds, also, (case, k, was)) =
      let same : m ≡ n = accepted_inj (sym held ∙ holds) in
      let one = stores_one p (own_inbox p t e) n (rw same at h) k in
      is ∙ ap₂ (heard p t e) same one ∙ sym was

  -- the tables that it leaves: the leader's inbox, its bytes of the summary marked, and no other byte
  pub heard_exactly : (m : Wire.Message) (inbox : List ℕ)
      → heard p t e m inbox
      ≡ with_summary (with_inboxes t (with_inbox p t.inboxes (who_of e) inbox))
      (with_inbox p t.summary (who_of e) (marked (decided p (messages p inbox)) (inbox_of p t.summary (who_of e)) m))
  heard_exactly m inbox = refl
