-- Demand 2, role by role, and document 01's sentence "The lowest number that applies is returned". For each role's own call:
--     *_answers       the answer is refused with k exactly where row k applies and none with a lower number does (of a leader: where it is the
--                     first row that applies), and accepted exactly where no row applies; row 12 is that the published action is not enabled
--     *_keeps         a refused call leaves both tables as they were, and the summary
--     *_sound         well-formed tables stay well formed, of the same lengths, and so does the summary
--     and for each action: an accepted call sets what the published action sets; the sent message, the answered slot and every byte are given.
--     plain_answers_lem   the leader's call without a summary, which reads what is decided or declined from its inbox, answers by document 01's rows
--     inbox_says, announced_in     what it so reads, as a test of the inbox and as a claim
--     leader_unmarked     a kind other than 4 leaves the summary as it was (what kind 4 leaves is in leader_receipt)
--     majorities_meet     a plan's majorities are as document 001 assumes them, so the theorems of paxos_commit hold at every plan
--     readable_messages   a message in range is one of document 001's set Message
--     well_formed         rows 5 and 6 in terms of messages
--     rm_member, acceptor_member, leader_member, leader_instance     the process and the instance of an accepted event are the plan's
--     leader_proposal, one_owner     the value that a leader proposes; the ballots that it owns
--     constants_mean, reports_exactly     what a plan's constants are; what a report is
-- Each action is at the plan's constants; the variables that are no business of the role (`a_state`, `rm_state`) are any.
-- Assumes nothing.
use Rattle.std.specs.Prelude.{ℕ, ◌+◌, ◌≤◌, ◌<◌, List, ◌∷◌, ◌++◌, ◌⊎◌, ◌↔◌, ◌≡◌, length, set, Bool, true, ◌||◌}
use Rattle.std.proofs.Math.Path.{refl}
use Rattle.message.specs.declared.Plan.{Plan}
use Rattle.message.specs.declared.Message as Wire
use Rattle.message.specs.declared.Message.TheVariants.{Phase1a, Phase2a, Phase2b, Phase1b, Decision}
use Rattle.message.specs.Outcome.{accepted, refused}
use Rattle.message.specs.Rows.{Lowest, InOrder}
use Rattle.message.proofs.Rows.Laws.{is_ascending, lowest_of_ruled, in_order_of_ruled}
use Rattle.slots.specs.Table.{is_table_length, is_table, messages}
use Rattle.slots.specs.Send.{message_at}
use Rattle.change.specs.declared.Sent.TheVariants.{Quiet}
use Rattle.change.specs.Change.{Step}
use Rattle.event.specs.Event.{kind_of, who_of, slot_number, high_of, low_of}
use Rattle.tcommit.specs.RmState.{prepared, committed, aborted}
use Rattle.paxos_commit.specs.PaxosCommit.{Assume, IsMessage, Commit, Abort, AState, State, Val, Message, phase2a}
use Rattle.paxos_commit.specs.PaxosCommit as Source
use Rattle.paxos_commit.proofs.Words.{announced_words}
use Rattle.rm.specs.Rm.{rm_judged, rm_step}
use Rattle.acceptor.specs.Acceptor.{vote_at, acceptor_judged, acceptor_step}
use Rattle.event.specs.Event.Laws.{rm_who, acceptor_who, leader_who, event_instance}
use Rattle.message.specs.Form.{is_in_range, cast_vote}
use Rattle.matching.specs.Reading.{is_rm, is_acceptor, is_majority_set, val_of, message_of, set_of}
use Rattle.matching.proofs.Reading.Laws.{plan_assumes, range_is_message}
use Rattle.matching.specs.Call.{Accepted, HeldBy, Sends, Stores}
use Rattle.matching.proofs.Call.Laws.{table_form, tables_kept}
use Rattle.matching.specs.Rm.{RMPrepare, RMChooseToAbort, RMRcvCommitMsg, RMRcvAbortMsg, state_of, rm_rows}
use Rattle.matching.proofs.Rm.Ruled.{rm_ruled}
use Rattle.matching.proofs.Rm.Laws as Rm
use Rattle.matching.specs.Acceptor.{Phase1bAction, Phase2bAction, state_of as acceptorState, report_of, acceptor_rows}
use Rattle.matching.proofs.Acceptor.Ruled.{acceptor_ruled}
use Rattle.matching.proofs.Acceptor.Laws as Acceptor
use mathlib.Core.List.{Memᴰ}
use Rattle.quorum.specs.Quorum.{is_quorum}
use Rattle.message.specs.Plan.{is_plan}
use Rattle.inbox.specs.Inbox.{any, decided}
use Rattle.summary.specs.Summary.{is_decline, marked, decided_or_declined}
use Rattle.summary.specs.Summary.Laws.{announced_prepared, announced_aborted}
use Rattle.leader.specs.Leader.{owns, leader_judged, is_summary, stands, leader_step_by, LeaderStep, leader_step}
use Rattle.matching.specs.Leader.{Phase1aAction, Phase2aAction, CommitBy, AbortBy, DecidedIn, DecidedOrDeclinedIn, proposed, Reports, leader_rows_by, leader_rows}
use Rattle.matching.specs.Leader.{state_of as leaderState}
use Rattle.matching.specs.Leader.Decided.{DecidedBy}
use Rattle.matching.proofs.Leader.Decided.{reflects_by}
use Rattle.matching.proofs.Leader.Declined.{reflects_inbox}
use Rattle.matching.proofs.Leader.Ruled.{leader_ruled}
use Rattle.matching.proofs.Leader.Laws as Leader
use Rattle.matching.proofs.Leader.Own as Own

-- Decided, or for aborted the 2a of ballot 0 by which weight i declines: by the messages of an inbox, and by a set of messages
pub inbox_says : (p : Plan) (ms : List Wire.Message) (i : ℕ)
    → (decided_or_declined p ms i 1 ≡ decided p ms i 1) × (decided_or_declined p ms i 2 ≡ (decided p ms i 2 || any (is_decline i) ms))
inbox_says p ms i = (announced_prepared p ms i, announced_aborted p ms i)

pub announced_in : (p : Plan) (seen : Message → Type 0) (i : ℕ)
    → (DecidedOrDeclinedIn p seen i Source.prepared ↔ DecidedIn p seen i Source.prepared)
    × (DecidedOrDeclinedIn p seen i Source.aborted ↔ (DecidedIn p seen i Source.aborted ⊎ seen (phase2a i 0 Source.aborted)))
announced_in p = announced_words (is_rm p) (is_acceptor p) (is_majority_set p)

-- module PaxosCommit's ASSUME at a plan's constants
pub majorities_meet : (p : Plan) → Assume (is_rm p) (is_acceptor p) (is_majority_set p)
majorities_meet = plan_assumes

pub readable_messages : (p : Plan) (m : Wire.Message) → is_in_range p m ≡ true → IsMessage (is_rm p) (is_acceptor p) (is_majority_set p) (message_of m)
readable_messages = range_is_message

-- rows 5 and 6: a table is well formed exactly where its bytes are the slots of messages in range, then unused ones
pub well_formed : (p : Plan) (t : List ℕ) → is_plan p ≡ true → is_table_length (length t) ≡ true
    → (is_table p t ≡ true) ↔ ((ms : List Wire.Message) × HeldBy p t ms)
well_formed = table_form

module _ (p : Plan) (states network e : List ℕ) where
  abbrev rm : Step
  rm = rm_step p states network e

  pub rm_keeps : (k : ℕ) → rm.answer ≡ refused k → (rm.table ≡ states) × (rm.network ≡ network)
  rm_keeps k is = tables_kept (Rm.keeps p states network e k is)

  pub rm_sound : rm_judged p states network ≡ accepted tt
      → (rm_judged p rm.table rm.network ≡ accepted tt) × (length rm.table ≡ length states) × (length rm.network ≡ length network)
  rm_sound = Rm.stays_sound p states network e

  pub rm_member : Accepted rm.answer → is_rm p (who_of e)
  rm_member taken = let t = Rm.took p states network e taken in rm_who p e t.event t.small

  module _ (a_state : ℕ → ℕ → AState) where
    pub rm_answers : Lowest (rm_rows p states network e (state_of p states network a_state)) rm.answer
    unfolding is_ascending
    rm_answers = lowest_of_ruled _ refl _ (rm_ruled p states network e a_state)

    module _ (taken : Accepted rm.answer) where
      -- kind 0: RMPrepare; W changes at `who` alone, and 2a(who, 0, prepared) is sent
      pub rm_prepare : kind_of e ≡ 0
          → RMPrepare p (who_of e) (state_of p states network a_state) (state_of p rm.table rm.network a_state)
          × Sends p network (Phase2a (who_of e) 0 1) rm.answer rm.network
          × (rm.table ≡ set states (who_of e) prepared)
      rm_prepare kind = (Rm.prepare_acts p states network e a_state (Rm.took p states network e taken) kind).0

      -- kind 1: RMChooseToAbort
      pub rm_choose_to_abort : kind_of e ≡ 1
          → RMChooseToAbort p (who_of e) (state_of p states network a_state) (state_of p rm.table rm.network a_state)
          × Sends p network (Phase2a (who_of e) 0 2) rm.answer rm.network
          × (rm.table ≡ set states (who_of e) aborted)
      rm_choose_to_abort kind = (Rm.abort_acts p states network e a_state (Rm.took p states network e taken) kind).0

      -- kind 2: RMRcvCommitMsg or RMRcvAbortMsg, quiet; N keeps its bytes
      module _ (kind : kind_of e ≡ 2) (m : Wire.Message) (slot : message_at (messages p network) (slot_number e) ≡ accepted m) where
        pub rm_receive_commit : message_of m ≡ Commit
            → RMRcvCommitMsg p (who_of e) (state_of p states network a_state) (state_of p rm.table rm.network a_state)
            × (rm.answer ≡ accepted Quiet)
            × (rm.table ≡ set states (who_of e) committed)
            × (rm.network ≡ network)
        rm_receive_commit = Rm.commit_acts p states network e a_state (Rm.took p states network e taken) kind m slot

        pub rm_receive_abort : message_of m ≡ Abort
            → RMRcvAbortMsg p (who_of e) (state_of p states network a_state) (state_of p rm.table rm.network a_state)
            × (rm.answer ≡ accepted Quiet)
            × (rm.table ≡ set states (who_of e) aborted)
            × (rm.network ≡ network)
        rm_receive_abort = Rm.abort_msg_acts p states network e a_state (Rm.took p states network e taken) kind m slot

-- the acceptor; by rows 7 and 9 an accepted call is of kind 3, and its slot holds a 1a or a 2a
module _ (p : Plan) (votes network e : List ℕ) where
  abbrev acceptor : Step
  acceptor = acceptor_step p votes network e

  pub acceptor_keeps : (k : ℕ) → acceptor.answer ≡ refused k → (acceptor.table ≡ votes) × (acceptor.network ≡ network)
  acceptor_keeps k is = tables_kept (Acceptor.keeps p votes network e k is)

  pub acceptor_sound : acceptor_judged p votes network ≡ accepted tt
      → (acceptor_judged p acceptor.table acceptor.network ≡ accepted tt)
      × (length acceptor.table ≡ length votes)
      × (length acceptor.network ≡ length network)
  acceptor_sound = Acceptor.stays_sound p votes network e

  pub acceptor_member : Accepted acceptor.answer → is_acceptor p (who_of e)
  acceptor_member taken = let t = Acceptor.took p votes network e taken in acceptor_who p e t.event t.kind

  -- the first of the three bytes of Q of the instance and the acceptor: mbal, bal, val
  abbrev at : ℕ → ℕ
  at ins = vote_at p ins (who_of e)

  module _ (rm_state : ℕ → ℕ) where
    abbrev vote_state : List ℕ → List ℕ → State
    vote_state votes' network' = acceptorState p votes' network' rm_state

    pub acceptor_answers : Lowest (acceptor_rows p votes network e (vote_state votes network)) acceptor.answer
    unfolding is_ascending
    acceptor_answers = lowest_of_ruled _ refl _ (acceptor_ruled p votes network e rm_state)

    module _ (taken : Accepted acceptor.answer) where
      -- a 1a: Phase1b; mbal becomes its ballot, no other byte of Q changes, and a 1b with the acceptor's last vote is sent
      pub acceptor_phase1b : (ins bal : ℕ) → message_at (messages p network) (slot_number e) ≡ accepted (Phase1a ins bal)
          → Phase1bAction p (who_of e) ins bal (vote_state votes network) (vote_state acceptor.table acceptor.network)
          × Sends p network (report_of p votes (who_of e) ins bal) acceptor.answer acceptor.network
          × (acceptor.table ≡ set votes (at ins) bal)
      acceptor_phase1b ins bal slot = Acceptor.phase1b_acts p votes network e (Acceptor.took p votes network e taken) ins bal slot rm_state

      -- a 2a: Phase2b; mbal and bal become its ballot, val its value, and a 2b is sent
      pub acceptor_phase2b : (ins bal val : ℕ) → message_at (messages p network) (slot_number e) ≡ accepted (Phase2a ins bal val)
          → Phase2bAction p (who_of e) ins bal (val_of val) (vote_state votes network) (vote_state acceptor.table acceptor.network)
          × Sends p network (Phase2b ins (who_of e) bal val) acceptor.answer acceptor.network
          × (acceptor.table ≡ set (set (set votes (at ins) bal) (at ins + 1) bal) (at ins + 2) val)
      acceptor_phase2b ins bal val slot = Acceptor.phase2b_acts p votes network e (Acceptor.took p votes network e taken) ins bal val slot rm_state

-- a leader; `seen` is the set of messages in its inbox, and `own_stands` is what its bytes of the summary say is Decided
module _ (p : Plan) (inbox summary network e : List ℕ) where
  abbrev leader : LeaderStep
  leader = leader_step p inbox summary network e

  abbrev seen : Message → Type 0
  seen = set_of (messages p inbox)

  abbrev own_stands : ℕ → Val → Type 0
  own_stands = DecidedBy (stands summary)

  pub leader_keeps : (k : ℕ) → leader.step.answer ≡ refused k
      → (leader.step.table ≡ inbox) × (leader.step.network ≡ network) × (leader.summary ≡ summary)
  leader_keeps k is =
      let (step, same) = Own.own_keeps p inbox summary network e k is in
      let (box, net) = tables_kept step in
      (box, net, same)

  pub leader_sound : leader_judged p inbox network ≡ accepted tt
      → (leader_judged p leader.step.table leader.step.network ≡ accepted tt)
      × (length leader.step.table ≡ length inbox)
      × (length leader.step.network ≡ length network)
      × (length leader.summary ≡ length summary)
      × (is_summary p.rms summary ≡ true → is_summary p.rms leader.summary ≡ true)
  leader_sound sound = let (judged, l, n, (s, right)) = Own.own_sound p inbox summary network e sound in (judged, l, n, s, right)

  pub leader_member : Accepted leader.step.answer → who_of e < p.leaders
  leader_member taken = let t = Own.own_took p inbox summary network e taken in leader_who p e t.event t.least

  -- kinds 5 and 6
  pub leader_instance : Accepted leader.step.answer → 4 < kind_of e → kind_of e ≤ 6 → is_rm p (high_of e)
  leader_instance taken = event_instance p e (Own.own_took p inbox summary network e taken).event

  -- the 2a that kind 6 proposes: of several highest reports in the inbox the first
  pub leader_proposal : (xs ys : List Wire.Message) (a c v : ℕ) → messages p inbox ≡ xs ++ (Phase1b (high_of e) a (low_of e) (cast_vote c v) ∷ ys)
      → ((d : ℕ) → Reports xs (high_of e) (low_of e) d → d < c)
      → ((d : ℕ) → Reports ys (high_of e) (low_of e) d → d ≤ c)
      → proposed p inbox e ≡ Phase2a (high_of e) (low_of e) v
  leader_proposal = Leader.proposal_first p inbox e

  -- and aborted where no vote is reported
  pub leader_proposal_none : ((d : ℕ) → Reports (messages p inbox) (high_of e) (low_of e) d → ⊥)
      → proposed p inbox e ≡ Phase2a (high_of e) (low_of e) 2
  leader_proposal_none = Leader.proposal_none p inbox e

  pub leader_unmarked : Accepted leader.step.answer → (kind_of e ≡ 4 → ⊥) → leader.summary ≡ summary
  leader_unmarked = Own.own_keeps_summary p inbox summary network e

  module _ (rm_state : ℕ → ℕ) (a_state : ℕ → ℕ → AState) where
    pub leader_answers : InOrder (leader_rows p inbox summary network e (leaderState p network rm_state a_state)) leader.step.answer
    leader_answers = in_order_of_ruled _ _ (Own.own_ruled p inbox summary network e rm_state a_state)

    -- the call without a summary: Decide is widened by the declines in the inbox
    pub plain_answers_lem : Lowest (leader_rows_by p (DecidedOrDeclinedIn p seen) inbox network e (leaderState p network rm_state a_state))
        (leader_step_by p (decided_or_declined p (messages p inbox)) inbox network e).answer
    unfolding is_ascending
    plain_answers_lem =
        lowest_of_ruled _ refl _
        (leader_ruled p (decided_or_declined p (messages p inbox)) (DecidedOrDeclinedIn p seen) inbox network e (reflects_inbox p (messages p inbox))
        rm_state a_state)

    module _ (taken : Accepted leader.step.answer) where
      -- kind 4: quiet; N keeps its bytes, the inbox gains the message in the slot, and `marked` sets bits of the summary: a 2b for (i, v)
      -- that of v in byte i where Decided(i, v) holds in the inbox then, a 2a of (i, 0, aborted) that of aborted in byte i
      pub leader_receipt : kind_of e ≡ 4 → (m : Wire.Message) → message_at (messages p network) (slot_number e) ≡ accepted m
          → (leader.step.answer ≡ accepted Quiet)
          × (leader.step.network ≡ network)
          × Stores p inbox m leader.step.table
          × (leader.summary ≡ marked (decided p (messages p leader.step.table)) summary m)
      leader_receipt kind m slot =
          let own = Own.own_took p inbox summary network e taken in
          let (quiet, kept, stores) = rw (← Own.own_step p inbox summary network e taken) at (Leader.receipt_acts rm_state a_state own kind m slot) in
          (quiet, kept, stores, Own.own_marks p inbox summary network e taken kind m slot)

      -- kind 5: Phase1a
      pub leader_phase1a : kind_of e ≡ 5
          → Phase1aAction p (low_of e) (high_of e) (leaderState p network rm_state a_state) (leaderState p leader.step.network rm_state a_state)
          × Sends p network (Phase1a (high_of e) (low_of e)) leader.step.answer leader.step.network
          × (leader.step.table ≡ inbox)
      leader_phase1a kind =
          rw (Own.own_step p inbox summary network e taken)
          (Leader.phase1a_acts rm_state a_state (Own.own_took p inbox summary network e taken) kind).0

      -- kind 6: Phase2a, its conditions read from the inbox; what the action sends, what N gains and what the inbox gains is one message
      pub leader_phase2a : kind_of e ≡ 6
          → (acts : Phase2aAction p seen (low_of e) (high_of e) (leaderState p network rm_state a_state) (leaderState p leader.step.network rm_state a_state))
          × (phase2a (high_of e) (low_of e) acts.1.2 ≡ message_of (proposed p inbox e))
          × Sends p network (proposed p inbox e) leader.step.answer leader.step.network
          × Stores p inbox (proposed p inbox e) leader.step.table
      leader_phase2a kind =
          rw (Own.own_step p inbox summary network e taken)
          (Leader.phase2a_acts rm_state a_state (Own.own_took p inbox summary network e taken) kind).0

      -- kind 7: Decide to commit, by the summary
      pub leader_commit : kind_of e ≡ 7
          → CommitBy p own_stands (leaderState p network rm_state a_state) (leaderState p leader.step.network rm_state a_state)
          × Sends p network (Decision 1) leader.step.answer leader.step.network
          × (leader.step.table ≡ inbox)
      leader_commit kind =
          rw (Own.own_step p inbox summary network e taken)
          (Leader.commit_acts rm_state a_state (Own.own_took p inbox summary network e taken) own_stands (λ _. reflects_by (stands summary)) kind).0

      -- kind 8: Decide to abort, by the summary
      pub leader_abort : kind_of e ≡ 8
          → AbortBy p own_stands (leaderState p network rm_state a_state) (leaderState p leader.step.network rm_state a_state)
          × Sends p network (Decision 2) leader.step.answer leader.step.network
          × (leader.step.table ≡ inbox)
      leader_abort kind =
          rw (Own.own_step p inbox summary network e taken)
          (Leader.abort_acts rm_state a_state (Own.own_took p inbox summary network e taken) own_stands (λ _. reflects_by (stands summary)) kind).0

-- a ballot above 0 has exactly one owner among the leaders of the plan
pub one_owner : (p : Plan) → is_plan p ≡ true → (b : ℕ) → 0 < b
    → (l : ℕ) × (l < p.leaders) × (owns p l b ≡ true) × ((k : ℕ) → owns p k b ≡ true → k ≡ l)
one_owner = Leader.owner_one

-- ballot 0 has none
pub no_owner : (p : Plan) (l : ℕ) → owns p l 0 ≡ true → ⊥
no_owner = Leader.owner_none

-- a plan's constants: n resource managers, A acceptors, both from 0; a majority is a set of acceptors with 2 × size > A (`majority_rule`)
pub constants_mean : (p : Plan) (k : ℕ) (MS : ℕ → Bool)
    → (is_rm p k ↔ (k < p.rms))
    × (is_acceptor p k ↔ (k < p.acceptors))
    × (is_majority_set p MS ↔ (((ac : ℕ) → MS ac ≡ true → ac < p.acceptors) × (is_quorum p.acceptors MS ≡ true)))
constants_mean p k MS = ((λ h. h, λ h. h), (λ h. h, λ h. h), (λ h. h, λ h. h))

pub reports_exactly : (ms : List Wire.Message) (i b c : ℕ) → Reports ms i b c ↔ ((a v : ℕ) × Memᴰ (Phase1b i a b (cast_vote c v)) ms)
reports_exactly ms i b c = (λ h. h, λ h. h)
