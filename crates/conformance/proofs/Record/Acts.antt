-- What an accepted event call does: the role's theorem for the kind, on the whole record.
--     rm_acts, acceptor_acts, leader_acts     by role
--     acts                                    for every accepted call
-- Assumes nothing.
use Rattle.std.specs.Prelude.{ℕ, ◌≤◌, ◌<◌, true, List, ◌⊎◌, ◌≡◌, refl}
use Rattle.std.proofs.Common.{inl, inr, sym, ◌∙◌, ap, ap₂, arith}
use Rattle.std.proofs.Math.Decide.{ℕ_discrete}
use Rattle.std.proofs.lemmas.Bool.{not-false}
use Rattle.message.specs.declared.Plan.{Plan}
use Rattle.message.specs.declared.Message as Wire
use Rattle.message.specs.declared.Message.TheVariants.{Phase1a, Phase1b, Phase2a, Phase2b, Decision}
use Rattle.message.specs.Outcome.{accepted, and_then}
use Rattle.message.proofs.Outcome.Laws.{accepted_not_refused, refuse_if_accepted}
use Rattle.slots.specs.Table.{messages}
use Rattle.slots.specs.Send.{message_at}
use Rattle.slots.specs.View.{View, view_table}
use Rattle.change.specs.declared.Sent.{Sent}
use Rattle.change.specs.declared.Change.{Change}
use Rattle.event.specs.Event.{kind_of, who_of, high_of, low_of, slot_number, is_event}
use Rattle.event.specs.Event.Laws.{event_parts, rm_who, acceptor_who, leader_who, event_instance}
use Rattle.tcommit.specs.RmState.{committed, aborted}
use Rattle.paxos_commit.specs.PaxosCommit.{AState, Commit, Abort}
use Rattle.acceptor.specs.Acceptor.{acceptor_receive}
use Rattle.leader.specs.Leader.{owns, stands, receipt, phase1a, phase2a_message, send_both, phase2a, leader_kind}
use Rattle.inbox.specs.Inbox.{decided}
use Rattle.summary.specs.Summary.{marked}
use Rattle.record.specs.Record.{Tables, with_states, with_votes, with_network, with_inboxes, with_summary, with_inbox, RecordStep, on_states, on_votes, record_step}
use Rattle.record.specs.Record.Parts.{with_own}
use Rattle.matching.specs.Reading.{message_of, rm_state_of, a_state_of}
use Rattle.matching.specs.Call.{Accepted}
use Rattle.matching.proofs.Call.Laws.{and_then_accepted}
use Rattle.matching.proofs.Rm.Laws as Rm
use Rattle.matching.specs.Acceptor.{InSlot}
use Rattle.matching.proofs.Acceptor.Laws as Acceptor
use Rattle.matching.specs.Leader.{is_received}
use Rattle.matching.proofs.Leader.Took as LeaderTook
use Rattle.matching.proofs.Leader.Own as LeaderOwn
use Rattle.matching.proofs.Theorems as Match
use Rattle.conformance.specs.Record.{own_inbox, own_summary, on_own, heard, Acted, prepares, chooses_to_abort, receives_commit, receives_abort, promises, casts_vote}
use Rattle.conformance.specs.Record.{receives, opens_ballot, proposes, commits, aborts}
use Rattle.conformance.proofs.Record.Steps.{Role, rm, acceptor, leader, role_of, rm_part, acceptor_part, leader_part}
use Rattle.conformance.proofs.Record.Steps.{role_rm, role_acceptor, role_leader, Taken, taken}

-- a leader takes only 1b and 2b messages, and a 2a at ballot 0
received : (box : View) (m : Wire.Message) (change : Change) → receipt box m ≡ accepted change → is_received m ≡ true
unfolding receipt
received box (Phase1a ins bal) change e = absurd (accepted_not_refused e)
received box (Phase1b ins acc mbal vote) change e = refl
received box (Phase2a ins bal val) change e = not-false _ (refuse_if_accepted _ _ _ _ e).0
received box (Phase2b ins acc bal val) change e = refl
received box (Decision val) change e = absurd (accepted_not_refused e)

module _ (p : Plan) (t : Tables) (e : List ℕ) where
  -- what a step of the record does
  abbrev Does : RecordStep → Type 0
  Does r = Acted p t e r.answer r.tables

  abbrev q : ℕ → ℕ → AState
  q = a_state_of p t.votes

  abbrev w : ℕ → ℕ
  w = rm_state_of t.states

  rm_acts : is_event p e ≡ true → kind_of e ≤ 2 → Accepted (rm_part p t e).answer → Does (on_states t (rm_part p t e))
  rm_acts event small ok = go (ℕ_discrete (kind_of e) 0) (ℕ_discrete (kind_of e) 1)
    where
      who : who_of e < p.rms
      who = rm_who p e event small

      took : Rm.Took p t.states t.network e
      took = Rm.took p t.states t.network e ok

      with_states_lem : {w : List ℕ} → (rm_part p t e).table ≡ w
          → (on_states t (rm_part p t e)).tables ≡ with_network (with_states t w) (rm_part p t e).network
      with_states_lem is = ap (λ (w : List ℕ). with_network (with_states t w) (rm_part p t e).network) is

      with_both : {w : List ℕ} → (rm_part p t e).table ≡ w → (rm_part p t e).network ≡ t.network → (on_states t (rm_part p t e)).tables ≡ with_states t w
      with_both is kept = ap₂ (λ (w n : List ℕ). with_network (with_states t w) n) is kept

      go : Dec (kind_of e ≡ 0) → Dec (kind_of e ≡ 1) → Does (on_states t (rm_part p t e))
      go (yes k) d = let (a, s, w) = Match.rm_prepare p t.states t.network e q ok k in prepares k who a s (with_states_lem w)
      go (no n) (yes k) =
          let (a, s, w) = Match.rm_choose_to_abort p t.states t.network e q ok k in chooses_to_abort k who a s (with_states_lem w)
      go (no n) (no l) =
          let two : kind_of e ≡ 2 = omega (arith, n, l) in
          let (m, at, learnt, s) = Rm.receive_acts p t.states t.network e q took two in by two m at learnt
        where
          by : kind_of e ≡ 2 → (m : Wire.Message) → InSlot p t.network e m
              → ((message_of m ≡ Commit) × Rm.Learnt p t.states t.network e q committed (rm_part p t e))
              ⊎ ((message_of m ≡ Abort) × Rm.Learnt p t.states t.network e q aborted (rm_part p t e)) → Does (on_states t (rm_part p t e))
          by two m at (inl (is, l)) =
              let (a, quiet, w, n) = Match.rm_receive_commit p t.states t.network e q ok two m at is in
              receives_commit two who (m, at, is) a quiet (with_both w n)
          by two m at (inr (is, l)) =
              let (a, quiet, w, n) = Match.rm_receive_abort p t.states t.network e q ok two m at is in
              receives_abort two who (m, at, is) a quiet (with_both w n)

  acceptor_acts : is_event p e ≡ true → kind_of e ≡ 3 → Accepted (acceptor_part p t e).answer → Does (on_votes t (acceptor_part p t e))
  unfolding acceptor_receive
  acceptor_acts event kind ok =
      let took = Acceptor.took p t.votes t.network e ok in
      let (m, at, got) = and_then_accepted _ (acceptor_receive p t.votes (view_table p t.network) (who_of e)) _ took.verdict in
      go m at took.change got
    where
      who : who_of e < p.acceptors
      who = acceptor_who p e event kind

      with_votes_lem : {v : List ℕ} → (acceptor_part p t e).table ≡ v
          → (on_votes t (acceptor_part p t e)).tables ≡ with_network (with_votes t v) (acceptor_part p t e).network
      with_votes_lem is = ap (λ (v : List ℕ). with_network (with_votes t v) (acceptor_part p t e).network) is

      go : (m : Wire.Message) → InSlot p t.network e m → (change : Change)
          → acceptor_receive p t.votes (view_table p t.network) (who_of e) m ≡ accepted change → Does (on_votes t (acceptor_part p t e))
      go (Phase1a ins bal) at change got =
          let (a, s, v) = Match.acceptor_phase1b p t.votes t.network e w ok ins bal at in promises kind who ins bal at a s (with_votes_lem v)
      go (Phase1b ins acc mbal vote) at change got = absurd (accepted_not_refused got)
      go (Phase2a ins bal val) at change got =
          let (a, s, v) = Match.acceptor_phase2b p t.votes t.network e w ok ins bal val at in casts_vote kind who ins bal val at a s (with_votes_lem v)
      go (Phase2b ins acc bal val) at change got = absurd (accepted_not_refused got)
      go (Decision val) at change got = absurd (accepted_not_refused got)

  leader_acts : Taken p t e → 3 < kind_of e → Accepted (leader_part p t e).step.answer → Does (on_own p (who_of e) t (leader_part p t e))
  unfolding leader_kind phase1a phase2a phase2a_message
  leader_acts sure large ok = go (ℕ_discrete (kind_of e) 4) (ℕ_discrete (kind_of e) 5) (ℕ_discrete (kind_of e) 6) (ℕ_discrete (kind_of e) 7)
    where
      who : who_of e < p.leaders
      who = leader_who p e sure.event_is large

      took : LeaderTook.Took p (stands (own_summary p t e)) (own_inbox p t e) t.network e
      took = LeaderOwn.own_took p (own_inbox p t e) (own_summary p t e) t.network e ok

      -- the summary keeps its bytes
      same_summary : (kind_of e ≡ 4 → ⊥) → with_inbox p t.summary (who_of e) (leader_part p t e).summary ≡ t.summary
      same_summary other =
          ap (with_inbox p t.summary (who_of e)) (Match.leader_unmarked p (own_inbox p t e) (own_summary p t e) t.network e ok other)
          ∙ with_own p t.summary (who_of e)

      with_inbox_lem : (kind_of e ≡ 4 → ⊥)
          → (on_own p (who_of e) t (leader_part p t e)).tables
          ≡ with_network (with_inboxes t (with_inbox p t.inboxes (who_of e) (leader_part p t e).step.table)) (leader_part p t e).step.network
      with_inbox_lem other =
          ap
          (with_summary
          (with_network (with_inboxes t (with_inbox p t.inboxes (who_of e) (leader_part p t e).step.table)) (leader_part p t e).step.network))
          (same_summary other)

      -- the inbox keeps its bytes, and so does I
      same_inboxes : (kind_of e ≡ 4 → ⊥) → (leader_part p t e).step.table ≡ own_inbox p t e
          → (on_own p (who_of e) t (leader_part p t e)).tables ≡ with_network t (leader_part p t e).step.network
      same_inboxes other is =
          with_inbox_lem other
          ∙ ap (λ (i : List ℕ). with_network (with_inboxes t i) (leader_part p t e).step.network)
          (ap (with_inbox p t.inboxes (who_of e)) is ∙ with_own p t.inboxes (who_of e))

      marked_tables : (m : Wire.Message) → (leader_part p t e).step.network ≡ t.network
          → (leader_part p t e).summary ≡ marked (decided p (messages p (leader_part p t e).step.table)) (own_summary p t e) m
          → (on_own p (who_of e) t (leader_part p t e)).tables
          ≡ heard p t e m (leader_part p t e).step.table
      marked_tables m network summary =
          ap₂ (λ (n s : List ℕ).
          with_summary (with_network (with_inboxes t (with_inbox p t.inboxes (who_of e) (leader_part p t e).step.table)) n)
          (with_inbox p t.summary (who_of e) s))
          network summary

      owned_1a : kind_of e ≡ 5 → owns p (who_of e) (low_of e) ≡ true
      owned_1a kind =
          let got : phase1a p (view_table p t.network) (who_of e) (high_of e) (low_of e) ≡ accepted took.change = rw kind at took.verdict in
          not-false _ (refuse_if_accepted _ _ _ _ got).0

      owned_2a : kind_of e ≡ 6 → owns p (who_of e) (low_of e) ≡ true
      owned_2a kind =
          let box : View = view_table p (own_inbox p t e) in
          let got : phase2a p box (view_table p t.network) (who_of e) (high_of e) (low_of e) ≡ accepted took.change = rw kind at took.verdict in
          let (m, is, sent)
          = and_then_accepted (phase2a_message p box.messages (who_of e) (high_of e) (low_of e)) (send_both box (view_table p t.network)) _ got in
          not-false _ (refuse_if_accepted _ _ _ _ is).0

      receipt_acts : kind_of e ≡ 4 → Does (on_own p (who_of e) t (leader_part p t e))
      receipt_acts kind =
          let got : and_then (message_at (messages p t.network) (slot_number e)) (receipt (view_table p (own_inbox p t e))) ≡ accepted took.change
          = rw kind at took.verdict in
          let (m, at, is) = and_then_accepted _ (receipt (view_table p (own_inbox p t e))) _ got in
          let (quiet, n, stores, marks) = Match.leader_receipt p (own_inbox p t e) (own_summary p t e) t.network e w q ok kind m at in
          receives kind who m at (received _ m _ is) quiet (leader_part p t e).step.table stores (marked_tables m n marks)

      go : Dec (kind_of e ≡ 4) → Dec (kind_of e ≡ 5) → Dec (kind_of e ≡ 6) → Dec (kind_of e ≡ 7) → Does (on_own p (who_of e) t (leader_part p t e))
      go (yes k) d5 d6 d7 = receipt_acts k
      go (no n4) (yes k) d6 d7 =
          let (a, s, i) = Match.leader_phase1a p (own_inbox p t e) (own_summary p t e) t.network e w q ok k in
          opens_ballot k who (event_instance p e sure.event_is (omega arith) (omega arith)) (owned_1a k) a s (same_inboxes (λ four. omega arith) i)
      go (no n4) (no n5) (yes k) d7 =
          let (a, is, s, stores) = Match.leader_phase2a p (own_inbox p t e) (own_summary p t e) t.network e w q ok k in
          proposes k who (event_instance p e sure.event_is (omega arith) (omega arith)) (owned_2a k) a is s (leader_part p t e).step.table stores (with_inbox_lem (λ four. omega arith))
      go (no n4) (no n5) (no n6) (yes k) =
          let (a, s, i) = Match.leader_commit p (own_inbox p t e) (own_summary p t e) t.network e w q ok k in commits k who a s (same_inboxes (λ four. omega arith) i)
      go (no n4) (no n5) (no n6) (no n7) =
          let last = (event_parts p e sure.event_is).kind in
          let k : kind_of e ≡ 8 = omega arith in
          let (a, s, i) = Match.leader_abort p (own_inbox p t e) (own_summary p t e) t.network e w q ok k in aborts k who a s (same_inboxes (λ four. omega arith) i)

  pub acts : (sent : Sent) → (record_step p t e).answer ≡ accepted sent → Does (record_step p t e)
  acts sent is = let sure = taken p t e sent is in go sure (role_of e)
    where
      go : Taken p t e → Role e → Does (record_step p t e)
      go sure (rm h) =
          let same = sure.is_role ∙ role_rm p t e h in
          rw same (rm_acts sure.event_is h (sent, ap (λ (r : RecordStep). r.answer) (sym same) ∙ is))
      go sure (acceptor h) =
          let same = sure.is_role ∙ role_acceptor p t e h in
          rw same (acceptor_acts sure.event_is h (sent, ap (λ (r : RecordStep). r.answer) (sym same) ∙ is))
      go sure (leader h) =
          let same = sure.is_role ∙ role_leader p t e sure.tables sure.right sure.event_is h in
          rw same (leader_acts sure h (sent, ap (λ (r : RecordStep). r.answer) (sym same) ∙ is))
