-- What an accepted step of a resource manager sets.
--     Took, took            an accepted step: the tables were sound, the event is one of kinds 0 to 2, and this is its change
--     choose_acts, receive_acts       the published action, the sent message, the one byte of W
--     sound_after           well-formed tables stay so
-- Assumes nothing.
use Rattle.std.specs.Prelude.{ℕ, ◌≤◌, ◌<◌, Bool, true, false, cond, List, ◌⊎◌, ◌≡◌, eqb, length, get_or, set}
use Rattle.std.proofs.Math.Logic.{inl, inr}
use Rattle.std.proofs.Math.Path.{refl, sym, ap, subst, fun_ext}
use Rattle.std.proofs.Common.{◌∙◌, arith, lit≤, get_or-set_same, get_or-set_other, lt-ltb, ltb-false, eqb-true, le-leb}
use Rattle.std.proofs.Math.ListN.{length-set}
use Rattle.std.proofs.lemmas.Bool.{eqb-false, not-false}
use Rattle.message.specs.declared.Plan.{Plan}
use Rattle.message.specs.declared.Message as Wire
use Rattle.message.specs.declared.Message.TheVariants.{Phase1a, Phase1b, Phase2a, Phase2b, Decision}
use Rattle.message.specs.Outcome.{Outcome, accepted, refused, and_then, refuse_if}
use Rattle.message.proofs.Outcome.Laws.{accepted_inj, accepted_not_refused, refuse_if_accepted}
use Rattle.message.specs.Form.{is_value, is_in_range}
use Rattle.slots.proofs.All.Laws.{all_set}
use Rattle.slots.specs.Table.{is_table, messages}
use Rattle.slots.specs.Send.{message_at}
use Rattle.slots.specs.View.{view_table, store_bytes}
use Rattle.change.specs.declared.Change.{Change}
use Rattle.change.specs.declared.Sent.TheVariants.{Slot, Quiet}
use Rattle.change.specs.declared.Update.TheVariants as Updates
use Rattle.change.specs.declared.Sent.{Sent}
use Rattle.change.specs.Change.{Step, applied}
use Rattle.change.specs.Change.{refusal}
use Rattle.change.specs.Change.Laws.{refused_keeps}
use Rattle.event.specs.Event.{kind_of, who_of, slot_number, is_event}
use Rattle.event.specs.Event.Laws.{rm_who}
use Rattle.tcommit.specs.RmState.{working, prepared, committed, aborted}
use Rattle.tcommit.specs.TCommit.{except}
use Rattle.paxos_commit.specs.PaxosCommit as Source
use Rattle.paxos_commit.specs.PaxosCommit.{Commit, Abort, AState, State}
use Rattle.rm.specs.Rm.{are_states, rm_judged, rm_choose, rm_decided, rm_receive_decision, rm_receive, rm_kind, rm_verdict, rm_step}
use Rattle.rm.specs.Rm.Laws.{Sound, sound, judged}
use Rattle.matching.specs.Reading.{is_rm, is_acceptor, is_majority_set, val_of, message_of, rm_state_of}
use Rattle.matching.specs.Call.{Accepted, Sends}
use Rattle.matching.proofs.Call.Laws.{member_at, stored, applied_accepted, and_then_accepted, sending_accepted}
use Rattle.matching.specs.Rm.{state_of}
use Rattle.matching.proofs.Rm.Ruled.{Choose}

-- a byte of W written
set_state : (states : List ℕ) (who next : ℕ) → who < length states → rm_state_of (set states who next) ≡ except (rm_state_of states) who next
set_state states who next h = fun_ext (λ (rm : ℕ). go rm (eqb rm who) refl)
  where
    go : (rm : ℕ) (b : Bool) → eqb rm who ≡ b → get_or (set states who next) rm 0 ≡ cond b next (get_or states rm 0)
    go rm true e = rw (eqb-true rm who e) (get_or-set_same states who next 0 h)
    go rm false e = get_or-set_other states who rm next 0 (eqb-false rm who e)

-- an accepted step
pub record Took (p : Plan) (states network e : List ℕ) : Type 0 where
  pub tables : Sound p states network
  pub event : is_event p e ≡ true
  pub small : kind_of e ≤ 2
  pub change : Change
  pub verdict : rm_kind (view_table p network) (kind_of e) (who_of e) (get_or states (who_of e) 0) (slot_number e) ≡ accepted change
  pub step : rm_step p states network e ≡ applied p states network (accepted change)

pub took : (p : Plan) (states network e : List ℕ) → Accepted (rm_step p states network e).answer → Took p states network e
unfolding rm_step rm_verdict
took p states network e (a, is) =
    let c = applied_accepted p states network _ a is in
    let j = and_then_accepted (rm_judged p states network) (λ _. rm_verdict p states (view_table p network) e) c.0 c.1 in
    let plan = refuse_if_accepted _ _ _ _ j.2 in
    let event = refuse_if_accepted _ _ _ _ plan.1 in
    let small = refuse_if_accepted _ _ _ _ event.1 in
    record {
      tables = sound p states network j.1;
      event = not-false _ event.0;
      small = ltb-false _ _ small.0;
      change = c.0;
      verdict = small.1;
      step = ap (applied p states network) c.1;
    }

-- RMRcvCommitMsg and RMRcvAbortMsg alike: the decision m was sent, and is taken over
abbrev pub Receive : Plan → ℕ → ℕ → Source.Message → State → State → Type 0
Receive p rm next m s s' =
    s.msgs m
    × (s'.rm_state ≡ except s.rm_state rm next)
    × (s'.a_state ≡ s.a_state)
    × Source.UnchangedMsgs (is_rm p) (is_acceptor p) (is_majority_set p) s s'

-- a message that is taken is a decision: 1 is Commit, 2 Abort
decision_taken : (who state : ℕ) (m : Wire.Message) (change : Change) → rm_receive who state m ≡ accepted change
    → ((message_of m ≡ Commit) × (rm_decided who committed ≡ accepted change)) ⊎ ((message_of m ≡ Abort) × (rm_decided who aborted ≡ accepted change))
unfolding rm_receive rm_receive_decision
decision_taken who state (Phase1a ins bal) change e = absurd (accepted_not_refused e)
decision_taken who state (Phase1b ins acc mbal vote) change e = absurd (accepted_not_refused e)
decision_taken who state (Phase2a ins bal val) change e = absurd (accepted_not_refused e)
decision_taken who state (Phase2b ins acc bal val) change e = absurd (accepted_not_refused e)
decision_taken who state (Decision val) change e = go (eqb val 1) e
  where
    go : (b : Bool)
        → cond b
        (refuse_if (eqb state working) 11 (refuse_if (eqb state aborted) 11 (rm_decided who committed)))
        (refuse_if (eqb state committed) 11 (rm_decided who aborted))
        ≡ accepted change
        → ((cond b Commit Abort ≡ Commit) × (rm_decided who committed ≡ accepted change)) ⊎ ((cond b Commit Abort ≡ Abort) × (rm_decided who aborted ≡ accepted change))
    go true e = inl (refl, (refuse_if_accepted _ _ _ _ (refuse_if_accepted _ _ _ _ e).1).1)
    go false e = inr (refl, (refuse_if_accepted _ _ _ _ e).1)

module _ (p : Plan) (states network e : List ℕ) (a_state : ℕ → ℕ → AState) where
  abbrev before : State
  before = state_of p states network a_state

  abbrev own : ℕ
  own = get_or states (who_of e) 0

  -- what kinds 0 and 1 leave
  abbrev pub Chose : ℕ → ℕ → Step → Type 0
  Chose next val r =
      Choose p (who_of e) next (val_of val) before (state_of p r.table r.network a_state)
      × Sends p network (Phase2a (who_of e) 0 val) r.answer r.network
      × (r.table ≡ set states (who_of e) next)

  -- what kind 2 leaves
  abbrev pub Learnt : ℕ → Step → Type 0
  Learnt next r = (r.answer ≡ accepted Quiet) × (r.table ≡ set states (who_of e) next) × (r.network ≡ network)

  -- W and N are sound after it, of the same lengths
  abbrev pub SoundAfter : Step → Type 0
  SoundAfter r = Sound p r.table r.network × (length r.table ≡ length states) × (length r.network ≡ length network)

  module _ (t : Took p states network e) where
    abbrev after : Step
    after = rm_step p states network e

    named : who_of e < length states
    named = rw t.tables.one_each (rm_who p e t.event t.small)

    sound_after : (next : ℕ) (network' : List ℕ) → next ≤ 3 → length network' ≡ length network → is_table p network' ≡ true
        → SoundAfter (record { answer = refused 0; table = set states (who_of e) next; network = network' })
    unfolding are_states
    sound_after next network' h same ordered = (
      record {
        plan = t.tables.plan;
        one_each = length-set states (who_of e) next ∙ t.tables.one_each;
        whole = rw same t.tables.whole;
        known = all_set _ states (who_of e) next (le-leb next 3 h) t.tables.known;
        ordered = ordered;
      },
      length-set states (who_of e) next,
      same,
    )

    -- kinds 0 and 1
    module _ (next val : ℕ) (value : is_value val ≡ true) (fits : next ≤ 3) (choice : rm_choose (view_table p network) (who_of e) own next val ≡ accepted t.change) where
      in_range_lem : is_in_range p (Phase2a (who_of e) 0 val) ≡ true
      unfolding is_in_range
      in_range_lem = rw (lt-ltb (who_of e) p.rms (rm_who p e t.event t.small), value)

      pub choose_acts : Chose next val after × SoundAfter after
      unfolding rm_choose
      choose_acts =
          let works = refuse_if_accepted _ _ _ _ choice in
          let (slot, store, send, is) = sending_accepted 13 _ _ _ works.1 in
          let s = stored p network t.tables.plan t.tables.whole t.tables.ordered (Phase2a (who_of e) 0 val) in_range_lem slot store send in
          let step : applied p states network (accepted (record { table = Updates.State (who_of e) next; network = store; sent = Slot slot })) ≡ after
          = ap (applied p states network) is ∙ sym t.step in
          let sends : Sends p network (Phase2a (who_of e) 0 val) (accepted (Slot slot)) (store_bytes p store network)
          = record { slot = slot; answered = refl; stands = s.stands; first = s.first; stores = s.stores } in
          subst (λ (r : Step). Chose next val r × SoundAfter r) step (
            ((eqb-true _ _ (not-false _ works.0), set_state states (who_of e) next named, s.joins, refl), sends, refl),
            sound_after next (store_bytes p store network) fits s.same_length s.ordered,
          )

    pub prepare_acts : kind_of e ≡ 0 → Chose prepared 1 after × SoundAfter after
    unfolding rm_kind is_value
    prepare_acts kind = choose_acts prepared 1 refl (lit≤ tt) (rw kind at t.verdict)

    pub abort_acts : kind_of e ≡ 1 → Chose aborted 2 after × SoundAfter after
    unfolding rm_kind is_value
    abort_acts kind = choose_acts aborted 2 refl (lit≤ tt) (rw kind at t.verdict)

    -- kind 2
    learn : (next : ℕ) → next ≤ 3 → rm_decided (who_of e) next ≡ accepted t.change → Learnt next after × SoundAfter after
    learn next fits is =
        let step : applied p states network (rm_decided (who_of e) next) ≡ after = ap (applied p states network) is ∙ sym t.step in
        subst (λ (r : Step). Learnt next r × SoundAfter r) step ((refl, refl, refl), sound_after next network fits refl t.tables.ordered)

    pub receive_acts : kind_of e ≡ 2 → (m : Wire.Message) × (message_at (messages p network) (slot_number e) ≡ accepted m)
        × (((message_of m ≡ Commit) × Learnt committed after) ⊎ ((message_of m ≡ Abort) × Learnt aborted after)) × SoundAfter after
    unfolding rm_kind
    receive_acts kind =
        let got : and_then (message_at (messages p network) (slot_number e)) (rm_receive (who_of e) own) ≡ accepted t.change = rw kind at t.verdict in
        let (m, at, taken) = and_then_accepted _ (rm_receive (who_of e) own) _ got in
        go m at (decision_taken (who_of e) own m t.change taken)
      where
        go : (m : Wire.Message) → message_at (messages p network) (slot_number e) ≡ accepted m
            → ((message_of m ≡ Commit) × (rm_decided (who_of e) committed ≡ accepted t.change)) ⊎ ((message_of m ≡ Abort) × (rm_decided (who_of e) aborted ≡ accepted t.change))
            → (m : Wire.Message) × (message_at (messages p network) (slot_number e) ≡ accepted m)
            × (((message_of m ≡ Commit) × Learnt committed after) ⊎ ((message_of m ≡ Abort) × Learnt aborted after)) × SoundAfter after
        go m at (inl (c, is)) = let l = learn committed (lit≤ tt) is in (m, at, inl (c, l.0), l.1)
        go m at (inr (c, is)) = let l = learn aborted (lit≤ tt) is in (m, at, inr (c, l.0), l.1)

  -- the published action of a decision that was learnt
  pub learnt_acts : Took p states network e → (x : Source.Message) (next : ℕ) (m : Wire.Message)
      → message_at (messages p network) (slot_number e) ≡ accepted m → message_of m ≡ x → Learnt next (rm_step p states network e)
      → Receive p (who_of e) next x before (state_of p (rm_step p states network e).table (rm_step p states network e).network a_state)
  learnt_acts t x next m at is (answer, table, network') = (
    (m, member_at _ _ m at, is),
    ap rm_state_of table ∙ set_state states (who_of e) next (named t),
    refl,
    λ y. (λ h. rw network' at h, λ h. rw (sym network') at h),
  )

  -- kind 2 by its message
  module _ (t : Took p states network e) (kind : kind_of e ≡ 2) (m : Wire.Message) (at : message_at (messages p network) (slot_number e) ≡ accepted m) where
    abbrev final : Step
    final = rm_step p states network e

    abbrev Acts : ℕ → Source.Message → Type 0
    Acts next x =
        Receive p (who_of e) next x before (state_of p final.table final.network a_state)
        × (final.answer ≡ accepted Quiet)
        × (final.table ≡ set states (who_of e) next)
        × (final.network ≡ network)

    acts : (next : ℕ) (x : Source.Message) → message_of m ≡ x → Learnt next final → Acts next x
    acts next x is l = (learnt_acts t x next m at is l, l.0, l.1, l.2)

    pub commit_acts : message_of m ≡ Commit → Acts committed Commit
    commit_acts is = let (m', at', learnt, s) = receive_acts t kind in go m' (accepted_inj (sym at' ∙ at)) learnt
      where
        go : (m' : Wire.Message) → m' ≡ m
            → ((message_of m' ≡ Commit) × Learnt committed final) ⊎ ((message_of m' ≡ Abort) × Learnt aborted final) → Acts committed Commit
        go m' same (inl (c, l)) = acts committed Commit is l
        go m' same (inr (a, l)) = absurd (let z : ◌≡◌ {A = ℕ} 0 1 = cc in omega arith)

    pub abort_msg_acts : message_of m ≡ Abort → Acts aborted Abort
    abort_msg_acts is = let (m', at', learnt, s) = receive_acts t kind in go m' (accepted_inj (sym at' ∙ at)) learnt
      where
        go : (m' : Wire.Message) → m' ≡ m
            → ((message_of m' ≡ Commit) × Learnt committed final) ⊎ ((message_of m' ≡ Abort) × Learnt aborted final) → Acts aborted Abort
        go m' same (inl (c, l)) = absurd (let z : ◌≡◌ {A = ℕ} 0 1 = cc in omega arith)
        go m' same (inr (a, l)) = acts aborted Abort is l

module _ (p : Plan) (states network e : List ℕ) where
  pub keeps : (k : ℕ) → (rm_step p states network e).answer ≡ refused k → rm_step p states network e ≡ refusal states network k
  unfolding rm_step
  keeps k is = refused_keeps p states network (and_then (rm_judged p states network) (λ _. rm_verdict p states (view_table p network) e)) k is

  abbrev Kept : Step → Type 0
  Kept r = (rm_judged p r.table r.network ≡ accepted tt) × (length r.table ≡ length states) × (length r.network ≡ length network)

  -- an accepted step by its kind
  kept_accepted : Took p states network e → Kept (rm_step p states network e)
  kept_accepted t = go (eqb (kind_of e) 0) (eqb (kind_of e) 1) refl refl
    where
      any_state : ℕ → ℕ → AState
      any_state i a = Source.initial

      kept : SoundAfter p states network e any_state (rm_step p states network e) → Kept (rm_step p states network e)
      kept (s, l, n) = (judged p _ _ s, l, n)

      go : (b c : Bool) → eqb (kind_of e) 0 ≡ b → eqb (kind_of e) 1 ≡ c → Kept (rm_step p states network e)
      go true c h k = kept (prepare_acts p states network e any_state t (eqb-true _ _ h)).1
      go false true h k = kept (abort_acts p states network e any_state t (eqb-true _ _ k)).1
      go false false h k =
          let n0 : kind_of e ≡ 0 → ⊥ = eqb-false _ _ h in
          let n1 : kind_of e ≡ 1 → ⊥ = eqb-false _ _ k in
          kept (receive_acts p states network e any_state t (omega (arith, t.small))).3

  pub stays_sound : rm_judged p states network ≡ accepted tt → Kept (rm_step p states network e)
  stays_sound s = go (rm_step p states network e).answer refl
    where
      go : (answer : Outcome Sent) → (rm_step p states network e).answer ≡ answer → Kept (rm_step p states network e)
      go (accepted a) is = kept_accepted (took p states network e (a, is))
      go (refused k) is = subst Kept (sym (keeps k is)) (s, refl, refl)
