-- From the judgement of the plan and the four tables to the whole call.
--     lent_refused, lent_unsound, lent_whole      1 to 6; 20; all that is lent is sound
--     kept_none, kept_part, marked_part           storing in an inbox, and marking a leader's bytes
--     update_states, update_votes, update_inbox   an update of each table
--     apply_accepted                              what `apply` does with an accepted verdict
--     performed_refused, _other, _receipt         what was evaluated is applied and, of a receipt, marked; receiver, that its leader is one
--     step_applied                                on a judged record that is the event call
--     step_refused, step_performed                the whole call: the judgement refuses; it does not
-- Assumes nothing.
use Prim.Native.Nat.{ℕ, ◌+◌, ◌*◌, ◌/◌, ◌≤◌, ◌<◌}
use mathlib.Core.Bool.{Bool, true, false, not}
use mathlib.Core.List.{List}
use mathlib.Core.Path.{◌≡◌, refl, sym, ◌∙◌, ap, ap₂}
use native.Mathlib.Decide.{dec_le, ℕ_discrete}
use native.Mathlib.Omega.{arith}
use lib.ListN.{length, set}
use borrow.Author.Tests.{le-leb, lt-leb, eq-eqb, ne_eqb, lt-ltb, le-ltb, not-false}
use Rattle.message.specs.declared.Plan.{Plan}
use Rattle.message.specs.Outcome.{Outcome, accepted, refused, and_then, refuse_if}
use Rattle.message.proofs.Outcome.Laws.{accepted_not_refused, refuse_if_accepted}
use Rattle.message.specs.Plan.{is_plan}
use Rattle.message.proofs.PlanLaws.{plan_bounds}
use Rattle.slots.specs.Table.{messages}
use Rattle.slots.specs.declared.Put.{Put}
use Rattle.slots.specs.View.{View, view_table, store_bytes}
use Rattle.slots.specs.View.Bytes.{view_bytes}
use Rattle.slots.proofs.View.Laws.{view_judged}
use Rattle.event.specs.Event.{kind_of, who_of, slot_number, is_event}
use Rattle.change.specs.declared.Sent.{Sent}
use Rattle.change.specs.declared.Change.{Change}
use Rattle.change.specs.declared.Update as UpdateType
use Rattle.change.specs.declared.Update.TheVariants.{State, Vote, Inbox}
use Rattle.change.specs.Change.{Step, updated, applied}
use Rattle.change.specs.Change.Updates.{IsState, IsVote, IsInbox, Changes}
use Rattle.rm.specs.Rm.{rm_verdict}
use Rattle.rm.specs.Rm.Updates.{rm_changes}
use Rattle.rm.proofs.Judging as Rm
use Rattle.acceptor.specs.Acceptor.{acceptor_verdict}
use Rattle.acceptor.specs.Acceptor.Updates.{acceptor_changes}
use Rattle.acceptor.proofs.Judging as Acceptor
use Rattle.inbox.specs.Inbox.{decided}
use Rattle.summary.specs.Summary.{marked_at, decided_bytes}
use Rattle.leader.specs.Leader.{is_summary, leader_step_by, summary_after}
use Rattle.leader.specs.Leader.Received.{received_same}
use Rattle.leader.specs.Leader.Sound as LeaderSound
use Rattle.leader.specs.Leader.Updates.{leader_changes}
use Rattle.leader.proofs.Judging as Leader
use Rattle.leader.proofs.Judging.{decided_same}
use Rattle.verdict.specs.Verdict.{leader_on, record_verdict}
use Rattle.verdict.proofs.Inboxes.{part_of, part_is}
use Rattle.verdict.proofs.Evaluating.{led, no_event}
use Rattle.record.specs.Record.{Tables, tables_of, with_states, with_votes, with_network, with_inboxes, with_summary, inbox_of, with_inbox, record_judged, lent_judged}
use Rattle.record.specs.Record.{RecordStep, record_step_of, record_refusal, on_states, on_votes, on_inbox, role_step, settled, by_summary, marking, record_step}
use Rattle.record.specs.Record.Applied.{kept_inbox, changed, applied_to, record_applied}
use Rattle.record.specs.Record.Laws.{sound, judged_rm, judged_acceptor, judged_leader}
use Rattle.record.specs.Record.Parts.{length_inbox_of, inbox_of_with, with_inbox_of}
use Rattle.record.specs.Record.Summary.{marking_refused, marking_other, lent_sound}
use Rattle.record.proofs.Inboxes.{put_part, part_put}
use Rattle.std.specs.Prelude.{Option, Ok}

-- the judgement of all that is lent, after that of the plan and the four tables
module _ (p : Plan) (t : Tables) where
  pub lent_refused : (k : ℕ) → refused k ≡ record_judged p t → refused k ≡ lent_judged p t
  unfolding lent_judged and_then
  lent_refused k bad = rw (← bad)

  module _ (judged : accepted tt ≡ record_judged p t) (count : ℕ) (of-count : count ≡ p.rms * p.leaders) where
    pub lent_unsound : is_summary count t.summary ≡ false → refused 20 ≡ lent_judged p t
    unfolding lent_judged and_then refuse_if
    lent_unsound none = rw (← judged, ← of-count, none)

    pub lent_whole : is_summary count t.summary ≡ true → accepted tt ≡ lent_judged p t
    unfolding lent_judged and_then refuse_if
    lent_whole whole = rw (← judged, ← of-count, whole)

-- storing in an inbox
module _ (p : Plan) (i : List ℕ) (l : ℕ) (store : Option Put) where
  pub kept_none : p.leaders ≤ l → i ≡ kept_inbox p i l store
  unfolding kept_inbox
  kept_none h = rw (le-ltb l p.leaders h)

  pub kept_part : l < p.leaders → (size : ℕ) → size ≡ length i / p.leaders → (b : List ℕ) → b ≡ store_bytes p store (part_of size i l)
      → put_part size i l b ≡ kept_inbox p i l store
  unfolding kept_inbox
  kept_part h size of_size b done =
      rw (lt-ltb l p.leaders h)
      (part_put p i size of_size l b ∙ ap (with_inbox p i l) (done ∙ ap (store_bytes p store) (part_is p i size of_size l)))

-- marking a leader's bytes of the summary
pub marked_part : (p : Plan) (i s n : List ℕ) (l slot size : ℕ) → size ≡ length i / p.leaders → (count : ℕ) → count ≡ length s / p.leaders
    → (b : List ℕ) → b ≡ marked_at (decided_bytes p (part_of size i l)) (part_of count s l) ((view_bytes p n).slot slot)
    → put_part count s l b ≡ with_inbox p s l (marked_at (decided_bytes p (inbox_of p i l)) (inbox_of p s l) ((view_bytes p n).slot slot))
marked_part p i s n l slot size of_size count of-count b done =
    part_put p s count of-count l b
    ∙ ap (with_inbox p s l)
    (done ∙ ap₂ (λ (box own : List ℕ). marked_at (decided_bytes p box) own ((view_bytes p n).slot slot)) (part_is p i size of_size l) (part_is p s count of-count l))

-- an update of each table
module _ (p : Plan) (l : ℕ) (w q i : List ℕ) (u : UpdateType.Update) where
  pub update_states : (who state : ℕ) → u ≡ State who state → (w' : List ℕ) → w' ≡ set w who state
      → (n s : List ℕ) → tables_of w' q n i s ≡ changed p l (tables_of w q n i s) u n
  update_states who state is w' done n s = rw (is, done)

  pub update_votes : (at mbal bal val : ℕ) → u ≡ Vote at mbal bal val → (q' : List ℕ) → q' ≡ set (set (set q at mbal) (at + 1) bal) (at + 2) val
      → (n s : List ℕ) → tables_of w q' n i s ≡ changed p l (tables_of w q n i s) u n
  update_votes at mbal bal val is q' done n s = rw (is, done)

  pub update_inbox : (store : Option Put) → u ≡ Inbox store → (i' : List ℕ) → i' ≡ kept_inbox p i l store
      → (n s : List ℕ) → tables_of w q n i' s ≡ changed p l (tables_of w q n i s) u n
  update_inbox store is i' done n s = rw (is, done)

-- from an accepted verdict, and what was stored for it, to the answer and the four tables
pub apply_accepted : (p : Plan) (l : ℕ) (t : Tables) (change : Change) (w q n i : List ℕ)
    → ((m s : List ℕ) → tables_of w q m i s ≡ changed p l (tables_of t.states t.votes m t.inboxes s) change.table m)
    → n ≡ store_bytes p change.network t.network
    → record { answer = accepted change.sent; tables = tables_of w q n i t.summary } ≡ applied_to p l t (accepted change)
apply_accepted p l t change w q n i stored sent =
    ap (λ (x : Tables). record { answer = accepted change.sent; tables = x })
    (stored n t.summary ∙ changed_network change.table n ∙ ap (changed p l t change.table) sent)
  where
    changed_network : (u : UpdateType.Update) (n : List ℕ)
        → changed p l (with_network t n) u n ≡ changed p l t u n
    changed_network (State who state) n = refl
    changed_network (Vote at mbal bal val) n = refl
    changed_network (Inbox store) n = refl

-- what was evaluated is applied, and then marked: o is the verdict, u the tables before the mark
module _ (p : Plan) (t : Tables) (e : List ℕ) (o : Outcome Change) (evaluated : o ≡ record_verdict p t e) (l : ℕ) (own : l ≡ who_of e) (u : Tables) where
  applied_is : (r : RecordStep) → r ≡ applied_to p l t o → r ≡ applied_to p (who_of e) t (record_verdict p t e)
  applied_is r stored = stored ∙ ap (λ (k : ℕ). applied_to p k t o) own ∙ ap (applied_to p (who_of e) t) evaluated

  marked_is : (r : RecordStep) → r ≡ applied_to p l t o → marking p (decided_bytes p) (view_bytes p) e r ≡ record_applied p t e
  unfolding record_applied
  marked_is r stored = ap (marking p (decided_bytes p) (view_bytes p) e) (applied_is r stored)

  pub performed_refused : (k : ℕ) → record_refusal u k ≡ applied_to p l t o → record_refusal u k ≡ record_applied p t e
  performed_refused k stored = sym (marking_refused p (decided_bytes p) (view_bytes p) e (record_refusal u k) k refl) ∙ marked_is _ stored

  module _ (sent : Sent) (stored : record_step_of (Ok sent) u ≡ applied_to p l t o) (kind : ℕ) (of-kind : kind ≡ kind_of e) where
    pub performed_other : (kind ≡ 4 → ⊥) → record_step_of (Ok sent) u ≡ record_applied p t e
    performed_other h =
        sym (marking_other p (decided_bytes p) (view_bytes p) e (record_step_of (Ok sent) u) (λ k. h (of-kind ∙ k))) ∙ marked_is _ stored

    module _ (h : kind ≡ 4) where
      pub receiver : l < p.leaders
      unfolding record_verdict
      receiver =
          let event : is_event p e ≡ true = go (record_verdict p t e) refl (ap (λ (x : RecordStep). x.answer) (sym (applied_is _ stored))) in
          rw own (led p e event (rw (← of-kind, h) (omega arith)) (λ k. omega (arith, of-kind, h, k)))
        where
          go : (v : Outcome Change) → record_verdict p t e ≡ v → (applied_to p (who_of e) t v).answer ≡ accepted sent → is_event p e ≡ true
          go (refused k) of-v is = absurd (accepted_not_refused is)
          go (accepted change) of-v is = not-false _ (refuse_if_accepted _ _ _ _ of-v).0

      pub performed_receipt : (k : ℕ) → k ≡ slot_number e → (s : List ℕ)
          → s ≡ with_inbox p u.summary l (marked_at (decided_bytes p (inbox_of p u.inboxes l)) (inbox_of p u.summary l) ((view_bytes p u.network).slot k))
          → record_step_of (Ok sent) (with_summary u s) ≡ record_applied p t e
      performed_receipt k of-k s done =
          ap (λ (x : List ℕ). record_step_of (Ok sent) (with_summary u x)) (done ∙ rw (own, of-k, eq-eqb (kind_of e) 4 (sym of-kind ∙ h)))
          ∙ marked_is _ stored

-- the code's mark, and the call's
marking_same : (p : Plan) (e : List ℕ) (r : RecordStep) → is_plan p ≡ true
    → (view_bytes p (inbox_of p r.tables.inboxes (who_of e))).messages ≡ messages p (inbox_of p r.tables.inboxes (who_of e))
    → view_bytes p r.tables.network ≡ view_table p r.tables.network
    → marking p (decided_bytes p) (view_bytes p) e r ≡ marking p (λ inbox. decided p (messages p inbox)) (view_table p) e r
marking_same p e r plan box net =
    ap₂ (λ (d : ℕ → ℕ → Bool) (v : View). record {
      answer = r.answer;
      tables = with_summary r.tables (with_inbox p r.tables.summary (who_of e) (summary_after d v e r.answer (inbox_of p r.tables.summary (who_of e))));
    }) (decided_same p (inbox_of p r.tables.inboxes (who_of e)) plan box) net

-- a change of a role's own table, as a step of the record
module _ (p : Plan) (l : ℕ) (t : Tables) where
  states_changed : (u : UpdateType.Update) → IsState u → (n : List ℕ) → changed p l t u n ≡ with_network (with_states t (updated p u t.states)) n
  states_changed (State who state) h n = refl
  states_changed (Vote at mbal bal val) h n = absurd h
  states_changed (Inbox store) h n = absurd h

  votes_changed : (u : UpdateType.Update) → IsVote u → (n : List ℕ) → changed p l t u n ≡ with_network (with_votes t (updated p u t.votes)) n
  votes_changed (State who state) h n = absurd h
  votes_changed (Vote at mbal bal val) h n = refl
  votes_changed (Inbox store) h n = absurd h

  inbox_changed : l < p.leaders → (u : UpdateType.Update) → IsInbox u → (n : List ℕ)
      → changed p l t u n ≡ with_network (with_inboxes t (with_inbox p t.inboxes l (updated p u (inbox_of p t.inboxes l)))) n
  unfolding kept_inbox
  inbox_changed own (State who state) h n = absurd h
  inbox_changed own (Vote at mbal bal val) h n = absurd h
  inbox_changed own (Inbox store) h n = rw (lt-ltb l p.leaders own)

  states_applied : (o : Outcome Change) → Changes IsState o → applied_to p l t o ≡ on_states t (applied p t.states t.network o)
  states_applied (refused k) h = refl
  states_applied (accepted c) h =
      ap (λ (x : Tables). record { answer = accepted c.sent; tables = x }) (states_changed c.table h (store_bytes p c.network t.network))

  votes_applied : (o : Outcome Change) → Changes IsVote o → applied_to p l t o ≡ on_votes t (applied p t.votes t.network o)
  votes_applied (refused k) h = refl
  votes_applied (accepted c) h =
      ap (λ (x : Tables). record { answer = accepted c.sent; tables = x }) (votes_changed c.table h (store_bytes p c.network t.network))

  inbox_applied : l < p.leaders → (o : Outcome Change) → Changes IsInbox o
      → applied_to p l t o ≡ on_inbox p l t (applied p (inbox_of p t.inboxes l) t.network o)
  inbox_applied own (refused k) h =
      ap (λ (i : List ℕ). record { answer = refused k; tables = with_inboxes t i })
      (sym (with_inbox_of p t.inboxes l (omega arith) own))
  inbox_applied own (accepted c) h =
      ap (λ (x : Tables). record { answer = accepted c.sent; tables = x }) (inbox_changed own c.table h (store_bytes p c.network t.network))

module _ (p : Plan) (t : Tables) (e : List ℕ) where
  module _ (ok : record_judged p t ≡ accepted tt) where
    role_applied : is_event p e ≡ true → applied_to p (who_of e) t (record_verdict p t e) ≡ role_step p (by_summary p t) t e
    unfolding record_verdict refuse_if role_step
    role_applied is = go (dec_le (kind_of e) 2) (ℕ_discrete (kind_of e) 3)
      where
        go : Dec (kind_of e ≤ 2) → Dec (kind_of e ≡ 3) → applied_to p (who_of e) t (record_verdict p t e) ≡ role_step p (by_summary p t) t e
        go (yes h) d =
            rw (is, le-leb (kind_of e) 2 h)
            (states_applied p (who_of e) t (rm_verdict p t.states (view_bytes p t.network) e) (rm_changes p t.states (view_bytes p t.network) e)
            ∙ ap (on_states t) (Rm.step_sound p t.states t.network e (sym (judged_rm p t (sound p t ok))) _ refl))
        go (no h) (yes k) =
            rw (is, lt-leb (kind_of e) 2 (omega (arith, h)), eq-eqb (kind_of e) 3 k)
            (votes_applied p (who_of e) t (acceptor_verdict p t.votes (view_bytes p t.network) e) (acceptor_changes p t.votes (view_bytes p t.network) e)
            ∙ ap (on_votes t) (Acceptor.step_sound p t.votes t.network e (sym (judged_acceptor p t (sound p t ok))) _ refl))
        go (no h) (no k) =
            let member = led p e is (omega (arith, h)) k in
            rw (is, lt-leb (kind_of e) 2 (omega (arith, h)), ne_eqb (kind_of e) 3 k)
            (inbox_applied p (who_of e) t member (leader_on p t.inboxes t.summary t.network e)
            (leader_changes p _ (view_bytes p (inbox_of p t.inboxes (who_of e))) (view_bytes p t.network) e)
            ∙ ap (on_inbox p (who_of e) t)
            (Leader.step_sound p (by_summary p t (who_of e)) (inbox_of p t.inboxes (who_of e)) t.network e
            (sym (judged_leader p t (sound p t ok) (who_of e) member)) _ refl))

    abbrev role : RecordStep
    role = role_step p (by_summary p t) t e

    -- on a judged record the code's mark is the call's: a receipt leaves N, and the inbox then holds what its bytes say
    receipt_same : is_event p e ≡ true → (sent : Sent) → role.answer ≡ accepted sent → kind_of e ≡ 4
        → marking p (decided_bytes p) (view_bytes p) e role ≡ marking p (λ inbox. decided p (messages p inbox)) (view_table p) e role
    unfolding role_step
    receipt_same is sent answered k = rw k (go (rw k at answered))
      where
        member : who_of e < p.leaders
        member = led p e is (rw k (omega arith)) (λ x. omega (arith, k, x))

        own : List ℕ
        own = inbox_of p t.inboxes (who_of e)

        step : Step
        step = leader_step_by p (by_summary p t (who_of e)) (inbox_of p t.inboxes (who_of e)) t.network e

        go : step.answer ≡ accepted sent
            → marking p (decided_bytes p) (view_bytes p) e (on_inbox p (who_of e) t step)
            ≡ marking p (λ inbox. decided p (messages p inbox)) (view_table p) e (on_inbox p (who_of e) t step)
        go taken =
            let whole = sound p t ok in
            let some = (plan_bounds p whole.plan).leaders_least in
            let tables = LeaderSound.sound p _ _ (judged_leader p t whole (who_of e) member) in
            let (box, size, net) = received_same p (by_summary p t (who_of e)) (inbox_of p t.inboxes (who_of e)) t.network e tables sent k taken in
            let put = inbox_of_with p t.inboxes (who_of e) some member step.table (size ∙ length_inbox_of p t.inboxes (who_of e) some member) in
            marking_same p e (on_inbox p (who_of e) t step) whole.plan (rw put box) (rw net (view_judged p t.network whole.network_whole whole.network_ordered))

    marks_same : is_event p e ≡ true → marking p (decided_bytes p) (view_bytes p) e role ≡ marking p (λ inbox. decided p (messages p inbox)) (view_table p) e role
    marks_same is = go role.answer refl (ℕ_discrete (kind_of e) 4)
      where
        go : (o : Outcome Sent) → role.answer ≡ o → Dec (kind_of e ≡ 4)
            → marking p (decided_bytes p) (view_bytes p) e role ≡ marking p (λ inbox. decided p (messages p inbox)) (view_table p) e role
        go o of-o (no n) =
            marking_other p (decided_bytes p) (view_bytes p) e role n ∙ sym (marking_other p (λ inbox. decided p (messages p inbox)) (view_table p) e role n)
        go (refused k) of-o (yes d) =
            marking_refused p (decided_bytes p) (view_bytes p) e role k of-o
            ∙ sym (marking_refused p (λ inbox. decided p (messages p inbox)) (view_table p) e role k of-o)
        go (accepted sent) of-o (yes k) = receipt_same is sent of-o k

  pub step_applied : lent_judged p t ≡ accepted tt → record_applied p t e ≡ record_step p t e
  unfolding record_applied record_step and_then refuse_if
  step_applied ok = go (is_event p e) refl
    where
      go : (b : Bool) → is_event p e ≡ b
          → marking p (decided_bytes p) (view_bytes p) e (applied_to p (who_of e) t (record_verdict p t e))
          ≡ settled t (and_then (lent_judged p t) (λ _.
          refuse_if (not b) 7
          (accepted (marking p (λ inbox. decided p (messages p inbox)) (view_table p) e (role_step p (by_summary p t) t e)))))
      go true is =
          let four = (lent_sound p t ok).0 in
          rw ok (ap (marking p (decided_bytes p) (view_bytes p) e) (role_applied four is) ∙ marks_same four is)
      go false is =
          let none : applied_to p (who_of e) t (record_verdict p t e) ≡ record_refusal t 7 = rw (← no_event p t e is) in
          rw ok (ap (marking p (decided_bytes p) (view_bytes p) e) none ∙ marking_refused p (decided_bytes p) (view_bytes p) e (record_refusal t 7) 7 refl)

  -- the whole call, after its judgement
  pub step_refused : (k : ℕ) → refused k ≡ lent_judged p t → record_refusal t k ≡ record_step p t e
  unfolding record_step and_then
  step_refused k bad = rw (← bad)

  pub step_performed : accepted tt ≡ lent_judged p t → (r : RecordStep) → r ≡ record_applied p t e → r ≡ record_step p t e
  step_performed ok r done = done ∙ step_applied (sym ok)
