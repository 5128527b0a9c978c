-- A leader's own call on its own host.
--     leader_claim          an accepted call keeps what is claimed
--     leader_not_11         11 is no number of this call
--     marked_new            a receipt sets a bit only where it is decided, or declined by the message
--     summary_grows         no call clears a bit
-- Assumes nothing.
use Rattle.std.specs.Prelude.{ℕ, ◌<◌, ◌≤◌, Bool, true, false, ◌&&◌, ◌||◌, cond, List, [], ◌∷◌, ◌⊎◌, ◌↔◌, ◌≡◌, refl, eqb, length}
use Rattle.std.proofs.lemmas.Bool.{false≢true}
use Rattle.std.proofs.Common.{inl, inr, ⊎_elim, sym, ◌∙◌, ap, subst, arith, eqb-true}
use Rattle.std.proofs.Math.Decide.{ℕ_discrete}
use Rattle.message.specs.declared.Plan.{Plan}
use Rattle.message.specs.declared.Message as Wire
use Rattle.message.specs.declared.Message.TheVariants.{Phase1a, Phase1b, Phase2a, Phase2b, Decision}
use Rattle.message.specs.Outcome.{Outcome, accepted, refused}
use Rattle.message.specs.Form.{is_in_range}
use Rattle.message.specs.Rows.{here, InOrder}
use Rattle.message.proofs.Rows.Laws.{applies_of_first}
use Rattle.message.proofs.Rows.Named.{row_applies, applies_row}
use Rattle.slots.specs.Table.{messages}
use Rattle.slots.specs.Send.{message_at}
use Rattle.slots.specs.View.{View, view_table}
use Rattle.change.specs.declared.Sent.{Sent}
use Rattle.event.specs.Event.{kind_of, who_of, high_of, low_of, slot_number}
use Rattle.event.specs.Event.Laws.{event_parts}
use Rattle.tcommit.proofs.TCommit.Laws.{except_cases}
use Rattle.paxos_commit.specs.PaxosCommit.{Val, Message, AState, phase2a, Send}
use Rattle.paxos_commit.specs.Widened.{WidenedNext}
use Rattle.paxos_commit.proofs.PaxosCommit.Safety.Leader.{phase2a_of_part, decide_commit_of_part, decide_abort_of_part}
use Rattle.inbox.specs.Inbox.{decided}
use Rattle.summary.specs.Summary.{marked, marked_at}
use Rattle.summary.specs.Summary.Laws.{summary_length, vote_parts, proposal_instance, marked_bit, marked_decline, marked_grows}
use Rattle.leader.specs.Leader.{owns, stands, summary_after, leader_step}
use Rattle.phase2a.specs.Phase2a.Laws.{one_owner, owns_above}
use Rattle.matching.specs.Reading.{is_rm, is_acceptor, is_majority_set, val_of, message_of, set_of}
use Rattle.matching.specs.Call.{Accepted, Sends, Stores}
use Rattle.matching.proofs.Call.Laws.{message_at_cases, unused_past, member_at, slot_in_range}
use Rattle.matching.specs.Leader.{Phase1aAction, Phase2aAction, DecidedOrDeclinedIn, CommitAction, AbortAction, proposed, state_of, leader_rows}
use Rattle.matching.proofs.Leader.Conditions.{decided_Decided}
use Rattle.matching.proofs.Leader.Took.{Took}
use Rattle.matching.proofs.Leader.Own.{own_right, own_took}
use Rattle.matching.proofs.Theorems.{leader_answers, leader_instance, leader_unmarked, leader_receipt, leader_phase1a, leader_phase2a}
use Rattle.matching.proofs.Theorems.{leader_commit, leader_abort}
use Rattle.safety.proofs.Grounds.Stored.{stores_new}
use Rattle.safety.proofs.Grounds.Kept.{Unowned, unowned_other}
use Rattle.apart.specs.Hosts.{leader, Host, System, Left, called, after, sent_by, row, published}
use Rattle.apart.proofs.Hosts.Moved.{except_other, new_host}
use Rattle.apart.proofs.Hosts.Tied.{Grounded, Claim, summary_same, claim_sent, claim_sends, nets_sent, nets_quiet, tied_inbox, wire_old, wire_adds}

pub leader_not_11 : (p : Plan) (inbox summary network e : List ℕ) (rm_state : ℕ → ℕ) (a_state : ℕ → ℕ → AState)
    → (leader_step p inbox summary network e).step.answer ≡ refused 11 → ⊥
leader_not_11 p inbox summary network e rm_state a_state is =
    let rows = leader_rows p inbox summary network e (state_of p network rm_state a_state) in
    row_applies rows 11 (applies_of_first rows 11 (((leader_answers p inbox summary network e rm_state a_state).refuses 11).0 is)) tt

-- a receipt sets a bit only where d says so, or m is the 2a by which weight i declines
abbrev Gained : (ℕ → ℕ → Bool) → List ℕ → Wire.Message → ℕ → ℕ → Type 0
Gained d summary m i v = (stands summary i v ≡ true) ⊎ ((d i v ≡ true) ⊎ ((v ≡ 2) × (m ≡ Phase2a i 0 2)))

pub marked_new : (d : ℕ → ℕ → Bool) (p : Plan) (summary : List ℕ) → length summary ≡ p.rms → (m : Wire.Message) → is_in_range p m ≡ true
    → (i v : ℕ) → (v ≡ 1) ⊎ (v ≡ 2) → stands (marked d summary m) i v ≡ true → Gained d summary m i v
unfolding marked
marked_new d p summary size (Phase1a ins bal) range i v value h = inl h
marked_new d p summary size (Phase1b ins acc mbal vote) range i v value h = inl h
marked_new d p summary size (Phase2a ins bal val) range i v value h =
    go (stands summary i v) (eqb ins i) (eqb 2 v) (eqb bal 0) (eqb val 2) refl refl refl refl refl
    (sym (marked_decline d summary i v ins bal val (rw size (proposal_instance p ins bal val range)) value) ∙ h)
  where
    go : (s t u w x : Bool) → stands summary i v ≡ s → eqb ins i ≡ t → eqb 2 v ≡ u → eqb bal 0 ≡ w → eqb val 2 ≡ x
        → (s || (t && (u && (w && x)))) ≡ true → Gained d summary (Phase2a ins bal val) i v
    go true t u w x is a b c f h = inl is
    go false false u w x is a b c f h = absurd (false≢true h)
    go false true false w x is a b c f h = absurd (false≢true h)
    go false true true false x is a b c f h = absurd (false≢true h)
    go false true true true false is a b c f h = absurd (false≢true h)
    go false true true true true is a b c f h =
        inr (inr (sym (eqb-true 2 v b), rw (eqb-true ins i a, eqb-true bal 0 c, eqb-true val 2 f)))
marked_new d p summary size (Decision val) range i v value h = inl h
marked_new d p summary size (Phase2b ins acc bal val) range i v value h =
    let (below, values) = vote_parts p ins acc bal val range in
    go (stands summary i v) (eqb ins i) (eqb val v) refl refl refl
    (sym (marked_bit d summary i v ins acc bal val (rw size below) values value) ∙ h)
  where
    go : (s t u : Bool) → stands summary i v ≡ s → eqb ins i ≡ t → eqb val v ≡ u → (s || (t && (u && d ins val))) ≡ true
        → Gained d summary (Phase2b ins acc bal val) i v
    go true t u is a b h = inl is
    go false false u is a b h = absurd (false≢true h)
    go false true false is a b h = absurd (false≢true h)
    go false true true is a b h = inr (inl (rw (← eqb-true ins i a, ← eqb-true val v b) h))

-- of the host before and after any call
pub summary_grows : (p : Plan) (h : Host) (e : List ℕ) (i v : ℕ) → stands h.summary i v ≡ true → stands (called p leader h e).host.summary i v ≡ true
unfolding leader_step
summary_grows p h e i v stood = go (called p leader h e).answer
  where
    d : ℕ → ℕ → Bool
    d = decided p (messages p (called p leader h e).host.table)

    net : View
    net = view_table p (called p leader h e).host.network

    received : (b : Bool) (o : Outcome Wire.Message) → stands (cond b (marked_at d h.summary o) h.summary) i v ≡ true
    received true (accepted m) = marked_grows d h.summary i v m stood
    received true (refused number) = stood
    received false o = stood

    go : (o : Outcome Sent) → stands (summary_after d net e o h.summary) i v ≡ true
    go (accepted sent) = received (eqb (kind_of e) 4) (net.slot (slot_number e))
    go (refused number) = stood

module _ (p : Plan) (s : System) (g : Grounded p s) (e : List ℕ) where
  abbrev l : ℕ
  l = who_of e

  abbrev inbox : List ℕ
  inbox = (s.hosts leader l).table

  abbrev summary : List ℕ
  summary = (s.hosts leader l).summary

  abbrev network : List ℕ
  network = (s.hosts leader l).network

  abbrev r : Left
  r = called p leader (s.hosts leader l) e

  abbrev a_state : ℕ → ℕ → AState
  a_state = (published p s).a_state

  abbrev seen : Message → Type 0
  seen = set_of (messages p inbox)

  -- the system after it, by what was sent
  abbrev next : List Wire.Message → System
  next sent = after s leader l r sent

  -- an action of module PaxosCommit with Decide widened
  abbrev Acts : List Wire.Message → Type 0
  Acts sent = WidenedNext (is_rm p) (is_acceptor p) (is_majority_set p) (published p s) (published p (next sent))

  new_leader : (sent : List Wire.Message) → (next sent).hosts leader l ≡ r.host
  new_leader sent = new_host s.hosts leader l r.host

  new_table : (sent : List Wire.Message) → ((next sent).hosts leader l).table ≡ r.host.table
  new_table sent = ap (λ (h : Host). h.table) (new_leader sent)

  other_leader : (sent : List Wire.Message) (k : ℕ) → (k ≡ l → ⊥) → (next sent).hosts leader k ≡ s.hosts leader k
  other_leader sent = except_other (s.hosts leader) l r.host

  kept_tables : r.host.table ≡ inbox → (sent : List Wire.Message) (k : ℕ) → ((next sent).hosts leader k).table ≡ (s.hosts leader k).table
  kept_tables same sent k = except_cases (λ j u. u.table ≡ (s.hosts leader j).table) (s.hosts leader) l r.host same (λ j other. refl) k

  kept_summaries : r.host.summary ≡ summary → (sent : List Wire.Message) (k : ℕ) → ((next sent).hosts leader k).summary ≡ (s.hosts leader k).summary
  kept_summaries same sent k =
      except_cases (λ j u. u.summary ≡ (s.hosts leader j).summary) (s.hosts leader) l r.host same (λ j other. refl) k

  -- m was sent, and no inbox has to have it
  sends : (m : Wire.Message) → Sends p network m r.answer r.host.network → r.host.table ≡ inbox → r.host.summary ≡ summary
      → Unowned p (message_of m) → Acts (m ∷ []) → Claim p s leader l r (sent_by p r)
  sends m sent same unmarked =
      claim_sends p s g.tied leader l r m sent (λ k. ap (messages p) (kept_tables same (m ∷ []) k))
      (λ k. summary_same leader (s.hosts leader k) _ (kept_summaries unmarked (m ∷ []) k))

  rows : InOrder (leader_rows p inbox summary network e (state_of p network (row s) a_state)) r.answer
  rows = leader_answers p inbox summary network e (row s) a_state

  module _ (taken : Accepted r.answer) where
    -- row 10
    owned : (kind_of e ≡ 5) ⊎ (kind_of e ≡ 6) → owns p l (low_of e) ≡ true
    owned kind = go (owns p l (low_of e)) refl
      where
        go : (b : Bool) → owns p l (low_of e) ≡ b → owns p l (low_of e) ≡ true
        go true h = h
        go false h =
            absurd (rows.accepts.0 taken 10 (applies_row (leader_rows p inbox summary network e (state_of p network (row s) a_state)) 10 (here ((kind, h), tt))))

    -- row 8
    used : kind_of e ≡ 4 → length (messages p network) ≤ slot_number e → ⊥
    used kind unused =
        rows.accepts.0 taken 8 (applies_row (leader_rows p inbox summary network e (state_of p network (row s) a_state)) 8 (here ((kind, unused), tt)))

    instance : 4 < kind_of e → kind_of e ≤ 6 → is_rm p (high_of e)
    instance = leader_instance p inbox summary network e taken

    -- kinds 5 to 8
    unmarked : (kind_of e ≡ 4 → ⊥) → r.host.summary ≡ summary
    unmarked = leader_unmarked p inbox summary network e taken

    announced : (i v : ℕ) (m : Wire.Message) (box : List ℕ) → Stores p inbox m box
        → (decided p (messages p box) i v ≡ true) ⊎ ((v ≡ 2) × (m ≡ Phase2a i 0 2)) → DecidedOrDeclinedIn p (set_of (messages p box)) i (val_of v)
    announced i v m box stores (inl d) = inl (decided_Decided p (messages p box) i v d)
    announced i v m box stores (inr (two, is)) =
        inr (ap val_of two, subst (set_of (messages p box)) (ap message_of is) (stores_new p inbox box m stores))

    receives : kind_of e ≡ 4 → (m : Wire.Message) → message_at (messages p network) (slot_number e) ≡ accepted m → Claim p s leader l r (sent_by p r)
    receives kind m slot =
        let (silent, same, stores, marks) = leader_receipt p inbox summary network e (row s) a_state taken kind m slot in
        let own = own_took p inbox summary network e taken in
        let size = summary_length p.rms summary (own_right p inbox summary network e taken) in
        let range = slot_in_range p network own.tables.network_whole own.tables.network_ordered (slot_number e) m slot in
        let gained = marked_new (decided p (messages p r.host.table)) p summary size m range in
        rw silent (
          inr (refl, refl, λ x. (λ h. h, λ h. h)),
          tied_inbox p s g.tied (next []) (λ x h. h)
              (nets_quiet p s g.tied leader l r (λ x h. g.tied.networks leader l x (rw same at h)))
              l m (rw (new_table []) stores) (other_leader []) (m, g.tied.networks leader l m (member_at _ _ m slot), refl)
              (rw (new_leader [], marks) (λ i v value h. ⊎_elim inl (λ new. inr (announced i v m r.host.table stores new)) (gained i v value h)))
              (λ k b i v o h. inl h),
        )

    opens : kind_of e ≡ 5 → Claim p s leader l r (sent_by p r)
    opens kind =
        let (local, sent, same) = leader_phase1a p inbox summary network e (row s) a_state taken kind in
        let m : Wire.Message = Phase1a (high_of e) (low_of e) in
        let acts : Phase1aAction p (low_of e) (high_of e) (published p s) (published p (next (m ∷ []))) = (wire_adds s.wire m, refl, refl) in
        sends m sent same (unmarked (λ four. omega arith)) (unowned_other p _ refl)
        (inl (inr (inl (low_of e, high_of e, instance (omega arith) (omega arith), owns_above p (low_of e) l (owned (inl kind)), inl acts))))

    commits : kind_of e ≡ 7 → Claim p s leader l r (sent_by p r)
    commits kind =
        let ((all, joined, row_same, acc-same), sent, same) = leader_commit p inbox summary network e (row s) a_state taken kind in
        let acts : CommitAction p seen (published p s) (published p (next (Decision 1 ∷ [])))
        = (λ i member. g.tied.standing l i 1 (inl refl) (all i member), wire_adds s.wire (Decision 1), refl, refl) in
        sends (Decision 1) sent same (unmarked (λ four. omega arith)) (unowned_other p _ refl)
        (inl (inr (inr (inl (decide_commit_of_part g.inv seen (g.tied.inboxes l) _ acts)))))

    aborts : kind_of e ≡ 8 → Claim p s leader l r (sent_by p r)
    aborts kind =
        let (((i, member, some), joined, row_same, acc-same), sent, same) = leader_abort p inbox summary network e (row s) a_state taken kind in
        let acts : AbortAction p seen (published p s) (published p (next (Decision 2 ∷ [])))
        = ((i, member, g.tied.standing l i 2 (inr refl) some), wire_adds s.wire (Decision 2), refl, refl) in
        sends (Decision 2) sent same (unmarked (λ four. omega arith)) (unowned_other p _ refl)
        (inr (decide_abort_of_part g.inv seen (g.tied.inboxes l) _ acts))

    -- the leader has no 2a for the instance and its ballot, so nobody has sent one, and no other leader has to have it
    proposes : kind_of e ≡ 6 → Claim p s leader l r (sent_by p r)
    proposes kind = go (leader_phase2a p inbox summary network e (row s) a_state taken kind)
      where
        m : Wire.Message
        m = proposed p inbox e

        go : (acts : Phase2aAction p seen (low_of e) (high_of e) (state_of p network (row s) a_state) (state_of p r.host.network (row s) a_state))
            × (phase2a (high_of e) (low_of e) acts.1.2 ≡ message_of (proposed p inbox e))
            × Sends p network (proposed p inbox e) r.answer r.host.network
            × Stores p inbox (proposed p inbox e) r.host.table → Claim p s leader l r (sent_by p r)
        go ((unsent, (MS, many, v, heard, value, joined), row_same, acc-same), is, sent, stores) =
            claim_sent p s g.tied leader l r m sent (
              inl acted,
              tied_inbox p s g.tied (next (m ∷ [])) (wire_old s.wire (m ∷ [])) (nets_sent p s g.tied leader l r m sent) l m (rw (new_table (m ∷ [])) stores)
                  (other_leader (m ∷ [])) ((wire_adds s.wire m _).1 (inr refl))
                  (λ i w value h. inl (rw (kept_summaries (unmarked (λ four. omega arith)) (m ∷ []) l) at h))
                  (λ k b i w o h. ⊎_elim inl (λ d. inr (d, owner k b i w o d)) ((wire_adds s.wire m _).0 h)),
            )
          where
            adds : Send (is_rm p) (is_acceptor p) (is_majority_set p) (phase2a (high_of e) (low_of e) v) (published p s) (published p (next (m ∷ [])))
            adds = subst (λ (y : Message). (x : Message) → set_of (m ∷ s.wire) x ↔ (set_of s.wire x ⊎ (x ≡ y))) (sym is) (wire_adds s.wire m)

            acts : Phase2aAction p seen (low_of e) (high_of e) (published p s) (published p (next (m ∷ [])))
            acts = (unsent, (MS, many, v, heard, value, adds), refl, refl)

            mine : owns p l (low_of e) ≡ true
            mine = owned (inr kind)

            acted : Acts (m ∷ [])
            acted =
                inl (inr (inl (
                  low_of e,
                  high_of e,
                  instance (omega arith) (omega arith),
                  owns_above p (low_of e) l mine,
                  inr (phase2a_of_part g.inv seen (g.tied.inboxes l) _ (low_of e) (high_of e) (λ w h. unsent w (g.tied.own_2a l (low_of e) mine (high_of e) w h)) acts),
                )))

            owner : (k b i : ℕ) (w : Val) → owns p k b ≡ true → phase2a i b w ≡ message_of m → k ≡ l
            owner k b i w o d = let f = d ∙ sym is in let low : b ≡ low_of e = cc in one_owner p (low_of e) k l (rw low at o) mine

    pub leader_claim : Claim p s leader l r (sent_by p r)
    leader_claim = go (ℕ_discrete (kind_of e) 4) (ℕ_discrete (kind_of e) 5) (ℕ_discrete (kind_of e) 6) (ℕ_discrete (kind_of e) 7)
      where
        took : Took p (stands summary) inbox network e
        took = own_took p inbox summary network e taken

        go : Dec (kind_of e ≡ 4) → Dec (kind_of e ≡ 5) → Dec (kind_of e ≡ 6) → Dec (kind_of e ≡ 7) → Claim p s leader l r (sent_by p r)
        go (yes k) d5 d6 d7 =
            ⊎_elim (λ none. absurd (used k (unused_past (messages p network) (slot_number e) none))) (λ (m, slot). receives k m slot)
            (message_at_cases (messages p network) (slot_number e))
        go (no n4) (yes k) d6 d7 = opens k
        go (no n4) (no n5) (yes k) d7 = proposes k
        go (no n4) (no n5) (no n6) (yes k) = commits k
        go (no n4) (no n5) (no n6) (no n7) =
            let least = took.least in
            let last = (event_parts p e took.event).kind in
            aborts (omega arith)
