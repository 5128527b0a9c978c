-- The event call answers the first of its rows that applies.
--     rm_rest, acceptor_rest, leader_rest     rows 8 to 14 on a sound record, by role
--     record_ruled                            all rows
-- Assumes nothing.
use Rattle.std.specs.Prelude.{ℕ, ◌*◌, ◌%◌, ◌≤◌, ◌<◌, Bool, not, ◌&&◌, List, ◌≡◌, length}
use Rattle.std.proofs.Math.Bool.{true, false}
use Rattle.std.proofs.lemmas.Bool.{false≢true, eqb-false}
use Rattle.std.proofs.Math.Logic.{inl, inr}
use Rattle.std.proofs.Common.{⊎_elim, sym, ◌∙◌, subst, arith}
use Rattle.std.proofs.Math.Path.{refl}
use Rattle.std.proofs.Math.Dec.{eqb}
use Rattle.message.specs.declared.Plan.{Plan}
use Rattle.message.specs.Outcome.{Outcome, accepted, refused, and_then, refuse_if}
use Rattle.message.specs.Plan.{is_plan}
use Rattle.message.specs.Rows.{Rows, end, guard, row, here, below}
use Rattle.message.proofs.Rows.Laws.{Ruled, ruled_skip}
use Rattle.slots.specs.Table.{is_table_length, is_table}
use Rattle.change.specs.declared.Sent.{Sent}
use Rattle.event.specs.Event.{kind_of, who_of, is_event}
use Rattle.inbox.specs.Inbox.Quantifiers.{for_all_all, for_all_fails}
use Rattle.rm.specs.Rm.{are_states}
use Rattle.votes.specs.Votes.{are_votes}
use Rattle.leader.specs.Leader.{is_summary}
use Rattle.record.specs.Record.{Tables, inbox_size, are_lengths, are_inboxes, record_judged, lent_judged, RecordStep, settled, record_step}
use Rattle.record.specs.Record.Laws.{Sound, Lengths, lengths, sound_of, inbox_whole}
use Rattle.event.specs.Event.Laws.{leader_who}
use Rattle.matching.specs.Reading.{rm_state_of, a_state_of}
use Rattle.matching.specs.Rm as Rm
use Rattle.matching.proofs.Rm.Ruled.{rm_ruled}
use Rattle.matching.specs.Acceptor as Acceptor
use Rattle.matching.proofs.Acceptor.Ruled.{acceptor_ruled}
use Rattle.matching.specs.Leader as Leader
use Rattle.matching.proofs.Leader.Own.{summary_wrong, summary_right, own_ruled}
use Rattle.matching.specs.Call.{SlotUnused, SlotHolds}
use Rattle.conformance.specs.Record.{record_state, own_inbox, own_summary, OwnStands, WrongLengths, NotTaken, Disabled, Full, record_rows, SoundSummary}
use Rattle.conformance.proofs.Record.Steps.{Role, rm, acceptor, leader, role_of, rm_part, acceptor_part, leader_part, marked_step}
use Rattle.conformance.proofs.Record.Steps.{role_rm, role_acceptor, own_right, role_leader}

module _ {A : Type 0} (o : Outcome A) where
  -- a row that does not apply, at the head of the rows
  tail : (k : ℕ) (T : Type 0) (rows : Rows) → (T → ⊥) → Ruled o (row k T rows) → Ruled o rows
  unfolding Ruled
  tail = go o
    where
      go : (o : Outcome A) (k : ℕ) (T : Type 0) (rows : Rows) → (T → ⊥) → Ruled o (row k T rows) → Ruled o rows
      go (accepted a) k T rows n r = r.1
      go (refused j) k T rows n (here h) = absurd (n h.1.0)
      go (refused j) k T rows n (below h) = h.1

  -- a row said in other words
  swap_guard : (k : ℕ) (T S : Type 1) (rows rows' : Rows) → (T → S) → (S → T) → (Ruled o rows → Ruled o rows')
      → Ruled o (guard k T rows) → Ruled o (guard k S rows')
  unfolding Ruled
  swap_guard = go o
    where
      go : (o : Outcome A) (k : ℕ) (T S : Type 1) (rows rows' : Rows) → (T → S) → (S → T) → (Ruled o rows → Ruled o rows')
          → Ruled o (guard k T rows) → Ruled o (guard k S rows')
      go (accepted a) k T S rows rows' there back next r = (λ h. r.0 (back h), next r.1)
      go (refused j) k T S rows rows' there back next (here h) = here (h.0, there h.1)
      go (refused j) k T S rows rows' there back next (below h) = below (λ s. h.0 (back s), next h.1)

  swap : (k : ℕ) (T S : Type 0) (rows rows' : Rows) → (T → S) → (S → T) → (Ruled o rows → Ruled o rows')
      → Ruled o (row k T rows) → Ruled o (row k S rows')
  swap k T S rows rows' there back next = swap_guard k _ _ rows rows' (λ h. (there h.0, tt)) (λ h. (back h.0, tt)) next

  -- a row that does not apply, put in
  skip : (k : ℕ) (T : Type 0) (rows rows' : Rows) → (T → ⊥) → (Ruled o rows → Ruled o rows') → Ruled o rows → Ruled o (row k T rows')
  skip k T rows rows' n next r = ruled_skip k _ rows' (λ h. n h.0) o (next r)

pub no_false : {b : Bool} → b ≡ true → b ≡ false → ⊥
no_false e d = false≢true (sym d ∙ e)

module _ (p : Plan) (t : Tables) where
  -- row 2 by its parts
  pub wrong_lengths : are_lengths p t ≡ false → WrongLengths p t
  unfolding are_lengths
  wrong_lengths h =
      go (eqb (length t.states) p.rms) (eqb (length t.votes) (3 * (p.rms * p.acceptors))) (is_table_length (length t.network))
      (eqb (length t.inboxes % p.leaders) 0) (is_table_length (inbox_size p t.inboxes)) refl refl refl refl refl h
    where
      go : (a b c d f : Bool) → eqb (length t.states) p.rms ≡ a → eqb (length t.votes) (3 * (p.rms * p.acceptors)) ≡ b
          → is_table_length (length t.network) ≡ c → eqb (length t.inboxes % p.leaders) 0 ≡ d → is_table_length (inbox_size p t.inboxes) ≡ f
          → (a && b && c && d && f) ≡ false → WrongLengths p t
      go false b c d f ea eb ec ed ef h = inl (eqb-false _ _ ea)
      go true false c d f ea eb ec ed ef h = inr (inl (eqb-false _ _ eb))
      go true true false d f ea eb ec ed ef h = inr (inr (inl ec))
      go true true true false f ea eb ec ed ef h = inr (inr (inr (inl (eqb-false _ _ ed))))
      go true true true true false ea eb ec ed ef h = inr (inr (inr (inr ef)))
      go true true true true true ea eb ec ed ef h = absurd (false≢true (sym h))

  pub right_lengths : are_lengths p t ≡ true → WrongLengths p t → ⊥
  right_lengths h = go (lengths p t h)
    where
      go : Lengths p t → WrongLengths p t → ⊥
      go l (inl n) = n l.one_each
      go l (inr (inl n)) = n l.three_each
      go l (inr (inr (inl n))) = no_false l.network_whole n
      go l (inr (inr (inr (inl n)))) = n l.equal_parts
      go l (inr (inr (inr (inr n)))) = no_false l.part_whole n

module _ (p : Plan) (t : Tables) (e : List ℕ) where
  -- rows 8 to 14
  abbrev Rest : Rows
  Rest =
      row 8 ((2 ≤ kind_of e) × (kind_of e ≤ 4) × SlotUnused p t.network e)
      (row 9 (NotTaken p t e)
      (row 10 (Leader.NotOwned p e)
      (row 11 ((kind_of e ≡ 2) × SlotHolds p t.network e (λ m. Rm.Contradicts (rm_state_of t.states (who_of e)) m))
      (guard 12 (Disabled p t e)
      (row 13 (Full p t e)
      (row 14 (Leader.InboxFull p (own_inbox p t e) t.network e)
      end))))))

  -- a leader's rows 12, 13 and 14 are of its kinds
  leader_disabled : Leader.DisabledBy p (OwnStands p t e) (own_inbox p t e) e (record_state p t) → 3 < kind_of e
  leader_disabled (here h) = omega (arith, h.0)
  leader_disabled (below (here h)) = omega (arith, h.0)
  leader_disabled (below (below h)) = omega (arith, h.0)

  leader_full : Leader.Full p (own_inbox p t e) t.network e → 3 < kind_of e
  leader_full (inl h) = omega (arith, h.0)
  leader_full (inr (inl h)) = omega (arith, h.0)
  leader_full (inr (inr (inl h))) = omega (arith, h.0)
  leader_full (inr (inr (inr h))) = omega (arith, h.0)

  leader_inbox_full : Leader.InboxFull p (own_inbox p t e) t.network e → 3 < kind_of e
  leader_inbox_full (inl h) = omega (arith, h.0)
  leader_inbox_full (inr h) = omega (arith, h.0)

  -- each role's answer
  abbrev by_rm : Outcome Sent
  by_rm = (rm_part p t e).answer

  abbrev by_acceptor : Outcome Sent
  by_acceptor = (acceptor_part p t e).answer

  abbrev by_leader : Outcome Sent
  by_leader = (leader_part p t e).step.answer

  module _ (s : Sound p t) (right : SoundSummary p t) (event : is_event p e ≡ true) where
    rm_rest : kind_of e ≤ 2 → Ruled (rm_part p t e).answer Rest
    rm_rest small =
        swap by_rm 8 _ _ _ _ (λ h. (omega (arith, h.0), omega (arith, h.0), h.1)) (λ h. (omega (arith, h.0), h.2))
        (swap by_rm 9 _ _ _ _ inl (λ h. not_taken h)
        (skip by_rm 10 _ _ _ (λ h. ⊎_elim (λ k. omega arith) (λ k. omega arith) h.0)
        (swap by_rm 11 _ _ _ _ (λ h. h) (λ h. h)
        (swap_guard by_rm 12 _ _ _ _ here enabled
        (swap by_rm 13 _ _ _ _ inl room
        (skip by_rm 14 _ _ _ (λ h. omega (arith, leader_inbox_full h)) (λ r. r)))))))
        (tail by_rm 7 _ _ (λ h. ⊎_elim (no_false event) (λ k. omega arith) h)
        (tail by_rm 5 _ _ (no_false s.network_ordered)
        (tail by_rm 3 _ _ (no_false s.known_states)
        (tail by_rm 2 _ _ (λ h. ⊎_elim (λ n. n s.one_each) (no_false s.network_whole) h)
        (tail by_rm 1 _ _ (no_false s.plan) (rm_ruled p t.states t.network e (a_state_of p t.votes)))))))
      where
        not_taken : NotTaken p t e → (kind_of e ≡ 2) × SlotHolds p t.network e (λ m. Rm.is_decision m ≡ false)
        not_taken (inl h) = h
        not_taken (inr (inl h)) = absurd (omega (arith, h.0))
        not_taken (inr (inr h)) = absurd (omega (arith, h.0))

        enabled : Disabled p t e → Rm.Disabled p e (record_state p t)
        enabled (here h) = h
        enabled (below (here h)) = absurd (omega (arith, h.0))
        enabled (below (below h)) = absurd (omega (arith, leader_disabled h))

        room : Full p t e → Rm.Full p t.network e
        room (inl h) = h
        room (inr (inl h)) = absurd (omega (arith, h.0))
        room (inr (inr h)) = absurd (omega (arith, leader_full h))

    acceptor_rest : kind_of e ≡ 3 → Ruled by_acceptor Rest
    acceptor_rest kind =
        swap by_acceptor 8 _ _ _ _ (λ h. (omega arith, omega arith, h)) (λ h. h.2)
        (swap by_acceptor 9 _ _ _ _ (λ h. inr (inl (kind, h))) not_taken
        (skip by_acceptor 10 _ _ _ (λ h. ⊎_elim (λ k. omega arith) (λ k. omega arith) h.0)
        (skip by_acceptor 11 _ _ _ (λ h. omega (arith, h.0))
        (swap_guard by_acceptor 12 _ _ _ _ (λ h. below (here (kind, h))) enabled
        (swap by_acceptor 13 _ _ _ _ (λ h. inr (inl (kind, h))) room
        (skip by_acceptor 14 _ _ _ (λ h. omega (arith, leader_inbox_full h)) (λ r. r)))))))
        (tail by_acceptor 7 _ _ (λ h. ⊎_elim (no_false event) (λ n. n kind) h)
        (tail by_acceptor 5 _ _ (no_false s.network_ordered)
        (tail by_acceptor 4 _ _ (no_false s.known_votes)
        (tail by_acceptor 2 _ _ (λ h. ⊎_elim (λ n. n s.three_each) (no_false s.network_whole) h)
        (tail by_acceptor 1 _ _ (no_false s.plan) (acceptor_ruled p t.votes t.network e (rm_state_of t.states)))))))
      where
        not_taken : NotTaken p t e → SlotHolds p t.network e (λ m. Acceptor.is_taken m ≡ false)
        not_taken (inl h) = absurd (omega (arith, h.0))
        not_taken (inr (inl h)) = h.1
        not_taken (inr (inr h)) = absurd (omega (arith, h.0))

        enabled : Disabled p t e → Acceptor.Disabled p t.network e (record_state p t)
        enabled (here (here h)) = absurd (omega (arith, h.0))
        enabled (here (below h)) = absurd (omega (arith, h.0))
        enabled (below (here h)) = h.1
        enabled (below (below h)) = absurd (omega (arith, leader_disabled h))

        room : Full p t e → Acceptor.Full p t.votes t.network e
        room (inl (inl h)) = absurd (omega (arith, h.0))
        room (inl (inr h)) = absurd (omega (arith, h.0))
        room (inr (inl h)) = h.1
        room (inr (inr h)) = absurd (omega (arith, leader_full h))

    leader_rest : 3 < kind_of e → Ruled by_leader Rest
    leader_rest large =
        swap by_leader 8 _ _ _ _ (λ h. (omega (arith, h.0), omega (arith, h.0), h.1)) (λ h. (omega (arith, h.1), h.2))
        (swap by_leader 9 _ _ _ _ (λ h. inr (inr h)) not_taken
        (swap by_leader 10 _ _ _ _ (λ h. h) (λ h. h)
        (skip by_leader 11 _ _ _ (λ h. omega (arith, h.0))
        (swap_guard by_leader 12 _ _ _ _ (λ h. below (below h)) enabled
        (swap by_leader 13 _ _ _ _ (λ h. inr (inr h)) room
        (swap by_leader 14 _ _ _ _ (λ h. h) (λ h. h) (λ r. r)))))))
        (tail by_leader 7 _ _ (λ h. ⊎_elim (no_false event) (λ k. omega arith) h)
        (tail by_leader 20 _ _ (summary_right p.rms (own_summary p t e) (own_right p t e s right event large))
        (tail by_leader 6 _ _ (no_false (s.inboxes_ordered (who_of e) (leader_who p e event large)))
        (tail by_leader 5 _ _ (no_false s.network_ordered)
        (tail by_leader 2 _ _ (λ h. ⊎_elim (no_false (inbox_whole p t s (who_of e) (leader_who p e event large))) (no_false s.network_whole) h)
        (tail by_leader 1 _ _ (no_false s.plan)
        (own_ruled p (own_inbox p t e) (own_summary p t e) t.network e (rm_state_of t.states) (a_state_of p t.votes))))))))
      where
        not_taken : NotTaken p t e → (kind_of e ≡ 4) × SlotHolds p t.network e (λ m. Leader.is_received m ≡ false)
        not_taken (inl h) = absurd (omega (arith, h.0))
        not_taken (inr (inl h)) = absurd (omega (arith, h.0))
        not_taken (inr (inr h)) = h

        enabled : Disabled p t e → Leader.DisabledBy p (OwnStands p t e) (own_inbox p t e) e (record_state p t)
        enabled (here (here h)) = absurd (omega (arith, h.0))
        enabled (here (below h)) = absurd (omega (arith, h.0))
        enabled (below (here h)) = absurd (omega (arith, h.0))
        enabled (below (below h)) = h

        room : Full p t e → Leader.Full p (own_inbox p t e) t.network e
        room (inl (inl h)) = absurd (omega (arith, h.0))
        room (inl (inr h)) = absurd (omega (arith, h.0))
        room (inr (inl h)) = absurd (omega (arith, h.0))
        room (inr (inr h)) = h

    rest_ruled : Ruled (marked_step p t e).answer Rest
    rest_ruled = go (role_of e)
      where
        go : Role e → Ruled (marked_step p t e).answer Rest
        go (rm h) = subst (λ (r : RecordStep). Ruled r.answer Rest) (sym (role_rm p t e h)) (rm_rest h)
        go (acceptor h) = subst (λ (r : RecordStep). Ruled r.answer Rest) (sym (role_acceptor p t e h)) (acceptor_rest h)
        go (leader h) = subst (λ (r : RecordStep). Ruled r.answer Rest) (sym (role_leader p t e s right event h)) (leader_rest h)

  -- the chain of `record_step`, row by row
  module _ (next : Unit {0} → Outcome RecordStep) where
    first_row : (b : Bool) (k : ℕ) (T : Type 0) (rows : Rows) (rest : Outcome (Unit {0})) → (b ≡ false → T) → (b ≡ true → T → ⊥)
        → (b ≡ true → Ruled (settled t (and_then rest next)).answer rows)
        → Ruled (settled t (and_then (refuse_if (not b) k rest) next)).answer (row k T rows)
    unfolding Ruled refuse_if and_then
    first_row false k T rows rest holds fails go = here (refl, (holds refl, tt))
    first_row true k T rows rest holds fails go = skip (settled t (and_then rest next)).answer k T rows rows (fails refl) (λ r. r) (go refl)

  event_row : (b : Bool) → is_event p e ≡ b → (is_event p e ≡ true → Ruled (marked_step p t e).answer Rest)
      → Ruled (settled t (refuse_if (not b) 7 (accepted (marked_step p t e)))).answer (row 7 (is_event p e ≡ false) Rest)
  unfolding Ruled refuse_if
  event_row false is go = here (refl, (is, tt))
  event_row true is go = skip (marked_step p t e).answer 7 _ Rest Rest (no_false is) (λ r. r) (go is)

  -- the event's rows
  abbrev next : Unit {0} → Outcome RecordStep
  next _ = refuse_if (not (is_event p e)) 7 (accepted (marked_step p t e))

  -- row 20 before them
  abbrev lent : Unit {0} → Outcome RecordStep
  lent _ = and_then {A = Unit {0}} (refuse_if (not (is_summary (p.rms * p.leaders) t.summary)) 20 (accepted tt)) next

  lent_then : record_step p t e ≡ settled t (and_then (record_judged p t) lent)
  unfolding record_step lent_judged and_then
  lent_then = go (record_judged p t)
    where
      go : (o : Outcome (Unit {0}))
          → settled t (and_then (and_then {B = Unit {0}} o (λ _. refuse_if (not (is_summary (p.rms * p.leaders) t.summary)) 20 (accepted tt))) next)
          ≡ settled t (and_then o lent)
      go (accepted a) = refl
      go (refused k) = refl

  pub record_ruled : Ruled (record_step p t e).answer (record_rows p t e)
  unfolding record_judged and_then are_inboxes
  record_ruled =
      rw lent_then
      (first_row lent (is_plan p) 1 _ _ _ (λ h. h) no_false (λ plan.
      first_row lent (are_lengths p t) 2 _ _ _ (wrong_lengths p t) (right_lengths p t) (λ lengths.
      first_row lent (are_states t.states) 3 _ _ _ (λ h. h) no_false (λ states.
      first_row lent (are_votes t.votes) 4 _ _ _ (λ h. h) no_false (λ votes.
      first_row lent (is_table p t.network) 5 _ _ _ (λ h. h) no_false (λ network.
      first_row lent (are_inboxes p t.inboxes) 6 _ _ _ (for_all_fails _ p.leaders)
      (λ all h. no_false (for_all_all _ p.leaders all h.0 h.1) h.2) (λ inboxes.
      first_row next (is_summary (p.rms * p.leaders) t.summary) 20 _ _ (accepted tt) (summary_wrong _ t.summary) (summary_right _ t.summary) (λ right.
      event_row (is_event p e) refl (rest_ruled (sound_of p t plan lengths states votes network inboxes) right)))))))))
