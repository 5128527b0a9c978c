-- The event call beside the call without a summary.
--     for_all_ext, for_some_ext       tests that agree below a count
--     Agree, leader_ext, role_ext     where two readings of Decided agree, a leader's step and a role's step are the same
--     lent_plain                      with a sound summary rows 1 to 6 and 20 are rows 1 to 6
--     role_summary                    a role's step leaves the summary
--     plain_with                      the call without a summary neither reads nor changes one
--     record_marked                   where the summary is sound and says of each leader what its inbox says, the event call is the call without a
--                                     summary, and then the mark
--     plain_same                      so both calls answer the same and leave the same in the four tables
-- Assumes nothing.
use Prim.Native.Nat.{ℕ, zero, suc, ◌*◌, ◌<◌}
use Rattle.std.specs.Prelude.{Bool, not, List, ◌⊎◌, ◌≡◌}
use Rattle.std.proofs.Math.Bool.{true, false, cond}
use Rattle.std.proofs.Common.{inl, inr, sym, arith}
use Rattle.std.proofs.Math.Path.{refl, ap}
use Rattle.std.proofs.Math.Dec.{leb, eqb}
use borrow.Author.Tests.{leb-false, eqb-false}
use Rattle.message.specs.declared.Plan.{Plan}
use Rattle.message.specs.Outcome.{Outcome, accepted, refused, and_then, refuse_if}
use Rattle.slots.specs.Table.{messages}
use Rattle.slots.specs.View.{view_table}
use Rattle.event.specs.Event.{kind_of, who_of, is_event}
use Rattle.event.specs.Event.Laws.{leader_who}
use Rattle.inbox.specs.Inbox.{decided, for_all, for_some}
use Rattle.rm.specs.Rm.{rm_step}
use Rattle.acceptor.specs.Acceptor.{acceptor_step}
use Rattle.leader.specs.Leader.{is_summary, leader_kind, leader_verdict_by, leader_step_by}
use Rattle.record.specs.Record.{Tables, with_summary, are_lengths, inbox_of, record_judged, lent_judged, RecordStep}
use Rattle.record.specs.Record.{on_states, on_votes, on_inbox, role_step, settled, by_summary, by_inbox, marking, record_step, plain_step}

module _ (f g : ℕ → Bool) where
  pub for_all_ext : (n : ℕ) → ((i : ℕ) → i < n → f i ≡ g i) → for_all n f ≡ for_all n g
  unfolding for_all
  for_all_ext zero same = refl
  for_all_ext (suc n) same = rw (same n (omega arith), for_all_ext n (λ i h. same i (omega arith)))

  pub for_some_ext : (n : ℕ) → ((i : ℕ) → i < n → f i ≡ g i) → for_some n f ≡ for_some n g
  unfolding for_some
  for_some_ext zero same = refl
  for_some_ext (suc n) same = rw (same n (omega arith), for_some_ext n (λ i h. same i (omega arith)))

-- two readings agree on both values of every instance
abbrev pub Agree : Plan → (ℕ → ℕ → Bool) → (ℕ → ℕ → Bool) → Type 0
Agree p f g = (i v : ℕ) → i < p.rms → (v ≡ 1) ⊎ (v ≡ 2) → f i v ≡ g i v

pub leader_ext : (p : Plan) (f g : ℕ → ℕ → Bool) (inbox network e : List ℕ) → Agree p f g
    → leader_step_by p f inbox network e ≡ leader_step_by p g inbox network e
unfolding leader_step_by leader_verdict_by leader_kind
leader_ext p f g inbox network e same =
    rw (
      for_all_ext (λ i. f i 1) (λ i. g i 1) p.rms (λ i h. same i 1 h (inl refl)),
      for_some_ext (λ i. f i 2) (λ i. g i 2) p.rms (λ i h. same i 2 h (inr refl)),
    )

pub lent_plain : (p : Plan) (t : Tables) → is_summary (p.rms * p.leaders) t.summary ≡ true → lent_judged p t ≡ record_judged p t
unfolding lent_judged and_then refuse_if
lent_plain p t right = rw right (go (record_judged p t))
  where
    go : (o : Outcome (Unit {0})) → and_then {B = Unit {0}} o (λ _. accepted tt) ≡ o
    go (accepted a) = refl
    go (refused number) = refl

module _ (p : Plan) (t : Tables) (e : List ℕ) where
  pub role_ext : (f g : ℕ → ℕ → ℕ → Bool) → ((l : ℕ) → l < p.leaders → Agree p (f l) (g l)) → is_event p e ≡ true → role_step p f t e ≡ role_step p g t e
  unfolding role_step
  role_ext f g same event = go (leb (kind_of e) 2) (eqb (kind_of e) 3) refl refl
    where
      go : (a b : Bool) → leb (kind_of e) 2 ≡ a → eqb (kind_of e) 3 ≡ b
          → cond a (on_states t (rm_step p t.states t.network e))
          (cond b (on_votes t (acceptor_step p t.votes t.network e))
          (on_inbox p (who_of e) t (leader_step_by p (f (who_of e)) (inbox_of p t.inboxes (who_of e)) t.network e)))
          ≡ cond a (on_states t (rm_step p t.states t.network e))
          (cond b (on_votes t (acceptor_step p t.votes t.network e))
          (on_inbox p (who_of e) t (leader_step_by p (g (who_of e)) (inbox_of p t.inboxes (who_of e)) t.network e)))
      go true b rm acceptor = refl
      go false true rm acceptor = refl
      go false false rm acceptor =
          let above = leb-false (kind_of e) 2 rm in
          let member = leader_who p e event (omega (arith, above, eqb-false (kind_of e) 3 acceptor)) in
          ap (on_inbox p (who_of e) t)
          (leader_ext p (f (who_of e)) (g (who_of e)) (inbox_of p t.inboxes (who_of e)) t.network e (same (who_of e) member))

  pub role_summary : (by : ℕ → ℕ → ℕ → Bool) → (role_step p by t e).tables.summary ≡ t.summary
  unfolding role_step
  role_summary by = go (leb (kind_of e) 2) (eqb (kind_of e) 3)
    where
      go : (a b : Bool) → (cond a (on_states t (rm_step p t.states t.network e))
          (cond b (on_votes t (acceptor_step p t.votes t.network e))
          (on_inbox p (who_of e) t (leader_step_by p (by (who_of e)) (inbox_of p t.inboxes (who_of e)) t.network e)))).tables.summary ≡ t.summary
      go true b = refl
      go false true = refl
      go false false = refl

  -- the step with other bytes for the summary
  abbrev beside : RecordStep → List ℕ → RecordStep
  beside r summary = record { answer = r.answer; tables = with_summary r.tables summary }

  role_with : (by : ℕ → ℕ → ℕ → Bool) (summary : List ℕ) → role_step p by (with_summary t summary) e ≡ beside (role_step p by t e) summary
  unfolding role_step
  role_with by summary = go (leb (kind_of e) 2) (eqb (kind_of e) 3)
    where
      go : (a b : Bool) → cond a (on_states (with_summary t summary) (rm_step p t.states t.network e))
          (cond b (on_votes (with_summary t summary) (acceptor_step p t.votes t.network e))
          (on_inbox p (who_of e) (with_summary t summary) (leader_step_by p (by (who_of e)) (inbox_of p t.inboxes (who_of e)) t.network e)))
          ≡ beside (cond a (on_states t (rm_step p t.states t.network e))
          (cond b (on_votes t (acceptor_step p t.votes t.network e))
          (on_inbox p (who_of e) t (leader_step_by p (by (who_of e)) (inbox_of p t.inboxes (who_of e)) t.network e)))) summary
      go true b = refl
      go false true = refl
      go false false = refl

  pub plain_with : (summary : List ℕ) → plain_step p (with_summary t summary) e
      ≡ record { answer = (plain_step p t e).answer; tables = with_summary (plain_step p t e).tables summary }
  unfolding plain_step record_judged are_lengths and_then refuse_if
  plain_with summary = go (record_judged p t) (is_event p e)
    where
      go : (o : Outcome (Unit {0})) (b : Bool)
          → settled (with_summary t summary) (and_then o (λ _. refuse_if (not b) 7 (accepted (role_step p (by_inbox p t) (with_summary t summary) e))))
          ≡ beside (settled t (and_then o (λ _. refuse_if (not b) 7 (accepted (role_step p (by_inbox p t) t e))))) summary
      go (refused number) b = refl
      go (accepted a) false = refl
      go (accepted a) true = role_with (by_inbox p t) summary

  -- row 20 does not apply, and each bit is what its inbox says
  module _ (right : is_summary (p.rms * p.leaders) t.summary ≡ true)
      (same : (l : ℕ) → l < p.leaders → (i v : ℕ) → i < p.rms → (v ≡ 1) ⊎ (v ≡ 2) → by_summary p t l i v ≡ by_inbox p t l i v) where
    -- the event call: as without a summary, and then marked
    pub record_marked : record_step p t e
        ≡ settled t (and_then (record_judged p t) (λ _.
        refuse_if (not (is_event p e)) 7
        (accepted (marking p (λ inbox. decided p (messages p inbox)) (view_table p) e (role_step p (by_inbox p t) t e)))))
    unfolding record_step refuse_if
    record_marked = rw (lent_plain p t right) (go (is_event p e) refl)
      where
        mark : RecordStep → RecordStep
        mark r = marking p (λ inbox. decided p (messages p inbox)) (view_table p) e r

        go : (b : Bool) → is_event p e ≡ b
            → settled t (and_then (record_judged p t) (λ _. refuse_if (not b) 7 (accepted (mark (role_step p (by_summary p t) t e)))))
            ≡ settled t (and_then (record_judged p t) (λ _. refuse_if (not b) 7 (accepted (mark (role_step p (by_inbox p t) t e)))))
        go false event = refl
        go true event =
            ap (λ (r : RecordStep). settled t (and_then (record_judged p t) (λ _. accepted (mark r)))) (role_ext (by_summary p t) (by_inbox p t) same event)

    pub plain_same : ((record_step p t e).answer ≡ (plain_step p t e).answer) × (with_summary (record_step p t e).tables t.summary ≡ (plain_step p t e).tables)
    unfolding plain_step and_then refuse_if
    plain_same = rw record_marked (go (record_judged p t) (is_event p e))
      where
        mark : RecordStep → RecordStep
        mark r = marking p (λ inbox. decided p (messages p inbox)) (view_table p) e r

        role : RecordStep
        role = role_step p (by_inbox p t) t e

        go : (o : Outcome (Unit {0})) (b : Bool)
            → ((settled t (and_then o (λ _. refuse_if (not b) 7 (accepted (mark role))))).answer ≡ (settled t (and_then o (λ _. refuse_if (not b) 7 (accepted role)))).answer)
            × (with_summary (settled t (and_then o (λ _. refuse_if (not b) 7 (accepted (mark role))))).tables t.summary
            ≡ (settled t (and_then o (λ _. refuse_if (not b) 7 (accepted role)))).tables)
        go (refused number) b = (refl, refl)
        go (accepted a) false = (refl, refl)
        go (accepted a) true = (refl, ap (with_summary role.tables) (sym (role_summary (by_inbox p t))))
