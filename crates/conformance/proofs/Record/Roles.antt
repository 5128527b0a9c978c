-- "Answer and tables are as in the event call": a role's own call and the event call agree where the tables that the role is not lent are
-- sound.
--     rm_agrees, acceptor_agrees, leader_agrees
--     sound_tables     on a sound record the tables not lent are sound
-- Assumes nothing.
use Prim.Native.Nat.{ℕ, zero, suc, ◌*◌, ◌%◌, ◌≤◌, ◌<◌}
use Rattle.std.specs.Prelude.{Bool, not, ◌&&◌, List, ◌≡◌, eqb, length}
use Rattle.std.proofs.Math.Bool.{true, false}
use Rattle.std.proofs.Math.Path.{refl, sym, ap}
use Rattle.std.proofs.Common.{◌∙◌, arith}
use Rattle.std.proofs.Math.Decide.{ℕ_discrete}
use Rattle.std.proofs.Math.Nat.{mul-mod_left}
use Rattle.std.proofs.Math.Dec.{leb}
use borrow.Author.Tests.{eq-eqb, not-false}
use Rattle.message.specs.declared.Plan.{Plan}
use Rattle.message.specs.Outcome.{Outcome, accepted, refused, and_then, refuse_if}
use Rattle.message.proofs.Outcome.Laws.{refuse_if_accepted, both}
use Rattle.message.specs.Plan.{is_plan}
use Rattle.slots.specs.All.{all}
use Rattle.slots.proofs.All.Laws.{all_append}
use Rattle.slots.specs.Table.{is_table_length, is_table, messages}
use Rattle.slots.specs.View.{view_table}
use Rattle.change.specs.declared.Change.{Change}
use Rattle.change.specs.Change.{applied}
use Rattle.event.specs.Event.{kind_of, who_of, is_event}
use Rattle.inbox.specs.Inbox.{decided, for_all}
use Rattle.inbox.specs.Inbox.Quantifiers.{for_all_all, all_for_all}
use Rattle.rm.specs.Rm.{are_states, rm_judged, rm_verdict, rm_step}
use Rattle.votes.specs.Votes.{are_votes}
use Rattle.acceptor.specs.Acceptor.{acceptor_judged, acceptor_verdict, acceptor_step}
use Rattle.summary.specs.Summary.Laws.{summary_length}
use Rattle.leader.specs.Leader.{is_summary, stands, leader_judged, leader_verdict_by, leader_marked, leader_step}
use Rattle.leader.specs.Leader.Sound as LeaderSound
use Rattle.record.specs.Record.{Tables, inbox_size, inbox_of, are_lengths, are_inboxes, record_judged, lent_judged, RecordStep, record_refusal}
use Rattle.record.specs.Record.{on_states, on_votes, settled, record_step}
use Rattle.record.specs.Record.Parts.{length_inbox_of, with_own}
use Rattle.record.specs.Record.Laws.{sound}
use Rattle.record.specs.Record.Summary.{part_sound, lent_sound}
use Rattle.conformance.specs.Record.{own_inbox, own_summary, on_own, inboxes_up_to, SoundStates, SoundVotes, SoundInboxes, SoundSummary, SoundOthers}
use Rattle.conformance.proofs.Record.Words.{inboxes_joined}
use Rattle.conformance.proofs.Record.Steps.{rm_part, acceptor_part, leader_part, marked_step, role_rm, role_acceptor, role_leader}

-- the chain of `record_judged`: the plan, the lengths of W, Q and N, the parts of I and their length, and the four contents
abbrev Chain : Bool → Bool → Bool → Bool → Bool → Bool → Bool → Bool → Bool → Bool → Outcome (Unit {0})
Chain plan w q n i s states votes network inboxes =
    refuse_if (not plan) 1
    (refuse_if (not (w && q && n && i && s)) 2
    (refuse_if (not states) 3
    (refuse_if (not votes) 4
    (refuse_if (not network) 5
    (refuse_if (not inboxes) 6
    (accepted tt))))))

-- where the tables not lent are sound, it is the chain of the role
chain_rm : (plan w n states network : Bool) → Chain plan w true n true true states true network true
    ≡ refuse_if (not plan) 1 (refuse_if (not w) 2 (refuse_if (not n) 2 (refuse_if (not states) 3 (refuse_if (not network) 5 (accepted tt)))))
unfolding refuse_if
chain_rm plan false n states network = refl
chain_rm plan true false states network = refl
chain_rm plan true true states network = refl

chain_acceptor : (plan q n votes network : Bool) → Chain plan true q n true true true votes network true
    ≡ refuse_if (not plan) 1 (refuse_if (not q) 2 (refuse_if (not n) 2 (refuse_if (not votes) 4 (refuse_if (not network) 5 (accepted tt)))))
unfolding refuse_if
chain_acceptor plan false n votes network = refl
chain_acceptor plan true false votes network = refl
chain_acceptor plan true true votes network = refl

chain_leader : (plan n s network inbox : Bool) → Chain plan true true n true s true true network inbox
    ≡ refuse_if (not plan) 1 (refuse_if (not s) 2 (refuse_if (not n) 2 (refuse_if (not network) 5 (refuse_if (not inbox) 6 (accepted tt)))))
unfolding refuse_if
chain_leader plan false false network inbox = refl
chain_leader plan false true network inbox = refl
chain_leader plan true false network inbox = refl
chain_leader plan true true network inbox = refl

-- an event call on a record that is judged as the role's own tables are, and what the role answers
module _ (t : Tables) (e : List ℕ) (p : Plan) (o : Outcome (Unit {0})) (step : RecordStep) (next : Outcome Change) (tables : Outcome Change → RecordStep)
    (keeps : (k : ℕ) → tables (refused k) ≡ record_refusal t k) (no_event : is_event p e ≡ false → o ≡ accepted tt → next ≡ refused 7)
    (same : is_event p e ≡ true → o ≡ accepted tt → step ≡ tables (and_then o (λ _. next))) where
  agree : settled t (and_then o (λ _. refuse_if (not (is_event p e)) 7 (accepted step))) ≡ tables (and_then o (λ _. next))
  unfolding and_then refuse_if
  agree = go o (is_event p e) refl refl
    where
      go : (j : Outcome (Unit {0})) (b : Bool) → o ≡ j → is_event p e ≡ b
          → settled t (and_then j (λ _. refuse_if (not b) 7 (accepted step))) ≡ tables (and_then j (λ _. next))
      go (refused k) b is event = sym (keeps k)
      go (accepted a) false is event = sym (ap tables (no_event event is) ∙ keeps 7)
      go (accepted a) true is event = same event is ∙ ap (λ (j : Outcome (Unit {0})). tables (and_then j (λ _. next))) is

-- a judged plan is one
plan_judged : {A : Type 0} (b : Bool) (k : ℕ) (rest : Outcome A) (a : A) → refuse_if (not b) k rest ≡ accepted a → b ≡ true
plan_judged b k rest a h = not-false b (refuse_if_accepted _ _ _ _ h).0

module _ (p : Plan) (t : Tables) (e : List ℕ) where
  -- where the summary is sound, the four tables alone are judged
  lent_as_four : SoundSummary p t → lent_judged p t ≡ record_judged p t
  unfolding lent_judged refuse_if and_then
  lent_as_four right = rw right (go (record_judged p t))
    where
      go : (o : Outcome (Unit {0})) → and_then o (λ _. accepted (tt {0})) ≡ o
      go (accepted a) = refl
      go (refused k) = refl

  module _ (votes : SoundVotes p t) (inboxes : SoundInboxes p t) where
    judged_as_rm : record_judged p t ≡ rm_judged p t.states t.network
    unfolding record_judged rm_judged are_lengths are_inboxes
    judged_as_rm =
        let all = all_for_all (λ l. is_table p (inbox_of p t.inboxes l)) p.leaders inboxes.2 in
        rw (eq-eqb _ _ votes.0, votes.1, eq-eqb _ _ inboxes.0, inboxes.1, all)
        (chain_rm (is_plan p) (eqb (length t.states) p.rms) (is_table_length (length t.network)) (are_states t.states) (is_table p t.network))

    pub rm_agrees : SoundSummary p t → kind_of e ≤ 2 → record_step p t e ≡ on_states t (rm_part p t e)
    unfolding record_step rm_step rm_verdict rm_judged refuse_if
    rm_agrees right small =
        rw (lent_as_four right, judged_as_rm)
        (agree t e p (rm_judged p t.states t.network) (marked_step p t e) (rm_verdict p t.states (view_table p t.network) e)
        (λ o. on_states t (applied p t.states t.network o)) (λ k. refl)
        (λ event is. rw (plan_judged (is_plan p) 1 _ tt is, event)) (λ event is. role_rm p t e small))

  module _ (states : SoundStates p t) (inboxes : SoundInboxes p t) where
    judged_as_acceptor : record_judged p t ≡ acceptor_judged p t.votes t.network
    unfolding record_judged acceptor_judged are_lengths are_inboxes
    judged_as_acceptor =
        let all = all_for_all (λ l. is_table p (inbox_of p t.inboxes l)) p.leaders inboxes.2 in
        rw (eq-eqb _ _ states.0, states.1, eq-eqb _ _ inboxes.0, inboxes.1, all)
        (chain_acceptor (is_plan p) (eqb (length t.votes) (3 * (p.rms * p.acceptors))) (is_table_length (length t.network)) (are_votes t.votes)
        (is_table p t.network))

    pub acceptor_agrees : SoundSummary p t → kind_of e ≡ 3 → record_step p t e ≡ on_votes t (acceptor_part p t e)
    unfolding record_step acceptor_step acceptor_verdict acceptor_judged refuse_if
    acceptor_agrees right kind =
        rw (lent_as_four right, judged_as_acceptor)
        (agree t e p (acceptor_judged p t.votes t.network) (marked_step p t e) (acceptor_verdict p t.votes (view_table p t.network) e)
        (λ o. on_votes t (applied p t.votes t.network o)) (λ k. refl)
        (λ event is. rw (plan_judged (is_plan p) 1 _ tt is, event)) (λ event is. role_acceptor p t e kind))

  -- one inbox decides, where the others are tables
  one_inbox : (l : ℕ) → l < p.leaders → SoundOthers p t l → are_inboxes p t.inboxes ≡ is_table p (inbox_of p t.inboxes l)
  unfolding are_inboxes
  one_inbox l member others = go (is_table p (inbox_of p t.inboxes l)) refl
    where
      each : is_table p (inbox_of p t.inboxes l) ≡ true → (k : ℕ) → k < p.leaders → is_table p (inbox_of p t.inboxes k) ≡ true
      each is k m = elim (ℕ_discrete k l) [ yes e ↦ rw e is | no n ↦ others.1 k m n ]

      go : (b : Bool) → is_table p (inbox_of p t.inboxes l) ≡ b → for_all p.leaders (λ k. is_table p (inbox_of p t.inboxes k)) ≡ b
      go true is = all_for_all _ p.leaders (each is)
      go false is = fails (for_all p.leaders (λ k. is_table p (inbox_of p t.inboxes k))) refl
        where
          fails : (b : Bool) → for_all p.leaders (λ k. is_table p (inbox_of p t.inboxes k)) ≡ b → b ≡ false
          fails true all = sym (for_all_all _ p.leaders all l member) ∙ is
          fails false all = refl

  -- one leader's bytes decide, where the others are sound
  up_to_all : (s : List ℕ) (l : ℕ) → ((k : ℕ) → k < l → all (λ b. leb b 3) (inbox_of p s k) ≡ true) → all (λ b. leb b 3) (inboxes_up_to p s l) ≡ true
  unfolding inboxes_up_to all
  up_to_all s zero each = refl
  up_to_all s (suc l) each =
      rw (
        all_append (λ b. leb b 3) (inboxes_up_to p s l) (inbox_of p s l),
        up_to_all s l (λ k m. each k (omega arith)),
        each l (omega arith),
      )

  one_summary : is_plan p ≡ true → (l : ℕ) → l < p.leaders → SoundOthers p t l
      → is_summary (p.rms * p.leaders) t.summary ≡ is_summary p.rms (inbox_of p t.summary l)
  unfolding is_summary
  one_summary plan l member others = go (is_summary p.rms (inbox_of p t.summary l)) refl
    where
      each : is_summary p.rms (inbox_of p t.summary l) ≡ true → (k : ℕ) → k < p.leaders → all (λ b. leb b 3) (inbox_of p t.summary k) ≡ true
      each is k m =
          let right : is_summary p.rms (inbox_of p t.summary k) ≡ true = elim (ℕ_discrete k l) [ yes e ↦ rw e is | no n ↦ others.3 k m n ] in
          (both (eqb (length (inbox_of p t.summary k)) p.rms) (all (λ b. leb b 3) (inbox_of p t.summary k)) right).1

      go : (b : Bool) → is_summary p.rms (inbox_of p t.summary l) ≡ b → is_summary (p.rms * p.leaders) t.summary ≡ b
      go true is =
          let equal : length t.summary % p.leaders ≡ 0 = rw others.2 (mul-mod_left p.rms p.leaders) in
          let whole = rw (inboxes_joined p t.summary equal) at (up_to_all t.summary p.leaders (each is)) in
          rw (eq-eqb _ _ others.2, whole)
      go false is = fails (is_summary (p.rms * p.leaders) t.summary) refl
        where
          fails : (b : Bool) → is_summary (p.rms * p.leaders) t.summary ≡ b → b ≡ false
          fails true right = sym (part_sound p t.summary plan right l member) ∙ is
          fails false right = refl

  module _ (states : SoundStates p t) (votes : SoundVotes p t) (member : who_of e < p.leaders) (others : SoundOthers p t (who_of e)) where
    judged_as_leader : record_judged p t ≡ leader_judged p (own_inbox p t e) t.network
    unfolding record_judged leader_judged are_lengths
    judged_as_leader =
        let size = length_inbox_of p t.inboxes (who_of e) (omega arith) member in
        rw (eq-eqb _ _ states.0, states.1, eq-eqb _ _ votes.0, votes.1, eq-eqb _ _ others.0, one_inbox (who_of e) member others, size)
        (chain_leader (is_plan p) (is_table_length (length t.network)) (is_table_length (inbox_size p t.inboxes)) (is_table p t.network)
        (is_table p (own_inbox p t e)))

    -- the plan and the leader's tables, and row 20 of its bytes
    abbrev summary_row : {A : Type 0} → Outcome A → Outcome A
    summary_row rest = refuse_if (not (is_summary p.rms (own_summary p t e))) 20 rest

    abbrev own_judged : Outcome (Unit {0})
    own_judged = and_then (leader_judged p (own_inbox p t e) t.network) (λ _. summary_row (accepted tt))

    lent_as_leader : lent_judged p t ≡ own_judged
    unfolding lent_judged and_then
    lent_as_leader = rw judged_as_leader (go (leader_judged p (own_inbox p t e) t.network) refl)
      where
        go : (o : Outcome (Unit {0})) → leader_judged p (own_inbox p t e) t.network ≡ o
            → and_then o (λ _. refuse_if (not (is_summary (p.rms * p.leaders) t.summary)) 20 (accepted tt))
            ≡ and_then o (λ _. summary_row (accepted (tt {0})))
        go (accepted a) is =
            ap (λ (b : Bool). refuse_if (not b) 20 (accepted tt))
            (one_summary (LeaderSound.sound p (own_inbox p t e) t.network is).plan (who_of e) member others)
        go (refused k) is = refl

    abbrev verdict : Outcome Change
    verdict = leader_verdict_by p (stands (own_summary p t e)) (view_table p (own_inbox p t e)) (view_table p t.network) e

    -- the own call by what it is judged
    abbrev leaves : Outcome Change → RecordStep
    leaves o =
        on_own p (who_of e) t
        (leader_marked (λ box. decided p (messages p box)) (view_table p) (own_summary p t e) e (applied p (own_inbox p t e) t.network o))

    own_call : on_own p (who_of e) t (leader_part p t e) ≡ leaves (and_then own_judged (λ _. verdict))
    unfolding leader_step and_then refuse_if
    own_call = go (leader_judged p (own_inbox p t e) t.network) (is_summary p.rms (own_summary p t e))
      where
        go : (o : Outcome (Unit {0})) (b : Bool)
            → leaves (and_then o (λ _. refuse_if (not b) 20 verdict)) ≡ leaves (and_then (and_then o (λ _. refuse_if (not b) 20 (accepted (tt {0})))) (λ _. verdict))
        go (accepted a) true = refl
        go (accepted a) false = refl
        go (refused k) b = refl

    pub leader_agrees : 3 < kind_of e → record_step p t e ≡ on_own p (who_of e) t (leader_part p t e)
    unfolding record_step leader_verdict_by refuse_if
    leader_agrees large =
        rw lent_as_leader
        (agree t e p own_judged (marked_step p t e) verdict leaves (λ k. rw (with_own p t.inboxes (who_of e), with_own p t.summary (who_of e)))
        (λ event is. rw (plan is, event)) same)
        ∙ sym own_call
      where
        sound_both : own_judged ≡ accepted tt → (record_judged p t ≡ accepted tt) × SoundSummary p t
        sound_both is = lent_sound p t (lent_as_leader ∙ is)

        plan : own_judged ≡ accepted tt → is_plan p ≡ true
        plan is = (sound p t (sound_both is).0).plan

        same : is_event p e ≡ true → own_judged ≡ accepted tt → marked_step p t e ≡ leaves (and_then own_judged (λ _. verdict))
        same event is = let (four, right) = sound_both is in role_leader p t e (sound p t four) right event large ∙ own_call

-- on a sound record they are
pub sound_tables : (p : Plan) (t : Tables) → lent_judged p t ≡ accepted tt
    → SoundStates p t × SoundVotes p t × SoundInboxes p t × SoundSummary p t × ((l : ℕ) → SoundOthers p t l)
sound_tables p t j =
    let (four, right) = lent_sound p t j in
    let s = sound p t four in (
      (s.one_each, s.known_states),
      (s.three_each, s.known_votes),
      (s.equal_parts, s.part_whole, s.inboxes_ordered),
      right,
      λ l. (
        s.equal_parts,
        λ k m n. s.inboxes_ordered k m,
        summary_length _ t.summary right,
        λ k m n. part_sound p t.summary s.plan right k m,
      ),
    )
