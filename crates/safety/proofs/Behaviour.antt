-- The record implements module PaxosCommit as published, Decide widened for kind 8 (document 02, Paper 6), every condition read from msgs, which is N:
-- each list of calls from a fresh record is a behaviour of WidenedSpec, so the theorems of document 001 (paxos_commit's Theorems.antt) hold of it.
--     record_published       every event call after every list of calls is as specs/Behaviour.antt says
--     action_published       and every step that `Action` allows an accepted event: demand 2's actions are those of the module
--     tables_at, state_at    the tables, and the state, at time n: what the first n single calls of a list leave
--     record_behaviour       it is a behaviour of WidenedSpec
--     record_commits         so W is one of TCSpec
--     record_one_decision    and N never holds both Commit and Abort
--     record_declined        where a weight declines, its instance chooses nothing but aborted, and N never holds Commit
--     state_at_lem, published_means, sent_in_lem  what the definitions here say
-- Assumes nothing.
use Rattle.std.specs.Prelude.{ℕ, zero, suc, List, [], ◌∷◌, ◌⊎◌, ◌↔◌, ◌≡◌, refl, take}
use Rattle.std.proofs.Common.{inl, inr, ⊎_elim, ap}
use Rattle.message.specs.declared.Plan.{Plan}
use Rattle.message.specs.Outcome.{Outcome, accepted, refused}
use Rattle.change.specs.declared.Sent.{Sent}
use Rattle.event.specs.Event.{kind_of}
use Rattle.tcommit.specs.TCommit.{TCSpec}
use Rattle.paxos_commit.specs.PaxosCommit.{State, Val, aborted, Message, phase2a, Commit, Abort, PCNext, PCStep}
use Rattle.paxos_commit.specs.Widened.{WidenedNext, WidenedStep, WidenedSpec}
use Rattle.paxos_commit.proofs.Theorems.{widened_paxos_commit_implements, widened_one_decision, declined_aborts, declined_no_commit}
use Rattle.record.specs.Record.{Tables, record_step}
use Rattle.slots.specs.Table.{messages}
use Rattle.matching.specs.Reading.{is_rm, is_acceptor, is_majority_set, set_of, rm_state_of, a_state_of}
use Rattle.matching.proofs.Theorems.{majorities_meet}
use Rattle.matching.specs.Call.{Accepted}
use Rattle.matching.specs.Leader.{DecidedIn}
use Rattle.conformance.specs.Record.{record_state}
use Rattle.conformance.specs.Action.{Action}
use Rattle.safety.specs.Behaviour.{Published}
use Rattle.safety.specs.Grounds.{sent_in, Unchanged}
use Rattle.safety.proofs.Grounds.Published.{NextByKind, next_widened, next_published}
use Rattle.safety.proofs.Grounds.Steps.{Used, used_event, published_event, action_event, kept_event}
use Rattle.batch.specs.Run.{single_calls, tables_left}
use Rattle.batch.proofs.RunLaws.{calls_keep}
use Rattle.safety.specs.Lists.{Fresh, Call, counted, made, tables_after}
use Rattle.safety.proofs.Theorems.{used_fresh, fresh_initial}

-- the tables at time n: what the first n single calls leave, and after the last call what that left; and the state that they hold
abbrev pub tables_at : Plan → Tables → List Call → ℕ → Tables
tables_at p t calls n = tables_left t (take n (made p t calls))

abbrev pub state_at : Plan → Tables → List Call → ℕ → State
state_at p t calls n = record_state p (tables_at p t calls n)

module _ (p : Plan) where
  published : (t : Tables) (e : List ℕ) → Used p t → Published p t e
  published t e u =
      record {
        acts = λ sent is other. next_widened p e _ _ (action sent is other);
        as_printed = λ sent is other not-8. next_published p e _ _ not-8 (action sent is other);
        receipt = λ kind. stays kind (record_step p t e).answer refl;
        refusal = kept_event p t e;
      }
    where
      action : (sent : Sent) → (record_step p t e).answer ≡ accepted sent → (kind_of e ≡ 4 → ⊥)
          → NextByKind p e (record_state p t) (record_state p (record_step p t e).tables)
      action sent is other = ⊎_elim (λ h. h.1) (λ h. absurd (other h.0)) (published_event p t e u sent is)

      stays : kind_of e ≡ 4 → (o : Outcome Sent) → (record_step p t e).answer ≡ o → Unchanged t (record_step p t e).tables
      stays kind (accepted sent) is = ⊎_elim (λ h. absurd (h.0 kind)) (λ h. h.1) (published_event p t e u sent is)
      stays kind (refused k) is = kept_event p t e k is

  used_after : (t : Tables) → Used p t → (es : List (List ℕ)) → Used p (tables_left t (single_calls p t es))
  used_after = calls_keep p (Used p) (λ t e. used_event p t e)

  abbrev Step : Tables → Tables → Type 0
  Step t t' = WidenedStep (is_rm p) (is_acceptor p) (is_majority_set p) (record_state p t) (record_state p t')

  -- what keeps W, Q and N keeps the three variables
  step_unchanged : (t t' : Tables) → Unchanged t t' → Step t t'
  step_unchanged t t' (w, q, n) = inr (ap rm_state_of w, ap (a_state_of p) q, λ x. rw n ((λ h. h), λ h. h))

  step_event : (t : Tables) (e : List ℕ) → Used p t → Step t (record_step p t e).tables
  step_event t e u = go (record_step p t e).answer refl
    where
      go : (o : Outcome Sent) → (record_step p t e).answer ≡ o → Step t (record_step p t e).tables
      go (accepted sent) is =
          ⊎_elim (λ h. inl (next_widened p e _ _ h.1)) (λ h. step_unchanged t (record_step p t e).tables h.1) (published_event p t e u sent is)
      go (refused k) is = step_unchanged t (record_step p t e).tables (kept_event p t e k is)

  steps : (t : Tables) → Used p t → (es : List (List ℕ)) (n : ℕ)
      → Step (tables_left t (take n (single_calls p t es))) (tables_left t (take (suc n) (single_calls p t es)))
  steps t u [] zero = step_unchanged t t (refl, refl, refl)
  steps t u [] (suc n) = step_unchanged t t (refl, refl, refl)
  steps t u (e ∷ es) zero = step_event t e u
  steps t u (e ∷ es) (suc n) = steps (record_step p t e).tables (used_event p t e u) es n

module _ (p : Plan) (t : Tables) (fresh : Fresh t) (calls : List Call) where
  pub record_published : (e : List ℕ) → Published p (tables_after p t calls) e
  record_published e = published p (tables_after p t calls) e (used_after p t (used_fresh p t fresh) (counted p t calls))

  pub action_published : (e : List ℕ) → Accepted (record_step p (tables_after p t calls) e).answer
      → (s' : State) → Action p (tables_after p t calls) e (record_state p (tables_after p t calls)) s'
      → WidenedStep (is_rm p) (is_acceptor p) (is_majority_set p) (record_state p (tables_after p t calls)) s'
      × ((kind_of e ≡ 8 → ⊥) → PCStep (is_rm p) (is_acceptor p) (is_majority_set p) (record_state p (tables_after p t calls)) s')
  action_published e (sent, is) s' a =
      let h = action_event p (tables_after p t calls) e (used_after p t (used_fresh p t fresh) (counted p t calls)) sent is s' a in (
        ⊎_elim (λ (other, next). inl (next_widened p e _ _ next)) (λ (kind, row, states, msgs). inr (row, states, msgs)) h,
        λ not-8. ⊎_elim (λ (other, next). inl (next_published p e _ _ not-8 next)) (λ (kind, row, states, msgs). inr (row, states, msgs)) h,
      )

  pub record_behaviour : WidenedSpec (is_rm p) (is_acceptor p) (is_majority_set p) (state_at p t calls)
  record_behaviour = (fresh_initial p t fresh, steps p t (used_fresh p t fresh) (counted p t calls))

  pub record_commits : TCSpec (is_rm p) (λ n. rm_state_of (tables_at p t calls n).states)
  record_commits = widened_paxos_commit_implements (is_rm p) (is_acceptor p) (is_majority_set p) (majorities_meet p).1 (state_at p t calls) record_behaviour

  pub record_one_decision : (n : ℕ) → sent_in p (tables_at p t calls n) Commit → sent_in p (tables_at p t calls n) Abort → ⊥
  record_one_decision = widened_one_decision (is_rm p) (is_acceptor p) (is_majority_set p) (majorities_meet p).1 (state_at p t calls) record_behaviour

  -- a weight that has proposed aborted at ballot 0 ends the order: its instance chooses nothing else, and Commit is not sent
  pub record_declined : (n i : ℕ) → is_rm p i → sent_in p (tables_at p t calls n) (phase2a i 0 aborted)
      → (sent_in p (tables_at p t calls n) Commit → ⊥) × ((v : Val) → DecidedIn p (sent_in p (tables_at p t calls n)) i v → v ≡ aborted)
  record_declined n i q h = (
    declined_no_commit (is_rm p) (is_acceptor p) (is_majority_set p) (majorities_meet p).1 (state_at p t calls) record_behaviour n i q h,
    λ v. declined_aborts (is_rm p) (is_acceptor p) (is_majority_set p) (majorities_meet p).1 (state_at p t calls) record_behaviour n i v h,
  )

module _ (p : Plan) (t : Tables) where
  pub state_at_lem : (calls : List Call) (n : ℕ)
      → (tables_at p t calls n ≡ tables_left t (take n (made p t calls))) × (state_at p t calls n ≡ record_state p (tables_left t (take n (made p t calls))))
  state_at_lem calls n = (refl, refl)

  pub published_means : (e : List ℕ) → Published p t e
      → ((sent : Sent) → (record_step p t e).answer ≡ accepted sent → (kind_of e ≡ 4 → ⊥)
      → WidenedNext (is_rm p) (is_acceptor p) (is_majority_set p) (record_state p t) (record_state p (record_step p t e).tables)
      × ((kind_of e ≡ 8 → ⊥) → PCNext (is_rm p) (is_acceptor p) (is_majority_set p) (record_state p t) (record_state p (record_step p t e).tables)))
      × ((kind_of e ≡ 4) ⊎ ((k : ℕ) × ((record_step p t e).answer ≡ refused k))
      → ((record_step p t e).tables.states ≡ t.states) × ((record_step p t e).tables.votes ≡ t.votes) × ((record_step p t e).tables.network ≡ t.network))
  published_means e h = (λ sent is other. (h.acts sent is other, h.as_printed sent is other), ⊎_elim h.receipt (λ (k, is). h.refusal k is))

  pub sent_in_lem : (x : Message) → sent_in p t x ↔ set_of (messages p t.network) x
  sent_in_lem x = (λ h. h, λ h. h)
