-- Demand 3: what holds after each call of every list of calls from a fresh record (document 01, "Transaction Commit"; a list call counts as its
-- single calls, document 02, Paper 2). The lists and the claims are those of Lists.antt.
--     demand_3, never_11       after each call the three claims hold; so no answer of the list is 11
--     network_kept             what stands in a slot of N stays there
--     list_never_11            nor does a list call write it
--     event_counts, run_counts, tables_after_lem, answers_after, after_each_counts, after_each_split  what the definitions of Lists.antt mean: an event call is one
--                              call of the record, a list call its single calls in order, and none where it is refused; each is given what the calls
--                              before it left
--     demand_3_each            so demand 3 holds of every event call after every list of calls
--     opening_fresh, opening_lengths     opening makes a fresh record of the same lengths, the summary of n × L bytes (a refused one leaves the
--                              tables: open_keeps in the crate conformance)
--     demand_3_opened          demand 3 from opening on
--     fresh_initial            a fresh record reads as PCInit of module PaxosCommit
-- Why they hold: Grounds.antt. What the summary says meanwhile: Standing.antt. Assumes nothing.
use Rattle.std.specs.Prelude.{ℕ, ◌*◌, ◌↔◌, ◌≡◌, refl, length}
use mathlib.Core.List.Memᴰ
use mathlib.Core.List.{List, [], ◌∷◌, ◌++◌, map, append-nil, map-append, Memᴰ}
use Rattle.std.proofs.Math.Path.{sym, ap}
use Rattle.std.proofs.Common.{◌∙◌, arith}
use Rattle.std.proofs.Math.Decide.{ℕ_discrete}
use Rattle.std.proofs.lemmas.List.{length-replicate}
use Rattle.message.specs.declared.Plan.{Plan}
use Rattle.message.specs.declared.Message.{Message}
use Rattle.message.specs.Outcome.{Outcome, accepted, refused, number_of}
use Rattle.message.proofs.Outcome.Laws.{refused_number}
use Rattle.message.specs.Rows.{here, below}
use Rattle.slots.specs.Table.{messages}
use Rattle.slots.specs.Send.{message_at}
use Rattle.record.specs.Record.{Tables, RecordStep, record_step, record_open}
use Rattle.paxos_commit.specs.PaxosCommit.{PCInit}
use Rattle.matching.specs.Reading.{is_rm, is_acceptor, is_majority_set}
use Rattle.conformance.specs.Record.{record_state}
use Rattle.conformance.proofs.Theorems.{open_answers, open_zeros}
use Rattle.batch.specs.Run.{events_of, single_calls, numbers_of, Run, finished_run, record_run}
use Rattle.batch.proofs.RunLaws.{calls_keep, run_accepted, run_refused}
use Rattle.safety.specs.Lists.{Fresh, Call, event, run, counted_for, counted, made, Each, AfterEach, Safe, answers, tables_after}
use Rattle.safety.proofs.Lists.Laws.{after_run, events_counted, made_append, tables_append, each_split}
use Rattle.safety.proofs.Grounds.Zeros.{zeros_zeroed}
use Rattle.safety.proofs.Grounds.Opened.{initial_zeros}
use Rattle.safety.proofs.Grounds.Steps.{Used, used_zeros, used_event, path_event, agreed_used, not_contradicted_event, length_event, slot_event}

module _ (p : Plan) where
  pub used_fresh : (t : Tables) → Fresh t → Used p t
  used_fresh t (w, q, n, i, s) = used_zeros p t w q n i s

  -- one event call on a record that was opened and used
  safe_event : (t : Tables) (e : List ℕ) → Used p t → Safe p t (record_step p t e)
  safe_event t e u =
      record {
        same_length = length_event p t e u;
        path = path_event p t e u;
        agreed = agreed_used p _ (used_event p t e u);
        not_contradicted = not_contradicted_event p t e u;
      }

  -- each of a list's
  safe_events : (t : Tables) → Used p t → (es : List (List ℕ)) → Each (Safe p) t (single_calls p t es)
  safe_events t u [] = tt
  safe_events t u (e ∷ es) = (safe_event t e u, safe_events (record_step p t e).tables (used_event p t e u) es)

  pub demand_3 : (t : Tables) → Fresh t → (calls : List Call) → AfterEach p (Safe p) t calls
  demand_3 t fresh calls = safe_events t (used_fresh t fresh) (counted p t calls)

none_is_11 : (p : Plan) (t : Tables) (steps : List RecordStep) → Each (Safe p) t steps → Memᴰ (refused 11) (map (λ (s : RecordStep). s.answer) steps) → ⊥
none_is_11 p t [] safe h = Memᴰ.not-nil h
none_is_11 p t (s ∷ ss) safe (Memᴰ.head e) = safe.0.not_contradicted (sym e)
none_is_11 p t (s ∷ ss) safe (Memᴰ.tail h) = none_is_11 p s.tables ss safe.1 h

-- nor does a list call write it
none_writes_11 : (p : Plan) (t : Tables) (steps : List RecordStep) → Each (Safe p) t steps → Memᴰ 11 (numbers_of steps) → ⊥
none_writes_11 p t [] safe h = Memᴰ.not-nil h
none_writes_11 p t (s ∷ ss) safe (Memᴰ.head e) = safe.0.not_contradicted (sym (refused_number s.answer 11 e (λ z. omega arith)))
none_writes_11 p t (s ∷ ss) safe (Memᴰ.tail h) = none_writes_11 p s.tables ss safe.1 h

pub list_never_11 : (p : Plan) (t : Tables) → Fresh t → (calls : List Call) (events given : List ℕ)
    → (record_run p (tables_after p t calls) events given).answer ≡ accepted tt
    → Memᴰ 11 (record_run p (tables_after p t calls) events given).answers → ⊥
unfolding finished_run
list_never_11 p t fresh calls events given is there =
    let u : Tables = tables_after p t calls in
    let used = calls_keep p (Used p) (λ v e. used_event p v e) t (used_fresh p t fresh) (counted p t calls) in
    none_writes_11 p u (single_calls p u (events_of events)) (safe_events p u used (events_of events))
    (rw (ap (λ (r : Run). r.answers) (run_accepted p u events given is)) at there)

pub never_11 : (p : Plan) (t : Tables) → Fresh t → (calls : List Call) → Memᴰ (refused 11) (answers p t calls) → ⊥
never_11 p t fresh calls = none_is_11 p t (made p t calls) (demand_3 p t fresh calls)

-- what stands in N is never removed or changed: from any tables, fresh or not
pub network_kept : (p : Plan) (t : Tables) (calls more : List Call) (k : ℕ) (m : Message)
    → message_at (messages p (tables_after p t calls).network) k ≡ accepted m
    → message_at (messages p (tables_after p t (calls ++ more)).network) k ≡ accepted m
network_kept p t calls more k m h =
    rw (tables_append p t calls more)
    (calls_keep p (λ u. message_at (messages p u.network) k ≡ accepted m) (λ u e. slot_event p u e k m) (tables_after p t calls) h
    (counted p (tables_after p t calls) more))

-- what the definitions above mean: `counted` and `made` of one call and the rest
module _ (p : Plan) (t : Tables) where
  pub event_counts : (e : List ℕ) (calls : List Call) → made p t (event e ∷ calls) ≡ record_step p t e ∷ made p (record_step p t e).tables calls
  event_counts e calls = refl

  -- a list call that is accepted counts as its single calls in order, a refused one as none; and what it answers and leaves is what they do
  pub run_counts : (events given : List ℕ) (calls : List Call)
      → (((record_run p t events given).answer ≡ accepted tt)
      → (made p t (run events given ∷ calls) ≡ made p t (map event (events_of events) ++ calls))
      × ((record_run p t events given).answers ≡ numbers_of (made p t (run events given ∷ [])))
      × ((record_run p t events given).tables ≡ tables_after p t (run events given ∷ [])))
      × ((k : ℕ) → (record_run p t events given).answer ≡ refused k → made p t (run events given ∷ calls) ≡ made p t calls)
  unfolding finished_run
  run_counts events given calls = (
    (λ is. (
      ap (λ (o : Outcome (Unit {0})). single_calls p t (counted_for o events ++ counted p (record_run p t events given).tables calls)) is
          ∙ ap (λ (u : Tables). single_calls p t (events_of events ++ counted p u calls)) (ap (λ (r : Run). r.tables) (run_accepted p t events given is))
          ∙ ap (single_calls p t) (sym (events_counted p t (events_of events) calls)),
      ap (λ (r : Run). r.answers) (run_accepted p t events given is)
          ∙ ap (λ (es : List (List ℕ)). numbers_of (single_calls p t es)) (sym (append-nil (events_of events)))
          ∙ ap (λ (o : Outcome (Unit {0})). numbers_of (single_calls p t (counted_for o events ++ []))) (sym is),
      sym (after_run p t events given []),
    )),
    λ k is.
        ap (λ (o : Outcome (Unit {0})). single_calls p t (counted_for o events ++ counted p (record_run p t events given).tables calls)) is
        ∙ ap (λ (u : Tables). single_calls p t (counted p u calls)) (ap (λ (r : Run). r.tables) (run_refused p t events given k is)),
  )

module _ (p : Plan) where
  pub tables_after_lem : (t : Tables) (calls : List Call)
      → (tables_after p t [] ≡ t)
      × ((e : List ℕ) → tables_after p t (calls ++ (event e ∷ [])) ≡ (record_step p (tables_after p t calls) e).tables)
      × ((events given : List ℕ) → tables_after p t (calls ++ (run events given ∷ [])) ≡ (record_run p (tables_after p t calls) events given).tables)
  tables_after_lem t calls = (
    refl,
    (λ e. tables_append p t calls (event e ∷ [])),
    λ events given. tables_append p t calls (run events given ∷ []) ∙ after_run p (tables_after p t calls) events given [],
  )

  -- of two lists, one after the other; of an event call; of a list call that is accepted, or refused
  pub answers_after : (t : Tables) (calls : List Call)
      → ((more : List Call) → answers p t (calls ++ more) ≡ answers p t calls ++ answers p (tables_after p t calls) more)
      × (answers p t [] ≡ [])
      × ((e : List ℕ) → answers p t (event e ∷ []) ≡ (record_step p t e).answer ∷ [])
      × ((events given : List ℕ) → (record_run p t events given).answer ≡ accepted tt
      → map number_of (answers p t (run events given ∷ [])) ≡ (record_run p t events given).answers)
      × ((events given : List ℕ) (k : ℕ) → (record_run p t events given).answer ≡ refused k → answers p t (run events given ∷ []) ≡ [])
  answers_after t calls = (
    (λ more.
        ap (map (λ (s : RecordStep). s.answer)) (made_append p t calls more)
        ∙ map-append (λ (s : RecordStep). s.answer) (made p t calls) (made p (tables_after p t calls) more)),
    refl,
    (λ e. refl),
    (λ events given is. numbers_of_lem (made p t (run events given ∷ [])) ∙ sym ((run_counts p t events given []).0 is).1),
    λ events given k is. ap (map (λ (s : RecordStep). s.answer)) ((run_counts p t events given []).1 k is),
  )
    where
      numbers_of_lem : (steps : List RecordStep) → map number_of (map (λ (s : RecordStep). s.answer) steps) ≡ numbers_of steps
      numbers_of_lem [] = refl
      numbers_of_lem (s ∷ ss) = ap (λ (l : List ℕ). number_of s.answer ∷ l) (numbers_of_lem ss)

  -- a claim about each call of a list: of an event call and the rest; a list call is its event calls, and where it is refused nothing
  pub after_each_counts : (P : Tables → RecordStep → Type 0) (t : Tables) (calls : List Call)
      → ((e : List ℕ) → AfterEach p P t (event e ∷ calls) ↔ (P t (record_step p t e) × AfterEach p P (record_step p t e).tables calls))
      × ((events given : List ℕ) → (record_run p t events given).answer ≡ accepted tt
      → AfterEach p P t (run events given ∷ calls) ↔ AfterEach p P t (map event (events_of events) ++ calls))
      × ((events given : List ℕ) (k : ℕ) → (record_run p t events given).answer ≡ refused k
      → AfterEach p P t (run events given ∷ calls) ↔ AfterEach p P t calls)
  after_each_counts P t calls = (
    (λ e. (λ h. h, λ h. h)),
    (λ events given is. let same = ((run_counts p t events given calls).0 is).0 in (λ h. rw same at h, λ h. rw same h)),
    λ events given k is. let same = (run_counts p t events given calls).1 k is in (λ h. rw same at h, λ h. rw same h),
  )

  pub after_each_split : (P : Tables → RecordStep → Type 0) (t : Tables) (calls : List Call) (more : List Call)
      → AfterEach p P t (calls ++ more) → AfterEach p P (tables_after p t calls) more
  after_each_split P = each_split p P

  pub demand_3_each : (t : Tables) → Fresh t → (calls : List Call) (e : List ℕ)
      → Safe p (tables_after p t calls) (record_step p (tables_after p t calls) e)
  demand_3_each t fresh calls e =
      (each_split p (Safe p) t calls (event e ∷ []) (demand_3 p t fresh (calls ++ (event e ∷ [])))).0

module _ (p : Plan) (t : Tables) where
  pub opening_fresh : (record_open p t).answer ≡ accepted tt → Fresh (record_open p t).tables
  opening_fresh is =
      rw (open_zeros p t is)
      (zeros_zeroed t.states, zeros_zeroed t.votes, zeros_zeroed t.network, zeros_zeroed t.inboxes, zeros_zeroed t.summary)

  pub opening_lengths : (record_open p t).answer ≡ accepted tt
      → (length (record_open p t).tables.states ≡ length t.states)
      × (length (record_open p t).tables.votes ≡ length t.votes)
      × (length (record_open p t).tables.network ≡ length t.network)
      × (length (record_open p t).tables.inboxes ≡ length t.inboxes)
      × (length (record_open p t).tables.summary ≡ length t.summary)
      × (length t.summary ≡ p.rms * p.leaders)
  opening_lengths is =
      rw (open_zeros p t is)
      (length-replicate _ 0, length-replicate _ 0, length-replicate _ 0, length-replicate _ 0, length-replicate _ 0, right)
    where
      right : length t.summary ≡ p.rms * p.leaders
      right = elim (ℕ_discrete (length t.summary) (p.rms * p.leaders)) [
        | yes e ↦ e
        | no n ↦ absurd ((open_answers p t).accepts.0 (tt, is) 20 (below (below (here (refl, (n, tt))))))
      ]

  -- so demand 3 holds from opening on, whatever the tables held before it
  pub demand_3_opened : (record_open p t).answer ≡ accepted tt → (calls : List Call) → AfterEach p (Safe p) (record_open p t).tables calls
  demand_3_opened is = demand_3 p (record_open p t).tables (opening_fresh is)

  -- and a fresh record reads as the initial state of module PaxosCommit
  pub fresh_initial : Fresh t → PCInit (is_rm p) (is_acceptor p) (is_majority_set p) (record_state p t)
  fresh_initial (w, q, n, i, s) = initial_zeros p t w q n
