-- Laws of the rehearsal's definitions.
--     calls_end, calls_take              no bytes; bytes past the last event play no part
--     opens, fresh_judged                opening on tables of the right lengths gives the fresh ones, and these are sound
--     number_below                       an event call's number is at most 20
--     text_next, text_end                the text of one call and the rest
--     text_length, rehearsed_length      a text has at most three bytes for a call and ten for the word
--     events_whole, text_whole           the text from the answers of the whole events' list
-- Assumes nothing.
use Prim.Native.Nat.{ℕ, zero, suc, ◌+◌, ◌*◌, ◌/◌, ◌%◌, ◌≤◌}
use Rattle.std.specs.Prelude.{Bool, true, false, ◌&&◌, ◌≡◌, leb, length, get_or, drop, replicate}
use mathlib.Core.List.{List, [], ◌∷◌, ◌++◌, append_assoc}
use Rattle.std.proofs.Math.Path.{refl, sym, ap}
use Rattle.std.proofs.Common.{◌∙◌, arith, take-take}
use Rattle.std.proofs.Math.Nat.{mul-div_right, mul-mod_right}
use Rattle.std.proofs.Math.ListN.{take, length-append}
use Rattle.std.proofs.lemmas.List.{length-replicate}
use Rattle.std.proofs.Math.Seq.{take-nil}
use borrow.Author.Tests.{eq-eqb, leb-true}
use Rattle.message.specs.declared.Plan.{Plan}
use Rattle.message.specs.Outcome.{Outcome, accepted, refused, and_then, refuse_if, number_of}
use Rattle.message.proofs.Outcome.Laws.{both}
use Rattle.message.specs.Form.{map_length}
use Rattle.message.proofs.Form.Laws.{map_length_zero}
use Rattle.message.specs.Plan.{is_plan}
use Rattle.message.proofs.PlanLaws.{plan_bounds}
use Rattle.message.specs.Rows.{Rows, end, guard, here, below, First, InOrder}
use Rattle.slots.specs.All.{all}
use Rattle.slots.specs.Table.{slot_size, is_table_length, is_zero, is_table}
use Rattle.slots.proofs.Table.Laws.{is_table_first}
use Rattle.event.specs.Event.{is_event}
use Rattle.rm.specs.Rm.{are_states}
use Rattle.votes.specs.Votes.{is_vote_state, are_votes}
use Rattle.inbox.specs.Inbox.Quantifiers.{all_for_all}
use Rattle.ending.specs.Ending.{ending_of}
use Rattle.summary.specs.Summary.Laws.{zeros_sound}
use Rattle.record.specs.Record.{Tables, inbox_size, are_lengths, lengths_judged, open_judged, zeroed, record_open}
use Rattle.record.specs.Record.{inbox_of, are_inboxes, record_judged, lent_judged, record_step}
use Rattle.record.specs.Record.Parts.{zeros_inbox_of}
use Rattle.conformance.specs.Record.{record_rows}
use Rattle.conformance.proofs.Theorems.{record_answers, record_sound}
use Rattle.batch.specs.Run.{events_of, single_calls, tables_left, numbers_of}
use Rattle.safety.specs.Lists.{Call, event, answers, tables_after}
use Rattle.rehearsal_input.specs.Input.{plan_in, events_in}
use Rattle.rehearsal_input.proofs.Input.Laws.{plan_in_number}
use Rattle.rehearsal_text.specs.Text.{line, word_of}
use Rattle.rehearsal_text.proofs.Text.Laws.{line_length, word_length}
use Rattle.rehearsing.specs.Rehearsal.{calls_in, fresh_tables, lines_of, text_of, number_lines, cut_line, printed_for, rehearsed}

pub calls_end : (most : ℕ) → calls_in most [] ≡ []
unfolding calls_in
calls_end zero = refl
calls_end (suc most) = refl

drop_take : (n m : ℕ) (l : List ℕ) → drop n (take (n + m) l) ≡ take m (drop n l)
drop_take zero m l = let e : 0 + m ≡ m = omega arith in rw e
drop_take (suc n) m [] = rw (take-nil {A = ℕ} (suc n + m), take-nil {A = ℕ} m)
drop_take (suc n) m (x ∷ l) = let e : suc n + m ≡ suc (n + m) = omega arith in rw e (drop_take n m l)

pub calls_take : (most : ℕ) (bytes : List ℕ) → calls_in most (take (4 * most) bytes) ≡ calls_in most bytes
unfolding calls_in
calls_take zero bytes = refl
calls_take (suc k) [] = ap (calls_in (suc k)) (take-nil (4 * suc k))
calls_take (suc k) (x ∷ xs) =
    let e : 4 * suc k ≡ suc (3 + 4 * k) = omega arith in
    ap (λ (n : ℕ). calls_in (suc k) (take n (x ∷ xs))) e
    ∙ ap (λ (l : List ℕ). event (x ∷ l) ∷ calls_in k (drop 3 (take (3 + 4 * k) xs))) (take-take 3 (3 + 4 * k) xs (omega arith))
    ∙ ap (λ (l : List ℕ). event (x ∷ take 3 xs) ∷ calls_in k l) (drop_take 3 (4 * k) xs)
    ∙ ap (λ (l : List Call). event (x ∷ take 3 xs) ∷ l) (calls_take k (drop 3 xs))

-- tables of the right lengths are opened as the fresh ones
module _ (p : Plan) (slots : ℕ) (plan : is_plan p ≡ true) (whole : is_table_length (slot_size * slots) ≡ true) (t : Tables)
    (w : length t.states ≡ p.rms) (q : length t.votes ≡ 3 * (p.rms * p.acceptors))
    (n : length t.network ≡ slot_size * slots) (i : length t.inboxes ≡ p.leaders * (slot_size * slots)) where
  lengths_right : are_lengths p t ≡ true
  unfolding are_lengths inbox_size
  lengths_right =
      let some = (plan_bounds p plan).leaders_least in
      let size = mul-div_right (slot_size * slots) {m = p.leaders} some in
      let parts = mul-mod_right p.leaders (slot_size * slots) in
      rw (eq-eqb _ _ w, eq-eqb _ _ q, n, whole, i, parts, size, whole)

  pub opens : length t.summary ≡ p.rms * p.leaders → record_open p t ≡ record { answer = accepted tt; tables = fresh_tables slots p }
  unfolding record_open open_judged lengths_judged and_then refuse_if zeroed fresh_tables
  opens s = rw (plan, lengths_right, eq-eqb _ _ s, w, q, n, i, s)

-- zeros are sound
zero_states : (n : ℕ) → are_states (replicate n 0) ≡ true
unfolding are_states all
zero_states zero = refl
zero_states (suc n) = zero_states n

zero_votes : (n : ℕ) → are_votes (replicate n 0) ≡ true
unfolding are_votes is_vote_state
zero_votes zero = refl
zero_votes (suc zero) = refl
zero_votes (suc (suc zero)) = refl
zero_votes (suc (suc (suc n))) = zero_votes n

zero_part : (k n : ℕ) → is_zero (take k (replicate n 0)) ≡ true
unfolding is_zero all
zero_part zero n = refl
zero_part (suc k) zero = refl
zero_part (suc k) (suc n) = zero_part k n

zero_first : (n : ℕ) → map_length (get_or (replicate n 0) 0 0) ≡ 0
zero_first zero = map_length_zero
zero_first (suc n) = map_length_zero

zero_table : (p : Plan) (n : ℕ) → is_table p (replicate n 0) ≡ true
zero_table p n = is_table_first p (replicate n 0) (zero_first n) ∙ zero_part (length (replicate n 0) / slot_size * slot_size) n

pub fresh_judged : (p : Plan) (slots : ℕ) → is_plan p ≡ true → is_table_length (slot_size * slots) ≡ true
    → lent_judged p (fresh_tables slots p) ≡ accepted tt
unfolding lent_judged record_judged and_then refuse_if are_inboxes fresh_tables
fresh_judged p slots plan whole =
    let right = lengths_right p slots plan whole (fresh_tables slots p) (length-replicate _ 0) (length-replicate _ 0) (length-replicate _ 0) (length-replicate _ 0) in
    let inboxes = all_for_all (λ l. is_table p (inbox_of p (replicate (p.leaders * (slot_size * slots)) 0) l)) p.leaders (λ l h.
    ap (is_table p) (zeros_inbox_of p (p.leaders * (slot_size * slots)) l (plan_bounds p plan).leaders_least h)
    ∙ zero_table p (inbox_size p (replicate (p.leaders * (slot_size * slots)) 0))) in
    rw (
      plan,
      right,
      zero_states p.rms,
      zero_votes (3 * (p.rms * p.acceptors)),
      zero_table p (slot_size * slots),
      inboxes,
      zeros_sound (p.rms * p.leaders),
    )

-- an event call's number
unfoldable is_below : ℕ → Rows → Bool
is_below most end = true
is_below most (guard number applies rest) = leb number most && is_below most rest

first_below : (most : ℕ) (rows : Rows) → is_below most rows ≡ true → (k : ℕ) → First rows k → k ≤ most
unfolding is_below
first_below most end e k h = absurd (h tt)
first_below most (guard n t rest) e k (here h) = rw h.0 (leb-true n most (both (leb n most) (is_below most rest) e).0)
first_below most (guard n t rest) e k (below h) = first_below most rest (both (leb n most) (is_below most rest) e).1 k h.1

answer_below : {A : Type 0} (most : ℕ) (rows : Rows) → is_below most rows ≡ true
    → (answer : Outcome A) → InOrder rows answer → number_of answer ≤ most
answer_below most rows e (accepted a) ordered = omega arith
answer_below most rows e (refused k) ordered = first_below most rows e k ((ordered.refuses k).0 refl)

pub number_below : (p : Plan) (t : Tables) (e : List ℕ) → number_of (record_step p t e).answer ≤ 20
unfolding is_below
number_below p t e = answer_below 20 (record_rows p t e) refl _ (record_answers p t e)

module _ (p : Plan) where
  pub text_next : (t : Tables) (e : List ℕ) (calls : List Call)
      → text_of p t (event e ∷ calls) ≡ line (number_of (record_step p t e).answer) ++ text_of p (record_step p t e).tables calls
  unfolding text_of
  text_next t e calls =
      append_assoc (line (number_of (record_step p t e).answer)) (lines_of (answers p (record_step p t e).tables calls))
      (word_of (ending_of (tables_after p (record_step p t e).tables calls).states))

  pub text_end : (t : Tables) → text_of p t [] ≡ word_of (ending_of t.states)
  unfolding text_of
  text_end t = refl

  pub text_length : (most : ℕ) (bytes : List ℕ) (t : Tables) → length (text_of p t (calls_in most bytes)) ≤ 3 * most + 10
  unfolding calls_in
  text_length zero bytes t = rw (text_end t) (word_length (ending_of t.states))
  text_length (suc most) [] t = let word = word_length (ending_of t.states) in rw (text_end t) (omega arith)
  text_length (suc most) (b ∷ bytes) t =
      let e : List ℕ = take 4 (b ∷ bytes) in
      let below = number_below p t e in
      let own = line_length (number_of (record_step p t e).answer) (omega arith) in
      let rest = text_length most (drop 4 (b ∷ bytes)) (record_step p t e).tables in
      let sum = length-append (line (number_of (record_step p t e).answer)) (text_of p (record_step p t e).tables (calls_in most (drop 4 (b ∷ bytes)))) in
      rw (text_next t e (calls_in most (drop 4 (b ∷ bytes))), sum) (omega arith)

-- the whole events as one list, and a cut last one, which is no event
pub events_whole : (events : List ℕ) → events_of (take (length events / 4 * 4) events) ≡ events_of events
events_whole [] = refl
events_whole (a ∷ []) = refl
events_whole (a ∷ b ∷ []) = refl
events_whole (a ∷ b ∷ c ∷ []) = refl
events_whole (a ∷ b ∷ c ∷ d ∷ rest) =
    let e : length (a ∷ b ∷ c ∷ d ∷ rest) / 4 * 4 ≡ suc (suc (suc (suc (length rest / 4 * 4)))) = omega arith in
    ap (λ (n : ℕ). events_of (take n (a ∷ b ∷ c ∷ d ∷ rest))) e ∙ ap (λ (es : List (List ℕ)). (a ∷ b ∷ c ∷ d ∷ []) ∷ es) (events_whole rest)

cut_next : (a b c d : ℕ) (rest : List ℕ) → cut_line (a ∷ b ∷ c ∷ d ∷ rest) ≡ cut_line rest
unfolding cut_line
cut_next a b c d rest = let e : length (a ∷ b ∷ c ∷ d ∷ rest) % 4 ≡ length rest % 4 = omega arith in rw e

module _ (p : Plan) where
  cut_text : (t : Tables) → lent_judged p t ≡ accepted tt → (e : List ℕ) → is_event p e ≡ false → (most : ℕ)
      → text_of p t (event e ∷ calls_in most []) ≡ line 7 ++ word_of (ending_of t.states)
  unfolding record_step and_then refuse_if
  cut_text t ok e none most = text_next p t e (calls_in most []) ∙ rw (ok, none, calls_end most, text_end p t)

  pub text_whole : (most : ℕ) (events : List ℕ) → length events ≤ 4 * most → (t : Tables) → lent_judged p t ≡ accepted tt
      → text_of p t (calls_in most events)
      ≡ number_lines (numbers_of (single_calls p t (events_of events)))
      ++ (cut_line events ++ word_of (ending_of (tables_left t (single_calls p t (events_of events))).states))
  unfolding calls_in cut_line is_event
  text_whole most [] few t ok = ap (text_of p t) (calls_end most) ∙ text_end p t
  text_whole zero (a ∷ events) few t ok = absurd (omega (arith, few))
  text_whole (suc most) (a ∷ []) few t ok = cut_text t ok (a ∷ []) refl most
  text_whole (suc most) (a ∷ b ∷ []) few t ok = cut_text t ok (a ∷ b ∷ []) refl most
  text_whole (suc most) (a ∷ b ∷ c ∷ []) few t ok = cut_text t ok (a ∷ b ∷ c ∷ []) refl most
  text_whole (suc most) (a ∷ b ∷ c ∷ d ∷ rest) few t ok =
      let e : List ℕ = a ∷ b ∷ c ∷ d ∷ [] in
      let next : Tables = (record_step p t e).tables in
      let own : List ℕ = line (number_of (record_step p t e).answer) in
      let lines : List ℕ = number_lines (numbers_of (single_calls p next (events_of rest))) in
      let word : List ℕ = word_of (ending_of (tables_left next (single_calls p next (events_of rest))).states) in
      text_next p t e (calls_in most rest)
      ∙ ap (λ (l : List ℕ). own ++ l) (text_whole most rest (omega (arith, few)) next (record_sound p t e ok))
      ∙ sym (append_assoc own lines (cut_line rest ++ word))
      ∙ ap (λ (l : List ℕ). own ++ lines ++ (l ++ word)) (sym (cut_next a b c d rest))

pub rehearsed_length : (input : List ℕ) → length (rehearsed input) ≤ 24586
unfolding rehearsed printed_for
rehearsed_length input = go (plan_in input) (events_in input) (plan_in_number input)
  where
    go : (begun : Outcome Plan) (events : List ℕ) → number_of begun ≤ 1 → length (printed_for begun events) ≤ 24586
    go (accepted p) events h =
        let text = text_length p 8192 events (fresh_tables 1024 p) in
        omega arith
    go (refused number) events h = let own = line_length number (omega arith) in omega arith
