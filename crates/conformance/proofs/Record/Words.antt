-- The proofs of Words.antt: each test passes exactly where document 01's sentence holds.
-- Assumes nothing.
use Prim.Native.Nat.{ℕ, zero, suc, ◌+◌, ◌*◌, ◌/◌, ◌%◌, ◌≤◌, ◌<◌, suc-le-suc, zero-le}
use Rattle.std.specs.Prelude.{Bool, true, ◌&&◌, ◌||◌, ◌⊎◌, ◌↔◌, ◌≡◌, leb, ltb, eqb, length, get_or, take, None, Option}
use Rattle.std.proofs.lemmas.Bool.{false≢true, lt-leb}
use mathlib.Core.List.{List, [], ◌∷◌, Memᴰ}
use Rattle.std.proofs.Common.{inl, inr, sym, ◌∙◌, ap, ap₂, not-suc-le-zero, le_of_suc-le-suc, suc-mul, add-zero, arith, take-add, take_all, le-leb, leb-true, eq-eqb, ne_eqb, eqb-true, lt-ltb, ltb-true}
use Rattle.std.proofs.Math.Path.{refl}
use Rattle.std.proofs.Math.Decide.{dec_le, ℕ_discrete}
use Rattle.std.proofs.Math.Nat.{div-add-mod, mul-div_right, mul-mod_right}
use Rattle.message.specs.declared.Plan.{Plan}
use Rattle.message.specs.declared.Message as Wire
use Rattle.message.specs.declared.Message.TheVariants.{Phase1a, Phase1b, Phase2a, Phase2b, Decision}
use Rattle.message.specs.declared.Vote.{Vote}
use Rattle.message.proofs.Outcome.Laws.{both}
use Rattle.message.specs.Form.{is_value, is_vote, is_in_range, cast_vote}
use Rattle.message.specs.Plan.{is_count, is_plan}
use Rattle.message.proofs.PlanLaws.{plan_bounds}
use Rattle.slots.specs.All.{all}
use Rattle.event.specs.Event.{kind_of, who_of, high_of, low_of, who_limit, are_zero, are_arguments, is_event}
use Rattle.event.specs.Event.Laws.{event_parts, rm_who, acceptor_who, leader_who, event_instance}
use Rattle.quorum.specs.Quorum.{is_quorum, Distinct, AmongFirst}
use Rattle.quorum.proofs.Quorum.Sets.{quorum_set, set_quorum}
use Rattle.rm.specs.Rm.{are_states}
use Rattle.votes.specs.Votes.{is_vote_state, are_votes}
use Rattle.votes.specs.Votes.Laws.{are_votes_at}
use Rattle.record.specs.Record.{inbox_size, inbox_of, with_inbox}
use Rattle.record.specs.Record.Parts.{inbox_of_with, inbox_of_with_other}
use Rattle.slots.specs.Table.{slot_size, max_slots, is_table_length, is_table, messages}
use Rattle.slots.proofs.Table.Holds.{holds_judged}
use Rattle.matching.specs.Call.{HeldBy}
use Rattle.matching.specs.Rm.{is_decision}
use Rattle.matching.specs.Acceptor.{is_taken}
use Rattle.matching.specs.Leader.{is_received}
use Rattle.matching.proofs.Call.Laws.{at_member, slot_in_range}
use Rattle.matching.proofs.Theorems.{well_formed}
use Rattle.conformance.specs.Record.{EventForm, inboxes_up_to}

pub plan_range : (p : Plan)
    → (is_plan p ≡ true) ↔ ((1 ≤ p.rms) × (p.rms ≤ 16) × (1 ≤ p.acceptors) × (p.acceptors ≤ 7) × (1 ≤ p.leaders) × (p.leaders ≤ 4))
unfolding is_plan is_count
plan_range p = (there, back)
  where
    there : is_plan p ≡ true → (1 ≤ p.rms) × (p.rms ≤ 16) × (1 ≤ p.acceptors) × (p.acceptors ≤ 7) × (1 ≤ p.leaders) × (p.leaders ≤ 4)
    there is = let b = plan_bounds p is in (b.rms_least, b.rms_most, b.acceptors_least, b.acceptors_most, b.leaders_least, b.leaders_most)

    back : (1 ≤ p.rms) × (p.rms ≤ 16) × (1 ≤ p.acceptors) × (p.acceptors ≤ 7) × (1 ≤ p.leaders) × (p.leaders ≤ 4) → is_plan p ≡ true
    back (a, b, c, d, e, f) =
        rw (le-leb 1 p.rms a, le-leb p.rms 16 b, le-leb 1 p.acceptors c, le-leb p.acceptors 7 d, le-leb 1 p.leaders e, le-leb p.leaders 4 f)

-- two tests, and three
and_words : {A B : Type 0} (a b : Bool) → (a ≡ true) ↔ A → (b ≡ true) ↔ B → ((a && b) ≡ true) ↔ (A × B)
and_words a b f g = (λ h. let c = both a b h in (f.0 c.0, g.0 c.1), λ (x, y). rw (f.1 x, g.1 y))

and_words₃ : {A B C : Type 0} (a b c : Bool) → (a ≡ true) ↔ A → (b ≡ true) ↔ B → (c ≡ true) ↔ C → ((a && b && c) ≡ true) ↔ (A × B × C)
and_words₃ a b c f g h = (
  λ k. let d = both (a && b) c k in let e = both a b d.0 in (f.0 e.0, g.0 e.1, h.0 d.1),
  λ (x, y, z). rw (f.1 x, g.1 y, h.1 z),
)

below_words : (k n : ℕ) → (ltb k n ≡ true) ↔ (k < n)
below_words k n = (ltb-true k n, lt-ltb k n)

value_words : (v : ℕ) → (is_value v ≡ true) ↔ ((v ≡ 1) ⊎ (v ≡ 2))
unfolding is_value
value_words v = (λ h. let (low, high) = (and_words (leb 1 v) (leb v 2) (leb-true 1 v, le-leb 1 v) (leb-true v 2, le-leb v 2)).0 h in go (ℕ_discrete v 1) low high, back)
  where
    go : Dec (v ≡ 1) → 1 ≤ v → v ≤ 2 → (v ≡ 1) ⊎ (v ≡ 2)
    go (yes e) low high = inl e
    go (no d) low high = inr (omega arith)

    back : (v ≡ 1) ⊎ (v ≡ 2) → (leb 1 v && leb v 2) ≡ true
    back (inl e) = rw e refl
    back (inr e) = rw e refl

pub range_words : (p : Plan) (ins acc mbal bal val : ℕ)
    → ((is_in_range p (Phase1a ins bal) ≡ true) ↔ ((ins < p.rms) × (1 ≤ bal)))
    × ((is_in_range p (Phase1b ins acc mbal None) ≡ true) ↔ ((ins < p.rms) × (acc < p.acceptors)))
    × ((is_in_range p (Phase1b ins acc mbal (cast_vote bal val)) ≡ true) ↔ ((ins < p.rms) × (acc < p.acceptors) × ((val ≡ 1) ⊎ (val ≡ 2))))
    × ((is_in_range p (Phase2a ins bal val) ≡ true) ↔ ((ins < p.rms) × ((val ≡ 1) ⊎ (val ≡ 2))))
    × ((is_in_range p (Phase2b ins acc bal val) ≡ true) ↔ ((ins < p.rms) × (acc < p.acceptors) × ((val ≡ 1) ⊎ (val ≡ 2))))
    × ((is_in_range p (Decision val) ≡ true) ↔ ((val ≡ 1) ⊎ (val ≡ 2)))
unfolding is_in_range is_vote
range_words p ins acc mbal bal val = (
  and_words _ _ (below_words ins p.rms) (leb-true 1 bal, le-leb 1 bal),
  (λ h. let (i, a, any) = no_vote.0 h in (i, a), λ (i, a). no_vote.1 (i, a, tt)),
  and_words₃ _ _ _ (below_words ins p.rms) (below_words acc p.acceptors) (value_words val),
  and_words _ _ (below_words ins p.rms) (value_words val),
  and_words₃ _ _ _ (below_words ins p.rms) (below_words acc p.acceptors) (value_words val),
  value_words val,
)
  where
    no_vote : ((ltb ins p.rms && ltb acc p.acceptors && true) ≡ true) ↔ ((ins < p.rms) × (acc < p.acceptors) × Unit {0})
    no_vote = and_words₃ _ _ _ (below_words ins p.rms) (below_words acc p.acceptors) (λ h. tt, λ h. refl)

pub majority_rule : (A : ℕ) (test : ℕ → Bool)
    → (is_quorum A test ≡ true) ↔ ((members : List ℕ) × Distinct members × AmongFirst A test members × (A < 2 * length members))
majority_rule A test = (quorum_set A test, λ (members, d, among, many). set_quorum A test members d among many)

-- every byte of a list passes a test
module _ (test : ℕ → Bool) where
  all_each : (l : List ℕ) → all test l ≡ true → (k : ℕ) → k < length l → test (get_or l k 0) ≡ true
  unfolding all
  all_each [] h k m = absurd (not-suc-le-zero m)
  all_each (x ∷ l) h zero m = (both (test x) (all test l) h).0
  all_each (x ∷ l) h (suc k) m = all_each l (both (test x) (all test l) h).1 k (le_of_suc-le-suc m)

  each_all : (l : List ℕ) → ((k : ℕ) → k < length l → test (get_or l k 0) ≡ true) → all test l ≡ true
  unfolding all
  each_all [] h = refl
  each_all (x ∷ l) h = rw (h 0 (suc-le-suc zero-le)) (each_all l (λ k m. h (suc k) (suc-le-suc m)))

pub states_range : (W : List ℕ) → (are_states W ≡ true) ↔ ((rm : ℕ) → rm < length W → get_or W rm 0 ≤ 3)
unfolding are_states
states_range W = (λ h rm m. leb-true _ _ (all_each _ W h rm m), λ h. each_all _ W (λ rm m. le-leb _ _ (h rm m)))

vote_state_lem : (bal val : ℕ) → (is_vote_state bal val ≡ true) ↔ ((val ≤ 2) × (val ≡ 0 → bal ≡ 0))
unfolding is_vote_state
vote_state_lem bal val = (there, back)
  where
    there : (leb val 2 && (leb 1 val || eqb bal 0)) ≡ true → (val ≤ 2) × (val ≡ 0 → bal ≡ 0)
    there h =
        let t = both (leb val 2) (leb 1 val || eqb bal 0) h in
        (leb-true val 2 t.0, λ none. eqb-true bal 0 (rw (lt-leb 1 val (omega arith)) at t.1))

    back : (val ≤ 2) × (val ≡ 0 → bal ≡ 0) → (leb val 2 && (leb 1 val || eqb bal 0)) ≡ true
    back (small, none) =
        rw (le-leb val 2 small)
        (elim (ℕ_discrete val 0) [ yes k ↦ rw (lt-leb 1 val (omega arith), eq-eqb bal 0 (none k)) | no k ↦ rw (le-leb 1 val (omega (arith, k))) ])

each_votes : (Q : List ℕ) → ((j : ℕ) → 3 * j + 2 < length Q → is_vote_state (get_or Q (3 * j + 1) 0) (get_or Q (3 * j + 2) 0) ≡ true) → are_votes Q ≡ true
unfolding are_votes
each_votes [] h = refl
each_votes (mbal ∷ []) h = refl
each_votes (mbal ∷ bal ∷ []) h = refl
each_votes (mbal ∷ bal ∷ val ∷ Q) h = rw (h 0 (omega arith)) (each_votes Q (λ j m. next j (h (suc j) (omega arith))))
  where
    next : (j : ℕ) → is_vote_state (get_or (mbal ∷ bal ∷ val ∷ Q) (3 * suc j + 1) 0) (get_or (mbal ∷ bal ∷ val ∷ Q) (3 * suc j + 2) 0) ≡ true
        → is_vote_state (get_or Q (3 * j + 1) 0) (get_or Q (3 * j + 2) 0) ≡ true
    next j e =
        let one : 3 * suc j + 1 ≡ suc (suc (suc (3 * j + 1))) = omega arith in
        let two : 3 * suc j + 2 ≡ suc (suc (suc (3 * j + 2))) = omega arith in
        rw (one, two) at e

-- entry j of Q: mbal, bal and val are its bytes 3 × j, 3 × j + 1 and 3 × j + 2
pub votes_range : (Q : List ℕ)
    → (are_votes Q ≡ true) ↔ ((j : ℕ) → 3 * j + 2 < length Q → (get_or Q (3 * j + 2) 0 ≤ 2) × (get_or Q (3 * j + 2) 0 ≡ 0 → get_or Q (3 * j + 1) 0 ≡ 0))
votes_range Q = (λ h j m. (vote_state_lem _ _).0 (are_votes_at Q h j m), λ h. each_votes Q (λ j m. (vote_state_lem _ _).1 (h j m)))

-- high and low of an event
arguments_zero : (high low : ℕ) → are_zero high low ≡ true → (high ≡ 0) × (low ≡ 0)
unfolding are_zero
arguments_zero high low h = let t = both (eqb high 0) (eqb low 0) h in (eqb-true high 0 t.0, eqb-true low 0 t.1)

event_length : (p : Plan) (e : List ℕ) → is_event p e ≡ true → length e ≡ 4
unfolding is_event
event_length p e h =
    let named : Bool = ltb (who_of e) (who_limit p (kind_of e)) in
    let last = both (eqb (length e) 4 && leb (kind_of e) 8 && named) (are_arguments p (kind_of e) (high_of e) (low_of e)) h in
    let first = both (eqb (length e) 4 && leb (kind_of e) 8) named last.0 in
    eqb-true (length e) 4 (both (eqb (length e) 4) (leb (kind_of e) 8) first.0).0

form : (p : Plan) (e : List ℕ) → is_event p e ≡ true → EventForm p (kind_of e) (who_of e) (high_of e) (low_of e)
unfolding are_arguments
form p e h = go (dec_le (kind_of e) 1) (dec_le (kind_of e) 4) (dec_le (kind_of e) 6)
  where
    zeros : are_arguments p (kind_of e) (high_of e) (low_of e) ≡ true → (kind_of e ≤ 1) ⊎ (6 < kind_of e) → (high_of e ≡ 0) × (low_of e ≡ 0)
    zeros a (inl k) = arguments_zero _ _ (rw (le-leb (kind_of e) 1 k) at a)
    zeros a (inr k) = arguments_zero _ _ (rw (lt-leb (kind_of e) 1 (omega arith), lt-leb (kind_of e) 4 (omega arith), lt-leb (kind_of e) 6 k) at a)

    go : Dec (kind_of e ≤ 1) → Dec (kind_of e ≤ 4) → Dec (kind_of e ≤ 6) → EventForm p (kind_of e) (who_of e) (high_of e) (low_of e)
    go (yes k) d f = let (a, b) = zeros (event_parts p e h).arguments (inl k) in inl (k, rm_who p e h (omega arith), a, b)
    go (no n) (yes k) f = by (ℕ_discrete (kind_of e) 2) (ℕ_discrete (kind_of e) 3)
      where
        by : Dec (kind_of e ≡ 2) → Dec (kind_of e ≡ 3) → EventForm p (kind_of e) (who_of e) (high_of e) (low_of e)
        by (yes l) d = inr (inl (l, rm_who p e h (omega arith)))
        by (no m) (yes l) = inr (inr (inl (l, acceptor_who p e h l)))
        by (no m) (no o) = inr (inr (inr (inl (omega arith, leader_who p e h (omega arith)))))
    go (no n) (no m) (yes k) = inr (inr (inr (inr (inl (omega arith, k, leader_who p e h (omega arith), event_instance p e h (omega arith) k)))))
    go (no n) (no m) (no o) =
        let six : 6 < kind_of e = omega arith in
        let last = event_parts p e h in
        let (a, b) = zeros last.arguments (inr six) in
        inr (inr (inr (inr (inr (six, last.kind, leader_who p e h (omega arith), a, b)))))

formed : (p : Plan) (kind who high low : ℕ) → EventForm p kind who high low
    → (kind ≤ 8) × (who < who_limit p kind) × (are_arguments p kind high low ≡ true)
unfolding who_limit are_arguments are_zero
formed p kind who high low (inl (k, w, a, b)) =
    (omega arith, rw (le-leb kind 2 (omega arith)) w, rw (le-leb kind 1 k, eq-eqb high 0 a, eq-eqb low 0 b))
formed p kind who high low (inr (inl (k, w))) =
    (omega arith, rw (le-leb kind 2 (omega arith)) w, rw (lt-leb kind 1 (omega arith), le-leb kind 4 (omega arith)))
formed p kind who high low (inr (inr (inl (k, w)))) =
    (omega arith, rw (lt-leb kind 2 (omega arith), eq-eqb kind 3 k) w, rw (lt-leb kind 1 (omega arith), le-leb kind 4 (omega arith)))
formed p kind who high low (inr (inr (inr (inl (k, w))))) = (
  omega arith,
  rw (lt-leb kind 2 (omega arith), ne_eqb kind 3 (λ l. omega arith)) w,
  rw (lt-leb kind 1 (omega arith), le-leb kind 4 (omega arith)),
)
formed p kind who high low (inr (inr (inr (inr (inl (k, l, w, a)))))) = (
  omega arith,
  rw (lt-leb kind 2 (omega arith), ne_eqb kind 3 (λ l. omega arith)) w,
  rw (lt-leb kind 1 (omega arith), lt-leb kind 4 k, le-leb kind 6 l, lt-ltb high p.rms a),
)
formed p kind who high low (inr (inr (inr (inr (inr (k, l, w, a, b)))))) = (
  l,
  rw (lt-leb kind 2 (omega arith), ne_eqb kind 3 (λ l. omega arith)) w,
  rw (lt-leb kind 1 (omega arith), lt-leb kind 4 (omega arith), lt-leb kind 6 k, eq-eqb high 0 a, eq-eqb low 0 b),
)

pub event_form : (p : Plan) (e : List ℕ) → (is_event p e ≡ true) ↔ ((length e ≡ 4) × EventForm p (kind_of e) (who_of e) (high_of e) (low_of e))
unfolding is_event
event_form p e = (there, back)
  where
    there : is_event p e ≡ true → (length e ≡ 4) × EventForm p (kind_of e) (who_of e) (high_of e) (low_of e)
    there is = (event_length p e is, form p e is)

    back : (length e ≡ 4) × EventForm p (kind_of e) (who_of e) (high_of e) (low_of e) → is_event p e ≡ true
    back (four, form) =
        let (small, named, arguments) = formed p (kind_of e) (who_of e) (high_of e) (low_of e) form in
        rw (eq-eqb _ _ four, le-leb _ _ small, lt-ltb _ _ named, arguments)

up_to : (p : Plan) (inboxes : List ℕ) (l : ℕ) → inboxes_up_to p inboxes l ≡ take (l * inbox_size p inboxes) inboxes
unfolding inboxes_up_to inbox_of
up_to p inboxes zero = let none : 0 * inbox_size p inboxes ≡ 0 = omega arith in rw none
up_to p inboxes (suc l) =
    rw (up_to p inboxes l) (sym (rw suc-mul (take-add (l * inbox_size p inboxes) (inbox_size p inboxes) inboxes)))

-- I is its L inboxes one after the other
pub inboxes_joined : (p : Plan) (inboxes : List ℕ) → length inboxes % p.leaders ≡ 0 → inboxes_up_to p inboxes p.leaders ≡ inboxes
unfolding inbox_size
inboxes_joined p inboxes equal =
    up_to p inboxes p.leaders
    ∙ take_all (p.leaders * (length inboxes / p.leaders)) inboxes (let d = div-add-mod (length inboxes) p.leaders in omega arith)

-- a leader's inbox replaced by as many bytes: it is those, and the other inboxes are as they were
pub inbox_replaced : (p : Plan) (inboxes : List ℕ) (l : ℕ) → l < p.leaders → (box : List ℕ) → length box ≡ inbox_size p inboxes
    → (inbox_of p (with_inbox p inboxes l box) l ≡ box)
    × ((k : ℕ) → k < p.leaders → (k ≡ l → ⊥) → inbox_of p (with_inbox p inboxes l box) k ≡ inbox_of p inboxes k)
inbox_replaced p inboxes l m box size =
    (inbox_of_with p inboxes l (omega arith) m box size, inbox_of_with_other p inboxes l (omega arith) m box size)

pub table_length : (len : ℕ) → (is_table_length len ≡ true) ↔ ((count : ℕ) × (count ≤ 1024) × (len ≡ 8 * count))
unfolding is_table_length
table_length len = (there, back)
  where
    there : is_table_length len ≡ true → (count : ℕ) × (count ≤ 1024) × (len ≡ 8 * count)
    there h =
        let t = both (eqb (len % slot_size) 0) (leb (len / slot_size) max_slots) h in
        let whole : len % 8 ≡ 0 = eqb-true _ _ t.0 in
        (len / 8, leb-true _ _ t.1, omega arith)

    back : (count : ℕ) × (count ≤ 1024) × (len ≡ 8 * count) → is_table_length len ≡ true
    back (count, few, is) =
        let whole : len % 8 ≡ 0 = omega arith in
        let most : len / 8 ≤ 1024 = omega arith in
        rw (eq-eqb (len % 8) 0 whole, le-leb (len / 8) 1024 most)

pub inboxes_length : (p : Plan) (inboxes : List ℕ) → 0 < p.leaders
    → ((length inboxes % p.leaders ≡ 0) × (is_table_length (inbox_size p inboxes) ≡ true))
    ↔ ((count : ℕ) × (count ≤ 1024) × (length inboxes ≡ p.leaders * (8 * count)))
unfolding inbox_size
inboxes_length p inboxes some = (there, back)
  where
    there : (length inboxes % p.leaders ≡ 0) × (is_table_length (length inboxes / p.leaders) ≡ true)
        → (count : ℕ) × (count ≤ 1024) × (length inboxes ≡ p.leaders * (8 * count))
    there (equal, whole) =
        let (count, few, is) = (table_length (length inboxes / p.leaders)).0 whole in
        (count, few, sym (div-add-mod (length inboxes) p.leaders) ∙ ap₂ (λ (x y : ℕ). p.leaders * x + y) is equal ∙ add-zero _)

    back : (count : ℕ) × (count ≤ 1024) × (length inboxes ≡ p.leaders * (8 * count))
        → (length inboxes % p.leaders ≡ 0) × (is_table_length (length inboxes / p.leaders) ≡ true)
    back (count, few, is) = (
      rw is (mul-mod_right p.leaders (8 * count)),
      (table_length (length inboxes / p.leaders)).1 (count, few, ap (λ (n : ℕ). n / p.leaders) is ∙ mul-div_right (8 * count) some),
    )

pub table_form : (p : Plan) (t : List ℕ) → is_plan p ≡ true → is_table_length (length t) ≡ true → (is_table p t ≡ true) ↔ HeldBy p t (messages p t)
table_form p t plan whole = (
  λ is. let h = holds_judged p t whole is in (h.form, h.fits, each is),
  λ held. (well_formed p t plan whole).1 (messages p t, held),
)
  where
    each : is_table p t ≡ true → (m : Wire.Message) → Memᴰ m (messages p t) → is_in_range p m ≡ true
    each is m h = let (k, at) = at_member (messages p t) m h in slot_in_range p t whole is k m at

pub received_words : (m : Wire.Message)
    → (is_received m ≡ true)
    ↔ (((i a b : ℕ) × (vote : Option Vote) × (m ≡ Phase1b i a b vote))
    ⊎ (((i a b v : ℕ) × (m ≡ Phase2b i a b v)) ⊎ ((i v : ℕ) × (m ≡ Phase2a i 0 v))))
received_words m = (there m, back)
  where
    there : (m : Wire.Message) → is_received m ≡ true
        → ((i a b : ℕ) × (vote : Option Vote) × (m ≡ Phase1b i a b vote)) ⊎ (((i a b v : ℕ) × (m ≡ Phase2b i a b v)) ⊎ ((i v : ℕ) × (m ≡ Phase2a i 0 v)))
    there (Phase1a ins bal) h = absurd (false≢true h)
    there (Phase1b ins acc mbal vote) h = inl (ins, acc, mbal, vote, refl)
    there (Phase2a ins bal val) h = inr (inr (ins, val, ap (λ (b : ℕ). Phase2a ins b val) (eqb-true bal 0 h)))
    there (Phase2b ins acc bal val) h = inr (inl (ins, acc, bal, val, refl))
    there (Decision val) h = absurd (false≢true h)

    back : ((i a b : ℕ) × (vote : Option Vote) × (m ≡ Phase1b i a b vote)) ⊎ (((i a b v : ℕ) × (m ≡ Phase2b i a b v)) ⊎ ((i v : ℕ) × (m ≡ Phase2a i 0 v)))
        → is_received m ≡ true
    back (inl (i, a, b, vote, is)) = rw is
    back (inr (inl (i, a, b, v, is))) = rw is
    back (inr (inr (i, v, is))) = rw is

pub decision_words : (m : Wire.Message) → (is_decision m ≡ true) ↔ ((v : ℕ) × (m ≡ Decision v))
decision_words m = (there m, λ (v, is). rw is)
  where
    there : (m : Wire.Message) → is_decision m ≡ true → (v : ℕ) × (m ≡ Decision v)
    there (Phase1a ins bal) h = absurd (false≢true h)
    there (Phase1b ins acc mbal vote) h = absurd (false≢true h)
    there (Phase2a ins bal val) h = absurd (false≢true h)
    there (Phase2b ins acc bal val) h = absurd (false≢true h)
    there (Decision val) h = (val, refl)

pub taken_words : (m : Wire.Message) → (is_taken m ≡ true) ↔ (((i b : ℕ) × (m ≡ Phase1a i b)) ⊎ ((i b v : ℕ) × (m ≡ Phase2a i b v)))
taken_words m = (there m, back)
  where
    there : (m : Wire.Message) → is_taken m ≡ true → ((i b : ℕ) × (m ≡ Phase1a i b)) ⊎ ((i b v : ℕ) × (m ≡ Phase2a i b v))
    there (Phase1a ins bal) h = inl (ins, bal, refl)
    there (Phase1b ins acc mbal vote) h = absurd (false≢true h)
    there (Phase2a ins bal val) h = inr (ins, bal, val, refl)
    there (Phase2b ins acc bal val) h = absurd (false≢true h)
    there (Decision val) h = absurd (false≢true h)

    back : ((i b : ℕ) × (m ≡ Phase1a i b)) ⊎ ((i b v : ℕ) × (m ≡ Phase2a i b v)) → is_taken m ≡ true
    back (inl (i, b, is)) = rw is
    back (inr (i, b, v, is)) = rw is
