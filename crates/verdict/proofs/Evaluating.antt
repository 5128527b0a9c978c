-- From what a role makes of the event to its verdict.
--     led, is_led                                 an event of a leader: who is one
--     no_event, on_states_lem, on_votes_lem, on_inbox_lem  what the event comes to: 7, or what its role makes of it
--     leader_part_lem                             what a leader makes of its part of I and of the summary
-- Assumes nothing.
use Prim.Native.Nat.{ℕ, ◌/◌, ◌≤◌, ◌<◌}
use mathlib.Core.Bool.{Bool, true, false, ◌&&◌}
use mathlib.Core.List.{List}
use mathlib.Core.Path.{◌≡◌, ◌∙◌, ap, ap₂}
use lib.Dec.{leb, eqb, ltb}
use lib.ListN.{length}
use borrow.Author.Tests.{le-leb, lt-leb, eq-eqb, ne_eqb, ltb-true}
use Rattle.message.specs.declared.Plan.{Plan}
use Rattle.message.specs.Outcome.{Outcome, refused, refuse_if}
use Rattle.message.proofs.Outcome.Laws.{both}
use Rattle.slots.specs.View.Bytes.{view_bytes}
use Rattle.event.specs.Event.{kind_of, who_of, high_of, low_of, who_limit, are_arguments, is_event}
use Rattle.change.specs.declared.Change.{Change}
use Rattle.rm.specs.Rm.{rm_verdict}
use Rattle.acceptor.specs.Acceptor.{acceptor_verdict}
use Rattle.leader.specs.Leader.{stands, leader_verdict_by}
use Rattle.opening.specs.Opening.{Tables}
use Rattle.judging.specs.Judging.{inbox_of}
use Rattle.verdict.specs.Verdict.{leader_on, record_verdict}
use Rattle.verdict.proofs.Inboxes.{part_of, part_is}

-- a leader's event names a leader
pub led : (p : Plan) (e : List ℕ) → is_event p e ≡ true → 2 < kind_of e → (kind_of e ≡ 3 → ⊥) → who_of e < p.leaders
unfolding is_event who_limit
led p e is h k =
    let first : Bool = eqb (length e) 4 && leb (kind_of e) 8 in
    let limit = both (first && ltb (who_of e) (who_limit p (kind_of e))) (are_arguments p (kind_of e) (high_of e) (low_of e)) is in
    let below = ltb-true (who_of e) (who_limit p (kind_of e)) (both first _ limit.0).1 in
    rw (lt-leb (kind_of e) 2 h, ne_eqb (kind_of e) 3 k) at below

pub is_led : (p : Plan) (e : List ℕ) → is_event p e ≡ true → (kind : ℕ) → kind ≡ kind_of e → 2 < kind → (kind ≡ 3 → ⊥) → who_of e < p.leaders
is_led p e is kind same h k = led p e is (rw (← same) h) (λ x. k (same ∙ x))

-- what the event comes to
module _ (p : Plan) (t : Tables) (e : List ℕ) where
  pub no_event : is_event p e ≡ false → refused 7 ≡ record_verdict p t e
  unfolding record_verdict refuse_if
  no_event h = rw h

  module _ (is : is_event p e ≡ true) (kind : ℕ) (same : kind ≡ kind_of e) where
    pub on_states_lem : kind ≤ 2 → (o : Outcome Change) → o ≡ rm_verdict p t.states (view_bytes p t.network) e → o ≡ record_verdict p t e
    unfolding record_verdict refuse_if
    on_states_lem h o done = rw (is, ← same, le-leb kind 2 h) done

    pub on_votes_lem : 2 < kind → kind ≡ 3 → (o : Outcome Change) → o ≡ acceptor_verdict p t.votes (view_bytes p t.network) e → o ≡ record_verdict p t e
    unfolding record_verdict refuse_if
    on_votes_lem h k o done = rw (is, ← same, lt-leb kind 2 h, eq-eqb kind 3 k) done

    pub on_inbox_lem : 2 < kind → (kind ≡ 3 → ⊥) → (o : Outcome Change) → o ≡ leader_on p t.inboxes t.summary t.network e → o ≡ record_verdict p t e
    unfolding record_verdict refuse_if
    on_inbox_lem h k o done = rw (is, ← same, lt-leb kind 2 h, ne_eqb kind 3 k) done

pub leader_part_lem : (p : Plan) (i s n e : List ℕ) (size : ℕ) → size ≡ length i / p.leaders → (count : ℕ) → count ≡ length s / p.leaders
    → (who : ℕ) → who ≡ who_of e → (o : Outcome Change)
    → o ≡ leader_verdict_by p (stands (part_of count s who)) (view_bytes p (part_of size i who)) (view_bytes p n) e → o ≡ leader_on p i s n e
leader_part_lem p i s n e size of_size count of-count who same o done =
    done
    ∙ ap₂ (λ (own b : List ℕ). leader_verdict_by p (stands own) (view_bytes p b) (view_bytes p n) e)
    (part_is p s count of-count who ∙ ap (inbox_of p s) same) (part_is p i size of_size who ∙ ap (inbox_of p i) same)
