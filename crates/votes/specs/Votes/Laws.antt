-- Testing Q place by place.
--     are_votes_step, are_votes_stop, are_votes_end  one place further: it is in order, it is not, there is none
--     places, in_order, are_votes_places       the places by themselves
--     places_none, places_next                 no place, and one more
--     are_votes_at, are_votes_set              a place of Q in order, and Q after one place was written
-- Laws/Lanes.antt has many places tested at a time. Assumes nothing.
pub mod Lanes
use Rattle.std.specs.Prelude.{ℕ, zero, suc, ◌+◌, ◌*◌, ◌-◌, ◌≤◌, ◌<◌, Bool, true, false, List, [], ◌∷◌, ◌++◌, ◌≡◌, refl, length, get_or, drop, set}
use Rattle.std.proofs.Common.{arith, lit≤, length-drop, length-set, drop-cons}
use Rattle.std.specs.List.{list_all}
use Rattle.message.proofs.Outcome.Laws.{both}
use Rattle.votes.specs.Votes.{is_vote_state, are_votes}

module _ (l : List ℕ) (i : ℕ) where
  drop_three : 2 < length l - i → drop i l ≡ get_or l i 0 ∷ get_or l (i + 1) 0 ∷ get_or l (i + 2) 0 ∷ drop (i + 3) l
  drop_three h =
      let one : suc i ≡ i + 1 = omega arith in
      let two : suc (i + 1) ≡ i + 2 = omega arith in
      let three : suc (i + 2) ≡ i + 3 = omega arith in
      rw (drop-cons l i 0 (omega arith), one, drop-cons l (i + 1) 0 (omega arith), two, drop-cons l (i + 2) 0 (omega arith), three)

  pub are_votes_step : 2 < length l - i → is_vote_state (get_or l (i + 1) 0) (get_or l (i + 2) 0) ≡ true → are_votes (drop (i + 3) l) ≡ are_votes (drop i l)
  unfolding are_votes
  are_votes_step h e = rw (drop_three h, e)

  pub are_votes_stop : 2 < length l - i → is_vote_state (get_or l (i + 1) 0) (get_or l (i + 2) 0) ≡ false → are_votes (drop i l) ≡ false
  unfolding are_votes
  are_votes_stop h e = rw (drop_three h, e)

are_votes_short : (l : List ℕ) → length l ≤ 2 → are_votes l ≡ true
unfolding are_votes
are_votes_short [] h = refl
are_votes_short (mbal ∷ []) h = refl
are_votes_short (mbal ∷ bal ∷ []) h = refl
are_votes_short (mbal ∷ bal ∷ val ∷ votes) h = absurd (omega (arith, h))

pub are_votes_end : (l : List ℕ) (i : ℕ) → length l - i ≤ 2 → are_votes (drop i l) ≡ true
are_votes_end l i h = are_votes_short (drop i l) (omega (arith, length-drop i l))

-- the whole places, three bytes each
unfoldable pub places : List ℕ → List (List ℕ)
places [] = []
places (mbal ∷ []) = []
places (mbal ∷ bal ∷ []) = []
places (mbal ∷ bal ∷ val ∷ votes) = (mbal ∷ bal ∷ val ∷ []) ∷ places votes

abbrev pub in_order : List ℕ → Bool
in_order place = is_vote_state (get_or place 1 0) (get_or place 2 0)

pub are_votes_places : (l : List ℕ) → list_all in_order (places l) ≡ are_votes l
unfolding are_votes places
are_votes_places [] = refl
are_votes_places (mbal ∷ []) = refl
are_votes_places (mbal ∷ bal ∷ []) = refl
are_votes_places (mbal ∷ bal ∷ val ∷ votes) = rw (are_votes_places votes) refl

pub places_none : (l : List ℕ) → length l < 3 → length (places l) ≡ 0
unfolding places
places_none [] h = refl
places_none (mbal ∷ []) h = refl
places_none (mbal ∷ bal ∷ []) h = refl
places_none (mbal ∷ bal ∷ val ∷ votes) h = absurd (omega (arith, h))

pub places_next : (place votes : List ℕ) → length place ≡ 3 → places (place ++ votes) ≡ place ∷ places votes
unfolding places
places_next [] votes h = absurd (omega (arith, h))
places_next (mbal ∷ []) votes h = absurd (omega (arith, h))
places_next (mbal ∷ bal ∷ []) votes h = absurd (omega (arith, h))
places_next (mbal ∷ bal ∷ val ∷ []) votes h = refl
places_next (mbal ∷ bal ∷ val ∷ x ∷ l) votes h = absurd (omega (arith, h))

-- place k of a table in order
pub are_votes_at : (votes : List ℕ) → are_votes votes ≡ true → (k : ℕ) → 3 * k + 2 < length votes
    → is_vote_state (get_or votes (3 * k + 1) 0) (get_or votes (3 * k + 2) 0) ≡ true
unfolding are_votes
are_votes_at [] h k l = absurd (omega arith)
are_votes_at (x ∷ []) h k l = absurd (omega arith)
are_votes_at (x ∷ y ∷ []) h k l = absurd (omega arith)
are_votes_at (x ∷ y ∷ z ∷ votes) h zero l = (both (is_vote_state y z) (are_votes votes) h).0
are_votes_at (x ∷ y ∷ z ∷ votes) h (suc k) l =
    let one : 3 * suc k + 1 ≡ suc (suc (suc (3 * k + 1))) = omega arith in
    let two : 3 * suc k + 2 ≡ suc (suc (suc (3 * k + 2))) = omega arith in
    rw (one, two) (are_votes_at votes (both (is_vote_state y z) (are_votes votes) h).1 k (omega arith))

short_set : (l : List ℕ) (i mbal bal val : ℕ) → length l ≤ 2 → are_votes (set (set (set l i mbal) (i + 1) bal) (i + 2) val) ≡ true
short_set l i mbal bal val h = are_votes_short (set (set (set l i mbal) (i + 1) bal) (i + 2) val) (simp length-set h)

-- place k written
pub are_votes_set : (votes : List ℕ) → are_votes votes ≡ true → (k mbal bal val : ℕ) → is_vote_state bal val ≡ true
    → are_votes (set (set (set votes (3 * k) mbal) (3 * k + 1) bal) (3 * k + 2) val) ≡ true
unfolding are_votes
are_votes_set [] h k mbal bal val v = refl
are_votes_set (x ∷ []) h k mbal bal val v = short_set (x ∷ []) (3 * k) mbal bal val (lit≤ tt)
are_votes_set (x ∷ y ∷ []) h k mbal bal val v = short_set (x ∷ y ∷ []) (3 * k) mbal bal val (lit≤ tt)
are_votes_set (x ∷ y ∷ z ∷ votes) h zero mbal bal val v = rw v (both (is_vote_state y z) (are_votes votes) h).1
are_votes_set (x ∷ y ∷ z ∷ votes) h (suc k) mbal bal val v =
    let none : 3 * suc k ≡ suc (suc (suc (3 * k))) = omega arith in
    let one : 3 * suc k + 1 ≡ suc (suc (suc (3 * k + 1))) = omega arith in
    let two : 3 * suc k + 2 ≡ suc (suc (suc (3 * k + 2))) = omega arith in
    let b = both (is_vote_state y z) (are_votes votes) h in
    rw (one, two, none, b.0) (are_votes_set votes b.1 k mbal bal val v)
