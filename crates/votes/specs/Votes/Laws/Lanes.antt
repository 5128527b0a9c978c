-- Q tested sixteen bytes at a time: each byte and the one after it, taken for bal and val, leave a number in a lane of their own, and 0 stands
-- for bytes in order. Only every third lane counts.
--     or_none                                two numbers that put nothing together
--     ordered                                bal and val in order, by the code's tests
--     Gathered, gathered_none, _step, _all   the lanes after the first n of them were gathered
--     Clear, clear_none, _step, _all         the first n lanes that count are 0
--     block_votes                            sixteen places of Q by three times sixteen lanes
--     Rows, rows_none, _step                 three times sixteen lanes: a block of Q, which is sixteen places
--     three                                  three things of the same kind
--     Passed, passed_none, _step             the blocks passed so far
-- Assumes nothing.
use Rattle.std.specs.Prelude.{ℕ, zero, suc, ◌+◌, ◌*◌, ◌-◌, ◌≤◌, ◌<◌, true, List, [], ◌∷◌, ◌≡◌, refl, length, get_or, drop, set}
use Rattle.std.proofs.Math.Decide.{ℕ_discrete}
use Rattle.std.proofs.Common.{arith, sym, ap, ◌∙◌, length-set, get_or-set_same, get_or-set_other, le-leb}
use lib.Bits.{bit_or, or_add_and, and_le_l, and_le_r}
use Rattle.votes.specs.Votes.{is_vote_state, are_votes}
use Rattle.votes.specs.Votes.Laws.{are_votes_step}

pub or_none : (a b : ℕ) → bit_or a b ≡ 0 → (a ≡ 0) × (b ≡ 0)
or_none a b e = (omega (arith, or_add_and a b, and_le_r a b), omega (arith, or_add_and a b, and_le_l a b))

pub ordered : (bal val sign : ℕ) → val ≤ 2 → sign ≤ val → (sign ≡ 0 → bal ≡ 0) → is_vote_state bal val ≡ true
unfolding is_vote_state
ordered bal val sign h l z = go (ℕ_discrete val 0)
  where
    go : Dec (val ≡ 0) → is_vote_state bal val ≡ true
    go (yes e) = rw (e, z (omega (arith, e))) refl
    go (no n) = rw (le-leb val 2 h, le-leb 1 val (omega (arith, n))) refl

-- the first n lanes took in the bytes from `at` on, and the rest is as before
pub record Gathered (n : ℕ) (votes : List ℕ) (at : ℕ) (lanes after : List ℕ) : Type 0 where
  pub size : length after ≡ length lanes
  pub zeros : (k : ℕ) → k < n → get_or after k 0 ≡ 0 → get_or lanes k 0 ≡ 0
  pub states : (k : ℕ) → k < n → get_or after k 0 ≡ 0 → is_vote_state (get_or votes (at + k) 0) (get_or votes (at + k + 1) 0) ≡ true
  pub rest : (k : ℕ) → n ≤ k → get_or after k 0 ≡ get_or lanes k 0

pub gathered_none : (votes : List ℕ) (at : ℕ) (lanes : List ℕ) → Gathered 0 votes at lanes lanes
gathered_none votes at lanes = record {
  size = refl;
  zeros = λ k h e. absurd (omega (arith, h));
  states = λ k h e. absurd (omega (arith, h));
  rest = λ k h. refl;
}

module _ (n : ℕ) (votes : List ℕ) (at : ℕ) (lanes after : List ℕ) (g : Gathered n votes at lanes after) (l : n < length after) (r : ℕ)
    (p : r ≡ 0 → (get_or after n 0 ≡ 0) × (is_vote_state (get_or votes (at + n) 0) (get_or votes (at + n + 1) 0) ≡ true)) where
  same : get_or (set after n r) n 0 ≡ 0 → r ≡ 0
  same e = sym (get_or-set_same after n r 0 l) ∙ e

  zeros_step : (k : ℕ) → Dec (k ≡ n) → k < n + 1 → get_or (set after n r) k 0 ≡ 0 → get_or lanes k 0 ≡ 0
  zeros_step k (yes q) h e = rw q (sym (g.rest n (omega arith)) ∙ (p (same (rw q at e))).0)
  zeros_step k (no q) h e = g.zeros k (omega (arith, q)) (sym (get_or-set_other after n k r 0 q) ∙ e)

  states_step : (k : ℕ) → Dec (k ≡ n) → k < n + 1 → get_or (set after n r) k 0 ≡ 0
      → is_vote_state (get_or votes (at + k) 0) (get_or votes (at + k + 1) 0) ≡ true
  states_step k (yes q) h e = rw q (p (same (rw q at e))).1
  states_step k (no q) h e = g.states k (omega (arith, q)) (sym (get_or-set_other after n k r 0 q) ∙ e)

  pub gathered_step : Gathered (n + 1) votes at lanes (set after n r)
  gathered_step = record {
    size = length-set after n r ∙ g.size;
    zeros = λ k. zeros_step k (ℕ_discrete k n);
    states = λ k. states_step k (ℕ_discrete k n);
    rest = λ k h. get_or-set_other after n k r 0 (λ q. absurd (omega (arith, h, q))) ∙ g.rest k (omega (arith, h));
  }

pub gathered_all : (n m : ℕ) → n ≤ m → m ≤ n → (votes : List ℕ) (at : ℕ) (lanes after : List ℕ)
    → Gathered n votes at lanes after → Gathered m votes at lanes after
gathered_all n m p q votes at lanes after g =
    let e : m ≡ n = omega arith in
    rw e g

-- the first n lanes that count
pub record Clear (n : ℕ) (lanes : List ℕ) : Type 0 where
  pub zeros : (k : ℕ) → k < n → get_or lanes (3 * k) 0 ≡ 0

pub clear_none : (lanes : List ℕ) → Clear 0 lanes
clear_none lanes = record { zeros = λ k h. absurd (omega (arith, h)) }

pub clear_step : (n : ℕ) (lanes : List ℕ) → Clear n lanes → get_or lanes (3 * n) 0 ≡ 0 → Clear (n + 1) lanes
clear_step n lanes c e = record { zeros = λ k. go k (ℕ_discrete k n) }
  where
    go : (k : ℕ) → Dec (k ≡ n) → k < n + 1 → get_or lanes (3 * k) 0 ≡ 0
    go k (yes q) h = rw q e
    go k (no q) h = c.zeros k (omega (arith, q))

pub clear_all : (n m : ℕ) → m ≤ n → (lanes : List ℕ) → Clear n lanes → Clear m lanes
clear_all n m p lanes c = record { zeros = λ k h. c.zeros k (omega (arith, h)) }

clear_before : (votes : List ℕ) (at : ℕ) (lanes after : List ℕ) → Gathered 16 votes at lanes after → Clear 6 after → Clear 6 lanes
clear_before votes at lanes after g c = record { zeros = λ k h. g.zeros (3 * k) (omega (arith, h)) (c.zeros k h) }

-- from i on to j, n places whose bal and val are in order, from `at` on
run : (votes : List ℕ) (n i j at : ℕ) → j ≡ i + 3 * n → at ≡ i + 1 → 3 * n ≤ length votes - i
    → ((k : ℕ) → k < n → is_vote_state (get_or votes (at + 3 * k) 0) (get_or votes (at + 3 * k + 1) 0) ≡ true)
    → are_votes (drop j votes) ≡ are_votes (drop i votes)
run votes zero i j at e f h s =
    let same : j ≡ i = omega arith in
    rw same refl
run votes (suc n) i j at e f h s =
    let here : j ≡ i + 3 * n + 3 = omega arith in
    let bal : at + 3 * n ≡ i + 3 * n + 1 = omega arith in
    let val : at + 3 * n + 1 ≡ i + 3 * n + 2 = omega arith in
    rw here
    (are_votes_step votes (i + 3 * n) (omega arith) (rw (← val, ← bal) (s n (omega arith)))
    ∙ run votes n i (i + 3 * n) at refl f (omega arith) (λ k l. s k (omega arith)))

module _ (votes : List ℕ) (i : ℕ) (h : 47 < length votes - i) (a b c a' b' c' : List ℕ)
    (p : Gathered 16 votes (i + 1) a a') (q : Gathered 16 votes (i + 16) b b') (r : Gathered 16 votes (i + 31) c c') where
  pub block_votes : (Clear 6 a → Clear 6 b → Clear 6 c → are_votes (drop i votes) ≡ are_votes votes)
      → Clear 6 a' → Clear 6 b' → Clear 6 c' → are_votes (drop (i + 48) votes) ≡ are_votes votes
  block_votes before x y z =
      run votes 6 (i + 30) (i + 48) (i + 31) (omega arith) (omega arith) (omega arith)
      (λ k l. r.states (3 * k) (omega arith) (z.zeros k l))
      ∙ run votes 5 (i + 15) (i + 30) (i + 16) (omega arith) (omega arith) (omega arith)
      (λ k l. q.states (3 * k) (omega arith) (y.zeros k (omega arith)))
      ∙ run votes 5 i (i + 15) (i + 1) (omega arith) (omega arith) (omega arith)
      (λ k l. p.states (3 * k) (omega arith) (x.zeros k (omega arith)))
      ∙ before (clear_before votes _ a a' p x) (clear_before votes _ b b' q y) (clear_before votes _ c c' r z)

-- the first n rows of three took in the bytes from `at` on, each fifteen bytes after the last, and the rest is as before
pub record Rows (n : ℕ) (votes : List ℕ) (at : ℕ) (rows after : List (List ℕ)) : Type 0 where
  pub size : length after ≡ 3
  pub sizes : (k : ℕ) → k < 3 → length (get_or after k []) ≡ 16
  pub gathered : (k : ℕ) → k < n → Gathered 16 votes (at + 15 * k) (get_or rows k []) (get_or after k [])
  pub rest : (k : ℕ) → n ≤ k → get_or after k [] ≡ get_or rows k []

-- three things of the same kind
pub three : {A : Type 0} (P : A → Type 0) {a b c : A} (d : A) → P a → P b → P c → (k : ℕ) → k < 3 → P (get_or (a ∷ b ∷ c ∷ []) k d)
three P d x y z zero h = x
three P d x y z (suc zero) h = y
three P d x y z (suc (suc zero)) h = z
three P d x y z (suc (suc (suc k))) h = absurd (omega (arith, h))

pub rows_none : (votes : List ℕ) (at : ℕ) (rows : List (List ℕ)) → length rows ≡ 3 → ((k : ℕ) → k < 3 → length (get_or rows k []) ≡ 16)
    → Rows 0 votes at rows rows
rows_none votes at rows e f = record { size = e; sizes = f; gathered = λ k h. absurd (omega (arith, h)); rest = λ k h. refl }

pub rows_step : (n : ℕ) (votes : List ℕ) (at : ℕ) (rows after : List (List ℕ)) → Rows n votes at rows after → n < 3 → (r : List ℕ)
    → Gathered 16 votes (at + 15 * n) (get_or after n []) r → Rows (n + 1) votes at rows (set after n r)
rows_step n votes at rows after g l r h = record {
  size = length-set after n r ∙ g.size;
  sizes = λ k m. elim (ℕ_discrete k n) [
    | yes q ↦ rw (q, get_or-set_same after n r [] (omega (arith, g.size))) (h.size ∙ g.sizes n l)
    | no q ↦ rw (get_or-set_other after n k r [] q) (g.sizes k m)
  ];
  gathered = λ k m. elim (ℕ_discrete k n) [
    | yes q ↦ rw (q, get_or-set_same after n r [] (omega (arith, g.size))) (rw (g.rest n (omega arith)) at h)
    | no q ↦ rw (get_or-set_other after n k r [] q) (g.gathered k (omega (arith, m, q)))
  ];
  rest = λ k m. get_or-set_other after n k r [] (λ q. absurd (omega (arith, m, q))) ∙ g.rest k (omega (arith, m));
}

-- where every lane that counts is 0, the bytes that are left are votes exactly when all are
pub record Passed (votes left : List ℕ) (rows : List (List ℕ)) : Type 0 where
  pub votes_left : ((k : ℕ) → k < 3 → Clear 6 (get_or rows k [])) → are_votes left ≡ are_votes votes

pub passed_none : (votes : List ℕ) (rows : List (List ℕ)) → Passed votes votes rows
passed_none votes rows = record { votes_left = λ c. refl }

module _ (left : List ℕ) (h : 48 ≤ length left) (n : ℕ) (all : 3 ≤ n) (rows after : List (List ℕ)) (g : Rows n left 1 rows after) where
  states : ((k : ℕ) → k < 3 → Clear 6 (get_or after k [])) → (m : ℕ) → m < 3 → (k : ℕ) → k < 6
      → is_vote_state (get_or left (1 + 15 * m + 3 * k) 0) (get_or left (1 + 15 * m + 3 * k + 1) 0) ≡ true
  states c m l k p = (g.gathered m (omega (arith, all, l))).states (3 * k) (omega (arith, p)) ((c m l).zeros k p)

  pub passed_step : (votes rest : List ℕ) → rest ≡ drop 48 left → Passed votes left rows → Passed votes rest after
  passed_step votes rest e before = record {
    votes_left = λ c.
        ap are_votes e
        ∙ run left 6 30 48 (1 + 15 * 2) refl refl (omega arith) (states c 2 (omega arith))
        ∙ run left 5 15 30 (1 + 15 * 1) refl refl (omega arith) (λ k l. states c 1 (omega arith) k (omega (arith, l)))
        ∙ run left 5 0 15 (1 + 15 * 0) refl refl (omega arith) (λ k l. states c 0 (omega arith) k (omega (arith, l)))
        ∙ before.votes_left (λ k l. clear_before left _ _ _ (g.gathered k (omega (arith, all, l))) (c k l));
  }
