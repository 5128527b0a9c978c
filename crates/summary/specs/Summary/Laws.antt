-- Laws of a summary's bytes.
--     summary_length, summary_bytes, is_summary_lem  row 20 does not apply exactly where the length is right and no byte is above 3
--     zeros_sound                                   zeros are a summary
--     stands_prepared, stands_aborted               the bit of each value: bit 0, bit 1
--     stands_0 .. stands_3                          the bits of the four bytes
--     decline_is, is_decline_lem, later_declines    a decline of i is 2a(i, 0, 2); a 2a of a later ballot is none
--     announced_prepared, announced_aborted         what may be announced, of each value
--     standing_0 .. standing_3                      the byte by that
--     two_values, is_value_lem, vote_parts, proposal_instance  a value is 1 or 2; a 2b in range has an instance of the plan and a value, a 2a an instance
--     marked_length, marked_sound                   a receipt leaves a summary one; marked_at_length, marked_at_sound by what the slot holds
--     marked_no_decline, marked_none                     a 2a that is no decline marks nothing, nor does a message that is no 2a and no 2b
--     marked_bit, marked_decline, marked_grows      a 2b of (i, v) sets that bit where it is decided, a decline of i the bit of (i, 2), and no other;
--                                                   no bit is cleared
-- Assumes nothing.
use Rattle.std.specs.Prelude.{ℕ, zero, suc, ◌-◌, ◌/◌, ◌%◌, ◌<◌, ◌≤◌, Bool, ◌&&◌, ◌||◌, List, [], ◌∷◌, ◌⊎◌, ◌≡◌, ltb, length, get_or, set, replicate}
use Rattle.std.proofs.Common.{suc-le-suc, zero-le, inl, inr, sym, ◌∙◌, arith, length-set, get_or-set_same, get_or-set_other}
use Rattle.std.proofs.Math.Bool.{true, false, cond, or-false, and-true, and-false}
use Rattle.std.proofs.lemmas.Bool.{false≢true}
use Rattle.std.proofs.Math.Path.{refl, ap}
use Rattle.std.proofs.Math.Decide.{ℕ_discrete}
use Rattle.std.proofs.Math.Dec.{leb, eqb}
use Rattle.std.proofs.lemmas.List.{length-replicate}
use Rattle.std.proofs.Math.Seq.{set_out}
use borrow.Author.Tests.{eq-eqb, ne_eqb, eqb-true, eqb-false, leb-true, le-leb, ltb-true, ltb-false}
use Rattle.message.specs.declared.Plan.{Plan}
use Rattle.message.specs.declared.Message.{Message}
use Rattle.message.specs.declared.Message.TheVariants.{Phase1a, Phase1b, Phase2a, Phase2b, Decision}
use Rattle.message.specs.Outcome.{Outcome, accepted, refused}
use Rattle.message.proofs.Outcome.Laws.{both}
use Rattle.message.specs.Form.{is_value, is_in_range}
use Rattle.slots.specs.All.{all}
use Rattle.slots.proofs.All.Laws.{all_set}
use Rattle.quorum.specs.Mask.{has_bit, insert_bit, join}
use Rattle.quorum.proofs.Mask.Laws.{has_bit_insert, has_bit_other, join_bit}
use Rattle.inbox.specs.Inbox.{any, decided}
use Rattle.summary.specs.Summary.{is_summary, stands, is_decline, with_bit, marked, marked_at, decided_or_declined, standing}

-- every byte of a list of which each passes, and the 0 beyond it
all_bytes : (test : ℕ → Bool) → test 0 ≡ true → (s : List ℕ) → all test s ≡ true → (i : ℕ) → test (get_or s i 0) ≡ true
unfolding all
all_bytes test z [] h i = z
all_bytes test z (x ∷ s) h zero = (both (test x) (all test s) h).0
all_bytes test z (x ∷ s) h (suc i) = all_bytes test z s (both (test x) (all test s) h).1 i

bytes_all : (test : ℕ → Bool) (s : List ℕ) → ((i : ℕ) → i < length s → test (get_or s i 0) ≡ true) → all test s ≡ true
unfolding all
bytes_all test [] h = refl
bytes_all test (x ∷ s) h = rw (h 0 (suc-le-suc zero-le)) (bytes_all test s (λ i k. h (suc i) (suc-le-suc k)))

module _ (n : ℕ) (s : List ℕ) where
  module _ (sound : is_summary n s ≡ true) where
    pub summary_length : length s ≡ n
    unfolding is_summary
    summary_length = eqb-true _ _ (both (eqb (length s) n) (all (λ b. leb b 3) s) sound).0

    pub summary_bytes : (i : ℕ) → get_or s i 0 ≤ 3
    unfolding is_summary
    summary_bytes i = leb-true _ 3 (all_bytes (λ b. leb b 3) refl s (both (eqb (length s) n) (all (λ b. leb b 3) s) sound).1 i)

  pub is_summary_lem : length s ≡ n → ((i : ℕ) → i < n → get_or s i 0 ≤ 3) → is_summary n s ≡ true
  unfolding is_summary
  is_summary_lem size small =
      rw (eq-eqb (length s) n size, bytes_all (λ b. leb b 3) s (λ i h. le-leb (get_or s i 0) 3 (small i (rw size at h))))

zeros_bytes : (n i : ℕ) → get_or (replicate n 0) i 0 ≤ 3
zeros_bytes zero i = zero-le
zeros_bytes (suc n) zero = zero-le
zeros_bytes (suc n) (suc i) = zeros_bytes n i

pub zeros_sound : (n : ℕ) → is_summary n (replicate n 0) ≡ true
zeros_sound n = is_summary_lem n (replicate n 0) (length-replicate n 0) (λ i h. zeros_bytes n i)

module _ (s : List ℕ) (i : ℕ) where
  pub stands_prepared : stands s i 1 ≡ eqb (get_or s i 0 % 2) 1
  unfolding stands has_bit
  stands_prepared = refl

  pub stands_aborted : stands s i 2 ≡ eqb (get_or s i 0 / 2 % 2) 1
  unfolding stands has_bit
  stands_aborted = refl

  bits : (b : ℕ) → get_or s i 0 ≡ b → (stands s i 1 ≡ has_bit b 0) × (stands s i 2 ≡ has_bit b 1)
  unfolding stands
  bits b is = (ap (λ (x : ℕ). has_bit x 0) is, ap (λ (x : ℕ). has_bit x 1) is)

  pub stands_0 : get_or s i 0 ≡ 0 → (stands s i 1 ≡ false) × (stands s i 2 ≡ false)
  unfolding has_bit
  stands_0 is = bits 0 is

  pub stands_1 : get_or s i 0 ≡ 1 → (stands s i 1 ≡ true) × (stands s i 2 ≡ false)
  unfolding has_bit
  stands_1 is = bits 1 is

  pub stands_2 : get_or s i 0 ≡ 2 → (stands s i 1 ≡ false) × (stands s i 2 ≡ true)
  unfolding has_bit
  stands_2 is = bits 2 is

  pub stands_3 : get_or s i 0 ≡ 3 → (stands s i 1 ≡ true) × (stands s i 2 ≡ true)
  unfolding has_bit
  stands_3 is = bits 3 is

module _ (p : Plan) (seen : List Message) (i : ℕ) where
  -- of prepared it is what is Decided; of aborted a decline does as well
  pub announced_prepared : decided_or_declined p seen i 1 ≡ decided p seen i 1
  unfolding decided_or_declined
  announced_prepared = or-false (decided p seen i 1)

  pub announced_aborted : decided_or_declined p seen i 2 ≡ (decided p seen i 2 || any (is_decline i) seen)
  unfolding decided_or_declined
  announced_aborted = refl

  pub standing_0 : decided_or_declined p seen i 1 ≡ false → decided_or_declined p seen i 2 ≡ false → standing p seen i ≡ 0
  unfolding standing
  standing_0 one two = rw (one, two)

  pub standing_1 : decided_or_declined p seen i 1 ≡ true → decided_or_declined p seen i 2 ≡ false → standing p seen i ≡ 1
  unfolding standing
  standing_1 one two = rw (one, two)

  pub standing_2 : decided_or_declined p seen i 1 ≡ false → decided_or_declined p seen i 2 ≡ true → standing p seen i ≡ 2
  unfolding standing
  standing_2 one two = rw (one, two)

  pub standing_3 : decided_or_declined p seen i 1 ≡ true → decided_or_declined p seen i 2 ≡ true → standing p seen i ≡ 3
  unfolding standing
  standing_3 one two = rw (one, two)

pub decline_is : (i : ℕ) (m : Message) → is_decline i m ≡ true → m ≡ Phase2a i 0 2
unfolding is_decline
decline_is i (Phase1a ins bal) h = absurd (false≢true h)
decline_is i (Phase1b ins acc mbal vote) h = absurd (false≢true h)
decline_is i (Phase2a ins bal val) h =
    let (here, rest) = both (eqb ins i) (eqb bal 0 && eqb val 2) h in
    let (first, two) = both (eqb bal 0) (eqb val 2) rest in
    rw (eqb-true ins i here, eqb-true bal 0 first, eqb-true val 2 two)
decline_is i (Phase2b ins acc bal val) h = absurd (false≢true h)
decline_is i (Decision val) h = absurd (false≢true h)

pub later_declines : (i ins bal val : ℕ) → 0 < bal → is_decline i (Phase2a ins bal val) ≡ false
unfolding is_decline
later_declines i ins bal val above = rw (ne_eqb bal 0 (λ e. omega arith)) (and-false (eqb ins i))

pub is_decline_lem : (i : ℕ) → is_decline i (Phase2a i 0 2) ≡ true
unfolding is_decline
is_decline_lem i = rw (eq-eqb i i refl)

pub two_values : (v : ℕ) → is_value v ≡ true → (v ≡ 1) ⊎ (v ≡ 2)
unfolding is_value
two_values v h =
    let least = leb-true 1 v (both (leb 1 v) (leb v 2) h).0 in
    let most = leb-true v 2 (both (leb 1 v) (leb v 2) h).1 in
    elim (ℕ_discrete v 1) [ yes e ↦ inl e | no n ↦ inr (omega (arith, n)) ]

pub is_value_lem : (v : ℕ) → (v ≡ 1) ⊎ (v ≡ 2) → is_value v ≡ true
unfolding is_value
is_value_lem v (inl one) = rw one
is_value_lem v (inr two) = rw two

pub vote_parts : (p : Plan) (ins acc bal val : ℕ) → is_in_range p (Phase2b ins acc bal val) ≡ true → (ins < p.rms) × ((val ≡ 1) ⊎ (val ≡ 2))
unfolding is_in_range
vote_parts p ins acc bal val range =
    let r = both (ltb ins p.rms && ltb acc p.acceptors) (is_value val) range in
    (ltb-true ins p.rms (both (ltb ins p.rms) (ltb acc p.acceptors) r.0).0, two_values val r.1)

pub proposal_instance : (p : Plan) (ins bal val : ℕ) → is_in_range p (Phase2a ins bal val) ≡ true → ins < p.rms
unfolding is_in_range
proposal_instance p ins bal val range = ltb-true ins p.rms (both (ltb ins p.rms) (is_value val) range).0

-- a byte up to 3 stays so with bit 0 or bit 1
join_most : (b v : ℕ) → (v ≡ 1) ⊎ (v ≡ 2) → b ≤ 3 → join b (v - 1) ≤ 3
unfolding insert_bit
join_most b v (inl one) h = rw one (omega arith)
join_most b v (inr two) h = rw two (omega arith)

-- one bit set where a test passes
module _ (s : List ℕ) (t : Bool) (ins val : ℕ) where
  bit_length : length (cond t (with_bit s ins val) s) ≡ length s
  bit_length = go t
    where
      go : (t : Bool) → length (cond t (with_bit s ins val) s) ≡ length s
      go true = length-set s ins _
      go false = refl

  bit_sound : (n : ℕ) → (val ≡ 1) ⊎ (val ≡ 2) → is_summary n s ≡ true → is_summary n (cond t (with_bit s ins val) s) ≡ true
  unfolding is_summary
  bit_sound n value sound = go t
    where
      go : (t : Bool) → is_summary n (cond t (with_bit s ins val) s) ≡ true
      go false = sound
      go true =
          let right = both (eqb (length s) n) (all (λ b. leb b 3) s) sound in
          let most = join_most (get_or s ins 0) val value (summary_bytes n s sound ins) in
          rw (length-set s ins (join (get_or s ins 0) (val - 1)), right.0, all_set (λ b. leb b 3) s ins (join (get_or s ins 0) (val - 1)) (le-leb _ 3 most) right.1)

  module _ (j w : ℕ) where
    -- that bit, and no other
    bit_set : ins < length s → (val ≡ 1) ⊎ (val ≡ 2) → (w ≡ 1) ⊎ (w ≡ 2)
        → stands (cond t (with_bit s ins val) s) j w ≡ (stands s j w || (eqb ins j && (eqb val w && t)))
    unfolding stands
    bit_set below v word = go t (eqb ins j) refl
      where
        same : (val ≡ 1) ⊎ (val ≡ 2) → (w ≡ 1) ⊎ (w ≡ 2) → eqb (val - 1) (w - 1) ≡ eqb val w
        same (inl a) (inl b) = rw (a, b)
        same (inl a) (inr b) = rw (a, b)
        same (inr a) (inl b) = rw (a, b)
        same (inr a) (inr b) = rw (a, b)

        low : (w ≡ 1) ⊎ (w ≡ 2) → w - 1 < 8
        low (inl b) = omega arith
        low (inr b) = omega arith

        go : (t e : Bool) → eqb ins j ≡ e
            → has_bit (get_or (cond t (with_bit s ins val) s) j 0) (w - 1) ≡ (has_bit (get_or s j 0) (w - 1) || (e && (eqb val w && t)))
        go false e is = rw (and-false (eqb val w), and-false e, or-false (has_bit (get_or s j 0) (w - 1)))
        go true false is =
            ap (λ (b : ℕ). has_bit b (w - 1)) (get_or-set_other s ins j (join (get_or s ins 0) (val - 1)) 0 (λ q. eqb-false ins j is (sym q)))
            ∙ sym (or-false (has_bit (get_or s j 0) (w - 1)))
        go true true is =
            let here = eqb-true ins j is in
            rw (← here)
            (ap (λ (b : ℕ). has_bit b (w - 1)) (get_or-set_same s ins (join (get_or s ins 0) (val - 1)) 0 below)
            ∙ join_bit (get_or s ins 0) (val - 1) (w - 1) (low word)
            ∙ ap (λ (r : Bool). has_bit (get_or s ins 0) (w - 1) || r) (same v word ∙ sym (and-true (eqb val w))))

    -- no bit is cleared, whatever the instance and the value
    bit_grows : stands s j w ≡ true → stands (cond t (with_bit s ins val) s) j w ≡ true
    unfolding stands
    bit_grows h = go t
      where
        join_grows : (b a c : ℕ) → has_bit b c ≡ true → has_bit (join b a) c ≡ true
        join_grows b a c h = cut (ltb a 8) (ℕ_discrete c a)
          where
            cut : (t : Bool) → Dec (c ≡ a) → has_bit (cond t (insert_bit b a) b) c ≡ true
            cut false e = h
            cut true (yes e) = rw e (has_bit_insert a b)
            cut true (no n) = has_bit_other a c b n ∙ h

        set_grows : (x : ℕ) → (has_bit (get_or s ins 0) (w - 1) ≡ true → has_bit x (w - 1) ≡ true) → stands (set s ins x) j w ≡ true
        set_grows x more = cut (ℕ_discrete j ins) (ltb ins (length s)) refl
          where
            cut : Dec (j ≡ ins) → (b : Bool) → ltb ins (length s) ≡ b → has_bit (get_or (set s ins x) j 0) (w - 1) ≡ true
            cut (no n) b is = ap (λ (y : ℕ). has_bit y (w - 1)) (get_or-set_other s ins j x 0 n) ∙ h
            cut (yes e) true is = rw (e, get_or-set_same s ins x 0 (ltb-true _ _ is)) (more (rw e at h))
            cut (yes e) false is = rw (set_out s ins x (ltb-false _ _ is)) h

        go : (b : Bool) → stands (cond b (with_bit s ins val) s) j w ≡ true
        go false = h
        go true = set_grows (join (get_or s ins 0) (val - 1)) (join_grows (get_or s ins 0) (val - 1) (w - 1))

module _ (d : ℕ → ℕ → Bool) (s : List ℕ) where
  pub marked_length : (m : Message) → length (marked d s m) ≡ length s
  unfolding marked
  marked_length (Phase1a ins bal) = refl
  marked_length (Phase1b ins acc mbal vote) = refl
  marked_length (Phase2a ins bal val) = bit_length s (eqb bal 0 && eqb val 2) ins 2
  marked_length (Phase2b ins acc bal val) = bit_length s (d ins val) ins val
  marked_length (Decision val) = refl

  pub marked_no_decline : (ins bal val : ℕ) → ((bal ≡ 0) × (val ≡ 2) → ⊥) → marked d s (Phase2a ins bal val) ≡ s
  unfolding marked
  marked_no_decline ins bal val other = go (eqb bal 0 && eqb val 2) refl
    where
      go : (t : Bool) → (eqb bal 0 && eqb val 2) ≡ t → cond t (with_bit s ins 2) s ≡ s
      go true is = let (first, two) = both (eqb bal 0) (eqb val 2) is in absurd (other (eqb-true bal 0 first, eqb-true val 2 two))
      go false is = refl

  pub marked_none : (m : Message) → ((ins bal val : ℕ) → m ≡ Phase2a ins bal val → ⊥) → ((ins acc bal val : ℕ) → m ≡ Phase2b ins acc bal val → ⊥)
      → marked d s m ≡ s
  unfolding marked
  marked_none (Phase1a ins bal) no_2a no_2b = refl
  marked_none (Phase1b ins acc mbal vote) no_2a no_2b = refl
  marked_none (Phase2a ins bal val) no_2a no_2b = absurd (no_2a ins bal val refl)
  marked_none (Phase2b ins acc bal val) no_2a no_2b = absurd (no_2b ins acc bal val refl)
  marked_none (Decision val) no_2a no_2b = refl

  pub marked_sound : (p : Plan) (n : ℕ) (m : Message) → is_in_range p m ≡ true → is_summary n s ≡ true → is_summary n (marked d s m) ≡ true
  unfolding marked
  marked_sound p n (Phase1a ins bal) range sound = sound
  marked_sound p n (Phase1b ins acc mbal vote) range sound = sound
  marked_sound p n (Phase2a ins bal val) range sound = bit_sound s (eqb bal 0 && eqb val 2) ins 2 n (inr refl) sound
  marked_sound p n (Phase2b ins acc bal val) range sound = bit_sound s (d ins val) ins val n (vote_parts p ins acc bal val range).1 sound
  marked_sound p n (Decision val) range sound = sound

  -- by what the slot holds
  pub marked_at_length : (o : Outcome Message) → length (marked_at d s o) ≡ length s
  marked_at_length (accepted m) = marked_length m
  marked_at_length (refused number) = refl

  pub marked_at_sound : (p : Plan) (n : ℕ) (o : Outcome Message) → ((m : Message) → o ≡ accepted m → is_in_range p m ≡ true) → is_summary n s ≡ true
      → is_summary n (marked_at d s o) ≡ true
  marked_at_sound p n (accepted m) range sound = marked_sound p n m (range m refl) sound
  marked_at_sound p n (refused number) range sound = sound

  module _ (j w : ℕ) where
    pub marked_bit : (ins acc bal val : ℕ) → ins < length s → (val ≡ 1) ⊎ (val ≡ 2) → (w ≡ 1) ⊎ (w ≡ 2)
        → stands (marked d s (Phase2b ins acc bal val)) j w ≡ (stands s j w || (eqb ins j && (eqb val w && d ins val)))
    unfolding marked
    marked_bit ins acc bal val = bit_set s (d ins val) ins val j w

    pub marked_decline : (ins bal val : ℕ) → ins < length s → (w ≡ 1) ⊎ (w ≡ 2)
        → stands (marked d s (Phase2a ins bal val)) j w ≡ (stands s j w || (eqb ins j && (eqb 2 w && (eqb bal 0 && eqb val 2))))
    unfolding marked
    marked_decline ins bal val below = bit_set s (eqb bal 0 && eqb val 2) ins 2 j w below (inr refl)

    -- no premise on the message or the value
    pub marked_grows : (m : Message) → stands s j w ≡ true → stands (marked d s m) j w ≡ true
    unfolding marked
    marked_grows (Phase1a ins bal) h = h
    marked_grows (Phase1b ins acc mbal vote) h = h
    marked_grows (Phase2a ins bal val) h = bit_grows s (eqb bal 0 && eqb val 2) ins 2 j w h
    marked_grows (Phase2b ins acc bal val) h = bit_grows s (d ins val) ins val j w h
    marked_grows (Decision val) h = h
