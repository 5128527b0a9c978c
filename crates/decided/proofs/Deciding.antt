-- From the slots one by one to the answer.
--     turn_next, turn_decides      one slot further: no majority, and the first
--     block_next                   slots that begin as no 2b of the instance are passed
--     turns_end, counted_end       no slot left
--     none_decided                 no message decides nothing
--     bad_plan, good_plan          a plan out of range decides nothing, and one in range leaves the rest to decide
-- Assumes nothing.
use Prim.Native.Nat.{ℕ, zero, suc, ◌+◌, ◌*◌, ◌≤◌, ◌<◌}
use mathlib.Core.Bool.{Bool, true, false, ◌&&◌}
use mathlib.Core.List.{List}
use mathlib.Core.Path.{◌≡◌, refl, sym, ◌∙◌, ap}
use native.Mathlib.Nat.{add-zero, le_refl, le_of_eq}
use native.Mathlib.Omega.{arith}
use lib.ListN.{get_or}
use Rattle.message.specs.declared.Plan.{Plan}
use Rattle.message.specs.Plan.{is_plan}
use Rattle.slots.specs.Table.{slot_size}
use Rattle.slots.specs.Table.Scan.{edge, peek_messages}
use Rattle.inbox.specs.Inbox.{decided}
use Rattle.inbox.specs.Inbox.Slots.{message_at, ahead, ahead_next, ahead_end}
use Rattle.inbox.specs.Inbox.Votes.{tally, vote_step, Counts, counts_start, counts_next, counts_major, counts_end}
use Rattle.decided.specs.Pass.{begins2b, Counted}
use Rattle.decided.proofs.Voting.{small_ballot_lem, vote_none}

-- `used` is where the used slots end
module _ (p : Plan) (i v : ℕ) (t : List ℕ) (used : ℕ) (of-used : used ≡ edge t) where
  module _ (k : ℕ) (masks : List ℕ) (inv : Counts p i v (peek_messages t) masks (ahead t k)) where
    -- `next` and `major` are what the slot at k makes of the sets
    module _ (plan : is_plan p ≡ true) (h : k < used) (bytes : (j : ℕ) → get_or t j 0 < 256) (next : List ℕ) (major : Bool)
        (of-next : tally next major ≡ vote_step p i v masks (message_at t (k * slot_size))) where
      pub turn_next : major ≡ false → Counts p i v (peek_messages t) next (ahead t (k + 1))
      turn_next =
          counts_next p i v _ masks _ plan _ inv _ (ahead_next t used of-used k h)
          (small_ballot_lem t (k * slot_size) (bytes (k * slot_size + 3))) (tally next major) of-next

      pub turn_decides : major ≡ true → decided p (peek_messages t) i v ≡ true
      turn_decides =
          counts_major p i v _ masks _ plan _ inv _ (ahead_next t used of-used k h)
          (small_ballot_lem t (k * slot_size) (bytes (k * slot_size + 3))) (tally next major) of-next

    pub turns_end : used ≤ k → false ≡ decided p (peek_messages t) i v
    turns_end h = sym (counts_end p i v _ masks _ inv (ahead_end t used of-used k h))

  module _ (plan : is_plan p ≡ true) (bytes : (j : ℕ) → get_or t j 0 < 256) (k : ℕ) (masks : List ℕ) (inv : Counts p i v (peek_messages t) masks (ahead t k)) where
    pub block_next : (n : ℕ) → k + n ≤ used → ((j : ℕ) → j < n → begins2b i t ((k + j) * slot_size) ≡ false)
        → Counts p i v (peek_messages t) masks (ahead t (k + n))
    block_next zero h none = rw (add-zero k) inv
    block_next (suc n) h none =
        let next : k + n + 1 ≡ k + suc n = omega arith in
        let before = block_next n (omega arith) (λ j l. none j (omega arith)) in
        rw next at
        (turn_next (k + n) masks before plan (omega arith) bytes masks false
        (vote_none t ((k + n) * slot_size) p i v masks (none n (le_refl _))) refl)

  pub counted_end : (masks : List ℕ) (r : Bool) → Counted p i v (peek_messages t) masks (ahead t used) r → r ≡ decided p (peek_messages t) i v
  counted_end masks true c = sym (c.decides refl)
  counted_end masks false c = turns_end used masks (c.further refl) (le_refl _)

  pub none_decided : used ≡ 0 → false ≡ decided p (peek_messages t) i v
  none_decided e = turns_end 0 _ (counts_start p i v _) (le_of_eq e)

module _ (p : Plan) where
  pub bad_plan : is_plan p ≡ false → (t : Bool) → false ≡ (is_plan p && t)
  bad_plan h t = sym (ap (λ (s : Bool). s && t) h)

  pub good_plan : is_plan p ≡ true → (r t : Bool) → r ≡ t → r ≡ (is_plan p && t)
  good_plan h r t e = e ∙ sym (ap (λ (s : Bool). s && t) h)
