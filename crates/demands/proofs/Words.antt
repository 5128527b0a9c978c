-- What definitions that the demands name say, in numbers.
--     answer_number, numbers_mean     the number of a refusal is one of those; 1 to 14, and with a summary 20 too
--     keeps_own, keeps_leader         a role's own call refuses with 1 to 14, a leader's with 20 too, and leaves what it was lent
--     slots_mean       the slots of a table are its bytes, eight by eight (document 02, Paper 1)
-- Assumes nothing.
use Rattle.std.specs.Prelude.{ℕ, ◌*◌, ◌/◌, ◌≤◌, ◌<◌, Bool, true, ◌&&◌, ◌⊎◌, ◌≡◌, refl, leb, length, get_or, take, drop}
use mathlib.Core.List.Memᴰ
use mathlib.Core.List.{List, [], ◌∷◌, Memᴰ}
use Rattle.std.proofs.Common.{inl, inr, leb-true}
use Rattle.message.specs.Outcome.{refused}
use Rattle.message.proofs.Outcome.Laws.{accepted_not_refused, both}
use Rattle.slots.specs.Table.{slots}
use Rattle.slots.proofs.Table.Laws.{length_slots, get_d_slots}
use Rattle.change.specs.Change.{Step}
use Rattle.leader.specs.Leader.{LeaderStep}
use Rattle.demands.specs.Answer.{AcceptedOr, one_to14, to14_and20, KeepsOwn, KeepsLeader}

-- every number of a list lies in bounds
are_between : ℕ → ℕ → List ℕ → Bool
are_between least most [] = true
are_between least most (n ∷ ns) = leb least n && leb n most && are_between least most ns

between : (least most : ℕ) (l : List ℕ) → are_between least most l ≡ true → (k : ℕ) → Memᴰ k l → (least ≤ k) × (k ≤ most)
unfolding are_between
between least most [] e k h = absurd (Memᴰ.not-nil h)
between least most (n ∷ ns) e k (Memᴰ.head same) =
    let b = both (leb least n) (leb n most) (both (leb least n && leb n most) (are_between least most ns) e).0 in
    rw same (leb-true least n b.0, leb-true n most b.1)
between least most (n ∷ ns) e k (Memᴰ.tail h) = between least most ns (both (leb least n && leb n most) (are_between least most ns) e).1 k h

pub answer_number : {A : Type 0} (numbers : List ℕ) (k : ℕ) → AcceptedOr {A = A} numbers (refused k) → Memᴰ k numbers
answer_number numbers k (inl (a, e)) = absurd (accepted_not_refused e)
answer_number numbers k (inr (j, among, e)) = let same : k ≡ j = cc in rw same among

pub numbers_mean : ((k : ℕ) → Memᴰ k one_to14 → (1 ≤ k) × (k ≤ 14)) × ((k : ℕ) → Memᴰ k to14_and20 → ((1 ≤ k) × (k ≤ 14)) ⊎ (k ≡ 20))
unfolding are_between
numbers_mean = (small, go)
  where
    small : (k : ℕ) → Memᴰ k one_to14 → (1 ≤ k) × (k ≤ 14)
    small k h = between 1 14 one_to14 refl k h

    go : (k : ℕ) → Memᴰ k to14_and20 → ((1 ≤ k) × (k ≤ 14)) ⊎ (k ≡ 20)
    go k (Memᴰ.head e) = inr e
    go k (Memᴰ.tail h) = inl (small k h)

pub keeps_own : (table network : List ℕ) (s : Step) (k : ℕ) → KeepsOwn table network s → s.answer ≡ refused k
    → (1 ≤ k) × (k ≤ 14) × (s.table ≡ table) × (s.network ≡ network)
keeps_own table network s k (range, keeps) is =
    let (low, high) = numbers_mean.0 k (answer_number one_to14 k (rw is at range)) in let (t, n) = keeps k is in (low, high, t, n)

pub keeps_leader : (inbox summary network : List ℕ) (s : LeaderStep) (k : ℕ) → KeepsLeader inbox summary network s → s.step.answer ≡ refused k
    → (((1 ≤ k) × (k ≤ 14)) ⊎ (k ≡ 20)) × (s.step.table ≡ inbox) × (s.step.network ≡ network) × (s.summary ≡ summary)
keeps_leader inbox summary network s k (range, keeps) is =
    let (t, n, own) = keeps k is in (numbers_mean.1 k (answer_number to14_and20 k (rw is at range)), t, n, own)

pub slots_mean : (t : List ℕ)
    → (length (slots t) ≡ length t / 8) × ((k : ℕ) → k < length t / 8 → get_or (slots t) k [] ≡ take 8 (drop (k * 8) t))
slots_mean t = (length_slots t, get_d_slots t)
