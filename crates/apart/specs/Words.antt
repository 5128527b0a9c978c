-- Demand 3 for hosts apart in document 01's numbers: 0 working, 1 prepared, 2 committed, 3 aborted.
--     OneStep, SafeInWords    one step on the weights' bytes; the three claims of demand 3
-- That they hold is in proofs/Words.antt. Assumes nothing.
use Rattle.std.specs.Prelude.{ℕ, ◌<◌, ◌⊎◌, ◌≡◌, get_or}
use Rattle.message.specs.declared.Plan.{Plan}
use Rattle.message.specs.Outcome.{refused}
use Rattle.apart.specs.Hosts.{rm, System, Made}

-- one step on the bytes of n weights: one changes, from 0 to 1; from 1 to 2 if every weight is 1 or 2; from 0 or 1 to 3 if none is 2
abbrev pub OneStep : ℕ → (ℕ → ℕ) → (ℕ → ℕ) → Type 0
OneStep n W W' =
    (i : ℕ) × (i < n)
    × ((j : ℕ) → (j ≡ i → ⊥) → W' j ≡ W j)
    × (((W i ≡ 0) × (W' i ≡ 1))
    ⊎ (((W i ≡ 1) × (W' i ≡ 2) × ((j : ℕ) → j < n → (W j ≡ 1) ⊎ (W j ≡ 2)))
    ⊎ (((W i ≡ 0) ⊎ (W i ≡ 1)) × (W' i ≡ 3) × ((j : ℕ) → j < n → W j ≡ 2 → ⊥))))

-- byte i of the W of weight i
abbrev pub byte : System → ℕ → ℕ
byte s i = get_or (s.hosts rm i).table i 0

-- the bytes are as before, or one such step further; no weight is 2 while another is 3; the answer is not 11
abbrev pub SafeInWords : Plan → System → Made → Type 0
SafeInWords p s r =
    (((i : ℕ) → byte r.system i ≡ byte s i) ⊎ OneStep p.rms (byte s) (byte r.system))
    × ((i j : ℕ) → i < p.rms → j < p.rms → byte r.system i ≡ 2 → byte r.system j ≡ 3 → ⊥)
    × (r.answer ≡ refused 11 → ⊥)
