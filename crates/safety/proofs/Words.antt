-- Demand 3's step in document 01's own words ("Transaction Commit"), of the bytes of W and in its numbers: 0 working, 1 prepared, 2 committed,
-- 3 aborted.
--     OneStep            one step on a row of n weights: one weight changes, from 0 to 1; from 1 to 2 if every weight is 1 or 2; from 0 or 1 to 3
--                        if none is 2
--     step_words         what `Safe` calls a step of Transaction Commit is such a step
--     SafeInWords        W is as before the call, or one such step further; it does not hold both a 2 and a 3; the answer is not 11
--     safe_words         what `Safe` says of a call is that
--     words_mean         and that is document 01's text, written out
--     demand_3_words     so it is after each call of every list from a fresh record
-- Its laws are in Words/Laws.antt. Assumes nothing.
pub mod Laws
use Rattle.std.specs.Prelude.{ℕ, ◌<◌, List, ◌⊎◌, ◌≡◌, refl, length, get_or, set}
use Rattle.std.proofs.Common.{inl, inr, ⊎_elim, arith}
use Rattle.message.specs.declared.Plan.{Plan}
use Rattle.message.specs.Outcome.{refused}
use Rattle.tcommit.specs.TCommit.{TCNext}
use Rattle.record.specs.Record.{Tables, RecordStep}
use Rattle.matching.specs.Reading.{is_rm, rm_state_of}
use Rattle.safety.specs.Lists.{Fresh, Call, made, AfterEach, Safe}
use Rattle.safety.proofs.Theorems.{demand_3}
use Rattle.safety.proofs.Words.Laws.{changed, member_at, each_of_each}

abbrev pub OneStep : ℕ → List ℕ → List ℕ → Type 0
OneStep n W W' =
    (i v : ℕ) × (i < n)
    × (W' ≡ set W i v)
    × (((get_or W i 0 ≡ 0) × (v ≡ 1))
    ⊎ (((get_or W i 0 ≡ 1) × (v ≡ 2) × ((j : ℕ) → j < n → (get_or W j 0 ≡ 1) ⊎ (get_or W j 0 ≡ 2)))
    ⊎ (((get_or W i 0 ≡ 0) ⊎ (get_or W i 0 ≡ 1)) × (v ≡ 3) × ((j : ℕ) → j < n → get_or W j 0 ≡ 2 → ⊥))))

pub step_words : (p : Plan) (W W' : List ℕ) → length W' ≡ length W → TCNext (is_rm p) (rm_state_of W) (rm_state_of W') → OneStep p.rms W W'
step_words p W W' size (i, rm, inl (works, e)) = (i, 1, rm, changed W W' size i 1 (omega arith) e, inl (works, refl))
step_words p W W' size (i, rm, inr (inl (ready, all, e))) = (i, 2, rm, changed W W' size i 2 (omega arith) e, inr (inl (ready, refl, all)))
step_words p W W' size (i, rm, inr (inr (undecided, none, e))) = (i, 3, rm, changed W W' size i 3 (omega arith) e, inr (inr (undecided, refl, none)))

-- a call that was given the tables t
abbrev pub SafeInWords : Plan → Tables → RecordStep → Type 0
SafeInWords p t r =
    ((r.tables.states ≡ t.states) ⊎ OneStep p.rms t.states r.tables.states)
    × ((i j : ℕ) → get_or r.tables.states i 0 ≡ 2 → get_or r.tables.states j 0 ≡ 3 → ⊥)
    × (r.answer ≡ refused 11 → ⊥)

pub safe_words : (p : Plan) (t : Tables) (r : RecordStep) → Safe p t r → SafeInWords p t r
safe_words p t r safe = (
  ⊎_elim inl (λ next. inr (step_words p t.states r.tables.states safe.same_length next)) safe.path,
  λ i j two three. safe.agreed (member_at r.tables.states i 2 (omega arith) two) (member_at r.tables.states j 3 (omega arith) three),
  safe.not_contradicted,
)

-- written out
pub words_mean : (p : Plan) (t : Tables) (r : RecordStep) → SafeInWords p t r
    → ((r.tables.states ≡ t.states)
    ⊎ ((i v : ℕ) × (i < p.rms)
    × (r.tables.states ≡ set t.states i v)
    × (((get_or t.states i 0 ≡ 0) × (v ≡ 1))
    ⊎ (((get_or t.states i 0 ≡ 1) × (v ≡ 2) × ((j : ℕ) → j < p.rms → (get_or t.states j 0 ≡ 1) ⊎ (get_or t.states j 0 ≡ 2)))
    ⊎ (((get_or t.states i 0 ≡ 0) ⊎ (get_or t.states i 0 ≡ 1)) × (v ≡ 3) × ((j : ℕ) → j < p.rms → get_or t.states j 0 ≡ 2 → ⊥))))))
    × ((i j : ℕ) → get_or r.tables.states i 0 ≡ 2 → get_or r.tables.states j 0 ≡ 3 → ⊥)
    × (r.answer ≡ refused 11 → ⊥)
words_mean p t r h = h

pub demand_3_words : (p : Plan) (t : Tables) → Fresh t → (calls : List Call) → AfterEach p (SafeInWords p) t calls
demand_3_words p t fresh calls = each_of_each (Safe p) (SafeInWords p) (safe_words p) t (made p t calls) (demand_3 p t fresh calls)
