-- From the branches that the code took to the guards of a definition.
--     guards            the rule set for a definition that is a chain of tests on numbers: at a `return`, `search guards` rewrites
--                       each test by the branch that was taken
--     passed, failed    what a callee's answer `r` says of the definition's test `b`, where the code tested `!r`
--     within            an index below a slice's length, where that is known
--     told              the same for a row `refuse_if (not b)`
--     halt, pass        a row of a chain of refusals: it applies, or what the rows below it say
--     went_refused, went_on         an answer taken apart by `?`: its refusal, or the value that goes on
--     missing           an `ok_or` that is refused: there was no value, and the refusal is the one that it has
-- Assumes nothing.
use Prim.Native.Nat.{ℕ, ◌<◌}
use mathlib.Core.Bool.{Bool, true, false, not}
use mathlib.Core.Path.{◌≡◌, refl, sym, ◌∙◌, ap}
use borrow.Author.Tests.{lt-ltb, le-ltb, le-leb, lt-leb, eq-eqb, ne_eqb, not-true, not-false}
use native.Mathlib.Omega.{arith}
use Rattle.std.specs.Prelude.{Option, None, Some, Result, Ok, Err, ok_or}
use Rattle.message.specs.declared.Refusal.{Refusal}
use Rattle.message.specs.Outcome.{Outcome, refused, refusal_number, outcome, and_then, refuse_if}

pub ruleset guards = (tt, lt-ltb, le-ltb, le-leb, lt-leb, eq-eqb, ne_eqb, arith)

pub passed : {r b : Bool} → r ≡ b → r ≡ true → b ≡ true
passed e left = sym e ∙ left

pub failed : {r b : Bool} → r ≡ b → r ≡ false → b ≡ false
failed e taken = sym e ∙ taken

pub within : {n m k : ℕ} → n ≡ m → k < m → k < n
within e p = omega arith

pub told : {r b t : Bool} → r ≡ b → r ≡ t → not b ≡ not t
told e h = ap not (sym e ∙ h)

module _ {A : Type 0} (b : Bool) (k : ℕ) (rest : Outcome A) where
  pub halt : b ≡ true → refused k ≡ refuse_if b k rest
  unfolding refuse_if
  halt h = rw h

  pub pass : b ≡ false → {o : Outcome A} → o ≡ rest → o ≡ refuse_if b k rest
  unfolding refuse_if
  pass h e = rw h e

-- `answer` stands for `o`; `next` is what its value goes on to
module _ {A B : Type 0} (next : A → Outcome B) (answer : Result A Refusal) (o : Outcome A) (of-answer : outcome answer ≡ o) where
  pub went_refused : (r : Refusal) → answer ≡ Err r → refused (refusal_number r) ≡ and_then o next
  unfolding and_then
  went_refused r e = rw (← of-answer, e)

  pub went_on : (a : A) → answer ≡ Ok a → next a ≡ and_then o next
  unfolding and_then
  went_on a e = rw (← of-answer, e)

pub missing : {T : Type 0} (o : Option T) (r s : Refusal) → Err s ≡ ok_or o r → (o ≡ None) × (refusal_number s ≡ refusal_number r)
missing None r s e = (refl, let same : s ≡ r = cc in ap refusal_number same)
missing (Some x) r s e = absurd (let z : ◌≡◌ {A = ℕ} 0 1 = cc in omega arith)
