-- From the code's answers to `record_open`.
--     open_refused     the plan or the lengths of the four tables refuse: no byte is touched
--     open_short       they are sound, and the summary has another length
--     open_cleared     it has that length, and each table is cleared
-- Assumes nothing.
use Prim.Native.Nat.{ℕ, ◌*◌}
use mathlib.Core.List.{List}
use mathlib.Core.Path.{◌≡◌}
use lib.ListN.{length}
use borrow.Author.Tests.{eq-eqb, ne_eqb}
use Rattle.message.specs.declared.Plan.{Plan}
use Rattle.message.specs.Outcome.{accepted, refused, and_then, refuse_if}
use Rattle.opening.specs.Opening.{Tables, tables_of, zeroed, lengths_judged, open_judged, record_open}

module _ (p : Plan) (t : Tables) where
  pub open_refused : (k : ℕ) → refused k ≡ lengths_judged p t → record { answer = refused k; tables = t } ≡ record_open p t
  unfolding record_open open_judged and_then
  open_refused k bad = rw (← bad)

  module _ (sound : accepted tt ≡ lengths_judged p t) where
    pub open_short : (length t.summary ≡ p.rms * p.leaders → ⊥) → record { answer = refused 20; tables = t } ≡ record_open p t
    unfolding record_open open_judged and_then refuse_if
    open_short h = rw (← sound, ne_eqb _ _ h)

    pub open_cleared : length t.summary ≡ p.rms * p.leaders → (w q n i s : List ℕ)
        → w ≡ zeroed t.states → q ≡ zeroed t.votes → n ≡ zeroed t.network → i ≡ zeroed t.inboxes → s ≡ zeroed t.summary
        → record { answer = accepted tt; tables = tables_of w q n i s } ≡ record_open p t
    unfolding record_open open_judged and_then refuse_if
    open_cleared h w q n i s states votes network inboxes summary = rw (states, votes, network, inboxes, summary, ← sound, eq-eqb _ _ h)
