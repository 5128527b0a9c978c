-- What the numbers of opening, the event call and the ending stand for, and that the tables beside them are the five tables.
--     opening_means     0, or the refusal's number
--     event_means       a slot is its number, quiet 65535, refusal k 65536 + k
--     ending_means      0 open, 1 committed, 2 aborted, refusal k 65536 + k
--     ending_rows, ending_answers   the ending's refusal is the lowest number that applies
--     ending_words      else it is 1 exactly where all weights are 2, 2 where all are 3, and 0 where neither is so
-- Assumes nothing.
use Rattle.std.specs.Prelude.{ℕ, ◌+◌, ◌<◌, true, false, List, ◌↔◌, ◌≡◌, length, get_or}
use Rattle.std.proofs.Math.Path.{refl}
use Rattle.std.proofs.Common.{sym, ◌∙◌, ap, arith}
use Rattle.message.specs.declared.Plan.{Plan}
use Rattle.message.specs.Outcome.{accepted, refused}
use Rattle.message.specs.Plan.{is_plan}
use Rattle.message.proofs.PlanLaws.{plan_bounds}
use Rattle.message.specs.Rows.{Rows, end, row, Lowest}
use Rattle.message.proofs.Rows.Laws.{is_ascending, lowest_of_ruled}
use Rattle.rm.specs.Rm.{are_states}
use Rattle.ending.specs.declared.Ending.{Ending}
use Rattle.ending.specs.declared.Ending.TheVariants.{Open, Committed, Aborted}
use Rattle.ending.specs.Ending.{ending_of}
use Rattle.ending.proofs.Theorems.{committed_words, aborted_words, open_words}
use Rattle.change.specs.declared.Sent.TheVariants.{Slot, Quiet}
use Rattle.record.specs.Record.{Tables}
use Rattle.host_code.proofs.Theorems.{code_means}
use Rattle.host_record.specs.Code.{host_opening, host_opening_of, host_event, host_event_of, ending_number, ending_outcome, ending_code}
use Rattle.host_record.proofs.CodeLaws.{ending_ruled, ending_sound, number_ending}

module _ (t : Tables) where
  pub opening_means : (k : ℕ)
      → ((host_opening k t).number ≡ k)
      × ((host_opening k t).tables ≡ t)
      × (host_opening_of (record { answer = accepted tt; tables = t }) ≡ host_opening 0 t)
      × (host_opening_of (record { answer = refused k; tables = t }) ≡ host_opening k t)
  opening_means k = (refl, refl, refl, refl)

  pub event_means : (k : ℕ)
      → ((host_event k t).code ≡ k)
      × ((host_event k t).tables ≡ t)
      × (k < 1024 → host_event_of (record { answer = accepted (Slot k); tables = t }) ≡ host_event k t)
      × (host_event_of (record { answer = accepted Quiet; tables = t }) ≡ host_event 65535 t)
      × (host_event_of (record { answer = refused k; tables = t }) ≡ host_event (65536 + k) t)
  event_means k = (refl, refl, λ below. ap (λ (n : ℕ). host_event n t) (code_means.0 k below), refl, refl)

pub ending_means : (ending_code (accepted Open) ≡ 0)
    × (ending_code (accepted Committed) ≡ 1)
    × (ending_code (accepted Aborted) ≡ 2)
    × ((k : ℕ) → ending_code (refused k) ≡ 65536 + k)
ending_means = (refl, refl, refl, λ k. refl)

module _ (p : Plan) (W : List ℕ) where
  -- a plan out of range; W not n bytes; a byte of W above 3
  abbrev pub ending_rows : Rows
  ending_rows =
      row 1 (is_plan p ≡ false)
      (row 2 (length W ≡ p.rms → ⊥)
      (row 3 (are_states W ≡ false)
      end))

  pub ending_answers : Lowest ending_rows (ending_outcome p W)
  unfolding is_ascending
  ending_answers = lowest_of_ruled ending_rows refl (ending_outcome p W) (ending_ruled p W)

  module _ (plan : is_plan p ≡ true) (whole : length W ≡ p.rms) (known : are_states W ≡ true) where
    abbrev code : ℕ
    code = ending_code (ending_outcome p W)

    -- its number is that of an ending exactly where it is that
    stands : (a : Ending) → (code ≡ ending_number a) ↔ (ending_of W ≡ a)
    stands a = (
      λ e. number_ending (ending_of W) a (sym (ap ending_code (ending_sound p W plan whole known)) ∙ e),
      λ e. ap ending_code (ending_sound p W plan whole known) ∙ ap ending_number e,
    )

    some : 0 < length W
    some = let least = (plan_bounds p plan).rms_least in omega arith

    pub ending_words : ((code ≡ 1) ↔ ((i : ℕ) → i < length W → get_or W i 0 ≡ 2))
        × ((code ≡ 2) ↔ ((i : ℕ) → i < length W → get_or W i 0 ≡ 3))
        × ((code ≡ 0) ↔ ((((i : ℕ) → i < length W → get_or W i 0 ≡ 2) → ⊥) × (((i : ℕ) → i < length W → get_or W i 0 ≡ 3) → ⊥)))
    ending_words = (both (stands Committed) (committed_words W), both (stands Aborted) (aborted_words W some), both (stands Open) (open_words W))
      where
        both : {A B C : Type 0} → A ↔ B → B ↔ C → A ↔ C
        both (ab, ba) (bc, cb) = (λ a. bc (ab a), λ c. ba (cb c))
