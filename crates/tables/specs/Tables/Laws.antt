-- What judging N and the inboxes comes to.
--     are_tables_one      a single part is the whole
--     tables_passed       with a plan in range, rows 5 and 6
-- Assumes nothing.
use Rattle.std.specs.Prelude.{ℕ, ◌/◌, Bool, true, not, List, ◌≡◌, length, take}
use Rattle.std.proofs.Math.Bool.{and-true}
use Rattle.std.proofs.Math.Path.{refl, ap}
use Rattle.std.proofs.Common.{◌∙◌, zero-mul, arith, take_all}
use Rattle.message.specs.declared.Plan.{Plan}
use Rattle.message.specs.Outcome.{accepted, refuse_if}
use Rattle.message.specs.Plan.{is_plan}
use Rattle.slots.specs.Table.{is_table}
use Rattle.tables.specs.Tables.{tables_up_to, are_tables, tables_judged}

module _ (p : Plan) where
  pub are_tables_one : (t : List ℕ) → are_tables p 1 t ≡ is_table p t
  unfolding are_tables tables_up_to
  are_tables_one t =
      rw (zero-mul (length t / 1)) (and-true (is_table p (take (length t / 1) t)) ∙ ap (is_table p) (take_all (length t / 1) t (omega arith)))

  pub tables_passed : is_plan p ≡ true → (network inboxes : List ℕ) (parts : ℕ) (b : Bool) → are_tables p parts inboxes ≡ b
      → tables_judged p network parts inboxes ≡ refuse_if (not (is_table p network)) 5 (refuse_if (not b) 6 (accepted tt))
  unfolding tables_judged refuse_if
  tables_passed e network inboxes parts b f = rw (e, f) refl
