-- From the judgement of the plan and both tables to the whole call.
--     judged_view      where they are sound, the view of N's bytes is the view of its messages
--     step_sound       so what was then performed is the step
-- Assumes nothing.
use Prim.Native.Nat.{ℕ}
use mathlib.Core.List.{List}
use mathlib.Core.Path.{◌≡◌, sym, ◌∙◌, ap}
use Rattle.message.specs.declared.Plan.{Plan}
use Rattle.message.specs.Outcome.{accepted}
use Rattle.slots.specs.View.{View, view_table}
use Rattle.slots.specs.View.Bytes.{view_bytes}
use Rattle.slots.proofs.View.Laws.{view_judged}
use Rattle.change.specs.Change.{Step, applied}
use Rattle.change.proofs.Stepping.{step_performed}
use Rattle.rm.specs.Rm.Laws.{sound}
use Rattle.rm.specs.Rm.{rm_judged, rm_verdict, rm_step}

pub judged_view : (p : Plan) (states network : List ℕ) → accepted tt ≡ rm_judged p states network → view_bytes p network ≡ view_table p network
judged_view p states network e =
    let s = sound p states network (sym e) in
    view_judged p network s.whole s.ordered

pub step_sound : (p : Plan) (states network e : List ℕ) → accepted tt ≡ rm_judged p states network
    → (r : Step) → r ≡ applied p states network (rm_verdict p states (view_bytes p network) e) → r ≡ rm_step p states network e
unfolding rm_step
step_sound p states network e sound r h =
    step_performed p states network _ _ sound r
    (h ∙ ap (λ (v : View). applied p states network (rm_verdict p states v e)) (judged_view p states network sound))
