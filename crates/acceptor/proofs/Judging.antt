-- From the judgement of the plan and both tables to the whole call.
--     judged_view      where they are sound, the view of N's bytes is the view of its messages
--     step_sound       so what was then performed is the step
-- Assumes nothing.
use Prim.Native.Nat.{ℕ}
use mathlib.Core.List.{List}
use mathlib.Core.Path.{◌≡◌, sym, ◌∙◌, ap}
use Rattle.message.specs.declared.Plan.{Plan}
use Rattle.message.specs.Outcome.{accepted}
use Rattle.slots.specs.View.{View, view_table}
use Rattle.slots.specs.View.Bytes.{view_bytes}
use Rattle.slots.proofs.View.Laws.{view_judged}
use Rattle.change.specs.Change.{Step, applied}
use Rattle.change.proofs.Stepping.{step_performed}
use Rattle.acceptor.specs.Acceptor.Sound.{sound}
use Rattle.acceptor.specs.Acceptor.{acceptor_judged, acceptor_verdict, acceptor_step}

pub judged_view : (p : Plan) (votes network : List ℕ) → accepted tt ≡ acceptor_judged p votes network → view_bytes p network ≡ view_table p network
judged_view p votes network e =
    let s = sound p votes network (sym e) in
    view_judged p network s.whole s.ordered

pub step_sound : (p : Plan) (votes network e : List ℕ) → accepted tt ≡ acceptor_judged p votes network
    → (r : Step) → r ≡ applied p votes network (acceptor_verdict p votes (view_bytes p network) e) → r ≡ acceptor_step p votes network e
unfolding acceptor_step
step_sound p votes network e sound r h =
    step_performed p votes network _ _ sound r
    (h ∙ ap (λ (v : View). applied p votes network (acceptor_verdict p votes v e)) (judged_view p votes network sound))
