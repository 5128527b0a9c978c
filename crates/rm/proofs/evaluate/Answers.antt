-- `rm::evaluate` meets its contract: the kind decides. Assumes nothing.
use mathlib.Core.Path.{sym, ◌∙◌}
use Rattle.message.proofs.Guards.{passed}
use Rattle.event.proofs.Reading.{read_bytes}
use Rattle.rm.proofs.ByKind.{prepares, chooses_to_abort, takes_decision, other_role}
use Rattle.rm.proofs.evaluate.Goals as goal
use Rattle.rm.proofs.evaluate.Goals.{in-Prepare, in-ChooseToAbort}

pub returns-in-TakeDecision : goal.returns-in-TakeDecision
returns-in-TakeDecision c =
    let read = read_bytes _ _ _ (sym c.read_event.ensures ∙ c.in-Some.is) in
    c.receive_at.ensures
    ∙ rw (c.slot.ensures, c.byte_at.ensures) (takes_decision _ c.args.states.now _ _ _ (passed c.is_plan.ensures c.if-not-is_plan.false) read c.in-TakeDecision.is)

pub returns-in_default-kind : goal.returns-in_default-kind
returns-in_default-kind c =
    let read = read_bytes _ _ _ (sym c.read_event.ensures ∙ c.in-Some.is) in
    let k = c.in_default-kind in
    other_role _ _ _ _ _ (passed c.is_plan.ensures c.if-not-is_plan.false) read k.not-Prepare k.not-ChooseToAbort k.not-TakeDecision

pub returns : goal.returns
returns c =
    let read = read_bytes _ _ _ (sym c.read_event.ensures ∙ c.in-Some.is) in
    let plan = passed c.is_plan.ensures c.if-not-is_plan.false in
    c.choose.ensures
    ∙ elim c.match-event.branch [
      | in-Prepare w ↦ rw (w.next-is, c.byte_at.ensures) (prepares _ c.args.states.now _ _ _ plan read w.in-Prepare.is)
      | in-ChooseToAbort w ↦ rw (w.next-is, c.byte_at.ensures) (chooses_to_abort _ c.args.states.now _ _ _ plan read w.in-ChooseToAbort.is)
    ]
