-- `leader::evaluate` meets its contract: the kind decides. Assumes nothing.
use Rattle.std.proofs.Common.{sym, ◌∙◌}
use Rattle.message.proofs.Guards.{passed}
use Rattle.event.proofs.Reading.{read_bytes}
use Rattle.leader.proofs.ByKind.{receives, starts, proposes, commits, aborts, other_role}
use Rattle.leader.proofs.evaluate.Goals as goal

pub returns-in-Receipt : goal.returns-in-Receipt
returns-in-Receipt c =
    let plan = passed c.is_plan.ensures c.if-not-is_plan.false in
    let read = read_bytes _ _ _ (sym c.read_event.ensures ∙ c.in-Some.is) in
    c.receive.ensures ∙ rw c.slot.ensures (receives _ _ _ _ _ _ plan read c.in-Receipt.is)

pub phase1a_of-requires : goal.phase1a_of-requires
phase1a_of-requires c = passed c.is_plan.ensures c.if-not-is_plan.false

pub returns-in-Phase1a : goal.returns-in-Phase1a
returns-in-Phase1a c =
    let plan = passed c.is_plan.ensures c.if-not-is_plan.false in
    let read = read_bytes _ _ _ (sym c.read_event.ensures ∙ c.in-Some.is) in
    c.phase1a_of.ensures ∙ starts _ _ _ _ _ _ plan read c.in-Phase1a.is

pub returns-in-Phase2a : goal.returns-in-Phase2a
returns-in-Phase2a c =
    let plan = passed c.is_plan.ensures c.if-not-is_plan.false in
    let read = read_bytes _ _ _ (sym c.read_event.ensures ∙ c.in-Some.is) in
    c.propose.ensures ∙ proposes _ _ _ _ _ _ plan read c.in-Phase2a.is

pub returns-in-Commit : goal.returns-in-Commit
returns-in-Commit c =
    let plan = passed c.is_plan.ensures c.if-not-is_plan.false in
    let read = read_bytes _ _ _ (sym c.read_event.ensures ∙ c.in-Some.is) in
    c.decide_send.ensures ∙ rw c.all_prepared.ensures (commits _ _ _ _ _ _ plan read c.in-Commit.is)

pub returns-in-Abort : goal.returns-in-Abort
returns-in-Abort c =
    let plan = passed c.is_plan.ensures c.if-not-is_plan.false in
    let read = read_bytes _ _ _ (sym c.read_event.ensures ∙ c.in-Some.is) in
    c.decide_send-in-Abort.ensures ∙ rw c.some_aborted.ensures (aborts _ _ _ _ _ _ plan read c.in-Abort.is)

pub returns-in_default-kind : goal.returns-in_default-kind
returns-in_default-kind c =
    let plan = passed c.is_plan.ensures c.if-not-is_plan.false in
    let read = read_bytes _ _ _ (sym c.read_event.ensures ∙ c.in-Some.is) in
    let k = c.in_default-kind in
    other_role _ _ _ _ _ _ plan read k.not-Receipt k.not-Phase1a k.not-Phase2a k.not-Commit k.not-Abort
