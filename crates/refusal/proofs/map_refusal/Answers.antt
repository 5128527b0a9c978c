-- `refusal::map_refusal` meets its contract: a refusal of the rows before is the reader's; else the order number decides. Assumes nothing.
use Rattle.std.proofs.Common.{sym, ◌∙◌}
use Rattle.message.proofs.Codec.Laws.{shape_whole, read_number_early, read_number_order}
use Rattle.message.proofs.Outcome.Laws.{number_some, left_by}
use Rattle.refusal.proofs.map_refusal.Goals as goal

pub shape_refusal-requires : goal.shape_refusal-requires
shape_refusal-requires c = c.requires

pub returns-in_err-shape_refusal : goal.returns-in_err-shape_refusal
returns-in_err-shape_refusal c = rw (left_by c.from_residual.ensures.1) (read_number_early _ _ _ c.in_err-shape_refusal.ensures (number_some _))

pub has_order-requires : goal.has_order-requires
has_order-requires c = (shape_whole c.args.plan c.args.bytes.now (sym c.in_ok-shape_refusal.ensures)).1

pub returns-then-not-has_order : goal.returns-then-not-has_order
returns-then-not-has_order c =
    read_number_order _ _ (sym c.in_ok-shape_refusal.ensures) _ (sym c.if-not-has_order.true ∙ c.has_order.ensures)

pub returns : goal.returns
returns c = read_number_order _ _ (sym c.in_ok-shape_refusal.ensures) _ (sym c.if-not-has_order.false ∙ c.has_order.ensures)
