-- What a read gave stands after what was read before.
use Rattle.std.proofs.Common.{rules, sym, subst}
use Rattle.std.specs.Io.KnownBytes.{Consumes}
use Rattle.std.proofs.KnownBytes.{Consumes-trans}
use Rattle.console.proofs.Parts.{filled_more}
use Rattle.console.proofs.read_input.Goals as goal

pub loop-done-preserved : goal.loop-done-preserved
loop-done-preserved g c =
    let (within, same, consumed) = c.loop-done.invariant in (
      search rules,
      search rules,
      subst (Consumes _ _) (sym (filled_more _ _ _ _ _ within c.in_ok-more.ensures.bound.0)) (Consumes-trans _ _ _ _ _ consumed c.in_ok-more.ensures.bytes.0),
    )
