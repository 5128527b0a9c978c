-- What a write took stands at the end of what was written before.
use Rattle.std.proofs.Common.{rules, sym, subst}
use Rattle.std.specs.Io.KnownBytes.{Appends}
use Rattle.std.proofs.KnownBytes.{Appends-trans}
use Rattle.console.proofs.Parts.{passed_more}
use Rattle.console.proofs.write.Goals as goal

pub loop-done-preserved : goal.loop-done-preserved
loop-done-preserved g c =
    let (within, appended) = c.loop-done.invariant in (
      search rules,
      subst (Appends _ _) (sym (passed_more c.loop-done.done c.in-Ok.taken c.args.bytes.now)) (Appends-trans _ _ _ _ _ appended c.in-Ok.ensures.bytes),
    )
