use Rattle.std.proofs.Common.{◌∙◌, sym, w64}
use Rattle.std.proofs.lemmas.Int.{to_z-of_z}
use Rattle.verify.proofs.numbered.Finding.{found_at_target, not_negative}
use Rattle.verify.proofs.pass.declared.declared_at.Goals as goal

pub returns : goal.returns
returns g c =
    let same = to_z-of_z w64 c.args.target c.ranges.target in
    found_at_target c.args.frames.now.types c.args.frames.now.declared c.args.target _ c.find.result (sym same ∙ not_negative _ c.if-target-lt0.false) c.find.ensures
