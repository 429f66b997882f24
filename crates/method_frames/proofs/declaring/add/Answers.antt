use Rattle.std.proofs.Common.{◌++◌, ◌∷◌, [], subst, sym}
use Rattle.std.proofs.lemmas.Result.{on_ok_weaker}
use Rattle.method_frames.specs.MapFrames.{IsLaidOut}
use Rattle.method_frames.proofs.LayingOut.{laid_more}
use Rattle.method_frames.proofs.declaring.add.Goals as goal

pub returns-clause-laid : goal.returns-clause-laid
returns-clause-laid g c =
    let x = c.args.frames.now in
    let old = c.args.locals.now in
    let n = c.args.number in
    let laid = laid_more x old n c.units.result (c.units.ensures x.types) c.requires.fits c.requires.laid in
    let here = subst (λ y. IsLaidOut y (old ++ n ∷ [])) (sym c.in_ok-set_local.ensures.ok) laid in
    on_ok_weaker c.push.result (λ e. subst (IsLaidOut c.set_local.new.self) (sym e) here) c.push.ensures
