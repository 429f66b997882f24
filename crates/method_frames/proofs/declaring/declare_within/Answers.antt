use Rattle.std.proofs.Common.{◌∙◌, sym, ap, subst}
use Rattle.method_frames.specs.MapFrames.{IsLaidOut}
use Rattle.method_frames.specs.private.KnownRows.{AreGiven}
use Rattle.method_frames.proofs.LayingOut.{top_laid}
use Rattle.method_frames.proofs.declaring.declare_within.Goals as goal

pub append_all-requires-clause-laid : goal.append_all-requires-clause-laid
append_all-requires-clause-laid g c = subst (IsLaidOut c.args.frames.now) (sym c.requires.locals) (top_laid c.args.frames.now c.args.limits.now.max_locals c.requires.top)

pub change_all-requires-clause-given : goal.change_all-requires-clause-given
change_all-requires-clause-given g c =
    let same = ap (λ x. x.types) c.in_ok-refused.ensures.rest.others ∙ ap (λ x. x.types) c.in_ok-append_all.ensures.rest.others in
    subst (λ s. AreGiven s c.args.initial.now) (sym same) c.requires.given
