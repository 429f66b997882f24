use Rattle.std.proofs.Common.{◌∙◌, ap}
use Rattle.frames.specs.DeclaredFrames.{has_uninit_this}
use Rattle.type_numbers.specs.Decoding.{types_by}
use Rattle.method_frames.proofs.Summing.{own_told}
use Rattle.method_frames.proofs.entry_locals.EntryLocals.have_own.Goals as goal

pub returns : goal.returns
returns c s =
    let x = c.self.inside in
    own_told x.numbers.items x.wides x.own c.self.invariant s ∙ ap (λ ns. has_uninit_this (types_by s ns)) c.self.view_is
