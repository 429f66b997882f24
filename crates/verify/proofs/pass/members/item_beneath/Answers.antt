use Rattle.std.proofs.Common.{◌∙◌, refl}
use Rattle.frames.specs.VerificationType.{top}
use Rattle.type_numbers.proofs.Decoded.{number_read}
use Rattle.method_frames.proofs.Given.{top_given}
use Rattle.verify.proofs.numbered.Objects.{item_is, no_item}
use Rattle.verify.proofs.pass.members.item_beneath.Goals as goal

pub returns-in-Some-clause-item : goal.returns-in-Some-clause-item
returns-in-Some-clause-item g c = item_is c.args.frames.now.types c.args.frames.now.running.stack c.args.above c.in-Some.number c.in-Some.ensures.item

pub returns-in-None-clause-given : goal.returns-in-None-clause-given
returns-in-None-clause-given g c = top_given c.args.frames.now.types

pub returns-in-None-clause-item : goal.returns-in-None-clause-item
returns-in-None-clause-item g c =
    let s = c.args.frames.now.types in
    number_read s 0 top (record { number = refl; noted = tt }) ∙ no_item s c.args.frames.now.running.stack c.args.above c.in-None.ensures.item
