use Rattle.std.proofs.Common.{refl, ap}
use Rattle.insn.specs.Views.{act_view}
use Rattle.frames.specs.Slots.{number_type}
use Rattle.frames.specs.VerificationType.{null}
use Rattle.rules.specs.Bodies.{method_view}
use Rattle.numbered_rules.proofs.Pushed.{gives_pushes, act_pushes}
use Rattle.numbered_rules.proofs.pushing.pushed_at_once.Goals as goal

pub local_pushed-requires-clause-asked : goal.local_pushed-requires-clause-asked
local_pushed-requires-clause-asked g c = c.number.ensures.given c.args.frames.now.types

pub returns-in-Constant : goal.returns-in-Constant
returns-in-Constant g c =
    let x = c.args.frames.now in
    let m = method_view c.args.method.now in
    act_pushes m x c.number_of.result (act_view c.args.act.now) _ (ap act_view c.in-Constant.is) (gives_pushes m x c.number_of.result (number_type c.in-Constant.kind) (c.number_of.ensures.given x.types))

pub returns-in-ConstantNull : goal.returns-in-ConstantNull
returns-in-ConstantNull g c =
    let x = c.args.frames.now in
    let m = method_view c.args.method.now in
    act_pushes m x 83886080 (act_view c.args.act.now) _ (ap act_view c.in-ConstantNull.is) (gives_pushes m x 83886080 null (record { number = refl; noted = tt }))
