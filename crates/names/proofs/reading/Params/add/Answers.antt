use Rattle.std.proofs.Common.{◌≤◌, ◌<◌, length, arith}
use Rattle.names.specs.ReadTypes.{type_read}
use Rattle.names.proofs.Judged.{deep_read, shallow_read}
use Rattle.names.proofs.Kept.{keeps_deep, keeps_wide, keeps_more}
use Rattle.names.proofs.reading.Params.add.Goals as goal

pub returns-in-Err : goal.returns-in-Err
returns-in-Err c = λ types k.
    let p = c.args.self.now in
    keeps_deep p.types.items p.deep p.wide types (type_read c.args.field) (deep_read c.args.field c.in-Err.ensures.deep.1) k

pub returns-in_ok-push-in-Ok : goal.returns-in_ok-push-in-Ok
returns-in_ok-push-in-Ok c = λ types k.
    let p = c.args.self.now in
    let within = c.in-Ok.ensures.within in
    let less : length p.types.items < 255 = omega (arith, p.types.ok.0, c.len.ensures) in
    keeps_more p.types.items c.push.new.self.items p.deep p.wide types c.in-Ok.t (type_read c.args.field) (shallow_read c.args.field within.1) within.0 c.in_ok-push-in-Ok.ensures.items less k

pub returns-else-len-lt255 : goal.returns-else-len-lt255
returns-else-len-lt255 c = λ types k.
    let p = c.args.self.now in
    let within = c.in-Ok.ensures.within in
    let full = c.if-len-lt255.false in
    let enough : 255 ≤ length p.types.items = omega (arith, p.types.ok.0, c.len.ensures) in
    keeps_wide p.types.items p.deep p.wide types (type_read c.args.field) (shallow_read c.args.field within.1) enough k
