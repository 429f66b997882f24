use Rattle.std.proofs.Common.{◌∙◌, ◌<◌, subst, arith, length}
use Rattle.type_numbers.specs.private.Readings.{IsReading, type_in}
use Rattle.type_numbers.proofs.Readings.{number_read, nothing_read, text_within, item_read}
use Rattle.type_numbers.proofs.text_numbers.TextNumbers.number.Goals as goal

pub index-requires : goal.index-requires
index-requires g c =
    let within = text_within c.args.pool.now c.args.index c.in-Ok.text.bytes.now c.in-Ok.ensures in
    omega (arith, within, c.requires.read.long, c.from.ensures)

pub returns-in-Nothing-clause-number : goal.returns-in-Nothing-clause-number
returns-in-Nothing-clause-number g c =
    let items = c.args.self.now.readings.items in
    let t = type_in c.args.self.now.form c.args.pool.now c.args.index in
    let within = text_within c.args.pool.now c.args.index c.in-Ok.text.bytes.now c.in-Ok.ensures in
    let h : c.args.index < length items = omega (arith, within, c.requires.read.long) in
    let is = item_read items c.args.index c.from.result c.index.result.now h c.from.ensures c.index.ensures ∙ c.in-Nothing.is in
    nothing_read c.args.numbers.now t (subst (IsReading c.args.numbers.now t) is (c.requires.read.read c.args.index))

pub returns-in-Named-clause-number : goal.returns-in-Named-clause-number
returns-in-Named-clause-number g c =
    let items = c.args.self.now.readings.items in
    let t = type_in c.args.self.now.form c.args.pool.now c.args.index in
    let within = text_within c.args.pool.now c.args.index c.in-Ok.text.bytes.now c.in-Ok.ensures in
    let h : c.args.index < length items = omega (arith, within, c.requires.read.long) in
    let is = item_read items c.args.index c.from.result c.index.result.now h c.from.ensures c.index.ensures ∙ c.in-Named.is in
    number_read c.args.numbers.now t c.in-Named.number (subst (IsReading c.args.numbers.now t) is (c.requires.read.read c.args.index))
