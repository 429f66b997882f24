use Rattle.std.proofs.Common.{◌∙◌, ◌<◌, subst, arith, length}
use Rattle.type_numbers.specs.declared.method_numbers.MethodReading.TheVariants.{Unread}
use Rattle.type_numbers.specs.MethodNumbers.{IsMethodReading, method_in, row_of}
use Rattle.type_numbers.proofs.MethodReadings.{item_at}
use Rattle.type_numbers.proofs.Readings.{text_within}
use Rattle.type_numbers.proofs.method_numbers.DescriptorNumbers.types.Goals as goal

pub index-requires : goal.index-requires
index-requires g c =
    let within = text_within c.args.pool.now c.args.index c.in-Ok.text.bytes.now c.in-Ok.ensures in
    omega (arith, within, c.requires.read.long, c.from.ensures)

pub returns-in-Nothing-clause-types : goal.returns-in-Nothing-clause-types
returns-in-Nothing-clause-types g c =
    let items = c.args.self.now.readings.items in
    let within = text_within c.args.pool.now c.args.index c.in-Ok.text.bytes.now c.in-Ok.ensures in
    let h : c.args.index < length items = omega (arith, within, c.requires.read.long) in
    let is = item_at items Unread c.args.index c.from.result c.index.result.now h c.from.ensures c.index.ensures ∙ c.in-Nothing.is in
    subst (IsMethodReading c.args.numbers.now (row_of c.args.self.now) (method_in c.args.pool.now c.args.index)) is (c.requires.read.read c.args.index)

pub returns-in-Types-clause-types : goal.returns-in-Types-clause-types
returns-in-Types-clause-types g c =
    let items = c.args.self.now.readings.items in
    let within = text_within c.args.pool.now c.args.index c.in-Ok.text.bytes.now c.in-Ok.ensures in
    let h : c.args.index < length items = omega (arith, within, c.requires.read.long) in
    let is = item_at items Unread c.args.index c.from.result c.index.result.now h c.from.ensures c.index.ensures ∙ c.in-Types.is in
    subst (IsMethodReading c.args.numbers.now (row_of c.args.self.now) (method_in c.args.pool.now c.args.index)) is (c.requires.read.read c.args.index)
