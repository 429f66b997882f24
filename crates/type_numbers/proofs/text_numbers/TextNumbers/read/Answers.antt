use Rattle.std.proofs.Common.{◌∙◌, ◌≡◌, ◌<◌, ap, sym, subst, None, Some, arith, length}
use Rattle.std.proofs.lemmas.List.{length-set}
use Rattle.std.specs.Option.{option_map}
use Rattle.frames.specs.VerificationType.{type_of}
use Rattle.type_numbers.specs.declared.text_numbers.Reading.TheVariants.{Nothing, Named}
use Rattle.type_numbers.specs.private.Readings.{IsReading, type_in, reading_in}
use Rattle.type_numbers.proofs.Readings.{note_one, reading_stays, text_within, type_read}
use Rattle.type_numbers.proofs.text_numbers.TextNumbers.read.Goals as goal

pub index_mut-requires : goal.index_mut-requires
index_mut-requires g c =
    let within = text_within c.args._pool.now c.args.index c.args.text.bytes.now c.requires.text in
    omega (arith, within, c.requires.read.long, c.from.ensures)

pub index_mut-requires-2 : goal.index_mut-requires-2
index_mut-requires-2 g c =
    let within = text_within c.args._pool.now c.args.index c.args.text.bytes.now c.requires.text in
    omega (arith, within, c.requires.read.long, c.from-2.ensures)

pub returns-in_default-clause-readings : goal.returns-in_default-clause-readings
returns-in_default-clause-readings g c =
    let s = c.args.numbers.now in
    let pool = c.args._pool.now in
    let form = c.args.self.now.form in
    let items = c.args.self.now.readings.items in
    let i = c.from.result in
    let within = text_within pool c.args.index c.args.text.bytes.now c.requires.text in
    let h : i < length items = omega (arith, within, c.requires.read.long, c.from.ensures) in
    let none : type_in form pool i ≡ None = ap (λ k. type_in form pool k) c.from.ensures ∙ type_read form pool c.args.index c.args.text.bytes.now c.requires.text ∙ sym c.type_named.ensures ∙ ap (option_map type_of) c.in_default.is in
    record {
      long = length-set items i Nothing ∙ c.requires.read.long;
      read = note_one s pool form items i Nothing h c.requires.read.read (subst (λ t. IsReading s t Nothing) (sym none) tt);
    }

pub returns-clause-readings : goal.returns-clause-readings
returns-clause-readings g c =
    let s = c.number.new.self in
    let pool = c.args._pool.now in
    let form = c.args.self.now.form in
    let items = c.args.self.now.readings.items in
    let i = c.from-2.result in
    let n = c.in_ok-number.number in
    let within = text_within pool c.args.index c.args.text.bytes.now c.requires.text in
    let h : i < length items = omega (arith, within, c.requires.read.long, c.from-2.ensures) in
    let some : type_in form pool i ≡ Some (type_of c.in-Some.vtype) = ap (λ k. type_in form pool k) c.from-2.ensures ∙ type_read form pool c.args.index c.args.text.bytes.now c.requires.text ∙ sym c.type_named.ensures ∙ ap (option_map type_of) c.in-Some.is in
    record {
      long = length-set items i (Named n) ∙ c.requires.read.long;
      read = note_one s pool form items i (Named n) h (λ k. reading_stays c.args.numbers.now s c.number.ensures.kept (type_in form pool k) (reading_in items k) (c.requires.read.read k))
          (subst (λ t. IsReading s t (Named n)) (sym some) c.in_ok-number.ensures.given);
    }
