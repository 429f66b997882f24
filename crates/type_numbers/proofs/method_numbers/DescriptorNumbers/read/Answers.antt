use Rattle.std.proofs.Common.{false, ◌∙◌, ap, sym, subst, ◌≡◌, ◌<◌, length, List, Some, get_or, arith}
use Rattle.std.proofs.lemmas.List.{length-set}
use Rattle.names.specs.Reading.{method_answer}
use Rattle.pool.specs.ConstantMeanings.{found}
use Rattle.type_numbers.specs.declared.method_numbers.MethodReading.{MethodReading}
use Rattle.type_numbers.specs.declared.method_numbers.MethodReading.TheVariants.{Unread, Types}
use Rattle.type_numbers.specs.MethodNumbers.{AreTypesOf, IsMethodReading, method_in, row_of}
use Rattle.type_numbers.proofs.MethodReadings.{all_noted, method_read, reading_on}
use Rattle.type_numbers.proofs.Readings.{text_within}
use Rattle.type_numbers.proofs.method_numbers.DescriptorNumbers.read.Goals as goal

pub index_mut-requires : goal.index_mut-requires
index_mut-requires g c =
    let within = text_within c.args._pool.now c.args.index c.args.text.bytes.now c.requires.text in
    omega (arith, within, c.requires.read.long, c.from.ensures)

pub index_mut-requires-2 : goal.index_mut-requires-2
index_mut-requires-2 g c =
    let within = text_within c.args._pool.now c.args.index c.args.text.bytes.now c.requires.text in
    let same : length c.add.new.self.readings.items ≡ length c.args.self.now.readings.items = λ i. length (c.add.ensures.readings i).items in
    omega (arith, within, c.requires.read.long, c.from-2.ensures, same)

pub returns-clause-readings : goal.returns-clause-readings
returns-clause-readings g c =
    let pool = c.args._pool.now in
    let old = c.args.numbers.now in
    let s = c.add.new.numbers in
    let row = row_of c.args.self.now in
    let later = row_of c.add.new.self in
    let items = c.add.new.self.readings.items in
    let same : items ≡ c.args.self.now.readings.items = λ i. (c.add.ensures.readings i).items in
    let i = c.from-2.result in
    let x = c.in_ok-types.types in
    let within = text_within pool c.args.index c.args.text.bytes.now c.requires.text in
    let count : length items ≡ length c.args.self.now.readings.items = ap length same in
    let h : i < length items = omega (arith, within, c.requires.read.long, c.from-2.ensures, count) in
    let some : method_in pool i ≡ Some c.in-Ok.ensures.type =
    ap (λ k. method_in pool k) c.from-2.ensures ∙ method_read pool c.args.index c.args.text.bytes.now c.requires.text ∙ ap found c.in-Ok.ensures.named in
    record {
      long = length-set items i (Types x) ∙ count ∙ c.requires.read.long;
      read = all_noted (λ k r. IsMethodReading s later (method_in pool k) r) items Unread i (Types x) h
          (λ k. subst (λ (rs : List MethodReading). IsMethodReading s later (method_in pool k) (get_or rs k Unread)) (sym same)
          (reading_on old s c.add.ensures.kept row later c.in_ok-types.ensures.grown (method_in pool k) (get_or c.args.self.now.readings.items k Unread) (c.requires.read.read k)))
          (subst (AreTypesOf s later (Some x)) (sym some) (c.in_ok-types.ensures.types c.in-Ok.ensures.type (ap (method_answer false) c.bytes.ensures ∙ c.in-Ok.ensures.named)));
    }

pub returns-clause-types : goal.returns-clause-types
returns-clause-types g c =
    let s = c.add.new.numbers in
    let some = method_read c.args._pool.now c.args.index c.args.text.bytes.now c.requires.text ∙ ap found c.in-Ok.ensures.named in
    subst (AreTypesOf s (row_of c.add.new.self) (Some c.in_ok-types.types)) (sym some) (c.in_ok-types.ensures.types c.in-Ok.ensures.type (ap (method_answer false) c.bytes.ensures ∙ c.in-Ok.ensures.named))
