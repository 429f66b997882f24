use Rattle.std.proofs.Common.{◌≡◌, ◌∙◌, ◌-◌, false, is_some, ap, length, arith}
use Rattle.names.specs.Descriptors.{MethodDescriptor, method_width, result_spelling}
use Rattle.type_numbers.proofs.LawsOfNumbers.{extends_on}
use Rattle.type_numbers.proofs.PushedTypes.{descriptor_pushed, pushed_count}
use Rattle.type_numbers.proofs.SpelledMethods.{descriptor_begins, few_parameters, few_units, one_descriptor, parameters_begin, result_follows}
use Rattle.type_numbers.proofs.method_numbers.DescriptorNumbers.add.Goals as goal

pub split_at-requires : goal.split_at-requires
split_at-requires g c = descriptor_begins c.args.bytes.now c.requires.type c.requires.named

pub split_at-requires-2 : goal.split_at-requires-2
split_at-requires-2 g c =
    let m = c.requires.type in
    let front = parameters_begin c.args.bytes.now m c.requires.named c.split_at.result.1.now c.split_at.ensures.back in
    let end = ap length (c.in_ok-end.ensures.pushed m.params (result_spelling m.result) front).0 in
    omega (arith, end)

pub returns-in_err-result-clause-kept : goal.returns-in_err-result-clause-kept
returns-in_err-result-clause-kept g c = extends_on c.args.numbers.now c.push_numbers.new.numbers c.result_number.new.numbers c.push_numbers.ensures.kept c.result_number.ensures.kept

pub returns-clause-kept : goal.returns-clause-kept
returns-clause-kept g c = extends_on c.args.numbers.now c.push_numbers.new.numbers c.result_number.new.numbers c.push_numbers.ensures.kept c.result_number.ensures.kept

pub overflow_sub-result : goal.overflow_sub-result
overflow_sub-result g c =
    let m = c.requires.type in
    let front = parameters_begin c.args.bytes.now m c.requires.named c.split_at.result.1.now c.split_at.ensures.back in
    let p = (c.in_ok-end.ensures.pushed m.params (result_spelling m.result) front).1 in
    let n = pushed_count c.push_numbers.new.numbers c.args.self.now.arguments.items c.push_numbers.new.row.items m.params p in
    omega (arith, n, c.len.ensures, c.len-start.ensures)

pub overflow_cast-result : goal.overflow_cast-result
overflow_cast-result g c =
    let m = c.requires.type in
    let front = parameters_begin c.args.bytes.now m c.requires.named c.split_at.result.1.now c.split_at.ensures.back in
    let p = (c.in_ok-end.ensures.pushed m.params (result_spelling m.result) front).1 in
    let n = pushed_count c.push_numbers.new.numbers c.args.self.now.arguments.items c.push_numbers.new.row.items m.params p in
    let few = few_parameters c.args.bytes.now m c.requires.named in
    omega (arith, n, few, c.len.ensures, c.len-start.ensures)

pub overflow_cast-result-2 : goal.overflow_cast-result-2
overflow_cast-result-2 g c =
    let few = few_units c.args.bytes.now c.requires.type c.requires.named in
    let units = c.requires.shape.units in
    omega (arith, few, units)

pub returns-clause-grown : goal.returns-clause-grown
returns-clause-grown g c =
    let m = c.requires.type in
    let front = parameters_begin c.args.bytes.now m c.requires.named c.split_at.result.1.now c.split_at.ensures.back in
    let p = (c.in_ok-end.ensures.pushed m.params (result_spelling m.result) front).1 in
    (p.numbers, p.is)

pub returns-clause-types : goal.returns-clause-types
returns-clause-types g c = λ m e.
    let bytes = c.args.bytes.now in
    let row = c.args.self.now.arguments.items in
    let later = c.push_numbers.new.row.items in
    let front = parameters_begin bytes m e c.split_at.result.1.now c.split_at.ensures.back in
    let pushed = c.in_ok-end.ensures.pushed m.params (result_spelling m.result) front in
    let same : c.requires.type ≡ m = one_descriptor bytes c.requires.type c.requires.named m e in
    let n = pushed_count c.push_numbers.new.numbers row later m.params pushed.1 in
    let start : c.len-start.result ≡ length row = omega (arith, c.len-start.ensures) in
    let count : c.len.result - c.len-start.result ≡ length m.params = omega (arith, n, c.len.ensures, c.len-start.ensures) in
    let width : c.args.shape.units ≡ method_width m false = c.requires.shape.units ∙ ap (λ (k : MethodDescriptor). method_width k false) same in
    let has : c.args.shape.has_result ≡ is_some m.result = c.requires.shape.has_result ∙ ap (λ (k : MethodDescriptor). is_some k.result) same in
    let result = c.in_ok-result.ensures.number m.result (result_follows bytes m e c.in_ok-end.end.now c.split_at-2.result.1.now c.args.shape.has_result pushed.0 c.split_at-2.ensures.back has) in
    descriptor_pushed c.push_numbers.new.numbers c.result_number.new.numbers c.result_number.ensures.kept row later m pushed.1
    (record { start = c.len-start.result; count = c.len.result - c.len-start.result; width = c.args.shape.units; result = c.in_ok-result.result }) start count width result
