use Rattle.std.proofs.Common.{◌/◌, ◌%◌, ◌<◌, ◌≡◌, ◌+◌, true, false, [], ◌∷◌, option_map, refl, sym, ap, subst, arith, nat_lt}
use Rattle.names.specs.ReferenceTypes.{dimensions_of, descriptor_of}
use Rattle.pool.specs.ConstantMeanings.{class_at}
use Rattle.insn.specs.declared.kinds.Kind.TheVariants.{Int}
use Rattle.frames.specs.Slots.{to_reference}
use Rattle.frames.specs.VerificationType.{array}
use Rattle.type_numbers.specs.Decoding.{type_by}
use Rattle.type_numbers.specs.Numbers.{IsNumberOf}
use Rattle.type_numbers.proofs.Decoded.{below_absent, number_read}
use Rattle.rules.specs.Bodies.{method_view}
use Rattle.rules.specs.Constants.{new_reference_array}
use Rattle.rules.specs.TypingRules.{numbers, pops}
use Rattle.rules.specs.declared.reason.Reason.TheVariants.{WrongConstant}
use Rattle.rules.proofs.Settling.{by_typing_rule, by_allowed, is_less, not_less}
use Rattle.numbered_rules.specs.RunningFrame.{held}
use Rattle.numbered_rules.proofs.Elements.{reference_dims, array_number_more}
use Rattle.numbered_rules.proofs.Judging.{refused, not_allowed}
use Rattle.numbered_rules.proofs.Naming.{number_missing, number_named}
use Rattle.numbered_rules.proofs.Standing.{kinds_stand, kinds_expected}
use Rattle.numbered_rules.proofs.class_operands.new_reference_array.Goals as goal

pub returns-in_default-clause-done : goal.returns-in_default-clause-done
returns-in_default-clause-done g c = λ at.
    let s = c.args.frames.now.types in
    let m = method_view c.args.method.now in
    let f = held c.args.frames.now in
    let o = class_at m.constant_pool c.args.index in
    refused m at (new_reference_array o) 66 WrongConstant s.classes f f
    (ap new_reference_array (number_missing s to_reference o (subst (λ n. IsNumberOf s n (option_map to_reference o)) c.in_default.is (c.class_at.ensures s m.constant_pool c.requires)))) refl

pub pops-requires-clause-asked : goal.pops-requires-clause-asked
pops-requires-clause-asked g c = kinds_expected c.args.frames.now.types (Int ∷ [])

pub pops-requires-clause-gives : goal.pops-requires-clause-gives
pops-requires-clause-gives g c =
    let s = c.args.frames.now.types in
    let m = method_view c.args.method.now in
    let n = c.in-Some.component in
    let o = class_at m.constant_pool c.args.index in
    let x = number_named s to_reference n o (c.in-Some.ensures s m.constant_pool c.requires) in
    let same = c.dimensions.ensures s x.value x.number in
    let dims = reference_dims s n x.value x.number in
    (array (descriptor_of x.value), array_number_more s n x.value x.number (omega (arith, c.if-dimensions-lt255.true, same, dims)))

pub returns-then-dimensions-lt255-clause-done : goal.returns-then-dimensions-lt255-clause-done
returns-then-dimensions-lt255-clause-done g c = λ at.
    let s = c.args.frames.now.types in
    let m = method_view c.args.method.now in
    let f = held c.args.frames.now in
    let n = c.in-Some.component in
    let o = class_at m.constant_pool c.args.index in
    let x = number_named s to_reference n o (c.in-Some.ensures s m.constant_pool c.requires) in
    let same = c.dimensions.ensures s x.value x.number in
    let dims = reference_dims s n x.value x.number in
    let made = array (descriptor_of x.value) in
    let number = array_number_more s n x.value x.number (omega (arith, c.if-dimensions-lt255.true, same, dims)) in
    let ws = numbers (Int ∷ []) in
    let room : nat_lt (dimensions_of x.value) 255 ≡ true = is_less _ _ (omega (arith, c.if-dimensions-lt255.true, same)) in
    by_allowed m at (new_reference_array o) (nat_lt (dimensions_of x.value) 255) (pops ws (made ∷ []) [] true) s.classes f (held c.pops.new.frames) c.pops.result (ap new_reference_array x.is) room
    (by_typing_rule m at (pops ws (made ∷ []) [] true) (pops ws (type_by s (n + 65536) ∷ []) [] true) s.classes f (held c.pops.new.frames) c.pops.result
    (ap (λ u. pops ws (u ∷ []) [] true) (sym (number_read s (n + 65536) made number)))
    (c.pops.ensures.done ws (kinds_stand s (Int ∷ []))))

pub returns-else-dimensions-lt255-clause-done : goal.returns-else-dimensions-lt255-clause-done
returns-else-dimensions-lt255-clause-done g c = λ at.
    let s = c.args.frames.now.types in
    let m = method_view c.args.method.now in
    let f = held c.args.frames.now in
    let n = c.in-Some.component in
    let o = class_at m.constant_pool c.args.index in
    let x = number_named s to_reference n o (c.in-Some.ensures s m.constant_pool c.requires) in
    let same = c.dimensions.ensures s x.value x.number in
    let full : nat_lt (dimensions_of x.value) 255 ≡ false = not_less _ _ (omega (arith, c.if-dimensions-lt255.false, same)) in
    not_allowed m at (new_reference_array o) (nat_lt (dimensions_of x.value) 255) _ s.classes f f (ap new_reference_array x.is) full

pub overflow_add-component : goal.overflow_add-component
overflow_add-component g c =
    let s = c.args.frames.now.types in
    let m = method_view c.args.method.now in
    let n = c.in-Some.component in
    let o = class_at m.constant_pool c.args.index in
    let x = number_named s to_reference n o (c.in-Some.ensures s m.constant_pool c.requires) in
    let same = c.dimensions.ensures s x.value x.number in
    let dims = reference_dims s n x.value x.number in
    let low = below_absent s n (to_reference x.value) x.number in
    let flat : n / 65536 % 256 < 255 = omega (arith, c.if-dimensions-lt255.true, same, dims) in
    omega (arith, low, flat)
