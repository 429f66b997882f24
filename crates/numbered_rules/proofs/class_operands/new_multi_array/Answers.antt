use Rattle.std.specs.Prelude.{not}
use Rattle.std.proofs.Common.{◌≡◌, true, false, [], ◌∷◌, option_map, refl, sym, ap, ap₂, subst, arith, nat_lt, ◌&&◌}
use Rattle.names.specs.ReferenceTypes.{dimensions_of}
use Rattle.pool.specs.ConstantMeanings.{class_at}
use Rattle.frames.specs.Slots.{to_reference}
use Rattle.type_numbers.specs.Decoding.{type_by}
use Rattle.type_numbers.specs.Numbers.{IsNumberOf}
use Rattle.type_numbers.proofs.Decoded.{number_read}
use Rattle.rules.specs.Bodies.{method_view}
use Rattle.rules.specs.Constants.{new_multi_array}
use Rattle.rules.specs.TypingRules.{numbers, pops, sizes}
use Rattle.rules.specs.declared.reason.Reason.TheVariants.{WrongConstant}
use Rattle.rules.proofs.Settling.{by_typing_rule, by_allowed, is_less, not_less}
use Rattle.numbered_rules.specs.RunningFrame.{held}
use Rattle.numbered_rules.proofs.Judging.{and_false, refused, not_allowed}
use Rattle.numbered_rules.proofs.Naming.{number_missing, number_named, number_given}
use Rattle.numbered_rules.proofs.Standing.{kinds_stand, kinds_expected}
use Rattle.numbered_rules.proofs.class_operands.new_multi_array.Goals.{else-count-gt0-via-then-count-gt0+else-dimensions-count, else-count-gt0-via-else-count-gt0}
use Rattle.numbered_rules.proofs.class_operands.new_multi_array.Goals as goal

pub returns-in_default-clause-done : goal.returns-in_default-clause-done
returns-in_default-clause-done g c = λ at.
    let s = c.args.frames.now.types in
    let m = method_view c.args.method.now in
    let f = held c.args.frames.now in
    let o = class_at m.constant_pool c.args.index in
    refused m at (new_multi_array c.args.count o) 66 WrongConstant s.classes f f
    (ap (new_multi_array c.args.count) (number_missing s to_reference o (subst (λ n. IsNumberOf s n (option_map to_reference o)) c.in_default.is (c.class_at.ensures s m.constant_pool c.requires)))) refl

pub pops-requires-clause-asked : goal.pops-requires-clause-asked
pops-requires-clause-asked g c = kinds_expected c.args.frames.now.types c.sizes.result.now

pub pops-requires-clause-gives : goal.pops-requires-clause-gives
pops-requires-clause-gives g c =
    let s = c.args.frames.now.types in
    let m = method_view c.args.method.now in
    number_given s c.in-Some.made (option_map to_reference (class_at m.constant_pool c.args.index)) (c.in-Some.ensures s m.constant_pool c.requires)

pub returns-then-dimensions-count-clause-done : goal.returns-then-dimensions-count-clause-done
returns-then-dimensions-count-clause-done g c = λ at.
    let s = c.args.frames.now.types in
    let m = method_view c.args.method.now in
    let f = held c.args.frames.now in
    let n = c.in-Some.made in
    let o = class_at m.constant_pool c.args.index in
    let x = number_named s to_reference n o (c.in-Some.ensures s m.constant_pool c.requires) in
    let same = c.dimensions.ensures s x.value x.number in
    let more : nat_lt 0 c.args.count ≡ true = is_less _ _ (omega (arith, c.if-count-gt0.true)) in
    let deep : nat_lt (dimensions_of x.value) c.args.count ≡ false = not_less _ _ (omega (arith, c.if-dimensions-count.true, same)) in
    let allowed : (nat_lt 0 c.args.count && not (nat_lt (dimensions_of x.value) c.args.count)) ≡ true = ap₂ (λ a b. a && not b) more deep in
    let ws = numbers c.sizes.result.now in
    let same_rule : pops (sizes c.args.count) (to_reference x.value ∷ []) [] true ≡ pops ws (type_by s n ∷ []) [] true = (λ i. pops (sym c.sizes.ensures i) (sym (number_read s n (to_reference x.value) x.number) i ∷ []) [] true) in
    by_allowed m at (new_multi_array c.args.count o) (nat_lt 0 c.args.count && not (nat_lt (dimensions_of x.value) c.args.count)) (pops (sizes c.args.count) (to_reference x.value ∷ []) [] true) s.classes f (held c.pops.new.frames) c.pops.result
    (ap (new_multi_array c.args.count) x.is) allowed
    (by_typing_rule m at (pops (sizes c.args.count) (to_reference x.value ∷ []) [] true) (pops ws (type_by s n ∷ []) [] true) s.classes f (held c.pops.new.frames) c.pops.result same_rule
    (c.pops.ensures.done ws (kinds_stand s c.sizes.result.now)))

pub returns-else-count-gt0-clause-done : goal.returns-else-count-gt0-clause-done
returns-else-count-gt0-clause-done g c = λ at.
    let s = c.args.frames.now.types in
    let m = method_view c.args.method.now in
    let f = held c.args.frames.now in
    let n = c.in-Some.made in
    let o = class_at m.constant_pool c.args.index in
    let x = number_named s to_reference n o (c.in-Some.ensures s m.constant_pool c.requires) in
    let k = c.args.count in
    not_allowed m at (new_multi_array k o) (nat_lt 0 k && not (nat_lt (dimensions_of x.value) k)) _ s.classes f f (ap (new_multi_array k) x.is)
    (elim c.else-count-gt0.branch [
      | else-count-gt0-via-then-count-gt0+else-dimensions-count w ↦
          let same = w.dimensions.ensures s x.value x.number in
          let shallow : nat_lt (dimensions_of x.value) k ≡ true = is_less _ _ (omega (arith, w.if-dimensions-count.false, same)) in
          and_false (nat_lt 0 k) (ap not shallow)
      | else-count-gt0-via-else-count-gt0 w ↦
          let few : nat_lt 0 k ≡ false = not_less _ _ (omega (arith, w.if-count-gt0.false)) in
          ap (λ b. b && not (nat_lt (dimensions_of x.value) k)) few
    ])
