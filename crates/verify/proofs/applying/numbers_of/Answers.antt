use Rattle.std.proofs.Common.{◌++◌, ◌∷◌, [], get_or, map, take, sym, subst}
use Rattle.std.proofs.lemmas.List.{map_more}
use Rattle.frames.specs.VerificationType.{type_of}
use Rattle.frames.specs.declared.vtype.VType.TheVariants.{Top}
use Rattle.type_numbers.specs.MethodNumbers.{AreNumbers}
use Rattle.type_numbers.proofs.LawsOfNumbers.{extends_on}
use Rattle.type_numbers.proofs.MethodReadings.{numbers_on}
use Rattle.verify.proofs.numbered.ClassTyped.{numbers_join}
use Rattle.verify.proofs.applying.numbers_of.Goals as goal

pub returns-in_err-number-clause-kept : goal.returns-in_err-number-clause-kept
returns-in_err-number-clause-kept g c = extends_on c.args.types.now c.loop-vtype.types c.number.new.self c.loop-vtype.invariant.kept c.number.ensures.kept

pub returns-in_err-push-clause-kept : goal.returns-in_err-push-clause-kept
returns-in_err-push-clause-kept g c = extends_on c.args.types.now c.loop-vtype.types c.number.new.self c.loop-vtype.invariant.kept c.number.ensures.kept

pub loop-vtype-preserved : goal.loop-vtype-preserved
loop-vtype-preserved g c =
    let s = c.number.new.self in
    let xs = c.args.vtypes.now in
    let i = c.loop-vtype.vtype-index in
    let old = c.loop-vtype.numbers.items in
    let x = get_or xs i Top in
    let n = c.in_ok-number.field-0 in
    let before = numbers_on c.loop-vtype.types s c.number.ensures.kept old (map type_of (take i xs)) c.loop-vtype.invariant.numbered in
    record {
      kept = extends_on c.args.types.now c.loop-vtype.types s c.loop-vtype.invariant.kept c.number.ensures.kept;
      numbered =
          subst (λ ts. AreNumbers s c.push.new.self.items ts) (sym (map_more type_of xs i Top c.loop-vtype-test.true))
          (subst (λ ns. AreNumbers s ns (map type_of (take i xs) ++ type_of x ∷ [])) (sym c.in_ok-push.ensures.items)
          (numbers_join s old (n ∷ []) (map type_of (take i xs)) (type_of x ∷ []) before (c.in_ok-number.ensures.given, tt)));
    }
