use Rattle.std.proofs.Common.{◌∙◌, [], ◌∷◌, get_or, take, ap, arith}
use Rattle.std.proofs.lemmas.List.{take_more, take_all, map-append}
use Rattle.frames.specs.Slots.{units_of}
use Rattle.frames.proofs.Units.{units_append}
use Rattle.type_numbers.specs.Decoding.{type_by, types_by}
use Rattle.verify.proofs.pass.method.units.Goals as goal

pub loop-i-preserved : goal.loop-i-preserved
loop-i-preserved c =
    let xs = c.args.numbers.now in
    let i = c.loop-i.i in
    let n = get_or xs i 0 in
    record {
      few = omega (arith, c.loop-i.invariant.few, c.width-units.ensures.few);
      told = λ s.
          let parts = ap (λ ns. units_of (types_by s ns)) (take_more xs i 0 (omega arith)) ∙ ap units_of (map-append (type_by s) (take i xs) (n ∷ [])) ∙ units_append (types_by s (take i xs)) (type_by s n ∷ []) in
          omega (arith, parts, c.loop-i.invariant.told s, c.width-units.ensures.units s);
    }

pub returns : goal.returns
returns c = λ s. c.loop-i.invariant.told s ∙ ap (λ ns. units_of (types_by s ns)) (take_all c.loop-i.i c.args.numbers.now (omega arith))
