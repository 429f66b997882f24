use Rattle.std.proofs.Common.{◌<◌, length, sym, subst, ◌∙◌, arith}
use Rattle.std.proofs.lemmas.Bool.Decides.{nat_tests}
use Rattle.std.proofs.lemmas.List.{length-map}
use Rattle.layout.specs.Place.{Place}
use Rattle.insn.specs.Code.{HasInstruction}
use Rattle.insn.specs.Views.{views, located}
use Rattle.insn.proofs.CodeLaws.{code_front}
use Rattle.format_calls.proofs.code_reading.first_act.Goals as goal

pub take_act-act-requires : goal.take_act-act-requires
take_act-act-requires c =
    let items = c.in-Ok.list.items in
    let some : 0 < length items = grind (arith, nat_tests, sym c.is_empty.ensures ∙ c.if-is_empty.false) in
    let more : 0 < length (views items) = omega (arith, some, length-map items located) in
    subst HasInstruction (sym c.new-reader.ensures) (code_front c.args.code.now (views items) c.in-Ok.ensures.found more)
