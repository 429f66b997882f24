use Rattle.std.proofs.Common.{◌++◌, ◌∷◌, [], refl, arith}
use Rattle.std.proofs.lemmas.List.{length-append}
use Rattle.insn.specs.Views.{located}
use Rattle.insn.proofs.CodeLaws.{step_read, code_step, code_whole, shorter}
use Rattle.insn.proofs.decoding.count_instructions.Goals as goal

pub loop-step-preserved : goal.loop-step-preserved
loop-step-preserved c =
    let so = c.loop-step.invariant in
    let old = c.loop-step.step-iterator in
    let new = c.next.new.self in
    let x = c.in_ok-step.field-0 in
    let ys = so.0 ++ located x ∷ [] in
    let read = step_read located old new c.in-Some.step x c.in-Some.ensures.steps c.in_ok-step.was in
    let less = shorter read.1 (located x).1 old new read.2 read.3 in
    let more = code_step c.args.code.now so.0 ys old new (located x) so.3 read.0 refl (read.1, read.2, read.3) in
    (ys, omega (arith, so.1, length-append so.0 (located x ∷ [])), omega (arith, less, so.2), more)

pub returns-clause-found : goal.returns-clause-found
returns-clause-found c =
    let so = c.loop-step.invariant in
    let end = c.in-None.ensures.steps in
    (so.0, code_whole c.args.code.now so.0 c.loop-step.step-iterator so.3 (rw end.0 refl), so.1)
