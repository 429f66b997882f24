use Rattle.std.proofs.Common.{ℕ, ◌∙◌, refl, sym, ap}
use Rattle.insn.specs.declared.instruction.Insn.{Insn}
use Rattle.insn.specs.Offsets.{at_offset}
use Rattle.insn.specs.Views.{located}
use Rattle.insn.proofs.CodeResults.{result_at, whole_reading}
use Rattle.printing.proofs.Steps.{step_is, fault_here, end_is, left_behind, no_list, nothing_left, here_found, here_passed}
use Rattle.printing.proofs.code.find_instruction.Goals as goal

pub loop-step-init : goal.loop-step-init
loop-step-init c = λ xs is. (
  xs,
  ap result_at (c.into_iter-step-iterator.ensures.into_iter_gives ∙ c.new-step-items.ensures) ∙ sym (whole_reading c.args.code.now) ∙ is,
  refl,
)

pub loop-step-preserved : goal.loop-step-preserved
loop-step-preserved c = λ xs is.
    let (left, rest, same) = c.loop-step.invariant xs is in
    let x : ℕ × Insn = (c.in-Ok.here, c.in-Ok.insn) in
    let step = step_is located c.loop-step.step-iterator c.next.new.self c.in-Some.step x c.in-Some.ensures.steps c.in-Ok.is in
    let (ys, more, split) = left_behind (located x) (result_at c.next.new.self) left (sym step ∙ rest) in
    (ys, more, same ∙ ap (λ l. at_offset l c.args.at) split ∙ here_passed (located x) ys c.args.at c.if-here-at.false)

pub returns-then-here-at : goal.returns-then-here-at
returns-then-here-at c = λ xs is.
    let (left, rest, same) = c.loop-step.invariant xs is in
    let x : ℕ × Insn = (c.in-Ok.here, c.in-Ok.insn) in
    let step = step_is located c.loop-step.step-iterator c.next.new.self c.in-Some.step x c.in-Some.ensures.steps c.in-Ok.is in
    let (ys, more, split) = left_behind (located x) (result_at c.next.new.self) left (sym step ∙ rest) in
    sym (same ∙ ap (λ l. at_offset l c.args.at) split ∙ here_found (located x) ys c.args.at c.if-here-at.true)

pub returns-in-Err : goal.returns-in-Err
returns-in-Err c = λ xs is.
    let (left, rest, same) = c.loop-step.invariant xs is in
    let fault = fault_here located c.loop-step.step-iterator c.next.new.self c.in-Some.step c.in-Err.field-0 c.in-Some.ensures.steps c.in-Err.is in
    absurd (no_list c.in-Err.field-0 (result_at c.loop-step.step-iterator) left fault rest)

pub returns : goal.returns
returns c = λ xs is.
    let (left, rest, same) = c.loop-step.invariant xs is in
    let none = nothing_left (result_at c.loop-step.step-iterator) left (end_is located c.loop-step.step-iterator c.next.new.self c.in-None.ensures.steps) rest in
    sym (same ∙ ap (λ l. at_offset l c.args.at) none)
