use Rattle.std.proofs.Common.{ℕ, ◌∙◌, sym, ap}
use Rattle.std.specs.List.{flat_map}
use Rattle.insn.specs.declared.instruction.Insn.{Insn}
use Rattle.insn.specs.Views.{located}
use Rattle.insn.proofs.CodeResults.{result_at, whole_reading}
use Rattle.printing.specs.InstructionLines.{instruction_line}
use Rattle.printing.proofs.Steps.{step_is, fault_here, end_is, left_behind, no_list, nothing_left}
use Rattle.printing.proofs.Writings.{none_so_far, with_left, one_more, stops_inside, all_written}
use Rattle.printing.proofs.code.put_instructions.Goals as goal

pub loop-step-init : goal.loop-step-init
loop-step-init g c = λ xs is. (
  xs,
  ap result_at (c.into_iter-step-iterator.ensures.into_iter_gives ∙ c.new-step-items.ensures) ∙ sym (whole_reading c.args.code.now) ∙ is,
  none_so_far (g.W.Write.contents c.args.out.now) (flat_map instruction_line xs),
)

pub loop-step-preserved : goal.loop-step-preserved
loop-step-preserved g c = λ xs is.
    let held = g.W.Write.contents in
    let (left, rest, so) = c.loop-step.invariant xs is in
    let x : ℕ × Insn = (c.in-Ok.at, c.in-Ok.insn) in
    let step = step_is located c.loop-step.step-iterator c.next.new.self c.in-Some.step x c.in-Some.ensures.steps c.in-Ok.is in
    let (ys, more, split) = left_behind (located x) (result_at c.next.new.self) left (sym step ∙ rest) in (
      ys,
      more,
      one_more (held c.args.out.now) (held c.loop-step.out) (held c.put.new.out) (flat_map instruction_line xs) (instruction_line (located x)) (flat_map instruction_line ys)
          (with_left _ _ _ _ _ (ap (flat_map instruction_line) split) so) c.in-Ok-put.ensures,
    )

pub returns-in-Err-put : goal.returns-in-Err-put
returns-in-Err-put g c = λ xs is.
    let held = g.W.Write.contents in
    let (left, rest, so) = c.loop-step.invariant xs is in
    let x : ℕ × Insn = (c.in-Ok.at, c.in-Ok.insn) in
    let step = step_is located c.loop-step.step-iterator c.next.new.self c.in-Some.step x c.in-Some.ensures.steps c.in-Ok.is in
    let (ys, more, split) = left_behind (located x) (result_at c.next.new.self) left (sym step ∙ rest) in
    stops_inside (held c.args.out.now) (held c.loop-step.out) (held c.put.new.out) (flat_map instruction_line xs) (instruction_line (located x)) (flat_map instruction_line ys)
    (with_left _ _ _ _ _ (ap (flat_map instruction_line) split) so) c.in-Err-put.ensures

pub returns-in-Err : goal.returns-in-Err
returns-in-Err g c = λ xs is.
    let (left, rest, so) = c.loop-step.invariant xs is in
    let fault = fault_here located c.loop-step.step-iterator c.next.new.self c.in-Some.step c.in-Err.field-0 c.in-Some.ensures.steps c.in-Err.is in
    absurd (no_list c.in-Err.field-0 (result_at c.loop-step.step-iterator) left fault rest)

pub returns : goal.returns
returns g c = λ xs is.
    let held = g.W.Write.contents in
    let (left, rest, so) = c.loop-step.invariant xs is in
    let none = nothing_left (result_at c.loop-step.step-iterator) left (end_is located c.loop-step.step-iterator c.next.new.self c.in-None.ensures.steps) rest in
    all_written (held c.args.out.now) (held c.loop-step.out) (flat_map instruction_line xs) (with_left _ _ _ _ _ (ap (flat_map instruction_line) none) so)
