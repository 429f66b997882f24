use Rattle.std.proofs.Common.{ℕ, ◌∙◌, sym, ap}
use Rattle.insn.specs.Instructions.{Instruction}
use Rattle.insn.proofs.CodeResults.{result_at, whole_reading}
use Rattle.printing.specs.CodeLines.{fault_of}
use Rattle.printing.proofs.Steps.{start_behind, start_shorter, start_here, fault_end}
use Rattle.printing.proofs.code.code_fault.Goals as goal

pub loop-step-init : goal.loop-step-init
loop-step-init c = ap fault_of (whole_reading c.args.code.now) ∙ ap (λ p. fault_of (result_at p)) (sym c.new-instructions.ensures)

pub loop-step-preserved : goal.loop-step-preserved
loop-step-preserved c = c.loop-step.invariant ∙ start_behind c.loop-step.instructions c.next_start.new.self c.in-Some.step c.in-Some.ensures _ c.in-Ok.is

pub loop-step-smaller : goal.loop-step-smaller
loop-step-smaller c = start_shorter c.loop-step.instructions c.next_start.new.self c.in-Some.step c.in-Some.ensures _ c.in-Ok.is

pub returns-in-Err : goal.returns-in-Err
returns-in-Err c = sym (c.loop-step.invariant ∙ start_here c.loop-step.instructions c.next_start.new.self c.in-Some.step c.in-Some.ensures c.in-Err.fault c.in-Err.is)

pub returns : goal.returns
returns c = sym (c.loop-step.invariant ∙ fault_end (λ (y : ℕ × Instruction). y) c.loop-step.instructions c.next_start.new.self c.in_default.ensures)
