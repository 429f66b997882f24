use Rattle.insn.specs.Views.{views}
use Rattle.insn.proofs.CodeLaws.{SoFar}
use Rattle.insn.proofs.decoding.decode_code.Given as goal

abbrev pub invariant-loop-step : goal.invariant-loop-step
invariant-loop-step l = SoFar l.fn.code l.step-iterator (views l.list.items)
