use Rattle.std.proofs.Common.{ℕ, ◌<◌, length, ap, subst, ◌∙◌, Option, Some, None, Result, Ok, Err, arith}
use Rattle.std.specs.Iterator.{MakesProgress, at_most}
use Rattle.layout.specs.Place.{Place}
use Rattle.insn.specs.declared.fault.CodeFault.{CodeFault}
use Rattle.insn.specs.declared.instruction.Insn.{Insn}
use Rattle.insn.specs.Code.{StepsThrough}
use Rattle.insn.specs.Instructions.{nothing}
use Rattle.insn.specs.Views.{located}
use Rattle.insn.proofs.CodeLaws.{shorter}
use Rattle.insn.proofs.instructions.InstructionsIterator.next.Goals as goal

-- a step that tells something leaves fewer bytes
fewer : (old new : Place) (step : Option (Result (ℕ × Insn) CodeFault)) → StepsThrough located old step new
    → MakesProgress (λ _. Unit {0}) (λ p. at_most (length p.rest)) old step new
fewer old new None s = record { on = λ _. tt; keeps = tt; rests = λ _. tt }
fewer old new (Some (Ok x)) s =
    let (here, first, spells, took) = s in
    record { on = λ _. (tt, tt, shorter first (located x).1 old new spells took); keeps = tt; rests = λ _. tt }
fewer old new (Some (Err e)) s =
    let (more, faulty, none) = s in
    record { on = λ _. (tt, tt, omega (arith, more, ap length none)); keeps = tt; rests = λ _. tt }

pub returns-in-Some-clause-goes : goal.returns-in-Some-clause-goes
returns-in-Some-clause-goes c =
    let (alone, first, spells, took) = c.in-Some.ensures in
    let new = c.take_alone.new.cursor in
    let less = shorter first (record { opcode = c.in-Some.opcode; operands = nothing }) c.self.inside.cursor new spells took in
    let fewer = subst (λ (p : Place). length new.rest < length p.rest) c.self.view_is less in
    record { on = λ _. (tt, tt, fewer); keeps = tt; rests = λ _. tt }

pub returns-in-None-clause-goes : goal.returns-in-None-clause-goes
returns-in-None-clause-goes c =
    let next = c.next_with_operands in
    fewer _ _ next.result (subst (λ p. StepsThrough located p next.result next.new.self) (c.in-None.ensures ∙ c.self.view_is) next.ensures)
