use Rattle.std.proofs.Common.{◌≡◌, ◌++◌, ◌∷◌, [], ℕ, refl, sym, subst, ◌∙◌, arith}
use Rattle.std.proofs.lemmas.List.{map_push}
use Rattle.std.proofs.lemmas.Result.{err_from_is_err_and}
use Rattle.layout.specs.Place.{Place}
use Rattle.insn.specs.declared.instruction.Insn.{Insn}
use Rattle.insn.specs.Views.{located, views}
use Rattle.insn.proofs.CodeLaws.{SoFar, step_read, step_fault, code_step, code_whole, code_or_fault, starts_rise, within, unless_memory}
use Rattle.insn.proofs.decoding.decode_code.Goals as goal

pub returns-in_err-count_instructions-clause-only : goal.returns-in_err-count_instructions-clause-only
returns-in_err-count_instructions-clause-only c = λ xs code. absurd (code_or_fault c.args.code.now xs c.in_err-count_instructions.field-0.0 code c.in_err-count_instructions.ensures.fault)

pub loop-step-init : goal.loop-step-init
loop-step-init c =
    let is = c.into_iter-step-iterator.ensures.into_iter_gives ∙ c.new-step-items.ensures in
    let none : views c.in_ok-list.list.items ≡ [] = rw c.in_ok-list.ensures.items refl in
    subst (λ (p : Place). SoFar c.args.code.now p (views c.in_ok-list.list.items)) (sym is) ([], refl, refl, rw none refl)

pub returns-in_err-at-clause-only : goal.returns-in_err-at-clause-only
returns-in_err-at-clause-only c =
    let fault = step_fault located c.args.code.now (views c.loop-step.list.items) c.loop-step.step-iterator c.next.new.self c.in-Some.step c.in_err-at.field-0.0
    c.loop-step.invariant c.in-Some.ensures.steps c.in_err-at.was in
    λ xs code. absurd (code_or_fault c.args.code.now xs c.in_err-at.field-0.0 code fault)

pub returns-in_err-at-clause-fault : goal.returns-in_err-at-clause-fault
returns-in_err-at-clause-fault c =
    let fault = step_fault located c.args.code.now (views c.loop-step.list.items) c.loop-step.step-iterator c.next.new.self c.in-Some.step c.in_err-at.field-0.0
    c.loop-step.invariant c.in-Some.ensures.steps c.in_err-at.was in
    let p = err_from_is_err_and c.from_residual-in_err-at.result c.from_residual-in_err-at.ensures.1 in
    rw (p.1, p.2) (unless_memory c.in_err-at.field-0.0 fault)

pub overflow_cast-at : goal.overflow_cast-at
overflow_cast-at c =
    let read = step_read located c.loop-step.step-iterator c.next.new.self c.in-Some.step (c.in_ok-at.at, c.in_ok-at.insn) c.in-Some.ensures.steps c.in_ok-at.was in
    let le = within c.args.code.now (views c.loop-step.list.items) c.loop-step.step-iterator c.loop-step.invariant in
    omega (arith, le, read.0, c.requires)

pub loop-step-preserved : goal.loop-step-preserved
loop-step-preserved c =
    let old = c.loop-step.list.items in
    let x : ℕ × Insn = (c.in_ok-at.at, c.in_ok-at.insn) in
    let is : views c.push.new.self.items ≡ views old ++ located x ∷ [] = rw c.in_ok-push.ensures.items (map_push _ old x) in
    let read = step_read located c.loop-step.step-iterator c.next.new.self c.in-Some.step x c.in-Some.ensures.steps c.in_ok-at.was in
    code_step c.args.code.now (views old) (views c.push.new.self.items) c.loop-step.step-iterator c.next.new.self (located x) c.loop-step.invariant read.0 is (read.1, read.2, read.3)

pub returns-clause-found : goal.returns-clause-found
returns-clause-found c =
    let end = c.in-None.ensures.steps in
    code_whole c.args.code.now (views c.loop-step.list.items) c.loop-step.step-iterator c.loop-step.invariant (rw end.0 refl)

pub returns-clause-starts : goal.returns-clause-starts
returns-clause-starts c =
    let end = c.in-None.ensures.steps in
    let code = code_whole c.args.code.now (views c.loop-step.list.items) c.loop-step.step-iterator c.loop-step.invariant (rw end.0 refl) in
    starts_rise 0 c.args.code.now (views c.loop-step.list.items) code
