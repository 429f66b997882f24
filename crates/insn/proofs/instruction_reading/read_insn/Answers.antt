use Rattle.std.proofs.Common.{◌≡◌, ℕ, Ok, Err, refl, subst}
use Rattle.std.proofs.lemmas.Result.{err_from_is_err_and}
use Rattle.layout.specs.Place.{Place}
use Rattle.layout.specs.Format.{reads}
use Rattle.insn.specs.Faults.{judged}
use Rattle.insn.specs.Instructions.{instruction_at}
use Rattle.insn.specs.Views.{view}
use Rattle.insn.proofs.CodeLaws.{read_spells, refusal_faulty}
use Rattle.insn.proofs.instruction_reading.read_insn.Goals as goal

pub returns-in_err-insn : goal.returns-in_err-insn
returns-in_err-insn c =
    let old = c.args.cursor.now in
    let fault = c.in_err-insn.field-0.0 in
    let p = err_from_is_err_and c.from_residual.result c.from_residual.ensures.1 in
    let a = subst (λ (s : Place). judged c.at-at.result (reads (instruction_at c.at-at.result) s.at s.rest) ≡ Err fault) c.fork-step.ensures c.in_err-insn.ensures in
    let b = subst (λ (k : ℕ). judged k (reads (instruction_at k) old.at old.rest) ≡ Err fault) c.at-at.ensures.place a in
    rw (p.1, p.2) (refusal_faulty old fault _ refl b, refl)

pub returns : goal.returns
returns c =
    let old = c.args.cursor.now in
    let new = c.instruction.new.cursor in
    let is = view c.in_ok-insn.insn in
    let a = subst (λ (s : Place). judged c.at-at.result (reads (instruction_at c.at-at.result) s.at s.rest) ≡ Ok (is, new)) c.fork-step.ensures c.in_ok-insn.ensures in
    let b = subst (λ (k : ℕ). judged k (reads (instruction_at k) old.at old.rest) ≡ Ok (is, new)) c.at-at.ensures.place a in
    read_spells old.at (instruction_at old.at) old new is _ refl b
