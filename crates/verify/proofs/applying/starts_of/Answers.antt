use Rattle.std.proofs.Common.{◌≡◌, ◌∙◌, ℕ, List, Ok, Err, sym}
use Rattle.insn.specs.Code.{FaultyCode}
use Rattle.insn.specs.declared.fault.CodeFault.{CodeFault}
use Rattle.insn.specs.Instructions.{Instruction}
use Rattle.insn.specs.Decoding.{CodeResult, code_result}
use Rattle.insn.specs.Views.{views}
use Rattle.insn.proofs.CodeResults.{only_result}
use Rattle.verify.proofs.FramesFound.{told}
use Rattle.verify.proofs.applying.starts_of.Goals as goal

-- code that was read has no fault
no_fault : (code : List ℕ) (xs : List (ℕ × Instruction)) (fault : CodeFault) → code_result code ≡ Ok xs → FaultyCode code fault → ⊥
no_fault code xs fault read faulty = let both : Err fault ≡ (let r : CodeResult = Ok xs in r) = sym (only_result code (Err fault) faulty) ∙ read in cc

pub unreachable-requires : goal.unreachable-requires
unreachable-requires g c =
    let env = c.args.env.now in
    let code = env.method.code.now.code.now in
    no_fault code (views env.list.now) c.in-Err.fault env.read (told code c.in-Err.fault c.in_default.not-OutOfMemory c.in-Err.ensures.fault)
