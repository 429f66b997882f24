use Rattle.std.proofs.Common.{◌≡◌, ◌∙◌, ◌++◌, List, ℕ, Some, map, option_map, sym, ap, subst}
use Rattle.classfile.specs.Methods.{code_of}
use Rattle.classfile.specs.Views.{attribute_view, code_view}
use Rattle.insn.specs.Decoding.{code_result}
use Rattle.frames.specs.declared.difference.Sought.{Sought}
use Rattle.rules.specs.Reasons.{reason_number}
use Rattle.printing.specs.CodeLines.{sizes_line, line_at, named_at}
use Rattle.printing.specs.Writing.{Writes}
use Rattle.verify.specs.Coming.{frames_view}
use Rattle.answers.specs.Details.{detail_line_of}
use Rattle.answers.specs.Explanations.{code_part, frames_for, entry_lines}
use Rattle.answers.proofs.explaining.CodePartPrint.put.Goals as goal

pub returns-in-Some : goal.returns-in-Some
returns-in-Some g c =
    let held = g.W.Write.contents in
    let self = c.args.self.now in
    let pool = self.pool.now in
    let x = frames_view self.frames.now in
    let body = code_view c.in-Some.body.now in
    let text : Sought → List ℕ = λ (sought : Sought).
    sizes_line body ++ (line_at (code_result body.code) self.at ++ (named_at pool (code_result body.code) self.at
    ++ (frames_for x ++ (detail_line_of sought x.detail ++ entry_lines pool body x)))) in
    let there : Some body ≡ code_of (map attribute_view self.member.now.attributes.items) =
    sym (ap (option_map (λ b. code_view b.now)) c.in-Some.is) ∙ c.code.ensures in
    subst (λ o. Writes (held c.args.out.now) (held c.put-in-Some.new.out) (code_part (reason_number self.reason) pool o self.at x) c.put-in-Some.result) there
    (subst (λ sought. Writes (held c.args.out.now) (held c.put-in-Some.new.out) (text sought) c.put-in-Some.result) c.sought_by-sought.ensures c.put-in-Some.ensures)
