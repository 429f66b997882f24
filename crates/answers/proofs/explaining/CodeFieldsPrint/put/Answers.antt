use Rattle.std.proofs.Common.{◌≡◌, ◌∙◌, List, Option, Some, ℕ, map, option_map, sym, ap, subst}
use Rattle.classfile.specs.Methods.{code_of}
use Rattle.classfile.specs.Views.{attribute_view, code_view}
use Rattle.insn.specs.Decoding.{code_result}
use Rattle.printing.specs.CodeLines.{size_fields, instruction_fields, named_fields_at}
use Rattle.printing.specs.Json.{fields_then, fields_behind}
use Rattle.printing.specs.Writing.{Writes}
use Rattle.verify.specs.Coming.{frames_view}
use Rattle.answers.specs.Details.{detail_fields_of}
use Rattle.answers.specs.Explanations.{code_fields, frame_fields_for, entry_fields}
use Rattle.answers.proofs.explaining.CodeFieldsPrint.put.Goals as goal

pub returns-in-Some : goal.returns-in-Some
returns-in-Some g c =
    let held = g.W.Write.contents in
    let self = c.args.self.now in
    let x = frames_view self.frames.now in
    let body = code_view c.in-Some.body.now in
    let text : Option ℕ → List ℕ = λ (place : Option ℕ).
    fields_then (size_fields body) (fields_then (instruction_fields (code_result body.code) self.at)
    (fields_then (named_fields_at self.pool.now (code_result body.code) self.at)
    (frame_fields_for x (fields_then (detail_fields_of x.detail) (fields_behind (entry_fields self.pool.now body place)))))) in
    let there : Some body ≡ code_of (map attribute_view self.member.now.attributes.items) =
    sym (ap (option_map (λ b. code_view b.now)) c.in-Some.is) ∙ c.code.ensures in
    subst (λ o. Writes (held c.args.out.now) (held c.put-in-Some.new.out) (code_fields self.pool.now o self.at x) c.put-in-Some.result) there
    (subst (λ place. Writes (held c.args.out.now) (held c.put-in-Some.new.out) (text place) c.put-in-Some.result) c.entry_of-place.ensures c.put-in-Some.ensures)
