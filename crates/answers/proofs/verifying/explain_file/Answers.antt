use Rattle.std.proofs.Common.{◌≡◌, ◌⊎◌, ◌∙◌, ℕ, List, [], ◌++◌, Option, refl, sym, ap, subst, inl, inr}
use Rattle.std.specs.Option.{option_map_or}
use Rattle.layout.specs.declared.fault.ReadFault.{ReadFault}
use Rattle.classfile.specs.FileParts.{fault_part}
use Rattle.classfile.specs.declared.file_parts.FilePart.{FilePart}
use Rattle.classfile.specs.Views.{class_view}
use Rattle.printing.specs.ClassParts.{part_lines, attribute_line}
use Rattle.printing.specs.FileParts.{file_part_lines}
use Rattle.verify.specs.declared.files.FileFault.{FileFault}
use Rattle.verify.specs.declared.files.FileFault.TheVariants.{NoClass, Unread}
use Rattle.answers.specs.Files.{File, file_view, refusal_status}
use Rattle.answers.specs.Sentences.{file_sentence_line}
use Rattle.answers.specs.Verdicts.{IsPart, IsExplained}
use Rattle.answers.proofs.Tellings.{answered_more}
use Rattle.answers.proofs.verifying.explain_file.Goals as goal

-- a fault of the bytes of a file
of_bytes : (file : File) (fault : FileFault) (why : ReadFault) → (fault ≡ Unread why) ⊎ (fault ≡ NoClass why)
    → IsPart file fault (option_map_or file_part_lines (fault_part file.held why) [])
of_bytes file fault why (inl is) = subst (λ (f : FileFault). IsPart file f (option_map_or file_part_lines (fault_part file.held why) [])) (sym is) refl
of_bytes file fault why (inr is) = subst (λ (f : FileFault). IsPart file f (option_map_or file_part_lines (fault_part file.held why) [])) (sym is) refl

pub returns-in-Ok : goal.returns-in-Ok
returns-in-Ok g c =
    let held = g.W.Write.contents in
    let line = g.T.Print.text c.args.line in
    let file = file_view c.args.file in
    let fault = c.args.fault in
    let class = class_view c.in-Ok.class in
    let part = part_lines class c.in-Malformed.place ++ attribute_line class c.in-Malformed.rule c.in-Malformed.place in
    let there : IsPart file fault part = subst (λ (f : FileFault). IsPart file f part) (sym c.in-Malformed.is) (class, c.in-Ok.ensures.class, refl) in
    answered_more (λ t s. (t ≡ line ++ (file_sentence_line file.versions fault ++ part)) × (s ≡ 1)) (λ t s. IsExplained file fault line t × (s ≡ refusal_status fault))
    (λ text status p. ((part, there, p.0), p.1 ∙ ap refusal_status (sym c.in-Malformed.is)))
    (held c.args.out.now) (held c.tell.new.out) c.tell.result c.tell.ensures

pub returns-in-Unread : goal.returns-in-Unread
returns-in-Unread g c =
    let held = g.W.Write.contents in
    let line = g.T.Print.text c.args.line in
    let file = file_view c.args.file in
    let fault = c.args.fault in
    let why = c.in-Unread.why in
    let part = option_map_or file_part_lines c.fault_part.result [] in
    let same : c.fault_part.result ≡ fault_part file.held why = c.fault_part.ensures ∙ ap (λ (bytes : List ℕ). fault_part bytes why) c.held.ensures in
    let there : IsPart file fault part = subst (λ (p : Option FilePart). IsPart file fault (option_map_or file_part_lines p [])) (sym same) (of_bytes file fault why c.in-Unread.is) in
    answered_more (λ t s. (t ≡ line ++ (file_sentence_line file.versions fault ++ part)) × (s ≡ c.status.result)) (λ t s. IsExplained file fault line t × (s ≡ refusal_status fault))
    (λ text status p. ((part, there, p.0), p.1 ∙ c.status.ensures ∙ ap refusal_status c.in-Unread.fault-is))
    (held c.args.out.now) (held c.tell-in-Unread.new.out) c.tell-in-Unread.result c.tell-in-Unread.ensures
