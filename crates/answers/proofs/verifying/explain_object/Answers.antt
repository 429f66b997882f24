use Rattle.std.proofs.Common.{◌≡◌, ◌⊎◌, ◌∙◌, ℕ, List, [], ◌++◌, Option, Result, refl, sym, ap, subst, inl, inr}
use Rattle.std.specs.Option.{option_map_or}
use Rattle.layout.specs.declared.fault.ReadFault.{ReadFault}
use Rattle.classfile.specs.FileParts.{fault_part}
use Rattle.classfile.specs.declared.file_parts.FilePart.{FilePart}
use Rattle.classfile.specs.Views.{class_view}
use Rattle.printing.specs.Json.{Field, fields_then, fields_behind, object_end}
use Rattle.printing.specs.ClassParts.{part_fields, attribute_fields}
use Rattle.printing.specs.FileParts.{file_part_fields}
use Rattle.printing.proofs.Fields.{fields_of_both}
use Rattle.verify.specs.declared.files.FileFault.{FileFault}
use Rattle.verify.specs.declared.files.FileFault.TheVariants.{NoClass, Unread}
use Rattle.answers.specs.Answers.{Answered}
use Rattle.answers.specs.Files.{File, file_view, refusal_status}
use Rattle.answers.specs.Sentences.{file_sentence_fields}
use Rattle.answers.specs.Verdicts.{file_object, ArePartFields, IsExplainedObject}
use Rattle.answers.specs.declared.fault.AnswerFault.{AnswerFault}
use Rattle.answers.proofs.Tellings.{answered_more}
use Rattle.answers.proofs.verifying.explain_object.Goals as goal

-- an object with the part of a class that breaks a rule, and its attribute that does, where the fault is known to be
-- this one
explains : (file : File) (position : Option ℕ) (fault known : FileFault) (part attribute : List Field) → fault ≡ known → ArePartFields file known (part ++ attribute)
    → refusal_status known ≡ 1 → (old new : Option (List ℕ)) (r : Result ℕ AnswerFault)
    → Answered (λ t s. (t ≡ file_object position known (fields_then (file_sentence_fields file.versions known) (fields_then part (fields_then attribute object_end)))) × (s ≡ 1)) old new r
    → Answered (λ t s. IsExplainedObject file fault (file_object position fault) t × (s ≡ refusal_status fault)) old new r
explains file position fault known part attribute is there one old new r told =
    subst (λ (f : FileFault). Answered (λ t s. IsExplainedObject file f (file_object position f) t × (s ≡ refusal_status f)) old new r) (sym is)
    (answered_more (λ t s. (t ≡ file_object position known (fields_then (file_sentence_fields file.versions known) (fields_then part (fields_then attribute object_end)))) × (s ≡ 1))
    (λ t s. IsExplainedObject file known (file_object position known) t × (s ≡ refusal_status known))
    (λ text status p. ((part ++ attribute, there, p.0 ∙ ap (λ (l : List ℕ). file_object position known (fields_then (file_sentence_fields file.versions known) l)) (sym (fields_of_both part attribute object_end))), p.1 ∙ sym one))
    old new r told)

-- a fault of the bytes of a file
of_bytes : (file : File) (fault : FileFault) (why : ReadFault) → (fault ≡ Unread why) ⊎ (fault ≡ NoClass why)
    → ArePartFields file fault (option_map_or file_part_fields (fault_part file.held why) [])
of_bytes file fault why (inl is) = subst (λ (f : FileFault). ArePartFields file f (option_map_or file_part_fields (fault_part file.held why) [])) (sym is) refl
of_bytes file fault why (inr is) = subst (λ (f : FileFault). ArePartFields file f (option_map_or file_part_fields (fault_part file.held why) [])) (sym is) refl

pub returns-in-Ok : goal.returns-in-Ok
returns-in-Ok g c =
    let held = g.W.Write.contents in
    let class = class_view c.in-Ok.class in
    explains (file_view c.args.file) c.args.position c.args.fault _ (part_fields class c.in-Malformed.place) (attribute_fields class c.in-Malformed.rule c.in-Malformed.place) c.in-Malformed.is
    (class, c.in-Ok.ensures.class, refl) refl (held c.args.out.now) (held c.tell.new.out) c.tell.result c.tell.ensures

pub returns-in-Unread : goal.returns-in-Unread
returns-in-Unread g c =
    let held = g.W.Write.contents in
    let file = file_view c.args.file in
    let fault = c.args.fault in
    let why = c.in-Unread.why in
    let part = option_map_or file_part_fields c.fault_part.result [] in
    let same : c.fault_part.result ≡ fault_part file.held why = c.fault_part.ensures ∙ ap (λ (bytes : List ℕ). fault_part bytes why) c.held.ensures in
    let there : ArePartFields file fault part = subst (λ (p : Option FilePart). ArePartFields file fault (option_map_or file_part_fields p [])) (sym same) (of_bytes file fault why c.in-Unread.is) in
    let object : FileFault → List ℕ = λ f. file_object c.args.position f (fields_then (file_sentence_fields file.versions f) (fields_behind part)) in
    answered_more (λ t s. (t ≡ object c.in-Unread.fault) × (s ≡ c.status.result))
    (λ t s. IsExplainedObject file fault (file_object c.args.position fault) t × (s ≡ refusal_status fault))
    (λ text status p. ((part, there, p.0 ∙ ap object c.in-Unread.fault-is), p.1 ∙ c.status.ensures ∙ ap refusal_status c.in-Unread.fault-is))
    (held c.args.out.now) (held c.tell-in-Unread.new.out) c.tell-in-Unread.result c.tell-in-Unread.ensures
