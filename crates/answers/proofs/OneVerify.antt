-- The answer of `verify` is one.
use Rattle.std.proofs.Common.{◌≡◌, ℕ, zero, suc, ◌+◌, ◌<◌, List, [], ◌∷◌, ◌++◌, length, map, Option, Some, None, Ok, Err, refl, sym, ◌∙◌, ap, subst, inl, inr, arith}
use Rattle.std.specs.Prelude.{◌⊎◌, ◌||◌, Bool, true, false, if◌then◌else◌, slice_get, codes, decimal}
use Rattle.std.specs.List.{flat_map, list_any}
use Rattle.std.proofs.lemmas.Bool.{cases_order}
use Rattle.std.proofs.lemmas.Option.{none-some}
use Rattle.pool.specs.Entries.{Entry}
use Rattle.classfile.specs.Values.{CodeBody, Member, Class}
use Rattle.classfile.specs.Methods.{JudgedClass, code_of}
use Rattle.classfile.specs.CodeMethods.{judged}
use Rattle.classfile.specs.declared.profile.Profile.{Profile}
use Rattle.hierarchy.specs.declared.fault.HierarchyFault.{HierarchyFault}
use Rattle.hierarchy.specs.declared.fault.HierarchyFault.TheVariants.{OutOfMemory}
use Rattle.hierarchy.specs.Class.{ClassFact}
use Rattle.hierarchy.specs.ClassSummary.{summary_of}
use Rattle.hierarchy.specs.Faults.{number_of, fault_class}
use Rattle.frames.specs.Conditions.{Reason as Refusing, reason, class_missing, with_fault}
use Rattle.rules.specs.declared.reason.Reason.{Reason}
use Rattle.rules.specs.declared.reason.Reason.TheVariants as reasons
use Rattle.rules.specs.Reasons.{reason_number, reason_view}
use Rattle.verify.specs.declared.verdict.Verdict.{Verdict}
use Rattle.verify.specs.declared.verdict.Verdict.TheVariants.{Verified, NoCode, Refused}
use Rattle.verify.specs.declared.report.MethodVerdict.{MethodVerdict}
use Rattle.verify.specs.OneVerdict.{AreSameVerdict, IsSameLine, IsSameReport}
use Rattle.verify.specs.declared.frames_at.FramesAt.{FramesAt}
use Rattle.verify.specs.Coming.{FramesFact, frames_view}
use Rattle.printing.specs.Faults.{at_text}
use Rattle.printing.specs.Names.{name_text, spelled_text}
use Rattle.printing.specs.Json.{Field, word, number, name, spelled, fields_then, fields_behind, object_then, object_line}
use Rattle.answers.specs.Texts.{kind, answer}
use Rattle.answers.specs.declared.command.Form.{Form}
use Rattle.answers.specs.declared.command.Form.TheVariants.{Plain, Json}
use Rattle.answers.specs.declared.manner.Manner.{Manner}
use Rattle.answers.specs.declared.manner.Manner.TheVariants.{Told, Explained}
use Rattle.printing.specs.ClassParts.{part_lines, attribute_line, part_fields, attribute_fields}
use Rattle.answers.specs.Sentences.{sentence, fault_sentence, sentence_line, fault_line, reason_lines, sentence_fields, reason_sentence_fields, file_sentence_line, file_sentence_fields}
use Rattle.answers.specs.Explanations.{code_part, code_fields, explanation, explanation_object, explanations}
use Rattle.verify.specs.declared.files.FileFault.{FileFault}
use Rattle.verify.specs.declared.files.FileFault.TheVariants as files
use Rattle.verify.specs.declared.files.FileFault.TheVariants.{Malformed}
use Rattle.verify.specs.Files.{Read, IsDecoded, IsFormed, IsRefused, AreFormed, IsFirstRefused}
use Rattle.answers.specs.Files.{File, reads_of, refusal_status}
use Rattle.answers.specs.Verdicts.{class_object, class_refusal, known_object, known_refusal, explained, verdict_object, IsPart, ArePartFields, IsTold, final_told, hierarchy_told, IsReportTold, fault_name, named_field, name_fields, hierarchy_refusal, reason_ending, reason_fields, verdict_text, verdict_fields, verdict_line, is_refusal, ClassSays, HierarchySays, KnownSays, VerifySays}
use Rattle.answers.proofs.OneFile.{Laws, one_formed, not_refused, one_refusal}

pub some_same : {A : Type 0} (a b : A) → Some a ≡ Some b → a ≡ b
some_same a b e = cc

pub not_some : {A : Type 0} (a : A) → None ≡ Some a → ⊥
not_some a e = cc

-- ---- of hierarchies

abbrev name_behind : Option (List ℕ) → List ℕ
name_behind None = []
name_behind (Some name) = codes " " ++ spelled_text name

by_name : (f : HierarchyFault) → fault_name f ≡ name_behind (fault_class f)
by_name OutOfMemory = refl
by_name _ = refl

abbrev field_of : Option (List ℕ) → List Field
field_of None = []
field_of (Some name) = named_field name

field_by_name : (f : HierarchyFault) → name_fields f ≡ field_of (fault_class f)
field_by_name OutOfMemory = refl
field_by_name _ = refl

abbrev object_of : ℕ → List Field → List ℕ
object_of n fields = object_line (kind (codes "hierarchy") ∷ answer (codes "refused") ∷ (codes "number", number n) ∷ fields)

pub same_refusal : (form : Form) (f g : HierarchyFault) → number_of f ≡ number_of g → fault_class f ≡ fault_class g → hierarchy_refusal form f ≡ hierarchy_refusal form g
same_refusal Plain f g told class =
    let name : fault_name f ≡ fault_name g = by_name f ∙ ap name_behind class ∙ sym (by_name g) in
    ap (λ n. codes "hierarchy refused " ++ (decimal n ++ (fault_name f ++ codes "\n"))) told
    ∙ ap (λ n. codes "hierarchy refused " ++ (decimal (number_of g) ++ (n ++ codes "\n"))) name
same_refusal Json f g told class =
    let fields : name_fields f ≡ name_fields g = field_by_name f ∙ ap field_of class ∙ sym (field_by_name g) in
    ap (λ n. object_of n (name_fields f)) told ∙ ap (object_of (number_of g)) fields

abbrev explained_object_of : ℕ → List Field → List ℕ
explained_object_of n fields =
    object_then (kind (codes "hierarchy")) (answer (codes "refused") ∷ (codes "number", number n) ∷ fields) (fields_behind (sentence_fields n))

same_told : (manner : Manner) (f g : HierarchyFault) → number_of f ≡ number_of g → fault_class f ≡ fault_class g → hierarchy_told manner f ≡ hierarchy_told manner g
same_told (Told form) f g told class = same_refusal form f g told class
same_told (Explained Plain) f g told class =
    ap (λ l. l ++ sentence_line (number_of f)) (same_refusal Plain f g told class) ∙ ap (λ n. hierarchy_refusal Plain g ++ sentence_line n) told
same_told (Explained Json) f g told class =
    let fields : name_fields f ≡ name_fields g = field_by_name f ∙ ap field_of class ∙ sym (field_by_name g) in
    ap (λ n. explained_object_of n (name_fields f)) told ∙ ap (explained_object_of (number_of g)) fields

-- ---- of verdicts

abbrev ending_of : Refusing → List ℕ
ending_of (reason n) = []
ending_of (class_missing name) = codes " missing " ++ spelled_text name
ending_of (with_fault n fault) = codes " fault " ++ decimal fault

by_view : (why : Reason) → reason_ending why ≡ ending_of (reason_view why)
by_view reasons.OutOfMemory = refl
by_view _ = refl

same_ending : (why other : Reason) → reason_view why ≡ reason_view other → reason_ending why ≡ reason_ending other
same_ending why other e = by_view why ∙ ap ending_of e ∙ sym (by_view other)

abbrev fields_of : Refusing → List Field
fields_of (reason n) = []
fields_of (class_missing name) = (codes "missing", spelled name) ∷ []
fields_of (with_fault n fault) = (codes "fault", number fault) ∷ []

fields_by_view : (why : Reason) → reason_fields why ≡ fields_of (reason_view why)
fields_by_view reasons.OutOfMemory = refl
fields_by_view _ = refl

same_fields : (why other : Reason) → reason_view why ≡ reason_view other → reason_fields why ≡ reason_fields other
same_fields why other e = fields_by_view why ∙ ap fields_of e ∙ sym (fields_by_view other)

-- two verdicts that say the same
record SameTexts (v w : Verdict) : Type 0 where
  text : verdict_text v ≡ verdict_text w
  fields : verdict_fields v ≡ verdict_fields w
  refusal : is_refusal v ≡ is_refusal w

abbrev refusal_fields_of : ℕ → ℕ → List Field → List Field
refusal_fields_of n at ending = answer (codes "refused") ∷ (codes "number", number n) ∷ (codes "at", number at) ∷ ending

same_verdict : (v w : Verdict) → AreSameVerdict v w → SameTexts v w
same_verdict Verified Verified e = record { text = refl; fields = refl; refusal = refl }
same_verdict NoCode NoCode e = record { text = refl; fields = refl; refusal = refl }
same_verdict (Refused at why) (Refused there other) e = record {
  text =
      ap (λ n. codes " refused " ++ (decimal n ++ (at_text at ++ reason_ending why))) e.1
      ∙ ap (λ a. codes " refused " ++ (decimal (reason_number other) ++ (at_text a ++ reason_ending why))) e.0
      ∙ ap (λ x. codes " refused " ++ (decimal (reason_number other) ++ (at_text there ++ x))) (same_ending why other e.2);
  fields =
      ap (λ n. refusal_fields_of n at (reason_fields why)) e.1
      ∙ ap (λ a. refusal_fields_of (reason_number other) a (reason_fields why)) e.0
      ∙ ap (refusal_fields_of (reason_number other) there) (same_fields why other e.2);
  refusal = refl;
}
same_verdict _ _ e = absurd e

abbrev line_of : List ℕ → List ℕ → List ℕ → List ℕ
line_of name descriptor verdict =
    codes "method " ++ (name_text name ++ (codes " " ++ (name_text descriptor ++ (verdict ++ codes "\n"))))

abbrev object_line_of : List ℕ → List ℕ → List Field → List ℕ
object_line_of called descriptor verdict =
    object_line (kind (codes "method") ∷ (codes "name", name called) ∷ (codes "descriptor", name descriptor) ∷ verdict)

pub same_line : (form : Form) (r q : MethodVerdict) → IsSameLine r q → verdict_line form r ≡ verdict_line form q
same_line Plain r q e =
    ap (λ n. line_of n r.descriptor.bytes.now (verdict_text r.verdict)) e.name
    ∙ ap (λ d. line_of q.name.bytes.now d (verdict_text r.verdict)) e.descriptor
    ∙ ap (line_of q.name.bytes.now q.descriptor.bytes.now) (same_verdict r.verdict q.verdict e.verdict).text
same_line Json r q e =
    ap (λ n. object_line_of n r.descriptor.bytes.now (verdict_fields r.verdict)) e.name
    ∙ ap (λ d. object_line_of q.name.bytes.now d (verdict_fields r.verdict)) e.descriptor
    ∙ ap (object_line_of q.name.bytes.now q.descriptor.bytes.now) (same_verdict r.verdict q.verdict e.verdict).fields

-- ---- of explanations

abbrev lines_of : Refusing → List ℕ
lines_of (reason n) = sentence_line n ++ []
lines_of (class_missing name) = sentence_line 77 ++ []
lines_of (with_fault n fault) = sentence_line n ++ fault_line fault

lines_by_view : (why : Reason) → reason_lines why ≡ lines_of (reason_view why)
lines_by_view reasons.OutOfMemory = refl
lines_by_view _ = refl

abbrev sentences_of : Refusing → List Field
sentences_of (reason n) = sentence_fields n
sentences_of (class_missing name) = sentence_fields 77
sentences_of (with_fault n fault) = (codes "sentence", word (sentence n)) ∷ (codes "fault_sentence", word (fault_sentence fault)) ∷ []

sentences_by_view : (why : Reason) → reason_sentence_fields why ≡ sentences_of (reason_view why)
sentences_by_view reasons.OutOfMemory = refl
sentences_by_view _ = refl

same_explanation : (pool : List Entry) (body : Option CodeBody) (line : List ℕ) (v w : Verdict) (x : FramesFact) → AreSameVerdict v w
    → explanation pool body line v x ≡ explanation pool body line w x
same_explanation pool body line Verified Verified x e = refl
same_explanation pool body line NoCode NoCode x e = refl
same_explanation pool body line (Refused at why) (Refused there other) x e =
    let lines : reason_lines why ≡ reason_lines other = lines_by_view why ∙ ap lines_of e.2 ∙ sym (lines_by_view other) in
    ap (λ z. line ++ (z ++ code_part (reason_number why) pool body at x)) lines
    ∙ ap (λ n. line ++ (reason_lines other ++ code_part n pool body at x)) e.1
    ∙ ap (λ a. line ++ (reason_lines other ++ code_part (reason_number other) pool body a x)) e.0
same_explanation pool body line _ _ x e = absurd e

same_object : (pool : List Entry) (body : Option CodeBody) (begun : List ℕ → List ℕ) (v w : Verdict) (x : FramesFact) → AreSameVerdict v w
    → explanation_object pool body begun v x ≡ explanation_object pool body begun w x
same_object pool body begun Verified Verified x e = refl
same_object pool body begun NoCode NoCode x e = refl
same_object pool body begun (Refused at why) (Refused there other) x e =
    let fields : reason_sentence_fields why ≡ reason_sentence_fields other = sentences_by_view why ∙ ap sentences_of e.2 ∙ sym (sentences_by_view other) in
    ap (λ z. begun (fields_then z (code_fields pool body at x))) fields
    ∙ ap (λ a. begun (fields_then (reason_sentence_fields other) (code_fields pool body a x))) e.0
same_object pool body begun _ _ x e = absurd e

abbrev begun_of : List ℕ → List ℕ → List Field → List ℕ → List ℕ
begun_of called descriptor verdict rest =
    object_then (kind (codes "method")) ((codes "name", name called) ∷ (codes "descriptor", name descriptor) ∷ verdict) rest

-- the explanations of methods whose lines and frames are the same
same_said : (form : Form) (pool : List Entry) (body : Option CodeBody) (r q : MethodVerdict) (x y : FramesFact) → IsSameLine r q → x ≡ y
    → explained form pool r body x ≡ explained form pool q body y
same_said Plain pool body r q x y here e =
    ap (λ l. explanation pool body l r.verdict x) (same_line Plain r q here)
    ∙ same_explanation pool body (verdict_line Plain q) r.verdict q.verdict x here.verdict
    ∙ ap (explanation pool body (verdict_line Plain q) q.verdict) e
same_said Json pool body r q x y here e =
    let by : (List ℕ → List ℕ) → List ℕ = λ (begun : List ℕ → List ℕ). explanation_object pool body begun r.verdict x in
    ap (λ n. by (begun_of n r.descriptor.bytes.now (verdict_fields r.verdict))) here.name
    ∙ ap (λ d. by (begun_of q.name.bytes.now d (verdict_fields r.verdict))) here.descriptor
    ∙ ap (λ fs. by (begun_of q.name.bytes.now q.descriptor.bytes.now fs)) (same_verdict r.verdict q.verdict here.verdict).fields
    ∙ same_object pool body (verdict_object q) r.verdict q.verdict x here.verdict
    ∙ ap (explanation_object pool body (verdict_object q) q.verdict) e

abbrev has_refusal : List MethodVerdict → Bool
has_refusal rs = list_any (λ r. is_refusal r.verdict) rs

same_lines : (form : Form) (rs qs : List MethodVerdict) → length rs ≡ length qs
    → ((number : ℕ) (r q : MethodVerdict) → slice_get rs number ≡ Some r → slice_get qs number ≡ Some q → IsSameLine r q)
    → (flat_map (verdict_line form) rs ≡ flat_map (verdict_line form) qs) × (has_refusal rs ≡ has_refusal qs)
same_lines form [] [] e each = (refl, refl)
same_lines form [] (q ∷ qs) e each = absurd (omega (arith, e))
same_lines form (r ∷ rs) [] e each = absurd (omega (arith, e))
same_lines form (r ∷ rs) (q ∷ qs) e each =
    let here = each zero r q refl refl in
    let rest = same_lines form rs qs (omega (arith, e)) (λ n. each (suc n)) in (
      ap (λ x. x ++ flat_map (verdict_line form) rs) (same_line form r q here) ∙ ap (λ x. verdict_line form q ++ x) rest.0,
      ap (λ x. x || has_refusal rs) (same_verdict r.verdict q.verdict here.verdict).refusal ∙ ap (λ x. is_refusal q.verdict || x) rest.1,
    )

same_explanations : (form : Form) (pool : List Entry) (ms : List Member) (rs qs : List MethodVerdict) (xs ys : List FramesAt) → length rs ≡ length qs
    → ((number : ℕ) (r q : MethodVerdict) → slice_get rs number ≡ Some r → slice_get qs number ≡ Some q → IsSameLine r q)
    → length xs ≡ length ys
    → ((number : ℕ) (x y : FramesAt) → slice_get xs number ≡ Some x → slice_get ys number ≡ Some y → frames_view x ≡ frames_view y)
    → explanations (explained form pool) ms rs xs ≡ explanations (explained form pool) ms qs ys
same_explanations form pool [] rs qs xs ys e each f all = refl
same_explanations form pool (m ∷ ms) [] [] xs ys e each f all = refl
same_explanations form pool (m ∷ ms) [] (q ∷ qs) xs ys e each f all = absurd (omega (arith, e))
same_explanations form pool (m ∷ ms) (r ∷ rs) [] xs ys e each f all = absurd (omega (arith, e))
same_explanations form pool (m ∷ ms) (r ∷ rs) (q ∷ qs) [] [] e each f all = refl
same_explanations form pool (m ∷ ms) (r ∷ rs) (q ∷ qs) [] (y ∷ ys) e each f all = absurd (omega (arith, f))
same_explanations form pool (m ∷ ms) (r ∷ rs) (q ∷ qs) (x ∷ xs) [] e each f all = absurd (omega (arith, f))
same_explanations form pool (m ∷ ms) (r ∷ rs) (q ∷ qs) (x ∷ xs) (y ∷ ys) e each f all =
    let here = each zero r q refl refl in
    let body = code_of m.attributes in
    let one = same_said form pool body r q (frames_view x) (frames_view y) here (all zero x y refl refl) in
    ap (λ z. z ++ explanations (explained form pool) ms rs xs) one
    ∙ ap (λ z. explained form pool q body (frames_view y) ++ z)
    (same_explanations form pool ms rs qs xs ys (omega (arith, e)) (λ n. each (suc n)) (omega (arith, f)) (λ n. all (suc n)))

module _ (laws : Laws) where
  -- ---- of files

  pub one_list : (reads : List Read) (cs ds : List Class) → AreFormed reads cs → AreFormed reads ds → cs ≡ ds
  one_list [] [] [] p q = refl
  one_list [] [] (d ∷ ds) p q = absurd q
  one_list [] (c ∷ cs) ds p q = absurd p
  one_list (r ∷ reads) [] ds p q = absurd p
  one_list (r ∷ reads) (c ∷ cs) [] p q = absurd q
  one_list (r ∷ reads) (c ∷ cs) (d ∷ ds) p q =
      ap (λ x. x ∷ cs) (one_formed laws r c d p.0 q.0) ∙ ap (λ x. d ∷ x) (one_list reads cs ds p.1 q.1)

  pub one_first : (reads : List Read) (i j : ℕ) (r s : FileFault) → IsFirstRefused reads i r → IsFirstRefused reads j s → (i ≡ j) × (r ≡ s)
  one_first reads i j r s p q = by (cases_order i j)
    where
      by : (i ≡ j) ⊎ ((i < j) ⊎ (j < i)) → (i ≡ j) × (r ≡ s)
      by (inl e) =
          let read : p.read ≡ q.read = some_same p.read q.read (sym p.here ∙ ap (slice_get reads) e ∙ q.here) in
          (e, one_refusal laws q.read r s (subst (λ x. IsRefused x r) read p.refused) q.refused)
      by (inr (inl lt)) = let formed = q.earlier i lt p.read p.here in absurd (not_refused laws p.read formed.0 r formed.1 p.refused)
      by (inr (inr lt)) = let formed = p.earlier j lt q.read q.here in absurd (not_refused laws q.read formed.0 s formed.1 q.refused)

  formed_at : (reads : List Read) (cs : List Class) (i : ℕ) (read : Read) → AreFormed reads cs → slice_get reads i ≡ Some read
      → (c : Class) × IsFormed read c
  formed_at [] cs i read all e = absurd (none-some read e)
  formed_at (r ∷ reads) [] i read all e = absurd all
  formed_at (r ∷ reads) (c ∷ cs) zero read all e = (c, subst (λ x. IsFormed x c) (some_same r read e) all.0)
  formed_at (r ∷ reads) (c ∷ cs) (suc i) read all e = formed_at reads cs i read all.1 e

  pub none_refused : (reads : List Read) (cs : List Class) (i : ℕ) (r : FileFault) → AreFormed reads cs → IsFirstRefused reads i r → ⊥
  none_refused reads cs i r all first =
      let formed = formed_at reads cs i first.read all first.here in
      not_refused laws first.read formed.0 r formed.1 first.refused

  -- ---- files that are refused

  one_decoded : (read : Read) (c d : Class) → IsDecoded read c → IsDecoded read d → c ≡ d
  one_decoded (Ok file) c d p q = laws.one_class file.versions file.bytes c d p q
  one_decoded (Err fault) c d p q = absurd p

  one_part : (file : File) (r : FileFault) (text other : List ℕ) → IsPart file r text → IsPart file r other → text ≡ other
  one_part file (Malformed rule place) text other (c, p, e) (d, q, f) =
      e ∙ ap (λ (x : Class). part_lines x place ++ attribute_line x rule place) (one_decoded file.read c d p q) ∙ sym f
  one_part file files.OutOfMemory text other p q = p ∙ sym q
  one_part file (files.Unread fault) text other p q = p ∙ sym q
  one_part file (files.NoClass fault) text other p q = p ∙ sym q

  one_part_fields : (file : File) (r : FileFault) (fields other : List Field) → ArePartFields file r fields → ArePartFields file r other → fields ≡ other
  one_part_fields file (Malformed rule place) fields other (c, p, e) (d, q, f) =
      e ∙ ap (λ (x : Class). part_fields x place ++ attribute_fields x rule place) (one_decoded file.read c d p q) ∙ sym f
  one_part_fields file files.OutOfMemory fields other p q = p ∙ sym q
  one_part_fields file (files.Unread fault) fields other p q = p ∙ sym q
  one_part_fields file (files.NoClass fault) fields other p q = p ∙ sym q

  one_told : (manner : Manner) (file : File) (r : FileFault) (line : Form → List ℕ) (object : List ℕ → List ℕ) (text other : List ℕ)
      → IsTold manner file r line object text → IsTold manner file r line object other → text ≡ other
  one_told (Told form) file r line object text other p q = p ∙ sym q
  one_told (Explained Json) file r line object text other (a, p, e) (b, q, f) =
      e ∙ ap (λ x. object (fields_then (file_sentence_fields file.versions r) (fields_behind x))) (one_part_fields file r a b p q) ∙ sym f
  one_told (Explained Plain) file r line object text other (a, p, e) (b, q, f) =
      e ∙ ap (λ x. line Plain ++ (file_sentence_line file.versions r ++ x)) (one_part file r a b p q) ∙ sym f

  -- refusals of one file are the same
  same_known : (manner : Manner) (known : List File) (i j : ℕ) (r s : FileFault) (f g : File) (text other : List ℕ) → (i ≡ j) × (r ≡ s)
      → slice_get known i ≡ Some f → slice_get known j ≡ Some g
      → IsTold manner f r (λ form. known_refusal form (i + 1) r) (known_object (i + 1) r) text → IsTold manner g s (λ form. known_refusal form (j + 1) s) (known_object (j + 1) s) other → text ≡ other
  same_known manner known i j r s f g text other same here there t u =
      let file : f ≡ g = some_same f g (sym here ∙ ap (slice_get known) same.0 ∙ there) in
      let first : IsTold manner g r (λ form. known_refusal form (i + 1) r) (known_object (i + 1) r) text = subst (λ x. IsTold manner x r (λ form. known_refusal form (i + 1) r) (known_object (i + 1) r) text) file t in
      let second : IsTold manner g s (λ form. known_refusal form (i + 1) s) (known_object (i + 1) s) text = subst (λ x. IsTold manner g x (λ form. known_refusal form (i + 1) x) (known_object (i + 1) x) text) same.1 first in
      one_told manner g s (λ form. known_refusal form (j + 1) s) (known_object (j + 1) s) text other
      (subst (λ n. IsTold manner g s (λ form. known_refusal form (n + 1) s) (known_object (n + 1) s) text) same.0 second) u

  -- ---- what is said

  same_report : (manner : Manner) (classes : List ClassFact) (c : JudgedClass) (rs qs : List MethodVerdict) (text other : List ℕ) → IsSameReport rs qs
      → IsReportTold manner classes c rs text → IsReportTold manner classes c qs other → text ≡ other
  same_report (Told form) classes c rs qs text other same p q = p ∙ (same_lines form rs qs same.all same.each).0 ∙ sym q
  same_report (Explained form) classes c rs qs text other same (xs, p, t) (ys, q, u) =
      let frames = laws.one_frames classes c rs qs xs ys same p q in
      t ∙ same_explanations form c.file.constant_pool c.file.methods rs qs xs ys same.all same.each frames.all frames.each ∙ sym u

  pub one_class : (manner : Manner) (classes : List ClassFact) (c : JudgedClass) (text other : List ℕ) (status next : ℕ)
      → ClassSays manner classes c text status → ClassSays manner classes c other next → (text ≡ other) × (status ≡ next)
  one_class manner classes c text other status next (inl (r, f, t, s)) (inl (o, g, u, v)) =
      (t ∙ ap (final_told manner c.file) (some_same r o (sym f ∙ g)) ∙ sym u, s ∙ sym v)
  one_class manner classes c text other status next (inl (r, f, t, s)) (inr (g, q)) = absurd (not_some r (sym g ∙ f))
  one_class manner classes c text other status next (inr (f, p)) (inl (r, g, u, v)) = absurd (not_some r (sym f ∙ g))
  one_class manner classes c text other status next (inr (f, (rs, p, t, s))) (inr (g, (qs, q, u, v))) =
      let report = laws.one_report classes c rs qs p q in
      (same_report manner classes c rs qs text other report t u, s ∙ ap (λ b. if b then 1 else 0) (same_lines Plain rs qs report.all report.each).1 ∙ sym v)

  one_judged : (manner : Manner) (classes : List ClassFact) (c : JudgedClass) (text other : List ℕ) (status next : ℕ)
      → HierarchySays manner classes c text status → HierarchySays manner classes c other next → (text ≡ other) × (status ≡ next)
  one_judged manner classes c text other status next (inl (f, m, p, t, s)) (inl (g, n, q, u, v)) =
      let same = laws.one_hierarchy_fault classes f g m n p q in
      (t ∙ same_told manner f g same.0 same.1 ∙ sym u, s ∙ sym v)
  one_judged manner classes c text other status next (inl (f, m, p, t, s)) (inr (h, q)) = absurd (laws.not_hierarchy classes f m p h)
  one_judged manner classes c text other status next (inr (h, p)) (inl (g, n, q, u, v)) = absurd (laws.not_hierarchy classes g n q h)
  one_judged manner classes c text other status next (inr (h, p)) (inr (k, q)) = one_class manner classes c text other status next p q

  one_known : (manner : Manner) (c : JudgedClass) (known : List File) (text other : List ℕ) (status next : ℕ)
      → KnownSays manner c known text status → KnownSays manner c known other next → (text ≡ other) × (status ≡ next)
  one_known manner c known text other status next (inl (i, r, p, f, here, t, s)) (inl (j, o, q, g, there, u, v)) =
      let same = one_first (reads_of known) i j r o p q in
      (same_known manner known i j r o f g text other same here there t u, s ∙ ap refusal_status same.1 ∙ sym v)
  one_known manner c known text other status next (inl (i, r, p, f, here, t, s)) (inr (ds, q, k)) = absurd (none_refused (reads_of known) ds i r q p)
  one_known manner c known text other status next (inr (cs, p, h)) (inl (j, o, q, g, there, u, v)) = absurd (none_refused (reads_of known) cs j o p q)
  one_known manner c known text other status next (inr (cs, p, h)) (inr (ds, q, k)) =
      one_judged manner (map summary_of (c.file ∷ ds)) c text other status next
      (subst (λ x. HierarchySays manner (map summary_of (c.file ∷ x)) c text status) (one_list (reads_of known) cs ds p q) h) k

  pub one_verify : (manner : Manner) (profile : Profile) (file : File) (known : List File) (text other : List ℕ) (status next : ℕ)
      → VerifySays manner profile file known text status → VerifySays manner profile file known other next → (text ≡ other) × (status ≡ next)
  one_verify manner profile file known text other status next (inl (r, p, t, s)) (inl (o, q, u, v)) =
      let same = one_refusal laws file.read r o p q in (
        one_told manner file o (λ form. class_refusal form o) (class_object o) text other (subst (λ x. IsTold manner file x (λ form. class_refusal form x) (class_object x) text) same t) u,
        s ∙ ap refusal_status same ∙ sym v,
      )
  one_verify manner profile file known text other status next (inl (r, p, t, s)) (inr (d, q, l)) = absurd (not_refused laws file.read d r q p)
  one_verify manner profile file known text other status next (inr (c, p, k)) (inl (o, q, u, v)) = absurd (not_refused laws file.read c o p q)
  one_verify manner profile file known text other status next (inr (c, p, k)) (inr (d, q, l)) =
      one_known manner (judged profile c) known text other status next k (subst (λ x. KnownSays manner (judged profile x) known other next) (one_formed laws file.read d c q p) l)
