-- The answer of `verify-each` is one.
use Rattle.std.proofs.Common.{◌≡◌, ℕ, ◌+◌, List, [], ◌∷◌, ◌++◌, Ok, Err, Result, refl, sym, ◌∙◌, ap, subst, inl, inr}
use Rattle.std.specs.Prelude.{codes, decimal}
use Rattle.classfile.specs.Values.{Class}
use Rattle.classfile.specs.CodeMethods.{judged}
use Rattle.classfile.specs.Methods.{JudgedClass}
use Rattle.classfile.specs.declared.profile.Profile.{Profile}
use Rattle.hierarchy.specs.Class.{ClassFact}
use Rattle.hierarchy.specs.Faults.{FaultOf}
use Rattle.hierarchy.specs.Rules.{IsHierarchy}
use Rattle.hierarchy.specs.ClassSummary.{summary_of}
use Rattle.printing.specs.Names.{spelled_text}
use Rattle.verify.specs.declared.judgements.Judgement.{Judgement}
use Rattle.verify.specs.declared.judgements.Judgement.TheVariants.{Reported, Refused, NotInHierarchy, Final}
use Rattle.verify.specs.declared.report.Report.{Report}
use Rattle.verify.specs.declared.report.ClassFault.{ClassFault}
use Rattle.verify.specs.declared.report.ClassFault.TheVariants as classes
use Rattle.verify.specs.Files.{Read}
use Rattle.verify.specs.Reports.{Reports}
use Rattle.verify.specs.Standing.{standing}
use Rattle.verify.specs.Each.{with_class, AddsFile, AddsFiles, AreClasses, IsAnswered, IsJudged, AreJudged}
use Rattle.printing.specs.Json.{number, object_line}
use Rattle.answers.specs.declared.command.Form.{Form}
use Rattle.answers.specs.declared.command.Form.TheVariants.{Plain, Json}
use Rattle.answers.specs.declared.manner.Manner.TheVariants.{Told}
use Rattle.answers.specs.Files.{refusal_status}
use Rattle.answers.specs.Texts.{kind}
use Rattle.answers.specs.Verdicts.{class_refusal, final_refusal, named_field}
use Rattle.answers.specs.Judgements.{judgement_lines, class_text, class_fields, file_line, numbered_lines, lines_from, judgement_status, greater, worst_status, EachSays}
use Rattle.answers.proofs.OneFile.{Laws, one_formed, not_refused, one_refusal}
use Rattle.answers.proofs.OneVerify.{some_same, not_some, same_refusal, one_class}

-- they are written in one way
record IsSame (form : Form) (j k : Judgement) : Type 0 where
  lines : judgement_lines form j ≡ judgement_lines form k
  text : class_text j ≡ class_text k
  fields : class_fields j ≡ class_fields k
  status : judgement_status j ≡ judgement_status k

same_file : (form : Form) (n : ℕ) (j k : Judgement) → IsSame form j k → file_line form n j ≡ file_line form n k
same_file Plain n j k s = ap (λ x. codes "file " ++ (decimal n ++ (x ++ codes "\n"))) s.text
same_file Json n j k s = ap (λ x. object_line (kind (codes "file") ∷ (codes "position", number n) ∷ x)) s.fields

module _ (laws : Laws) where
  -- ---- the classes of files

  one_added : (read : Read) (old a b : List ClassFact) → AddsFile read old a → AddsFile read old b → a ≡ b
  one_added read old a b (inl (r, p, e)) (inl (s, q, f)) = e ∙ sym f
  one_added read old a b (inl (r, p, e)) (inr (d, q, f)) = absurd (not_refused laws read d r q p)
  one_added read old a b (inr (c, p, e)) (inl (s, q, f)) = absurd (not_refused laws read c s p q)
  one_added read old a b (inr (c, p, e)) (inr (d, q, f)) = e ∙ ap (λ x. with_class old (summary_of x)) (one_formed laws read c d p q) ∙ sym f

  all_added : (reads : List Read) (old a b : List ClassFact) → AddsFiles reads old a → AddsFiles reads old b → a ≡ b
  all_added [] old a b e f = e ∙ sym f
  all_added (read ∷ reads) old a b (s, p, q) (t, u, v) =
      all_added reads t a b (subst (λ k. AddsFiles reads k a) (one_added read old s t p u) q) v

  one_list : (reads known : List Read) (a b : List ClassFact) → AreClasses reads known a → AreClasses reads known b → a ≡ b
  one_list reads known a b (s, p, q) (t, u, v) = all_added known t a b (subst (λ k. AddsFiles known k a) (all_added reads [] s t p u) q) v

  -- ---- answers

  module _ (form : Form) (profile : Profile) (hierarchy : List ClassFact) (read : Read) where
    one_name : (name other : List ℕ) (answer next : Result Report ClassFault) → IsAnswered profile hierarchy read name answer → IsAnswered profile hierarchy read other next → name ≡ other
    one_name name other answer next (c, p, e, a) (d, q, f, b) = sym e ∙ ap (λ (x : Class). (summary_of x).name) (one_formed laws read c d p q) ∙ f

    not_both : (name other : List ℕ) (answer next : Result Report ClassFault) → ((c : JudgedClass) → Reports hierarchy c answer → Reports hierarchy c next → ⊥)
        → IsAnswered profile hierarchy read name answer → IsAnswered profile hierarchy read other next → ⊥
    not_both name other answer next never (c, p, e, a) (d, q, f, b) = never (judged profile c) a (subst (λ x. Reports hierarchy (judged profile x) next) (sym (one_formed laws read c d p q)) b)

    abbrev blank : List ℕ → List ℕ
    blank name = codes " " ++ spelled_text name

    same : (j k : Judgement) → IsJudged profile hierarchy read j → IsJudged profile hierarchy read k → IsSame form j k
    same (Refused r) (Refused s) p q =
        let e = one_refusal laws read r s p q in
        record { lines = ap (class_refusal form) e; text = refl; fields = refl; status = ap refusal_status e }
    same (Refused r) (NotInHierarchy b) p (d, q, f, t) = absurd (not_refused laws read d r q p)
    same (Refused r) (Final b s) p (d, q, f, t) = absurd (not_refused laws read d r q p)
    same (Refused r) (Reported b next) p (d, q, f, t) = absurd (not_refused laws read d r q p)
    same (NotInHierarchy a) (Refused s) (c, p, e, t) q = absurd (not_refused laws read c s p q)
    same (Final a r) (Refused s) (c, p, e, t) q = absurd (not_refused laws read c s p q)
    same (Reported a report) (Refused s) (c, p, e, t) q = absurd (not_refused laws read c s p q)
    same (NotInHierarchy a) (NotInHierarchy b) p q =
        let e = one_name a.now b.now (Err classes.NotInHierarchy) (Err classes.NotInHierarchy) p q in
        record { lines = refl; text = ap blank e; fields = ap named_field e; status = refl }
    same (NotInHierarchy a) (Final b s) p q = absurd (not_both a.now b.now (Err classes.NotInHierarchy) (Err (classes.Final s)) (λ c x y. x y.0) p q)
    same (NotInHierarchy a) (Reported b next) p q = absurd (not_both a.now b.now (Err classes.NotInHierarchy) (Ok next) (λ c x y. x y.1.listed) p q)
    same (Final a r) (NotInHierarchy b) p q = absurd (not_both a.now b.now (Err (classes.Final r)) (Err classes.NotInHierarchy) (λ c x y. y x.0) p q)
    same (Final a r) (Final b s) (c, p, e, t) (d, q, f, u) =
        let name = one_name a.now b.now (Err (classes.Final r)) (Err (classes.Final s)) (c, p, e, t) (d, q, f, u) in
        let v = subst (λ x. Reports hierarchy (judged profile x) (Err (classes.Final s))) (sym (one_formed laws read c d p q)) u in
        record { lines = ap (final_refusal form) (some_same r s (sym t.1 ∙ v.1)); text = ap blank name; fields = ap named_field name; status = refl }
    same (Final a r) (Reported b next) p q = absurd (not_both a.now b.now (Err (classes.Final r)) (Ok next) (λ c x y. not_some r (sym y.0 ∙ x.1)) p q)
    same (Reported a report) (NotInHierarchy b) p q = absurd (not_both a.now b.now (Ok report) (Err classes.NotInHierarchy) (λ c x y. y x.1.listed) p q)
    same (Reported a report) (Final b s) p q = absurd (not_both a.now b.now (Ok report) (Err (classes.Final s)) (λ c x y. not_some s (sym x.0 ∙ y.1)) p q)
    same (Reported a report) (Reported b next) (c, p, e, t) (d, q, f, u) =
        let v = subst (λ x. Reports hierarchy (judged profile x) (Ok next)) (sym (one_formed laws read c d p q)) u in
        let one = one_class laws (Told form) hierarchy (judged profile c) _ _ _ _ (inr (t.0, (report.methods.items, t.1, refl, refl))) (inr (v.0, (next.methods.items, v.1, refl, refl))) in
        let name = one_name a.now b.now (Ok report) (Ok next) (c, p, e, t) (d, q, f, u) in
        record { lines = one.0; text = ap blank name; fields = ap named_field name; status = one.1 }

  all_same : (form : Form) (profile : Profile) (hierarchy : List ClassFact) (reads : List Read) (n : ℕ) (js ks : List Judgement) → AreJudged profile hierarchy reads js
      → AreJudged profile hierarchy reads ks → (lines_from form n js ≡ lines_from form n ks) × (worst_status js ≡ worst_status ks)
  all_same form profile hierarchy [] n [] [] p q = (refl, refl)
  all_same form profile hierarchy [] n [] (k ∷ ks) p q = absurd q
  all_same form profile hierarchy [] n (j ∷ js) ks p q = absurd p
  all_same form profile hierarchy (read ∷ reads) n [] ks p q = absurd p
  all_same form profile hierarchy (read ∷ reads) n (j ∷ js) [] p q = absurd q
  all_same form profile hierarchy (read ∷ reads) n (j ∷ js) (k ∷ ks) p q =
      let here = same form profile hierarchy read j k p.0 q.0 in
      let rest = all_same form profile hierarchy reads (n + 1) js ks p.1 q.1 in (
        ap (λ x. (x ++ judgement_lines form j) ++ lines_from form (n + 1) js) (same_file form n j k here)
            ∙ ap (λ x. (file_line form n k ++ x) ++ lines_from form (n + 1) js) here.lines
            ∙ ap (λ x. numbered_lines form n k ++ x) rest.0,
        ap (λ s. greater s (worst_status js)) here.status ∙ ap (greater (judgement_status k)) rest.1,
      )

  -- ---- what is said

  pub one_each : (form : Form) (profile : Profile) (reads known : List Read) (text other : List ℕ) (status next : ℕ)
      → EachSays form profile reads known text status → EachSays form profile reads known other next → (text ≡ other) × (status ≡ next)
  one_each form profile reads known text other status next (inl (js, (a, p, h, is), t, s)) (inl (ks, (b, q, g, are), u, v)) =
      let e = one_list reads known a b p q in
      let one = all_same form profile (standing b) reads 1 js ks (subst (λ k. AreJudged profile (standing k) reads js) e is) are in
      (t ∙ one.0 ∙ sym u, s ∙ one.1 ∙ sym v)
  one_each form profile reads known text other status next (inl (js, (a, p, h, is), t, s)) (inr (f, (b, q, m, fault), u, v)) =
      absurd (laws.not_hierarchy (standing b) f m fault (subst (λ k. IsHierarchy (standing k)) (one_list reads known a b p q) h))
  one_each form profile reads known text other status next (inr (f, (a, p, m, fault), t, s)) (inl (ks, (b, q, g, are), u, v)) =
      absurd (laws.not_hierarchy (standing a) f m fault (subst (λ k. IsHierarchy (standing k)) (sym (one_list reads known a b p q)) g))
  one_each form profile reads known text other status next (inr (f, (a, p, m, fault), t, s)) (inr (g, (b, q, n, also), u, v)) =
      let one = laws.one_hierarchy_fault (standing b) f g m n (subst (λ k. FaultOf (standing k) f) (one_list reads known a b p q) fault) also in
      (t ∙ same_refusal form f g one.0 one.1 ∙ sym u, s ∙ sym v)
