-- The answer of `play` is one.
use Rattle.std.proofs.Common.{◌≡◌, ℕ, zero, suc, ◌+◌, ◌<◌, List, [], ◌∷◌, length, map, Some, refl, sym, ◌∙◌, ap, subst, inl, inr, arith}
use Rattle.std.specs.Prelude.{◌⊎◌, ◌++◌, slice_get, codes, decimal}
use Rattle.std.proofs.lemmas.Bool.{cases_order}
use Rattle.std.proofs.lemmas.Option.{none-some}
use Rattle.classfile.specs.Methods.{JudgedClass}
use Rattle.classfile.specs.CodeMethods.{judged}
use Rattle.classfile.specs.declared.profile.Profile.{Profile}
use Rattle.hierarchy.specs.Class.{ClassFact}
use Rattle.verify.specs.Together.{facts_in}
use Rattle.verify.specs.declared.verdict.Verdict.{Verdict}
use Rattle.verify.specs.declared.verdict.Verdict.TheVariants.{Verified, NoCode, Refused}
use Rattle.verify.specs.declared.report.MethodVerdict.{MethodVerdict}
use Rattle.verify.specs.declared.report.Report.{Report}
use Rattle.verify.specs.declared.play.PlayRule.{PlayRule}
use Rattle.verify.specs.declared.play.PlayRule.TheVariants.{NotInHierarchy, Final, ClassInPlayTwice}
use Rattle.verify.specs.OneVerdict.{AreSameVerdict}
use Rattle.verify.specs.Files.{Read}
use Rattle.verify.specs.Reports.{IsReport}
use Rattle.verify.specs.Plays.{IsFineVerdict, IsFirstRefused, IsFine, HasRefused, Breaks, AreFine}
use Rattle.printing.specs.Json.{number, fields_behind}
use Rattle.answers.specs.Files.{refusal_status}
use Rattle.answers.specs.Verdicts.{verdict_line}
use Rattle.answers.specs.declared.command.Form.{Form}
use Rattle.answers.specs.declared.command.Form.TheVariants.{Plain, Json}
use Rattle.answers.specs.Plays.{numbered_refusal, class_by_number, rule_refusal, method_refusal, BrokenSays, ClassesSay, TogetherSay, PlaySays}
use Rattle.answers.proofs.OneFile.{Laws}
use Rattle.answers.proofs.OneVerify.{some_same, not_some, same_refusal, same_line, one_list, one_first, none_refused}

-- ---- lists

within : {A : Type 0} (xs : List A) (n : ℕ) (x : A) → slice_get xs n ≡ Some x → n < length xs
within [] n x e = absurd (none-some x e)
within (y ∷ xs) zero x e = omega arith
within (y ∷ xs) (suc n) x e = let k = within xs n x e in omega (arith, k)

item : {A : Type 0} (xs : List A) (n : ℕ) → n < length xs → (x : A) × (slice_get xs n ≡ Some x)
item [] n lt = absurd (omega (arith, lt))
item (x ∷ xs) zero lt = (x, refl)
item (x ∷ xs) (suc n) lt = item xs n (omega (arith, lt))

-- ---- of a class

-- a verdict is fine where one that says the same is
fine_too : (v w : Verdict) → AreSameVerdict v w → IsFineVerdict w → IsFineVerdict v
fine_too Verified Verified e f = tt
fine_too NoCode NoCode e f = tt
fine_too v (Refused at why) e f = absurd f
fine_too _ _ e f = absurd e

same_method : (form : Form) (n : ℕ) (r o : MethodVerdict) → verdict_line form r ≡ verdict_line form o → method_refusal form n r ≡ method_refusal form n o
same_method Plain n r o e = ap (λ line. codes "class " ++ (decimal n ++ (codes " " ++ line))) e
same_method Json n r o e = ap (λ line. class_by_number n (fields_behind ((codes "number", number 84) ∷ [])) ++ line) e

module _ (laws : Laws) (form : Form) (classes : List ClassFact) (cs : List JudgedClass) (place : ℕ) (c : JudgedClass) where
  broken_fine : (rule : PlayRule) (rs : List MethodVerdict) → Breaks classes cs place c rule → IsFine classes cs place c rs → ⊥
  broken_fine NotInHierarchy rs b f = b f.report.listed
  broken_fine (Final rule) rs b f = not_some rule (sym f.not_final ∙ b.1)
  broken_fine ClassInPlayTwice rs b f = f.first b.2

  broken_refused : (rule : PlayRule) (n : ℕ) (r : MethodVerdict) → Breaks classes cs place c rule → HasRefused classes cs place c n r → ⊥
  broken_refused NotInHierarchy n r b (plain, first, (rs, report, one)) = b report.listed
  broken_refused (Final rule) n r b (plain, first, (rs, report, one)) = not_some rule (sym plain ∙ b.1)
  broken_refused ClassInPlayTwice n r b (plain, first, (rs, report, one)) = first b.2

  refused_fine : (n : ℕ) (r : MethodVerdict) (qs : List MethodVerdict) → HasRefused classes cs place c n r → IsFine classes cs place c qs → ⊥
  refused_fine n r qs (plain, first, (rs, report, one)) f =
      let same = laws.one_report classes c rs qs report f.report in
      let lt : n < length qs = omega (arith, same.all, within rs n r one.here) in
      let (q, there) = item qs n lt in
      one.refused (fine_too r.verdict q.verdict (same.each n r q one.here there).verdict (f.verified n q lt there))

  one_rule : (rule other : PlayRule) → Breaks classes cs place c rule → Breaks classes cs place c other → rule ≡ other
  one_rule NotInHierarchy NotInHierarchy p q = refl
  one_rule NotInHierarchy (Final rule) p q = absurd (p q.0)
  one_rule NotInHierarchy ClassInPlayTwice p q = absurd (p q.0)
  one_rule (Final rule) NotInHierarchy p q = absurd (q p.0)
  one_rule (Final rule) (Final other) p q = ap (λ r. Final r) (some_same rule other (sym p.1 ∙ q.1))
  one_rule (Final rule) ClassInPlayTwice p q = absurd (not_some rule (sym q.1 ∙ p.1))
  one_rule ClassInPlayTwice NotInHierarchy p q = absurd (q p.0)
  one_rule ClassInPlayTwice (Final rule) p q = absurd (not_some rule (sym p.1 ∙ q.1))
  one_rule ClassInPlayTwice ClassInPlayTwice p q = refl

  -- the first method that is refused comes later in neither report
  not_later : (rs qs : List MethodVerdict) (n m : ℕ) (r o : MethodVerdict) → IsReport classes c rs → IsReport classes c qs → IsFirstRefused rs n r → IsFirstRefused qs m o → n < m → ⊥
  not_later rs qs n m r o p q one two lt =
      let same = laws.one_report classes c rs qs p q in
      let (x, there) = item qs n (omega (arith, lt, within qs m o two.here)) in
      one.refused (fine_too r.verdict x.verdict (same.each n r x one.here there).verdict (two.before n x lt there))

  one_line : (n m : ℕ) (r o : MethodVerdict) → HasRefused classes cs place c n r → HasRefused classes cs place c m o → verdict_line form r ≡ verdict_line form o
  one_line n m r o (plain, first, (rs, p, one)) (even, before, (qs, q, two)) = by (cases_order n m)
    where
      by : (n ≡ m) ⊎ ((n < m) ⊎ (m < n)) → verdict_line form r ≡ verdict_line form o
      by (inl e) = same_line form r o ((laws.one_report classes c rs qs p q).each n r o one.here (ap (slice_get qs) e ∙ two.here))
      by (inr (inl lt)) = absurd (not_later rs qs n m r o p q one two lt)
      by (inr (inr lt)) = absurd (not_later qs rs m n o r q p two one lt)

  one_broken : (text other : List ℕ) (status next : ℕ) → BrokenSays form classes cs place c text status → BrokenSays form classes cs place c other next → (text ≡ other) × (status ≡ next)
  one_broken text other status next (inl (rule, p, t, s)) (inl (also, q, u, v)) =
      (t ∙ ap (rule_refusal form (place + 1)) (one_rule rule also p q) ∙ sym u, s ∙ sym v)
  one_broken text other status next (inl (rule, p, t, s)) (inr (m, o, q, u, v)) = absurd (broken_refused rule m o p q)
  one_broken text other status next (inr (n, r, p, t, s)) (inl (also, q, u, v)) = absurd (broken_refused also n r q p)
  one_broken text other status next (inr (n, r, p, t, s)) (inr (m, o, q, u, v)) =
      (t ∙ same_method form (place + 1) r o (one_line n m r o p q) ∙ sym u, s ∙ sym v)

  broken_or_fine : (text : List ℕ) (status : ℕ) (qs : List MethodVerdict) → BrokenSays form classes cs place c text status → IsFine classes cs place c qs → ⊥
  broken_or_fine text status qs (inl (rule, p, t, s)) f = broken_fine rule qs p f
  broken_or_fine text status qs (inr (n, r, p, t, s)) f = refused_fine n r qs p f

-- ---- of all classes

module _ (laws : Laws) (form : Form) (classes : List ClassFact) (cs : List JudgedClass) where
  -- a class among those that break no rule
  not_among : (place : ℕ) (c : JudgedClass) (text : List ℕ) (status : ℕ) (rs : List Report) → slice_get cs place ≡ Some c → BrokenSays form classes cs place c text status
      → AreFine classes cs rs → place < length rs → ⊥
  not_among place c text status rs here b fine lt =
      let (r, at) = item rs place lt in
      let (d, there, f) = fine place r at in
      let same : d ≡ c = some_same d c (sym there ∙ here) in
      broken_or_fine laws form classes cs place c text status r.methods.items b (subst (λ z. IsFine classes cs place z r.methods.items) same f)

  one_classes : (text other : List ℕ) (status next : ℕ) → ClassesSay form classes cs text status → ClassesSay form classes cs other next → (text ≡ other) × (status ≡ next)
  one_classes text other status next (inl (i, ((c, here, b), (rs, many, fine)))) (inl (j, ((d, there, k), (qs, count, all)))) = by (cases_order i j)
    where
      by : (i ≡ j) ⊎ ((i < j) ⊎ (j < i)) → (text ≡ other) × (status ≡ next)
      by (inl e) =
          let same : c ≡ d = some_same c d (sym here ∙ ap (slice_get cs) e ∙ there) in
          one_broken laws form classes cs j d text other status next
          (subst (λ z. BrokenSays form classes cs j z text status) same (subst (λ n. BrokenSays form classes cs n c text status) e b)) k
      by (inr (inl lt)) = absurd (not_among i c text status qs here b all (omega (arith, lt, count)))
      by (inr (inr lt)) = absurd (not_among j d other next rs there k fine (omega (arith, lt, many)))
  one_classes text other status next (inl (i, ((c, here, b), before))) (inr (qs, (count, all), u, v)) =
      absurd (not_among i c text status qs here b all (omega (arith, count, within cs i c here)))
  one_classes text other status next (inr (rs, (many, fine), t, s)) (inl (j, ((d, there, k), before))) =
      absurd (not_among j d other next rs there k fine (omega (arith, many, within cs j d there)))
  one_classes text other status next (inr (rs, p, t, s)) (inr (qs, q, u, v)) = (t ∙ sym u, s ∙ sym v)

module _ (laws : Laws) where
  one_together : (form : Form) (cs : List JudgedClass) (text other : List ℕ) (status next : ℕ) → TogetherSay form cs text status → TogetherSay form cs other next → (text ≡ other) × (status ≡ next)
  one_together form cs text other status next (inl (f, m, p, t, s)) (inl (g, n, q, u, v)) =
      let same = laws.one_hierarchy_fault (facts_in cs) f g m n p q in
      (t ∙ same_refusal form f g same.0 same.1 ∙ sym u, s ∙ sym v)
  one_together form cs text other status next (inl (f, m, p, t, s)) (inr (h, q)) = absurd (laws.not_hierarchy (facts_in cs) f m p h)
  one_together form cs text other status next (inr (h, p)) (inl (g, n, q, u, v)) = absurd (laws.not_hierarchy (facts_in cs) g n q h)
  one_together form cs text other status next (inr (h, p)) (inr (k, q)) = one_classes laws form (facts_in cs) cs text other status next p q

  pub one_play : (form : Form) (profile : Profile) (reads : List Read) (text other : List ℕ) (status next : ℕ) → PlaySays form profile reads text status → PlaySays form profile reads other next → (text ≡ other) × (status ≡ next)
  one_play form profile reads text other status next (inl (i, r, p, t, s)) (inl (j, o, q, u, v)) =
      let same = one_first laws reads i j r o p q in (
        t ∙ ap (λ n. numbered_refusal form (n + 1) r) same.0 ∙ ap (numbered_refusal form (j + 1)) same.1 ∙ sym u,
        s ∙ ap refusal_status same.1 ∙ sym v,
      )
  one_play form profile reads text other status next (inl (i, r, p, t, s)) (inr (ds, q, k)) = absurd (none_refused laws reads ds i r q p)
  one_play form profile reads text other status next (inr (cs, p, h)) (inl (j, o, q, u, v)) = absurd (none_refused laws reads cs j o p q)
  one_play form profile reads text other status next (inr (cs, p, h)) (inr (ds, q, k)) =
      one_together form (map (judged profile) ds) text other status next (subst (λ x. TogetherSay form (map (judged profile) x) text status) (one_list laws reads cs ds p q) h) k
