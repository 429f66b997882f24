-- The known classes and their summaries, step by step.
use Rattle.std.proofs.Common.{◌≡◌, ◌∙◌, ◌⊎◌, ℕ, Bool, true, false, not, cond, List, [], ◌∷◌, ◌++◌, map, filter, Option, Some, None, is_some, Result, Ok, Err, inl, inr, refl, sym, ap, subst}
use Rattle.std.specs.Prelude.{IfOk, bytes_eq}
use Rattle.std.proofs.lemmas.List.{map-append}
use Rattle.std.proofs.lemmas.Slice.Eq.{bytes_eq-Decides}
use Rattle.classfile.specs.Values.{Class}
use Rattle.classfile.specs.declared.profile.Profile.{Profile}
use Rattle.hierarchy.specs.Class.{ClassFact, class_of}
use Rattle.hierarchy.specs.ClassSummary.{summary_of}
use Rattle.verify.specs.Beside.{AreBeside}
use Rattle.verify.specs.Beside as verify
use Rattle.verify.specs.Each.{with_class}
use Rattle.verify.specs.Files.{IsFormed, AreFormed}
use Rattle.verify.specs.Standing.{stands}
use Rattle.answers.specs.Files.{Input, known_file, reads_of}
use Rattle.serving.specs.KnownClasses.{KnownClass, AreKnown, summary, summaries, is_known, standing_beside, files, others}
use Rattle.serving.specs.private.Stepping.{Knows}

-- ---- results

pub if_ok : {T E : Type 0} (r : Result T E) (P Q : T → Type 0) → IfOk r P → ((x : T) → P x → Q x) → IfOk r Q
if_ok (Ok x) P Q p f = f x p
if_ok (Err e) P Q p f = p

-- ---- lists of known classes

module _ (profile : Profile) where
  filtered_known : (p : KnownClass → Bool) (ks : List KnownClass) → AreKnown profile ks → AreKnown profile (filter p ks)
  filtered_known p [] known = known
  filtered_known p (k ∷ ks) known = by (p k) (filtered_known p ks known.1)
    where
      by : (b : Bool) → AreKnown profile (filter p ks) → AreKnown profile (cond b (k ∷ filter p ks) (filter p ks))
      by true rest = (known.0, rest)
      by false rest = rest

  more_known : (ks : List KnownClass) (k : KnownClass) → AreKnown profile ks → IsFormed (known_file profile k.file).read k.class → AreKnown profile (ks ++ k ∷ [])
  more_known [] k known formed = (formed, tt)
  more_known (x ∷ ks) k known formed = (known.0, more_known ks k known.1 formed)

  formed_files : (ks : List KnownClass) → AreKnown profile ks → AreFormed (reads_of (files profile ks)) (map (λ k. k.class) ks)
  formed_files [] known = tt
  formed_files (k ∷ ks) known = (known.0, formed_files ks known.1)

filtered_summaries : (p : ClassFact → Bool) (ks : List KnownClass) → filter p (summaries ks) ≡ summaries (filter (λ k. p (summary k)) ks)
filtered_summaries p [] = refl
filtered_summaries p (k ∷ ks) = by (p (summary k)) (filtered_summaries p ks)
  where
    by : (b : Bool) → filter p (summaries ks) ≡ summaries (filter (λ x. p (summary x)) ks)
        → cond b (summary k ∷ filter p (summaries ks)) (filter p (summaries ks)) ≡ summaries (cond b (k ∷ filter (λ x. p (summary x)) ks) (filter (λ x. p (summary x)) ks))
    by true e = ap (λ fs. summary k ∷ fs) e
    by false e = e

summaries_of_classes : (ks : List KnownClass) → summaries ks ≡ map summary_of (map (λ k. k.class) ks)
summaries_of_classes [] = refl
summaries_of_classes (k ∷ ks) = ap (λ fs. summary k ∷ fs) (summaries_of_classes ks)

-- ---- the files of the known classes beside which a class is judged

pub beside : (profile : Profile) (ks : List KnownClass) (facts : List ClassFact) → Knows profile ks facts → AreBeside (λ c. reads_of (files profile (standing_beside (summary_of c) ks))) facts
beside profile ks facts (known, same) = λ c.
    let front = summary_of c in
    let rest = others front.name ks in
    let kept = standing_beside front ks in
    let there : verify.others front.name facts ≡ summaries rest = ap (verify.others front.name) same ∙ filtered_summaries (λ f. not (bytes_eq front.name f.name)) ks in (
      map (λ k. k.class) kept,
      formed_files profile kept (filtered_known profile (λ k. stands (front ∷ summaries rest) (summary k)) rest (filtered_known profile (λ k. not (bytes_eq front.name (summary k).name)) ks known)),
      ap (λ fs. filter (stands (front ∷ fs)) fs) there ∙ filtered_summaries (stands (front ∷ summaries rest)) rest ∙ summaries_of_classes kept,
    )

-- ---- one class more

-- after the others, where none of them has its name
pub one_more : (profile : Profile) (ks : List KnownClass) (facts more : List ClassFact) (file : Input) (c : Class) (fact : ClassFact) → Knows profile ks facts → IsFormed (known_file profile file).read c
    → is_known ks (summary_of c).name ≡ false → fact ≡ summary_of c → more ≡ with_class facts fact → Knows profile (ks ++ record { file = file; class = c } ∷ []) more
one_more profile ks facts more file c fact (known, same) formed free is put =
    let k : KnownClass = record { file = file; class = c } in (
      more_known profile ks k known formed,
      put ∙ ap (with_class facts) is ∙ ap (λ fs. with_class fs (summary_of c)) same
          ∙ ap (λ b. cond b (summaries ks) (summaries ks ++ summary_of c ∷ [])) free
          ∙ sym (map-append summary ks (k ∷ [])),
    )

others_lack : (name : List ℕ) (fs : List ClassFact) → class_of (filter (λ f. not (bytes_eq name f.name)) fs) name ≡ None
others_lack name [] = refl
others_lack name (f ∷ fs) = by (bytes_eq name f.name) refl (others_lack name fs)
  where
    rest : List ClassFact
    rest = filter (λ x. not (bytes_eq name x.name)) fs

    by : (b : Bool) → bytes_eq name f.name ≡ b → class_of (filter (λ x. not (bytes_eq name x.name)) fs) name ≡ None
        → class_of (cond (not b) (f ∷ filter (λ x. not (bytes_eq name x.name)) fs) (filter (λ x. not (bytes_eq name x.name)) fs)) name ≡ None
    by true e none = none
    by false e none = ap (λ b. cond b (Some f) (class_of (filter (λ x. not (bytes_eq name x.name)) fs) name)) e ∙ none

-- after those of other names
pub one_instead : (profile : Profile) (ks : List KnownClass) (facts left more : List ClassFact) (file : Input) (c : Class) (fact : ClassFact) → Knows profile ks facts → IsFormed (known_file profile file).read c
    → fact ≡ summary_of c → left ≡ filter (λ f. not (bytes_eq fact.name f.name)) facts → more ≡ with_class left fact → Knows profile (others (summary_of c).name ks ++ record { file = file; class = c } ∷ []) more
one_instead profile ks facts left more file c fact (known, same) formed is without put =
    let name = (summary_of c).name in
    let rest = others name ks in
    let kept : AreKnown profile rest = filtered_known profile (λ k. not (bytes_eq name (summary k).name)) ks known in
    let there : left ≡ summaries rest =
    without ∙ ap (λ (x : ClassFact). filter (λ f. not (bytes_eq x.name f.name)) facts) is ∙ ap (filter (λ f. not (bytes_eq name f.name))) same ∙ filtered_summaries (λ f. not (bytes_eq name f.name)) ks in
    let free : is_known rest name ≡ false =
    ap (λ fs. is_some (class_of fs name)) (sym (filtered_summaries (λ f. not (bytes_eq name f.name)) ks)) ∙ ap is_some (others_lack name (summaries ks)) in
    one_more profile rest left more file c fact (kept, there) formed free is put
