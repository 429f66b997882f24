-- Files that are classes, and all of them in play.
use Rattle.std.proofs.Common.{◌≡◌, ℕ, zero, suc, ◌+◌, ◌<◌, ◌≤◌, List, [], ◌∷◌, ◌++◌, map, take, length, Option, Some, None, Result, Ok, Err, Vec, Global, refl, sym, subst, arith}
use Rattle.classfile.specs.declared.profile.Profile.{Profile}
use Rattle.classfile.specs.Methods.{JudgedClass}
use Rattle.classfile.specs.CodeMethods.{judged, judged_class}
use Rattle.std.specs.Prelude.{slice_get, MatchResult, IfOk}
use Rattle.std.proofs.lemmas.List.{take_all, map-append}
use Rattle.classfile.specs.Values.{Class}
use Rattle.classfile.specs.WellFormed.{WellFormed}
use Rattle.classfile.specs.declared.class_file.ClassFile.{ClassFile}
use Rattle.classfile.specs.declared.form.Formed.{Formed}
use Rattle.classfile.specs.Views.{class_view}
use Rattle.hierarchy.specs.Class.{ClassFact}
use Rattle.hierarchy.specs.Rules.{IsHierarchy}
use Rattle.verify.specs.declared.files.FileFault.{FileFault}
use Rattle.verify.specs.declared.report.MethodVerdict.{MethodVerdict}
use Rattle.verify.specs.declared.report.Report.{Report}
use Rattle.verify.specs.declared.play.PlayRule.{PlayRule}
use Rattle.verify.specs.declared.play.PlayStop.{PlayStop}
use Rattle.verify.specs.declared.play.PlayStop.TheVariants as stops
use Rattle.verify.specs.declared.classes_in_play.TogetherFault.{TogetherFault}
use Rattle.verify.specs.declared.classes_in_play.TogetherFault.TheVariants.{OutOfMemory, Refused, NoHierarchy, Broken, NotVerified}
use Rattle.verify.specs.Files.{Read, IsDecoded, IsRefused, AreFormed, IsFirstRefused}
use Rattle.verify.specs.Plays.{IsStopped}
use Rattle.verify.specs.Together.{facts_in, HaveReports, HaveNone, ReportsTogether, NotTogether, ArePlayableFiles}
use Rattle.verify.specs.private.TogetherSteps.{AreDecoded, AreWellFormed, DecodesAll, views, IsWithin}
use Rattle.verify.specs.ClassRunSafety.{ArePlayable}
use Rattle.verify.proofs.Formed.{decoded_formed, earlier_formed}

some_same : {A : Type 0} (a b : A) → Some a ≡ Some b → a ≡ b
some_same a b e = cc

none_some : {A : Type 0} (a : A) → None ≡ Some a → ⊥
none_some a e = cc

-- ---- files that are classes

pub one_more_decoded : (reads : List Read) (cs : List Class) (read : Read) (c : Class) → AreDecoded reads cs → IsDecoded read c → AreDecoded (reads ++ read ∷ []) (cs ++ c ∷ [])
one_more_decoded [] [] read c all one = (one, tt)
one_more_decoded [] (d ∷ cs) read c all one = absurd all
one_more_decoded (r ∷ reads) [] read c all one = absurd all
one_more_decoded (r ∷ reads) (d ∷ cs) read c all one = (all.0, one_more_decoded reads cs read c all.1 one)

pub one_more_well_formed : (cs : List Class) (c : Class) → AreWellFormed cs → WellFormed c → AreWellFormed (cs ++ c ∷ [])
one_more_well_formed [] c all one = (one, tt)
one_more_well_formed (d ∷ cs) c all one = (all.0, one_more_well_formed cs c all.1 one)

-- the file of a class
pub decoded_at : (reads : List Read) (cs : List Class) (i : ℕ) (c : Class) → AreDecoded (take (length cs) reads) cs → slice_get cs i ≡ Some c
    → (read : Read) × (slice_get reads i ≡ Some read) × IsDecoded read c
decoded_at reads [] i c all e = absurd (none_some c e)
decoded_at [] (d ∷ cs) i c all e = absurd all
decoded_at (r ∷ reads) (d ∷ cs) zero c all e = (r, refl, subst (IsDecoded r) (some_same d c e) all.0)
decoded_at (r ∷ reads) (d ∷ cs) (suc i) c all e = decoded_at reads cs i c all.1 e

pub front_formed : (reads : List Read) (cs : List Class) (i : ℕ) → i ≤ length cs → AreDecoded (take (length cs) reads) cs → AreWellFormed (take i cs) → AreFormed (take i reads) (take i cs)
front_formed reads cs zero le all formed = tt
front_formed reads [] (suc i) le all formed = absurd (omega (arith, le))
front_formed [] (c ∷ cs) (suc i) le all formed = absurd all
front_formed (r ∷ reads) (c ∷ cs) (suc i) le all formed =
    (decoded_formed r c all.0 formed.0, front_formed reads cs i (omega (arith, le)) all.1 formed.1)

pub all_formed : (reads : List Read) (cs : List Class) → AreDecoded reads cs → AreWellFormed cs → AreFormed reads cs
all_formed [] [] all formed = tt
all_formed [] (c ∷ cs) all formed = absurd all
all_formed (r ∷ reads) [] all formed = absurd all
all_formed (r ∷ reads) (c ∷ cs) all formed = (decoded_formed r c all.0 formed.0, all_formed reads cs all.1 formed.1)

pub as_many : (reads : List Read) (cs : List Class) → AreDecoded reads cs → length reads ≡ length cs
as_many [] [] all = refl
as_many [] (c ∷ cs) all = absurd all
as_many (r ∷ reads) [] all = absurd all
as_many (r ∷ reads) (c ∷ cs) all = let k = as_many reads cs all.1 in omega (arith, k)

-- the file at a place is the first that is refused, where the classes in front of it are well formed
pub first_refused : (reads : List Read) (cs : List Class) (i : ℕ) (read : Read) (fault : FileFault) → i ≤ length cs → AreDecoded (take (length cs) reads) cs → AreWellFormed (take i cs)
    → slice_get reads i ≡ Some read → IsRefused read fault → IsFirstRefused reads i fault
first_refused reads cs i read fault le all formed here refused =
    record { read = read; here = here; refused = refused; earlier = earlier_formed reads i (take i cs) (front_formed reads cs i le all formed) }

-- ---- what is returned

pub not_together : (profile : Profile) (reads : List Read) (cs : List Class) (fault : TogetherFault) → AreFormed reads cs → HaveNone (map (judged profile) cs) fault
    → NotTogether profile reads fault
not_together profile reads cs OutOfMemory all p = tt
not_together profile reads cs (Refused number fault) all p = absurd p
not_together profile reads cs (NoHierarchy fault) all p = (cs, all, p)
not_together profile reads cs (Broken number rule) all p = (cs, all, p)
not_together profile reads cs (NotVerified number method) all p = (cs, all, p)

place_within : {A : Type 0} (xs : List A) (i : ℕ) (x : A) → slice_get xs i ≡ Some x → i < length xs
place_within [] i x e = absurd (none_some x e)
place_within (y ∷ xs) zero x e = omega arith
place_within (y ∷ xs) (suc i) x e = let k = place_within xs i x e in omega (arith, k)

pub stops_within : (classes : List ClassFact) (cs : List JudgedClass) (stop : PlayStop) → IsStopped classes cs stop → IsWithin (length cs) stop
stops_within classes cs stops.OutOfMemory p = tt
stops_within classes cs (stops.Broken class rule) ((c, here, why), before) = place_within cs class c here
stops_within classes cs (stops.Refused class number method) ((c, here, why), before) = place_within cs class c here

-- ---- steps

pub front_of_all : (reads : List Read) (cs : List Class) (fault : Option TogetherFault) → DecodesAll reads cs fault → AreDecoded (take (length cs) reads) cs
front_of_all reads cs None all = subst (λ rs. AreDecoded rs cs) (sym (take_all (length cs) reads (omega (arith, as_many reads cs all)))) all
front_of_all reads cs (Some fault) all = all.0

-- all classes in front of a file that is refused
pub first_behind : (reads : List Read) (cs : List Class) (read : Read) (fault : FileFault) → AreDecoded (take (length cs) reads) cs → AreWellFormed cs → slice_get reads (length cs) ≡ Some read
    → IsRefused read fault → IsFirstRefused reads (length cs) fault
first_behind reads cs read fault all formed here refused =
    first_refused reads cs (length cs) read fault (omega arith) all (subst AreWellFormed (sym (take_all (length cs) cs (omega arith))) formed) here refused

pub broken_at : (cs : List JudgedClass) (stop : PlayStop) (class : ℕ) (rule : PlayRule) → stop ≡ stops.Broken class rule → IsHierarchy (facts_in cs) → IsStopped (facts_in cs) cs stop
    → HaveNone cs (Broken (class + 1) rule)
broken_at cs stop class rule e hierarchy p = (hierarchy, (class, refl, subst (IsStopped (facts_in cs) cs) e p))

pub refused_at : (cs : List JudgedClass) (stop : PlayStop) (class number : ℕ) (method : MethodVerdict) → stop ≡ stops.Refused class number method → IsHierarchy (facts_in cs)
    → IsStopped (facts_in cs) cs stop → HaveNone cs (NotVerified (class + 1) method)
refused_at cs stop class number method e hierarchy p =
    let ((c, here, refused), before) = subst (IsStopped (facts_in cs) cs) e p in
    (hierarchy, (class, refl, ((c, here, (number, refused)), before)))

pub more_views : (old : List ClassFile) (x : ClassFile) → views (old ++ x ∷ []) ≡ views old ++ class_view x ∷ []
more_views old x = map-append (λ c. class_view c) old (x ∷ [])

pub more_judged : (old : List Formed) (x : Formed) → map judged_class (old ++ x ∷ []) ≡ map judged_class old ++ judged_class x ∷ []
more_judged old x = map-append judged_class old (x ∷ [])

-- the reports on the classes are those on the files
pub of_classes : (profile : Profile) (reads : List Read) (cs : List Class) (ds : List JudgedClass) (rs : List Report) → ds ≡ map (judged profile) cs → AreFormed reads cs
    → HaveReports ds rs → ReportsTogether profile reads rs
of_classes profile reads cs ds rs e all p = (cs, all, subst (λ k. HaveReports k rs) e p)

pub none_of_classes : (profile : Profile) (reads : List Read) (cs : List Class) (ds : List JudgedClass) (fault : TogetherFault) → ds ≡ map (judged profile) cs → AreFormed reads cs
    → HaveNone ds fault → NotTogether profile reads fault
none_of_classes profile reads cs ds fault e all p = not_together profile reads cs fault all (subst (λ k. HaveNone k fault) e p)

pub told : (profile : Profile) (reads : List Read) (cs : List Class) (ds : List JudgedClass) (r : Result (Vec Report Global) TogetherFault) → ds ≡ map (judged profile) cs → AreFormed reads cs
    → MatchResult r (λ rs. HaveReports ds rs.items) (HaveNone ds) → MatchResult r (λ rs. ReportsTogether profile reads rs.items) (NotTogether profile reads)
told profile reads cs ds (Ok rs) e all p = of_classes profile reads cs ds rs.items e all p
told profile reads cs ds (Err fault) e all p = none_of_classes profile reads cs ds fault e all p

pub playable : (profile : Profile) (reads : List Read) (cs : List Class) (ds : List JudgedClass) (r : Result (Vec Report Global) TogetherFault) → ds ≡ map (judged profile) cs → AreFormed reads cs
    → IfOk r (λ rs. ArePlayable (facts_in ds) ds) → IfOk r (λ rs. ArePlayableFiles profile reads)
playable profile reads cs ds (Ok rs) e all p = (cs, all, subst (λ k. ArePlayable (facts_in k) k) e p)
playable profile reads cs ds (Err fault) e all p = p
