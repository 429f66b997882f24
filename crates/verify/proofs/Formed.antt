-- Files that are classes, one after the other, and the answers on them.
use Rattle.std.proofs.Common.{◌≡◌, ℕ, Bool, true, false, zero, suc, ◌<◌, List, [], ◌∷◌, ◌++◌, map, take, Some, None, Result, Ok, Err, sym, subst, arith}
use Rattle.classfile.specs.declared.profile.Profile.{Profile}
use Rattle.classfile.specs.CodeMethods.{judged}
use Rattle.classfile.specs.Methods.{JudgedClass}
use Rattle.std.specs.Prelude.{slice_get}
use Rattle.classfile.specs.Values.{Class}
use Rattle.classfile.specs.WellFormed.{WellFormed}
use Rattle.classfile.specs.declared.class_file.ClassFile.{ClassFile}
use Rattle.classfile.specs.Views.{class_view}
use Rattle.verify.specs.declared.files.FileFault.{FileFault}
use Rattle.verify.specs.declared.files.FileFault.TheVariants.{OutOfMemory, Unread, NoClass, Malformed}
use Rattle.verify.specs.Files.{Read, IsDecoded, IsFormed, OrMemory, AreFormed}
use Rattle.verify.specs.private.FileSteps.{Forms}
use Rattle.verify.specs.private.OpeningSteps.{IsOpened}
use Rattle.classfile.specs.declared.form.Formed.{Formed as FormedClass}
use Rattle.hierarchy.specs.Class.{ClassFact}
use Rattle.hierarchy.specs.Rules.{IsHierarchy}
use Rattle.hierarchy.specs.Faults.{FaultOf}
use Rattle.hierarchy.specs.ClassSummary.{summary_of}
use Rattle.verify.specs.declared.explanation.Explained.{Explained}
use Rattle.verify.specs.declared.known_classes.AmongFault.{AmongFault}
use Rattle.verify.specs.declared.known_classes.AmongFault.TheVariants as amongs
use Rattle.verify.specs.FinalRules.{final_rule}
use Rattle.verify.specs.Explaining.{IsExplained}
use Rattle.verify.specs.Among.{AnswersAmong, ReportsAmong}
use Rattle.verify.specs.private.AmongSteps.{ExplainsSummaries, ExplainsFormed}

some_same : {A : Type 0} (a b : A) → Some a ≡ Some b → a ≡ b
some_same a b e = cc

none_some : {A : Type 0} (a : A) → None ≡ Some a → ⊥
none_some a e = cc

-- a class that was decoded and is well formed
pub decoded_formed : (read : Read) (c : Class) → IsDecoded read c → WellFormed c → IsFormed read c
decoded_formed (Ok bytes) c is formed = (is, formed)
decoded_formed (Err e) c is formed = is

-- a class that was decoded and breaks a rule
pub refused_by : (read : Read) (class : ClassFile) (fault : FileFault) → IsDecoded read (class_view class) → Forms class (Err fault) → OrMemory read fault
refused_by (Ok bytes) class OutOfMemory is broken = tt
refused_by (Ok bytes) class (Unread e) is broken = absurd broken
refused_by (Ok bytes) class (NoClass e) is broken = absurd broken
refused_by (Ok bytes) class (Malformed rule place) is broken = (class_view class, is, broken)
refused_by (Err e) class fault is broken = absurd is

-- a class that was decoded, as it was opened
pub opened_by : (read : Read) (class : ClassFile) (r : Result FormedClass FileFault) → IsDecoded read (class_view class) → Forms class r → IsOpened read r
opened_by read class (Ok formed) is forms = subst (λ (k : ClassFile). IsFormed read (class_view k)) (sym forms.0) (decoded_formed read (class_view class) is forms.1)
opened_by read class (Err fault) is forms = refused_by read class fault is forms

-- one file more
pub one_more_formed : (reads : List Read) (cs : List Class) (read : Read) (c : Class) → AreFormed reads cs → IsFormed read c → AreFormed (reads ++ read ∷ []) (cs ++ c ∷ [])
one_more_formed [] [] read c all one = (one, tt)
one_more_formed [] (d ∷ cs) read c all one = absurd all
one_more_formed (r ∷ reads) [] read c all one = absurd all
one_more_formed (r ∷ reads) (d ∷ cs) read c all one = (all.0, one_more_formed reads cs read c all.1 one)

-- each of the first files is a class
pub earlier_formed : (reads : List Read) (i : ℕ) (cs : List Class) → AreFormed (take i reads) cs
    → (j : ℕ) → j < i → (other : Read) → slice_get reads j ≡ Some other → (c : Class) × IsFormed other c
earlier_formed [] i cs all j lt other e = absurd (none_some other e)
earlier_formed (r ∷ reads) zero cs all j lt other e = absurd (omega (arith, lt))
earlier_formed (r ∷ reads) (suc i) [] all j lt other e = absurd all
earlier_formed (r ∷ reads) (suc i) (c ∷ cs) all zero lt other e = (c, subst (λ x. IsFormed x c) (some_same r other e) all.0)
earlier_formed (r ∷ reads) (suc i) (c ∷ cs) all (suc j) lt other e = earlier_formed reads i cs all.1 j (omega (arith, lt)) other e

-- ---- the answers on them

pub explains_formed : (framed : Bool) (c : JudgedClass) (known : List Read) (cs : List Class) (classes : List ClassFact) (r : Result Explained AmongFault)
    → AreFormed known cs → classes ≡ map summary_of (c.file ∷ cs) → ExplainsSummaries framed classes c r → ExplainsFormed framed c known r
explains_formed framed c known cs classes (Ok x) all e (hierarchy, fine, is) =
    (cs, all, subst IsHierarchy e hierarchy, subst (λ k. final_rule k (summary_of c.file) ≡ None) e fine, subst (λ k. IsExplained framed k c x) e is)
explains_formed framed c known cs classes (Err amongs.OutOfMemory) all e p = tt
explains_formed framed c known cs classes (Err (amongs.Refused fault)) all e p = absurd p
explains_formed framed c known cs classes (Err (amongs.KnownRefused number fault)) all e p = absurd p
explains_formed framed c known cs classes (Err (amongs.NoHierarchy fault)) all e p = (cs, all, p.0, subst (λ k. FaultOf k fault) e p.1)
explains_formed framed c known cs classes (Err (amongs.Final rule)) all e p =
    (cs, all, subst IsHierarchy e p.0, subst (λ k. final_rule k (summary_of c.file) ≡ Some rule) e p.1)

pub among_formed : (framed : Bool) (profile : Profile) (read : Read) (c : Class) (known : List Read) (r : Result Explained AmongFault)
    → IsFormed read c → ExplainsFormed framed (judged profile c) known r → AnswersAmong (IsExplained framed) profile read known r
among_formed framed profile read c known (Ok x) formed (cs, all, hierarchy, fine, p) = (c, cs, formed, all, hierarchy, fine, p)
among_formed framed profile read c known (Err amongs.OutOfMemory) formed p = tt
among_formed framed profile read c known (Err (amongs.Refused fault)) formed p = absurd p
among_formed framed profile read c known (Err (amongs.KnownRefused number fault)) formed (i, e, first) = (c, i, formed, e, first)
among_formed framed profile read c known (Err (amongs.NoHierarchy fault)) formed (cs, all, other, p) = (c, cs, formed, all, other, p)
among_formed framed profile read c known (Err (amongs.Final rule)) formed (cs, all, hierarchy, p) = (c, cs, formed, all, hierarchy, p)

-- without the frames
pub without_frames : (profile : Profile) (read : Read) (known : List Read) (x : Explained) → AnswersAmong (IsExplained false) profile read known (Ok x) → ReportsAmong profile read known (Ok x.report)
without_frames profile read known x (c, cs, formed, all, hierarchy, fine, p) = (c, cs, formed, all, hierarchy, fine, p.0)

-- a fault is one whatever is returned otherwise
pub same_fault : {R S : Type 0} (P : List ClassFact → JudgedClass → R → Type 0) (Q : List ClassFact → JudgedClass → S → Type 0) (profile : Profile) (read : Read) (known : List Read) (fault : AmongFault)
    → AnswersAmong P profile read known (Err fault) → AnswersAmong Q profile read known (Err fault)
same_fault P Q profile read known amongs.OutOfMemory p = p
same_fault P Q profile read known (amongs.Refused fault) p = p
same_fault P Q profile read known (amongs.KnownRefused number fault) p = p
same_fault P Q profile read known (amongs.NoHierarchy fault) p = p
same_fault P Q profile read known (amongs.Final rule) p = p
