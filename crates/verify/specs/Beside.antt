-- The summary of the class in a file, and a class beside classes that are known by their summaries.
use Rattle.std.specs.Prelude.{◌≡◌, ◌⊎◌, ℕ, not, List, [], ◌∷◌, map, filter, bytes_eq, Result, Ok, Err}
use Rattle.classfile.specs.Values.{Class}
use Rattle.classfile.specs.Methods.{JudgedClass}
use Rattle.classfile.specs.declared.profile.Profile.{Profile}
use Rattle.hierarchy.specs.Class.{ClassFact}
use Rattle.hierarchy.specs.ClassSummary.{summary_of}
use Rattle.hierarchy.specs.Summary.{fact_of}
use Rattle.hierarchy.specs.declared.summary.Summary.{Summary}
use Rattle.verify.specs.declared.files.FileFault.{FileFault}
use Rattle.verify.specs.declared.known_classes.AmongFault.{AmongFault}
use Rattle.verify.specs.declared.known_classes.AmongFault.TheVariants.{OutOfMemory, KnownRefused}
use Rattle.verify.specs.Among.{AnswersAmong}
use Rattle.verify.specs.Files.{Read, IsFormed, IsRefused, OrMemory, AreFormed}
use Rattle.verify.specs.Standing.{stands}

-- the summary of the class that a file is, or why the file is none
abbrev pub Summarises : Read → Result Summary FileFault → Type 0
Summarises read (Ok summary) = (c : Class) × IsFormed read c × (fact_of summary ≡ summary_of c)
Summarises read (Err fault) = OrMemory read fault

-- the files are classes that are well formed and have these summaries
abbrev pub HaveSummaries : List Read → List ClassFact → Type 0
HaveSummaries reads classes = (cs : List Class) × AreFormed reads cs × (classes ≡ map summary_of cs)

-- the known classes of other names
abbrev pub others : List ℕ → List ClassFact → List ClassFact
others name known = filter (λ k. not (bytes_eq name k.name)) known

-- the known classes beside which a class is judged: those of other names that stand where it is in front of them
abbrev pub standing_beside : ClassFact → List ClassFact → List ClassFact
standing_beside c known = filter (stands (c ∷ others c.name known)) (others c.name known)

-- for each class the files of the known classes beside which it is judged
abbrev pub AreBeside : (Class → List Read) → List ClassFact → Type 0
AreBeside beside known = (c : Class) → HaveSummaries (beside c) (standing_beside (summary_of c) known)

-- the files that go with the class in a file; none, where it is refused
abbrev pub GoWith : {A : Type 0} → Read → (Class → List A) → List A → Type 0
GoWith read beside files =
    ((r : FileFault) × IsRefused read r × (files ≡ []))
    ⊎ ((c : Class) × IsFormed read c × (files ≡ beside c))

-- the answer about the class in a file, among the files that go with it
abbrev pub AnswersBeside : {R : Type 0} → (List ClassFact → JudgedClass → R → Type 0) → Profile → Read
    → (Class → List Read) → Result R AmongFault → Type 0
AnswersBeside IsAnswer profile read beside (Err OutOfMemory) = Unit {0}
AnswersBeside IsAnswer profile read beside result =
    (known : List Read) × GoWith read beside known × AnswersAmong IsAnswer profile read known result

-- no known class is at fault
abbrev pub IsOfNoKnown : AmongFault → Type 0
IsOfNoKnown (KnownRefused number fault) = ⊥
IsOfNoKnown fault = Unit {0}
