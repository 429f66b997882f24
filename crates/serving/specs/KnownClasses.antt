-- The classes that are known, in the order in which they came; at most one has a name.
use Rattle.std.specs.Prelude.{◌≡◌, ◌⊎◌, ℕ, Bool, true, false, not, List, [], ◌∷◌, ◌++◌, map, filter, is_some, bytes_eq, take, slice_get, ◌+◌, Some, Result, Ok, Err}
use Rattle.layout.specs.declared.fault.ReadFault.{ReadFault}
use Rattle.classfile.specs.Outline.{OutlineFault}
use Rattle.classfile.specs.Values.{Class}
use Rattle.classfile.specs.declared.profile.Profile.{Profile}
use Rattle.file_reads.specs.FileReads.{ReadsOn, BeginsWith}
use Rattle.hierarchy.specs.Class.{ClassFact, class_of}
use Rattle.hierarchy.specs.ClassSummary.{summary_of}
use Rattle.hierarchy.specs.Summary.{fact_of}
use Rattle.hierarchy.specs.declared.summary.Summary.{Summary}
use Rattle.verify.specs.Files.{IsFormed, IsRefused}
use Rattle.verify.specs.Standing.{stands}
use Rattle.verify.specs.declared.files.FileFault.{FileFault}
use Rattle.answers.specs.Files.{Input, File, known_file}
use Rattle.serving.specs.declared.known.KnownFault.{KnownFault}
use Rattle.serving.specs.declared.known.KnownFault.TheVariants.{OutOfMemory, Refused, Twice}

-- The part that the program reads of a file with these bytes: the class that it begins with, and one byte more; or the
-- fault of its outline, and bytes in front of it.
abbrev pub IsReadOf : List ℕ → Input → Type 0
IsReadOf bytes file =
    ((given : List ℕ) × ReadsOn bytes given × (file ≡ record { bytes = Ok given; held = given }))
    ⊎ ((e : ReadFault) × (given : List ℕ) × OutlineFault bytes e × BeginsWith bytes given
    × (file ≡ record { bytes = Err e; held = given }))

-- a class that is known: the file, as it was read, and the class that the file is
pub record KnownClass : Type 0 where
  pub file : Input
  pub class : Class

abbrev pub summary : KnownClass → ClassFact
summary k = summary_of k.class

abbrev pub summaries : List KnownClass → List ClassFact
summaries known = map summary known

abbrev pub is_known : List KnownClass → List ℕ → Bool
is_known known name = is_some (class_of (summaries known) name)

-- the files of these classes
abbrev pub files : Profile → List KnownClass → List File
files profile known = map (λ k. known_file profile k.file) known

-- the known classes of other names
abbrev pub others : List ℕ → List KnownClass → List KnownClass
others name known = filter (λ k. not (bytes_eq name (summary k).name)) known

-- The known classes beside which a class is judged: those of other names that stand where it is in front of them. Each of
-- their superclasses is known or the class itself, up to Object, and none breaks a rule on the way.
abbrev pub standing_beside : ClassFact → List KnownClass → List KnownClass
standing_beside c known = filter (λ k. stands (c ∷ summaries (others c.name known)) (summary k)) (others c.name known)

-- each is the class in its file, which is well formed
abbrev pub AreKnown : Profile → List KnownClass → Type 0
AreKnown profile [] = Unit {0}
AreKnown profile (k ∷ ks) = IsFormed (known_file profile k.file).read k.class × AreKnown profile ks

-- The class in a file may become known: it is well formed, and no class of its name is known. Or it may not: the file
-- is refused, or one is known.
abbrev pub Admits : Profile → List KnownClass → Input → Result Summary KnownFault → Type 0
Admits profile known file (Ok s) = (c : Class) × IsFormed (known_file profile file).read c
    × (is_known known (summary_of c).name ≡ false) × (fact_of s ≡ summary_of c)
Admits profile known file (Err OutOfMemory) = Unit {0}
Admits profile known file (Err (Refused fault)) = IsRefused (known_file profile file).read fault
Admits profile known file (Err Twice) = (c : Class) × IsFormed (known_file profile file).read c
    × (is_known known (summary_of c).name ≡ true)

-- the classes in these files become known, one after the other: each may
abbrev pub BecomeKnown : Profile → List KnownClass → List Input → List KnownClass → Type 0
BecomeKnown profile old [] new = new ≡ old
BecomeKnown profile old (file ∷ files) new = (c : Class) × IsFormed (known_file profile file).read c
    × (is_known old (summary_of c).name ≡ false)
    × BecomeKnown profile (old ++ record { file = file; class = c } ∷ []) files new

-- The class in the file of this number, from 1 on, may not become known, for this reason; those before it do.
abbrev pub IsFirstNotKnown : Profile → List Input → ℕ → KnownFault → Type 0
IsFirstNotKnown profile files number fault = (i : ℕ) × (file : Input) × (known : List KnownClass) × (number ≡ i + 1)
    × (slice_get files i ≡ Some file) × BecomeKnown profile [] (take i files) known
    × Admits profile known file (Err fault)
