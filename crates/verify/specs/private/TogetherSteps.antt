-- Words of the code's own steps from files to classes in play: nothing that a reader must believe rests on them.
use Rattle.std.specs.Prelude.{ℕ, ◌<◌, List, [], ◌∷◌, length, take, map, Option, Some, None}
use Rattle.classfile.specs.Values.{Class}
use Rattle.classfile.specs.declared.profile.Profile.{Profile}
use Rattle.classfile.specs.declared.class_file.ClassFile.{ClassFile}
use Rattle.classfile.specs.Views.{class_view}
use Rattle.classfile.specs.WellFormed.{WellFormed}
use Rattle.verify.specs.declared.play.PlayStop.{PlayStop}
use Rattle.verify.specs.declared.play.PlayStop.TheVariants.{OutOfMemory, Broken, Refused}
use Rattle.verify.specs.declared.classes_in_play.TogetherFault.{TogetherFault}
use Rattle.verify.specs.Files.{Read, IsDecoded}
use Rattle.verify.specs.Together.{NotTogether}

-- the classes that the files are
abbrev pub AreDecoded : List Read → List Class → Type 0
AreDecoded [] [] = Unit {0}
AreDecoded (read ∷ reads) (c ∷ cs) = IsDecoded read c × AreDecoded reads cs
AreDecoded _ _ = ⊥

abbrev pub AreWellFormed : List Class → Type 0
AreWellFormed [] = Unit {0}
AreWellFormed (c ∷ cs) = WellFormed c × AreWellFormed cs

-- All files are classes. Or those in front of one are, and this is the fault of that one, unless one of those is not
-- well formed.
abbrev pub DecodesAll : List Read → List Class → Option TogetherFault → Type 0
DecodesAll reads cs None = AreDecoded reads cs
DecodesAll reads cs (Some fault) = AreDecoded (take (length cs) reads) cs
    × (AreWellFormed cs → (profile : Profile) → NotTogether profile reads fault)

abbrev pub views : List ClassFile → List Class
views classes = map (λ c. class_view c) classes

-- the fault is that of one of so many classes
abbrev pub IsWithin : ℕ → PlayStop → Type 0
IsWithin n OutOfMemory = Unit {0}
IsWithin n (Broken class rule) = class < n
IsWithin n (Refused class number method) = class < n
