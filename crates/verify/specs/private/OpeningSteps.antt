-- Words of the code's own steps from files to classes that are well formed: nothing that a reader must believe rests on
-- them.
use Rattle.std.specs.Prelude.{List, [], ◌∷◌, Result, Ok, Err, MatchResult}
use Rattle.classfile.specs.declared.class_file.ClassFile.{ClassFile}
use Rattle.classfile.specs.declared.form.Formed.{Formed}
use Rattle.classfile.specs.Views.{class_view}
use Rattle.verify.specs.declared.files.FileFault.{FileFault}
use Rattle.verify.specs.Files.{Read, IsDecoded, IsFormed, OrMemory}

-- it holds of each thing and the other at its place
abbrev pub Each : {A B : Type 0} → (A → B → Type 0) → List A → List B → Type 0
Each R [] [] = Unit {0}
Each R (a ∷ xs) (b ∷ ys) = R a b × Each R xs ys
Each R [] (b ∷ ys) = ⊥
Each R (a ∷ xs) [] = ⊥

-- the class file that a file is, or why it is none
abbrev pub IsDecodedOr : Read → Result ClassFile FileFault → Type 0
IsDecodedOr read result = MatchResult result (λ class. IsDecoded read (class_view class)) (OrMemory read)

abbrev pub AreDecodedEach : List Read → List (Result ClassFile FileFault) → Type 0
AreDecodedEach = Each IsDecodedOr

-- the class that a file is, which is well formed, or why it is none
abbrev pub IsOpened : Read → Result Formed FileFault → Type 0
IsOpened read (Ok formed) = IsFormed read (class_view formed.class.now)
IsOpened read (Err fault) = OrMemory read fault

abbrev pub AreOpened : List Read → List (Result Formed FileFault) → Type 0
AreOpened = Each IsOpened
