-- The files of a call: bytes that hold them one after the other, and how the program reads each.
use Rattle.std.specs.Prelude.{◌≡◌, ℕ, ◌+◌, List, [], ◌∷◌, length, ◌⊎◌, Ok, Err}
use Rattle.std.specs.List.{flat_map}
use Rattle.layout.specs.declared.fault.ReadFault.{ReadFault}
use Rattle.classfile.specs.Outline.{OutlineFault}
use Rattle.file_reads.specs.FileReads.{ReadsOn, BeginsWith}
use Rattle.answers.specs.Files.{Input}

-- where each of the files ends, of which the first begins at `start`
abbrev pub ends_from : ℕ → List (List ℕ) → List ℕ
ends_from start [] = []
ends_from start (file ∷ files) = (start + length file) ∷ ends_from (start + length file) files

-- the bytes are these files one after the other, and the ends are where these end
pub record AreFiles (bytes ends : List ℕ) (files : List (List ℕ)) : Type 0 where
  pub whole : bytes ≡ flat_map (λ file. file) files
  pub places : ends ≡ ends_from 0 files

-- The part that the program reads of a file with these bytes: the class that it begins with, and one byte more; or the fault of
-- its outline, and bytes in front of it.
abbrev pub IsReadOf : List ℕ → Input → Type 0
IsReadOf bytes file =
    ((given : List ℕ) × ReadsOn bytes given × (file ≡ record { bytes = Ok given; held = given }))
    ⊎ ((e : ReadFault) × (given : List ℕ) × OutlineFault bytes e × BeginsWith bytes given
    × (file ≡ record { bytes = Err e; held = given }))

-- what it reads of each
abbrev pub AreReads : List (List ℕ) → List Input → Type 0
AreReads [] [] = Unit {0}
AreReads (bytes ∷ others) (file ∷ files) = IsReadOf bytes file × AreReads others files
AreReads _ _ = ⊥
