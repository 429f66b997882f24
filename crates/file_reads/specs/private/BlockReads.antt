-- Words of the steps by which a file is read block by block. What the reader had before the first of them is known, or
-- it is not.
use Rattle.std.specs.Prelude.{List, ℕ, Option, IfSome}
use Rattle.layout.specs.declared.fault.ReadFault.{ReadFault}
use Rattle.classfile.specs.Outline.{OutlineFault, IsLostOr}
use Rattle.file_reads.specs.FileReads.{ReadsOn, BeginsWith}

-- these bytes are the part of the file that is read
abbrev pub IsReadOf : Option (List ℕ) → List ℕ → Type 0
IsReadOf before given = IfSome before (λ file. ReadsOn file given)

-- the file begins with these bytes, and this is why no more were read
abbrev pub IsCutOf : Option (List ℕ) → List ℕ → ReadFault → Type 0
IsCutOf before given why = IfSome before (λ file. BeginsWith file given × IsLostOr (OutlineFault file) why)
