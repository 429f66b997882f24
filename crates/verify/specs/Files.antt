-- Files as they were read, and which of them are classes that are well formed.
use Rattle.std.specs.Prelude.{◌≡◌, ℕ, ◌<◌, List, [], ◌∷◌, slice_get, Some, Result, Ok, Err}
use Rattle.layout.specs.declared.fault.ReadFault.{ReadFault}
use Rattle.classfile.specs.declared.versions.Versions.{Versions}
use Rattle.classfile.specs.Values.{Class}
use Rattle.classfile.specs.ClassFile.{IsClass, ClassFault}
use Rattle.classfile.specs.WellFormed.{WellFormed, IsFirstFault}
use Rattle.verify.specs.declared.files.FileRead.{FileRead}
use Rattle.verify.specs.declared.files.FileRead.TheVariants as reads
use Rattle.verify.specs.declared.files.FileRead.TheVariants.{Bytes}
use Rattle.verify.specs.declared.files.FileFault.{FileFault}
use Rattle.verify.specs.declared.files.FileFault.TheVariants.{OutOfMemory, Unread, NoClass, Malformed}

-- the bytes of a file, and the versions that its class may have
pub record FileBytes : Type 0 where
  pub bytes : List ℕ
  pub versions : Versions

-- a file as it was read: its bytes, or why it could not be
abbrev pub Read : Type 0
Read = Result FileBytes ReadFault

abbrev pub read_of : FileRead → Read
read_of (Bytes bytes versions) = Ok (record { bytes = bytes.now; versions = versions })
read_of (reads.Unread fault) = Err fault

-- the file is this class
abbrev pub IsDecoded : Read → Class → Type 0
IsDecoded (Ok file) c = IsClass file.versions file.bytes c
IsDecoded (Err fault) c = ⊥

-- the file is this class, which is well formed
abbrev pub IsFormed : Read → Class → Type 0
IsFormed (Ok file) c = IsClass file.versions file.bytes c × WellFormed c
IsFormed (Err fault) c = ⊥

-- The file is none for this reason: it could not be read; it is not a class; or the class breaks this rule first.
abbrev pub IsRefused : Read → FileFault → Type 0
IsRefused (Err fault) (Unread e) = fault ≡ e
IsRefused (Ok file) (NoClass e) = ClassFault file.versions file.bytes e
IsRefused (Ok file) (Malformed rule place) = (c : Class) × IsClass file.versions file.bytes c
    × IsFirstFault c rule place
IsRefused read fault = ⊥

-- the same, unless memory ran out
abbrev pub OrMemory : Read → FileFault → Type 0
OrMemory read OutOfMemory = Unit {0}
OrMemory read fault = IsRefused read fault

-- the classes that the files are
abbrev pub AreFormed : List Read → List Class → Type 0
AreFormed [] [] = Unit {0}
AreFormed (read ∷ reads) (c ∷ cs) = IsFormed read c × AreFormed reads cs
AreFormed _ _ = ⊥

-- the first file that is refused
pub record IsFirstRefused (reads : List Read) (i : ℕ) (fault : FileFault) : Type 0 where
  pub read : Read
  pub here : slice_get reads i ≡ Some read
  pub refused : IsRefused read fault
  pub earlier : (j : ℕ) → j < i → (other : Read) → slice_get reads j ≡ Some other → (c : Class) × IsFormed other c
