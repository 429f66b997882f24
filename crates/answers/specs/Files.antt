-- Files as the program read them.
use Rattle.std.specs.Prelude.{ℕ, ◌≤◌, List, map, Result, Ok, Err, Vec}
use Rattle.classfile.specs.Versions.{judged_versions, known_versions}
use Rattle.classfile.specs.declared.profile.Profile.{Profile}
use Rattle.classfile.specs.declared.versions.Versions.{Versions}
use Rattle.classfile.specs.declared.reading.CutShort.{CutShort}
use Rattle.layout.specs.declared.fault.ReadFault.{ReadFault}
use Rattle.layout.specs.declared.fault.ReadFault.TheVariants as reading
use Rattle.verify.specs.declared.files.FileFault.{FileFault}
use Rattle.verify.specs.declared.files.FileFault.TheVariants.{Unread}
use Rattle.verify.specs.declared.known_classes.AmongFault.{AmongFault}
use Rattle.verify.specs.declared.known_classes.AmongFault.TheVariants.{KnownRefused}
use Rattle.verify.specs.Files.{Read}
use Rattle.answers.specs.declared.reads.InputFile.{InputFile}
use Rattle.answers.specs.declared.reads.InputFiles.{InputFiles}

-- a file as the program read it
pub record Input : Type 0 where
  -- its bytes, or why it was not read to the end of its class
  pub bytes : Result (List ℕ) ReadFault
  -- the bytes that were read of it
  pub held : List ℕ

abbrev pub input_view : {Z : Type 0} → Result (Vec ℕ Z) CutShort → Input
input_view (Ok bytes) = record { bytes = Ok bytes.items; held = bytes.items }
input_view (Err cut) = record { bytes = Err cut.why; held = cut.bytes.items }

-- a file that the program read, whose class may have these versions
pub record File : Type 0 where
  pub read : Read
  -- the bytes that were read of it
  pub held : List ℕ
  pub versions : Versions

abbrev pub read_with : Versions → Result (List ℕ) ReadFault → Read
read_with versions (Ok bytes) = Ok (record { bytes = bytes; versions = versions })
read_with versions (Err fault) = Err fault

abbrev pub file_with : Versions → Input → File
file_with versions input = record {
  read = read_with versions input.bytes;
  held = input.held;
  versions = versions;
}

-- a file whose class is judged by a profile
abbrev pub judged_file : Profile → Input → File
judged_file profile = file_with (judged_versions profile)

-- a file with a class that is read, and not judged
abbrev pub known_file : Profile → Input → File
known_file profile = file_with (known_versions profile)

abbrev pub reads_of : List File → List Read
reads_of files = map (λ file. file.read) files

-- ---- in the code

abbrev pub input_file : {Z : Type 0} → Versions → Result (Vec ℕ Z) CutShort → File
input_file versions read = file_with versions (input_view read)

abbrev pub input_read : {Z : Type 0} → Versions → Result (Vec ℕ Z) CutShort → Read
input_read versions read = (input_file versions read).read

abbrev pub file_view : InputFile → File
file_view file = input_file file.versions file.read.now

abbrev pub read_view : InputFile → Read
read_view file = (file_view file).read

abbrev pub files_view : InputFiles → List File
files_view files = map (input_file files.versions) files.reads.now

-- the status where a file could not be read
abbrev pub read_status : ReadFault → ℕ
read_status (reading.ReadFailed at) = 2
read_status e = 1

abbrev pub refusal_status : FileFault → ℕ
refusal_status (Unread e) = read_status e
refusal_status fault = 1

-- a fault of a known class has its number, from 1 up to how many there are
abbrev pub CountsKnown : AmongFault → ℕ → Type 0
CountsKnown (KnownRefused number fault) count = (1 ≤ number) × (number ≤ count)
CountsKnown fault count = Unit {0}
