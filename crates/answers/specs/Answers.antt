-- The answer to a command: a text and a status.
use Rattle.std.specs.Prelude.{◌≡◌, ◌⊎◌, ℕ, Bool, true, false, List, [], ◌∷◌, map, take, drop, if◌then◌else◌, Option, Result, Ok, Err}
use Rattle.std.specs.List.{list_any}
use Rattle.std.specs.Io.KnownBytes.{Appends, Keeps}
use Rattle.layout.specs.declared.fault.ReadFault.{ReadFault}
use Rattle.layout.specs.declared.fault.ReadFault.TheVariants as reading
use Rattle.classfile.specs.Values.{Class}
use Rattle.printing.specs.Classes.{class_lines, has_refused}
use Rattle.printing.specs.Writing.{AppendsFront}
use Rattle.verify.specs.declared.files.FileFault.{FileFault}
use Rattle.verify.specs.Files.{Read, IsFormed, IsRefused}
use Rattle.answers.specs.Files.{Input, judged_file, known_file, reads_of, refusal_status}
use Rattle.answers.specs.Verdicts.{VerifySays}
use Rattle.answers.specs.Plays.{PlaySays}
use Rattle.answers.specs.Judgements.{EachSays}
use Rattle.answers.specs.Texts.{ok_line, refusal_line}
use Rattle.answers.specs.declared.fault.AnswerFault.{AnswerFault}
use Rattle.answers.specs.declared.fault.AnswerFault.TheVariants.{OutOfMemory, WriteFailed}
use Rattle.answers.specs.declared.command.Command.{Command}
use Rattle.answers.specs.declared.command.Command.TheVariants.{Check, Show, Verify, Explain, Play, VerifyEach}
use Rattle.answers.specs.declared.command.Form.{Form}
use Rattle.answers.specs.declared.command.Form.TheVariants.{Plain}
use Rattle.answers.specs.declared.manner.Manner.TheVariants as manners

-- The answer about a file: the text and the status for its class, or why it has no class that is well formed.
abbrev pub FileSays : Form → (Class → List ℕ → ℕ → Type 0) → Read → List ℕ → ℕ → Type 0
FileSays form Tells read text status =
    ((c : Class) × IsFormed read c × Tells c text status)
    ⊎ ((r : FileFault) × IsRefused read r × (text ≡ refusal_line form r) × (status ≡ refusal_status r))

-- the answer to `check` about a class that is well formed
abbrev pub CheckTells : Form → Class → List ℕ → ℕ → Type 0
CheckTells form c text status = (text ≡ ok_line form) × (status ≡ 0)

-- the answer to `show`: what the class holds, and by the status whether the code of a method is refused
abbrev pub ShowTells : Class → List ℕ → ℕ → Type 0
ShowTells c text status = (text ≡ class_lines c) × (status ≡ (if has_refused c then 1 else 0))

-- The text and the status that answer a command about these files. Without files the text is empty, and the status 0.
abbrev pub Says : Command → List Input → List ℕ → ℕ → Type 0
Says command [] text status = (text ≡ []) × (status ≡ 0)
Says (Check form profile) (file ∷ others) text status =
    FileSays form (CheckTells form) (known_file profile file).read text status
Says (Show profile) (file ∷ others) text status =
    FileSays Plain ShowTells (known_file profile file).read text status
Says (Verify form profile) (file ∷ known) text status =
    VerifySays (manners.Told form) profile (judged_file profile file) (map (known_file profile) known) text status
Says (Explain form profile) (file ∷ known) text status =
    VerifySays (manners.Explained form) profile (judged_file profile file) (map (known_file profile) known) text status
Says (Play form profile) files text status =
    PlaySays form profile (reads_of (map (judged_file profile) files)) text status
Says (VerifyEach form profile classes) files text status =
    EachSays form profile (reads_of (map (judged_file profile) (take classes files)))
    (reads_of (map (known_file profile) (drop classes files))) text status

-- The bytes that a writer holds after an answer: the whole text was written; or nothing, where memory ran out; or a
-- prefix of the text, where a write failed.
abbrev pub Answered : (List ℕ → ℕ → Type 0) → Option (List ℕ) → Option (List ℕ) → Result ℕ AnswerFault → Type 0
Answered Told old new (Ok status) = (text : List ℕ) × Told text status × Appends old new text
Answered Told old new (Err OutOfMemory) = Keeps old new
Answered Told old new (Err WriteFailed) = (text : List ℕ) × (status : ℕ) × Told text status × AppendsFront old new text

abbrev pub is_want_of_memory : Result (List ℕ) ReadFault → Bool
is_want_of_memory (Err reading.OutOfMemory) = true
is_want_of_memory bytes = false

-- memory ran out while the file was read
abbrev pub is_lost : Input → Bool
is_lost file = is_want_of_memory file.bytes

-- memory ran out while one of the files was read
abbrev pub has_lost : List Input → Bool
has_lost files = list_any is_lost files
