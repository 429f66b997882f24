-- The command lines that the program knows, and what each asks for.
use Rattle.std.specs.Prelude.{◌≡◌, Bool, true, false, List, [], ◌∷◌, map, codes, Option, Some, Result, Ok, Err, string_bytes, bytes_eq, if◌then◌else◌, ◌++◌, ◌&&◌, nat_lt, None, ℕ, length}
use Rattle.std.specs.Option.{option_map, unwrap_or}
use Rattle.std.specs.Str.Parse.{digits_value, without_leading_plus}
use Rattle.clap.specs.Lexer.{usize_max}
use Rattle.clap.specs.ValueTests.{is_numeral}
use Rattle.clap.specs.declared.builder.value_parser.ValueParser.TheVariants.{Unsigned}
use Rattle.clap.specs.declared.builder.action.ArgAction.TheVariants.{SetTrue, Append}
use Rattle.clap.specs.declared.error.Error.{Error}
use Rattle.clap.specs.declared.error.kind.ErrorKind.TheVariants as kind
use Rattle.clap.specs.Words.{App, Row, Rule, Shape, Text, all_of, new_app, new_rule, with_rule, with_subcommand, subcommand_of, fault_of, Kinds, IsAmong, kind_of}
use Rattle.classfile.specs.declared.profile.Profile.{Profile}
use Rattle.classfile.specs.declared.profile.Profile.TheVariants.{Default, Dynamic, Release}
use Rattle.answers.specs.declared.command.Command.{Command}
use Rattle.answers.specs.declared.command.Command.TheVariants.{Check, Show, Verify, Explain, Play, VerifyEach}
use Rattle.answers.specs.declared.command.Form.{Form}
use Rattle.answers.specs.declared.command.Form.TheVariants.{Plain, Json}
use Rattle.command_line.specs.declared.line.Request.{Request}
use Rattle.command_line.specs.declared.line.Task.{Task}
use Rattle.command_line.specs.declared.line.Task.TheVariants.{Answer, Serve}
use Rattle.command_line.specs.declared.line.LineFault.{LineFault}
use Rattle.command_line.specs.declared.line.LineFault.TheVariants.{OutOfMemory, NoRequest}

-- one file, which must be there
abbrev pub file : Rule
file = record (new_rule (codes "FILE")) { required = true }

-- `--json`: objects of JSON in place of words
abbrev pub json : Rule
json = record (new_rule (codes "json")) { long = Some (codes "json"); action = Some SetTrue }

-- `--release N`: as Java SE N, of 7 to 27
abbrev pub release : Rule
release = record (new_rule (codes "N")) { long = Some (codes "release"); parser = Some (Unsigned 7 27) }

abbrev pub check : Shape
check = (with_rule (with_rule (with_rule (new_app (codes "check")) file) release) json).top

abbrev pub show : Shape
show = (with_rule (with_rule (new_app (codes "show")) file) release).top

-- the file of the class that is verified, and any number of files of classes that it may refer to
abbrev pub class_file : Rule
class_file = record (new_rule (codes "CLASS")) { required = true }

abbrev pub known_files : Rule
known_files = record (new_rule (codes "KNOWN")) {
  range =
      Some (record { start_inclusive = 0; end_inclusive = usize_max });
}

-- `--dynamic`: by the profile that judges dynamic calls and constants
abbrev pub dynamic : Rule
dynamic = record (new_rule (codes "dynamic")) { long = Some (codes "dynamic"); action = Some SetTrue }

abbrev pub verify : Shape
verify = (with_rule (with_rule (with_rule
    (with_rule (with_rule (new_app (codes "verify")) class_file) known_files) dynamic) release) json).top

-- `explain` takes the same words
abbrev pub explain : Shape
explain = (with_rule (with_rule (with_rule
    (with_rule (with_rule (new_app (codes "explain")) class_file) known_files) dynamic) release) json).top

-- the files of the classes that are in play, of which there is one at least
abbrev pub class_files : Rule
class_files = record (new_rule (codes "CLASS")) {
  required = true;
  range =
      Some (record { start_inclusive = 1; end_inclusive = usize_max });
}

abbrev pub play : Shape
play = (with_rule (with_rule (with_rule (with_rule (new_app (codes "play")) class_files) dynamic) release) json).top

-- any number of files of other classes that they may refer to, after `--known`
abbrev pub known_option : Rule
known_option = record (new_rule (codes "KNOWN")) {
  long = Some (codes "known");
  action = Some Append;
  range =
      Some (record { start_inclusive = 1; end_inclusive = usize_max });
}

abbrev pub verify_each : Shape
verify_each = (with_rule (with_rule (with_rule (with_rule
    (with_rule (new_app (codes "verify-each")) class_files) known_option) dynamic) release) json).top

-- the program itself, which prints its version, and takes one of the commands
abbrev pub program : App
program = record (new_app (codes "classck")) {
  top =
      record (new_app (codes "classck")).top { has_version = true; subcommand_required = true };
}

-- the commands of one file
abbrev pub line_of_file : App
line_of_file = with_subcommand (with_subcommand program check) show

-- the commands of a class and known ones after them
abbrev pub line_with_known : App
line_with_known = with_subcommand (with_subcommand line_of_file verify) explain

-- the commands above, and that of classes in play
abbrev pub line_with_play : App
line_with_play = with_subcommand line_with_known play

-- messages are answered, and no file is judged
abbrev pub serve : Shape
serve = (with_rule (with_rule (with_rule (with_rule (new_app (codes "serve")) known_option) dynamic) release) json).top

abbrev pub line_with_each : App
line_with_each = with_subcommand line_with_play verify_each

abbrev pub line : App
line = with_subcommand line_with_each serve

-- the words for the argument of this name
abbrev pub words_for : Text → List Row → List Text
words_for name rows = unwrap_or (all_of name rows) []

-- the files that the words after a command name
abbrev pub files_in : Command → List Row → List Text
files_in (Check form profile) rows = words_for (codes "FILE") rows
files_in (Show profile) rows = words_for (codes "FILE") rows
files_in (Verify form profile) rows = words_for (codes "CLASS") rows ++ words_for (codes "KNOWN") rows
files_in (Explain form profile) rows = words_for (codes "CLASS") rows ++ words_for (codes "KNOWN") rows
files_in (Play form profile) rows = words_for (codes "CLASS") rows
files_in (VerifyEach form profile classes) rows = words_for (codes "CLASS") rows ++ words_for (codes "KNOWN") rows

-- the files of a task
abbrev pub task_files : Task → List Row → List Text
task_files (Answer command) rows = files_in command rows
task_files (Serve form profile) rows = words_for (codes "KNOWN") rows

-- a flag is set where its one word is `true`
abbrev pub is_true : List Text → Bool
is_true (word ∷ []) = bytes_eq word (codes "true")
is_true _ = false

abbrev pub form_in : List Row → Form
form_in rows = if is_true (words_for (codes "json") rows) then Json else Plain

-- the number of eight bits that a word is
abbrev pub number_of : Text → Option ℕ
number_of word =
    let digits = without_leading_plus word in
    if is_numeral digits && nat_lt (digits_value 10 digits) 256 then Some (digits_value 10 digits) else None

-- the number after `--release`
abbrev pub release_of : List Text → Option ℕ
release_of (word ∷ []) = number_of word
release_of _ = None

-- as a release; or, where none is named, with dynamic calls or without them
abbrev pub profile_of : Option ℕ → Bool → Profile
profile_of (Some number) is_dynamic = Release number
profile_of None is_dynamic = if is_dynamic then Dynamic else Default

abbrev pub profile_in : List Row → Profile
profile_in rows = profile_of (release_of (words_for (codes "N") rows)) (is_true (words_for (codes "dynamic") rows))

-- the command of a name, with the form, the profile and the classes that the words after it ask for; `clap` takes no
-- other name than theirs
abbrev pub command_named : Text → List Row → Command
command_named name rows =
    if bytes_eq name (codes "show") then Show (profile_in rows)
    else if bytes_eq name (codes "verify") then Verify (form_in rows) (profile_in rows)
    else if bytes_eq name (codes "explain") then Explain (form_in rows) (profile_in rows)
    else if bytes_eq name (codes "play") then Play (form_in rows) (profile_in rows)
    else if bytes_eq name (codes "verify-each")
    then VerifyEach (form_in rows) (profile_in rows) (length (words_for (codes "CLASS") rows))
    else Check (form_in rows) (profile_in rows)

-- the task of a name
abbrev pub task_named : Text → List Row → Task
task_named name rows =
    if bytes_eq name (codes "serve") then Serve (form_in rows) (profile_in rows) else Answer (command_named name rows)

-- the request that the matches of a line make
abbrev pub asked : Option (Text × List Row) → Option (Task × List Text)
asked = option_map (λ p. (task_named p.0 p.1, task_files (task_named p.0 p.1) p.1))

-- the fault has one of these kinds, or memory ran out
abbrev pub IsFault : Kinds → LineFault → Type 0
IsFault kinds OutOfMemory = Unit {0}
IsFault kinds (NoRequest e) = IsAmong (kind_of e) kinds

-- The fault that stands for an error of `clap`: that memory ran out where the error says so, and otherwise the error
-- itself.
abbrev pub ToldBy : Error → LineFault → Type 0
ToldBy e OutOfMemory = kind_of e ≡ kind.OutOfMemory
ToldBy e (NoRequest f) = (f ≡ e) × (kind_of e ≡ kind.OutOfMemory → ⊥)

-- The request of these words, where `clap` takes them; otherwise one of the kinds of fault that it finds in them.
abbrev pub Asks : List Text → Result Request LineFault → Type 0
Asks words (Ok r) = (fault_of line words ≡ [])
    × (asked (subcommand_of line words) ≡ Some (r.task, map string_bytes r.files.items))
Asks words (Err e) = IsFault (fault_of line words) e
