-- The lines of `explain` about the methods of a class: for each that is refused its line, the sentence on the number,
-- and the part of its code that is shown.
use Rattle.std.specs.Prelude.{ℕ, if◌then◌else◌, List, [], ◌∷◌, ◌++◌, take, drop, Option, Some, None, codes}
use Rattle.std.specs.List.{flat_map}
use Rattle.pool.specs.Entries.{Entry}
use Rattle.classfile.specs.Values.{CodeBody, Handler, Member}
use Rattle.classfile.specs.Methods.{code_of}
use Rattle.insn.specs.Decoding.{code_result}
use Rattle.frames.specs.FrameFact.{FrameFact}
use Rattle.rules.specs.Reasons.{reason_number}
use Rattle.printing.specs.Frames.{frame_lines, frame_fields}
use Rattle.printing.specs.CodeLines.{sizes_line, line_at, named_at, catch_line, size_fields, instruction_fields, named_fields_at, table_fields}
use Rattle.printing.specs.Json.{Field, fields_then, fields_behind, object_end}
use Rattle.verify.specs.declared.verdict.Verdict.{Verdict}
use Rattle.verify.specs.declared.verdict.Verdict.TheVariants.{Verified, NoCode, Refused}
use Rattle.verify.specs.declared.report.MethodVerdict.{MethodVerdict}
use Rattle.verify.specs.declared.frames_at.FramesAt.{FramesAt}
use Rattle.verify.specs.Coming.{FramesFact, before, frames_view}
use Rattle.answers.specs.Sentences.{reason_lines, reason_sentence_fields}
use Rattle.answers.specs.Details.{sought_by, is_arriving, entry_of, detail_line_of, detail_fields_of}

-- the entry at a place, if there is one
abbrev pub entry_at : List Handler → Option ℕ → List Handler
entry_at table None = []
entry_at table (Some place) = take 1 (drop place table)

-- the line of the entry at fault
abbrev pub entry_lines : List Entry → CodeBody → FramesFact → List ℕ
entry_lines pool body x = flat_map (catch_line pool) (entry_at body.exception_table (entry_of x.detail))

-- the lines of a frame under a label, if there is a frame
abbrev pub lines_if : List ℕ → Option FrameFact → List ℕ
lines_if label None = []
lines_if label (Some f) = frame_lines label f

-- the frame before an instruction; where the frame that comes is compared with the declared one, both
abbrev pub frames_for : FramesFact → List ℕ
frames_for x =
    if is_arriving x.detail then lines_if [] x.coming ++ lines_if (codes "declared ") x.declared
    else lines_if [] (before x.coming x.declared)

-- the lines of the code, as `show` has them: its sizes, the instruction at the offset with the constant that it names,
-- the frames there, what is wrong, and the entry of the exception table at fault
abbrev pub code_part : ℕ → List Entry → Option CodeBody → ℕ → FramesFact → List ℕ
code_part n pool None at x = []
code_part n pool (Some body) at x =
    sizes_line body ++ (line_at (code_result body.code) at
    ++ (named_at pool (code_result body.code) at
    ++ (frames_for x ++ (detail_line_of (sought_by n) x.detail ++ entry_lines pool body x))))

-- the explanation of a method with this line, this verdict and these frames at the instruction at which it is refused;
-- nothing where it is not refused
abbrev pub explanation : List Entry → Option CodeBody → List ℕ → Verdict → FramesFact → List ℕ
explanation pool body line Verified x = []
explanation pool body line NoCode x = []
explanation pool body line (Refused at why) x =
    line ++ (reason_lines why ++ code_part (reason_number why) pool body at x)

-- ---- as an object of JSON

-- the fields of a frame under these names, if there is a frame
abbrev pub fields_if : List ℕ → List ℕ → List ℕ → Option FrameFact → List Field
fields_if locals stack flags None = []
fields_if locals stack flags (Some f) = frame_fields locals stack flags f

abbrev pub frame_fields_of : Option FrameFact → List Field
frame_fields_of f = fields_if (codes "locals") (codes "stack") (codes "flags") f

abbrev pub declared_fields_of : Option FrameFact → List Field
declared_fields_of f = fields_if (codes "declared_locals") (codes "declared_stack") (codes "declared_flags") f

-- the frame before an instruction; where the frame that comes is compared with the declared one, both
abbrev pub frame_fields_for : FramesFact → List ℕ → List ℕ
frame_fields_for x rest =
    if is_arriving x.detail
    then fields_then (frame_fields_of x.coming) (fields_then (declared_fields_of x.declared) rest)
    else fields_then (frame_fields_of (before x.coming x.declared)) rest

-- the entry at a place, if there is one
abbrev pub entry_fields : List Entry → CodeBody → Option ℕ → List Field
entry_fields pool body None = []
entry_fields pool body (Some place) = table_fields pool (entry_at body.exception_table (Some place))

-- the fields of the code, and the end of the object
abbrev pub code_fields : List Entry → Option CodeBody → ℕ → FramesFact → List ℕ
code_fields pool None at x = object_end
code_fields pool (Some body) at x =
    fields_then (size_fields body) (fields_then (instruction_fields (code_result body.code) at)
    (fields_then (named_fields_at pool (code_result body.code) at)
    (frame_fields_for x (fields_then (detail_fields_of x.detail)
    (fields_behind (entry_fields pool body (entry_of x.detail)))))))

-- the object of a method whose first fields are written by `begun`, with this verdict and these frames at the
-- instruction at which it is refused; nothing where it is not refused
abbrev pub explanation_object : List Entry → Option CodeBody → (List ℕ → List ℕ) → Verdict → FramesFact → List ℕ
explanation_object pool body begun Verified x = []
explanation_object pool body begun NoCode x = []
explanation_object pool body begun (Refused at why) x =
    begun (fields_then (reason_sentence_fields why) (code_fields pool body at x))

-- ---- methods one after the other, with their verdicts and frames; `said` gives the text about each

abbrev pub explanations : (MethodVerdict → Option CodeBody → FramesFact → List ℕ) → List Member → List MethodVerdict
    → List FramesAt → List ℕ
explanations said [] rs xs = []
explanations said (m ∷ ms) [] xs = []
explanations said (m ∷ ms) (r ∷ rs) [] = []
explanations said (m ∷ ms) (r ∷ rs) (x ∷ xs) =
    said r (code_of m.attributes) (frames_view x) ++ explanations said ms rs xs
