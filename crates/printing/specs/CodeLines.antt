-- The lines of a method's code: its sizes, its instructions, or why it is none, and its handlers (JVMS 4.7.3); and the
-- fields of an object of JSON that say what these lines say.
use Rattle.std.specs.Prelude.{ℕ, nat_eq, if◌then◌else◌, List, [], ◌∷◌, ◌++◌, map, codes, decimal, Option, Some, None, Ok, Err}
use Rattle.std.specs.List.{flat_map}
use Rattle.std.specs.Option.{option_map_or}
use Rattle.pool.specs.Entries.{Entry}
use Rattle.classfile.specs.Values.{Handler, CodeBody}
use Rattle.insn.specs.declared.fault.CodeFault.{CodeFault}
use Rattle.insn.specs.Offsets.{at_offset}
use Rattle.insn.specs.Decoding.{CodeResult, code_result}
use Rattle.insn.specs.Instructions.{Instruction}
use Rattle.printing.specs.Faults.{code_fault_text}
use Rattle.printing.specs.InstructionLines.{instruction_text, instruction_line}
use Rattle.printing.specs.Constants.{named_line, named_fields}
use Rattle.printing.specs.Json.{Field, number, written, strings}
use Rattle.printing.specs.NamesIn.{class_in}
use Rattle.printing.specs.declared.names_in.Within.{Within}
use Rattle.printing.specs.declared.names_in.Within.TheVariants.{Words, Json}

abbrev pub sizes_line : CodeBody → List ℕ
sizes_line body = codes "  stack "
    ++ (decimal body.max_stack ++ (codes " locals " ++ (decimal body.max_locals ++ codes "\n")))

-- all instructions; or why the code is none, and then no instruction
abbrev pub result_lines : CodeResult → List ℕ
result_lines (Ok instructions) = flat_map instruction_line instructions
result_lines (Err fault) = codes "  code refused " ++ (code_fault_text fault ++ codes "\n")

-- the line of the instruction that begins at this offset, if one does and the code is not refused
abbrev pub line_at : CodeResult → ℕ → List ℕ
line_at (Ok instructions) at =
    option_map_or (λ instruction. instruction_line (at, instruction)) (at_offset instructions at) []
line_at (Err fault) at = []

-- the line of the constant that it names, if it names one
abbrev pub named_at : List Entry → CodeResult → ℕ → List ℕ
named_at pool (Ok instructions) at = option_map_or (named_line pool) (at_offset instructions at) []
named_at pool (Err fault) at = []

-- the class that is caught; 0 stands for all classes
abbrev pub caught_text : Within → List Entry → ℕ → List ℕ
caught_text within pool index = if nat_eq index 0 then codes "any" else class_in within pool index

-- the range that an entry covers, from its start up to its end, and its handler
abbrev pub range_text : Handler → List ℕ
range_text h = decimal h.start_pc ++ (codes " " ++ (decimal h.end_pc ++ (codes " " ++ decimal h.handler_pc)))

abbrev pub catch_line : List Entry → Handler → List ℕ
catch_line pool h = codes "  catch "
    ++ (range_text h ++ (codes " " ++ (caught_text Words pool h.catch_type ++ codes "\n")))

-- an entry of the exception table as a string of JSON
abbrev pub catch_string : List Entry → Handler → List ℕ
catch_string pool h = range_text h ++ (codes " " ++ caught_text Json pool h.catch_type)

abbrev pub code_lines : List Entry → CodeBody → List ℕ
code_lines pool body = sizes_line body
    ++ (result_lines (code_result body.code) ++ flat_map (catch_line pool) body.exception_table)

-- why the code is refused, if it is
abbrev pub fault_of : CodeResult → Option CodeFault
fault_of (Ok instructions) = None
fault_of (Err fault) = Some fault

-- ---- as fields of an object of JSON

abbrev pub size_fields : CodeBody → List Field
size_fields body = (codes "max_stack", number body.max_stack) ∷ (codes "max_locals", number body.max_locals) ∷ []

abbrev pub instruction_field : ℕ × Instruction → List Field
instruction_field x = (codes "instruction", written (instruction_text x)) ∷ []

-- the instruction that begins at this offset, if one does and the code is not refused
abbrev pub instruction_fields : CodeResult → ℕ → List Field
instruction_fields (Ok instructions) at =
    option_map_or (λ instruction. instruction_field (at, instruction)) (at_offset instructions at) []
instruction_fields (Err fault) at = []

-- the constant that it names, if it names one
abbrev pub named_fields_at : List Entry → CodeResult → ℕ → List Field
named_fields_at pool (Ok instructions) at = option_map_or (named_fields pool) (at_offset instructions at) []
named_fields_at pool (Err fault) at = []

abbrev pub table_fields : List Entry → List Handler → List Field
table_fields pool handlers = (codes "exception_table", strings (map (catch_string pool) handlers)) ∷ []
