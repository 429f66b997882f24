-- The line of a constant of the constant pool: its index, its kind by the name of the standard, the numbers that it
-- holds, and the texts that these lead to (JVMS 4.4).
use Rattle.std.specs.Prelude.{ℕ, ◌-◌, nat_eq, if◌then◌else◌, List, [], ◌∷◌, ◌++◌, codes, decimal, Option, Some, None, Result, Ok, Err, slice_get}
use Rattle.std.specs.Option.{option_map_or}
use Rattle.pool.specs.declared.fault.PoolFault.{PoolFault}
use Rattle.pool.specs.Entries.{Entry, Utf8, Integer, Float, Long, Double, Class, String, Fieldref, Methodref, InterfaceMethodref, NameAndType, MethodHandle, MethodType, Dynamic, InvokeDynamic, Unusable}
use Rattle.pool.specs.Kinds.{kind_number}
use Rattle.pool.specs.Lookups.{Named, text_at, class_name_at, name_and_type_at}
use Rattle.insn.specs.Instructions.{Instruction, Operands, constant, index, invoke_interface, invoke_dynamic, multi_new_array}
use Rattle.printing.specs.NamesIn.{name_in}
use Rattle.printing.specs.declared.names_in.Within.{Within}
use Rattle.printing.specs.declared.names_in.Within.TheVariants.{Words, Json}
use Rattle.printing.specs.InstructionLines.{number_text, index_text}
use Rattle.printing.specs.Json.{Field, written}

-- a text after a blank; nothing where there is none
abbrev pub behind : Within → Result (List ℕ) PoolFault → List ℕ
behind within (Ok bytes) = codes " " ++ name_in within bytes
behind within (Err fault) = []

abbrev pub both_behind : Within → Result Named PoolFault → List ℕ
both_behind within (Ok n) = codes " " ++ (name_in within n.name ++ (codes " " ++ name_in within n.descriptor))
both_behind within (Err fault) = []

-- the text at an index, after the index
abbrev pub text_behind : Within → List Entry → ℕ → List ℕ
text_behind within pool i = index_text i ++ behind within (text_at pool i)

-- a member of a class, after two indices
abbrev pub member_behind : Within → List Entry → ℕ → ℕ → List ℕ
member_behind within pool class name_and_type =
    index_text class ++ (index_text name_and_type
    ++ (behind within (class_name_at pool class) ++ both_behind within (name_and_type_at pool name_and_type)))

-- by the number of a bootstrap method
abbrev pub bootstrap_behind : Within → List Entry → ℕ → ℕ → List ℕ
bootstrap_behind within pool bootstrap name_and_type =
    number_text bootstrap ++ (index_text name_and_type ++ both_behind within (name_and_type_at pool name_and_type))

abbrev pub entry_text : Within → List Entry → Entry → List ℕ
entry_text within pool (Utf8 bytes) = codes "Utf8 " ++ name_in within bytes
entry_text within pool (Integer bits) = codes "Integer"
entry_text within pool (Float bits) = codes "Float"
entry_text within pool (Long high low) = codes "Long"
entry_text within pool (Double high low) = codes "Double"
entry_text within pool (Class name) = codes "Class" ++ text_behind within pool name
entry_text within pool (String text) = codes "String" ++ text_behind within pool text
entry_text within pool (Fieldref class name_and_type) =
    codes "Fieldref" ++ member_behind within pool class name_and_type
entry_text within pool (Methodref class name_and_type) =
    codes "Methodref" ++ member_behind within pool class name_and_type
entry_text within pool (InterfaceMethodref class name_and_type) =
    codes "InterfaceMethodref" ++ member_behind within pool class name_and_type
entry_text within pool (NameAndType name descriptor) =
    codes "NameAndType" ++ (index_text name
    ++ (index_text descriptor ++ (behind within (text_at pool name) ++ behind within (text_at pool descriptor))))
entry_text within pool (MethodHandle kind reference) =
    codes "MethodHandle" ++ (number_text (kind_number kind) ++ index_text reference)
entry_text within pool (MethodType descriptor) = codes "MethodType" ++ text_behind within pool descriptor
entry_text within pool (Dynamic bootstrap name_and_type) =
    codes "Dynamic" ++ bootstrap_behind within pool bootstrap name_and_type
entry_text within pool (InvokeDynamic bootstrap name_and_type) =
    codes "InvokeDynamic" ++ bootstrap_behind within pool bootstrap name_and_type
entry_text within pool Unusable = codes "second index of the constant before"

abbrev pub entry_line : List Entry → ℕ → Entry → List ℕ
entry_line pool i entry = codes "  constant "
    ++ (decimal i ++ (codes " " ++ (entry_text Words pool entry ++ codes "\n")))

-- indices begin with 1 (4.1)
abbrev pub standing : List Entry → ℕ → Option Entry
standing pool i = if nat_eq i 0 then None else slice_get pool (i - 1)

-- nothing where no constant stands
abbrev pub constant_line : List Entry → ℕ → List ℕ
constant_line pool i = option_map_or (entry_line pool i) (standing pool i) []

-- ---- the constant that an instruction names

abbrev pub index_in : Operands → Option ℕ
index_in (constant i) = Some i
index_in (index i) = Some i
index_in (invoke_interface i count) = Some i
index_in (invoke_dynamic i) = Some i
index_in (multi_new_array i dimensions) = Some i
index_in operands = None

abbrev pub named_line : List Entry → Instruction → List ℕ
named_line pool instruction = option_map_or (constant_line pool) (index_in instruction.operands) []

-- ---- the constant that an instruction names, as a field of an object of JSON

abbrev pub entry_string : List Entry → ℕ → Entry → List ℕ
entry_string pool i entry = decimal i ++ (codes " " ++ entry_text Json pool entry)

abbrev pub entry_field : List Entry → ℕ → Entry → List Field
entry_field pool i entry = (codes "constant", written (entry_string pool i entry)) ∷ []

abbrev pub constant_fields : List Entry → ℕ → List Field
constant_fields pool i = option_map_or (entry_field pool i) (standing pool i) []

abbrev pub named_fields : List Entry → Instruction → List Field
named_fields pool instruction = option_map_or (constant_fields pool) (index_in instruction.operands) []
