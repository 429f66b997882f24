-- The name of each number of a refusal, and one sentence that says what is wrong.
use Rattle.std.specs.Prelude.{ℕ, nat_eq, List, [], ◌∷◌, ◌++◌, codes, decimal, find}
use Rattle.std.specs.Option.{option_map_or}
use Rattle.layout.specs.Refusals.{read_fault_number}
use Rattle.layout.specs.declared.fault.ReadFault.{ReadFault}
use Rattle.layout.specs.declared.fault.ReadFault.TheVariants.{BadVersion}
use Rattle.classfile.specs.declared.form_fault.FormRule.{FormRule}
use Rattle.classfile.specs.declared.form_fault.FormRule.TheVariants.{WrongKind, Twice}
use Rattle.classfile.specs.declared.versions.Versions.{Versions}
use Rattle.classfile.specs.declared.versions.Versions.TheVariants.{Java7To17, Release}
use Rattle.classfile.specs.Conditions.{rule_number}
use Rattle.rules.specs.declared.reason.Reason.{Reason}
use Rattle.rules.specs.declared.reason.Reason.TheVariants.{BadStackMap, BadCode}
use Rattle.rules.specs.Reasons.{reason_number}
use Rattle.printing.specs.Json.{Field, word}
use Rattle.verify.specs.declared.files.FileFault.{FileFault}
use Rattle.verify.specs.declared.files.FileFault.TheVariants.{OutOfMemory, Unread, NoClass, Malformed}

-- the texts for refusals of files, of classes that are not well formed, of hierarchies, and of methods
abbrev pub sentences : List (ℕ × List ℕ)
sentences =
    (1, codes "OutOfMemory: memory ran out")
    ∷ (2, codes "EndsEarly: the number or part that begins there is not whole")
    ∷ (3, codes "BadText: a text is no modified UTF-8 from this byte on")
    ∷ (7, codes "BadTag: the byte is no tag that a constant may have there, or no kind of a method handle")
    ∷ (10, codes "BadMagic: the file does not begin with CAFEBABE")
    ∷ (11, codes "BadVersion: the version is none of 51 to 55, nor of 56 to 61 with minor version 0")
    ∷ (12, codes "AttributeLength: the attribute that begins there does not use exactly its length")
    ∷ (13, codes "BytesAfter: bytes stand behind the class")
    ∷ (14, codes "TooLong: the part that begins there would pass 16,777,216 bytes")
    ∷ (15, codes "ReadFailed: the file could not be read on from there")
    ∷ (16, codes "BadPoolCount: the count of the constant pool is 0")
    ∷ (20, codes "BadIndex: an index is 0 where it may not be, past the constant pool, or the second one of a Long or Double")
    ∷ (21, codes "WrongKind: an index leads to another kind of constant than it should, or a Dynamic stands in a class below major version 55")
    ∷ (22, codes "BadName: a name is not of its form, or is none that may stand there")
    ∷ (23, codes "BadDescriptor: a descriptor is not of its form, passes its limits, or is none that the method may have")
    ∷ (24, codes "BadFlags: access flags stand together that may not, or one stands without another that it needs")
    ∷ (25, codes "Twice: an earlier field or method has this name and descriptor")
    ∷ (26, codes "CodeMissing: the method has no Code attribute and must have one")
    ∷ (27, codes "CodeNotAllowed: the method has a Code attribute and may have none")
    ∷ (28, codes "BadSuper: the superclass is missing, or is none that the class may have")
    ∷ (29, codes "BadCodeLength: the length of the code is not 1 to 65,535 bytes")
    ∷ (30, codes "AttributeTwice: two attributes stand of a kind of which there may be one")
    ∷ (40, codes "ClassTwice: the files have more than one class of this name")
    ∷ (41, codes "Cycle: the class stands on the chain of its own superclasses")
    ∷ (42, codes "SuperMissing: the superclass of the class is not among the files")
    ∷ (43, codes "NoObject: java/lang/Object is absent, is an interface, or has a superclass")
    ∷ (44, codes "BadArrayInterface: java/lang/Cloneable or java/io/Serializable is no interface")
    ∷ (45, codes "TooManyClasses: there are more than 65,535 classes")
    ∷ (46, codes "InterfaceSuper: the superclass of the interface is not java/lang/Object")
    ∷ (47, codes "BadFrameType: the byte there is no frame type of a stack map")
    ∷ (48, codes "BadTypeTag: the byte there is no tag of a verification type")
    ∷ (60, codes "NotSupported: the instruction is jsr, jsr_w or ret, or one that only --dynamic judges")
    ∷ (61, codes "MissingOperand: the stack holds fewer operands than the instruction takes")
    ∷ (62, codes "WrongOperand: an operand is of another type than the instruction takes")
    ∷ (63, codes "WrongLocal: the local variable that the instruction reads is of another type")
    ∷ (64, codes "LocalOutOfRange: the local variable, or at 0 the receiver with the parameters, passes max_locals")
    ∷ (65, codes "StackOver: the stack after the instruction passes max_stack")
    ∷ (66, codes "WrongConstant: the constant, or the byte, is none that the instruction may have")
    ∷ (67, codes "NoFrameAtTarget: the stack map declares no frame at a target of the instruction")
    ∷ (68, codes "NotAssignableAtTarget: the frame after the instruction is not assignable to the one that is declared at a target")
    ∷ (69, codes "NotAssignable: the frame that comes to the instruction is not assignable to the one that is declared there")
    ∷ (70, codes "NoFrame: the instruction before never goes on, and the stack map declares no frame here")
    ∷ (71, codes "FallsOff: the last instruction of the code goes on")
    ∷ (72, codes "BadException: an entry of the exception table has a wrong range or handler, or catches what is no Throwable")
    ∷ (73, codes "HandlerNotAssignable: the frame before the instruction is not assignable to the one that is declared at a handler which covers it")
    ∷ (74, codes "OwnObjectNotReady: the constructor returns before its own object is initialized")
    ∷ (75, codes "ConstructorCovered: an entry of the exception table covers the call of a constructor on the own object")
    ∷ (76, codes "WrongReturn: the return is of another kind than the result of the method")
    ∷ (77, codes "ClassMissing: a comparison of types needs the class of this name, which is not among the files")
    ∷ (78, codes "BadStackMap: the stack map is refused")
    ∷ (79, codes "BadCode: the code is refused at this instruction")
    ∷ (81, codes "FinalSuper: the superclass of the class is final")
    ∷ (82, codes "ProtectedMember: a protected member of another package is used on an object that is not assignable to the current class")
    ∷ (85, codes "FinalOverridden: the method overrides a final method of a class above, which it may not")
    ∷ (86, codes "NotDirectInterface: invokespecial calls a method of an interface that is neither the class itself nor one of its direct superinterfaces")
    ∷ (87, codes "BadDebugTable: a row of a debug table passes the code or the local variables, is not of its form, or stands twice")
    ∷ (90, codes "BadBootstrap: the class has no bootstrap method for the constant, or one whose handle or arguments may not be used")
    ∷ []

-- the texts for faults of stack maps (after 78) and of code (after 79)
abbrev pub fault_sentences : List (ℕ × List ℕ)
fault_sentences =
    (2, codes "EndsEarly: the stack map ends within an entry")
    ∷ (8, codes "BadIndex: an index is 0, past the constant pool, or the second one of a Long or Double")
    ∷ (9, codes "WrongKind: a constant of another kind than Class stands at an index")
    ∷ (12, codes "AttributeLength: bytes stand behind the last entry")
    ∷ (31, codes "BadOpcode: the byte is no opcode")
    ∷ (32, codes "CutInstruction: the code ends inside the instruction")
    ∷ (33, codes "BadSwitch: low is over high, the count is negative, or the keys do not rise")
    ∷ (34, codes "BadWide: wide stands before an opcode that it may not modify")
    ∷ (35, codes "NonZeroByte: a byte of invokeinterface or invokedynamic that must be 0 is not")
    ∷ (47, codes "BadFrameType: a byte is no frame type")
    ∷ (48, codes "BadTypeTag: a byte is no tag of a verification type")
    ∷ (49, codes "LocalsOver: the locals of an entry are more units than max_locals")
    ∷ (50, codes "StackOver: the stack of an entry is more units than max_stack")
    ∷ (51, codes "ChopTooMany: an entry chops more locals than the entry before it left")
    ∷ (52, codes "NotAStart: the offset of an entry is that of no instruction")
    ∷ (53, codes "NotANew: an entry names an uninitialized object by the offset of no new")
    ∷ []

-- the text in the row of a number, and nothing where it has none
abbrev pub text_of : List (ℕ × List ℕ) → ℕ → List ℕ
text_of rows n = option_map_or (λ row. row.1) (find (λ row. nat_eq row.0 n) rows) []

-- the number of the refusal of a file
abbrev pub file_fault_number : FileFault → ℕ
file_fault_number OutOfMemory = 1
file_fault_number (Unread fault) = read_fault_number fault
file_fault_number (NoClass fault) = read_fault_number fault
file_fault_number (Malformed rule place) = rule_number rule

abbrev pub sentence : ℕ → List ℕ
sentence n = text_of sentences n

-- with a release, what is said of a version, and of a constant that stands in a class of a version
abbrev pub version_sentence : ReadFault → List ℕ
version_sentence (BadVersion major minor) = codes "BadVersion: the release takes no class of this version here"
version_sentence e = sentence (read_fault_number e)

abbrev pub kind_sentence : FormRule → List ℕ
kind_sentence WrongKind = codes "WrongKind: an index leads to another kind of constant than it should, or a constant stands in a class of a version that has none of its kind"
kind_sentence Twice = codes "Twice: an earlier field or method has this name and descriptor, or an interface is listed twice"
kind_sentence rule = sentence (rule_number rule)

abbrev pub release_sentence : FileFault → List ℕ
release_sentence OutOfMemory = sentence 1
release_sentence (Unread e) = sentence (read_fault_number e)
release_sentence (NoClass e) = version_sentence e
release_sentence (Malformed rule place) = kind_sentence rule

-- the sentence on a file that is refused, whose class may have these versions
abbrev pub file_sentence : Versions → FileFault → List ℕ
file_sentence Java7To17 r = sentence (file_fault_number r)
file_sentence (Release least number) r = release_sentence r

abbrev pub fault_sentence : ℕ → List ℕ
fault_sentence n = text_of fault_sentences n

-- ---- lines

abbrev pub numbered_line : ℕ → List ℕ → List ℕ
numbered_line n text = codes "  " ++ (decimal n ++ (codes " " ++ (text ++ codes "\n")))

abbrev pub sentence_line : ℕ → List ℕ
sentence_line n = numbered_line n (sentence n)

abbrev pub file_sentence_line : Versions → FileFault → List ℕ
file_sentence_line versions r = numbered_line (file_fault_number r) (file_sentence versions r)

abbrev pub fault_line : ℕ → List ℕ
fault_line n = numbered_line n (fault_sentence n)

-- the line on the fault in a stack map (78) or in code (79), where the reason has one
abbrev pub fault_lines : Reason → List ℕ
fault_lines (BadStackMap fault) = fault_line fault
fault_lines (BadCode fault) = fault_line fault
fault_lines why = []

-- the lines that say why a method is refused
abbrev pub reason_lines : Reason → List ℕ
reason_lines why = sentence_line (reason_number why) ++ fault_lines why

-- ---- fields of objects of JSON

abbrev pub sentence_fields : ℕ → List Field
sentence_fields n = (codes "sentence", word (sentence n)) ∷ []

abbrev pub file_sentence_fields : Versions → FileFault → List Field
file_sentence_fields versions r = (codes "sentence", word (file_sentence versions r)) ∷ []

-- the field on the fault in a stack map (78) or in code (79), where the reason has one
abbrev pub fault_sentence_fields : Reason → List Field
fault_sentence_fields (BadStackMap fault) = (codes "fault_sentence", word (fault_sentence fault)) ∷ []
fault_sentence_fields (BadCode fault) = (codes "fault_sentence", word (fault_sentence fault)) ∷ []
fault_sentence_fields why = []

-- the fields that say why a method is refused
abbrev pub reason_sentence_fields : Reason → List Field
reason_sentence_fields why = (codes "sentence", word (sentence (reason_number why))) ∷ fault_sentence_fields why
