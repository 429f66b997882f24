-- The texts of faults: the number, and then where it was met.
use Rattle.std.specs.Prelude.{ℕ, List, ◌++◌, codes, decimal}
use Rattle.layout.specs.declared.fault.ReadFault.{ReadFault}
use Rattle.layout.specs.declared.fault.ReadFault.TheVariants.{OutOfMemory, EndsEarly, BadText, BadTag, BadMagic, BadVersion, AttributeLength, BytesAfter, TooLong, ReadFailed, BadPoolCount, BadFrameType, BadTypeTag}
use Rattle.classfile.specs.declared.form_fault.Place.{Place}
use Rattle.classfile.specs.declared.form_fault.Place.TheVariants.{Pool, Class, Field, Method}
use Rattle.insn.specs.declared.fault.CodeFault.{CodeFault}
use Rattle.insn.specs.declared.fault.CodeFault.TheVariants as code

abbrev pub at_text : ℕ → List ℕ
at_text at = codes " at " ++ decimal at

abbrev pub fault_text : ReadFault → List ℕ
fault_text OutOfMemory = codes "1"
fault_text (EndsEarly at) = codes "2" ++ at_text at
fault_text (BadText at) = codes "3" ++ at_text at
fault_text (BadTag at tag) = codes "7" ++ (codes " at " ++ (decimal at ++ (codes " tag " ++ decimal tag)))
fault_text BadMagic = codes "10"
fault_text (BadVersion major minor) = codes "11 " ++ (decimal major ++ (codes "." ++ decimal minor))
fault_text (AttributeLength at) = codes "12" ++ at_text at
fault_text (BytesAfter at) = codes "13" ++ at_text at
fault_text (TooLong at) = codes "14" ++ at_text at
fault_text (ReadFailed at) = codes "15" ++ at_text at
fault_text (BadPoolCount at) = codes "16" ++ at_text at
fault_text (BadFrameType at) = codes "47" ++ at_text at
fault_text (BadTypeTag at) = codes "48" ++ at_text at

-- where a rule is broken
abbrev pub place_text : Place → List ℕ
place_text (Pool index) = codes " pool " ++ decimal index
place_text Class = codes " class"
place_text (Field n) = codes " field " ++ decimal n
place_text (Method n) = codes " method " ++ decimal n

-- why code is not a list of instructions
abbrev pub code_fault_text : CodeFault → List ℕ
code_fault_text code.OutOfMemory = codes "1"
code_fault_text (code.BadOpcode at) = codes "31" ++ at_text at
code_fault_text (code.CutInstruction at) = codes "32" ++ at_text at
code_fault_text (code.BadSwitch at) = codes "33" ++ at_text at
code_fault_text (code.BadWide at) = codes "34" ++ at_text at
code_fault_text (code.NonZeroByte at) = codes "35" ++ at_text at
