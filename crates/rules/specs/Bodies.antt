-- The method whose instructions are judged, as the program keeps it: what the class file says of it, with the
-- instructions of its code.
use Rattle.classfile.specs.Methods.{Method}
use Rattle.classfile.specs.declared.code_method.CodeMethod.{CodeMethod}
use Rattle.classfile.specs.CodeMethods.{code_method_view}
use Rattle.insn.specs.Meanings.{Act}
use Rattle.insn.specs.Offsets.{acts}
use Rattle.insn.specs.Decoding.{instructions_in}

abbrev pub method_view : CodeMethod → Method Act
method_view m = code_method_view m (acts (instructions_in m.code.now.code.now))
