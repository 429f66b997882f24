-- Names that instructions and verification speak of (JVMS 2.9.1, 4.10.1.9).
use Rattle.std.specs.Prelude.{ℕ, List, codes}

-- an instance initialization method
abbrev pub init_name : List ℕ
init_name = codes "<init>"

-- the class above all others (4.1)
abbrev pub object_name : List ℕ
object_name = codes "java/lang/Object"

-- the interfaces of every array (4.10.1.2)
abbrev pub cloneable_name : List ℕ
cloneable_name = codes "java/lang/Cloneable"

abbrev pub serializable_name : List ℕ
serializable_name = codes "java/io/Serializable"

abbrev pub throwable_name : List ℕ
throwable_name = codes "java/lang/Throwable"

abbrev pub string_name : List ℕ
string_name = codes "java/lang/String"

abbrev pub class_name : List ℕ
class_name = codes "java/lang/Class"

abbrev pub method_type_name : List ℕ
method_type_name = codes "java/lang/invoke/MethodType"

abbrev pub method_handle_name : List ℕ
method_handle_name = codes "java/lang/invoke/MethodHandle"
