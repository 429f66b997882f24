-- The lines that are written where a file is refused, in words or as objects of JSON.
use Rattle.std.specs.Prelude.{ℕ, List, [], ◌∷◌, ◌++◌, codes, decimal}
use Rattle.classfile.specs.Conditions.{rule_number}
use Rattle.printing.specs.Faults.{fault_text, place_text}
use Rattle.printing.specs.FaultFields.{number_fields, fault_fields, place_fields}
use Rattle.printing.specs.Json.{Field, number, word, object_line}
use Rattle.verify.specs.declared.files.FileFault.{FileFault}
use Rattle.verify.specs.declared.files.FileFault.TheVariants.{OutOfMemory, Unread, NoClass, Malformed}
use Rattle.answers.specs.declared.command.Form.{Form}
use Rattle.answers.specs.declared.command.Form.TheVariants.{Plain, Json}

-- why a file is not a well-formed class
abbrev pub refusal_text : FileFault → List ℕ
refusal_text OutOfMemory = codes "1"
refusal_text (Unread fault) = fault_text fault
refusal_text (NoClass fault) = fault_text fault
refusal_text (Malformed rule place) = decimal (rule_number rule) ++ place_text place

abbrev pub refusal_fields : FileFault → List Field
refusal_fields OutOfMemory = number_fields 1
refusal_fields (Unread fault) = fault_fields fault
refusal_fields (NoClass fault) = fault_fields fault
refusal_fields (Malformed rule place) = (codes "number", number (rule_number rule)) ∷ place_fields place

-- ---- the fields that begin an object: the kind of thing it is about, and the answer

abbrev pub kind : List ℕ → Field
kind name = (codes "kind", word name)

abbrev pub answer : List ℕ → Field
answer name = (codes "answer", word name)

-- ---- the lines of `check`

abbrev pub ok_line : Form → List ℕ
ok_line Plain = codes "ok\n"
ok_line Json = object_line (kind (codes "file") ∷ answer (codes "ok") ∷ [])

abbrev pub refusal_line : Form → FileFault → List ℕ
refusal_line Plain r = codes "refused " ++ (refusal_text r ++ codes "\n")
refusal_line Json r = object_line (kind (codes "file") ∷ answer (codes "refused") ∷ refusal_fields r)
