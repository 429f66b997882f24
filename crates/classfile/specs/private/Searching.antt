-- Words of the code's own steps: calls that read past a part, and that search a place in parts.
use Rattle.std.specs.Prelude.{◌≡◌, ℕ, Option, Result, Ok, Err}
use Rattle.layout.specs.Format.{Format, reads}
use Rattle.layout.specs.Place.{Place}
use Rattle.layout.specs.declared.fault.ReadFault.{ReadFault}
use Rattle.classfile.specs.FileParts.{Search}
use Rattle.classfile.specs.declared.file_parts.FilePart.{FilePart}
use Rattle.classfile.specs.declared.file_parts.Kind.{Kind}
use Rattle.classfile.specs.declared.file_parts.Kind.TheVariants.{Field, Method}
use Rattle.classfile.specs.declared.form_fault.Place.{Place as Holder}
use Rattle.classfile.specs.declared.form_fault.Place.TheVariants as places

-- A step that reads by the format and takes no memory: after its refusal nobody looks at the cursor.
abbrev pub Skips : {V : Type 0} → Format V → Place → Place → Result V ReadFault → Type 0
Skips f old new (Ok v) = reads f old.at old.rest ≡ Ok (v, new)
Skips f old new (Err e) = reads f old.at old.rest ≡ Err e

-- A step of a search, which ends here or goes on.
abbrev pub Searches : {V : Type 0} → Search V → Place → Result V (Option FilePart) → Type 0
Searches step new (Ok v) = step ≡ Ok (v, new)
Searches step new (Err part) = step ≡ Err part

abbrev pub kind_place : Kind → ℕ → Holder
kind_place Field = places.Field
kind_place Method = places.Method
