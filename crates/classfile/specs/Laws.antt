-- Laws that follow from the layout of class files alone: bytes spell at most one class, a class has at most one
-- spelling, and bytes that spell none have exactly one first fault. The numbers of an attribute are those that its body
-- spells.
use Rattle.std.specs.Prelude.{◌≡◌, ℕ, true, List, [], ◌∷◌, length, if◌then◌else◌, ◌⊎◌}
use Rattle.layout.specs.Format.{AreBytes, Format, Spells, done, andthen, number, times}
use Rattle.layout.specs.declared.fault.ReadFault.{ReadFault}
use Rattle.classfile.specs.declared.layouts.Column.{Column}
use Rattle.classfile.specs.declared.versions.Versions.{Versions}
use Rattle.classfile.specs.Layouts.{AttributeLayout, has_layout}
use Rattle.classfile.specs.Numbers.{rows_of}
use Rattle.classfile.specs.Values.{Class}
use Rattle.classfile.specs.ClassFile.{table, IsClass, ClassFault}

abbrev pub OneClass : Type 0
OneClass = (versions : Versions) (bytes : List ℕ) (c d : Class) → IsClass versions bytes c → IsClass versions bytes d
    → c ≡ d

abbrev pub OneSpelling : Type 0
OneSpelling = (versions : Versions) (c : Class) (a b : List ℕ) → AreBytes a → AreBytes b → IsClass versions a c
    → IsClass versions b c → a ≡ b

-- every list of bytes is a class or has a fault
abbrev pub ClassOrFault : Type 0
ClassOrFault = (versions : Versions) (bytes : List ℕ) → ((c : Class) × IsClass versions bytes c)
    ⊎ ((e : ReadFault) × ClassFault versions bytes e)

-- not both
abbrev pub NoFaultInClass : Type 0
NoFaultInClass = (versions : Versions) (bytes : List ℕ) (c : Class) (e : ReadFault) → IsClass versions bytes c
    → ClassFault versions bytes e → ⊥

abbrev pub OneFault : Type 0
OneFault = (versions : Versions) (bytes : List ℕ) (e f : ReadFault) → ClassFault versions bytes e
    → ClassFault versions bytes f → e ≡ f

-- ---- the numbers of an attribute

-- a row: in each column a number of two bytes
abbrev pub row : List Column → Format (List ℕ)
row columns = times (length columns) (number 2)

-- the rows of a body: as many as a count says, or one
abbrev pub rows : AttributeLayout → Format (List (List ℕ))
rows layout = if layout.counted then table (row layout.columns)
    else andthen (row layout.columns) (λ only. done (only ∷ []))

-- a body that is laid out so spells its rows
abbrev pub BodySpellsRows : Type 0
BodySpellsRows = (layout : AttributeLayout) (body : List ℕ) → has_layout layout body ≡ true
    → Spells (rows layout) body (rows_of (record { layout = layout; body = body }))

-- and what spells rows is laid out so
abbrev pub SpelledIsLaidOut : Type 0
SpelledIsLaidOut = (layout : AttributeLayout) (body : List ℕ) (told : List (List ℕ)) → Spells (rows layout) body told
    → has_layout layout body ≡ true
