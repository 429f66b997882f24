-- Laws that follow from outlines alone: a class file is one, a stream has one at most in front, and where it has none
-- it has a fault.
use Rattle.std.specs.Prelude.{◌≡◌, ℕ, List, ◌++◌, ◌⊎◌}
use Rattle.layout.specs.declared.fault.ReadFault.{ReadFault}
use Rattle.classfile.specs.declared.versions.Versions.{Versions}
use Rattle.classfile.specs.Values.{Class}
use Rattle.classfile.specs.ClassFile.{IsClass}
use Rattle.classfile.specs.Outline.{IsOutline, OutlineFault}

abbrev pub ClassIsOutline : Type 0
ClassIsOutline = (versions : Versions) (bytes : List ℕ) (c : Class) → IsClass versions bytes c → IsOutline bytes

-- so no front of an outline is one
abbrev pub OneOutline : Type 0
OneOutline = (a b x y : List ℕ) → a ++ x ≡ b ++ y → IsOutline a → IsOutline b → a ≡ b

abbrev pub OutlineOrFault : Type 0
OutlineOrFault = (stream : List ℕ) → ((front : List ℕ) × (rest : List ℕ) × (stream ≡ front ++ rest) × IsOutline front)
    ⊎ ((e : ReadFault) × OutlineFault stream e)

-- not both
abbrev pub NoFaultBehindOutline : Type 0
NoFaultBehindOutline = (front rest : List ℕ) (e : ReadFault) → IsOutline front → OutlineFault (front ++ rest) e → ⊥
