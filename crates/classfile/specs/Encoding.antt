-- The answer of writing a class, in the words of the layout (JVMS 4.1).
use Rattle.std.specs.Prelude.{◌≡◌, ◌⊎◌, ◌<◌, ℕ, false, List, Result, Ok, Err}
use Rattle.layout.specs.declared.fault.WriteFault.{WriteFault}
use Rattle.layout.specs.declared.fault.WriteFault.TheVariants.{OutOfMemory, DoesNotFit, HasNoSpelling}
use Rattle.layout.specs.Format.{AreBytes, Spells}
use Rattle.layout.specs.declared.limits.TheConstants.{MAX_CLASS_BYTES}
use Rattle.classfile.specs.declared.versions.Versions.{Versions}
use Rattle.classfile.specs.Values.{Class}
use Rattle.classfile.specs.ClassFile.{class, IsClass}
use Rattle.classfile.specs.Sizes.{class_fits, class_size}

-- A number, count or length of the class passes its field, or its parts have more bytes than a class file may.
abbrev pub IsTooLarge : Class → Type 0
IsTooLarge c = (class_fits c ≡ false) ⊎ (MAX_CLASS_BYTES < class_size c)

-- no bytes spell the class in one of these versions, however many
abbrev pub IsUnspelled : Versions → Class → Type 0
IsUnspelled versions c = (bytes : List ℕ) → AreBytes bytes → Spells (class versions) bytes c → ⊥

-- The bytes that spell the class; otherwise 17 where it is too large, and 18 where it is not and no bytes spell it.
abbrev pub Encodes : {X : Type 0} → Versions → Class → (X → List ℕ) → Result X WriteFault → Type 0
Encodes versions c bytes (Ok x) = IsClass versions (bytes x) c
Encodes versions c bytes (Err OutOfMemory) = Unit {0}
Encodes versions c bytes (Err DoesNotFit) = IsTooLarge c
Encodes versions c bytes (Err HasNoSpelling) = (IsTooLarge c → ⊥) × IsUnspelled versions c
