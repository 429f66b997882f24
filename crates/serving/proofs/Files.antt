-- A file as it is read.
use Rattle.std.proofs.Common.{◌≡◌, ℕ, List, Err, inr, refl}
use Rattle.layout.specs.Faults.{UnlessMemory}
use Rattle.layout.specs.declared.fault.ReadFault.{ReadFault}
use Rattle.layout.specs.declared.fault.ReadFault.TheVariants.{OutOfMemory}
use Rattle.classfile.specs.Outline.{OutlineFault}
use Rattle.file_reads.specs.FileReads.{BeginsWith}
use Rattle.serving.specs.KnownClasses.{IsReadOf}

-- what is claimed of a fault, which is not that memory ran out
claimed : {P : Type 0} (e : ReadFault) → (e ≡ OutOfMemory → ⊥) → UnlessMemory e P → P
claimed OutOfMemory not h = absurd (not refl)
claimed e not h = h

pub cut_is_read : (file given : List ℕ) (e : ReadFault) → (e ≡ OutOfMemory → ⊥) → UnlessMemory e (OutlineFault file e) → BeginsWith file given
    → IsReadOf file (record { bytes = Err e; held = given })
cut_is_read file given e not fault begins = inr (e, given, claimed e not fault, begins, refl)
