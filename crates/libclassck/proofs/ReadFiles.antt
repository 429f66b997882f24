-- Files as they are read.
use Rattle.std.proofs.Common.{◌≡◌, ◌∙◌, ℕ, ◌+◌, ◌<◌, List, [], ◌∷◌, ◌++◌, length, take, map, get_or, Err, inr, refl, sym, ap, subst}
use Rattle.std.proofs.lemmas.List.{take_more, map-append}
use Rattle.layout.specs.Faults.{UnlessMemory}
use Rattle.layout.specs.declared.fault.ReadFault.{ReadFault}
use Rattle.layout.specs.declared.fault.ReadFault.TheVariants.{OutOfMemory}
use Rattle.classfile.specs.Outline.{OutlineFault}
use Rattle.file_reads.specs.FileReads.{BeginsWith}
use Rattle.answers.specs.Files.{Input}
use Rattle.libclassck.specs.Files.{IsReadOf, AreReads}

-- one more
pub reads_more : (files : List (List ℕ)) (reads : List Input) (file : List ℕ) (read : Input) → AreReads files reads → IsReadOf file read
    → AreReads (files ++ (file ∷ [])) (reads ++ (read ∷ []))
reads_more [] [] file read are is = (is, tt)
reads_more [] (r ∷ reads) file read are is = absurd are
reads_more (f ∷ files) [] file read are is = absurd are
reads_more (f ∷ files) (r ∷ reads) file read are is = (are.0, reads_more files reads file read are.1 is)

-- the same at a step of a loop over files, of which each is seen by `f`, and each read by `v`
pub reads_step : {X R : Type 0} (f : X → List ℕ) (v : R → Input) (files : List X) (i : ℕ) (d : X) (old new : List R) (read : R)
    → i < length files → new ≡ old ++ (read ∷ []) → AreReads (map f (take i files)) (map v old) → IsReadOf (f (get_or files i d)) (v read)
    → AreReads (map f (take (i + 1) files)) (map v new)
reads_step f v files i d old new read lt pushed are is =
    let file = f (get_or files i d) in
    let left : map f (take (i + 1) files) ≡ map f (take i files) ++ (file ∷ []) =
    ap (map f) (take_more files i d lt) ∙ map-append f (take i files) (get_or files i d ∷ []) in
    let right : map v new ≡ map v old ++ (v read ∷ []) = ap (map v) pushed ∙ map-append v old (read ∷ []) in
    subst (λ (l : List (List ℕ)). AreReads l (map v new)) (sym left)
    (subst (λ (r : List Input). AreReads (map f (take i files) ++ (file ∷ [])) r) (sym right)
    (reads_more (map f (take i files)) (map v old) file (v read) are is))

-- what is claimed of a fault, which is not that memory ran out
claimed : {P : Type 0} (e : ReadFault) → (e ≡ OutOfMemory → ⊥) → UnlessMemory e P → P
claimed OutOfMemory not h = absurd (not refl)
claimed e not h = h

pub cut_is_read : (file given : List ℕ) (e : ReadFault) → (e ≡ OutOfMemory → ⊥) → UnlessMemory e (OutlineFault file e) → BeginsWith file given
    → IsReadOf file (record { bytes = Err e; held = given })
cut_is_read file given e not fault begins = inr (e, given, claimed e not fault, begins, refl)
