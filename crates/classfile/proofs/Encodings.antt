-- The pieces of a class, and its layout as they tell it.
use Rattle.std.proofs.Common.{◌≡◌, ℕ, Bool, true, false, cond, Option, Some, None, List, Result, Ok, Err, refl, sym, subst}
use Rattle.std.specs.Prelude.{IfErr}
use Rattle.layout.specs.declared.fault.WriteFault.{WriteFault}
use Rattle.layout.specs.declared.fault.WriteFault.TheVariants.{OutOfMemory, DoesNotFit, HasNoSpelling}
use Rattle.layout.specs.Format.{AreBytes}
use Rattle.layout.specs.Pieces.{too_large, cannot, has_unspelled, Delivers}
use Rattle.layout.specs.Faults.{UnlessWriteMemory}
use Rattle.layout.specs.PieceLaws.{spells_if, spells_none, reads_back}
use Rattle.classfile.specs.declared.versions.Versions.{Versions}
use Rattle.classfile.specs.Values.{Class}
use Rattle.classfile.specs.ClassFile.{IsClass}
use Rattle.classfile.specs.Encoding.{Encodes, IsTooLarge, IsUnspelled}
use Rattle.classfile.specs.private.Pieces.{class_pieces, writes_class}
use Rattle.classfile.proofs.Measures.{large_if, large_then}
use Rattle.classfile.proofs.ClassMeasure.{class_measure}

abbrev why : Bool → Bool → Option WriteFault
why t u = cond t (Some DoesNotFit) (cond u (Some HasNoSpelling) None)

large : (t u : Bool) → why t u ≡ Some DoesNotFit → t ≡ true
large true u h = refl
large false true h = absurd cc
large false false h = absurd cc

small : (t u : Bool) → why t u ≡ Some HasNoSpelling → t ≡ true → ⊥
small true u h e = absurd cc
small false u h e = absurd cc

too_large_if : (v : Versions) (c : Class) → cannot (class_pieces v c) ≡ Some DoesNotFit → IsTooLarge c
unfolding cannot
too_large_if v c h = large_if (class_measure v c) (large (too_large (class_pieces v c)) (has_unspelled (class_pieces v c)) h)

not_too_large : (v : Versions) (c : Class) → cannot (class_pieces v c) ≡ Some HasNoSpelling → IsTooLarge c → ⊥
unfolding cannot
not_too_large v c h large_so = small (too_large (class_pieces v c)) (has_unspelled (class_pieces v c)) h (large_then (class_measure v c) large_so)

unspelled_if : (v : Versions) (c : Class) → cannot (class_pieces v c) ≡ Some HasNoSpelling → IsUnspelled v c
unspelled_if v c h bytes fit s = let k = spells_none (writes_class v) c HasNoSpelling bytes h fit s in absurd (let e = k.0 in cc)

pub encodes : {X : Type 0} (v : Versions) (c : Class) (bytes : X → List ℕ) (r : Result X WriteFault) → Delivers (class_pieces v c) bytes r → Encodes v c bytes r
encodes v c bytes (Ok x) d =
    let s = spells_if (writes_class v) c d.0 in
    subst (λ (b : List ℕ). IsClass v b c) (sym d.1) (record { within = s.1; spelled = s.0 })
encodes v c bytes (Err OutOfMemory) d = tt
encodes v c bytes (Err DoesNotFit) d = too_large_if v c d
encodes v c bytes (Err HasNoSpelling) d = (not_too_large v c d, unspelled_if v c d)

-- a refusal of a class that has a spelling is want of memory
pub no_refusal : (v : Versions) (c : Class) (b : List ℕ) (e : WriteFault) → AreBytes b → IsClass v b c → UnlessWriteMemory e (cannot (class_pieces v c) ≡ Some e) → e ≡ OutOfMemory
no_refusal v c b OutOfMemory fit s h = refl
no_refusal v c b DoesNotFit fit s h = absurd (let k = reads_back (writes_class v) c b fit s.within s.spelled in let n = k.0 in cc)
no_refusal v c b HasNoSpelling fit s h = absurd (let k = reads_back (writes_class v) c b fit s.within s.spelled in let n = k.0 in cc)

pub only_memory : {X : Type 0} (v : Versions) (c : Class) (bytes : X → List ℕ) (r : Result X WriteFault) → Delivers (class_pieces v c) bytes r → (b : List ℕ) → AreBytes b → IsClass v b c → IfErr r (λ e. e ≡ OutOfMemory)
only_memory v c bytes (Ok x) d b fit s = tt
only_memory v c bytes (Err e) d b fit s = no_refusal v c b e fit s d
