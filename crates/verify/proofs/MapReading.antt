-- The reading of a stack map's bytes, by what they spell and by their fault.
use Rattle.std.proofs.Common.{◌≡◌, ℕ, ◌+◌, Bool, false, nat_eq, if◌then◌else◌, List, length, Some, Result, Ok, Err, refl, sym, ◌∙◌, ap, subst, arith, inl, inr}
use Rattle.std.proofs.lemmas.Bool.Decides.{nat_tests}
use Rattle.layout.specs.FormatLaws.{spelled_reads, fault_reads}
use Rattle.layout.specs.declared.fault.ReadFault.{ReadFault}
use Rattle.layout.specs.declared.fault.ReadFault.TheVariants.{OutOfMemory, AttributeLength}
use Rattle.layout.specs.Faults.{UnlessMemory}
use Rattle.layout.specs.Whole.{HasMore}
use Rattle.frames.specs.StackMaps.{MapEntry, IsMap, stack_map, MapFault}
use Rattle.classfile.specs.Methods.{Method}
use Rattle.insn.specs.Meanings.{Act}
use Rattle.verify.proofs.Premises.{entries_there}
use Rattle.verify.specs.Verdict.{all_entries, entries_read}

more_there : (body : List ℕ) (at : ℕ) → HasMore stack_map body at → entries_read (Some body) ≡ Err (AttributeLength at)
more_there body at h =
    let read = spelled_reads stack_map 0 h.front h.others h.value h.spelled in
    let some : nat_eq (length h.others) 0 ≡ false = grind (arith, nat_tests, h.some) in
    let place : 0 + length h.front ≡ at = omega (arith, h.place) in
    subst (λ z. entries_read (Some z) ≡ Err (AttributeLength at)) (sym h.parts)
    (ap all_entries read
    ∙ ap (λ (b : Bool). let r : Result (List MapEntry) ReadFault = if b then Ok h.value else Err (AttributeLength (0 + length h.front)) in r) some
    ∙ ap (λ (n : ℕ). let r : Result (List MapEntry) ReadFault = Err (AttributeLength n) in r) place)

pub fault_there : (body : List ℕ) (fault : ReadFault) → MapFault body fault → entries_read (Some body) ≡ Err fault
fault_there body fault (inl f) = ap all_entries (fault_reads stack_map 0 body fault f)
fault_there body fault (inr x) = more_there body x.0 x.2 ∙ ap (λ (z : ReadFault). Err z) (sym x.1)

pub fault_told : (e : ReadFault) (P : Type 0) → (e ≡ OutOfMemory → ⊥) → UnlessMemory e P → P
fault_told OutOfMemory P f u = absurd (f refl)
fault_told _ P f u = u

-- the bytes of a method's stack map
module _ (m : Method Act) (body : List ℕ) (here : m.stack_map ≡ Some body) where
  pub unreadable_map : (fault : ReadFault) → MapFault body fault → entries_read m.stack_map ≡ Err fault
  unreadable_map fault f = ap entries_read here ∙ fault_there body fault f

  pub readable_map : (entries : List MapEntry) → IsMap body entries → entries_read m.stack_map ≡ Ok entries
  readable_map entries spelled = ap entries_read here ∙ entries_there (Some body) entries spelled
