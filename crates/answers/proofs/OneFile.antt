-- A file is one class that is well formed or is refused for one reason, since bytes are one class or have one fault,
-- and a class is well formed or has one first fault.
use Rattle.std.proofs.Common.{◌≡◌, Ok, Err, sym, ap, subst, ◌∙◌}
use Rattle.classfile.specs.Values.{Class}
use Rattle.classfile.specs.Laws.{OneClass, NoFaultInClass, OneFault}
use Rattle.classfile.specs.FormLaws.{NoFaultInFormed, OneFirstFault}
use Rattle.classfile.specs.WellFormed.{WellFormed, IsFirstFault}
use Rattle.hierarchy.specs.Faults.{FaultsBreakRules, OneFault as OneHierarchyFault}
use Rattle.verify.specs.OneVerdict.{OneReport, OneFrames}
use Rattle.verify.specs.Files.{Read, IsFormed, IsRefused}
use Rattle.verify.specs.declared.files.FileFault.{FileFault}
use Rattle.verify.specs.declared.files.FileFault.TheVariants.{OutOfMemory, Unread, NoClass, Malformed}

-- the laws of class files, of hierarchies and of reports that answers rest on
pub record Laws : Type 0 where
  pub one_class : OneClass
  pub not_both : NoFaultInClass
  pub one_fault : OneFault
  pub not_formed : NoFaultInFormed
  pub one_first : OneFirstFault
  pub not_hierarchy : FaultsBreakRules
  pub one_hierarchy_fault : OneHierarchyFault
  pub one_report : OneReport
  pub one_frames : OneFrames

-- a file is one class
pub one_formed : Laws → (read : Read) (c d : Class) → IsFormed read c → IsFormed read d → c ≡ d
one_formed laws (Err e) c d p q = absurd p
one_formed laws (Ok file) c d p q = laws.one_class file.versions file.bytes c d p.0 q.0

-- or it is refused
pub not_refused : Laws → (read : Read) (c : Class) (r : FileFault) → IsFormed read c → IsRefused read r → ⊥
not_refused laws (Err e) c r p q = p
not_refused laws (Ok file) c OutOfMemory p q = q
not_refused laws (Ok file) c (Unread e) p q = q
not_refused laws (Ok file) c (NoClass e) p q = laws.not_both file.versions file.bytes c e p.0 q
not_refused laws (Ok file) c (Malformed rule place) p (d, is, fault) =
    laws.not_formed d rule place (subst WellFormed (laws.one_class file.versions file.bytes c d p.0 is) p.1) fault

-- for one reason
pub one_refusal : Laws → (read : Read) (r s : FileFault) → IsRefused read r → IsRefused read s → r ≡ s
one_refusal laws (Err e) OutOfMemory s p q = absurd p
one_refusal laws (Err e) (Unread f) OutOfMemory p q = absurd q
one_refusal laws (Err e) (Unread f) (Unread g) p q = ap Unread (sym p ∙ q)
one_refusal laws (Err e) (Unread f) (NoClass g) p q = absurd q
one_refusal laws (Err e) (Unread f) (Malformed rule place) p q = absurd q
one_refusal laws (Err e) (NoClass f) s p q = absurd p
one_refusal laws (Err e) (Malformed rule place) s p q = absurd p
one_refusal laws (Ok file) OutOfMemory s p q = absurd p
one_refusal laws (Ok file) (Unread f) s p q = absurd p
one_refusal laws (Ok file) (NoClass f) OutOfMemory p q = absurd q
one_refusal laws (Ok file) (NoClass f) (Unread g) p q = absurd q
one_refusal laws (Ok file) (NoClass f) (NoClass g) p q = ap NoClass (laws.one_fault file.versions file.bytes f g p q)
one_refusal laws (Ok file) (NoClass f) (Malformed rule place) p (c, is, fault) = absurd (laws.not_both file.versions file.bytes c f is p)
one_refusal laws (Ok file) (Malformed rule place) OutOfMemory (c, is, fault) q = absurd q
one_refusal laws (Ok file) (Malformed rule place) (Unread g) p q = absurd q
one_refusal laws (Ok file) (Malformed rule place) (NoClass g) (c, is, fault) q = absurd (laws.not_both file.versions file.bytes c g is q)
one_refusal laws (Ok file) (Malformed rule place) (Malformed also there) (c, is, fault) (d, are, other) =
    let same = laws.one_first c rule also place there fault (subst (λ x. IsFirstFault x also there) (laws.one_class file.versions file.bytes d c are is) other) in
    ap (λ x. Malformed x place) same.0 ∙ ap (Malformed also) same.1
