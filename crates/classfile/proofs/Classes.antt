-- One class, one spelling, one fault.
use Rattle.std.proofs.Common.{◌≡◌, ◌≤◌, Bool, true, false, [], length, refl, sym, ◌∙◌, inl, inr, ◌⊎◌, arith, ltb}
use Rattle.std.proofs.lemmas.Bool.{ltb-true, ltb-false}
use Rattle.std.proofs.lemmas.List.{append-nil}
use Rattle.layout.specs.declared.fault.ReadFault.{ReadFault}
use Rattle.layout.specs.declared.fault.ReadFault.TheVariants.{BytesAfter}
use Rattle.layout.specs.declared.limits.TheConstants.{MAX_CLASS_BYTES}
use Rattle.layout.specs.Format.{Spells}
use Rattle.layout.specs.FormatLaws.{one_reading}
use Rattle.layout.specs.Whole.{WholeFault, whole_or_fault, no_fault_in_whole, one_whole_fault}
use Rattle.layout.specs.PieceLaws.{no_other}
use Rattle.classfile.specs.Values.{Class}
use Rattle.classfile.specs.ClassFile.{class, IsClass, ClassFault}
use Rattle.classfile.specs.Laws.{OneClass, OneSpelling, ClassOrFault, NoFaultInClass, OneFault}
use Rattle.classfile.specs.private.Pieces.{writes_class}

pub same_class : OneClass
same_class versions bytes c d s t = (one_reading (class versions) bytes bytes [] c d s.spelled t.spelled (sym (append-nil bytes))).1

pub same_spelling : OneSpelling
same_spelling versions c a b fit gif s t = no_other (writes_class versions) c a b fit gif s.spelled t.spelled

pub one_or_other : ClassOrFault
one_or_other versions bytes = by_length (ltb MAX_CLASS_BYTES (length bytes)) refl
  where
    by_bytes : length bytes ≤ MAX_CLASS_BYTES → ((c : Class) × Spells (class versions) bytes c) ⊎ ((e : ReadFault) × WholeFault (class versions) BytesAfter bytes e) → ((c : Class) × IsClass versions bytes c) ⊎ ((e : ReadFault) × ClassFault versions bytes e)
    by_bytes le (inl (c, s)) = inl (c, record { within = le; spelled = s })
    by_bytes le (inr (e, f)) = inr (e, inr (le, f))

    by_length : (b : Bool) → ltb MAX_CLASS_BYTES (length bytes) ≡ b → ((c : Class) × IsClass versions bytes c) ⊎ ((e : ReadFault) × ClassFault versions bytes e)
    by_length true t = inr (_, inl (ltb-true _ _ t, refl))
    by_length false t = by_bytes (ltb-false _ _ t) (whole_or_fault (class versions) BytesAfter bytes)

pub not_both : NoFaultInClass
not_both versions bytes c e s (inl (long, is)) = let le = s.within in omega (arith, long, le)
not_both versions bytes c e s (inr (le, f)) = no_fault_in_whole (class versions) BytesAfter bytes c e s.spelled f

pub same_fault : OneFault
same_fault versions bytes e f (inl (long, is)) (inl (far, also)) = is ∙ sym also
same_fault versions bytes e f (inl (long, is)) (inr (le, h)) = absurd (omega (arith, long, le))
same_fault versions bytes e f (inr (le, h)) (inl (long, is)) = absurd (omega (arith, long, le))
same_fault versions bytes e f (inr (le, h)) (inr (ge, k)) = one_whole_fault (class versions) BytesAfter bytes e f h k
