-- Results of methods, by their kinds and by the numbers of their types.
use Rattle.std.proofs.Common.{◌≡◌, ◌∙◌, ℕ, ◌/◌, true, false, cond, Option, Some, None, option_map, refl, sym}
use Rattle.std.proofs.lemmas.Bool.{cond-true, true≢false}
use Rattle.names.specs.Descriptors.{FieldDescriptor, primitive, class as class_descriptor, array as array_descriptor}
use Rattle.names.specs.ReferenceTypes.{ReferenceType, class_type, array_type}
use Rattle.hierarchy.proofs.Names.{none_some, some_same}
use Rattle.insn.specs.declared.kinds.Kind.{Kind}
use Rattle.insn.specs.declared.kinds.Kind.TheVariants.{Int, Long, Float, Double}
use Rattle.insn.specs.Kinds.{computed_as, same_kind}
use Rattle.frames.specs.VerificationType.{class, array}
use Rattle.frames.specs.Slots.{descriptor_type, number_type, to_reference}
use Rattle.type_numbers.specs.Numbers.{Numbering, IsNumber, IsNumberOf}
use Rattle.rules.specs.TypingRules.{assignable_to, number, refuses}
use Rattle.rules.specs.Table.{leaves_with, return_number, return_reference}
use Rattle.rules.specs.Outcomes.{result_kind}
use Rattle.rules.specs.Rules.{is_reference}
use Rattle.numbered_rules.specs.private.TypeParts.{is_reference_by}
use Rattle.numbered_rules.proofs.TypeParts.{reference_parts}

same_kinds : (kind : Kind) → same_kind kind kind ≡ true
same_kinds Int = refl
same_kinds Long = refl
same_kinds Float = refl
same_kinds Double = refl

pub kind_returned : (r : Option FieldDescriptor) (kind : Kind) → result_kind r ≡ Some kind → return_number r kind ≡ leaves_with (number kind)
kind_returned None kind e = absurd (none_some e)
kind_returned (Some (primitive p)) kind e =
    let is = some_same e in
    (λ i. cond (same_kind (is i) kind) (leaves_with (number kind)) (refuses 76)) ∙ cond-true (same_kind kind kind) (leaves_with (number kind)) (refuses 76) (same_kinds kind)
kind_returned (Some (class_descriptor name)) kind e = absurd (none_some e)
kind_returned (Some (array_descriptor x)) kind e = absurd (none_some e)

-- a number is no reference
no_number : (kind : Kind) → is_reference (number_type kind) ≡ false
no_number Int = refl
no_number Long = refl
no_number Float = refl
no_number Double = refl

module _ (s : Numbering) (n : ℕ) where
  pub record ReturnsReference (r : Option FieldDescriptor) : Type 0 where
    pub type : ReferenceType
    pub is : return_reference r ≡ leaves_with (assignable_to type)
    pub number : IsNumber s n (to_reference type)

  pub reference_returned : (r : Option FieldDescriptor) → IsNumberOf s (Some n) (option_map descriptor_type r) → is_reference_by (n / 16777216) ≡ true → ReturnsReference r
  reference_returned None h e = absurd h
  reference_returned (Some (primitive p)) h e = absurd (true≢false (sym e ∙ reference_parts s n (number_type (computed_as p)) h ∙ no_number (computed_as p)))
  reference_returned (Some (class_descriptor name)) h e = record { type = class_type name; is = refl; number = h }
  reference_returned (Some (array_descriptor x)) h e = record { type = array_type x; is = refl; number = h }

  pub no_reference_returned : (r : Option FieldDescriptor) → IsNumberOf s (Some n) (option_map descriptor_type r) → is_reference_by (n / 16777216) ≡ false → return_reference r ≡ refuses 76
  no_reference_returned None h e = refl
  no_reference_returned (Some (primitive p)) h e = refl
  no_reference_returned (Some (class_descriptor name)) h e = absurd (true≢false (sym (reference_parts s n (class name) h) ∙ e))
  no_reference_returned (Some (array_descriptor x)) h e = absurd (true≢false (sym (reference_parts s n (array x) h) ∙ e))
