-- Constants that are loaded, by the types that their kinds give them.
use Rattle.std.proofs.Common.{◌≡◌, ◌∙◌, Bool, true, false, nat_eq, Option, Some, None, refl, sym, ap}
use Rattle.std.specs.Prelude.{not}
use Rattle.std.proofs.Math.Bool.{beq}
use Rattle.std.specs.Option.{option_and_then}
use Rattle.names.specs.declared.base.Primitive.TheVariants as primitives
use Rattle.names.specs.Descriptors.{FieldDescriptor, primitive, field_width}
use Rattle.pool.specs.Entries as entries
use Rattle.pool.specs.Entries.{Entry}
use Rattle.classfile.specs.Methods.{Method}
use Rattle.hierarchy.proofs.Names.{none_some, some_same}
use Rattle.insn.specs.Meanings.{Act}
use Rattle.frames.specs.VerificationType.{VerificationType}
use Rattle.frames.specs.Slots.{descriptor_type, is_wide}
use Rattle.type_numbers.specs.Constants.{loaded_type}
use Rattle.rules.specs.TypingRules.{gives, refuses}
use Rattle.rules.specs.Constants.{load_constant, load_wide_constant}
use Rattle.numbered_rules.specs.private.ConstantLoads.{load_by, load_computed, units_by}

alike : (a b : Bool) → not (beq a b) ≡ false → a ≡ b
alike true true e = refl
alike false false e = refl
alike true false e = cc
alike false true e = cc

unlike : (a b : Bool) → not (beq a b) ≡ true → a ≡ not b
unlike true true e = cc
unlike false false e = cc
unlike true false e = refl
unlike false true e = refl

module _ (m : Method Act) (type : Option FieldDescriptor) where
  loads_narrow : (o : Option Entry) (t : VerificationType) → option_and_then loaded_type o ≡ Some t → is_wide t ≡ false → load_constant m type o ≡ gives t
  loads_narrow None t e w = absurd (none_some e)
  loads_narrow (Some e) t is w = by e is
    where
      wide : true ≡ false → ⊥
      wide x = cc

      by : (e : Entry) → loaded_type e ≡ Some t → load_constant m type (Some e) ≡ gives t
      by (entries.Integer bits) is = ap gives (some_same is)
      by (entries.Float bits) is = ap gives (some_same is)
      by (entries.Long high low) is = absurd (wide (ap is_wide (some_same is) ∙ w))
      by (entries.Double high low) is = absurd (wide (ap is_wide (some_same is) ∙ w))
      by (entries.Class name) is = ap gives (some_same is)
      by (entries.String text) is = ap gives (some_same is)
      by (entries.MethodType descriptor) is = ap gives (some_same is)
      by (entries.MethodHandle kind reference) is = ap gives (some_same is)
      by _ is = absurd (none_some is)

  loads_no_wide : (o : Option Entry) (t : VerificationType) → option_and_then loaded_type o ≡ Some t → is_wide t ≡ true → load_constant m type o ≡ refuses 66
  loads_no_wide None t e w = absurd (none_some e)
  loads_no_wide (Some e) t is w = by e is
    where
      narrow : false ≡ true → ⊥
      narrow x = cc

      by : (e : Entry) → loaded_type e ≡ Some t → load_constant m type (Some e) ≡ refuses 66
      by (entries.Integer bits) is = absurd (narrow (ap is_wide (some_same is) ∙ w))
      by (entries.Float bits) is = absurd (narrow (ap is_wide (some_same is) ∙ w))
      by (entries.Long high low) is = refl
      by (entries.Double high low) is = refl
      by (entries.Class name) is = absurd (narrow (ap is_wide (some_same is) ∙ w))
      by (entries.String text) is = absurd (narrow (ap is_wide (some_same is) ∙ w))
      by (entries.MethodType descriptor) is = absurd (narrow (ap is_wide (some_same is) ∙ w))
      by (entries.MethodHandle kind reference) is = absurd (narrow (ap is_wide (some_same is) ∙ w))
      by _ is = absurd (none_some is)

  loads_by_computed : (o : Option Entry) → option_and_then loaded_type o ≡ None → load_constant m type o ≡ load_computed m 1 type o
  loads_by_computed None e = refl
  loads_by_computed (Some e) is = by e is
    where
      by : (e : Entry) → loaded_type e ≡ None → load_constant m type (Some e) ≡ load_computed m 1 type (Some e)
      by (entries.Integer bits) is = absurd (none_some (sym is))
      by (entries.Float bits) is = absurd (none_some (sym is))
      by (entries.Class name) is = absurd (none_some (sym is))
      by (entries.String text) is = absurd (none_some (sym is))
      by (entries.MethodType descriptor) is = absurd (none_some (sym is))
      by (entries.MethodHandle kind reference) is = absurd (none_some (sym is))
      by (entries.Dynamic bootstrap name) is = refl
      by _ is = refl

  loads_wide : (o : Option Entry) (t : VerificationType) → option_and_then loaded_type o ≡ Some t → is_wide t ≡ true → load_wide_constant m type o ≡ gives t
  loads_wide None t e w = absurd (none_some e)
  loads_wide (Some e) t is w = by e is
    where
      narrow : false ≡ true → ⊥
      narrow x = cc

      by : (e : Entry) → loaded_type e ≡ Some t → load_wide_constant m type (Some e) ≡ gives t
      by (entries.Integer bits) is = absurd (narrow (ap is_wide (some_same is) ∙ w))
      by (entries.Float bits) is = absurd (narrow (ap is_wide (some_same is) ∙ w))
      by (entries.Long high low) is = ap gives (some_same is)
      by (entries.Double high low) is = ap gives (some_same is)
      by (entries.Class name) is = absurd (narrow (ap is_wide (some_same is) ∙ w))
      by (entries.String text) is = absurd (narrow (ap is_wide (some_same is) ∙ w))
      by (entries.MethodType descriptor) is = absurd (narrow (ap is_wide (some_same is) ∙ w))
      by (entries.MethodHandle kind reference) is = absurd (narrow (ap is_wide (some_same is) ∙ w))
      by _ is = absurd (none_some is)

  loads_no_narrow : (o : Option Entry) (t : VerificationType) → option_and_then loaded_type o ≡ Some t → is_wide t ≡ false → load_wide_constant m type o ≡ refuses 66
  loads_no_narrow None t e w = absurd (none_some e)
  loads_no_narrow (Some e) t is w = by e is
    where
      wide : true ≡ false → ⊥
      wide x = cc

      by : (e : Entry) → loaded_type e ≡ Some t → load_wide_constant m type (Some e) ≡ refuses 66
      by (entries.Long high low) is = absurd (wide (ap is_wide (some_same is) ∙ w))
      by (entries.Double high low) is = absurd (wide (ap is_wide (some_same is) ∙ w))
      by (entries.Dynamic bootstrap name) is = absurd (none_some is)
      by _ is = refl

  loads_wide_by_computed : (o : Option Entry) → option_and_then loaded_type o ≡ None → load_wide_constant m type o ≡ load_computed m 2 type o
  loads_wide_by_computed None e = refl
  loads_wide_by_computed (Some e) is = by e is
    where
      by : (e : Entry) → loaded_type e ≡ None → load_wide_constant m type (Some e) ≡ load_computed m 2 type (Some e)
      by (entries.Long high low) is = absurd (none_some (sym is))
      by (entries.Double high low) is = absurd (none_some (sym is))
      by (entries.Dynamic bootstrap name) is = refl
      by _ is = refl

  -- by how many units it takes
  pub loads_alike : (wide : Bool) (o : Option Entry) (t : VerificationType) → option_and_then loaded_type o ≡ Some t → not (beq (is_wide t) wide) ≡ false → load_by wide m type o ≡ gives t
  loads_alike true o t is e = loads_wide o t is (alike (is_wide t) true e)
  loads_alike false o t is e = loads_narrow o t is (alike (is_wide t) false e)

  pub loads_unlike : (wide : Bool) (o : Option Entry) (t : VerificationType) → option_and_then loaded_type o ≡ Some t → not (beq (is_wide t) wide) ≡ true → load_by wide m type o ≡ refuses 66
  loads_unlike true o t is e = loads_no_narrow o t is (unlike (is_wide t) true e)
  loads_unlike false o t is e = loads_no_wide o t is (unlike (is_wide t) false e)

  pub loads_other : (wide : Bool) (o : Option Entry) → option_and_then loaded_type o ≡ None → load_by wide m type o ≡ load_computed m (units_by wide) type o
  loads_other true o e = loads_wide_by_computed o e
  loads_other false o e = loads_by_computed o e

pub width_by : (type : FieldDescriptor) → field_width type ≡ units_by (is_wide (descriptor_type type))
width_by (primitive primitives.Long) = refl
width_by (primitive primitives.Double) = refl
width_by (primitive primitives.Int) = refl
width_by (primitive primitives.Float) = refl
width_by (primitive primitives.Byte) = refl
width_by (primitive primitives.Char) = refl
width_by (primitive primitives.Short) = refl
width_by (primitive primitives.Boolean) = refl
width_by _ = refl

pub units_same : (a b : Bool) → not (beq a b) ≡ false → nat_eq (units_by a) (units_by b) ≡ true
units_same true true h = refl
units_same false false h = refl
units_same true false h = cc
units_same false true h = cc

pub units_differ : (a b : Bool) → not (beq a b) ≡ true → nat_eq (units_by a) (units_by b) ≡ false
units_differ true true h = cc
units_differ false false h = cc
units_differ true false h = refl
units_differ false true h = refl
