-- How large the pieces of a class are, part by part.
use Rattle.std.proofs.Common.{◌≡◌, ℕ, ◌+◌, Bool, true, false, eqb, not, ◌&&◌, Option, Some, None, List, [], ◌∷◌, ◌++◌, length, refl, ap, subst}
use Rattle.std.specs.List.{list_all}
use Rattle.layout.specs.Pieces.{Piece, plain, field, lengthened, marked}
use Rattle.layout.specs.PieceLaws.{not as unlike}
use Rattle.names.specs.Units.{bad_text}
use Rattle.pool.specs.declared.kind.ReferenceKind.{ReferenceKind}
use Rattle.pool.specs.declared.kind.ReferenceKind.TheVariants as kinds
use Rattle.pool.specs.Kinds.{kind_number}
use Rattle.pool.specs.Entries.{Entry, Utf8, Integer, Float, Long, Double, Class as ClassEntry, String, Fieldref, Methodref, InterfaceMethodref, NameAndType, MethodHandle, MethodType, Dynamic, InvokeDynamic, Unusable, text_pieces, entry_pieces, second_pieces, indexed_pieces, entries_pieces, pool_pieces, is_wide}
use Rattle.classfile.specs.declared.location.Location.{Location}
use Rattle.classfile.specs.declared.location.Location.TheVariants as location
use Rattle.classfile.specs.Locations.{is_code, is_stack_map, is_record}
use Rattle.classfile.specs.Layouts.{layout_at}
use Rattle.classfile.specs.Numbers.{is_laid_out}
use Rattle.classfile.specs.Values.{of_parts, of_numbers, raw, Handler, Nested, CodeBody, Attribute, Member, Component, ClassAttribute, Class}
use Rattle.classfile.specs.declared.versions.Versions.{Versions}
use Rattle.classfile.specs.Versions.{is_version, is_release}
use mathlib.Core.Bool.{beq}
use Rattle.classfile.specs.private.Pieces.{has_none, handler_pieces, nested_pieces, code_pieces, attribute_pieces, member_pieces, component_pieces, class_attribute_pieces, class_pieces}
use Rattle.classfile.specs.Sizes.{is_u2, total, entry_fits, entry_size, pool_fits, pool_size, handler_fits, nested_fits, nested_size, code_fits, code_size, attribute_fits, attribute_size, member_fits, member_size, component_fits, component_size, class_attribute_fits, class_attribute_size, class_fits, class_size}
use Rattle.classfile.proofs.Measures.{Measured, measured_append, measured_none, measured_plain, measured_unspelled, measured_marked, measured_1, measured_2, measured_4, measured_lengthened, measured_table}

and_true : (b : Bool) → (b && true) ≡ b
and_true true = refl
and_true false = refl

fits_so : {p : List Piece} {f g : Bool} {m : ℕ} → f ≡ g → Measured p f m → Measured p g m
fits_so {p = p} {m = m} e a = subst (λ (b : Bool). Measured p b m) e a

-- ---- the constant pool

text_measure : (bytes : List ℕ) (bad : Option ℕ) → Measured (text_pieces bytes bad) true (length bytes)
text_measure bytes None = measured_plain bytes
text_measure bytes (Some k) = measured_unspelled (measured_plain bytes)

kind_measure : (kind : ReferenceKind) → Measured (field 1 (kind_number kind)) true 1
kind_measure kinds.GetField = measured_1 1
kind_measure kinds.GetStatic = measured_1 2
kind_measure kinds.PutField = measured_1 3
kind_measure kinds.PutStatic = measured_1 4
kind_measure kinds.InvokeVirtual = measured_1 5
kind_measure kinds.InvokeStatic = measured_1 6
kind_measure kinds.InvokeSpecial = measured_1 7
kind_measure kinds.NewInvokeSpecial = measured_1 8
kind_measure kinds.InvokeInterface = measured_1 9

entry_measure : (last : Bool) (e : Entry) → Measured (entry_pieces last e) (entry_fits e) (entry_size e)
entry_measure last (Utf8 bytes) = measured_append (measured_1 1) (fits_so (and_true _) (measured_append (measured_2 (length bytes)) (text_measure bytes (bad_text bytes))))
entry_measure last (Integer bits) = measured_append (measured_1 3) (measured_4 bits)
entry_measure last (Float bits) = measured_append (measured_1 4) (measured_4 bits)
entry_measure last (Long high low) = measured_marked (not last) (measured_append (measured_1 5) (measured_append (measured_4 high) (measured_4 low)))
entry_measure last (Double high low) = measured_marked (not last) (measured_append (measured_1 6) (measured_append (measured_4 high) (measured_4 low)))
entry_measure last (ClassEntry name) = measured_append (measured_1 7) (measured_2 name)
entry_measure last (String text) = measured_append (measured_1 8) (measured_2 text)
entry_measure last (Fieldref a b) = measured_append (measured_1 9) (measured_append (measured_2 a) (measured_2 b))
entry_measure last (Methodref a b) = measured_append (measured_1 10) (measured_append (measured_2 a) (measured_2 b))
entry_measure last (InterfaceMethodref a b) = measured_append (measured_1 11) (measured_append (measured_2 a) (measured_2 b))
entry_measure last (NameAndType a b) = measured_append (measured_1 12) (measured_append (measured_2 a) (measured_2 b))
entry_measure last (MethodHandle kind a) = measured_append (measured_1 15) (measured_append (kind_measure kind) (measured_2 a))
entry_measure last (MethodType a) = measured_append (measured_1 16) (measured_2 a)
entry_measure last (Dynamic a b) = measured_append (measured_1 17) (measured_append (measured_2 a) (measured_2 b))
entry_measure last (InvokeDynamic a b) = measured_append (measured_1 18) (measured_append (measured_2 a) (measured_2 b))
entry_measure last Unusable = measured_unspelled measured_none

-- at a second index everything but the unusable one counts with its parts
second_measure : (last : Bool) (e : Entry) → Measured (second_pieces last e) (entry_fits e) (entry_size e)
second_measure last Unusable = measured_none
second_measure last (Utf8 bytes) = measured_unspelled (entry_measure last (Utf8 bytes))
second_measure last (Integer bits) = measured_unspelled (entry_measure last (Integer bits))
second_measure last (Float bits) = measured_unspelled (entry_measure last (Float bits))
second_measure last (Long high low) = measured_unspelled (entry_measure last (Long high low))
second_measure last (Double high low) = measured_unspelled (entry_measure last (Double high low))
second_measure last (ClassEntry a) = measured_unspelled (entry_measure last (ClassEntry a))
second_measure last (String a) = measured_unspelled (entry_measure last (String a))
second_measure last (Fieldref a b) = measured_unspelled (entry_measure last (Fieldref a b))
second_measure last (Methodref a b) = measured_unspelled (entry_measure last (Methodref a b))
second_measure last (InterfaceMethodref a b) = measured_unspelled (entry_measure last (InterfaceMethodref a b))
second_measure last (NameAndType a b) = measured_unspelled (entry_measure last (NameAndType a b))
second_measure last (MethodHandle kind a) = measured_unspelled (entry_measure last (MethodHandle kind a))
second_measure last (MethodType a) = measured_unspelled (entry_measure last (MethodType a))
second_measure last (Dynamic a b) = measured_unspelled (entry_measure last (Dynamic a b))
second_measure last (InvokeDynamic a b) = measured_unspelled (entry_measure last (InvokeDynamic a b))

indexed_measure : (second last : Bool) (e : Entry) → Measured (indexed_pieces second last e) (entry_fits e) (entry_size e)
indexed_measure true last e = second_measure last e
indexed_measure false last e = entry_measure last e

entries_measure : (second : Bool) (es : List Entry) → Measured (entries_pieces second es) (list_all entry_fits es) (total entry_size es)
unfolding entries_pieces
entries_measure second [] = measured_none
entries_measure second (e ∷ es) = measured_append (indexed_measure second (eqb (length es) 0) e) (entries_measure (is_wide e) es)

pool_measure : (es : List Entry) → Measured (pool_pieces es) (pool_fits es) (pool_size es)
unfolding pool_pieces
pool_measure es = measured_append (measured_2 (length es + 1)) (entries_measure false es)

-- ---- attributes

handler_measure : (h : Handler) → Measured (handler_pieces h) (handler_fits h) 8
handler_measure h = measured_append (measured_2 h.start_pc) (measured_append (measured_2 h.end_pc) (measured_append (measured_2 h.handler_pc) (measured_2 h.catch_type)))

-- a name index, and a body that has no numbers of its own
kept_measure : (name : ℕ) (b : Bool) (body : List ℕ) → Measured (field 2 name ++ lengthened (marked b (plain body ∷ []))) (is_u2 name) (2 + (4 + length body))
kept_measure name b body = fits_so (and_true _) (measured_append (measured_2 name) (measured_lengthened (measured_marked b (measured_plain body))))

nested_measure : (pool : List Entry) (x : Nested) → Measured (nested_pieces pool x) (nested_fits x) (nested_size x)
nested_measure pool (of_parts name body) = kept_measure name (is_stack_map pool location.Code name) body
nested_measure pool (of_numbers name n) = kept_measure name (unlike (is_stack_map pool location.Code name) && is_laid_out (layout_at pool location.Code name) n) n.body
nested_measure pool (raw name body) = kept_measure name (unlike (is_stack_map pool location.Code name) && has_none (layout_at pool location.Code name)) body

code_measure : (pool : List Entry) (c : CodeBody) → Measured (code_pieces pool c) (code_fits c) (code_size c)
code_measure pool c =
    measured_append (fits_so (ap (λ (b : Bool). is_u2 c.max_stack && b) (and_true _)) (measured_append (measured_2 c.max_stack) (measured_append (measured_2 c.max_locals) (measured_lengthened (measured_plain c.code)))))
    (measured_append (measured_table handler_measure c.exception_table) (measured_table (nested_measure pool) c.attributes))

attribute_measure : (pool : List Entry) (place : Location) (x : Attribute) → Measured (attribute_pieces pool place x) (attribute_fits x) (attribute_size x)
attribute_measure pool place (of_parts name code) = measured_append (measured_2 name) (measured_lengthened (measured_marked (is_code pool place name) (code_measure pool code)))
attribute_measure pool place (of_numbers name n) = kept_measure name (unlike (is_code pool place name) && is_laid_out (layout_at pool place name) n) n.body
attribute_measure pool place (raw name body) = kept_measure name (unlike (is_code pool place name) && has_none (layout_at pool place name)) body

-- ---- members and the class

three_measure : (a b c : ℕ) → Measured (field 2 a ++ (field 2 b ++ field 2 c)) (is_u2 a && (is_u2 b && is_u2 c)) 6
three_measure a b c = measured_append (measured_2 a) (measured_append (measured_2 b) (measured_2 c))

member_measure : (pool : List Entry) (place : Location) (m : Member) → Measured (member_pieces pool place m) (member_fits m) (member_size m)
member_measure pool place m = measured_append (three_measure m.access_flags m.name m.descriptor) (measured_table (attribute_measure pool place) m.attributes)

component_measure : (pool : List Entry) (c : Component) → Measured (component_pieces pool c) (component_fits c) (component_size c)
component_measure pool c = measured_append (measured_append (measured_2 c.name) (measured_2 c.descriptor)) (measured_table (attribute_measure pool location.RecordComponent) c.attributes)

class_attribute_measure : (pool : List Entry) (place : Location) (x : ClassAttribute) → Measured (class_attribute_pieces pool place x) (class_attribute_fits x) (class_attribute_size x)
class_attribute_measure pool place (of_parts name components) =
    measured_append (measured_2 name) (measured_lengthened (measured_marked (is_record pool place name) (measured_table (component_measure pool) components)))
class_attribute_measure pool place (of_numbers name n) = kept_measure name (unlike (is_record pool place name) && is_laid_out (layout_at pool place name) n) n.body
class_attribute_measure pool place (raw name body) = kept_measure name (unlike (is_record pool place name) && has_none (layout_at pool place name)) body

-- what no byte is written for
measured_behind : {q : List Piece} {f : Bool} {m : ℕ} (b : Bool) → Measured q f m → Measured (marked b [] ++ q) f m
measured_behind true a = a
measured_behind false a = measured_unspelled a

pub class_measure : (v : Versions) (c : Class) → Measured (class_pieces v c) (class_fits c) (class_size c)
unfolding class_pieces
class_measure v c =
    measured_append (measured_append (measured_4 0xCAFEBABE) (measured_append (measured_2 c.minor_version) (measured_marked (is_version v c.minor_version c.major_version) (measured_2 c.major_version))))
    (measured_behind (beq (is_release v) c.release)
    (measured_append (pool_measure c.constant_pool)
    (measured_append (three_measure c.access_flags c.this_class c.super_class)
    (measured_append (measured_table measured_2 c.interfaces)
    (measured_append (measured_table (member_measure c.constant_pool location.Field) c.fields)
    (measured_append (measured_table (member_measure c.constant_pool location.Method) c.methods)
    (measured_table (class_attribute_measure c.constant_pool (location.Class c.major_version)) c.attributes)))))))
