use Rattle.std.proofs.Common.{◌≡◌, ◌∙◌, ℕ, Option, Some, None, Result, Ok, Err, Bool, sym, ap}
use Rattle.std.specs.Prelude.{IfOk}
use Rattle.std.specs.declared.alloc.AllocError.{AllocError}
use Rattle.pool.specs.Lookups.{FieldOf, Named, field_ref_at}
use Rattle.pool.specs.Views.{field_ref_view}
use Rattle.classfile.specs.declared.class_file.ClassFile.{ClassFile}
use Rattle.classfile.specs.Indices.{on_found}
use Rattle.classfile.specs.Methods.{is_declared}
use Rattle.classfile.specs.DeclaredFields.{fields_of, has_named, text_indices, declares}
use Rattle.classfile.proofs.FieldIndices.{leads_to}
use Rattle.classfile.proofs.own_fields.OwnFields.declares.Goals as goal

same_some : (x y : ℕ × ℕ) → (let o : Option (ℕ × ℕ) = Some x in o) ≡ Some y → x ≡ y
same_some x y h = cc

none_some : (x : ℕ × ℕ) → (let o : Option (ℕ × ℕ) = None in o) ≡ Some x → ⊥
none_some x h = cc

-- where the indices are found, the class declares the field where it declares the texts there
found_at : (class : ClassFile) (field name descriptor : ℕ) (f : FieldOf) → field_ref_at class.constant_pool field ≡ Ok f
    → text_indices class.constant_pool field ≡ Some (name, descriptor) → has_named class name descriptor ≡ declares class field
found_at class field name descriptor f here at =
    let l = leads_to class.constant_pool field f here in
    let same : l.0 ≡ (name, descriptor) = same_some l.0 (name, descriptor) (sym l.1 ∙ at) in
    ap (λ (x : ℕ × ℕ). has_named class x.0 x.1) (sym same) ∙ ap (on_found (λ (x : Named). is_declared (fields_of class) x.name x.descriptor)) l.2
    ∙ sym (ap (on_found (λ (x : FieldOf). is_declared (fields_of class) x.name x.descriptor)) here)

told : (class : ClassFile) (field name descriptor : ℕ) → has_named class name descriptor ≡ declares class field
    → (r : Result Bool AllocError) → IfOk r (λ b. b ≡ has_named class name descriptor) → IfOk r (λ b. b ≡ declares class field)
told class field name descriptor same (Ok b) h = h ∙ same
told class field name descriptor same (Err e) h = h

pub returns-in-None-clause-declared : goal.returns-in-None-clause-declared
returns-in-None-clause-declared c =
    let class = c.self.inside.class.now in
    let l = leads_to class.constant_pool c.args.field (field_ref_view c.in-Ok.texts) c.in-Ok.ensures in
    absurd (none_some l.0 (sym c.in-None.is ∙ c.text_indices.ensures ∙ l.1))

pub returns-in-Some-clause-declared : goal.returns-in-Some-clause-declared
returns-in-Some-clause-declared c =
    let class = c.self.inside.class.now in
    let at : text_indices class.constant_pool c.args.field ≡ Some (c.in-Some.name, c.in-Some.descriptor) = sym c.text_indices.ensures ∙ c.in-Some.is in
    let same = found_at class c.args.field c.in-Some.name c.in-Some.descriptor (field_ref_view c.in-Ok.texts) c.in-Ok.ensures at in
    told c.args.self.now c.args.field c.in-Some.name c.in-Some.descriptor
    (ap (λ (x : ClassFile). has_named x c.in-Some.name c.in-Some.descriptor) (sym c.self.view_is) ∙ same ∙ ap (λ (x : ClassFile). declares x c.args.field) c.self.view_is)
    c.has_met.result c.has_met.ensures.found
