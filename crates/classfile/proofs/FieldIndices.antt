-- Where a Fieldref leads to texts, their indices are found one entry after the other.
use Rattle.std.proofs.Common.{◌≡◌, ℕ, true, eqb-true, List, Option, Some, Result, Ok, refl, sym, ap, ◌∙◌}
use Rattle.std.specs.Option.{option_and_then}
use Rattle.pool.specs.declared.fault.PoolFault.{PoolFault}
use Rattle.pool.specs.Entries.{Entry, Utf8, Integer, Float, Long, Double, Class, String, Fieldref, Methodref, InterfaceMethodref, NameAndType, MethodHandle, MethodType, Dynamic, InvokeDynamic, Unusable}
use Rattle.pool.specs.Lookups.{FieldOf, Named, named, and_then, entry_at, class_name_at, name_and_type_in, name_and_type_at, member, field_ref_in, field_ref_at}
use Rattle.pool.specs.ConstantMeanings.{found, constant_at}
use Rattle.classfile.specs.Indices.{on_found}
use Rattle.classfile.specs.DeclaredFields.{is_field_of, type_index, both_indices, text_indices}
use Rattle.classfile.proofs.SeenLaws.{parts}

abbrev pub pair : List ℕ → List ℕ → Named
pair name descriptor = record { name = name; descriptor = descriptor }

-- the entry is a Fieldref that leads to these texts
pub record Leads (pool : List Entry) (e : Entry) (f : FieldOf) : Type 0 where
  pub types : ℕ
  pub index : type_index e ≡ Some types
  pub named : Named
  pub there : name_and_type_at pool types ≡ Ok named
  pub same : pair named.name named.descriptor ≡ pair f.name f.descriptor

by_member : (pool : List Entry) (class types : ℕ) (f : FieldOf) → member pool class types ≡ Ok f
    → (n : Named) × (name_and_type_at pool types ≡ Ok n) × (pair n.name n.descriptor ≡ pair f.name f.descriptor)
unfolding member
by_member pool class types f h =
    let c = parts (class_name_at pool class) (λ c. and_then (name_and_type_at pool types) (λ n. Ok (record { class = c; name = n.name; descriptor = n.descriptor }))) f h in
    let n = parts (name_and_type_at pool types) (λ n. Ok (record { class = c.0; name = n.name; descriptor = n.descriptor })) f c.2 in
    (n.0, n.1, ap (λ (x : FieldOf). pair x.name x.descriptor) (same_ok (record { class = c.0; name = n.0.name; descriptor = n.0.descriptor }) f n.2))
  where
    same_ok : (x y : FieldOf) → (let r : Result FieldOf PoolFault = Ok x in r) ≡ Ok y → x ≡ y
    same_ok x y h = cc

by_entry : (pool : List Entry) (i : ℕ) (e : Entry) (f : FieldOf) → field_ref_in pool i e ≡ Ok f → Leads pool e f
by_entry pool i (Fieldref class types) f h =
    let n = by_member pool class types f h in
    record { types = types; index = refl; named = n.0; there = n.1; same = n.2 }
by_entry pool i (Utf8 bytes) f h = absurd cc
by_entry pool i (Integer bits) f h = absurd cc
by_entry pool i (Float bits) f h = absurd cc
by_entry pool i (Long high low) f h = absurd cc
by_entry pool i (Double high low) f h = absurd cc
by_entry pool i (Class name) f h = absurd cc
by_entry pool i (String text) f h = absurd cc
by_entry pool i (Methodref class types) f h = absurd cc
by_entry pool i (InterfaceMethodref class types) f h = absurd cc
by_entry pool i (NameAndType name descriptor) f h = absurd cc
by_entry pool i (MethodHandle kind reference) f h = absurd cc
by_entry pool i (MethodType descriptor) f h = absurd cc
by_entry pool i (Dynamic bootstrap types) f h = absurd cc
by_entry pool i (InvokeDynamic bootstrap types) f h = absurd cc
by_entry pool i Unusable f h = absurd cc

by_types : (pool : List Entry) (i : ℕ) (e : Entry) (n : Named) → name_and_type_in pool i e ≡ Ok n
    → (x : ℕ × ℕ) × (both_indices e ≡ Some x) × (named pool x.0 x.1 ≡ Ok n)
by_types pool i (NameAndType name descriptor) n h = ((name, descriptor), refl, h)
by_types pool i (Fieldref class types) n h = absurd cc
by_types pool i (Utf8 bytes) n h = absurd cc
by_types pool i (Integer bits) n h = absurd cc
by_types pool i (Float bits) n h = absurd cc
by_types pool i (Long high low) n h = absurd cc
by_types pool i (Double high low) n h = absurd cc
by_types pool i (Class name) n h = absurd cc
by_types pool i (String text) n h = absurd cc
by_types pool i (Methodref class types) n h = absurd cc
by_types pool i (InterfaceMethodref class types) n h = absurd cc
by_types pool i (MethodHandle kind reference) n h = absurd cc
by_types pool i (MethodType descriptor) n h = absurd cc
by_types pool i (Dynamic bootstrap types) n h = absurd cc
by_types pool i (InvokeDynamic bootstrap types) n h = absurd cc
by_types pool i Unusable n h = absurd cc

pub leads_to : (pool : List Entry) (field : ℕ) (f : FieldOf) → field_ref_at pool field ≡ Ok f
    → (x : ℕ × ℕ) × (text_indices pool field ≡ Some x) × (named pool x.0 x.1 ≡ Ok (record { name = f.name; descriptor = f.descriptor }))
unfolding field_ref_at name_and_type_at
leads_to pool field f h =
    let e = parts (entry_at pool field) (field_ref_in pool field) f h in
    let l = by_entry pool field e.0 f e.2 in
    let t = parts (entry_at pool l.types) (name_and_type_in pool l.types) l.named l.there in
    let x = by_types pool l.types t.0 l.named t.2 in
    let rest : ℕ → Option (ℕ × ℕ) = λ i. option_and_then both_indices (constant_at pool i) in
    let first : option_and_then type_index (constant_at pool field) ≡ Some l.types = ap (λ (r : Result Entry PoolFault). option_and_then type_index (found r)) e.1 ∙ l.index in
    let second : rest l.types ≡ Some x.0 = ap (λ (r : Result Entry PoolFault). option_and_then both_indices (found r)) t.1 ∙ x.1 in
    (x.0, ap (option_and_then rest) first ∙ second, x.2 ∙ ap Ok l.same)

class_by_entry : (pool : List Entry) (i index : ℕ) (e : Entry) (f : FieldOf) → is_field_of index e ≡ true → field_ref_in pool i e ≡ Ok f
    → class_name_at pool index ≡ Ok f.class
unfolding member
class_by_entry pool i index (Fieldref class types) f is h =
    let c = parts (class_name_at pool class) (λ c. and_then (name_and_type_at pool types) (λ n. Ok (record { class = c; name = n.name; descriptor = n.descriptor }))) f h in
    let n = parts (name_and_type_at pool types) (λ n. Ok (record { class = c.0; name = n.name; descriptor = n.descriptor })) f c.2 in
    ap (class_name_at pool) (sym (eqb-true class index is)) ∙ c.1 ∙ same_class (record { class = c.0; name = n.0.name; descriptor = n.0.descriptor }) f n.2
  where
    same_class : (x y : FieldOf) → (let r : Result FieldOf PoolFault = Ok x in r) ≡ Ok y → (let r : Result (List ℕ) PoolFault = Ok x.class in r) ≡ Ok y.class
    same_class x y h = cc
class_by_entry pool i index (Utf8 bytes) f is h = absurd cc
class_by_entry pool i index (Integer bits) f is h = absurd cc
class_by_entry pool i index (Float bits) f is h = absurd cc
class_by_entry pool i index (Long high low) f is h = absurd cc
class_by_entry pool i index (Double high low) f is h = absurd cc
class_by_entry pool i index (Class name) f is h = absurd cc
class_by_entry pool i index (String text) f is h = absurd cc
class_by_entry pool i index (Methodref class types) f is h = absurd cc
class_by_entry pool i index (InterfaceMethodref class types) f is h = absurd cc
class_by_entry pool i index (NameAndType name descriptor) f is h = absurd cc
class_by_entry pool i index (MethodHandle kind reference) f is h = absurd cc
class_by_entry pool i index (MethodType descriptor) f is h = absurd cc
class_by_entry pool i index (Dynamic bootstrap types) f is h = absurd cc
class_by_entry pool i index (InvokeDynamic bootstrap types) f is h = absurd cc
class_by_entry pool i index Unusable f is h = absurd cc

-- a Fieldref of the Class at this index has the name that is there
pub class_named_at : (pool : List Entry) (field index : ℕ) (f : FieldOf) → on_found (is_field_of index) (entry_at pool field) ≡ true
    → field_ref_at pool field ≡ Ok f → class_name_at pool index ≡ Ok f.class
unfolding field_ref_at
class_named_at pool field index f is h =
    let e = parts (entry_at pool field) (field_ref_in pool field) f h in
    class_by_entry pool field index e.0 f (sym (ap (on_found (is_field_of index)) e.1) ∙ is) e.2
