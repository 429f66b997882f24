-- In a well-formed class the texts that it names its parts by are there.
use Rattle.std.proofs.Common.{◌≡◌, ◌≢◌, ℕ, ◌+◌, Bool, true, false, not, cond, ◌||◌, ◌&&◌, List, [], ◌∷◌, Some, None, Result, Ok, Err, refl, sym, ap, ◌∙◌}
use Rattle.std.proofs.lemmas.Bool.{true≢false, ne_eqb}
use Rattle.std.proofs.lemmas.Option.{none-some}
use Rattle.std.specs.Result.{is_err}
use Rattle.pool.specs.declared.fault.PoolFault.{PoolFault}
use Rattle.pool.specs.Entries.{Entry, Utf8, Class}
use Rattle.pool.specs.Lookups.{and_then, entry_at, text_in, text_at, class_name_in, class_name_at, named}
use Rattle.pool.specs.Lookups as lookups
use Rattle.pool.proofs.LookupLaws.{entry_stands}
use Rattle.classfile.specs.declared.form_fault.FormRule.TheVariants.{BadIndex, WrongKind}
use Rattle.classfile.specs.declared.form_fault.Place.TheVariants as places
use Rattle.classfile.specs.declared.indices.ConstantKind.TheVariants as kinds
use Rattle.classfile.specs.Values as values
use Rattle.classfile.specs.Conditions.{Condition, broken_rule}
use Rattle.classfile.specs.Indices.{on_found, is_of, is_bad, is_bad_unless_zero, is_other}
use Rattle.classfile.specs.ConstantForm.{names_class, is_no_class_name, constant_conditions, class_conditions, texts_have_bad, texts_have_other}
use Rattle.classfile.specs.ClassForm as forms
use Rattle.classfile.specs.ClassForm.{class_has_bad, class_has_other}
use Rattle.classfile.specs.MemberForm.{member_has_bad, member_has_other}
use Rattle.classfile.specs.WellFormed.{WellFormed, conditions_of_field, conditions_of_method}
use Rattle.classfile.specs.FormLaws.{FormedHasNames}
use Rattle.classfile.proofs.Places.{own_rule, entry_is, class_is, field_is, method_is}

-- ---- conditions of which none holds

pub first_holds_not : (c : Condition) (others : List Condition) → broken_rule (c ∷ others) ≡ None
    → (c.1 ≡ false) × (broken_rule others ≡ None)
first_holds_not c others e = by_case c.1 refl e
  where
    by_case : (b : Bool) → c.1 ≡ b → cond b (Some c.0) (broken_rule others) ≡ None → (c.1 ≡ false) × (broken_rule others ≡ None)
    by_case true h e = absurd (none-some c.0 (sym e))
    by_case false h e = (h, e)

-- each of them
abbrev pub NoneHolds : List Condition → Type 0
NoneHolds [] = Unit {0}
NoneHolds (c ∷ others) = (c.1 ≡ false) × NoneHolds others

pub none_holds : (cs : List Condition) → broken_rule cs ≡ None → NoneHolds cs
none_holds [] e = tt
none_holds (c ∷ others) e = let p = first_holds_not c others e in (p.0, none_holds others p.1)

pub not_false : (b : Bool) → not b ≡ false → b ≡ true
not_false true e = refl
not_false false e = absurd (true≢false e)

-- the first two, which are of indices
indices_fit : (a b : Condition) (others : List Condition) → broken_rule (a ∷ b ∷ others) ≡ None → (a.1 ≡ false) × (b.1 ≡ false)
indices_fit a b others e =
    let first = first_holds_not a (b ∷ others) e in
    (first.0, (first_holds_not b others first.1).0)

pub left_not : (a b : Bool) → (a || b) ≡ false → a ≡ false
left_not true b e = e
left_not false b e = refl

pub right_not : (a b : Bool) → (a || b) ≡ false → b ≡ false
right_not true b e = absurd (true≢false e)
right_not false b e = e

-- ---- look-ups

looked : (pool : List Entry) (index : ℕ) → is_bad pool index ≡ false → (e : Entry) × (entry_at pool index ≡ Ok e)
unfolding is_bad
looked pool index h = by_result (entry_at pool index) refl h
  where
    by_result : (r : Result Entry PoolFault) → entry_at pool index ≡ r → is_err r ≡ false → (e : Entry) × (entry_at pool index ≡ Ok e)
    by_result (Ok e) is h = (e, is)
    by_result (Err fault) is h = absurd (true≢false h)

of_kind : (pool : List Entry) (index : ℕ) (e : Entry) → entry_at pool index ≡ Ok e → is_other pool kinds.Utf8 index ≡ false → (bytes : List ℕ) × (e ≡ Utf8 bytes)
unfolding is_other
of_kind pool index e is h = by_entry e (sym (ap (on_found (λ x. not (is_of kinds.Utf8 x))) is) ∙ h)
  where
    by_entry : (e : Entry) → not (is_of kinds.Utf8 e) ≡ false → (bytes : List ℕ) × (e ≡ Utf8 bytes)
    by_entry (Utf8 bytes) h = (bytes, refl)
    by_entry e h = absurd (true≢false h)

of_class : (pool : List Entry) (index : ℕ) (e : Entry) → entry_at pool index ≡ Ok e → is_other pool kinds.Class index ≡ false → (name : ℕ) × (e ≡ Class name)
unfolding is_other
of_class pool index e is h = by_entry e (sym (ap (on_found (λ x. not (is_of kinds.Class x))) is) ∙ h)
  where
    by_entry : (e : Entry) → not (is_of kinds.Class e) ≡ false → (name : ℕ) × (e ≡ Class name)
    by_entry (Class name) h = (name, refl)
    by_entry e h = absurd (true≢false h)

pub text_found : (pool : List Entry) (index : ℕ) → is_bad pool index ≡ false → is_other pool kinds.Utf8 index ≡ false
    → (bytes : List ℕ) × (text_at pool index ≡ Ok bytes)
unfolding text_at
text_found pool index bad other =
    let found = looked pool index bad in
    let text = of_kind pool index found.0 found.1 other in
    (text.0, ap (λ (r : Result Entry PoolFault). and_then r (text_in index)) (found.1 ∙ ap Ok text.1))

-- a class by its name, which is of its form (4.4.1)
pub record Named (pool : List Entry) (index : ℕ) : Type 0 where
  pub name : List ℕ
  pub is : class_name_at pool index ≡ Ok name
  pub form : names_class name ≡ true

pub class_there : (c : values.Class) → WellFormed c → (index : ℕ) → is_bad c.constant_pool index ≡ false
    → is_other c.constant_pool kinds.Class index ≡ false → Named c.constant_pool index
unfolding class_name_at constant_conditions is_no_class_name
class_there c formed index bad other =
    let pool = c.constant_pool in
    let found = looked pool index bad in
    let class = of_class pool index found.0 found.1 other in
    let there : entry_at pool index ≡ Ok (Class class.0) = found.1 ∙ ap Ok class.1 in
    let stands = entry_stands pool index (Class class.0) there in
    let none : broken_rule (class_conditions pool class.0) ≡ None =
    own_rule _ _ (sym (entry_is c stands.place (Class class.0) stands.here) ∙ formed.everywhere (places.Pool (stands.place + 1))) in
    let fit = none_holds (class_conditions pool class.0) none in
    let text = text_found pool class.0 fit.0 fit.1.0 in
    record {
      name = text.0;
      is = ap (λ (r : Result Entry PoolFault). and_then r (class_name_in pool index)) there ∙ text.1;
      form = not_false (names_class text.0) (sym (ap (on_found (λ t. not (names_class t))) text.1) ∙ fit.1.1.0);
    }

class_found : (c : values.Class) → WellFormed c → (index : ℕ) → is_bad c.constant_pool index ≡ false → is_other c.constant_pool kinds.Class index ≡ false
    → (name : List ℕ) × (class_name_at c.constant_pool index ≡ Ok name)
class_found c formed index bad other = let there = class_there c formed index bad other in (there.name, there.is)

-- the two texts together
pub both_named : (pool : List Entry) (name descriptor : ℕ) (n d : List ℕ) → text_at pool name ≡ Ok n → text_at pool descriptor ≡ Ok d
    → named pool name descriptor ≡ Ok (record { name = n; descriptor = d })
unfolding named
both_named pool name descriptor n d first second =
    ap (λ (r : Result (List ℕ) PoolFault). and_then r (λ n. and_then (text_at pool descriptor) (λ d. Ok (record { name = n; descriptor = d })))) first
    ∙ ap (λ (r : Result (List ℕ) PoolFault). and_then r (λ d. Ok (record { name = n; descriptor = d }))) second

-- the texts of a member's name and descriptor
pub record Texts (pool : List Entry) (m : values.Member) : Type 0 where
  pub name : List ℕ
  pub name_is : text_at pool m.name ≡ Ok name
  pub descriptor : List ℕ
  pub descriptor_is : text_at pool m.descriptor ≡ Ok descriptor

pub texts_there : (pool : List Entry) (m : values.Member) → member_has_bad pool m ≡ false → member_has_other pool m ≡ false → Texts pool m
unfolding member_has_bad member_has_other texts_have_bad texts_have_other
texts_there pool m bad other =
    let texts_bad = left_not _ _ bad in
    let texts_other = left_not _ _ other in
    let name = text_found pool m.name (left_not _ _ texts_bad) (left_not _ _ texts_other) in
    let descriptor = text_found pool m.descriptor (right_not _ _ texts_bad) (right_not _ _ texts_other) in
    record { name = name.0; name_is = name.1; descriptor = descriptor.0; descriptor_is = descriptor.1 }

named_found : (pool : List Entry) (m : values.Member) → member_has_bad pool m ≡ false → member_has_other pool m ≡ false
    → (x : lookups.Named) × (named pool m.name m.descriptor ≡ Ok x)
named_found pool m bad other =
    let t = texts_there pool m bad other in
    (record { name = t.name; descriptor = t.descriptor }, both_named pool m.name m.descriptor t.name t.descriptor t.name_is t.descriptor_is)

-- an index that may be 0, and is not
pub not_zero : (pool : List Entry) (index : ℕ) → index ≢ 0 → is_bad_unless_zero pool index ≡ false → is_bad pool index ≡ false
not_zero pool index some h = sym (ap (λ (b : Bool). not b && is_bad pool index) (ne_eqb index 0 some)) ∙ h

behind_two : List Condition → List Condition
behind_two [] = []
behind_two (a ∷ []) = []
behind_two (a ∷ b ∷ others) = others

class_fits : (c : values.Class) → broken_rule (forms.class_conditions c) ≡ None → (class_has_bad c ≡ false) × (class_has_other c ≡ false)
unfolding behind_two
class_fits c none = indices_fit (BadIndex, class_has_bad c) (WrongKind, class_has_other c) (behind_two (forms.class_conditions c)) none

field_fits : (c : values.Class) (n : ℕ) (m : values.Member) → broken_rule (conditions_of_field c n m) ≡ None
    → (member_has_bad c.constant_pool m ≡ false) × (member_has_other c.constant_pool m ≡ false)
unfolding behind_two
field_fits c n m none =
    indices_fit (BadIndex, member_has_bad c.constant_pool m) (WrongKind, member_has_other c.constant_pool m) (behind_two (conditions_of_field c n m)) none

method_fits : (c : values.Class) (n : ℕ) (m : values.Member) → broken_rule (conditions_of_method c n m) ≡ None
    → (member_has_bad c.constant_pool m ≡ false) × (member_has_other c.constant_pool m ≡ false)
unfolding behind_two
method_fits c n m none =
    indices_fit (BadIndex, member_has_bad c.constant_pool m) (WrongKind, member_has_other c.constant_pool m) (behind_two (conditions_of_method c n m)) none

pub this_fits : (c : values.Class) → class_has_bad c ≡ false → class_has_other c ≡ false
    → (is_bad c.constant_pool c.this_class ≡ false) × (is_other c.constant_pool kinds.Class c.this_class ≡ false)
unfolding class_has_bad class_has_other
this_fits c bad other = (left_not _ _ (left_not _ _ (left_not _ _ bad)), left_not _ _ (left_not _ _ (left_not _ _ other)))

above_fits : (c : values.Class) → class_has_bad c ≡ false → class_has_other c ≡ false
    → (is_bad_unless_zero c.constant_pool c.super_class ≡ false) × (is_other c.constant_pool kinds.Class c.super_class ≡ false)
unfolding class_has_bad class_has_other
above_fits c bad other = (right_not _ _ (left_not _ _ (left_not _ _ bad)), right_not _ _ (left_not _ _ (left_not _ _ other)))

pub formed_has_names : FormedHasNames
formed_has_names c formed =
    let fit = class_fits c (own_rule _ _ (sym (class_is c) ∙ formed.everywhere places.Class)) in
    let this = this_fits c fit.0 fit.1 in
    let above = above_fits c fit.0 fit.1 in
    record {
      this = class_found c formed c.this_class this.0 this.1;
      above = λ some. class_found c formed c.super_class (not_zero c.constant_pool c.super_class some above.0) above.1;
      field = λ n m here.
          let fit = field_fits c n m (own_rule _ _ (sym (field_is c n m here) ∙ formed.everywhere (places.Field n))) in
          named_found c.constant_pool m fit.0 fit.1;
      method = λ n m here.
          let fit = method_fits c n m (own_rule _ _ (sym (method_is c n m here) ∙ formed.everywhere (places.Method n))) in
          named_found c.constant_pool m fit.0 fit.1;
    }
