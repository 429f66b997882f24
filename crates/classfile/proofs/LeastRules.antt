-- In a list of conditions whose numbers rise the first that is broken has the least number.
use Rattle.std.proofs.Common.{◌≡◌, ◌<◌, ◌≤◌, ℕ, zero, suc, Bool, true, false, nat_lt, cond, List, [], ◌∷◌, Option, Some, None, refl, sym, ap, ◌∙◌, arith, inl, inr, ◌⊎◌}
use Rattle.std.proofs.lemmas.Bool.{and_parts, false≢true}
use Rattle.std.proofs.lemmas.Bool.Decides.{nat_tests}
use Rattle.std.proofs.lemmas.Option.{none-some}
use Rattle.std.specs.Option.{option_map_or}
use Rattle.std.specs.Prelude.{slice_get}
use Rattle.classfile.specs.declared.form_fault.FormRule.{FormRule}
use Rattle.classfile.specs.declared.form_fault.Place.{Place}
use Rattle.classfile.specs.declared.form_fault.Place.TheVariants as places
use Rattle.pool.specs.Entries.{Entry, Utf8, Integer, Float, Long, Double, Class, String, Fieldref, Methodref, InterfaceMethodref, NameAndType, MethodHandle, MethodType, Dynamic, InvokeDynamic, Unusable}
use Rattle.classfile.specs.Values as values
use Rattle.classfile.specs.Conditions.{Condition, rule_number, broken_rule, IsBroken, IsLeastBroken, HasNoBroken, rises_from}
use Rattle.classfile.specs.ConstantForm.{constant_conditions}
use Rattle.classfile.specs.release.Constants as constants
use Rattle.classfile.specs.release.MemberRules as members
use Rattle.classfile.specs.release.Places as release
use Rattle.classfile.specs.WellFormed.{first_rule, entry_conditions, conditions_of_field, conditions_of_method, conditions_at, fault_at}
use Rattle.classfile.specs.FormLaws.{LeastIsTold, NoneIsTold}

above : (n : ℕ) (cs : List Condition) → rises_from n cs ≡ true → (rule : FormRule) → IsBroken cs rule → n < rule_number rule
above n [] rises rule b = absurd b
above n (c ∷ others) rises rule (inl (same, holds)) =
    let p = and_parts (nat_lt n (rule_number c.0)) (rises_from (rule_number c.0) others) rises in
    let first : n < rule_number c.0 = grind (arith, nat_tests) in
    omega (arith, first, ap rule_number same)
above n (c ∷ others) rises rule (inr b) =
    let p = and_parts (nat_lt n (rule_number c.0)) (rises_from (rule_number c.0) others) rises in
    let first : n < rule_number c.0 = grind (arith, nat_tests) in
    let more : rule_number c.0 < rule_number rule = above (rule_number c.0) others p.1 rule b in
    omega (arith, first, more)

rest_rises : (n : ℕ) (c : Condition) (others : List Condition) → rises_from n (c ∷ others) ≡ true → rises_from (rule_number c.0) others ≡ true
rest_rises n c others rises = (and_parts (nat_lt n (rule_number c.0)) (rises_from (rule_number c.0) others) rises).1

same_some : (r s : FormRule) → Some r ≡ Some s → r ≡ s
same_some r s e = cc

least_of : (n : ℕ) (cs : List Condition) → rises_from n cs ≡ true → (rule : FormRule) → broken_rule cs ≡ Some rule → IsLeastBroken cs rule
least_of n [] rises rule e = absurd (none-some rule e)
least_of n (c ∷ others) rises rule e = by_case c.1 refl e (rest_rises n c others rises) (λ h. least_of (rule_number c.0) others (rest_rises n c others rises) rule h)
  where
    by_case : (b : Bool) → c.1 ≡ b → cond b (Some c.0) (broken_rule others) ≡ Some rule → rises_from (rule_number c.0) others ≡ true
        → (broken_rule others ≡ Some rule → IsLeastBroken others rule) → IsLeastBroken (c ∷ others) rule
    by_case true holds e rises more = record { broken = inl (same_some c.0 rule e, holds); least = at_least }
      where
        at_least : (other : FormRule) → IsBroken (c ∷ others) other → rule_number rule ≤ rule_number other
        at_least other (inl (same, h)) = omega (arith, ap rule_number (same_some c.0 rule e), ap rule_number same)
        at_least other (inr b) = omega (arith, above (rule_number c.0) others rises other b, ap rule_number (same_some c.0 rule e))
    by_case false not e rises more = record { broken = inr (more e).broken; least = at_least }
      where
        at_least : (other : FormRule) → IsBroken (c ∷ others) other → rule_number rule ≤ rule_number other
        at_least other (inl (same, h)) = absurd (false≢true (sym not ∙ h))
        at_least other (inr b) = (more e).least other b

told_of : (n : ℕ) (cs : List Condition) → rises_from n cs ≡ true → (rule : FormRule) → IsLeastBroken cs rule → broken_rule cs ≡ Some rule
told_of n [] rises rule l = absurd l.broken
told_of n (c ∷ others) rises rule l = by_case c.1 refl l.broken (rest_rises n c others rises) (λ h. told_of (rule_number c.0) others (rest_rises n c others rises) rule h)
  where
    by_case : (b : Bool) → c.1 ≡ b → IsBroken (c ∷ others) rule → rises_from (rule_number c.0) others ≡ true
        → (IsLeastBroken others rule → broken_rule others ≡ Some rule) → cond b (Some c.0) (broken_rule others) ≡ Some rule
    by_case true holds (inl (same, h)) rises more = ap Some same
    by_case true holds (inr b) rises more =
        let over = above (rule_number c.0) others rises rule b in
        absurd (omega (arith, over, l.least c.0 (inl (refl, holds))))
    by_case false not (inl (same, h)) rises more = absurd (false≢true (sym not ∙ h))
    by_case false not (inr b) rises more = more (record { broken = b; least = λ other h. l.least other (inr h) })

none_of : (cs : List Condition) → broken_rule cs ≡ None → (rule : FormRule) → IsBroken cs rule → ⊥
none_of [] e rule b = b
none_of (c ∷ others) e rule b = by_case c.1 refl e b (λ h. none_of others h rule)
  where
    by_case : (t : Bool) → c.1 ≡ t → cond t (Some c.0) (broken_rule others) ≡ None → IsBroken (c ∷ others) rule → (broken_rule others ≡ None → IsBroken others rule → ⊥) → ⊥
    by_case true holds e b more = none-some c.0 (sym e)
    by_case false not e (inl (same, h)) more = false≢true (sym not ∙ h)
    by_case false not e (inr b) more = more e b

none_told : (cs : List Condition) → ((rule : FormRule) → IsBroken cs rule → ⊥) → broken_rule cs ≡ None
none_told [] h = refl
none_told (c ∷ others) h = by_case c.1 refl (none_told others (λ rule b. h rule (inr b)))
  where
    by_case : (t : Bool) → c.1 ≡ t → broken_rule others ≡ None → cond t (Some c.0) (broken_rule others) ≡ None
    by_case true holds more = absurd (h c.0 (inl (refl, holds)))
    by_case false not more = more

-- ---- the conditions of each place rise

constants_rise : (major : ℕ) (pool : List Entry) (e : Entry) → rises_from 0 (constant_conditions major pool e) ≡ true
unfolding constant_conditions
constants_rise major pool (Utf8 bytes) = refl
constants_rise major pool (Integer bits) = refl
constants_rise major pool (Float bits) = refl
constants_rise major pool (Long high low) = refl
constants_rise major pool (Double high low) = refl
constants_rise major pool (Class name) = refl
constants_rise major pool (String text) = refl
constants_rise major pool (Fieldref class named) = refl
constants_rise major pool (Methodref class named) = refl
constants_rise major pool (InterfaceMethodref class named) = refl
constants_rise major pool (NameAndType name descriptor) = refl
constants_rise major pool (MethodHandle kind reference) = refl
constants_rise major pool (MethodType descriptor) = refl
constants_rise major pool (Dynamic bootstrap named) = refl
constants_rise major pool (InvokeDynamic bootstrap named) = refl
constants_rise major pool Unusable = refl

entries_rise : (c : values.Class) (index : ℕ) → rises_from 0 (entry_conditions c index) ≡ true
entries_rise c zero = refl
entries_rise c (suc k) = by_entry (slice_get c.constant_pool k)
  where
    by_entry : (o : Option Entry) → rises_from 0 (option_map_or (constant_conditions c.major_version c.constant_pool) o []) ≡ true
    by_entry None = refl
    by_entry (Some e) = constants_rise c.major_version c.constant_pool e

rises : (c : values.Class) (p : Place) → rises_from 0 (conditions_at c p) ≡ true
unfolding conditions_at
rises c (places.Pool index) = entries_rise c index
rises c places.Class = refl
rises c (places.Field n) = by_member (slice_get c.fields n)
  where
    by_member : (o : Option values.Member) → rises_from 0 (option_map_or (conditions_of_field c n) o []) ≡ true
    by_member None = refl
    by_member (Some m) = refl
rises c (places.Method n) = by_member (slice_get c.methods n)
  where
    by_member : (o : Option values.Member) → rises_from 0 (option_map_or (conditions_of_method c n) o []) ≡ true
    by_member None = refl
    by_member (Some m) = refl

-- ---- the rules of a release rise too

release_constants_rise : (c : values.Class) (e : Entry) → rises_from 0 (constants.constant_conditions c e) ≡ true
unfolding constants.constant_conditions
release_constants_rise c (NameAndType name descriptor) = refl
release_constants_rise c (MethodHandle kind reference) = refl
release_constants_rise c (Dynamic bootstrap named) = refl
release_constants_rise c (InvokeDynamic bootstrap named) = refl
release_constants_rise c _ = refl

release_entries_rise : (c : values.Class) (index : ℕ) → rises_from 0 (release.entry_conditions c index) ≡ true
release_entries_rise c zero = refl
release_entries_rise c (suc k) = by_entry (slice_get c.constant_pool k)
  where
    by_entry : (o : Option Entry) → rises_from 0 (option_map_or (constants.constant_conditions c) o []) ≡ true
    by_entry None = refl
    by_entry (Some e) = release_constants_rise c e

release_rises : (c : values.Class) (p : Place) → rises_from 0 (release.conditions_at c p) ≡ true
unfolding release.conditions_at
release_rises c (places.Pool index) = release_entries_rise c index
release_rises c places.Class = refl
release_rises c (places.Field n) = by_member (slice_get c.fields n)
  where
    by_member : (o : Option values.Member) → rises_from 0 (option_map_or (members.field_conditions c) o []) ≡ true
    by_member None = refl
    by_member (Some m) = refl
release_rises c (places.Method n) = by_member (slice_get c.methods n)
  where
    by_member : (o : Option values.Member) → rises_from 0 (option_map_or (members.method_conditions c) o []) ≡ true
    by_member None = refl
    by_member (Some m) = refl

-- ---- which of the two lists tells

first_told : (own other : List Condition) (b : Bool) (rule : FormRule) → rises_from 0 own ≡ true → rises_from 0 other ≡ true
    → first_rule (broken_rule own) (cond b (broken_rule other) None) ≡ Some rule
    → IsLeastBroken own rule ⊎ (HasNoBroken own × (b ≡ true) × IsLeastBroken other rule)
first_told own other b rule up also e = by (broken_rule own) refl b refl e
  where
    by : (o : Option FormRule) → broken_rule own ≡ o → (t : Bool) → b ≡ t → first_rule o (cond t (broken_rule other) None) ≡ Some rule
        → IsLeastBroken own rule ⊎ (HasNoBroken own × (b ≡ true) × IsLeastBroken other rule)
    by (Some r) is t holds e = inl (least_of 0 own up rule (is ∙ e))
    by None is true holds e = inr (record { none = none_of own is }, holds, least_of 0 other also rule e)
    by None is false holds e = absurd (none-some rule e)

told_first : (own other : List Condition) (b : Bool) (rule : FormRule) → rises_from 0 own ≡ true → rises_from 0 other ≡ true
    → IsLeastBroken own rule ⊎ (HasNoBroken own × (b ≡ true) × IsLeastBroken other rule)
    → first_rule (broken_rule own) (cond b (broken_rule other) None) ≡ Some rule
told_first own other b rule up also (inl l) =
    ap (λ (o : Option FormRule). first_rule o (cond b (broken_rule other) None)) (told_of 0 own up rule l)
told_first own other b rule up also (inr (none, holds, l)) =
    ap (λ (o : Option FormRule). first_rule o (cond b (broken_rule other) None)) (none_told own none.none)
    ∙ ap (λ (t : Bool). cond t (broken_rule other) None) holds ∙ told_of 0 other also rule l

first_none : (own other : List Condition) (b : Bool) → first_rule (broken_rule own) (cond b (broken_rule other) None) ≡ None
    → HasNoBroken own × (b ≡ true → HasNoBroken other)
first_none own other b e = by (broken_rule own) refl e
  where
    by : (o : Option FormRule) → broken_rule own ≡ o → first_rule o (cond b (broken_rule other) None) ≡ None → HasNoBroken own × (b ≡ true → HasNoBroken other)
    by (Some r) is e = absurd (none-some r (sym e))
    by None is e = (
      record { none = none_of own is },
      λ holds. record { none = none_of other (sym (ap (λ (t : Bool). cond t (broken_rule other) None) holds) ∙ e) },
    )

none_first : (own other : List Condition) (b : Bool) → HasNoBroken own × (b ≡ true → HasNoBroken other)
    → first_rule (broken_rule own) (cond b (broken_rule other) None) ≡ None
none_first own other b h = ap (λ (o : Option FormRule). first_rule o (cond b (broken_rule other) None)) (none_told own h.0.none) ∙ by b h.1
  where
    by : (t : Bool) → (t ≡ true → HasNoBroken other) → cond t (broken_rule other) None ≡ None
    by true more = none_told other (more refl).none
    by false more = refl

pub least_is_told : LeastIsTold
unfolding fault_at
least_is_told c p rule = (
  first_told (conditions_at c p) (release.conditions_at c p) c.release rule (rises c p) (release_rises c p),
  told_first (conditions_at c p) (release.conditions_at c p) c.release rule (rises c p) (release_rises c p),
)

pub none_is_told : NoneIsTold
unfolding fault_at
none_is_told c p = (first_none (conditions_at c p) (release.conditions_at c p) c.release, none_first (conditions_at c p) (release.conditions_at c p) c.release)
