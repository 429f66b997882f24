-- The rule that is reported at each place of a class file.
use Rattle.std.proofs.Common.{◌≡◌, ◌<◌, ◌≤◌, ◌+◌, ℕ, zero, suc, Bool, true, false, cond, List, [], ◌∷◌, ◌++◌, length, inl, inr, below_more, slice_index_or, take, map, Option, Some, None, refl, sym, ap, ◌∙◌, arith, add-one, option_map}
use Rattle.std.proofs.lemmas.List.{take_more}
use Rattle.std.proofs.lemmas.Option.{slice_get-map, slice_get-get_or, slice_get_within, get_or_from_slice_get, slice_get_cases}
use Rattle.std.specs.Option.{option_map_or}
use Rattle.std.specs.Prelude.{slice_get}
use Rattle.pool.specs.Entries.{Entry}
use Rattle.classfile.specs.declared.form_fault.Place.{Place}
use Rattle.classfile.specs.declared.form_fault.FormRule.{FormRule}
use Rattle.classfile.specs.declared.form_fault.Place.TheVariants as places
use Rattle.classfile.specs.Values.{Class, Member}
use Rattle.classfile.specs.Conditions.{broken_rule}
use Rattle.classfile.specs.ConstantForm.{constant_conditions}
use Rattle.classfile.specs.ClassForm.{class_conditions}
use Rattle.classfile.specs.Flags.{has, INTERFACE}
use Rattle.classfile.specs.MemberForm.{is_repeated, field_conditions, method_conditions}
use Rattle.classfile.specs.private.Told as told
use Rattle.classfile.specs.private.Told.{entry_told, class_told}
use Rattle.classfile.specs.release.Constants as constants
use Rattle.classfile.specs.release.MemberRules as members
use Rattle.classfile.specs.release.Places as release
use Rattle.classfile.specs.release.Places.{rule_of_release}
use Rattle.classfile.specs.WellFormed.{first_rule, entry_conditions, conditions_of_field, conditions_of_method, conditions_at, fault_at}

none_of_release : (c : Class) → rule_of_release c [] ≡ None
none_of_release c = by c.release
  where
    by : (b : Bool) → cond b (broken_rule []) None ≡ None
    by true = refl
    by false = refl

-- where no rule is told, none of every class is broken
pub own_rule : (own other : Option FormRule) → first_rule own other ≡ None → own ≡ None
own_rule None other e = refl
own_rule (Some rule) other e = e

pub entry_is : (c : Class) (k : ℕ) (e : Entry) → slice_get c.constant_pool k ≡ Some e → fault_at c (places.Pool (k + 1)) ≡ entry_told c e
unfolding fault_at conditions_at release.conditions_at
entry_is c k e here =
    ap (λ (i : ℕ). first_rule (broken_rule (entry_conditions c i)) (rule_of_release c (release.entry_conditions c i))) (add-one k)
    ∙ ap (λ (o : Option Entry). first_rule (broken_rule (option_map_or (constant_conditions c.major_version c.constant_pool) o []))
    (rule_of_release c (option_map_or (constants.constant_conditions c) o []))) here

pub entry_past : (c : Class) (k : ℕ) → slice_get c.constant_pool k ≡ None → fault_at c (places.Pool (k + 1)) ≡ None
unfolding fault_at conditions_at release.conditions_at
entry_past c k here =
    ap (λ (i : ℕ). first_rule (broken_rule (entry_conditions c i)) (rule_of_release c (release.entry_conditions c i))) (add-one k)
    ∙ ap (λ (o : Option Entry). first_rule (broken_rule (option_map_or (constant_conditions c.major_version c.constant_pool) o []))
    (rule_of_release c (option_map_or (constants.constant_conditions c) o []))) here
    ∙ none_of_release c

pub no_entry : (c : Class) → fault_at c (places.Pool 0) ≡ None
unfolding fault_at conditions_at release.conditions_at
no_entry c = none_of_release c

pub class_is : (c : Class) → fault_at c places.Class ≡ class_told c
unfolding fault_at conditions_at release.conditions_at
class_is c = refl

pub field_is : (c : Class) (n : ℕ) (m : Member) → slice_get c.fields n ≡ Some m
    → fault_at c (places.Field n) ≡ told.field_told c (is_repeated c.constant_pool (take n c.fields) m) m
unfolding fault_at conditions_at release.conditions_at
field_is c n m here =
    ap (λ (o : Option Member). first_rule (broken_rule (option_map_or (conditions_of_field c n) o []))
    (rule_of_release c (option_map_or (members.field_conditions c) o []))) here

pub field_past : (c : Class) (n : ℕ) → slice_get c.fields n ≡ None → fault_at c (places.Field n) ≡ None
unfolding fault_at conditions_at release.conditions_at
field_past c n here =
    ap (λ (o : Option Member). first_rule (broken_rule (option_map_or (conditions_of_field c n) o []))
    (rule_of_release c (option_map_or (members.field_conditions c) o []))) here
    ∙ none_of_release c

pub method_is : (c : Class) (n : ℕ) (m : Member) → slice_get c.methods n ≡ Some m
    → fault_at c (places.Method n) ≡ told.method_told c (is_repeated c.constant_pool (take n c.methods) m) m
unfolding fault_at conditions_at release.conditions_at
method_is c n m here =
    ap (λ (o : Option Member). first_rule (broken_rule (option_map_or (conditions_of_method c n) o []))
    (rule_of_release c (option_map_or (members.method_conditions c) o []))) here

pub method_past : (c : Class) (n : ℕ) → slice_get c.methods n ≡ None → fault_at c (places.Method n) ≡ None
unfolding fault_at conditions_at release.conditions_at
method_past c n here =
    ap (λ (o : Option Member). first_rule (broken_rule (option_map_or (conditions_of_method c n) o []))
    (rule_of_release c (option_map_or (members.method_conditions c) o []))) here
    ∙ none_of_release c

-- ---- tables of the program

pub viewed_at : {X Y : Type 0} (view : X → Y) (xs : List X) (i : ℕ) (x : X) → i < length xs → x ≡ slice_index_or xs i x → slice_get (map view xs) i ≡ Some (view x)
viewed_at view xs i x lt is = slice_get-map view xs i ∙ ap (option_map view) (slice_get-get_or xs i x lt ∙ ap Some (sym is))

pub take_one_more : {X : Type 0} (xs : List X) (i : ℕ) (x : X) → slice_get xs i ≡ Some x → take (i + 1) xs ≡ take i xs ++ x ∷ []
take_one_more xs i x here = take_more xs i x (slice_get_within xs i x here) ∙ ap (λ y. take i xs ++ y ∷ []) (get_or_from_slice_get xs i x x here)

-- no fault below a number, and none at it
pub none_more : (c : Class) (place : ℕ → Place) (n : ℕ) → ((k : ℕ) → k < n → fault_at c (place k) ≡ None) → fault_at c (place n) ≡ None
    → (k : ℕ) → k < n + 1 → fault_at c (place k) ≡ None
none_more c place n below here = below_more (λ k. fault_at c (place k) ≡ None) n below here

-- no fault below the length of a table, and none past it
pub none_at_all : {X : Type 0} (c : Class) (place : ℕ → Place) (xs : List X) → ((k : ℕ) → slice_get xs k ≡ None → fault_at c (place k) ≡ None)
    → (n : ℕ) → length xs ≤ n → ((k : ℕ) → k < n → fault_at c (place k) ≡ None) → (k : ℕ) → fault_at c (place k) ≡ None
none_at_all c place xs past n le below k =
    elim (slice_get_cases xs k).1 [ inl (x, lt, here, same) ↦ below k (omega (arith, lt, le)) | inr (over, none) ↦ past k none ]

-- ---- the pool, whose indices count from 1

pub earlier_entries : (c : Class) (n : ℕ) → ((k : ℕ) → k < n → fault_at c (places.Pool (k + 1)) ≡ None) → (k : ℕ) → k < n + 1 → fault_at c (places.Pool k) ≡ None
earlier_entries c n below zero lt = no_entry c
earlier_entries c n below (suc k) lt = ap (λ (i : ℕ). fault_at c (places.Pool i)) (sym (add-one k)) ∙ below k (omega arith)

pub all_entries : (c : Class) → ((k : ℕ) → fault_at c (places.Pool (k + 1)) ≡ None) → (k : ℕ) → fault_at c (places.Pool k) ≡ None
all_entries c each zero = no_entry c
all_entries c each (suc k) = ap (λ (i : ℕ). fault_at c (places.Pool i)) (sym (add-one k)) ∙ each k

-- ---- members

pub field_told : (c : Class) (n : ℕ) (m : Member) (repeated : Bool) → slice_get c.fields n ≡ Some m → repeated ≡ is_repeated c.constant_pool (take n c.fields) m
    → fault_at c (places.Field n) ≡ told.field_told c repeated m
field_told c n m repeated here same = field_is c n m here ∙ ap (λ (b : Bool). told.field_told c b m) (sym same)

pub method_told : (c : Class) (n : ℕ) (m : Member) (repeated : Bool) → slice_get c.methods n ≡ Some m → repeated ≡ is_repeated c.constant_pool (take n c.methods) m
    → fault_at c (places.Method n) ≡ told.method_told c repeated m
method_told c n m repeated here same = method_is c n m here ∙ ap (λ (b : Bool). told.method_told c b m) (sym same)
