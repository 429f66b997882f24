-- The summary of a class file (JVMS 4.1, 4.5, 4.6). Where no text stands at an index, which in a well-formed class file
-- is nowhere, the text is empty.
use Rattle.std.specs.Prelude.{◌≡◌, ◌≢◌, ℕ, Bool, true, false, ◌||◌, List, [], ◌++◌, map, slice_get, Option, Some, None, Ok, nat_eq, if◌then◌else◌}
use Rattle.std.specs.Result.{result_unwrap_or}
use Rattle.pool.specs.Entries.{Entry}
use Rattle.pool.specs.Lookups.{text_at, class_name_at, named}
use Rattle.classfile.specs.Flags.{has, PUBLIC, PRIVATE, PROTECTED, STATIC, FINAL, INTERFACE}
use Rattle.classfile.specs.Values as values
use Rattle.classfile.specs.WellFormed.{WellFormed}
use Rattle.hierarchy.specs.declared.summary.Kind.{Kind}
use Rattle.hierarchy.specs.declared.summary.Kind.TheVariants.{Field, Method}
use Rattle.hierarchy.specs.declared.summary.Overriding.{Overriding}
use Rattle.hierarchy.specs.declared.summary.Overriding.TheVariants.{Apart, Open, FinalInPackage, Final}
use Rattle.hierarchy.specs.Class.{MemberFact, ClassFact}

abbrev pub text_of : List Entry → ℕ → List ℕ
text_of pool index = result_unwrap_or (text_at pool index) []

abbrev pub class_name_of : List Entry → ℕ → List ℕ
class_name_of pool index = result_unwrap_or (class_name_at pool index) []

-- The part of a method with these flags in overriding (5.4.5): a static or private one takes none. No instance
-- initialization method is final (4.6), and so none is left out here.
abbrev pub overriding_by : ℕ → Overriding
overriding_by flags =
    if has flags STATIC || has flags PRIVATE then Apart
    else if has flags FINAL then (if has flags PUBLIC || has flags PROTECTED then Final else FinalInPackage) else Open

-- of a class that is read by a release, and of no other, it is told which methods are final
abbrev pub overriding_of : Bool → Kind → ℕ → Overriding
overriding_of false kind flags = Apart
overriding_of true Field flags = Apart
overriding_of true Method flags = overriding_by flags

abbrev pub member_summary : Bool → List Entry → Kind → values.Member → MemberFact
member_summary release pool kind m = record {
  name = text_of pool m.name;
  descriptor = text_of pool m.descriptor;
  kind = kind;
  is_static = has m.access_flags STATIC;
  is_protected = has m.access_flags PROTECTED;
  overriding = overriding_of release kind m.access_flags;
}

abbrev pub member_summaries : Bool → List Entry → Kind → List values.Member → List MemberFact
member_summaries release pool kind members = map (member_summary release pool kind) members

-- an index of 0 stands for no superclass
abbrev pub superclass_name : List Entry → ℕ → Option (List ℕ)
superclass_name pool index = if nat_eq index 0 then None else Some (class_name_of pool index)

-- the name and the descriptor of the member are those of the summary
pub record HasNameAndType (pool : List Entry) (m : values.Member) (fact : MemberFact) : Type 0 where
  pub texts : named pool m.name m.descriptor ≡ Ok (record { name = fact.name; descriptor = fact.descriptor })

-- the fields go before the methods, as in the file
abbrev pub summary_of : values.Class → ClassFact
summary_of c = record {
  name = class_name_of c.constant_pool c.this_class;
  superclass = superclass_name c.constant_pool c.super_class;
  interface = has c.access_flags INTERFACE;
  is_final = has c.access_flags FINAL;
  members = member_summaries c.release c.constant_pool Field c.fields
      ++ member_summaries c.release c.constant_pool Method c.methods;
}

-- the texts of a summary are those that the constants of the class lead to
pub record HasItsTexts (c : values.Class) : Type 0 where
  pub name : class_name_at c.constant_pool c.this_class ≡ Ok (summary_of c).name
  pub superclass : c.super_class ≢ 0 → (name : List ℕ) × ((summary_of c).superclass ≡ Some name)
      × (class_name_at c.constant_pool c.super_class ≡ Ok name)
  pub no_superclass : c.super_class ≡ 0 → (summary_of c).superclass ≡ None
  pub field : (n : ℕ) (m : values.Member) → slice_get c.fields n ≡ Some m
      → HasNameAndType c.constant_pool m (member_summary c.release c.constant_pool Field m)
  pub method : (n : ℕ) (m : values.Member) → slice_get c.methods n ≡ Some m
      → HasNameAndType c.constant_pool m (member_summary c.release c.constant_pool Method m)

-- of a class that is well formed
abbrev pub SummaryHasTexts : Type 0
SummaryHasTexts = (c : values.Class) → WellFormed c → HasItsTexts c
