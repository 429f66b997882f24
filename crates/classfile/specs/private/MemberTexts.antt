-- The texts of a member as they are found, and what its rules ask of them then. Words of the code's own steps.
use Rattle.std.specs.Prelude.{◌≡◌, Bool, true, false, ◌||◌, List, ◌∷◌, Option, Some, None, Ok}
use Rattle.pool.specs.declared.reference.NameAndType.{NameAndType}
use Rattle.pool.specs.Entries.{Entry}
use Rattle.pool.specs.Lookups.{text_at}
use Rattle.classfile.specs.declared.form_fault.FormRule.TheVariants.{BadName, BadDescriptor, BadFlags, Twice}
use Rattle.classfile.specs.Conditions.{Condition}
use Rattle.classfile.specs.MemberForm.{member_has_bad, member_has_other, is_bad_method_name, is_badly_described, is_badly_flagged, body_conditions}
use Rattle.classfile.specs.Values.{Member}

-- these are the texts of a member
pub record HasTexts (pool : List Entry) (m : Member) (x : NameAndType) : Type 0 where
  pub name : text_at pool m.name ≡ Ok x.name.bytes.now
  pub descriptor : text_at pool m.descriptor ≡ Ok x.descriptor.bytes.now

-- the texts of a member none of whose indices breaks a rule
abbrev pub AreSoundTexts : List Entry → Member → Option NameAndType → Type 0
AreSoundTexts pool m None = member_has_bad pool m || member_has_other pool m ≡ true
AreSoundTexts pool m (Some x) = (member_has_bad pool m || member_has_other pool m ≡ false) × HasTexts pool m x

-- the conditions of a method that come after those of its indices
abbrev pub named_method_conditions : List Entry → Bool → Bool → Member → List Condition
named_method_conditions pool interface repeated m =
    (BadName, is_bad_method_name pool interface m.name)
    ∷ (BadDescriptor, is_badly_described pool m)
    ∷ (BadFlags, is_badly_flagged pool m)
    ∷ (Twice, repeated)
    ∷ body_conditions pool m
