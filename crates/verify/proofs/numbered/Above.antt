-- The classes above a class, by their numbers, and what is asked about members of the others.
use Rattle.std.proofs.Common.{◌≡◌, ◌∙◌, ◌/◌, ◌%◌, ◌&&◌, ℕ, Bool, true, false, not, List, length, Option, Some, None, option_map, refl, sym, ap, subst}
use Rattle.std.specs.Str.{bytes_eq}
use Rattle.std.proofs.lemmas.Slice.Eq.{bytes_eq-Decides}
use Rattle.pool.specs.Entries.{Entry}
use Rattle.classfile.specs.Methods as methods
use Rattle.hierarchy.specs.Answer.{no, on_chain, SubclassAnswer}
use Rattle.hierarchy.specs.Class.{ClassFact, IsSubclass, world_of}
use Rattle.hierarchy.specs.Nearest.{MemberReference, is_guarded, is_protected_elsewhere, nearest}
use Rattle.hierarchy.specs.Places.{place_in}
use Rattle.hierarchy.proofs.Subclass.{met_chain}
use Rattle.insn.specs.Meanings.{Act}
use Rattle.frames.specs.VerificationType.{VerificationType, class}
use Rattle.frames.specs.Slots.{to_reference}
use Rattle.type_numbers.specs.Numbers.{Numbering, IsNumber, IsNumberOf}
use Rattle.type_numbers.specs.Constants.{IsDescribed, arguments_of, constant_in, constants_of, field_class, field_class_of, meaning_at, method_class, method_class_of}
use Rattle.type_numbers.specs.declared.named_constant.NamedConstant.{NamedConstant}
use Rattle.type_numbers.specs.declared.named_constant.NamedConstant.TheVariants.{Field, Method}
use Rattle.type_numbers.proofs.Decoded.{number_read}
use Rattle.type_numbers.proofs.PlacedClasses.{placed}
use Rattle.rules.specs.Guards.{IsReference, field, method}
use Rattle.rules.specs.Protected.{Use, used_by}
use Rattle.numbered_rules.specs.RuleNumbers.{AreRuleNumbers}
use Rattle.numbered_rules.specs.declared.rule_numbers.RuleNumbers.{RuleNumbers}
use Rattle.verify.specs.private.pass.Objects.{member_class_of, used_index}
use Rattle.verify.proofs.numbered.Objects.{used_at}

-- ---- the number of a member's class

module _ (s : Numbering) where
  pub record HasClass (c : NamedConstant) (t : VerificationType) : Type 0 where
    pub number : ℕ
    pub is : member_class_of c ≡ Some number
    pub of : IsNumber s number t

  field_numbered : (c : NamedConstant) (t : VerificationType) → IsNumberOf s (field_class_of c) (Some t) → HasClass c t
  field_numbered (Field n held) t h = record { number = n; is = refl; of = h }
  field_numbered c t h = absurd h

  method_numbered : (c : NamedConstant) (t : VerificationType) → IsNumberOf s (method_class_of c) (Some t) → HasClass c t
  method_numbered (Method interface init n types) t h = record { number = n; is = refl; of = h }
  method_numbered c t h = absurd h

  -- the constant of a reference has the number of its class
  pub member_numbered : (pool : List Entry) (row : List ℕ) (index : ℕ) (c : NamedConstant) (r : MemberReference) → IsDescribed s row (meaning_at pool index) c → IsReference pool index r
      → HasClass c (class r.class)
  member_numbered pool row index c r d (field f q) = field_numbered c (class f.class) (subst (λ o. IsNumberOf s (field_class_of c) (option_map field_class o)) q d.field_class)
  member_numbered pool row index c r d (method m name q own of) =
      method_numbered c (class name)
      (subst (λ t. IsNumberOf s (method_class_of c) (Some (to_reference t))) of (subst (λ o. IsNumberOf s (method_class_of c) (option_map method_class o)) q d.method_class))

  -- one number is one class
  pub same_class : (n m : ℕ) (x y : List ℕ) → n ≡ m → IsNumber s n (class x) → IsNumber s m (class y) → y ≡ x
  same_class n m x y e a b =
      let read : class y ≡ class x = sym (number_read s m (class y) b) ∙ number_read s m (class x) (subst (λ k. IsNumber s k (class x)) e a) in
      let same : y ≡ x = cc in
      same

-- ---- a member of a class that does not stand above

and_false : (t : Bool) → (t && false) ≡ false
and_false true = refl
and_false false = refl

module _ (classes : List ClassFact) (name : List ℕ) (r : MemberReference) where
  pub own_unguarded : name ≡ r.class → is_guarded classes name r ≡ false
  own_unguarded e =
      ap (λ t. not t && (on_chain (world_of classes) (length classes) name r.class && is_protected_elsewhere name (nearest classes r))) ((bytes_eq-Decides name r.class).1 e)

  pub apart_unguarded : (IsSubclass classes name r.class → ⊥) → is_guarded classes name r ≡ false
  apart_unguarded n = by (on_chain (world_of classes) (length classes) name r.class) refl
    where
      by : (u : Bool) → on_chain (world_of classes) (length classes) name r.class ≡ u → is_guarded classes name r ≡ false
      by true e = absurd (n (met_chain (world_of classes) (length classes) name r.class e))
      by false e = ap (λ u. not (bytes_eq name r.class) && (u && is_protected_elsewhere name (nearest classes r))) e ∙ and_false (not (bytes_eq name r.class))

-- by the places of both
pub below_unguarded : (s : Numbering) (r : MemberReference) (name : List ℕ) (n m : ℕ) → IsNumber s n (class r.class) → IsNumber s m (class name) → n / 16777216 ≡ 7 → m / 16777216 ≡ 7
    → ((x y : List ℕ) → place_in s.classes x ≡ Some (m % 65536) → place_in s.classes y ≡ Some (n % 65536) → SubclassAnswer s.classes x y no) → is_guarded s.classes name r ≡ false
below_unguarded s r name n m a b e f answer = apart_unguarded s.classes name r (answer name r.class (placed s m name b.number f) (placed s n r.class a.number e)).1

-- ---- the member that an instruction uses

-- the constant that it names has the number of the class that is asked for it
pub asked_numbered : (s : Numbering) (m : methods.Method Act) (x : RuleNumbers) → AreRuleNumbers s m x → (a : Act) (i : ℕ) → used_index m.release a ≡ Some i → (u : Use) → used_by m a ≡ Some u
    → HasClass s (constant_in (constants_of x.table.now) i) (class u.reference.class)
asked_numbered s m x numbers a i at u e =
    member_numbered s m.constant_pool (arguments_of x.table.now) i (constant_in (constants_of x.table.now) i) u.reference (numbers.table i) (used_at m a i at u e)
