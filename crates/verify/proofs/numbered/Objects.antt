-- Objects on which members are used, by their numbers.
use Rattle.std.proofs.Common.{◌≡◌, ◌∙◌, ℕ, Bool, zero, suc, true, false, ◌&&◌, if◌then◌else◌, List, [], ◌∷◌, ◌++◌, Option, Some, None, option_map, drop, length, slice_get, refl, sym, ap, subst}
use Rattle.std.specs.Option.{option_and_then, option_map_or}
use Rattle.names.specs.Descriptors.{FieldDescriptor}
use Rattle.names.specs.ReferenceTypes.{ReferenceType, class_type, array_type}
use Rattle.pool.specs.ConstantMeanings.{FieldConstant, field_at, MethodConstant, method_at}
use Rattle.classfile.specs.Methods.{Method}
use Rattle.classfile.specs.declared.class_file.ClassFile.{ClassFile}
use Rattle.classfile.specs.declared.code_method.CodeMethod.{CodeMethod}
use Rattle.hierarchy.specs.Class.{ClassFact}
use Rattle.hierarchy.specs.Answer.{yes, no}
use Rattle.hierarchy.specs.Nearest.{MemberReference, is_guarded}
use Rattle.insn.specs.Meanings as acts
use Rattle.insn.specs.Meanings.{Act}
use Rattle.frames.specs.FrameFact.{FrameFact}
use Rattle.frames.specs.VerificationType.{VerificationType, top, int, float, long, double, null, class, array, uninit_this, uninit}
use Rattle.frames.specs.Assignable.{type_answer}
use Rattle.frames.specs.DeclaredFrames.{is_uninit_this}
use Rattle.type_numbers.specs.Numbers.{Numbering, IsNumber}
use Rattle.type_numbers.specs.Decoding.{type_by, types_by}
use Rattle.type_numbers.proofs.Decoded.{number_read}
use Rattle.rules.specs.After.{top_of}
use Rattle.rules.specs.Bodies.{method_view}
use Rattle.rules.specs.Guards.{IsReference, Surroundings, Uses, field, method, own_name}
use Rattle.rules.specs.declared.protected_members.Use as uses
use Rattle.rules.specs.Constants.{constructor_call, invoke_special, is_init_name, special_call}
use Rattle.rules.specs.Rules.{constructs_own}
use Rattle.rules.specs.Table.{typing_rule}
use Rattle.rules.specs.TypingRules.{TypingRule, arguments_on, constructs, where_allowed}
use Rattle.rules.proofs.Made.{beneath_arguments, beneath_drops}
use Rattle.rules.specs.Interfaces.{calls_indirect}
use Rattle.rules.specs.ReasonNumbers.{not_direct_interface}
use Rattle.frames.specs.Conditions.{least, reason}
use Rattle.rules.specs.Protected.{Use, constructor_use, field_use, method_reference, method_use, member_conditions, object_answer, object_beneath, object_conditions, use_conditions, used_by}
use Rattle.verify.specs.private.pass.Objects.{is_array_type, used_index, AnswersUse, UsesGuarded}

-- the item that so many stand above
pub item_is : (s : Numbering) (stack : List ℕ) (above n : ℕ) → Some n ≡ slice_get stack above → type_by s n ≡ top_of (drop above (types_by s stack))
item_is s [] above n e = absurd (cc)
item_is s (x ∷ xs) zero n e = let same : n ≡ x = cc in ap (type_by s) same
item_is s (x ∷ xs) (suc k) n e = item_is s xs k n e

-- there is none
pub no_item : (s : Numbering) (stack : List ℕ) (above : ℕ) → None ≡ slice_get stack above → top ≡ top_of (drop above (types_by s stack))
no_item s [] zero e = refl
no_item s [] (suc k) e = refl
no_item s (x ∷ xs) zero e = absurd (cc)
no_item s (x ∷ xs) (suc k) e = no_item s xs k e

-- the type of a number, read as another
pub read_as : (s : Numbering) (n : ℕ) (t u : VerificationType) → IsNumber s n t → type_by s n ≡ u → t ≡ u
read_as s n t u h e = sym (number_read s n t h) ∙ e

pub array_answer : (classes : List ClassFact) (name : List ℕ) (t : VerificationType) → is_array_type t ≡ true → no ≡ object_answer classes name t
array_answer classes name (array component) e = refl
array_answer classes name top e = absurd (cc)
array_answer classes name int e = absurd (cc)
array_answer classes name float e = absurd (cc)
array_answer classes name long e = absurd (cc)
array_answer classes name double e = absurd (cc)
array_answer classes name null e = absurd (cc)
array_answer classes name (class other) e = absurd (cc)
array_answer classes name uninit_this e = absurd (cc)
array_answer classes name (uninit offset) e = absurd (cc)

pub own_answer : (classes : List ClassFact) (name : List ℕ) (t : VerificationType) → is_uninit_this t ≡ true → yes ≡ object_answer classes name t
own_answer classes name uninit_this e = refl
own_answer classes name (array component) e = absurd (cc)
own_answer classes name top e = absurd (cc)
own_answer classes name int e = absurd (cc)
own_answer classes name float e = absurd (cc)
own_answer classes name long e = absurd (cc)
own_answer classes name double e = absurd (cc)
own_answer classes name null e = absurd (cc)
own_answer classes name (class other) e = absurd (cc)
own_answer classes name (uninit offset) e = absurd (cc)

pub other_answer : (classes : List ClassFact) (name : List ℕ) (t : VerificationType) → is_array_type t ≡ false → is_uninit_this t ≡ false → object_answer classes name t ≡ type_answer classes t (class name)
other_answer classes name (array component) e h = absurd (cc)
other_answer classes name top e h = refl
other_answer classes name int e h = refl
other_answer classes name float e h = refl
other_answer classes name long e h = refl
other_answer classes name double e h = refl
other_answer classes name null e h = refl
other_answer classes name (class other) e h = refl
other_answer classes name uninit_this e h = absurd (cc)
other_answer classes name (uninit offset) e h = refl

-- ---- the member that an instruction uses

module _ (m : Method Act) (i : ℕ) (u : Use) where
  pub field_used : (above : FieldConstant → List FieldDescriptor) → option_map (λ f. field_use (above f) f) (field_at m.constant_pool i) ≡ Some u → IsReference m.constant_pool i u.reference
  field_used above e = by (field_at m.constant_pool i) refl e
    where
      by : (o : Option FieldConstant) → field_at m.constant_pool i ≡ o → option_map (λ f. field_use (above f) f) o ≡ Some u → IsReference m.constant_pool i u.reference
      by None q h = absurd (cc)
      by (Some f) q h =
          let same : field_use (above f) f ≡ u = cc in
          subst (λ (z : Use). IsReference m.constant_pool i z.reference) same (field f q)

  called_by : (c : MethodConstant) → method_at m.constant_pool i ≡ Some c → (b : Bool) → c.interface ≡ b → (t : ReferenceType) → c.class ≡ t → method_use c b t ≡ Some u
      → IsReference m.constant_pool i u.reference
  called_by c q true own t of e = absurd (cc)
  called_by c q false own (class_type name) of e =
      let same : record { reference = method_reference name c; above = c.type.params } ≡ u = cc in
      subst (λ (z : Use). IsReference m.constant_pool i z.reference) same (method c name q own of)
  called_by c q false own (array_type component) of e = absurd (cc)

  pub method_used : option_and_then (λ c. method_use c c.interface c.class) (method_at m.constant_pool i) ≡ Some u → IsReference m.constant_pool i u.reference
  method_used e = by (method_at m.constant_pool i) refl e
    where
      by : (o : Option MethodConstant) → method_at m.constant_pool i ≡ o → option_and_then (λ c. method_use c c.interface c.class) o ≡ Some u → IsReference m.constant_pool i u.reference
      by None q h = absurd (cc)
      by (Some c) q h = called_by c q c.interface refl c.class refl h

  -- a constructor is used in a class of a release alone
  pub constructor_used : (release : Bool) → option_and_then (constructor_use release) (method_at m.constant_pool i) ≡ Some u → IsReference m.constant_pool i u.reference
  constructor_used release e = by (method_at m.constant_pool i) refl e
    where
      by : (o : Option MethodConstant) → method_at m.constant_pool i ≡ o → option_and_then (constructor_use release) o ≡ Some u → IsReference m.constant_pool i u.reference
      by None q h = absurd (cc)
      by (Some c) q h = by_use (release && is_init_name c) h
        where
          by_use : (b : Bool) → (if b then method_use c c.interface c.class else None) ≡ Some u → IsReference m.constant_pool i u.reference
          by_use true k = called_by c q c.interface refl c.class refl k
          by_use false k = absurd (cc)

not_constructed : (release : Bool) (i : ℕ) (u : Use) → (if release then Some i else None) ≡ None → (o : Option MethodConstant) → option_and_then (constructor_use release) o ≡ Some u → ⊥
not_constructed true i u none o e = cc
not_constructed false i u none None e = cc
not_constructed false i u none (Some c) e = cc

the_index : (release : Bool) (i j : ℕ) → (if release then Some i else None) ≡ Some j → i ≡ j
the_index true i j e = cc
the_index false i j e = absurd (cc)

-- that of the constant at the index
pub used_at : (m : Method Act) (a : Act) (i : ℕ) → used_index m.release a ≡ Some i → (u : Use) → used_by m a ≡ Some u → IsReference m.constant_pool i u.reference
used_at m (acts.GetField j) i at u e = let same : j ≡ i = cc in subst (λ k. IsReference m.constant_pool k u.reference) same (field_used m j u (λ f. []) e)
used_at m (acts.PutField j) i at u e =
    let same : j ≡ i = cc in subst (λ k. IsReference m.constant_pool k u.reference) same (field_used m j u (λ (f : FieldConstant). f.type ∷ []) e)
used_at m (acts.InvokeVirtual j) i at u e = let same : j ≡ i = cc in subst (λ k. IsReference m.constant_pool k u.reference) same (method_used m j u e)
used_at m (acts.InvokeSpecial j) i at u e = subst (λ k. IsReference m.constant_pool k u.reference) (the_index m.release j i at) (constructor_used m j u m.release e)
used_at m a i at u e = absurd (cc)

-- none where there is no index
pub unused : (classes : List ClassFact) (m : Method Act) (a : Act) (b : Bool) → used_index m.release a ≡ None → AnswersUse classes m a b
unused classes m (acts.GetField i) b none u e = absurd (cc)
unused classes m (acts.PutField i) b none u e = absurd (cc)
unused classes m (acts.InvokeVirtual i) b none u e = absurd (cc)
unused classes m (acts.InvokeSpecial i) b none u e = absurd (not_constructed m.release i u none (method_at m.constant_pool i) e)
unused classes m a b none u e = absurd (cc)

-- nothing is asked where no guarded member is used
pub none_used : (classes : List ClassFact) (m : Method Act) (a : Act) (f : FrameFact) → AnswersUse classes m a false → option_map_or (use_conditions classes m f) (used_by m a) [] ≡ []
none_used classes m a f free = by (used_by m a) refl
  where
    by : (o : Option Use) → used_by m a ≡ o → option_map_or (use_conditions classes m f) o [] ≡ []
    by None q = refl
    by (Some u) q = ap (λ b. if b then object_conditions (object_answer classes m.class (object_beneath u f)) else []) (free u q)

pub none_asked : (classes : List ClassFact) (m : Method Act) (a : Act) (f : FrameFact) → calls_indirect m a ≡ false → AnswersUse classes m a false → member_conditions classes m a f ≡ []
none_asked classes m a f direct free =
    ap (λ b. (if b then (reason not_direct_interface, true) ∷ [] else []) ++ option_map_or (use_conditions classes m f) (used_by m a) []) direct
    ∙ none_used classes m a f free

-- the answer about the constant at the index is that about the member that the instruction uses
pub answers_use : (around : Surroundings) (body : CodeMethod) (a : Act) (i : ℕ) → around.class ≡ body.class.now → used_index (method_view body).release a ≡ Some i → (b : Bool)
    → ((r : MemberReference) → IsReference around.class.constant_pool i r → b ≡ is_guarded around.classes (own_name around.class) r) → AnswersUse around.classes (method_view body) a b
answers_use around body a i same there b answer u e =
    let asked = subst (λ (class : ClassFile). IsReference class.constant_pool i u.reference) (sym same) (used_at (method_view body) a i there u e) in
    ap (λ (class : ClassFile). is_guarded around.classes (own_name class) u.reference) (sym same) ∙ sym (answer u.reference asked)

-- the member that is used, where it is guarded
pub guarded_by : (classes : List ClassFact) (m : Method Act) (a : Act) → AnswersUse classes m a true → (u : Option uses.Use) → Uses m a u → UsesGuarded classes m a u
guarded_by classes m a guarded None none = λ u e. absurd (cc)
guarded_by classes m a guarded (Some u) is = (is, guarded is.member is.used)

-- ---- a constructor on the own object

module _ (classes : List ClassFact) (m : Method Act) (f : FrameFact) where
  own_use : (u : Use) → is_uninit_this (object_beneath u f) ≡ true → least (use_conditions classes m f u) ≡ None
  own_use u own = by (is_guarded classes m.class u.reference)
    where
      by : (b : Bool) → least (if b then object_conditions (object_answer classes m.class (object_beneath u f)) else []) ≡ None
      by true = subst (λ o. least (object_conditions o) ≡ None) (own_answer classes m.class (object_beneath u f) own) refl
      by false = refl

  own_allowed : (b : Bool) (r : TypingRule) → constructs_own (where_allowed b r) f ≡ true → constructs_own r f ≡ true
  own_allowed true r e = e
  own_allowed false r e = cc

  own_called : (c : MethodConstant) (t : ReferenceType) (interface : Bool) → constructs_own (constructor_call c t) f ≡ true → least (option_map_or (use_conditions classes m f) (method_use c interface t) []) ≡ None
  own_called c (class_type name) false e =
      own_use (record { reference = method_reference name c; above = c.type.params })
      (ap is_uninit_this (ap top_of (beneath_drops c.type.params f.stack ∙ beneath_arguments c.type.params (length c.type.params) f.stack refl)) ∙ own_allowed _ (constructs name (arguments_on c.type.params [])) e)
  own_called c (class_type name) true e = refl
  own_called c (array_type component) false e = refl
  own_called c (array_type component) true e = refl

  own_named : (c : MethodConstant) (init release : Bool) → constructs_own (if init then constructor_call c c.class else special_call m.major_version m.class c) f ≡ true
      → least (option_map_or (use_conditions classes m f) (if release && init then method_use c c.interface c.class else None) []) ≡ None
  own_named c true true e = own_called c c.class c.interface e
  own_named c true false e = refl
  own_named c false true e = refl
  own_named c false false e = refl

  -- its object is the one that the constructor makes ready, so no condition is asked
  pub own_is_ready : (i : ℕ) (a : Act) → a ≡ acts.InvokeSpecial i → constructs_own (typing_rule m a) f ≡ true → least (option_map_or (use_conditions classes m f) (used_by m a) []) ≡ None
  own_is_ready i a same own =
      subst (λ x. least (option_map_or (use_conditions classes m f) (used_by m x) []) ≡ None) (sym same) (by (method_at m.constant_pool i) (subst (λ x. constructs_own (typing_rule m x) f ≡ true) same own))
    where
      by : (o : Option MethodConstant) → constructs_own (invoke_special m.major_version m.class o) f ≡ true → least (option_map_or (use_conditions classes m f) (option_and_then (constructor_use m.release) o) []) ≡ None
      by None e = cc
      by (Some c) e = own_named c (is_init_name c) m.release e
