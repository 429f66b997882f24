-- Arguments taken off the running frame, the last one first, and the receiver beneath them.
use Rattle.std.proofs.Common.{◌≡◌, ◌∙◌, ℕ, zero, suc, ◌+◌, ◌-◌, ◌<◌, ◌≤◌, nat_eq, true, false, List, [], ◌∷◌, ◌++◌, Option, Some, None, option_map, length, get_or, take, map, refl, sym, ap, subst, arith}
use Rattle.std.specs.Prelude.{MatchOption}
use Rattle.std.specs.List.{All}
use Rattle.std.proofs.lemmas.Bool.Decides.{nat_tests}
use Rattle.std.proofs.lemmas.List.{take_all, take_more, length-map}
use Rattle.std.proofs.lemmas.List.Elements.{All-nil, All-cons}
use Rattle.names.specs.declared.base.Primitive.TheVariants.{Int}
use Rattle.names.specs.Descriptors.{FieldDescriptor, dimensions, primitive, class as class_descriptor, array as array_descriptor}
use Rattle.names.specs.ReferenceTypes.{ReferenceType, class_type, array_type, dimensions_of, is_class_type}
use Rattle.hierarchy.specs.Class.{ClassFact}
use Rattle.hierarchy.specs.Answer.{Outcome, yes}
use Rattle.frames.specs.VerificationType.{VerificationType}
use Rattle.frames.specs.Assignable.{type_answer}
use Rattle.frames.specs.FrameAssignable.{both}
use Rattle.frames.specs.FrameFact.{FrameFact}
use Rattle.frames.specs.Slots.{descriptor_type, to_reference}
use Rattle.type_numbers.specs.Numbers.{Numbering, IsGiven, IsNumber, IsNumberOf}
use Rattle.type_numbers.specs.MethodNumbers.{AreNumbers}
use Rattle.type_numbers.specs.Decoding.{type_by, types_by}
use Rattle.type_numbers.proofs.Decoded.{number_read}
use Rattle.type_numbers.proofs.MethodReadings.{numbers_length}
use Rattle.method_frames.specs.NumberedFrames.{NumberedFrames}
use Rattle.rules.specs.TypingRules.{ExpectedType, assignable_to, arguments_on, expected_of}
use Rattle.rules.specs.After.{with_stack}
use Rattle.rules.specs.Rules.{accepts, is_short}
use Rattle.rules.specs.Outcomes.{Took, TookOff, pushed}
use Rattle.rules.proofs.Taking.{Rest, RestOff, rest_more, rest_end, others_kept}
use Rattle.numbered_rules.specs.RunningFrame.{held, IsRunning}
use Rattle.numbered_rules.specs.private.Calls.{receivers, IsOneTaken}
use Rattle.numbered_rules.proofs.Taking.{running_same, running_then, types_stay}

pub match_on : {A P Q : Type 0} {F G : A → Type 0} → (P → Q) → ((a : A) → F a → G a) → (o : Option A) → MatchOption o P F → MatchOption o Q G
match_on f g None h = f h
match_on f g (Some a) h = g a h

-- ---- one operand after the other

module _ (cs : List ClassFact) (all : List ExpectedType) (f was : FrameFact) (a : Outcome) (w : ExpectedType) (ws : List ExpectedType) (r : RestOff cs all f a (w ∷ ws) was) where
  off_more : (now : FrameFact) (b : Outcome) (t : VerificationType) → was ≡ pushed (t ∷ []) now → b ≡ both a (accepts cs w t) → RestOff cs all f b ws now
  off_more now b t e told = record {
    rest = subst (λ z. Rest cs all f.stack z ws now.stack) (sym told) (rest_more cs all f.stack a w ws t now.stack (subst (Rest cs all f.stack a (w ∷ ws)) (ap (λ (z : FrameFact). z.stack) e) r.rest));
    others = others_kept f was now t e r.others;
  }

  off_none : was.stack ≡ [] → is_short all f.stack ≡ true
  off_none none = r.rest.short_is ∙ ap (is_short (w ∷ ws)) none

off_end : (cs : List ClassFact) (all : List ExpectedType) (f g : FrameFact) (a : Outcome) → RestOff cs all f a [] g → TookOff cs all f a g
off_end cs all f g a r =
    let t : Took cs all f.stack a g.stack = rest_end cs all f.stack a g.stack r.rest in
    record { enough = t.enough; answer_is = t.answer_is; left_is = r.others ∙ ap (with_stack f) t.left_is }

-- ---- the expected types of arguments, from the last one down

on_last : (xs : List FieldDescriptor) (t : FieldDescriptor) (beneath : List ExpectedType) → arguments_on (xs ++ t ∷ []) beneath ≡ expected_of t ∷ arguments_on xs beneath
on_last [] t beneath = refl
on_last (x ∷ xs) t beneath = on_last xs t (expected_of x ∷ beneath)

arguments_more : (ts : List FieldDescriptor) (k : ℕ) (d : FieldDescriptor) (beneath : List ExpectedType) → k < length ts → arguments_on (take (k + 1) ts) beneath ≡ expected_of (get_or ts k d) ∷ arguments_on (take k ts) beneath
arguments_more ts k d beneath lt = ap (λ xs. arguments_on xs beneath) (take_more ts k d lt) ∙ on_last (take k ts) (get_or ts k d) beneath

descriptor_accepts : (cs : List ClassFact) (x : FieldDescriptor) (t : VerificationType) → accepts cs (expected_of x) t ≡ type_answer cs t (descriptor_type x)
descriptor_accepts cs (primitive p) t = refl
descriptor_accepts cs (class_descriptor name) t = refl
descriptor_accepts cs (array_descriptor x) t = refl

pub numbers_at : (s : Numbering) (ns : List ℕ) (ts : List FieldDescriptor) (k n : ℕ) (d : FieldDescriptor) → AreNumbers s ns (map descriptor_type ts) → k < length ns → IsNumber s (get_or ns k n) (descriptor_type (get_or ts k d))
numbers_at s [] ts k n d h lt = absurd (omega (arith, lt))
numbers_at s (m ∷ ns) [] k n d h lt = absurd h
numbers_at s (m ∷ ns) (t ∷ ts) zero n d h lt = h.0
numbers_at s (m ∷ ns) (t ∷ ts) (suc k) n d h lt = numbers_at s ns ts k n d h.1 (omega (arith, lt))

pub numbers_given : (s : Numbering) (ns : List ℕ) (us : List VerificationType) → AreNumbers s ns us → All (IsGiven s) ns
numbers_given s [] us h = All-nil (IsGiven s)
numbers_given s (n ∷ ns) [] h = absurd h
numbers_given s (n ∷ ns) (u ∷ us) h = All-cons (IsGiven s) n ns (u, h.0) (numbers_given s ns us h.1)

-- ---- so many arguments are left

module _ (ns : List ℕ) (receiver : Option ℕ) (old : NumberedFrames) where
  pub record IsLeft (now : NumberedFrames) (left : ℕ) (a : Outcome) : Type 0 where
    pub rest : (ts : List FieldDescriptor) (r : Option ReferenceType) → AreNumbers old.types ns (map descriptor_type ts) → IsNumberOf old.types receiver (option_map to_reference r)
        → RestOff old.types.classes (arguments_on ts (receivers r)) (held old) a (arguments_on (take left ts) (receivers r)) (held now)
    pub running : IsRunning old now

  counted : (ts : List FieldDescriptor) → AreNumbers old.types ns (map descriptor_type ts) → length ts ≡ length ns
  counted ts h = sym (numbers_length old.types ns (map descriptor_type ts) h ∙ length-map ts descriptor_type)

  pub left_first : (n : ℕ) → n ≡ length ns → IsLeft old n yes
  left_first n e = record {
    rest = λ ts r h k.
        let long = counted ts h in
        subst (λ xs. RestOff old.types.classes (arguments_on ts (receivers r)) (held old) yes (arguments_on xs (receivers r)) (held old)) (sym (take_all n ts (omega (arith, long, e))))
        (record { rest = record { short_is = refl; left_is = refl; answer_is = refl }; others = refl });
    running = running_same old;
  }

  module _ (was : NumberedFrames) (i : ℕ) (a : Outcome) (some : 0 < i) (le : i ≤ length ns) (h : IsLeft was i a) where
    -- the operands that are left begin with this one
    next : (ts : List FieldDescriptor) (r : Option ReferenceType) (d : FieldDescriptor) → AreNumbers old.types ns (map descriptor_type ts) → IsNumberOf old.types receiver (option_map to_reference r)
        → RestOff old.types.classes (arguments_on ts (receivers r)) (held old) a (expected_of (get_or ts (i - 1) d) ∷ arguments_on (take (i - 1) ts) (receivers r)) (held was)
    next ts r d z k =
        let long = counted ts z in
        let one : i ≡ i - 1 + 1 = omega (arith, some) in
        subst (λ ws. RestOff old.types.classes (arguments_on ts (receivers r)) (held old) a ws (held was))
        (ap (λ j. arguments_on (take j ts) (receivers r)) one ∙ arguments_more ts (i - 1) d (receivers r) (omega (arith, some, le, long)))
        (h.rest ts r z k)

    pub left_more : (now : NumberedFrames) (n : ℕ) (b : Outcome) → IsRunning was now → IsOneTaken was now n a b → (e : ℕ) → n ≡ get_or ns (i - 1) e → IsLeft now (i - 1) b
    left_more now n b run one e is = record {
      rest = λ ts r z k.
          let s = old.types in
          let d = primitive Int in
          let x = get_or ts (i - 1) d in
          let same = types_stay old was h.running in
          let number : IsNumber s n (descriptor_type x) = subst (λ m. IsNumber s m (descriptor_type x)) (sym is) (numbers_at s ns ts (i - 1) e d z (omega (arith, some, le))) in
          off_more s.classes (arguments_on ts (receivers r)) (held old) (held was) a (expected_of x) (arguments_on (take (i - 1) ts) (receivers r)) (next ts r d z k) (held now) b one.type one.was
          (one.told ∙ (λ j. both a (type_answer (same j).classes one.type (type_by (same j) n)))
          ∙ ap (λ u. both a (type_answer s.classes one.type u)) (number_read s n (descriptor_type x) number)
          ∙ ap (both a) (sym (descriptor_accepts s.classes x one.type)));
      running = running_then old was now h.running run;
    }

    pub left_none : was.running.stack ≡ [] → (ts : List FieldDescriptor) (r : Option ReferenceType) → AreNumbers old.types ns (map descriptor_type ts) → IsNumberOf old.types receiver (option_map to_reference r)
        → is_short (arguments_on ts (receivers r)) (held old).stack ≡ true
    left_none none ts r z k =
        let d = primitive Int in
        off_none old.types.classes (arguments_on ts (receivers r)) (held old) (held was) a (expected_of (get_or ts (i - 1) d)) (arguments_on (take (i - 1) ts) (receivers r)) (next ts r d z k) (ap (types_by was.types) none)

-- ---- the receiver

module _ (ns : List ℕ) (old was : NumberedFrames) (i : ℕ) (a : Outcome) (none : i ≡ 0) where
  module _ (n : ℕ) (h : IsLeft ns (Some n) old was i a) where
    last : (ts : List FieldDescriptor) (t : ReferenceType) → AreNumbers old.types ns (map descriptor_type ts) → IsNumberOf old.types (Some n) (Some (to_reference t))
        → RestOff old.types.classes (arguments_on ts (receivers (Some t))) (held old) a (assignable_to t ∷ []) (held was)
    last ts t z k = subst (λ j. RestOff old.types.classes (arguments_on ts (receivers (Some t))) (held old) a (arguments_on (take j ts) (receivers (Some t))) (held was)) none (h.rest ts (Some t) z k)

    pub receiver_off : (now : NumberedFrames) (b : Outcome) → IsOneTaken was now n a b → (ts : List FieldDescriptor) (r : Option ReferenceType) → AreNumbers old.types ns (map descriptor_type ts) → IsNumberOf old.types (Some n) (option_map to_reference r)
        → TookOff old.types.classes (arguments_on ts (receivers r)) (held old) b (held now)
    receiver_off now b one ts None z k = absurd k
    receiver_off now b one ts (Some t) z k =
        let s = old.types in
        let same = types_stay old was h.running in
        off_end s.classes (arguments_on ts (receivers (Some t))) (held old) (held now) b
        (off_more s.classes (arguments_on ts (receivers (Some t))) (held old) (held was) a (assignable_to t) [] (last ts t z k) (held now) b one.type one.was
        (one.told ∙ (λ j. both a (type_answer (same j).classes one.type (type_by (same j) n)))
        ∙ ap (λ u. both a (type_answer s.classes one.type u)) (number_read s n (to_reference t) k)))

    pub receiver_none : was.running.stack ≡ [] → (ts : List FieldDescriptor) (r : Option ReferenceType) → AreNumbers old.types ns (map descriptor_type ts) → IsNumberOf old.types (Some n) (option_map to_reference r)
        → is_short (arguments_on ts (receivers r)) (held old).stack ≡ true
    receiver_none empty ts None z k = absurd k
    receiver_none empty ts (Some t) z k = off_none old.types.classes (arguments_on ts (receivers (Some t))) (held old) (held was) a (assignable_to t) [] (last ts t z k) (ap (types_by was.types) empty)

-- ---- whether a type is a class

pub class_by_dims : (t : ReferenceType) (d : ℕ) → d ≡ dimensions_of t → nat_eq d 0 ≡ is_class_type t
class_by_dims (class_type name) d e = ap (λ k. nat_eq k 0) e
class_by_dims (array_type x) d e = let some : nat_eq (dimensions x + 1) 0 ≡ false = grind (arith, nat_tests) in ap (λ k. nat_eq k 0) e ∙ some
