-- Types that meet an expected type by their numbers alone, and operands of such types.
use Rattle.std.proofs.Common.{◌≡◌, ◌∙◌, ℕ, ◌+◌, ◌<◌, ◌≤◌, ◌||◌, Bool, true, false, cond, nat_eq, List, [], ◌∷◌, Option, Some, None, length, get_or, slice_get, drop, refl, sym, ap, ap₂, subst, arith}
use Rattle.std.specs.Prelude.{MatchOption}
use Rattle.std.specs.List.{AllZip}
use Rattle.std.specs.Str.{bytes_eq}
use Rattle.std.proofs.lemmas.Bool.Decides.{nat_tests}
use Rattle.std.proofs.lemmas.List.{drop_more, drop_all, drop-drop}
use Rattle.std.proofs.lemmas.Option.{slice_get_within, get_or_from_slice_get}
use Rattle.names.specs.Descriptors.{primitive, class as class_descriptor, array as array_descriptor}
use Rattle.names.specs.StandardNames.{object_name}
use Rattle.hierarchy.specs.Class.{ClassFact}
use Rattle.hierarchy.specs.Answer.{Outcome, yes}
use Rattle.insn.specs.OperandStacks.{beneath}
use Rattle.frames.specs.VerificationType.{VerificationType, null, class, array, uninit_this, uninit}
use Rattle.frames.specs.Assignable.{type_answer}
use Rattle.frames.specs.FrameAssignable.{both}
use Rattle.frames.proofs.Types.{type_itself}
use Rattle.type_numbers.specs.Numbers.{Numbering}
use Rattle.type_numbers.specs.Decoding.{type_by, types_by}
use Rattle.method_frames.specs.ObjectLaws.{IsObjectType}
use Rattle.method_frames.specs.NumberedFrames.{NumberedFrames}
use Rattle.rules.specs.TypingRules.{ExpectedType}
use Rattle.rules.specs.After.{with_stack}
use Rattle.rules.specs.Rules.{is_reference, is_short, operands}
use Rattle.rules.specs.Outcomes.{TookOff}
use Rattle.numbered_rules.specs.declared.expected.Expected.{Expected}
use Rattle.numbered_rules.specs.Expected.{accepts_by, objects, own_or, StandsFor}
use Rattle.numbered_rules.specs.RunningFrame.{held}
use Rattle.numbered_rules.specs.private.TypeParts.{holds_references}
use Rattle.numbered_rules.specs.private.MetAtOnce.{AreMet}

-- ---- one type

or_true : (b : Bool) (x : Outcome) → cond (b || true) yes x ≡ yes
or_true true x = refl
or_true false x = refl

pub references_yes : (cs : List ClassFact) (t : VerificationType) → holds_references t ≡ true → type_answer cs t objects ≡ yes
references_yes cs (array (primitive p)) e = cc
references_yes cs (array (class_descriptor a)) e = or_true (bytes_eq a object_name) _
references_yes cs (array (array_descriptor x)) e = refl
references_yes cs _ e = cc

pub object_yes : (cs : List ClassFact) (t : VerificationType) → is_reference t ≡ true → (IsObjectType t → ⊥) → type_answer cs t (class object_name) ≡ yes
object_yes cs null e other = refl
object_yes cs (class a) e other = or_true (bytes_eq a object_name) _
object_yes cs (array x) e other = refl
object_yes cs uninit_this e other = absurd (other refl)
object_yes cs (uninit at) e other = let same : nat_eq at at ≡ true = grind (arith, nat_tests) in absurd (other same)
object_yes cs _ e other = cc

pub own_itself : (cs : List ClassFact) (t : VerificationType) → own_or cs t t ≡ yes
own_itself cs uninit_this = refl
own_itself cs null = refl
own_itself cs (class a) = type_itself cs (class a)
own_itself cs (array x) = type_itself cs (array x)
own_itself cs (uninit at) = type_itself cs (uninit at)
own_itself cs _ = refl

-- ---- several operands

module _ (s : Numbering) where
  pub met_next : (es : List Expected) (ns : List ℕ) (i : ℕ) (d : Expected) (n : ℕ) → i < length es → slice_get ns i ≡ Some n → accepts_by s (get_or es i d) (type_by s n) ≡ yes
      → AreMet s (drop (i + 1) es) (drop (i + 1) ns) → AreMet s (drop i es) (drop i ns)
  met_next es ns i d n lt is met more =
      subst (λ z. AreMet s z (drop i ns)) (sym (drop_more es i d lt))
      (subst (AreMet s (get_or es i d ∷ drop (i + 1) es)) (sym (drop_more ns i 0 (slice_get_within ns i n is)))
      (ap (λ k. accepts_by s (get_or es i d) (type_by s k)) (get_or_from_slice_get ns i n 0 is) ∙ met, more))

  pub met_end : (es : List Expected) (ns : List ℕ) (i : ℕ) → length es ≤ i → AreMet s (drop i es) (drop i ns)
  met_end es ns i le = subst (λ z. AreMet s z (drop i ns)) (sym (drop_all i es le)) tt

  -- the operands are there, are of their types, and leave what is beneath them
  pub record IsOff (es : List Expected) (ns : List ℕ) (ws : List ExpectedType) : Type 0 where
    pub enough : is_short ws (types_by s ns) ≡ false
    pub answer : operands s.classes ws (types_by s ns) ≡ yes
    pub left : types_by s (drop (length es) ns) ≡ beneath ws (types_by s ns)

  pub met_off : (es : List Expected) (ns : List ℕ) (ws : List ExpectedType) → AreMet s es ns → AllZip (StandsFor s) es ws → IsOff es ns ws
  met_off [] ns [] m z = record { enough = refl; answer = refl; left = refl }
  met_off [] ns (w ∷ ws) m z = absurd z
  met_off (e ∷ es) [] ws m z = absurd m
  met_off (e ∷ es) (n ∷ ns) [] m z = absurd z
  met_off (e ∷ es) (n ∷ ns) (w ∷ ws) m z =
      let h = met_off es ns ws m.1 z.1 in
      record {
        enough = h.enough;
        answer = ap₂ both (sym (z.0 (type_by s n)) ∙ m.0) h.answer;
        left = h.left;
      }

-- ---- items that are dropped

module _ (old was now : NumberedFrames) (count : ℕ) (e : was ≡ record old { running = record old.running { stack = drop count old.running.stack } }) where
  abbrev IsDropped : Type 0
  IsDropped = now ≡ record old { running = record old.running { stack = drop (count + 1) old.running.stack } }

  was_stack : was.running.stack ≡ drop count old.running.stack
  was_stack = ap (λ (x : NumberedFrames). x.running.stack) e

  -- by what stands on the stack then
  to : (stack : List ℕ) → now ≡ record old { running = record old.running { stack = stack } } → stack ≡ drop (count + 1) old.running.stack → IsDropped
  to stack f s = f ∙ ap (λ ns. record old { running = record old.running { stack = ns } }) s

  pub dropped : (top : Option ℕ) → MatchOption top ((was.running.stack ≡ []) × (now ≡ was)) (λ n. was ≡ record now { running = record now.running { stack = n ∷ now.running.stack } }) → IsDropped
  dropped None h =
      let none : drop count old.running.stack ≡ [] = sym was_stack ∙ h.0 in
      to [] (h.1 ∙ e ∙ ap (λ ns. record old { running = record old.running { stack = ns } }) none) (sym (ap (drop 1) none) ∙ drop-drop 1 count old.running.stack)
  dropped (Some n) h =
      let stack : n ∷ now.running.stack ≡ drop count old.running.stack = ap (λ (x : NumberedFrames). x.running.stack) (sym h ∙ e) in
      to now.running.stack (ap (λ (x : NumberedFrames). record x { running = record x.running { stack = now.running.stack } }) (sym h ∙ e)) (ap (drop 1) stack ∙ drop-drop 1 count old.running.stack)

-- operands of their types that are dropped were taken off
pub met_took : (es : List Expected) (old new : NumberedFrames) (ws : List ExpectedType) (count : ℕ) → count ≡ length es → AreMet old.types es old.running.stack → AllZip (StandsFor old.types) es ws
    → new ≡ record old { running = record old.running { stack = drop count old.running.stack } } → TookOff old.types.classes ws (held old) yes (held new)
met_took es old new ws count long m z e =
    let h = met_off old.types es old.running.stack ws m z in
    record {
      enough = h.enough;
      answer_is = h.answer;
      left_is = ap held e ∙ ap (λ k. with_stack (held old) (types_by old.types (drop k old.running.stack))) long ∙ ap (with_stack (held old)) h.left;
    }
