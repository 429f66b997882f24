-- Entries that refuse an instruction, and those for which a class is missing.
use Rattle.std.proofs.Common.{◌≡◌, ◌∙◌, ℕ, Bool, true, false, ◌&&◌, ◌||◌, List, [], ◌∷◌, Option, Some, None, Result, if◌then◌else◌, refl, sym, ap, ap₂, subst, inl, inr, arith}
use Rattle.std.specs.List.{list_any}
use Rattle.std.specs.Prelude.{All, IfSome}
use Rattle.std.specs.List.Sorted.{IsPermutation}
use Rattle.std.proofs.lemmas.List.Sorted.{IsPermutation-trans}
use Rattle.std.proofs.lemmas.List.Elements.{All-nil, All-cons}
use Rattle.classfile.specs.Methods.{ExceptionEntry, covers}
use Rattle.hierarchy.specs.Answer.{Outcome, yes, no, missing}
use Rattle.insn.specs.Offsets.{at_offset}
use Rattle.frames.specs.FrameFact.{FrameFact}
use Rattle.frames.specs.FrameAssignable.{frame_answer}
use Rattle.frames.specs.Conditions.{Conditions, is_no, reason, least}
use Rattle.method_frames.specs.NumberedFrames.{NumberedFrames, frame_by, declared_frame}
use Rattle.method_frames.specs.MapFrames.{frames_by}
use Rattle.numbered_rules.specs.RunningFrame.{held}
use Rattle.rules.specs.declared.reason.Reason.{Reason}
use Rattle.verify.specs.TypeSafety.{Frames, caught_frame}
use Rattle.verify.specs.Verdict.{answer_conditions, one_handler, handler_conditions}
use Rattle.verify.specs.private.InTurn.{IsLack, AreLacks, IsJudgedInTurn}
use Rattle.verify.specs.declared.pass.handlers.Handler.{Handler}
use Rattle.verify.specs.private.pass.Following.{IsHandler, AreHandlers, IsOfEntry, IsLike, IsPassed, one_handler_at, is_covering, handler_answer, refuses}
use Rattle.verify.proofs.InTurn as turn
use Rattle.verify.proofs.InTurn.{IsBehind, none_behind, same_behind, answer_behind}
use Rattle.verify.proofs.numbered.Following.{entry_conditions}

module _ (x : NumberedFrames) (at : ℕ) where
  abbrev frames : Frames
  frames = frames_by x.types x.declared

  abbrev pub one : ExceptionEntry → Conditions
  one = one_handler_at x.types.classes frames at (held x)

  abbrev pub all : List ExceptionEntry → Conditions
  all = handler_conditions x.types.classes frames at (held x)

  abbrev pub in_turn : List ExceptionEntry → Result Unit Reason → Type 0
  in_turn = IsJudgedInTurn one all

  -- no reason of an entry has a lower number than 73
  behind_if : (e : ExceptionEntry) (b : Bool) → IsBehind 73 (least (if b then one_handler x.types.classes (at_offset frames e.handler) (caught_frame e (held x)) else []))
  behind_if e false = none_behind 73
  behind_if e true = by (at_offset frames e.handler)
    where
      by : (o : Option FrameFact) → IsBehind 73 (least (one_handler x.types.classes o (caught_frame e (held x))))
      by None = same_behind 73
      by (Some d) = answer_behind 73 (frame_answer x.types.classes (caught_frame e (held x)) d) (omega arith)

  behind : (e : ExceptionEntry) → IsBehind 73 (least (one e))
  behind e = behind_if e (covers e at)

  refused_one : (e : ExceptionEntry) (h : Handler) → IsHandler x.types x.declared e h → refuses x at h ≡ true → least (one e) ≡ Some (reason 73)
  refused_one e h is r = ap least (entry_conditions x at e h is) ∙ by (is_covering h at) (handler_answer x h) r
    where
      by : (b : Bool) (a : Outcome) → (b && is_no a) ≡ true → least (if b then answer_conditions 73 a else []) ≡ Some (reason 73)
      by true no r = refl
      by true yes r = absurd (cc)
      by true (missing name) r = absurd (cc)
      by false a r = absurd (cc)

  free_one : (e : ExceptionEntry) (h : Handler) → IsHandler x.types x.declared e h → refuses x at h ≡ false → IsLack (least (one e))
  free_one e h is r = rw (entry_conditions x at e h is) (by (is_covering h at) (handler_answer x h) r)
    where
      by : (b : Bool) (a : Outcome) → (b && is_no a) ≡ false → IsLack (least (if b then answer_conditions 73 a else []))
      by true no r = absurd (cc)
      by true yes r = inl refl
      by true (missing name) r = inr (name, refl)
      by false a r = inl refl

  -- one of the entries refuses
  pub refused : (es : List ExceptionEntry) (hs : List Handler) → AreHandlers x.types x.declared es hs → list_any (refuses x at) hs ≡ true → least (all es) ≡ Some (reason 73)
  refused [] [] a r = absurd (cc)
  refused [] (h ∷ hs) a r = absurd a
  refused (e ∷ es) [] a r = absurd a
  refused (e ∷ es) (h ∷ hs) a r = by (refuses x at h) refl r (refused es hs a.1)
    where
      by : (b : Bool) → refuses x at h ≡ b → (b || list_any (refuses x at) hs) ≡ true → (list_any (refuses x at) hs ≡ true → least (all es) ≡ Some (reason 73)) → least (all (e ∷ es)) ≡ Some (reason 73)
      by true q r later = turn.refused_here one all refl (λ y ys. refl) 73 e es (refused_one e h a.0 q) (turn.each_behind one all refl (λ y ys. refl) 73 behind es)
      by false q r later = turn.refused_later one all refl (λ y ys. refl) 73 e es (behind e) (later r)

  -- none does
  pub free : (es : List ExceptionEntry) (hs : List Handler) → AreHandlers x.types x.declared es hs → list_any (refuses x at) hs ≡ false → AreLacks one es
  free [] [] a r = tt
  free [] (h ∷ hs) a r = absurd a
  free (e ∷ es) [] a r = absurd a
  free (e ∷ es) (h ∷ hs) a r = by (refuses x at h) refl r (free es hs a.1)
    where
      by : (b : Bool) → refuses x at h ≡ b → (b || list_any (refuses x at) hs) ≡ false → (list_any (refuses x at) hs ≡ false → AreLacks one es) → AreLacks one (e ∷ es)
      by true q r later = absurd (cc)
      by false q r later = (free_one e h a.0 q, later r)

-- an entry that is passed over refuses nothing
module _ (x : NumberedFrames) (at : ℕ) (h : Handler) where
  and_false : (b : Bool) → (b && false) ≡ false
  and_false true = refl
  and_false false = refl

  pub like_answer : (last : Option Handler) → IsLike h last → (P : Outcome → Type 0) → IfSome last (λ one. P (handler_answer x one)) → P (handler_answer x h)
  like_answer None is P p = absurd is
  like_answer (Some one) is P p = subst P (ap₂ (λ n m. frame_answer x.types.classes (frame_by x.types (record x.running { stack = n ∷ [] })) (frame_by x.types (declared_frame x m))) (sym is.1) (sym is.0)) p

  pub asked_free : is_covering h at ≡ true → is_no (handler_answer x h) ≡ false → refuses x at h ≡ false
  asked_free covers free = ap₂ (λ a b. a && b) covers free

  pub asked_refused : is_covering h at ≡ true → is_no (handler_answer x h) ≡ true → refuses x at h ≡ true
  asked_refused covers refused = ap₂ (λ a b. a && b) covers refused

  pub passed_free : (last : Option Handler) → IfSome last (λ one. is_no (handler_answer x one) ≡ false) → IsPassed at last h → refuses x at h ≡ false
  passed_free last free (inl none) = ap (λ b. b && is_no (handler_answer x h)) none
  passed_free last free (inr like) = ap (λ b. is_covering h at && b) (like_answer last like (λ a. is_no a ≡ false) free) ∙ and_false (is_covering h at)

  -- one whose handler takes the frame has no conditions that hold
  pub asked_conditions : (e : ExceptionEntry) → IsHandler x.types x.declared e h → handler_answer x h ≡ yes → least (one x at e) ≡ None
  asked_conditions e is taken =
      ap least (entry_conditions x at e h is) ∙ ap (λ a. least (if is_covering h at then answer_conditions 73 a else [])) taken ∙ by (is_covering h at)
    where
      by : (b : Bool) → least (if b then answer_conditions 73 yes else []) ≡ None
      by true = refl
      by false = refl

  -- nor has one that is passed over
  pub passed_conditions : (e : ExceptionEntry) → IsHandler x.types x.declared e h → (last : Option Handler) → IfSome last (λ one. handler_answer x one ≡ yes) → IsPassed at last h → least (one x at e) ≡ None
  passed_conditions e is last taken (inl none) = ap least (entry_conditions x at e h is) ∙ ap (λ b. least (if b then answer_conditions 73 (handler_answer x h) else [])) none
  passed_conditions e is last taken (inr like) = asked_conditions e is (like_answer last like (λ a. a ≡ yes) taken)

pub passed_yes : (a : Outcome) → least (answer_conditions 73 a) ≡ None → a ≡ yes
passed_yes yes e = refl
passed_yes no e = absurd (cc)
passed_yes (missing name) e = absurd (cc)

-- the entries of a table, in two orders one after the other
pub moved_twice : (table by mid sorted now : List Handler) → by ≡ table → IsPermutation by mid → IsPermutation mid sorted → now ≡ sorted → IsPermutation table now
moved_twice table by mid sorted now same first second is =
    subst (IsPermutation table) (sym is) (subst (λ xs. IsPermutation xs sorted) same (IsPermutation-trans by mid sorted first second))

-- each handler is that of an entry
pub each_of_entry : (x : NumberedFrames) (es : List ExceptionEntry) (hs : List Handler) → AreHandlers x.types x.declared es hs → All (IsOfEntry x) hs
each_of_entry x [] [] a = All-nil (IsOfEntry x)
each_of_entry x [] (h ∷ hs) a = absurd a
each_of_entry x (e ∷ es) [] a = absurd a
each_of_entry x (e ∷ es) (h ∷ hs) a = All-cons (IsOfEntry x) h hs (e, a.0) (each_of_entry x es hs a.1)
