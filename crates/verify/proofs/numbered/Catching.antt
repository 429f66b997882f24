-- Locals that the frames at handlers are known to take, by frames that stand for them, and types that they catch.
use Rattle.std.proofs.Common.{◌≡◌, ◌∙◌, ℕ, zero, suc, ◌<◌, Bool, false, List, [], ◌∷◌, length, get_or, refl, sym, ap, ap₂, subst, arith}
use Rattle.classfile.specs.Methods.{ExceptionEntry}
use Rattle.hierarchy.specs.Answer.{Outcome, yes, no, missing}
use Rattle.frames.specs.Assignable.{type_answer}
use Rattle.frames.specs.FrameAssignable.{both, flag_answer, list_answer, stack_answer, item_answer}
use Rattle.type_numbers.specs.Numbers.{Numbering}
use Rattle.type_numbers.specs.Decoding.{type_by, types_by}
use Rattle.method_frames.proofs.Lacking.{both_left}
use Rattle.method_frames.specs.NumberedFrames.{NumberedFrame, NumberedFrames, declared_frame}
use Rattle.numbered_rules.specs.RunningFrame.{held}
use Rattle.verify.specs.declared.pass.handlers.Handler.{Handler}
use Rattle.verify.specs.declared.pass.handlers.Handlers.{Handlers}
use Rattle.verify.specs.private.pass.Following.{IsHandler, Comes, TakesAll, AreStanding, Catches, AreCaught, IsKnown, handler_answer}
use Rattle.verify.proofs.numbered.Following.{caught_is, comes_by}
use Rattle.verify.proofs.numbered.Settling.{both_right, lists_long}

-- ---- answers that are yes

module _ (s : Numbering) where
  abbrev Fits : ℕ → ℕ → Type 0
  Fits n wanted = type_answer s.classes (type_by s n) (type_by s wanted) ≡ yes

  -- slot by slot
  lists_fit : (ls fs : List ℕ) → length ls ≡ length fs → ((place : ℕ) → place < length ls → Fits (get_or ls place 0) (get_or fs place 0))
      → list_answer (type_answer s.classes) (types_by s ls) (types_by s fs) ≡ yes
  lists_fit [] [] long each = refl
  lists_fit [] (f ∷ fs) long each = absurd (omega (arith, long))
  lists_fit (l ∷ ls) [] long each = absurd (omega (arith, long))
  lists_fit (l ∷ ls) (f ∷ fs) long each = ap₂ both (each 0 (omega arith)) (lists_fit ls fs (omega (arith, long)) (λ place lt. each (suc place) (omega (arith, lt))))

  each_fits : (ls fs : List ℕ) → list_answer (type_answer s.classes) (types_by s ls) (types_by s fs) ≡ yes → (place : ℕ) → place < length ls → Fits (get_or ls place 0) (get_or fs place 0)
  each_fits [] fs e place lt = absurd (omega (arith, lt))
  each_fits (l ∷ ls) [] e place lt = absurd (cc)
  each_fits (l ∷ ls) (f ∷ fs) e zero lt =
      both_left (type_answer s.classes (type_by s l) (type_by s f)) (list_answer (type_answer s.classes) (types_by s ls) (types_by s fs)) e
  each_fits (l ∷ ls) (f ∷ fs) e (suc place) lt =
      each_fits ls fs (both_right (type_answer s.classes (type_by s l) (type_by s f)) (list_answer (type_answer s.classes) (types_by s ls) (types_by s fs)) e) place (omega (arith, lt))

-- ---- an entry

module _ (x : NumberedFrames) where
  abbrev s : Numbering
  s = x.types

  module _ (h : Handler) where
    abbrev declared : NumberedFrame
    declared = declared_frame x h.frame

    abbrev own : Outcome
    own = flag_answer x.running.flag declared.flag

    abbrev locals : Outcome
    locals = list_answer (type_answer s.classes) (types_by s x.running.locals) (types_by s declared.locals)

    abbrev stack : Outcome
    stack = stack_answer (item_answer s.classes) (types_by s (h.caught ∷ [])) (types_by s declared.stack)

    slots_taken : handler_answer x h ≡ yes → both locals stack ≡ yes
    slots_taken e = both_right own (both locals stack) e

    -- where the frame comes, the handler's takes what is caught
    pub catches_by : handler_answer x h ≡ yes → Catches x h
    catches_by e = record {
      even = sym (lists_long s x.running.locals declared.locals (both_left locals stack (slots_taken e)));
      stack = both_right locals stack (slots_taken e);
    }

    pub answer_of : (e : ExceptionEntry) → IsHandler x.types x.declared e h → Comes x (held x) h → handler_answer x h ≡ yes
    answer_of e is comes = sym (caught_is x e h is) ∙ comes e is

    -- and one that stands for it takes the locals
    pub lead_takes : (e : ExceptionEntry) → IsHandler x.types x.declared e h → Comes x (held x) h → TakesAll x x.running.locals h.lead
    lead_takes e is comes place lt =
        let slots = slots_taken (answer_of e is comes) in
        let fits = both_left locals stack slots in
        let long = lists_long s x.running.locals declared.locals fits in
        subst (λ n. type_answer s.classes (type_by s (get_or x.running.locals place 0)) (type_by s n) ≡ yes) (sym (is.lead.equal place (omega (arith, lt, long))))
        (each_fits s x.running.locals declared.locals fits place lt)

    -- the frame comes where both are known
    pub known_comes : Catches x h → x.running.flag ≡ false → TakesAll x x.running.locals h.lead → Comes x (held x) h
    known_comes c off takes e is =
        let even = c.even in
        let fits = lists_fit s x.running.locals declared.locals (sym even) (λ place lt.
        subst (λ n. type_answer s.classes (type_by s (get_or x.running.locals place 0)) (type_by s n) ≡ yes) (is.lead.equal place (omega (arith, lt, even))) (takes place lt)) in
        comes_by x e h is (ap₂ both (ap (λ b. flag_answer b declared.flag) off) (ap₂ both fits c.stack))

  -- an entry is like one that is remembered
  pub catches_like : (one h : Handler) → one.frame ≡ h.frame → one.caught ≡ h.caught → Catches x one → Catches x h
  catches_like one h frame caught c = record {
    even = ap (λ n. length (declared_frame x n).locals) (sym frame) ∙ c.even;
    stack =
        ap₂ (λ n m. stack_answer (item_answer s.classes) (types_by s (n ∷ [])) (types_by s (declared_frame x m).stack)) (sym caught) (sym frame)
        ∙ c.stack;
  }

  pub known : (hs : Handlers) (h : Handler) → AreCaught x hs → AreStanding x x.running.locals hs → hs.flag ≡ x.running.flag → IsKnown hs h → Comes x (held x) h
  known hs h caught standing same is =
      let c = is.caught in
      known_comes h (catches_like c.known h c.frame c.caught (caught c.key c.known c.there)) (sym same ∙ is.flag) (standing h.lead is.stands)
