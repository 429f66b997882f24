-- A target or a handler at which the frame does not fit is found, and so is an entry of the exception table.
use Rattle.std.proofs.Common.{◌≡◌, inl, inr, ℕ, suc, ℤ, pos, Bool, true, false, is_some, is_none, List, [], ◌∷◌, length, Option, Some, None, refl, sym, ◌∙◌, ap, if◌then◌else◌}
use Rattle.std.specs.Option.{option_map}
use Rattle.classfile.specs.Methods.{Method, ExceptionEntry, covers}
use Rattle.hierarchy.specs.Class.{ClassFact}
use Rattle.hierarchy.specs.Answer.{no}
use Rattle.insn.specs.Meanings.{Act}
use Rattle.insn.specs.Offsets.{at_offset, IsAmong}
use Rattle.frames.specs.FrameFact.{FrameFact}
use Rattle.frames.specs.FrameAssignable.{frame_answer}
use Rattle.frames.specs.Differences.{DifferenceFact, is_no, first_difference}
use Rattle.frames.specs.declared.difference.Sought.TheVariants.{No}
use Rattle.frames.specs.Conditions.{Reason, least}
use Rattle.frames.proofs.Differences.{no_difference, some_map}
use Rattle.rules.proofs.FoundOperands.{or_first, or_second}
use Rattle.verify.specs.TypeSafety.{Frames, caught_frame}
use Rattle.verify.specs.Verdict.{table_conditions}
use Rattle.verify.specs.Breaks.{Meets}
use Rattle.verify.specs.DifferencesAt.{placed, from_declared, at_target, at_targets, at_handler, at_handlers, first_refused, first_covering}

pub differs : (classes : List ClassFact) (f g : FrameFact) (n : ℕ) → length f.locals ≡ n → length g.locals ≡ n → frame_answer classes f g ≡ no → is_some (first_difference classes f g) ≡ true
differs classes f g n h k e = sym (no_difference classes f g (h ∙ sym k)) ∙ ap is_no e

some_placed : (at : ℕ) (o : Option DifferenceFact) → is_some (placed at o) ≡ is_some o
some_placed at None = refl
some_placed at (Some d) = refl

module _ (classes : List ClassFact) (frames : Frames) (n : ℕ) (full : (at : ℕ) (g : FrameFact) → at_offset frames at ≡ Some g → length g.locals ≡ n) where
  declared_found : (f : FrameFact) (at : ℕ) → length f.locals ≡ n → Meets classes frames f at no → is_some (from_declared No classes f at (at_offset frames at)) ≡ true
  declared_found f at h x =
      ap (λ o. is_some (from_declared No classes f at o)) x.here ∙ some_placed at (first_difference classes f x.declared)
      ∙ differs classes f x.declared n h (full at x.declared x.here) x.told

  pub targets_found : (f : FrameFact) (ts : List ℤ) (target : ℤ) (to : ℕ) → IsAmong target ts → target ≡ pos to → length f.locals ≡ n → Meets classes frames f to no
      → is_some (at_targets No classes frames f ts) ≡ true
  targets_found f [] target to i e h x = elim i [ ]
  targets_found f (t ∷ ts) target to (inl i) e h x =
      or_first (at_target No classes frames f t) (at_targets No classes frames f ts)
      (ap (λ z. is_some (at_target No classes frames f z)) (sym i ∙ e) ∙ declared_found f to h x)
  targets_found f (t ∷ ts) target to (inr i) e h x =
      or_second (at_target No classes frames f t) (at_targets No classes frames f ts) (targets_found f ts target to i e h x)

  handler_found : (at : ℕ) (f : FrameFact) (e : ExceptionEntry) → covers e at ≡ true → length f.locals ≡ n → Meets classes frames (caught_frame e f) e.handler no
      → is_some (at_handler No classes frames at f e) ≡ true
  handler_found at f e c h x = rw c (declared_found (caught_frame e f) e.handler h x)

  pub handlers_found : (at : ℕ) (f : FrameFact) (place : ℕ) (es : List ExceptionEntry) (e : ExceptionEntry) → IsAmong e es → covers e at ≡ true → length f.locals ≡ n → Meets classes frames (caught_frame e f) e.handler no
      → is_some (at_handlers No classes frames at f place es) ≡ true
  handlers_found at f place [] e i c h x = elim i [ ]
  handlers_found at f place (y ∷ ys) e (inl i) c h x =
      let o = at_handler No classes frames at f y in
      or_first (option_map (λ d. (place, d)) o) (at_handlers No classes frames at f (suc place) ys)
      (some_map (λ d. (place, d)) o ∙ ap (λ z. is_some (at_handler No classes frames at f z)) (sym i) ∙ handler_found at f e c h x)
  handlers_found at f place (y ∷ ys) e (inr i) c h x =
      or_second (option_map (λ d. (place, d)) (at_handler No classes frames at f y)) (at_handlers No classes frames at f (suc place) ys)
      (handlers_found at f (suc place) ys e i c h x)

-- ---- entries of the exception table

pub covering_found : (at place : ℕ) (es : List ExceptionEntry) (e : ExceptionEntry) → IsAmong e es → covers e at ≡ true → is_some (first_covering at place es) ≡ true
covering_found at place [] e i c = elim i [ ]
covering_found at place (y ∷ ys) e (inl i) c = rw (sym (ap (λ z. covers z at) i) ∙ c) refl
covering_found at place (y ∷ ys) e (inr i) c = by (covers y at) (covering_found at (suc place) ys e i c)
  where
    by : (b : Bool) → is_some (first_covering at (suc place) ys) ≡ true → is_some (if b then Some place else first_covering at (suc place) ys) ≡ true
    by true h = refl
    by false h = h

pub refused_found : (classes : List ClassFact) (m : Method Act) (frames : Frames) (place : ℕ) (es : List ExceptionEntry) (e : ExceptionEntry) (why : Reason) → IsAmong e es
    → least (table_conditions classes m frames e) ≡ Some why → is_some (first_refused classes m frames place es) ≡ true
refused_found classes m frames place [] e why i l = elim i [ ]
refused_found classes m frames place (y ∷ ys) e why (inl i) l =
    let there : is_none (least (table_conditions classes m frames y)) ≡ false = ap (λ z. is_none (least (table_conditions classes m frames z))) (sym i) ∙ ap is_none l in
    rw there refl
refused_found classes m frames place (y ∷ ys) e why (inr i) l =
    by (is_none (least (table_conditions classes m frames y))) (refused_found classes m frames (suc place) ys e why i l)
  where
    by : (b : Bool) → is_some (first_refused classes m frames (suc place) ys) ≡ true → is_some (if b then first_refused classes m frames (suc place) ys else Some place) ≡ true
    by true h = h
    by false h = refl
