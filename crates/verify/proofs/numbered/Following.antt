-- The entries of an exception table while a pass goes over the code.
use Rattle.std.proofs.Common.{◌≡◌, ◌∙◌, ℕ, zero, suc, ◌+◌, ◌≤◌, ◌<◌, Bool, true, false, ◌||◌, nat_lt, nat_le, ◌&&◌, List, [], ◌∷◌, length, get_or, slice_get, drop, Option, Some, None, Result, if◌then◌else◌, refl, sym, ap, subst, arith}
use Rattle.std.proofs.lemmas.Bool.Decides.{nat_tests}
use Rattle.classfile.specs.Methods.{ExceptionEntry, covers}
use Rattle.hierarchy.specs.Class.{ClassFact}
use Rattle.hierarchy.specs.Answer.{yes, outcome_of}
use Rattle.hierarchy.specs.declared.answer.Answer.{Answer}
use Rattle.hierarchy.specs.declared.answer.Answer.TheVariants.{Yes, No, Missing}
use Rattle.insn.specs.Offsets.{at_offset}
use Rattle.frames.specs.FrameFact.{FrameFact}
use Rattle.frames.specs.Slots.{to_reference}
use Rattle.frames.specs.FrameAssignable.{frame_answer}
use Rattle.frames.specs.Conditions.{is_no, least}
use Rattle.type_numbers.specs.Numbers.{Numbering}
use Rattle.type_numbers.specs.Decoding.{type_by}
use Rattle.type_numbers.proofs.Decoded.{number_read}
use Rattle.method_frames.specs.NumberedFrames.{NumberedFrame, NumberedFrames, frame_by, declared_frame}
use Rattle.method_frames.specs.MapFrames.{frames_by}
use Rattle.rules.specs.declared.reason.Reason.{Reason}
use Rattle.numbered_rules.specs.RunningFrame.{held}
use Rattle.rules.specs.After.{with_stack}
use Rattle.rules.specs.Outcomes.{Judges}
use Rattle.verify.specs.TypeSafety.{caught_frame}
use Rattle.verify.specs.Verdict.{answer_conditions, one_handler, is_covered}
use Rattle.verify.specs.private.Catching.{answer_at, caught_answer}
use Rattle.verify.specs.declared.pass.handlers.Handler.{Handler}
use Rattle.verify.specs.private.pass.Following.{IsHandler, AreHandlers, IsTaken, handler_answer, is_covering, one_handler_at}

-- ---- entries one after the other

abbrev pub no_handler : Handler
no_handler = record { from = 0; to = 0; frame = 0; caught = 0; lead = 0 }

pub handler_at : (hs : List Handler) (i : ℕ) → i < length hs → slice_get hs i ≡ Some (get_or hs i no_handler)
handler_at [] i lt = absurd (omega (arith, lt))
handler_at (h ∷ hs) zero lt = refl
handler_at (h ∷ hs) (suc i) lt = handler_at hs i (omega (arith, lt))

module _ (s : Numbering) (ds : List (ℕ × NumberedFrame)) where
  -- the entries from a place on
  pub handlers_from : (es : List ExceptionEntry) (hs : List Handler) (i : ℕ) → AreHandlers s ds es hs → AreHandlers s ds (drop i es) (drop i hs)
  handlers_from es hs zero a = a
  handlers_from [] [] (suc i) a = a
  handlers_from [] (h ∷ hs) (suc i) a = absurd a
  handlers_from (e ∷ es) [] (suc i) a = absurd a
  handlers_from (e ∷ es) (h ∷ hs) (suc i) a = handlers_from es hs i a.1

  -- an entry, where there is a place
  pub record HasEntry (es : List ExceptionEntry) (i : ℕ) (h : Handler) : Type 0 where
    pub entry : ExceptionEntry
    pub is : IsHandler s ds entry h
    pub here : drop i es ≡ entry ∷ drop (i + 1) es
    pub got : slice_get es i ≡ Some entry

  pub has_entry : (es : List ExceptionEntry) (hs : List Handler) (i : ℕ) (d : Handler) → AreHandlers s ds es hs → i < length hs → HasEntry es i (get_or hs i d)
  has_entry [] [] i d a lt = absurd (omega (arith, lt))
  has_entry [] (h ∷ hs) i d a lt = absurd a
  has_entry (e ∷ es) [] i d a lt = absurd a
  has_entry (e ∷ es) (h ∷ hs) zero d a lt = record { entry = e; is = a.0; here = refl; got = refl }
  has_entry (e ∷ es) (h ∷ hs) (suc i) d a lt =
      let k = has_entry es hs i d a.1 (omega (arith, lt)) in
      record { entry = k.entry; is = k.is; here = k.here ∙ ap (λ n. k.entry ∷ drop n (e ∷ es)) (let q : suc (i + 1) ≡ suc i + 1 = omega arith in q); got = k.got }

  pub as_many : (es : List ExceptionEntry) (hs : List Handler) → AreHandlers s ds es hs → length es ≡ length hs
  as_many [] [] a = refl
  as_many [] (h ∷ hs) a = absurd a
  as_many (e ∷ es) [] a = absurd a
  as_many (e ∷ es) (h ∷ hs) a = ap suc (as_many es hs a.1)

-- ---- whether an entry covers an offset

pub covered_by : (es : List ExceptionEntry) (at k : ℕ) (e : ExceptionEntry) → slice_get es k ≡ Some e → covers e at ≡ true → is_covered es at ≡ true
covered_by [] at k e here is = cc
covered_by (x ∷ es) at zero e here is = let same : x ≡ e = cc in ap (λ y. covers y at || is_covered es at) same ∙ ap (λ b. b || is_covered es at) is
covered_by (x ∷ es) at (suc k) e here is = ap (λ b. covers x at || b) (covered_by es at k e here is) ∙ or_true (covers x at)
  where
    or_true : (b : Bool) → (b || true) ≡ true
    or_true true = refl
    or_true false = refl

pub covered_by_none : (es : List ExceptionEntry) (at : ℕ) → ((k : ℕ) (e : ExceptionEntry) → k < length es → slice_get es k ≡ Some e → covers e at ≡ false) → is_covered es at ≡ false
covered_by_none [] at so = refl
covered_by_none (x ∷ es) at so = ap (λ b. b || is_covered es at) (so 0 x (omega arith) refl) ∙ covered_by_none es at (λ k e lt here. so (suc k) e (omega (arith, lt)) here)

-- ---- one entry

pub none_of_yes : (classes : List ClassFact) (o : Option FrameFact) (g : FrameFact) → answer_at classes o g ≡ yes → least (one_handler classes o g) ≡ None
none_of_yes classes None g e = absurd (cc)
none_of_yes classes (Some d) g e = ap (λ a. least (answer_conditions 73 a)) e

-- an entry has no conditions that hold, where it covers no instruction or the frame comes to its handler
pub none_if : (classes : List ClassFact) (o : Option FrameFact) (g : FrameFact) (b : Bool) → (b ≡ true → answer_at classes o g ≡ yes) → least (if b then one_handler classes o g else []) ≡ None
none_if classes o g true y = none_of_yes classes o g (y refl)
none_if classes o g false y = refl

-- the answer about an entry is that of the frame in which an exception is caught
pub caught_is : (x : NumberedFrames) (e : ExceptionEntry) (h : Handler) → IsHandler x.types x.declared e h
    → caught_answer x.types.classes (frames_by x.types x.declared) (held x) e ≡ handler_answer x h
caught_is x e h is =
    let type_is : type_by x.types h.caught ≡ to_reference e.caught = number_read x.types h.caught (to_reference e.caught) is.caught in
    ap (λ d. answer_at x.types.classes d (caught_frame e (held x))) is.frame.place.declared
    ∙ sym (ap (λ t. frame_answer x.types.classes (with_stack (held x) (t ∷ [])) (frame_by x.types (declared_frame x h.frame))) type_is)

-- an answer that is not no
pub not_no : (answer : Answer) → (answer ≡ No → ⊥) → is_no (outcome_of answer) ≡ false
not_no Yes h = refl
not_no No h = absurd (h refl)
not_no (Missing name) h = refl

-- and so are the conditions of the entry
pub caught_conditions : (x : NumberedFrames) (e : ExceptionEntry) (h : Handler) → IsHandler x.types x.declared e h
    → one_handler x.types.classes (at_offset (frames_by x.types x.declared) e.handler) (caught_frame e (held x)) ≡ answer_conditions 73 (handler_answer x h)
caught_conditions x e h is =
    let type_is : type_by x.types h.caught ≡ to_reference e.caught = number_read x.types h.caught (to_reference e.caught) is.caught in
    ap (λ d. one_handler x.types.classes d (caught_frame e (held x))) is.frame.place.declared
    ∙ sym (ap (λ t. answer_conditions 73 (frame_answer x.types.classes (with_stack (held x) (t ∷ [])) (frame_by x.types (declared_frame x h.frame)))) type_is)

-- whether an entry covers an offset is known by its handler
pub covering_is : (at : ℕ) (e : ExceptionEntry) (h : Handler) → h.from ≡ e.from → h.to ≡ e.to → covers e at ≡ is_covering h at
covering_is at e h from to = sym (ap (λ n. nat_le n at && nat_lt at h.to) from ∙ ap (λ n. nat_le e.from at && nat_lt at n) to)

-- and so are its conditions
pub entry_conditions : (x : NumberedFrames) (at : ℕ) (e : ExceptionEntry) (h : Handler) → IsHandler x.types x.declared e h
    → one_handler_at x.types.classes (frames_by x.types x.declared) at (held x) e ≡ (if is_covering h at then answer_conditions 73 (handler_answer x h) else [])
entry_conditions x at e h is =
    ap (λ b. if b then one_handler x.types.classes (at_offset (frames_by x.types x.declared) e.handler) (caught_frame e (held x)) else []) (covering_is at e h is.from is.to)
    ∙ ap (λ cs. if is_covering h at then cs else []) (caught_conditions x e h is)

-- it is judged by them
pub judged_by : (x : NumberedFrames) (at : ℕ) (e : ExceptionEntry) (h : Handler) → IsHandler x.types x.declared e h → (b : Bool) → b ≡ is_covering h at
    → (r : Result Unit Reason) → Judges (if b then answer_conditions 73 (handler_answer x h) else []) r → Judges (one_handler_at x.types.classes (frames_by x.types x.declared) at (held x) e) r
judged_by x at e h is b told r j =
    subst (λ cs. Judges cs r) (ap (λ z. if z then answer_conditions 73 (handler_answer x h) else []) told ∙ sym (entry_conditions x at e h is)) j

-- and it comes to the handler where that is yes
pub comes_by : (x : NumberedFrames) (e : ExceptionEntry) (h : Handler) → IsHandler x.types x.declared e h
    → frame_answer x.types.classes (frame_by x.types (record x.running { stack = h.caught ∷ [] })) (frame_by x.types (declared_frame x h.frame)) ≡ yes → IsTaken x.types x.declared (held x) e
comes_by x e h is told = caught_is x e h is ∙ told

-- ---- where an entry covers

-- it has begun and has not ended
pub begun_covers : (e : ExceptionEntry) (at : ℕ) → e.from ≤ at → at < e.to → covers e at ≡ true
begun_covers e at le lt =
    let starts : nat_le e.from at ≡ true = grind (arith, nat_tests, le) in
    let ends : nat_lt at e.to ≡ true = grind (arith, nat_tests, lt) in
    rw (starts, ends) refl

pub covered_starts : (e : ExceptionEntry) (at : ℕ) → covers e at ≡ true → e.from ≤ at
covered_starts e at c = let q = left_true (nat_le e.from at) (nat_lt at e.to) c in grind (arith, nat_tests, q)
  where
    left_true : (a b : Bool) → a && b ≡ true → a ≡ true
    left_true true b r = refl
    left_true false b r = cc

pub covered_ends : (e : ExceptionEntry) (at : ℕ) → covers e at ≡ true → at < e.to
covered_ends e at c = let q = right_true (nat_le e.from at) (nat_lt at e.to) c in grind (arith, nat_tests, q)
  where
    right_true : (a b : Bool) → a && b ≡ true → b ≡ true
    right_true true b r = r
    right_true false b r = cc
