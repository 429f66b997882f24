-- The conditions that the verdict asks are the fields of a method that is type-safe, each with its number.
use Rattle.std.proofs.Common.{◌≡◌, ℕ, ℤ, pos, negsuc, ◌≤◌, Bool, true, false, not, ◌&&◌, ◌||◌, is_some, is_none, nat_lt, nat_eq, List, [], ◌∷◌, ◌++◌, Option, Some, None, if◌then◌else◌, ◌⊎◌, ◌↔◌, inl, inr, refl, sym, ◌∙◌, ap, subst, arith, ltb-true, ltb-false, le-ltb, eqb-true, eq-eqb}
use Rattle.std.specs.Option.{option_map_or}
use Rattle.names.specs.StandardNames.{throwable_name}
use Rattle.classfile.specs.Methods.{Method, ExceptionEntry, covers}
use Rattle.hierarchy.specs.Class.{ClassFact}
use Rattle.hierarchy.specs.Answer.{Outcome, yes, no, missing}
use Rattle.hierarchy.specs.Nearest.{is_guarded}
use Rattle.insn.specs.Meanings.{Act}
use Rattle.insn.specs.Offsets.{at_offset, next_offset, has_offset, IsStart, IsAmong}
use Rattle.frames.specs.VerificationType.{class}
use Rattle.frames.specs.FrameFact.{FrameFact}
use Rattle.frames.specs.Slots.{to_reference}
use Rattle.frames.specs.Assignable.{type_answer}
use Rattle.frames.specs.FrameAssignable.{frame_answer}
use Rattle.frames.specs.Conditions.{Reason, reason, class_missing, number_of, Conditions, NoneHolds, lesser, least, is_no}
use Rattle.rules.specs.TypingRules.{TypingRule, falls, targets}
use Rattle.rules.specs.Table.{TypingRules}
use Rattle.rules.specs.After.{after}
use Rattle.rules.specs.Rules.{constructs_own, conditions}
use Rattle.rules.specs.Interfaces.{calls_indirect, interface_conditions}
use Rattle.rules.specs.Protected.{Use, used_by, object_beneath, object_answer, object_conditions, use_conditions, member_conditions}
use Rattle.verify.specs.InitialFrames.{initial_frame}
use Rattle.verify.specs.TypeSafety.{Frames, caught_frame}
use Rattle.verify.specs.Verdict.{told_of, answer_conditions, is_end, table_conditions, declared_at, one_target, target_conditions, one_handler, handler_conditions, is_covered, at_conditions, entry}
use Rattle.verify.specs.Refusals.{BreaksRule, BreaksFrame, BreaksFirst, BreaksTable, HasNoRoom, BreaksCode, BreaksWithFrames}
use Rattle.verify.specs.Breaks.{Holds, HasNoFrame, Meets, Target, Covering, Breaks, rule, no_frame_at_target, not_assignable_at_target, missing_at_target, Guarded, protected_member, not_direct, missing_object, no_frame_at_handler, not_assignable_at_handler, missing_at_handler, falls_off, constructor_covered, BreaksAt, not_assignable, missing_there, no_frame, BreaksEntry, covers_nothing, no_start, no_end, no_handler, no_handler_frame, no_throwable, missing_class, AreFields, ConditionsAreFields, IsLeast, BreaksDeclared, at_entry, at_beginning, at_frame, at_instruction, BreaksMethod, no_room, with_frames, RefusedBreaks, MapRefusedBreaks}
use Rattle.verify.proofs.Declared.{none_least}
use Rattle.verify.proofs.verdicts.MapFaults.{map_refused_where}
use Rattle.verify.proofs.verdicts.Refusing.{refused_why}

-- ---- what holds in lists of conditions

abbrev Condition : Type 0
Condition = Reason × Bool

true_false : {A : Type 0} → true ≡ false → A
true_false e = cc

held : (why r : Reason) (b : Bool) → ◌≡◌ {A = Condition} (why, true) (r, b) → (why ≡ r) × (b ≡ true)
held why r b e = (ap (λ (x : Condition). x.0) e, sym (ap (λ (x : Condition). x.1) e))

put : (why r : Reason) (b : Bool) → why ≡ r → b ≡ true → ◌≡◌ {A = Condition} (why, true) (r, b)
put why r b e t = λ i. (e i, sym t i)

never : {A : Type 0} (why r : Reason) → ◌≡◌ {A = Condition} (why, true) (r, false) → A
never why r e = true_false (sym (held why r false e).1)

holds_apart : (cs ds : Conditions) (why : Reason) → Holds (cs ++ ds) why → Holds cs why ⊎ Holds ds why
holds_apart [] ds why h = inr h
holds_apart (c ∷ cs) ds why (inl e) = inl (inl e)
holds_apart (c ∷ cs) ds why (inr h) = elim (holds_apart cs ds why h) [
  | inl x ↦ inl (inr x)
  | inr x ↦ inr x
]

pub holds_front : (cs ds : Conditions) (why : Reason) → Holds cs why → Holds (cs ++ ds) why
holds_front [] ds why h = elim h [ ]
holds_front (c ∷ cs) ds why (inl e) = inl e
holds_front (c ∷ cs) ds why (inr h) = inr (holds_front cs ds why h)

holds_behind : (cs ds : Conditions) (why : Reason) → Holds ds why → Holds (cs ++ ds) why
holds_behind [] ds why h = h
holds_behind (c ∷ cs) ds why h = inr (holds_behind cs ds why h)

none_held : (cs : Conditions) (why : Reason) → NoneHolds cs → Holds cs why → ⊥
none_held [] why n h = h
none_held (c ∷ cs) why n (inl e) = true_false (ap (λ (x : Condition). x.1) e ∙ n.0)
none_held (c ∷ cs) why n (inr h) = none_held cs why n.1 h

-- the least that is told is the least of those that hold
pub least_held : (cs : Conditions) (why : Reason) → least cs ≡ Some why → IsLeast (Holds cs) why
least_held [] why e = cc
least_held (c ∷ cs) why e = by c.1 refl (least cs) refl e (λ r i. least_held cs r i)
  where
    same : (a b : Reason) → Some a ≡ Some b → a ≡ b
    same a b q = cc

    is_head : (other : Reason) → ◌≡◌ {A = Condition} (other, true) c → other ≡ c.0
    is_head other q = ap (λ (x : Condition). x.0) q

    head : c.1 ≡ true → (r : Reason) → r ≡ c.0 → Holds (c ∷ cs) r
    head t r q = inl (put r c.0 c.1 q t)

    smaller : (b : Bool) → c.1 ≡ true → (r : Reason) → nat_lt (number_of r) (number_of c.0) ≡ b → IsLeast (Holds cs) r → (if b then r else c.0) ≡ why → IsLeast (Holds (c ∷ cs)) why
    smaller true t r l x q = (subst (Holds (c ∷ cs)) q (inr x.0), bounded)
      where
        bounded : (other : Reason) → Holds (c ∷ cs) other → number_of why ≤ number_of other
        bounded other (inl i) =
            let k = ltb-true (number_of r) (number_of c.0) l in
            let a = ap number_of q in
            let d = ap number_of (is_head other i) in
            omega (arith, k, a, d)
        bounded other (inr i) = let k = x.1 other i in let a = ap number_of q in omega (arith, k, a)
    smaller false t r l x q = (head t why (sym q), bounded)
      where
        bounded : (other : Reason) → Holds (c ∷ cs) other → number_of why ≤ number_of other
        bounded other (inl i) = let a = ap number_of q in let d = ap number_of (is_head other i) in omega (arith, a, d)
        bounded other (inr i) =
            let k = x.1 other i in
            let n = ltb-false (number_of r) (number_of c.0) l in
            let a = ap number_of q in
            omega (arith, k, n, a)

    by : (b : Bool) → c.1 ≡ b → (o : Option Reason) → least cs ≡ o → (if b then Some (lesser c.0 o) else o) ≡ Some why
        → ((r : Reason) → least cs ≡ Some r → IsLeast (Holds cs) r) → IsLeast (Holds (c ∷ cs)) why
    by false t o is q rec = let x = rec why (is ∙ q) in (inr x.0, bounded x.1)
      where
        bounded : ((other : Reason) → Holds cs other → number_of why ≤ number_of other) → (other : Reason) → Holds (c ∷ cs) other → number_of why ≤ number_of other
        bounded k other (inl i) = true_false (ap (λ (x : Condition). x.1) i ∙ t)
        bounded k other (inr i) = k other i
    by true t None is q rec = (head t why (sym (same c.0 why q)), bounded)
      where
        bounded : (other : Reason) → Holds (c ∷ cs) other → number_of why ≤ number_of other
        bounded other (inl i) = let a = ap number_of (same c.0 why q) in let d = ap number_of (is_head other i) in omega (arith, a, d)
        bounded other (inr i) = absurd (none_held cs other (none_least cs is) i)
    by true t (Some r) is q rec = smaller (nat_lt (number_of r) (number_of c.0)) t r refl (rec r is) (same (if nat_lt (number_of r) (number_of c.0) then r else c.0) why q)

-- the least, by another word for what holds
least_by : (P Q : Reason → Type 0) (why : Reason) → ((r : Reason) → P r ↔ Q r) → IsLeast P why → IsLeast Q why
least_by P Q why same x = ((same why).0 x.0, λ other q. x.1 other ((same other).1 q))

-- ---- answers

abbrev IsAnswered : ℕ → Outcome → Reason → Type 0
IsAnswered n a why = ((why ≡ reason n) × (a ≡ no)) ⊎ ((name : List ℕ) × (why ≡ class_missing name) × (a ≡ missing name))

answer_held : (n : ℕ) (a : Outcome) (why : Reason) → Holds (answer_conditions n a) why → IsAnswered n a why
answer_held n yes why (inl e) = never why (reason n) e
answer_held n yes why (inr (inl e)) = never why (class_missing []) e
answer_held n yes why (inr (inr e)) = elim e [ ]
answer_held n no why (inl e) = inl ((held why (reason n) true e).0, refl)
answer_held n no why (inr (inl e)) = never why (class_missing []) e
answer_held n no why (inr (inr e)) = elim e [ ]
answer_held n (missing name) why (inl e) = never why (reason n) e
answer_held n (missing name) why (inr (inl e)) = inr (name, (held why (class_missing name) true e).0, refl)
answer_held n (missing name) why (inr (inr e)) = elim e [ ]

no_held : (n : ℕ) (a : Outcome) (why : Reason) → why ≡ reason n → a ≡ no → Holds (answer_conditions n a) why
no_held n a why w e = inl (put why (reason n) (is_no a) w (ap is_no e))

missing_held : (n : ℕ) (a : Outcome) (name : List ℕ) (why : Reason) → why ≡ class_missing name → a ≡ missing name → Holds (answer_conditions n a) why
missing_held n a name why w e = subst (λ z. Holds (answer_conditions n z) why) (sym e) (inr (inl (put why (class_missing name) true w refl)))

both_true : (a b : Bool) → a && b ≡ true → (a ≡ true) × (b ≡ true)
both_true true b e = (refl, e)
both_true false b e = cc

and_true : (a b : Bool) → a ≡ true → b ≡ true → a && b ≡ true
and_true a b p q = ap (λ z. z && b) p ∙ q

one_true : (a b : Bool) → a || b ≡ true → (a ≡ true) ⊎ (b ≡ true)
one_true true b e = inl refl
one_true false b e = inr e

or_true : (a b : Bool) → b ≡ true → a || b ≡ true
or_true true b e = refl
or_true false b e = e

not_true : (b : Bool) → not b ≡ true → b ≡ false
not_true true e = cc
not_true false e = refl

none_there : {A : Type 0} (o : Option A) → is_none o ≡ true → o ≡ None
none_there None e = refl
none_there (Some x) e = cc

nowhere : {A B : Type 0} (x : A) → None ≡ Some x → B
nowhere x e = cc

module _ (classes : List ClassFact) (m : Method Act) (frames : Frames) where
  -- ---- targets

  record TargetHeld (f : FrameFact) (ts : List ℤ) (why : Reason) : Type 0 where
    target : ℤ
    among : IsAmong target ts
    here : Holds (one_target classes (declared_at frames target) f) why

  targets_held : (f : FrameFact) (ts : List ℤ) (why : Reason) → Holds (target_conditions classes frames f ts) why → TargetHeld f ts why
  targets_held f [] why h = elim h [ ]
  targets_held f (t ∷ ts) why h = by (holds_apart (one_target classes (declared_at frames t) f) (target_conditions classes frames f ts) why h) (λ k. targets_held f ts why k)
    where
      by : Holds (one_target classes (declared_at frames t) f) why ⊎ Holds (target_conditions classes frames f ts) why → (Holds (target_conditions classes frames f ts) why → TargetHeld f ts why) → TargetHeld f (t ∷ ts) why
      by (inl x) rec = record { target = t; among = inl refl; here = x }
      by (inr x) rec = let y = rec x in record { target = y.target; among = inr y.among; here = y.here }

  held_target : (f : FrameFact) (ts : List ℤ) (why : Reason) (target : ℤ) → IsAmong target ts → Holds (one_target classes (declared_at frames target) f) why → Holds (target_conditions classes frames f ts) why
  held_target f [] why target i h = elim i [ ]
  held_target f (t ∷ ts) why target (inl i) h =
      holds_front (one_target classes (declared_at frames t) f) (target_conditions classes frames f ts) why (subst (λ z. Holds (one_target classes (declared_at frames z) f) why) i h)
  held_target f (t ∷ ts) why target (inr i) h =
      holds_behind (one_target classes (declared_at frames t) f) (target_conditions classes frames f ts) why (held_target f ts why target i h)

  no_frame_there : (target : ℤ) → ((to : ℕ) → target ≡ pos to → HasNoFrame frames to) → declared_at frames target ≡ None
  no_frame_there (negsuc k) none = refl
  no_frame_there (pos to) none = by (at_offset frames to) refl
    where
      by : (o : Option FrameFact) → at_offset frames to ≡ o → at_offset frames to ≡ None
      by None e = e
      by (Some g) e = absurd (none to refl g e)

  -- ---- handlers

  record HandlerHeld (at : ℕ) (f : FrameFact) (es : List ExceptionEntry) (why : Reason) : Type 0 where
    e : ExceptionEntry
    among : IsAmong e es
    covered : covers e at ≡ true
    here : Holds (one_handler classes (at_offset frames e.handler) (caught_frame e f)) why

  abbrev asked : FrameFact → ExceptionEntry → Bool → Conditions
  asked f e covered = if covered then one_handler classes (at_offset frames e.handler) (caught_frame e f) else []

  handlers_held : (at : ℕ) (f : FrameFact) (es : List ExceptionEntry) (why : Reason) → Holds (handler_conditions classes frames at f es) why → HandlerHeld at f es why
  handlers_held at f [] why h = elim h [ ]
  handlers_held at f (x ∷ es) why h = by (holds_apart (asked f x (covers x at)) (handler_conditions classes frames at f es) why h) (λ k. handlers_held at f es why k)
    where
      first : (b : Bool) → covers x at ≡ b → Holds (asked f x b) why → HandlerHeld at f (x ∷ es) why
      first true c k = record { e = x; among = inl refl; covered = c; here = k }
      first false c k = elim k [ ]

      by : Holds (asked f x (covers x at)) why ⊎ Holds (handler_conditions classes frames at f es) why → (Holds (handler_conditions classes frames at f es) why → HandlerHeld at f es why) → HandlerHeld at f (x ∷ es) why
      by (inl k) rec = first (covers x at) refl k
      by (inr k) rec = let y = rec k in record { e = y.e; among = inr y.among; covered = y.covered; here = y.here }

  held_handler : (at : ℕ) (f : FrameFact) (es : List ExceptionEntry) (why : Reason) (e : ExceptionEntry) → IsAmong e es → covers e at ≡ true
      → Holds (one_handler classes (at_offset frames e.handler) (caught_frame e f)) why → Holds (handler_conditions classes frames at f es) why
  held_handler at f [] why e i c h = elim i [ ]
  held_handler at f (x ∷ es) why e (inl i) c h =
      let here : Holds (asked f x true) why = subst (λ z. Holds (one_handler classes (at_offset frames z.handler) (caught_frame z f)) why) i h in
      let covered : covers x at ≡ true = ap (λ z. covers z at) (sym i) ∙ c in
      holds_front (asked f x (covers x at)) (handler_conditions classes frames at f es) why (subst (λ z. Holds (asked f x z) why) (sym covered) here)
  held_handler at f (x ∷ es) why e (inr i) c h = holds_behind (asked f x (covers x at)) (handler_conditions classes frames at f es) why (held_handler at f es why e i c h)

  -- ---- what is covered

  covering : (at : ℕ) (es : List ExceptionEntry) → is_covered es at ≡ true → (e : ExceptionEntry) × IsAmong e es × (covers e at ≡ true)
  covering at [] h = cc
  covering at (x ∷ es) h = by (one_true (covers x at) (is_covered es at) h) (λ k. covering at es k)
    where
      by : (covers x at ≡ true) ⊎ (is_covered es at ≡ true) → (is_covered es at ≡ true → (e : ExceptionEntry) × IsAmong e es × (covers e at ≡ true)) → (e : ExceptionEntry) × IsAmong e (x ∷ es) × (covers e at ≡ true)
      by (inl k) rec = (x, inl refl, k)
      by (inr k) rec = let y = rec k in (y.0, inr y.1, y.2)

  covered_by : (at : ℕ) (es : List ExceptionEntry) (e : ExceptionEntry) → IsAmong e es → covers e at ≡ true → is_covered es at ≡ true
  covered_by at [] e i c = elim i [ ]
  covered_by at (x ∷ es) e (inl i) c = ap (λ z. z || is_covered es at) (ap (λ z. covers z at) (sym i) ∙ c)
  covered_by at (x ∷ es) e (inr i) c = or_true (covers x at) (is_covered es at) (covered_by at es e i c)

  -- ---- an instruction

  module _ (at : ℕ) (act : Act) (p : TypingRule) (next : Option ℕ) (f : FrameFact) (why : Reason) where
    abbrev Broken : Type 0
    Broken = Breaks classes m frames at act p next f why

    abbrev behind : FrameFact
    behind = after m at p f

    abbrev last : Conditions
    last = (reason 71, falls p && is_none next) ∷ (reason 75, constructs_own p f && is_covered m.exceptions at) ∷ []

    abbrev at_handlers : Conditions
    at_handlers = handler_conditions classes frames at f m.exceptions

    abbrev on_member : Conditions
    on_member = member_conditions classes m act f

    abbrev at_targets : Conditions
    at_targets = target_conditions classes frames behind (targets at p)

    target_broken : (t : Target at p) (o : Option FrameFact) → declared_at frames t.target ≡ o → Holds (one_target classes o behind) why → Broken
    target_broken t None d (inl e) =
        no_frame_at_target (held why (reason 67) true e).0 t (λ to q g h. nowhere g (sym d ∙ ap (declared_at frames) q ∙ h))
    target_broken t None d (inr e) = elim e [ ]
    target_broken t (Some g) d h = by t.target refl (answer_held 68 (frame_answer classes behind g) why h)
      where
        meets : (to : ℕ) → t.target ≡ pos to → (a : Outcome) → frame_answer classes behind g ≡ a → Meets classes frames behind to a
        meets to q a e = record { declared = g; here = sym (ap (declared_at frames) q) ∙ d; told = e }

        by : (z : ℤ) → t.target ≡ z → IsAnswered 68 (frame_answer classes behind g) why → Broken
        by (negsuc k) q x = nowhere g (sym (ap (declared_at frames) q) ∙ d)
        by (pos to) q (inl x) = not_assignable_at_target x.0 t to q (meets to q no x.1)
        by (pos to) q (inr x) = missing_at_target x.0 x.1 t to q (meets to q (missing x.0) x.2)

    handler_broken : (c : Covering m at) (o : Option FrameFact) → at_offset frames c.e.handler ≡ o → Holds (one_handler classes o (caught_frame c.e f)) why → Broken
    handler_broken c None d (inl e) = no_frame_at_handler (held why (reason 73) true e).0 c (λ g h. nowhere g (sym d ∙ h))
    handler_broken c None d (inr e) = elim e [ ]
    handler_broken c (Some g) d h = by (answer_held 73 (frame_answer classes (caught_frame c.e f) g) why h)
      where
        by : IsAnswered 73 (frame_answer classes (caught_frame c.e f) g) why → Broken
        by (inl x) = not_assignable_at_handler x.0 c (record { declared = g; here = d; told = x.1 })
        by (inr x) = missing_at_handler x.0 x.1 c (record { declared = g; here = d; told = x.2 })

    object_broken : (g : Guarded classes m act) (a : Outcome) → object_answer classes m.class (object_beneath g.member f) ≡ a → Holds (object_conditions a) why → Broken
    object_broken g a e h = by (answer_held 82 a why h)
      where
        by : IsAnswered 82 a why → Broken
        by (inl x) = protected_member x.0 g (e ∙ x.1)
        by (inr x) = missing_object x.0 x.1 g (e ∙ x.2)

    use_broken : (o : Option Use) → used_by m act ≡ o → Holds (option_map_or (use_conditions classes m f) o []) why → Broken
    use_broken None d h = elim h [ ]
    use_broken (Some u) d h = by (is_guarded classes m.class u.reference) refl h
      where
        by : (b : Bool) → is_guarded classes m.class u.reference ≡ b
            → Holds (if b then object_conditions (object_answer classes m.class (object_beneath u f)) else []) why → Broken
        by true e k = object_broken (record { member = u; used = d; guarded = e }) (object_answer classes m.class (object_beneath u f)) refl k
        by false e k = elim k [ ]

    interface_broken : (b : Bool) → calls_indirect m act ≡ b → Holds (if b then (reason 86, true) ∷ [] else []) why → Broken
    interface_broken true e (inl h) = not_direct (held why (reason 86) true h).0 e
    interface_broken true e (inr h) = elim h [ ]
    interface_broken false e h = elim h [ ]

    abbrev on_use : Conditions
    on_use = option_map_or (use_conditions classes m f) (used_by m act) []

    member_broken : Holds (interface_conditions m act) why ⊎ Holds on_use why → Broken
    member_broken (inl h) = interface_broken (calls_indirect m act) refl h
    member_broken (inr h) = use_broken (used_by m act) refl h

    last_broken : Holds last why → Broken
    last_broken (inl e) =
        let x = held why (reason 71) (falls p && is_none next) e in
        let y = both_true (falls p) (is_none next) x.1 in
        falls_off x.0 y.0 (none_there next y.1)
    last_broken (inr (inl e)) =
        let x = held why (reason 75) (constructs_own p f && is_covered m.exceptions at) e in
        let y = both_true (constructs_own p f) (is_covered m.exceptions at) x.1 in
        let c = covering at m.exceptions y.1 in
        constructor_covered x.0 y.0 (record { e = c.0; among = c.1; covered = c.2 })
    last_broken (inr (inr e)) = elim e [ ]

    broken_where : Holds (at_conditions classes m frames at act p next f) why → Broken
    broken_where h = first (holds_apart (conditions classes m at p f) (at_targets ++ ((on_member ++ at_handlers) ++ last)) why h)
      where
        fourth : Holds on_member why ⊎ Holds at_handlers why → Broken
        fourth (inl x) = member_broken (holds_apart (interface_conditions m act) on_use why x)
        fourth (inr x) = let y = handlers_held at f m.exceptions why x in handler_broken (record { e = y.e; among = y.among; covered = y.covered }) (at_offset frames y.e.handler) refl y.here

        third : Holds (on_member ++ at_handlers) why ⊎ Holds last why → Broken
        third (inl x) = fourth (holds_apart on_member at_handlers why x)
        third (inr x) = last_broken x

        second : Holds at_targets why ⊎ Holds ((on_member ++ at_handlers) ++ last) why → Broken
        second (inl x) = let y = targets_held behind (targets at p) why x in target_broken (record { target = y.target; among = y.among }) (declared_at frames y.target) refl y.here
        second (inr x) = third (holds_apart (on_member ++ at_handlers) last why x)

        first : Holds (conditions classes m at p f) why ⊎ Holds (at_targets ++ ((on_member ++ at_handlers) ++ last)) why → Broken
        first (inl x) = rule x
        first (inr x) = second (holds_apart at_targets ((on_member ++ at_handlers) ++ last) why x)

    -- ---- and back

    abbrev Told : Type 0
    Told = Holds (at_conditions classes m frames at act p next f) why

    in_targets : Holds at_targets why → Told
    in_targets h =
        holds_behind (conditions classes m at p f) (at_targets ++ ((on_member ++ at_handlers) ++ last)) why
        (holds_front at_targets ((on_member ++ at_handlers) ++ last) why h)

    in_before : Holds (on_member ++ at_handlers) why → Told
    in_before h =
        holds_behind (conditions classes m at p f) (at_targets ++ ((on_member ++ at_handlers) ++ last)) why
        (holds_behind at_targets ((on_member ++ at_handlers) ++ last) why (holds_front (on_member ++ at_handlers) last why h))

    in_member : Holds on_member why → Told
    in_member h = in_before (holds_front on_member at_handlers why h)

    in_handlers : Holds at_handlers why → Told
    in_handlers h = in_before (holds_behind on_member at_handlers why h)

    in_last : Holds last why → Told
    in_last h =
        holds_behind (conditions classes m at p f) (at_targets ++ ((on_member ++ at_handlers) ++ last)) why
        (holds_behind at_targets ((on_member ++ at_handlers) ++ last) why (holds_behind (on_member ++ at_handlers) last why h))

    target_told : (t : Target at p) (to : ℕ) → t.target ≡ pos to → (a : Outcome) → (k : Meets classes frames behind to a)
        → Holds (answer_conditions 68 (frame_answer classes behind k.declared)) why → Told
    target_told t to q a k h =
        let there : declared_at frames t.target ≡ Some k.declared = ap (declared_at frames) q ∙ k.here in
        in_targets (held_target behind (targets at p) why t.target t.among (subst (λ z. Holds (one_target classes z behind) why) (sym there) h))

    handler_told : (c : Covering m at) (a : Outcome) → (k : Meets classes frames (caught_frame c.e f) c.e.handler a)
        → Holds (answer_conditions 73 (frame_answer classes (caught_frame c.e f) k.declared)) why → Told
    handler_told c a k h =
        in_handlers (held_handler at f m.exceptions why c.e c.among c.covered (subst (λ z. Holds (one_handler classes z (caught_frame c.e f)) why) (sym k.here) h))

    unframed_told : (c : Covering m at) (o : Option FrameFact) → at_offset frames c.e.handler ≡ o → HasNoFrame frames c.e.handler → why ≡ reason 73
        → Holds (one_handler classes o (caught_frame c.e f)) why
    unframed_told c None d none w = inl (put why (reason 73) true w refl)
    unframed_told c (Some g) d none w = absurd (none g d)

    member_told : (g : Guarded classes m act) → Holds (object_conditions (object_answer classes m.class (object_beneath g.member f))) why → Told
    member_told g h =
        let asked : Conditions = object_conditions (object_answer classes m.class (object_beneath g.member f)) in
        let one : Holds (if is_guarded classes m.class g.member.reference then asked else []) why = subst (λ b. Holds (if b then asked else []) why) (sym g.guarded) h in
        in_member (holds_behind (interface_conditions m act) on_use why
        (subst (λ (o : Option Use). Holds (option_map_or (use_conditions classes m f) o []) why) (sym g.used) one))

    interface_told : why ≡ reason 86 → calls_indirect m act ≡ true → Told
    interface_told w e =
        let one : Holds ((reason 86, true) ∷ []) why = inl (put why (reason 86) true w refl) in
        in_member (holds_front (interface_conditions m act) on_use why
        (subst (λ b. Holds (if b then (reason 86, true) ∷ [] else []) why) (sym e) one))

    told_where : Broken → Told
    told_where (rule h) = holds_front (conditions classes m at p f) (at_targets ++ ((on_member ++ at_handlers) ++ last)) why h
    told_where (protected_member w g e) = member_told g (no_held 82 (object_answer classes m.class (object_beneath g.member f)) why w e)
    told_where (not_direct w e) = interface_told w e
    told_where (missing_object name w g e) = member_told g (missing_held 82 (object_answer classes m.class (object_beneath g.member f)) name why w e)
    told_where (no_frame_at_target w t none) =
        in_targets (held_target behind (targets at p) why t.target t.among
        (subst (λ z. Holds (one_target classes z behind) why) (sym (no_frame_there t.target none)) (inl (put why (reason 67) true w refl))))
    told_where (not_assignable_at_target w t to q k) = target_told t to q no k (no_held 68 (frame_answer classes behind k.declared) why w k.told)
    told_where (missing_at_target name w t to q k) = target_told t to q (missing name) k (missing_held 68 (frame_answer classes behind k.declared) name why w k.told)
    told_where (no_frame_at_handler w c none) =
        in_handlers (held_handler at f m.exceptions why c.e c.among c.covered (unframed_told c (at_offset frames c.e.handler) refl none w))
    told_where (not_assignable_at_handler w c k) = handler_told c no k (no_held 73 (frame_answer classes (caught_frame c.e f) k.declared) why w k.told)
    told_where (missing_at_handler name w c k) = handler_told c (missing name) k (missing_held 73 (frame_answer classes (caught_frame c.e f) k.declared) name why w k.told)
    told_where (falls_off w b n) = in_last (inl (put why (reason 71) (falls p && is_none next) w (and_true (falls p) (is_none next) b (ap is_none n))))
    told_where (constructor_covered w b c) =
        in_last (inr (inl (put why (reason 75) (constructs_own p f && is_covered m.exceptions at) w
        (and_true (constructs_own p f) (is_covered m.exceptions at) b (covered_by at m.exceptions c.e c.among c.covered)))))

  -- ---- the frame at a start

  some_reason : (a b : Reason) → Some a ≡ Some b → b ≡ a
  some_reason a b e = cc

  module _ (f : FrameFact) (at : ℕ) (why : Reason) where
    answered_at : (g : FrameFact) → at_offset frames at ≡ Some g → (a : Outcome) → frame_answer classes f g ≡ a → least (answer_conditions 69 a) ≡ Some why
        → BreaksAt classes frames true f at why
    answered_at g d yes e h = nowhere why h
    answered_at g d no e h = not_assignable (some_reason (reason 69) why h) refl (record { declared = g; here = d; told = e })
    answered_at g d (missing name) e h = missing_there name (some_reason (class_missing name) why h) refl (record { declared = g; here = d; told = e })

    arrives_broken : (comes : Bool) (o : Option FrameFact) → at_offset frames at ≡ o → entry classes comes f o ≡ Some why → BreaksAt classes frames comes f at why
    arrives_broken true None d h = nowhere why h
    arrives_broken true (Some g) d h = answered_at g d (frame_answer classes f g) refl h
    arrives_broken false None d h = no_frame (some_reason (reason 70) why h) refl (λ g k. nowhere g (sym d ∙ k))
    arrives_broken false (Some g) d h = nowhere why h

    met : (comes : Bool) → comes ≡ true → (a : Outcome) (k : Meets classes frames f at a) → (r : Reason) → least (answer_conditions 69 a) ≡ Some r → why ≡ r
        → entry classes comes f (at_offset frames at) ≡ Some why
    met comes c a k r e w =
        ap (λ b. entry classes b f (at_offset frames at)) c ∙ ap (entry classes true f) k.here ∙ ap (λ z. least (answer_conditions 69 z)) k.told ∙ e ∙ ap (λ z. Some z) (sym w)

    not_declared : (o : Option FrameFact) → at_offset frames at ≡ o → HasNoFrame frames at → entry classes false f o ≡ Some (reason 70)
    not_declared None d none = refl
    not_declared (Some g) d none = absurd (none g d)

    arrival_told : (comes : Bool) → BreaksAt classes frames comes f at why → entry classes comes f (at_offset frames at) ≡ Some why
    arrival_told comes (not_assignable w c k) = met comes c no k (reason 69) refl w
    arrival_told comes (missing_there name w c k) = met comes c (missing name) k (class_missing name) refl w
    arrival_told comes (no_frame w c none) =
        ap (λ b. entry classes b f (at_offset frames at)) c ∙ not_declared (at_offset frames at) refl none ∙ ap (λ z. Some z) (sym w)

  -- ---- an entry of the exception table

  is_there : {A : Type 0} (code : List (ℕ × A)) (at : ℕ) → has_offset code at ≡ false → IsStart code at → ⊥
  is_there code at e s = true_false (sym (ap is_some s.here) ∙ e)

  not_there : {A : Type 0} (code : List (ℕ × A)) (at : ℕ) → (IsStart code at → ⊥) → has_offset code at ≡ false
  not_there {A} code at none = by (at_offset code at) refl
    where
      by : (o : Option A) → at_offset code at ≡ o → is_some (at_offset code at) ≡ false
      by None e = ap is_some e
      by (Some x) e = absurd (none (record { what = x; here = e }))

  no_end_there : (to : ℕ) → is_end m to ≡ false → IsStart m.code to ⊎ (to ≡ m.code_length) → ⊥
  no_end_there to e (inl s) = true_false (sym (ap (λ z. z || nat_eq to m.code_length) (ap is_some s.here)) ∙ e)
  no_end_there to e (inr q) = true_false (sym (or_true (has_offset m.code to) (nat_eq to m.code_length) (eq-eqb to m.code_length q)) ∙ e)

  end_not_there : (to : ℕ) → (IsStart m.code to ⊎ (to ≡ m.code_length) → ⊥) → is_end m to ≡ false
  end_not_there to none =
      ap (λ z. z || nat_eq to m.code_length) (not_there m.code to (λ s. none (inl s))) ∙ other (nat_eq to m.code_length) refl
    where
      other : (b : Bool) → nat_eq to m.code_length ≡ b → nat_eq to m.code_length ≡ false
      other true e = absurd (none (inr (eqb-true to m.code_length e)))
      other false e = e

  module _ (e : ExceptionEntry) (why : Reason) where
    abbrev answer : Outcome
    answer = type_answer classes (to_reference e.caught) (class throwable_name)

    entry_broken : Holds (table_conditions classes m frames e) why → BreaksEntry classes m frames e why
    entry_broken (inl h) =
        let x = held why (reason 72) (not (nat_lt e.from e.to)) h in
        covers_nothing x.0 (ltb-false e.from e.to (not_true (nat_lt e.from e.to) x.1))
    entry_broken (inr (inl h)) =
        let x = held why (reason 72) (not (has_offset m.code e.from)) h in
        no_start x.0 (is_there m.code e.from (not_true (has_offset m.code e.from) x.1))
    entry_broken (inr (inr (inl h))) =
        let x = held why (reason 72) (not (is_end m e.to)) h in
        no_end x.0 (no_end_there e.to (not_true (is_end m e.to) x.1))
    entry_broken (inr (inr (inr (inl h)))) =
        let x = held why (reason 72) (not (has_offset m.code e.handler)) h in
        no_handler x.0 (is_there m.code e.handler (not_true (has_offset m.code e.handler) x.1))
    entry_broken (inr (inr (inr (inr (inl h))))) =
        let x = held why (reason 72) (not (has_offset frames e.handler)) h in
        no_handler_frame x.0 (λ g k. is_there frames e.handler (not_true (has_offset frames e.handler) x.1) (record { what = g; here = k }))
    entry_broken (inr (inr (inr (inr (inr h))))) = by (answer_held 72 answer why h)
      where
        by : IsAnswered 72 answer why → BreaksEntry classes m frames e why
        by (inl x) = no_throwable x.0 x.1
        by (inr x) = missing_class x.0 x.1 x.2

    negated : (b : Bool) → why ≡ reason 72 → b ≡ false → ◌≡◌ {A = Condition} (why, true) (reason 72, not b)
    negated b w q = put why (reason 72) (not b) w (ap not q)

    entry_told : BreaksEntry classes m frames e why → Holds (table_conditions classes m frames e) why
    entry_told (covers_nothing w le) = inl (negated (nat_lt e.from e.to) w (le-ltb e.from e.to le))
    entry_told (no_start w none) = inr (inl (negated (has_offset m.code e.from) w (not_there m.code e.from none)))
    entry_told (no_end w none) = inr (inr (inl (negated (is_end m e.to) w (end_not_there e.to none))))
    entry_told (no_handler w none) = inr (inr (inr (inl (negated (has_offset m.code e.handler) w (not_there m.code e.handler none)))))
    entry_told (no_handler_frame w none) =
        inr (inr (inr (inr (inl (negated (has_offset frames e.handler) w (not_there frames e.handler (λ s. none s.what s.here)))))))
    entry_told (no_throwable w q) = inr (inr (inr (inr (inr (no_held 72 answer why w q)))))
    entry_told (missing_class name w q) = inr (inr (inr (inr (inr (missing_held 72 answer name why w q)))))

  fields : AreFields classes m frames
  fields = record {
    instructions = λ at act p next f why. (broken_where at act p next f why, told_where at act p next f why);
    arrivals = λ comes f at why. (arrives_broken f at why comes (at_offset frames at) refl, arrival_told f at why comes);
    entries = λ e why. (entry_broken e why, entry_told e why);
  }

pub conditions_are_fields : ConditionsAreFields
conditions_are_fields classes m frames = fields classes m frames

-- ---- refusals

module _ (typing_rule : TypingRules) (classes : List ClassFact) (m : Method Act) (at : ℕ) (why : Reason) where
  with_declared : (frames : Frames) → BreaksTable classes m frames at why ⊎ BreaksCode typing_rule classes m frames at why → BreaksDeclared typing_rule classes m frames at why
  with_declared frames (inl x) = at_entry (record {
    at_zero = x.at_zero;
    front = x.front;
    e = x.broken;
    others = x.others;
    parts = x.parts;
    sound = x.sound;
    broken = least_by (Holds (table_conditions classes m frames x.broken)) (BreaksEntry classes m frames x.broken) why ((fields classes m frames).entries x.broken) (least_held (table_conditions classes m frames x.broken) why x.told);
  })
  with_declared frames (inr y) = by y.broken
    where
      by : BreaksFirst classes m frames at why ⊎ (BreaksFrame typing_rule classes m frames at why ⊎ BreaksRule typing_rule classes m frames at why) → BreaksDeclared typing_rule classes m frames at why
      by (inl x) = at_beginning x.at_zero (((fields classes m frames).arrivals true (initial_frame m) 0 why).0 x.told)
      by (inr (inl x)) =
          let p : TypingRule = typing_rule m x.reached.act in
          let f : FrameFact = x.reached.table x.before in
          at_frame (record {
            before = x.before;
            reached = x.reached;
            next = x.next;
            fine = λ other b. none_held (at_conditions classes m frames x.before x.reached.act p (Some at) f) other x.fine (((fields classes m frames).instructions x.before x.reached.act p (Some at) f other).1 b);
            broken = ((fields classes m frames).arrivals (falls p) (after m x.before p f) at why).0 x.told;
          })
      by (inr (inr x)) =
          let p : TypingRule = typing_rule m x.reached.act in
          let f : FrameFact = x.reached.table at in
          at_instruction (record {
            reached = x.reached;
            broken = least_by (Holds (at_conditions classes m frames at x.reached.act p (next_offset m.code at) f)) (Breaks classes m frames at x.reached.act p (next_offset m.code at) f) why ((fields classes m frames).instructions at x.reached.act p (next_offset m.code at) f) (least_held (at_conditions classes m frames at x.reached.act p (next_offset m.code at) f) why x.told);
          })

pub refused_breaks : RefusedBreaks
refused_breaks typing_rule classes m rise begins at why v = by (refused_why typing_rule classes m rise begins at why v)
  where
    by : HasNoRoom m at why ⊎ BreaksWithFrames typing_rule classes m at why → BreaksMethod typing_rule classes m at why
    by (inl x) = no_room x.at_zero x.told x.narrow
    by (inr x) = with_frames x.1 x.2 (with_declared typing_rule classes m at why x.1 x.3)

pub map_refused_breaks : MapRefusedBreaks
map_refused_breaks typing_rule classes m why v = (ap told_of v, ((map_refused_where typing_rule classes m why).0 v).1)
