-- Lists of conditions of which none holds.
use Rattle.std.proofs.Common.{◌≡◌, ℕ, ℤ, pos, negsuc, Bool, true, false, ◌&&◌, ◌||◌, is_none, List, [], ◌∷◌, ◌++◌, Option, Some, None, refl, sym, ◌∙◌, ap, subst, inl, inr, if◌then◌else◌}
use Rattle.classfile.specs.Methods.{Method, ExceptionEntry, covers}
use Rattle.hierarchy.specs.Class.{ClassFact}
use Rattle.hierarchy.specs.Answer.{Outcome, yes, no, missing}
use Rattle.insn.specs.Meanings.{Act}
use Rattle.insn.specs.Offsets.{at_offset, IsAmong}
use Rattle.frames.specs.FrameFact.{FrameFact}
use Rattle.frames.specs.FrameAssignable.{frame_answer}
use Rattle.frames.specs.Conditions.{Reason, Conditions, NoneHolds, least}
use Rattle.rules.specs.TypingRules.{TypingRule, falls, targets}
use Rattle.rules.specs.After.{after}
use Rattle.rules.specs.Rules.{conditions, constructs_own}
use Rattle.rules.specs.Protected.{member_conditions}
use Rattle.verify.specs.TypeSafety.{Frames, LeadsTo, LeadsToTarget, caught_frame}
use Rattle.verify.specs.Verdict.{Verdict, verified, refused_or, answer_conditions, declared_at, one_target, target_conditions, one_handler, handler_conditions, is_covered, before_conditions, at_conditions}

pub none_told : (cs : Conditions) → NoneHolds cs → least cs ≡ None
none_told [] n = refl
none_told (c ∷ cs) n = rw (n.0) (none_told cs n.1)

pub none_apart : (cs ds : Conditions) → NoneHolds (cs ++ ds) → NoneHolds cs × NoneHolds ds
none_apart [] ds n = (tt, n)
none_apart (c ∷ cs) ds n = let x = none_apart cs ds n.1 in ((n.0, x.0), x.1)

pub none_together : (cs ds : Conditions) → NoneHolds cs → NoneHolds ds → NoneHolds (cs ++ ds)
none_together [] ds a b = b
none_together (c ∷ cs) ds a b = (a.0, none_together cs ds a.1 b)

pub not_refused : (o : Option Reason) (at : ℕ) (rest : Verdict) → refused_or o at rest ≡ verified → (o ≡ None) × (rest ≡ verified)
not_refused None at rest e = (refl, e)
not_refused (Some why) at rest e = cc

pub answer_yes : (n : ℕ) (a : Outcome) → NoneHolds (answer_conditions n a) → a ≡ yes
answer_yes n yes h = refl
answer_yes n no h = let e : true ≡ false = h.0 in cc
answer_yes n (missing name) h = let e : true ≡ false = h.1.0 in cc

pub yes_none : (n : ℕ) (a : Outcome) → a ≡ yes → NoneHolds (answer_conditions n a)
yes_none n yes e = (refl, (refl, tt))
yes_none n no e = cc
yes_none n (missing name) e = cc

not_both : (a b : Bool) → a && b ≡ false → a ≡ true → b ≡ false
not_both true b e t = e
not_both false b e t = cc

both_not : (a b : Bool) → (a ≡ true → b ≡ false) → a && b ≡ false
both_not true b f = f refl
both_not false b f = refl

module _ (classes : List ClassFact) (m : Method Act) (frames : Frames) where
  -- the conditions on an instruction in a frame, except those on the frame at the next start
  pub record IsFine (at : ℕ) (act : Act) (p : TypingRule) (f : FrameFact) : Type 0 where
    pub rule : NoneHolds (conditions classes m at p f)
    pub protected : NoneHolds (member_conditions classes m act f)
    pub leads : (target : ℤ) → IsAmong target (targets at p) → LeadsToTarget classes frames (after m at p f) target
    pub handled : (e : ExceptionEntry) → IsAmong e m.exceptions → covers e at ≡ true → LeadsTo classes frames (caught_frame e f) e.handler
    pub uncovered : constructs_own p f ≡ true → (e : ExceptionEntry) → IsAmong e m.exceptions → covers e at ≡ false

  -- ---- targets

  target_leads : (f : FrameFact) (target : ℤ) (o : Option FrameFact) → declared_at frames target ≡ o → NoneHolds (one_target classes o f) → LeadsToTarget classes frames f target
  target_leads f target None d n = let e : true ≡ false = n.0 in cc
  target_leads f (pos at) (Some g) d n = (at, refl, record { declared = g; here = d; assignable = answer_yes 68 (frame_answer classes f g) n })
  target_leads f (negsuc k) (Some g) d n = cc

  targets_lead : (f : FrameFact) (ts : List ℤ) → NoneHolds (target_conditions classes frames f ts) → (target : ℤ) → IsAmong target ts → LeadsToTarget classes frames f target
  targets_lead f [] n target i = absurd i
  targets_lead f (t ∷ ts) n target (inl i) =
      subst (λ z. LeadsToTarget classes frames f z) (sym i) (target_leads f t (declared_at frames t) refl (none_apart (one_target classes (declared_at frames t) f) (target_conditions classes frames f ts) n).0)
  targets_lead f (t ∷ ts) n target (inr i) = targets_lead f ts (none_apart (one_target classes (declared_at frames t) f) (target_conditions classes frames f ts) n).1 target i

  leads_none : (f : FrameFact) (target : ℤ) → LeadsToTarget classes frames f target → NoneHolds (one_target classes (declared_at frames target) f)
  leads_none f target l =
      let there : declared_at frames target ≡ Some l.2.declared = ap (declared_at frames) l.1 ∙ l.2.here in
      subst (λ z. NoneHolds (one_target classes z f)) (sym there) (yes_none 68 (frame_answer classes f l.2.declared) l.2.assignable)

  lead_none : (f : FrameFact) (ts : List ℤ) → ((target : ℤ) → IsAmong target ts → LeadsToTarget classes frames f target) → NoneHolds (target_conditions classes frames f ts)
  lead_none f [] l = tt
  lead_none f (t ∷ ts) l =
      none_together (one_target classes (declared_at frames t) f) (target_conditions classes frames f ts) (leads_none f t (l t (inl refl))) (lead_none f ts (λ q i. l q (inr i)))

  -- ---- handlers

  abbrev asked : ℕ → FrameFact → ExceptionEntry → Bool → Conditions
  asked at f e covered = if covered then one_handler classes (at_offset frames e.handler) (caught_frame e f) else []

  handler_leads : (at : ℕ) (f : FrameFact) (o : Option FrameFact) → at_offset frames at ≡ o → NoneHolds (one_handler classes o f) → LeadsTo classes frames f at
  handler_leads at f None d n = let e : true ≡ false = n.0 in cc
  handler_leads at f (Some g) d n = record { declared = g; here = d; assignable = answer_yes 73 (frame_answer classes f g) n }

  handlers_lead : (at : ℕ) (f : FrameFact) (es : List ExceptionEntry) → NoneHolds (handler_conditions classes frames at f es) → (e : ExceptionEntry) → IsAmong e es → covers e at ≡ true → LeadsTo classes frames (caught_frame e f) e.handler
  handlers_lead at f [] n e i c = absurd i
  handlers_lead at f (x ∷ es) n e (inl i) c =
      let covered : covers x at ≡ true = ap (λ z. covers z at) (sym i) ∙ c in
      let here : NoneHolds (asked at f x (covers x at)) = (none_apart (asked at f x (covers x at)) (handler_conditions classes frames at f es) n).0 in
      subst (λ z. LeadsTo classes frames (caught_frame z f) z.handler) (sym i)
      (handler_leads x.handler (caught_frame x f) (at_offset frames x.handler) refl (subst (λ z. NoneHolds (asked at f x z)) covered here))
  handlers_lead at f (x ∷ es) n e (inr i) c = handlers_lead at f es (none_apart (asked at f x (covers x at)) (handler_conditions classes frames at f es) n).1 e i c

  handler_none : (at : ℕ) (f : FrameFact) (e : ExceptionEntry) (covered : Bool) → (covered ≡ true → LeadsTo classes frames (caught_frame e f) e.handler) → NoneHolds (asked at f e covered)
  handler_none at f e false l = tt
  handler_none at f e true l =
      let x = l refl in
      subst (λ z. NoneHolds (one_handler classes z (caught_frame e f))) (sym x.here) (yes_none 73 (frame_answer classes (caught_frame e f) x.declared) x.assignable)

  handlers_none : (at : ℕ) (f : FrameFact) (es : List ExceptionEntry) → ((e : ExceptionEntry) → IsAmong e es → covers e at ≡ true → LeadsTo classes frames (caught_frame e f) e.handler) → NoneHolds (handler_conditions classes frames at f es)
  handlers_none at f [] l = tt
  handlers_none at f (x ∷ es) l =
      none_together (asked at f x (covers x at)) (handler_conditions classes frames at f es) (handler_none at f x (covers x at) (l x (inl refl))) (handlers_none at f es (λ e i. l e (inr i)))

  -- ---- what is covered

  neither : (a b : Bool) → a || b ≡ false → (a ≡ false) × (b ≡ false)
  neither true b e = cc
  neither false b e = (refl, e)

  none_covers : (at : ℕ) (es : List ExceptionEntry) → is_covered es at ≡ false → (e : ExceptionEntry) → IsAmong e es → covers e at ≡ false
  none_covers at [] n e i = absurd i
  none_covers at (x ∷ es) n e (inl i) = ap (λ z. covers z at) i ∙ (neither (covers x at) (is_covered es at) n).0
  none_covers at (x ∷ es) n e (inr i) = none_covers at es (neither (covers x at) (is_covered es at) n).1 e i

  not_covered : (at : ℕ) (es : List ExceptionEntry) → ((e : ExceptionEntry) → IsAmong e es → covers e at ≡ false) → is_covered es at ≡ false
  not_covered at [] n = refl
  not_covered at (x ∷ es) n = rw (n x (inl refl)) (not_covered at es (λ e i. n e (inr i)))

  -- ---- the instruction

  there_is : (b : Bool) (next : Option ℕ) → b && is_none next ≡ false → b ≡ true → (q : ℕ) × (next ≡ Some q)
  there_is true None e t = cc
  there_is true (Some q) e t = (q, refl)
  there_is false next e t = cc

  is_there : (b : Bool) (next : Option ℕ) → (b ≡ true → (q : ℕ) × (next ≡ Some q)) → b && is_none next ≡ false
  is_there false next f = refl
  is_there true next f = ap is_none (f refl).1

  module _ (at : ℕ) (act : Act) (p : TypingRule) (next : Option ℕ) (f : FrameFact) where
    pub fine_of : NoneHolds (at_conditions classes m frames at act p next f) → IsFine at act p f × (falls p ≡ true → (q : ℕ) × (next ≡ Some q))
    fine_of n =
        let a = none_apart (conditions classes m at p f) _ n in
        let b = none_apart (target_conditions classes frames (after m at p f) (targets at p)) _ a.1 in
        let c = none_apart (before_conditions classes m frames at act f) _ b.1 in
        let d = none_apart (member_conditions classes m act f) (handler_conditions classes frames at f m.exceptions) c.0 in (
          record {
            rule = a.0;
            protected = d.0;
            leads = targets_lead (after m at p f) (targets at p) b.0;
            handled = handlers_lead at f m.exceptions d.1;
            uncovered = λ own. none_covers at m.exceptions (not_both (constructs_own p f) (is_covered m.exceptions at) c.1.1.0 own);
          },
          there_is (falls p) next c.1.0,
        )

    pub of_fine : IsFine at act p f → (falls p ≡ true → (q : ℕ) × (next ≡ Some q)) → NoneHolds (at_conditions classes m frames at act p next f)
    of_fine x there =
        none_together (conditions classes m at p f) _ x.rule
        (none_together (target_conditions classes frames (after m at p f) (targets at p)) _ (lead_none (after m at p f) (targets at p) x.leads)
        (none_together (before_conditions classes m frames at act f) _
        (none_together (member_conditions classes m act f) (handler_conditions classes frames at f m.exceptions) x.protected (handlers_none at f m.exceptions x.handled))
        (is_there (falls p) next there, (both_not (constructs_own p f) (is_covered m.exceptions at) (λ own. not_covered at m.exceptions (x.uncovered own)), tt))))
