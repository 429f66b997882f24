-- Where a pass refuses, the method is type-safe up to there.
use Rattle.std.proofs.Common.{◌≡◌, ◌⊎◌, ℕ, ◌+◌, ◌<◌, ◌≤◌, Bool, true, false, nat_eq, nat_lt, List, [], ◌∷◌, ◌++◌, length, Option, Some, None, Result, Ok, Err, refl, sym, ◌∙◌, ap, subst, inl, inr, arith, if◌then◌else◌, eq-eqb, ne_eqb, ltb-true, ltb-false}
use Rattle.classfile.specs.Methods.{Method, ExceptionEntry}
use Rattle.hierarchy.specs.Class.{ClassFact}
use Rattle.insn.specs.Meanings.{Act}
use Rattle.insn.specs.Offsets.{at_offset, first_offset, next_offset, IsStart, IsAmong, StartsRise}
use Rattle.frames.specs.FrameFact.{FrameFact}
use Rattle.frames.specs.Slots.{in_locals}
use Rattle.frames.specs.Conditions.{Reason, reason, NoneHolds, least}
use Rattle.rules.specs.TypingRules.{falls}
use Rattle.rules.specs.Table.{TypingRules}
use Rattle.rules.specs.After.{after}
use Rattle.verify.specs.InitialFrames.{initial_types, initial_frame}
use Rattle.verify.specs.TypeSafety.{Frames, IsTypeSafeAt, IsSoundEntry}
use Rattle.verify.specs.Verdict.{MapRefusal, Verdict, refused, refused_or, at_conditions, entry, entered, arrives, passes, code_judged, table_conditions, table_judged, with_frames, frames_declared, verdict}
use Rattle.verify.specs.Refusals.{Reaches, BreaksRule, BreaksFrame, BreaksFirst, BreaksTable, HasNoRoom, BreaksCode, BreaksWithFrames}
use Rattle.verify.proofs.Declared.{none_least}
use Rattle.verify.proofs.verdicts.Passing.{IsFineIn, came, own_of, wider, fine_each, wider_head, comes_in}
use Rattle.verify.proofs.Premises.{not_at, rising_apart, first_at_zero, frames_there, sound_of}

-- which part has refused
pub told : (o : Option Reason) (p : ℕ) (rest : Verdict) (at : ℕ) (why : Reason) → refused_or o p rest ≡ refused at why
    → ((o ≡ Some why) × (p ≡ at)) ⊎ ((o ≡ None) × (rest ≡ refused at why))
told None p rest at why e = inr (refl, e)
told (Some w) p rest at why e = let x : w ≡ why = cc in let y : p ≡ at = cc in inl (ap (λ (z : Reason). Some z) x, y)

module _ (typing_rule : TypingRules) (classes : List ClassFact) (m : Method Act) (frames : Frames) where
  -- the refusal is of this instruction, or of the frame after it
  abbrev pub Fails : ℕ → Act → Option ℕ → FrameFact → ℕ → Reason → Type 0
  Fails stop act next f at why =
      ((least (at_conditions classes m frames stop act (typing_rule m act) next f) ≡ Some why) × (stop ≡ at))
      ⊎ ((least (at_conditions classes m frames stop act (typing_rule m act) next f) ≡ None)
      × (next ≡ Some at)
      × (entry classes (falls (typing_rule m act)) (after m stop (typing_rule m act) f) (at_offset frames at) ≡ Some why))

  record IsFineUpTo (cs : List (ℕ × Act)) (f : FrameFact) (at : ℕ) (why : Reason) : Type 0 where
    stop : ℕ
    act : Act
    table : ℕ → FrameFact
    here : at_offset cs stop ≡ Some act
    head : (p : ℕ) → first_offset cs ≡ Some p → table p ≡ f
    each : (p : ℕ) (a : Act) → p < stop → at_offset cs p ≡ Some a → IsFineIn typing_rule classes m frames table cs p a
    own : (g : FrameFact) → at_offset frames stop ≡ Some g → table stop ≡ g
    fails : Fails stop act (next_offset cs stop) (table stop) at why

  at_head : (c : ℕ × Act) (cs : List (ℕ × Act)) (f : FrameFact) (at : ℕ) (why : Reason) → StartsRise c.0 (c ∷ cs) → ((k : FrameFact) → at_offset frames c.0 ≡ Some k → f ≡ k)
      → Fails c.0 c.1 (first_offset cs) f at why → IsFineUpTo (c ∷ cs) f at why
  at_head c cs f at why rise own x = record {
    stop = c.0;
    act = c.1;
    table = λ p. f;
    here = rw (eq-eqb c.0 c.0 refl) refl;
    head = λ p i. refl;
    each = λ p a l e. clash a (sym (not_at c.0 (c ∷ cs) p rise l) ∙ e);
    own = own;
    fails = subst (λ z. Fails c.0 c.1 z f at why) behind x;
  }
    where
      clash : {A : Type 0} (a : Act) → None ≡ Some a → A
      clash a e = cc

      behind : first_offset cs ≡ next_offset (c ∷ cs) c.0
      behind = rw (eq-eqb c.0 c.0 refl) refl

  -- a start is not in front of the first
  module _ (c : ℕ × Act) (cs : List (ℕ × Act)) (f : FrameFact) (at : ℕ) (why : Reason) (apart : at_offset cs c.0 ≡ None) (own : (k : FrameFact) → at_offset frames c.0 ≡ Some k → f ≡ k)
      (fine : least (at_conditions classes m frames c.0 c.1 (typing_rule m c.1) (first_offset cs) f) ≡ None)
      (on : (q : ℕ) → first_offset cs ≡ Some q → (entry classes (falls (typing_rule m c.1)) (after m c.0 (typing_rule m c.1) f) (at_offset frames q) ≡ None)
      × (came typing_rule classes m frames cs (after m c.0 (typing_rule m c.1) f) ≡ entered (after m c.0 (typing_rule m c.1) f) (at_offset frames q)))
      (r : IsFineUpTo cs (came typing_rule classes m frames cs (after m c.0 (typing_rule m c.1) f)) at why) where
    other : nat_eq c.0 r.stop ≡ false
    other = ne_eqb c.0 r.stop (λ q. clash r.act (sym apart ∙ ap (at_offset cs) q ∙ r.here))
      where
        clash : (a : Act) → None ≡ Some a → ⊥
        clash a e = cc

    kept : wider typing_rule classes m frames c cs f apart own fine on r.table r.head r.stop ≡ r.table r.stop
    kept = rw other refl

    next_same : next_offset cs r.stop ≡ next_offset (c ∷ cs) r.stop
    next_same = rw other refl

    further : IsFineUpTo (c ∷ cs) f at why
    further = record {
      stop = r.stop;
      act = r.act;
      table = wider typing_rule classes m frames c cs f apart own fine on r.table r.head;
      here = rw other r.here;
      head = wider_head typing_rule classes m frames c cs f apart own fine on r.table r.head;
      each = λ p a l e. fine_each typing_rule classes m frames c cs f apart own fine on r.table r.head p a (r.each p a l) e;
      own = λ g e. kept ∙ r.own g e;
      fails = subst (λ z. Fails r.stop r.act (next_offset (c ∷ cs) r.stop) z at why) (sym kept) (subst (λ z. Fails r.stop r.act z (r.table r.stop) at why) next_same r.fails);
    }

  arriving : (from : ℕ) (c : ℕ × Act) (cs : List (ℕ × Act)) (f : FrameFact) (at : ℕ) (why : Reason) → StartsRise from (c ∷ cs) → ((k : FrameFact) → at_offset frames c.0 ≡ Some k → f ≡ k)
      → least (at_conditions classes m frames c.0 c.1 (typing_rule m c.1) (first_offset cs) f) ≡ None
      → ((k : FrameFact) → ((p : ℕ) (j : FrameFact) → first_offset cs ≡ Some p → at_offset frames p ≡ Some j → k ≡ j) → passes typing_rule classes m frames cs k ≡ refused at why → IsFineUpTo cs k at why)
      → arrives classes frames cs (falls (typing_rule m c.1)) (after m c.0 (typing_rule m c.1) f) (passes typing_rule classes m frames cs) ≡ refused at why → IsFineUpTo (c ∷ cs) f at why
  arriving from c [] f at why rise own fine rec e = cc
  arriving from c (d ∷ ds) f at why rise own fine rec e =
      by (told (entry classes (falls (typing_rule m c.1)) g (at_offset frames d.0)) d.0 (passes typing_rule classes m frames (d ∷ ds) (entered g (at_offset frames d.0))) at why e)
    where
      g : FrameFact
      g = after m c.0 (typing_rule m c.1) f

      by : ((entry classes (falls (typing_rule m c.1)) g (at_offset frames d.0) ≡ Some why) × (d.0 ≡ at))
          ⊎ ((entry classes (falls (typing_rule m c.1)) g (at_offset frames d.0) ≡ None) × (passes typing_rule classes m frames (d ∷ ds) (entered g (at_offset frames d.0)) ≡ refused at why)) → IsFineUpTo (c ∷ d ∷ ds) f at why
      by (inl x) =
          at_head c (d ∷ ds) f at why (omega arith, rise.1) own
          (inr (fine, ap (λ (z : ℕ). Some z) x.1, subst (λ z. entry classes (falls (typing_rule m c.1)) g (at_offset frames z) ≡ Some why) x.1 x.0))
      by (inr x) =
          further c (d ∷ ds) f at why (rising_apart from (c ∷ d ∷ ds) rise).0 own fine
          (λ q i. let k : d.0 ≡ q = cc in (subst (λ z. entry classes (falls (typing_rule m c.1)) g (at_offset frames z) ≡ None) k x.0, ap (λ z. entered g (at_offset frames z)) k))
          (rec (entered g (at_offset frames d.0)) (λ p k i j. own_of typing_rule classes m frames (d ∷ ds) g p k i j) x.1)

  refusing : (from : ℕ) (cs : List (ℕ × Act)) (f : FrameFact) (at : ℕ) (why : Reason) → StartsRise from cs
      → ((p : ℕ) (k : FrameFact) → first_offset cs ≡ Some p → at_offset frames p ≡ Some k → f ≡ k) → passes typing_rule classes m frames cs f ≡ refused at why → IsFineUpTo cs f at why
  refusing from [] f at why rise own e = cc
  refusing from (c ∷ cs) f at why rise own e =
      by (told (least (at_conditions classes m frames c.0 c.1 (typing_rule m c.1) (first_offset cs) f)) c.0 (arrives classes frames cs (falls (typing_rule m c.1)) (after m c.0 (typing_rule m c.1) f) (passes typing_rule classes m frames cs)) at why e)
      (λ k j. refusing (c.0 + 1) cs k at why rise.1 j)
    where
      by : ((least (at_conditions classes m frames c.0 c.1 (typing_rule m c.1) (first_offset cs) f) ≡ Some why) × (c.0 ≡ at))
          ⊎ ((least (at_conditions classes m frames c.0 c.1 (typing_rule m c.1) (first_offset cs) f) ≡ None) × (arrives classes frames cs (falls (typing_rule m c.1)) (after m c.0 (typing_rule m c.1) f) (passes typing_rule classes m frames cs) ≡ refused at why))
          → ((k : FrameFact) → ((p : ℕ) (j : FrameFact) → first_offset cs ≡ Some p → at_offset frames p ≡ Some j → k ≡ j) → passes typing_rule classes m frames cs k ≡ refused at why → IsFineUpTo cs k at why)
          → IsFineUpTo (c ∷ cs) f at why
      by (inl x) rec = at_head c cs f at why (omega arith, rise.1) (λ k i. own c.0 k refl i) (inl x)
      by (inr x) rec = arriving from c cs f at why rise (λ k i. own c.0 k refl i) x.0 rec x.1

  -- the refusal is of the first frame, or comes from the pass after it
  arrived : (cs : List (ℕ × Act)) (b : Bool) (g : FrameFact) (at : ℕ) (why : Reason) → arrives classes frames cs b g (passes typing_rule classes m frames cs) ≡ refused at why
      → ((first_offset cs ≡ Some at) × (entry classes b g (at_offset frames at) ≡ Some why))
      ⊎ (((q : ℕ) → first_offset cs ≡ Some q → (entry classes b g (at_offset frames q) ≡ None) × (came typing_rule classes m frames cs g ≡ entered g (at_offset frames q)))
      × (passes typing_rule classes m frames cs (came typing_rule classes m frames cs g) ≡ refused at why))
  arrived [] b g at why e = cc
  arrived (c ∷ cs) b g at why e =
      elim (told (entry classes b g (at_offset frames c.0)) c.0 (passes typing_rule classes m frames (c ∷ cs) (entered g (at_offset frames c.0))) at why e) [
        | inl x ↦ inl (ap (λ (z : ℕ). Some z) x.1, subst (λ z. entry classes b g (at_offset frames z) ≡ Some why) x.1 x.0)
        | inr x ↦ inr (λ q i. let k : c.0 ≡ q = cc in (subst (λ z. entry classes b g (at_offset frames z) ≡ None) k x.0, ap (λ z. entered g (at_offset frames z)) k), x.1)
      ]

  -- ---- the whole code

  safe_at : (table : ℕ → FrameFact) (p : ℕ) (act : Act) → IsFineIn typing_rule classes m frames table m.code p act → IsTypeSafeAt classes m frames table p act (typing_rule m act)
  safe_at table p act x = record { rule = x.fine.rule; protected = x.fine.protected; leads = x.fine.leads; next = x.next; alone = x.alone; handled = x.fine.handled; uncovered = x.fine.uncovered }

  module _ (at : ℕ) (why : Reason) (first : first_offset m.code ≡ Some 0)
      (enters : (entry classes true (initial_frame m) (at_offset frames 0) ≡ None) × (came typing_rule classes m frames m.code (initial_frame m) ≡ entered (initial_frame m) (at_offset frames 0)))
      (r : IsFineUpTo m.code (came typing_rule classes m frames m.code (initial_frame m)) at why) where
    declared_before : (p : ℕ) (f : FrameFact) → IsStart m.code p → p ≤ r.stop → at_offset frames p ≡ Some f → r.table p ≡ f
    declared_before p f s l e = by (nat_lt p r.stop) refl
      where
        by : (b : Bool) → nat_lt p r.stop ≡ b → r.table p ≡ f
        by true b = (r.each p s.what (ltb-true p r.stop b) s.here).own f e
        by false b =
            let same_place : p ≡ r.stop = omega (arith, ltb-false p r.stop b, l) in
            ap r.table same_place ∙ r.own f (ap (at_offset frames) (sym same_place) ∙ e)

    abbrev reached : Reaches typing_rule classes m frames r.stop
    reached = record {
      table = r.table;
      safe = record {
        first = comes_in typing_rule classes m frames r.table 0 (initial_frame m) (at_offset frames 0) refl enters.0 (r.head 0 first ∙ enters.1);
        at_declared = declared_before;
        each = λ p a l e. safe_at r.table p a (r.each p a l e);
      };
      act = r.act;
      here = r.here;
    }

    breaks : BreaksFrame typing_rule classes m frames at why ⊎ BreaksRule typing_rule classes m frames at why
    breaks = by r.fails
      where
        by : Fails r.stop r.act (next_offset m.code r.stop) (r.table r.stop) at why → BreaksFrame typing_rule classes m frames at why ⊎ BreaksRule typing_rule classes m frames at why
        by (inl x) = inr (subst (λ z. BreaksRule typing_rule classes m frames z why) x.1 (record { reached = reached; told = x.0 }))
        by (inr x) = inl (record {
          before = r.stop;
          reached = reached;
          next = x.1;
          fine = subst (λ z. NoneHolds (at_conditions classes m frames r.stop r.act (typing_rule m r.act) z (r.table r.stop))) x.1 (none_least (at_conditions classes m frames r.stop r.act (typing_rule m r.act) (next_offset m.code r.stop) (r.table r.stop)) x.0);
          told = x.2;
        })

  code_breaks : (at : ℕ) (why : Reason) → StartsRise 0 m.code → first_offset m.code ≡ Some 0 → code_judged typing_rule classes m frames ≡ refused at why
      → BreaksFirst classes m frames at why ⊎ (BreaksFrame typing_rule classes m frames at why ⊎ BreaksRule typing_rule classes m frames at why)
  code_breaks at why rise first e = by (arrived m.code true (initial_frame m) at why e)
    where
      offset : (a b : ℕ) → Some a ≡ Some b → a ≡ b
      offset a b i = cc

      by : ((first_offset m.code ≡ Some at) × (entry classes true (initial_frame m) (at_offset frames at) ≡ Some why))
          ⊎ (((q : ℕ) → first_offset m.code ≡ Some q → (entry classes true (initial_frame m) (at_offset frames q) ≡ None) × (came typing_rule classes m frames m.code (initial_frame m) ≡ entered (initial_frame m) (at_offset frames q)))
          × (passes typing_rule classes m frames m.code (came typing_rule classes m frames m.code (initial_frame m)) ≡ refused at why))
          → BreaksFirst classes m frames at why ⊎ (BreaksFrame typing_rule classes m frames at why ⊎ BreaksRule typing_rule classes m frames at why)
      by (inl x) =
          let zero_there : at ≡ 0 = offset at 0 (sym x.0 ∙ first) in
          inl (record { at_zero = zero_there; told = subst (λ z. entry classes true (initial_frame m) (at_offset frames z) ≡ Some why) zero_there x.1 })
      by (inr x) =
          inr (breaks at why first (x.0 0 first)
          (refusing 0 m.code (came typing_rule classes m frames m.code (initial_frame m)) at why rise (λ p k i j. own_of typing_rule classes m frames m.code (initial_frame m) p k i j) x.1))

  -- ---- the exception table

  record IsFirstBroken (es : List ExceptionEntry) (at : ℕ) (why : Reason) : Type 0 where
    front : List ExceptionEntry
    broken : ExceptionEntry
    others : List ExceptionEntry
    parts : es ≡ front ++ (broken ∷ others)
    sound : (e : ExceptionEntry) → IsAmong e front → IsSoundEntry classes m frames e
    told : least (table_conditions classes m frames broken) ≡ Some why
    at_zero : at ≡ 0

  sound_with : (x : ExceptionEntry) (es : List ExceptionEntry) → IsSoundEntry classes m frames x → ((e : ExceptionEntry) → IsAmong e es → IsSoundEntry classes m frames e)
      → (e : ExceptionEntry) → IsAmong e (x ∷ es) → IsSoundEntry classes m frames e
  sound_with x es s others e (inl i) = subst (λ z. IsSoundEntry classes m frames z) (sym i) s
  sound_with x es s others e (inr i) = others e i

  table_breaks : (es : List ExceptionEntry) (rest : Verdict) (at : ℕ) (why : Reason) → table_judged classes m frames es rest ≡ refused at why
      → IsFirstBroken es at why ⊎ (((e : ExceptionEntry) → IsAmong e es → IsSoundEntry classes m frames e) × (rest ≡ refused at why))
  table_breaks [] rest at why e = inr (λ x i. absurd i, e)
  table_breaks (x ∷ es) rest at why e =
      by (told (least (table_conditions classes m frames x)) 0 (table_judged classes m frames es rest) at why e) (λ h. table_breaks es rest at why h)
    where
      on : IsSoundEntry classes m frames x → IsFirstBroken es at why ⊎ (((e : ExceptionEntry) → IsAmong e es → IsSoundEntry classes m frames e) × (rest ≡ refused at why))
          → IsFirstBroken (x ∷ es) at why ⊎ (((e : ExceptionEntry) → IsAmong e (x ∷ es) → IsSoundEntry classes m frames e) × (rest ≡ refused at why))
      on s (inl b) = inl (record {
        front = x ∷ b.front;
        broken = b.broken;
        others = b.others;
        parts = ap (λ z. x ∷ z) b.parts;
        sound = sound_with x b.front s b.sound;
        told = b.told;
        at_zero = b.at_zero;
      })
      on s (inr y) = inr (sound_with x es s y.0, y.1)

      by : ((least (table_conditions classes m frames x) ≡ Some why) × (0 ≡ at)) ⊎ ((least (table_conditions classes m frames x) ≡ None) × (table_judged classes m frames es rest ≡ refused at why))
          → (table_judged classes m frames es rest ≡ refused at why → IsFirstBroken es at why ⊎ (((e : ExceptionEntry) → IsAmong e es → IsSoundEntry classes m frames e) × (rest ≡ refused at why)))
          → IsFirstBroken (x ∷ es) at why ⊎ (((e : ExceptionEntry) → IsAmong e (x ∷ es) → IsSoundEntry classes m frames e) × (rest ≡ refused at why))
      by (inl y) rec = inl (record { front = []; broken = x; others = es; parts = refl; sound = λ z i. absurd i; told = y.0; at_zero = sym y.1 })
      by (inr y) rec = on (sound_of classes m frames x (none_least (table_conditions classes m frames x) y.0)) (rec y.1)

  frames_break : (at : ℕ) (why : Reason) → StartsRise 0 m.code → first_offset m.code ≡ Some 0 → table_judged classes m frames m.exceptions (code_judged typing_rule classes m frames) ≡ refused at why
      → BreaksTable classes m frames at why ⊎ BreaksCode typing_rule classes m frames at why
  frames_break at why rise first e =
      elim (table_breaks m.exceptions (code_judged typing_rule classes m frames) at why e) [
        | inl b ↦ inl (record { at_zero = b.at_zero; front = b.front; broken = b.broken; others = b.others; parts = b.parts; sound = b.sound; told = b.told })
        | inr y ↦ inr (record { sound = y.0; broken = code_breaks at why rise first y.1 })
      ]

pub refused_why : (typing_rule : TypingRules) (classes : List ClassFact) (m : Method Act) → StartsRise 0 m.code → IsStart m.code 0 → (at : ℕ) (why : Reason) → verdict typing_rule classes m ≡ refused at why
    → HasNoRoom m at why ⊎ BreaksWithFrames typing_rule classes m at why
refused_why typing_rule classes m rise begins at why v = by (nat_lt m.max_locals (length (in_locals (initial_types m)))) refl v
  where
    same_refusal : (p q : ℕ) (a b : Reason) → refused p a ≡ refused q b → (p ≡ q) × (a ≡ b)
    same_refusal p q a b e = (cc, cc)

    on : length (in_locals (initial_types m)) ≤ m.max_locals → (r : Result Frames MapRefusal) → frames_declared m ≡ r → with_frames typing_rule classes m r ≡ refused at why
        → BreaksWithFrames typing_rule classes m at why
    on fit (Ok frames) r w = (fit, frames, frames_there m frames r, frames_break typing_rule classes m frames at why rise (first_at_zero m.code rise begins) w)
    on fit (Err fault) r w = cc

    by : (b : Bool) → nat_lt m.max_locals (length (in_locals (initial_types m))) ≡ b → (if b then refused 0 (reason 64) else with_frames typing_rule classes m (frames_declared m)) ≡ refused at why
        → HasNoRoom m at why ⊎ BreaksWithFrames typing_rule classes m at why
    by true b w =
        let s = same_refusal 0 at (reason 64) why w in
        inl (record { at_zero = sym s.0; narrow = ltb-true m.max_locals (length (in_locals (initial_types m))) b; told = sym s.1 })
    by false b w = inr (on (ltb-false m.max_locals (length (in_locals (initial_types m))) b) (frames_declared m) refl w)
