-- A pass that refuses nothing makes a table of frames.
use Rattle.std.proofs.Common.{◌≡◌, ℕ, Bool, true, false, nat_eq, List, [], ◌∷◌, Option, Some, None, refl, sym, ◌∙◌, ap, subst, inl, inr, if◌then◌else◌, eq-eqb, eqb-true, ne_eqb}
use Rattle.classfile.specs.Methods.{Method}
use Rattle.hierarchy.specs.Class.{ClassFact}
use Rattle.insn.specs.Meanings.{Act}
use Rattle.insn.specs.Offsets.{at_offset, first_offset, next_offset}
use Rattle.frames.specs.FrameFact.{FrameFact}
use Rattle.frames.specs.FrameAssignable.{frame_answer}
use Rattle.frames.specs.Conditions.{least}
use Rattle.rules.specs.TypingRules.{falls}
use Rattle.rules.specs.Table.{TypingRules}
use Rattle.rules.specs.After.{after}
use Rattle.verify.specs.TypeSafety.{Frames, Comes}
use Rattle.verify.specs.Verdict.{verified, answer_conditions, at_conditions, entry, entered, arrives, passes}
use Rattle.verify.proofs.Declared.{none_least}
use Rattle.verify.proofs.Reasons.{not_refused, answer_yes, IsFine, fine_of}

-- each offset stands once
abbrev pub AreApart : List (ℕ × Act) → Type 0
AreApart [] = Unit {0}
AreApart (c ∷ cs) = (at_offset cs c.0 ≡ None) × AreApart cs

pub at_first : (cs : List (ℕ × Act)) (q : ℕ) → first_offset cs ≡ Some q → (act : Act) × (at_offset cs q ≡ Some act)
at_first [] q e = cc
at_first (c ∷ cs) q e = let p : c.0 ≡ q = cc in (c.1, rw (eq-eqb c.0 q p) refl)

later : (c : ℕ × Act) (cs : List (ℕ × Act)) (q : ℕ) → ((act : Act) × (at_offset cs q ≡ Some act)) → (act : Act) × (at_offset (c ∷ cs) q ≡ Some act)
later c cs q r = by (nat_eq c.0 q)
  where
    by : (b : Bool) → (act : Act) × ((if b then Some c.1 else at_offset cs q) ≡ Some act)
    by true = (c.1, refl)
    by false = r

at_next : (cs : List (ℕ × Act)) (p q : ℕ) → next_offset cs p ≡ Some q → (act : Act) × (at_offset cs q ≡ Some act)
at_next [] p q e = cc
at_next (c ∷ cs) p q e = by (λ k. at_next cs p q k) (nat_eq c.0 p) e
  where
    by : (next_offset cs p ≡ Some q → (act : Act) × (at_offset cs q ≡ Some act)) → (b : Bool) → (if b then first_offset cs else next_offset cs p) ≡ Some q → (act : Act) × (at_offset (c ∷ cs) q ≡ Some act)
    by rec true k = later c cs q (at_first cs q k)
    by rec false k = later c cs q (rec k)

module _ (typing_rule : TypingRules) (classes : List ClassFact) (m : Method Act) (frames : Frames) where
  -- a frame that comes to a start, where the table has the frame that goes on there
  pub comes_in : (table : ℕ → FrameFact) (q : ℕ) (f : FrameFact) (o : Option FrameFact) → at_offset frames q ≡ o → entry classes true f o ≡ None → table q ≡ entered f o → Comes classes frames table f q
  comes_in table q f None i e t = inl t
  comes_in table q f (Some g) i e t = inr (record { declared = g; here = i; assignable = answer_yes 69 (frame_answer classes f g) (none_least (answer_conditions 69 (frame_answer classes f g)) e) })

  declared_alone : (f : FrameFact) (o : Option FrameFact) → entry classes false f o ≡ None → (g : FrameFact) × (o ≡ Some g)
  declared_alone f None e = cc
  declared_alone f (Some g) e = (g, refl)

  -- an instruction among these is fine in the table's frame, and what comes after it is right
  pub record IsFineIn (table : ℕ → FrameFact) (cs : List (ℕ × Act)) (at : ℕ) (act : Act) : Type 0 where
    pub fine : IsFine classes m frames at act (typing_rule m act) (table at)
    pub next : falls (typing_rule m act) ≡ true → (to : ℕ) × (next_offset cs at ≡ Some to) × Comes classes frames table (after m at (typing_rule m act) (table at)) to
    pub alone : falls (typing_rule m act) ≡ false → (to : ℕ) → next_offset cs at ≡ Some to → (f : FrameFact) × (at_offset frames to ≡ Some f)
    pub own : (g : FrameFact) → at_offset frames at ≡ Some g → table at ≡ g

  pub record HasTable (cs : List (ℕ × Act)) (f : FrameFact) : Type 0 where
    pub table : ℕ → FrameFact
    pub head : (at : ℕ) → first_offset cs ≡ Some at → table at ≡ f
    pub each : (at : ℕ) (act : Act) → at_offset cs at ≡ Some act → IsFineIn table cs at act

  abbrev pub came : List (ℕ × Act) → FrameFact → FrameFact
  came [] g = g
  came (c ∷ cs) g = entered g (at_offset frames c.0)

  pub tail_of : (cs : List (ℕ × Act)) (b : Bool) (g : FrameFact) → arrives classes frames cs b g (passes typing_rule classes m frames cs) ≡ verified → passes typing_rule classes m frames cs (came cs g) ≡ verified
  tail_of [] b g e = refl
  tail_of (c ∷ cs) b g e = (not_refused (entry classes b g (at_offset frames c.0)) c.0 (passes typing_rule classes m frames (c ∷ cs) (entered g (at_offset frames c.0))) e).1

  pub enters_of : (cs : List (ℕ × Act)) (b : Bool) (g : FrameFact) (q : ℕ) → arrives classes frames cs b g (passes typing_rule classes m frames cs) ≡ verified → first_offset cs ≡ Some q
      → (entry classes b g (at_offset frames q) ≡ None) × (came cs g ≡ entered g (at_offset frames q))
  enters_of [] b g q e i = cc
  enters_of (c ∷ cs) b g q e i =
      let k : c.0 ≡ q = cc in (
        subst (λ z. entry classes b g (at_offset frames z) ≡ None) k (not_refused (entry classes b g (at_offset frames c.0)) c.0 (passes typing_rule classes m frames (c ∷ cs) (entered g (at_offset frames c.0))) e).0,
        ap (λ z. entered g (at_offset frames z)) k,
      )

  pub own_of : (cs : List (ℕ × Act)) (g : FrameFact) (p : ℕ) (k : FrameFact) → first_offset cs ≡ Some p → at_offset frames p ≡ Some k → came cs g ≡ k
  own_of [] g p k e i = cc
  own_of (c ∷ cs) g p k e i = let j : c.0 ≡ p = cc in ap (λ z. entered g (at_offset frames z)) j ∙ ap (entered g) i

  comes_same : (s t : ℕ → FrameFact) (q : ℕ) (g : FrameFact) → s q ≡ t q → Comes classes frames t g q → Comes classes frames s g q
  comes_same s t q g e (inl i) = inl (e ∙ i)
  comes_same s t q g e (inr i) = inr i

  -- the frame that comes to the first of these instructions is right
  abbrev pub IsEntered : List (ℕ × Act) → Bool → FrameFact → Type 0
  IsEntered cs b g = (q : ℕ) → first_offset cs ≡ Some q → (entry classes b g (at_offset frames q) ≡ None) × (came cs g ≡ entered g (at_offset frames q))

  -- a table for the instructions after one is widened to that one
  module _ (c : ℕ × Act) (cs : List (ℕ × Act)) (f : FrameFact) (apart : at_offset cs c.0 ≡ None) (own : (k : FrameFact) → at_offset frames c.0 ≡ Some k → f ≡ k)
      (fine : least (at_conditions classes m frames c.0 c.1 (typing_rule m c.1) (first_offset cs) f) ≡ None)
      (on : IsEntered cs (falls (typing_rule m c.1)) (after m c.0 (typing_rule m c.1) f))
      (rest : ℕ → FrameFact) (rest_head : (q : ℕ) → first_offset cs ≡ Some q → rest q ≡ came cs (after m c.0 (typing_rule m c.1) f)) where
    abbrev pub wider : ℕ → FrameFact
    wider p = if nat_eq c.0 p then f else rest p

    pub here : wider c.0 ≡ f
    here = rw (eq-eqb c.0 c.0 refl) refl

    pub same : (p : ℕ) → ((act : Act) × (at_offset cs p ≡ Some act)) → wider p ≡ rest p
    same p s = rw (ne_eqb c.0 p (λ q. clash s.0 (sym apart ∙ ap (at_offset cs) q ∙ s.1))) refl
      where
        clash : (act : Act) → None ≡ Some act → ⊥
        clash act e = cc

    parts : IsFine classes m frames c.0 c.1 (typing_rule m c.1) f × (falls (typing_rule m c.1) ≡ true → (q : ℕ) × (first_offset cs ≡ Some q))
    parts = fine_of classes m frames c.0 c.1 (typing_rule m c.1) (first_offset cs) f (none_least (at_conditions classes m frames c.0 c.1 (typing_rule m c.1) (first_offset cs) f) fine)

    pub fine_head : IsFineIn wider (c ∷ cs) c.0 c.1
    fine_head = record {
      fine = subst (λ z. IsFine classes m frames c.0 c.1 (typing_rule m c.1) z) (sym here) parts.0;
      next = λ t.
          let x = parts.1 t in
          let y = on x.0 x.1 in (
            x.0,
            rw (eq-eqb c.0 c.0 refl) x.1,
            subst (λ z. Comes classes frames wider (after m c.0 (typing_rule m c.1) z) x.0) (sym here)
                (comes_in wider x.0 (after m c.0 (typing_rule m c.1) f) (at_offset frames x.0) refl (subst (λ b. entry classes b (after m c.0 (typing_rule m c.1) f) (at_offset frames x.0) ≡ None) t y.0) (same x.0 (at_first cs x.0 x.1) ∙ rest_head x.0 x.1 ∙ y.1)),
          );
      alone = λ t to e. behind t to (subst (λ b. (if b then first_offset cs else next_offset cs c.0) ≡ Some to) (eq-eqb c.0 c.0 refl) e);
      own = λ k e. here ∙ own k e;
    }
      where
        behind : falls (typing_rule m c.1) ≡ false → (to : ℕ) → first_offset cs ≡ Some to → (g : FrameFact) × (at_offset frames to ≡ Some g)
        behind t to e =
            let y = on to e in
            declared_alone (after m c.0 (typing_rule m c.1) f) (at_offset frames to) (subst (λ b. entry classes b (after m c.0 (typing_rule m c.1) f) (at_offset frames to) ≡ None) t y.0)

    pub fine_tail : (p : ℕ) (act : Act) → nat_eq c.0 p ≡ false → at_offset cs p ≡ Some act → IsFineIn rest cs p act → IsFineIn wider (c ∷ cs) p act
    fine_tail p act i k rec =
        let s : wider p ≡ rest p = same p (act, k) in
        record {
          fine = subst (λ z. IsFine classes m frames p act (typing_rule m act) z) (sym s) rec.fine;
          next = λ t.
              let x = rec.next t in (
                x.0,
                rw i x.1,
                subst (λ z. Comes classes frames wider (after m p (typing_rule m act) z) x.0) (sym s) (comes_same wider rest x.0 (after m p (typing_rule m act) (rest p)) (same x.0 (at_next cs p x.0 x.1)) x.2),
              );
          alone = λ t to e. rec.alone t to (subst (λ b. (if b then first_offset cs else next_offset cs p) ≡ Some to) i e);
          own = λ g e. s ∙ rec.own g e;
        }

    pub fine_each : (p : ℕ) (act : Act) → (at_offset cs p ≡ Some act → IsFineIn rest cs p act) → at_offset (c ∷ cs) p ≡ Some act → IsFineIn wider (c ∷ cs) p act
    fine_each p act rec e = by (nat_eq c.0 p) refl e
      where
        by : (b : Bool) → nat_eq c.0 p ≡ b → (if b then Some c.1 else at_offset cs p) ≡ Some act → IsFineIn wider (c ∷ cs) p act
        by true i k = let w : c.1 ≡ act = cc in subst (λ z. IsFineIn wider (c ∷ cs) z act) (eqb-true c.0 p i) (subst (λ z. IsFineIn wider (c ∷ cs) c.0 z) w fine_head)
        by false i k = fine_tail p act i k (rec k)

    pub wider_head : (p : ℕ) → first_offset (c ∷ cs) ≡ Some p → wider p ≡ f
    wider_head p e = let q : c.0 ≡ p = cc in rw (eq-eqb c.0 p q) refl

  pub has_table : (cs : List (ℕ × Act)) (f : FrameFact) → AreApart cs → ((p : ℕ) (k : FrameFact) → first_offset cs ≡ Some p → at_offset frames p ≡ Some k → f ≡ k) → passes typing_rule classes m frames cs f ≡ verified → HasTable cs f
  has_table [] f apart own e = record { table = λ p. f; head = λ p i. refl; each = λ p act i. cc }
  has_table (c ∷ cs) f apart own e =
      let x = not_refused (least (at_conditions classes m frames c.0 c.1 (typing_rule m c.1) (first_offset cs) f)) c.0 (arrives classes frames cs (falls (typing_rule m c.1)) (after m c.0 (typing_rule m c.1) f) (passes typing_rule classes m frames cs)) e in
      let g = after m c.0 (typing_rule m c.1) f in
      let on : IsEntered cs (falls (typing_rule m c.1)) g = λ q i. enters_of cs (falls (typing_rule m c.1)) g q x.1 i in
      let r = has_table cs (came cs g) apart.1 (λ p k i j. own_of cs g p k i j) (tail_of cs (falls (typing_rule m c.1)) g x.1) in
      record {
        table = wider c cs f apart.0 (λ k i. own c.0 k refl i) x.0 on r.table r.head;
        head = wider_head c cs f apart.0 (λ k i. own c.0 k refl i) x.0 on r.table r.head;
        each = λ p act i. fine_each c cs f apart.0 (λ k i. own c.0 k refl i) x.0 on r.table r.head p act (r.each p act) i;
      }
