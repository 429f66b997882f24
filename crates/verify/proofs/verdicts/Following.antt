-- Where there is a table of frames, the pass refuses nothing.
use Rattle.std.proofs.Common.{◌≡◌, ℕ, Bool, true, false, nat_eq, List, [], ◌∷◌, Option, Some, None, refl, sym, ◌∙◌, ap, subst, inl, inr, eq-eqb, ne_eqb}
use Rattle.classfile.specs.Methods.{Method}
use Rattle.hierarchy.specs.Class.{ClassFact}
use Rattle.insn.specs.Meanings.{Act}
use Rattle.insn.specs.Offsets.{at_offset, first_offset, next_offset}
use Rattle.hierarchy.specs.Answer.{yes}
use Rattle.frames.specs.FrameFact.{FrameFact}
use Rattle.frames.specs.FrameAssignable.{frame_answer}
use Rattle.frames.specs.Conditions.{least}
use Rattle.frames.proofs.Frames.{frame_itself}
use Rattle.rules.specs.TypingRules.{falls}
use Rattle.rules.specs.Table.{TypingRules}
use Rattle.rules.specs.After.{after}
use Rattle.verify.specs.TypeSafety.{Frames, Comes}
use Rattle.verify.specs.Verdict.{verified, refused_or, answer_conditions, at_conditions, entry, entered, arrives, passes}
use Rattle.verify.proofs.Reasons.{none_told, yes_none, IsFine, of_fine}
use Rattle.verify.proofs.verdicts.Passing.{AreApart, at_first, IsFineIn}

module _ (typing_rule : TypingRules) (classes : List ClassFact) (m : Method Act) (frames : Frames) (table : ℕ → FrameFact) where
  same_frame : (a b : FrameFact) → Some a ≡ Some b → a ≡ b
  same_frame a b e = cc

  none_declared : {A : Type 0} (q : ℕ) (f : FrameFact) → at_offset frames q ≡ None → at_offset frames q ≡ Some f → A
  none_declared q f n e = absurd (clash (sym n ∙ e))
    where
      clash : None ≡ Some f → ⊥
      clash x = cc

  assignable_at : (f k : FrameFact) → frame_answer classes f k ≡ yes → entry classes true f (Some k) ≡ None
  assignable_at f k e = none_told (answer_conditions 69 (frame_answer classes f k)) (yes_none 69 (frame_answer classes f k) e)

  -- a frame that comes to a start, by the frame that is declared there, if one is
  pub comes_none : (q : ℕ) (f : FrameFact) (o : Option FrameFact) → at_offset frames q ≡ o → ((k : FrameFact) → at_offset frames q ≡ Some k → table q ≡ k)
      → Comes classes frames table f q → (entry classes true f o ≡ None) × (table q ≡ entered f o)
  comes_none q f None i own (inl e) = (refl, e)
  comes_none q f None i own (inr l) = none_declared q l.declared i l.here
  comes_none q f (Some k) i own (inl e) =
      let t = own k i in
      (assignable_at f k (ap (λ z. frame_answer classes z k) (sym e ∙ t) ∙ frame_itself classes k), t)
  comes_none q f (Some k) i own (inr l) =
      (assignable_at f k (ap (frame_answer classes f) (same_frame k l.declared (sym i ∙ l.here)) ∙ l.assignable), own k i)

  alone_none : (q : ℕ) (f : FrameFact) (o : Option FrameFact) → at_offset frames q ≡ o → ((k : FrameFact) → at_offset frames q ≡ Some k → table q ≡ k)
      → ((k : FrameFact) × (at_offset frames q ≡ Some k)) → (entry classes false f o ≡ None) × (table q ≡ entered f o)
  alone_none q f None i own x = none_declared q x.0 i x.1
  alone_none q f (Some k) i own x = (refl, own k i)

  -- each of these instructions is fine
  abbrev pub AreFine : List (ℕ × Act) → Type 0
  AreFine cs = (at : ℕ) (act : Act) → at_offset cs at ≡ Some act → IsFineIn typing_rule classes m frames table cs at act

  -- an instruction after the first that is fine is so in the rest of the code
  pub fine_behind : (c : ℕ × Act) (cs : List (ℕ × Act)) (p : ℕ) (act : Act) → at_offset cs c.0 ≡ None → at_offset cs p ≡ Some act
      → (at_offset (c ∷ cs) p ≡ Some act) × (next_offset (c ∷ cs) p ≡ next_offset cs p) × (IsFineIn typing_rule classes m frames table (c ∷ cs) p act → IsFineIn typing_rule classes m frames table cs p act)
  fine_behind c cs p act apart e =
      let n : nat_eq c.0 p ≡ false = ne_eqb c.0 p (λ q. clash act (sym apart ∙ ap (at_offset cs) q ∙ e)) in
      let next : next_offset (c ∷ cs) p ≡ next_offset cs p = rw n refl in (
        rw n e,
        next,
        λ y. record {
          fine = y.fine;
          next = λ t. let z = y.next t in (z.0, sym next ∙ z.1, z.2);
          alone = λ t to i. y.alone t to (next ∙ i);
          own = y.own;
        },
      )
    where
      clash : (act : Act) → None ≡ Some act → ⊥
      clash act e = cc

  rest_fine : (c : ℕ × Act) (cs : List (ℕ × Act)) → at_offset cs c.0 ≡ None → AreFine (c ∷ cs) → AreFine cs
  rest_fine c cs apart x p act e = let y = fine_behind c cs p act apart e in y.2 (x p act y.0)

  -- an instruction that is fine, in front of others
  module _ (c : ℕ × Act) (cs : List (ℕ × Act)) (f : FrameFact) (there : table c.0 ≡ f) (now : IsFineIn typing_rule classes m frames table (c ∷ cs) c.0 c.1) where
    pub behind : next_offset (c ∷ cs) c.0 ≡ first_offset cs
    behind = rw (eq-eqb c.0 c.0 refl) refl

    pub none_here : least (at_conditions classes m frames c.0 c.1 (typing_rule m c.1) (first_offset cs) f) ≡ None
    none_here =
        none_told (at_conditions classes m frames c.0 c.1 (typing_rule m c.1) (first_offset cs) f) (of_fine classes m frames c.0 c.1 (typing_rule m c.1) (first_offset cs) f
        (subst (λ z. IsFine classes m frames c.0 c.1 (typing_rule m c.1) z) there now.fine) (λ t. let z = now.next t in (z.0, sym behind ∙ z.1)))

    pub at_next : (p : ℕ) → first_offset cs ≡ Some p → ((k : FrameFact) → at_offset frames p ≡ Some k → table p ≡ k) → (b : Bool) → falls (typing_rule m c.1) ≡ b
        → (entry classes b (after m c.0 (typing_rule m c.1) f) (at_offset frames p) ≡ None) × (table p ≡ entered (after m c.0 (typing_rule m c.1) f) (at_offset frames p))
    at_next p i own true e =
        let z = now.next e in
        let w : Some z.0 ≡ Some p = sym z.1 ∙ (behind ∙ i) in
        let q : z.0 ≡ p = cc in
        comes_none p (after m c.0 (typing_rule m c.1) f) (at_offset frames p) refl own
        (subst (λ v. Comes classes frames table (after m c.0 (typing_rule m c.1) f) v) q (subst (λ v. Comes classes frames table (after m c.0 (typing_rule m c.1) v) z.0) there z.2))
    at_next p i own false e = alone_none p (after m c.0 (typing_rule m c.1) f) (at_offset frames p) refl own (now.alone e p (behind ∙ i))

  pub onward : (cs : List (ℕ × Act)) (b : Bool) (g : FrameFact) → ((p : ℕ) → first_offset cs ≡ Some p → (entry classes b g (at_offset frames p) ≡ None) × (table p ≡ entered g (at_offset frames p)))
      → ((k : FrameFact) → ((p : ℕ) → first_offset cs ≡ Some p → table p ≡ k) → passes typing_rule classes m frames cs k ≡ verified)
      → arrives classes frames cs b g (passes typing_rule classes m frames cs) ≡ verified
  onward [] b g e rec = refl
  onward (c ∷ cs) b g e rec =
      let x = e c.0 refl in
      ap (λ z. refused_or z c.0 (passes typing_rule classes m frames (c ∷ cs) (entered g (at_offset frames c.0)))) x.0
      ∙ rec (entered g (at_offset frames c.0)) (λ p i. let j : c.0 ≡ p = cc in subst (λ z. table z ≡ entered g (at_offset frames c.0)) j x.1)

  pub passes_all : (cs : List (ℕ × Act)) (f : FrameFact) → AreApart cs → AreFine cs → ((p : ℕ) → first_offset cs ≡ Some p → table p ≡ f) → passes typing_rule classes m frames cs f ≡ verified
  passes_all [] f apart x head = refl
  passes_all (c ∷ cs) f apart x head =
      ap (λ z. refused_or z c.0 (arrives classes frames cs (falls (typing_rule m c.1)) (after m c.0 (typing_rule m c.1) f) (passes typing_rule classes m frames cs))) (none_here c cs f there now)
      ∙ onward cs (falls (typing_rule m c.1)) (after m c.0 (typing_rule m c.1) f) (λ p i. at_next c cs f there now p i (own p i) (falls (typing_rule m c.1)) refl)
      (λ k n. passes_all cs k apart.1 (rest_fine c cs apart.0 x) n)
    where
      there : table c.0 ≡ f
      there = head c.0 refl

      here : at_offset (c ∷ cs) c.0 ≡ Some c.1
      here = rw (eq-eqb c.0 c.0 refl) refl

      now : IsFineIn typing_rule classes m frames table (c ∷ cs) c.0 c.1
      now = x c.0 c.1 here

      own : (p : ℕ) → first_offset cs ≡ Some p → (k : FrameFact) → at_offset frames p ≡ Some k → table p ≡ k
      own p i = let s = at_first cs p i in (rest_fine c cs apart.0 x p s.0 s.1).own
