-- Where what a refusal says holds, the verdict is that refusal.
use Rattle.std.proofs.Common.{◌≡◌, ◌⊎◌, ℕ, ◌+◌, ◌<◌, ◌≤◌, Bool, true, false, nat_eq, nat_lt, List, [], ◌∷◌, length, Some, None, refl, sym, ◌∙◌, ap, subst, inl, inr, arith, eq-eqb, eqb-true, ltb-true, ltb-false, lt-ltb, le-ltb}
use Rattle.classfile.specs.Methods.{Method}
use Rattle.hierarchy.specs.Class.{ClassFact}
use Rattle.insn.specs.Meanings.{Act}
use Rattle.insn.specs.Offsets.{at_offset, first_offset, next_offset, IsStart, StartsRise}
use Rattle.frames.specs.FrameFact.{FrameFact}
use Rattle.frames.specs.Slots.{in_locals}
use Rattle.frames.specs.Conditions.{Reason, reason, least}
use Rattle.rules.specs.ReasonNumbers.{local_out_of_range}
use Rattle.rules.specs.TypingRules.{falls}
use Rattle.rules.specs.Table.{TypingRules}
use Rattle.rules.specs.After.{after}
use Rattle.verify.specs.InitialFrames.{initial_types, initial_frame}
use Rattle.verify.specs.TypeSafety.{Frames}
use Rattle.verify.specs.Verdict.{Verdict, refused, refused_or, at_conditions, entry, entered, arrives, passes, code_judged, table_judged, with_frames, verdict}
use Rattle.verify.specs.Refusals.{Reaches, BreaksRule, BreaksFrame, BreaksFirst, BreaksTable, HasNoRoom, BreaksCode, BreaksWithFrames, RefusedWhere}
use Rattle.verify.proofs.Reasons.{none_told}
use Rattle.verify.proofs.verdicts.Passing.{IsFineIn, at_first}
use Rattle.verify.proofs.verdicts.Following.{comes_none, fine_behind, none_here, at_next}
use Rattle.verify.proofs.Premises.{not_at, rising_apart, first_at_zero, there_frames, sound_front, sound_table}
use Rattle.verify.proofs.verdicts.Refusing.{Fails, refused_why}

no_act : {A : Type 0} (act : Act) → None ≡ Some act → A
no_act act e = cc

module _ (typing_rule : TypingRules) (classes : List ClassFact) (m : Method Act) (frames : Frames) (table : ℕ → FrameFact) (stop : ℕ) (act : Act) (at : ℕ) (why : Reason) where
  -- the instructions in front of the one that stops the pass are fine, and the table has the declared frames up to it
  record IsStop (cs : List (ℕ × Act)) : Type 0 where
    here : at_offset cs stop ≡ Some act
    each : (p : ℕ) (a : Act) → p < stop → at_offset cs p ≡ Some a → IsFineIn typing_rule classes m frames table cs p a
    own : (k : FrameFact) → at_offset frames stop ≡ Some k → table stop ≡ k
    fails : Fails typing_rule classes m frames stop act (next_offset cs stop) (table stop) at why

  -- it stands first
  fails_first : (c : ℕ × Act) (cs : List (ℕ × Act)) (f : FrameFact) → c.0 ≡ stop → table c.0 ≡ f → IsStop (c ∷ cs) → passes typing_rule classes m frames (c ∷ cs) f ≡ refused at why
  fails_first c cs f same there x = by x.fails
    where
      first : nat_eq c.0 stop ≡ true
      first = eq-eqb c.0 stop same

      is_act : c.1 ≡ act
      is_act = let e : Some c.1 ≡ Some act = sym (rw first refl) ∙ x.here in cc

      behind : next_offset (c ∷ cs) stop ≡ first_offset cs
      behind = rw first refl

      frame : table stop ≡ f
      frame = ap table (sym same) ∙ there

      conditions_are : least (at_conditions classes m frames stop act (typing_rule m act) (next_offset (c ∷ cs) stop) (table stop)) ≡ least (at_conditions classes m frames c.0 c.1 (typing_rule m c.1) (first_offset cs) f)
      conditions_are =
          ap (λ z. least (at_conditions classes m frames stop act (typing_rule m act) z (table stop))) behind
          ∙ ap (λ z. least (at_conditions classes m frames stop act (typing_rule m act) (first_offset cs) z)) frame
          ∙ ap (λ z. least (at_conditions classes m frames z act (typing_rule m act) (first_offset cs) f)) (sym same)
          ∙ ap (λ z. least (at_conditions classes m frames c.0 z (typing_rule m z) (first_offset cs) f)) (sym is_act)

      at_entry : (ds : List (ℕ × Act)) → first_offset ds ≡ Some at → (b : Bool) (g : FrameFact) (goes_on : FrameFact → Verdict) → entry classes b g (at_offset frames at) ≡ Some why → arrives classes frames ds b g goes_on ≡ refused at why
      at_entry [] i b g goes_on e = cc
      at_entry (d ∷ ds) i b g goes_on e =
          let k : d.0 ≡ at = cc in
          ap (λ z. refused_or (entry classes b g (at_offset frames z)) z (goes_on (entered g (at_offset frames d.0)))) k
          ∙ ap (λ z. refused_or z at (goes_on (entered g (at_offset frames d.0)))) e

      by : Fails typing_rule classes m frames stop act (next_offset (c ∷ cs) stop) (table stop) at why → passes typing_rule classes m frames (c ∷ cs) f ≡ refused at why
      by (inl y) =
          ap (λ z. refused_or z c.0 (arrives classes frames cs (falls (typing_rule m c.1)) (after m c.0 (typing_rule m c.1) f) (passes typing_rule classes m frames cs))) (sym conditions_are ∙ y.0)
          ∙ ap (λ z. refused z why) (same ∙ y.1)
      by (inr y) =
          ap (λ z. refused_or z c.0 (arrives classes frames cs (falls (typing_rule m c.1)) (after m c.0 (typing_rule m c.1) f) (passes typing_rule classes m frames cs))) (sym conditions_are ∙ y.0)
          ∙ at_entry cs (sym behind ∙ y.1) (falls (typing_rule m c.1)) (after m c.0 (typing_rule m c.1) f) (passes typing_rule classes m frames cs)
          (ap (λ z. entry classes (falls (typing_rule m z)) (after m c.0 (typing_rule m z) f) (at_offset frames at)) is_act
          ∙ ap (λ z. entry classes (falls (typing_rule m act)) (after m z (typing_rule m act) f) (at_offset frames at)) same
          ∙ ap (λ z. entry classes (falls (typing_rule m act)) (after m stop (typing_rule m act) z) (at_offset frames at)) (sym frame)
          ∙ y.2)

  -- it stands after the first
  onward_to : (cs : List (ℕ × Act)) (p : ℕ) → first_offset cs ≡ Some p → (b : Bool) (g : FrameFact) → (entry classes b g (at_offset frames p) ≡ None) × (table p ≡ entered g (at_offset frames p))
      → ((k : FrameFact) → ((q : ℕ) → first_offset cs ≡ Some q → table q ≡ k) → passes typing_rule classes m frames cs k ≡ refused at why)
      → arrives classes frames cs b g (passes typing_rule classes m frames cs) ≡ refused at why
  onward_to [] p i b g e rec = cc
  onward_to (d ∷ ds) p i b g e rec =
      let k : p ≡ d.0 = cc in
      let here : (entry classes b g (at_offset frames d.0) ≡ None) × (table d.0 ≡ entered g (at_offset frames d.0)) =
      subst (λ z. (entry classes b g (at_offset frames z) ≡ None) × (table z ≡ entered g (at_offset frames z))) k e in
      ap (λ z. refused_or z d.0 (passes typing_rule classes m frames (d ∷ ds) (entered g (at_offset frames d.0)))) here.0
      ∙ rec (entered g (at_offset frames d.0)) (λ q j. let n : d.0 ≡ q = cc in subst (λ z. table z ≡ entered g (at_offset frames d.0)) n here.1)

  has_first : (cs : List (ℕ × Act)) → at_offset cs stop ≡ Some act → (p : ℕ) × (first_offset cs ≡ Some p)
  has_first [] e = no_act act e
  has_first (d ∷ ds) e = (d.0, refl)

  not_behind : (cs : List (ℕ × Act)) (from p : ℕ) → StartsRise from cs → at_offset cs p ≡ Some act → from ≤ p
  not_behind cs from p rise e = by (nat_lt p from) refl
    where
      by : (b : Bool) → nat_lt p from ≡ b → from ≤ p
      by true b = no_act act (sym (not_at from cs p rise (ltb-true p from b)) ∙ e)
      by false b = ltb-false p from b

  -- the first of the rest does not stand after it
  first_before : (cs : List (ℕ × Act)) (from p : ℕ) → StartsRise from cs → at_offset cs stop ≡ Some act → first_offset cs ≡ Some p → p ≤ stop
  first_before [] from p rise e i = cc
  first_before (d ∷ ds) from p rise e i =
      let k : d.0 ≡ p = cc in
      let l = not_behind (d ∷ ds) d.0 stop (omega arith, rise.1) e in
      omega (arith, k, l)

  stops : (from : ℕ) (cs : List (ℕ × Act)) (f : FrameFact) → StartsRise from cs → ((p : ℕ) → first_offset cs ≡ Some p → table p ≡ f) → IsStop cs → passes typing_rule classes m frames cs f ≡ refused at why
  stops from [] f rise head x = no_act act x.here
  stops from (c ∷ cs) f rise head x = by (nat_eq c.0 stop) refl (λ k n y. stops (c.0 + 1) cs k rise.1 n y)
    where
      apart : at_offset cs c.0 ≡ None
      apart = (rising_apart from (c ∷ cs) rise).0

      on : nat_eq c.0 stop ≡ false → ((k : FrameFact) → ((p : ℕ) → first_offset cs ≡ Some p → table p ≡ k) → IsStop cs → passes typing_rule classes m frames cs k ≡ refused at why) → passes typing_rule classes m frames (c ∷ cs) f ≡ refused at why
      on b rec =
          let here : at_offset cs stop ≡ Some act = sym (rw b refl) ∙ x.here in
          let next : next_offset (c ∷ cs) stop ≡ next_offset cs stop = rw b refl in
          let before : c.0 < stop = omega (arith, not_behind cs (c.0 + 1) stop rise.1 here) in
          let now : IsFineIn typing_rule classes m frames table (c ∷ cs) c.0 c.1 = x.each c.0 c.1 before (rw (eq-eqb c.0 c.0 refl) refl) in
          let rest : IsStop cs = record {
            here = here;
            each = λ p a l e. let y = fine_behind typing_rule classes m frames table c cs p a apart e in y.2 (x.each p a l y.0);
            own = x.own;
            fails = subst (λ z. Fails typing_rule classes m frames stop act z (table stop) at why) next x.fails;
          } in
          let p = has_first cs here in
          ap (λ z. refused_or z c.0 (arrives classes frames cs (falls (typing_rule m c.1)) (after m c.0 (typing_rule m c.1) f) (passes typing_rule classes m frames cs))) (none_here typing_rule classes m frames table c cs f (head c.0 refl) now)
          ∙ onward_to cs p.0 p.1 (falls (typing_rule m c.1)) (after m c.0 (typing_rule m c.1) f)
          (at_next typing_rule classes m frames table c cs f (head c.0 refl) now p.0 p.1 (own_at p.0 (first_before cs (c.0 + 1) p.0 rise.1 here p.1) (at_first cs p.0 p.1) rest) (falls (typing_rule m c.1)) refl)
          (λ k n. rec k n rest)
        where
          own_at : (p : ℕ) → p ≤ stop → ((a : Act) × (at_offset cs p ≡ Some a)) → IsStop cs → (k : FrameFact) → at_offset frames p ≡ Some k → table p ≡ k
          own_at p l a y k e = by (nat_lt p stop) refl
            where
              by : (b : Bool) → nat_lt p stop ≡ b → table p ≡ k
              by true b = (y.each p a.0 (ltb-true p stop b) a.1).own k e
              by false b =
                  let same : p ≡ stop = omega (arith, l, ltb-false p stop b) in
                  ap table same ∙ y.own k (ap (at_offset frames) (sym same) ∙ e)

      by : (b : Bool) → nat_eq c.0 stop ≡ b → ((k : FrameFact) → ((p : ℕ) → first_offset cs ≡ Some p → table p ≡ k) → IsStop cs → passes typing_rule classes m frames cs k ≡ refused at why) → passes typing_rule classes m frames (c ∷ cs) f ≡ refused at why
      by true b rec = fails_first c cs f (eqb-true c.0 stop b) (head c.0 refl) x
      by false b rec = on b rec

-- ---- the whole code

module _ (typing_rule : TypingRules) (classes : List ClassFact) (m : Method Act) (rise : StartsRise 0 m.code) (begins : IsStart m.code 0) (frames : Frames) (at : ℕ) (why : Reason) where
  first : first_offset m.code ≡ Some 0
  first = first_at_zero m.code rise begins

  -- from the table up to an instruction
  module _ (stop : ℕ) (r : Reaches typing_rule classes m frames stop) (fails : Fails typing_rule classes m frames stop r.act (next_offset m.code stop) (r.table stop) at why) where
    fine : (p : ℕ) (a : Act) → p < stop → at_offset m.code p ≡ Some a → IsFineIn typing_rule classes m frames r.table m.code p a
    fine p a l e =
        let x = r.safe.each p a l e in
        record {
          fine = record { rule = x.rule; protected = x.protected; leads = x.leads; handled = x.handled; uncovered = x.uncovered };
          next = x.next;
          alone = x.alone;
          own = λ k i. r.safe.at_declared p k (record { what = a; here = e }) (omega (arith, l)) i;
        }

    comes : IsStop typing_rule classes m frames r.table stop r.act at why m.code
    comes = record {
      here = r.here;
      each = fine;
      own = λ k i. r.safe.at_declared stop k (record { what = r.act; here = r.here }) (omega arith) i;
      fails = fails;
    }

    reached_refused : code_judged typing_rule classes m frames ≡ refused at why
    reached_refused =
        onward_to typing_rule classes m frames r.table stop r.act at why m.code 0 first true (initial_frame m)
        (comes_none typing_rule classes m frames r.table 0 (initial_frame m) (at_offset frames 0) refl (λ k i. r.safe.at_declared 0 k begins (omega arith) i) r.safe.first)
        (λ k n. stops typing_rule classes m frames r.table stop r.act at why 0 m.code k rise n comes)

  first_refused : (cs : List (ℕ × Act)) → first_offset cs ≡ Some 0 → (goes_on : FrameFact → Verdict) → BreaksFirst classes m frames at why → arrives classes frames cs true (initial_frame m) goes_on ≡ refused at why
  first_refused [] i goes_on b = cc
  first_refused (c ∷ cs) i goes_on b =
      let k : c.0 ≡ 0 = cc in
      ap (λ z. refused_or (entry classes true (initial_frame m) (at_offset frames z)) z (goes_on (entered (initial_frame m) (at_offset frames c.0)))) k
      ∙ ap (λ z. refused_or z 0 (goes_on (entered (initial_frame m) (at_offset frames c.0)))) b.told ∙ ap (λ z. refused z why) (sym b.at_zero)

  code_refused : BreaksFirst classes m frames at why ⊎ (BreaksFrame typing_rule classes m frames at why ⊎ BreaksRule typing_rule classes m frames at why) → code_judged typing_rule classes m frames ≡ refused at why
  code_refused (inl b) = first_refused m.code first (passes typing_rule classes m frames m.code) b
  code_refused (inr (inl b)) =
      reached_refused b.before b.reached
      (inr (none_told (at_conditions classes m frames b.before b.reached.act (typing_rule m b.reached.act) (next_offset m.code b.before) (b.reached.table b.before)) (rw b.next b.fine), b.next, b.told))
  code_refused (inr (inr b)) = reached_refused at b.reached (inl (b.told, refl))

  frames_refused : BreaksTable classes m frames at why ⊎ BreaksCode typing_rule classes m frames at why → table_judged classes m frames m.exceptions (code_judged typing_rule classes m frames) ≡ refused at why
  frames_refused (inl b) =
      ap (λ z. table_judged classes m frames z (code_judged typing_rule classes m frames)) b.parts ∙ sound_front classes m frames b.front (b.broken ∷ b.others) (code_judged typing_rule classes m frames) b.sound
      ∙ ap (λ z. refused_or z 0 (table_judged classes m frames b.others (code_judged typing_rule classes m frames))) b.told ∙ ap (λ z. refused z why) (sym b.at_zero)
  frames_refused (inr b) = sound_table classes m frames m.exceptions (code_judged typing_rule classes m frames) b.sound ∙ code_refused b.broken

is_refused : (typing_rule : TypingRules) (classes : List ClassFact) (m : Method Act) → StartsRise 0 m.code → IsStart m.code 0 → (at : ℕ) (why : Reason)
    → HasNoRoom m at why ⊎ BreaksWithFrames typing_rule classes m at why → verdict typing_rule classes m ≡ refused at why
is_refused typing_rule classes m rise begins at why (inl x) =
    rw (lt-ltb m.max_locals (length (in_locals (initial_types m))) x.narrow) (ap (λ z. refused z (reason local_out_of_range)) (sym x.at_zero) ∙ ap (λ z. refused at z) (sym x.told))
is_refused typing_rule classes m rise begins at why (inr (fit, frames, d, b)) =
    rw (le-ltb m.max_locals (length (in_locals (initial_types m))) fit)
    (ap (with_frames typing_rule classes m) (there_frames m frames d) ∙ frames_refused typing_rule classes m rise begins frames at why b)

pub refused_where : RefusedWhere
refused_where typing_rule classes m rise begins at why = (refused_why typing_rule classes m rise begins at why, is_refused typing_rule classes m rise begins at why)
