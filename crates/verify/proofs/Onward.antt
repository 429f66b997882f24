-- The pass, from one instruction to the next.
use Rattle.std.proofs.Common.{◌≡◌, ℕ, ◌+◌, ◌<◌, Bool, true, false, is_none, nat_eq, List, [], ◌∷◌, ◌⊎◌, inl, inr, subst, Result, Ok, Err, Option, Some, None, length, refl, sym, ◌∙◌, ap, arith}
use Rattle.std.proofs.lemmas.List.{length-append, nil_from_length}
use Rattle.std.proofs.lemmas.Bool.Decides.{nat_tests}
use Rattle.classfile.specs.Methods.{Method}
use Rattle.hierarchy.specs.Class.{ClassFact}
use Rattle.layout.specs.Place.{Place}
use Rattle.insn.specs.Instructions.{Instruction}
use Rattle.insn.specs.declared.acts.Act as program
use Rattle.insn.specs.Code.{StepsBy}
use Rattle.insn.specs.Meanings.{Act}
use Rattle.insn.specs.Offsets.{at_offset, first_offset, acts, by_act}
use Rattle.insn.specs.Decoding.{CodeResult, behind}
use Rattle.insn.specs.Views.{act_located}
use Rattle.insn.proofs.CodeLaws.{has_bytes, given_step}
use Rattle.insn.proofs.CodeResults.{result_at, step_reads, end_reads, some_left}
use Rattle.frames.specs.FrameFact.{FrameFact}
use Rattle.frames.specs.Conditions.{Reason, Conditions, least}
use Rattle.rules.specs.TypingRules.{falls}
use Rattle.rules.specs.Table.{typing_rule}
use Rattle.rules.specs.After.{after}
use Rattle.rules.specs.Outcomes.{Done}
use Rattle.rules.specs.Ways.{goes_on as act_goes_on}
use Rattle.rules.specs.Reasons.{reason_view}
use Rattle.rules.specs.declared.reason.Reason.{Reason as RuleReason}
use Rattle.rules.specs.declared.reason.Reason.TheVariants.{OutOfMemory}
use Rattle.verify.specs.TypeSafety.{Frames}
use Rattle.verify.specs.Verdict.{Verdict, refused, told_of, refused_or, at_conditions, entry, entered, arrives, passes}
use Rattle.verify.specs.private.JudgingSteps.{Enters}
use Rattle.verify.proofs.Successors.{ways}

-- ---- the code that is left

module _ (classes : List ClassFact) (m : Method Act) (frames : Frames) where
  abbrev pub left : List (ℕ × Act) → Bool → FrameFact → Verdict
  left cs b f = arrives classes frames cs b f (passes typing_rule classes m frames cs)

  module _ (c : ℕ × Act) (cs : List (ℕ × Act)) (b : Bool) (f : FrameFact) (v : Verdict) (same : v ≡ left (c ∷ cs) b f) where
    abbrev declared : Option FrameFact
    declared = at_offset frames c.0

    refused_in : (why : Reason) → entry classes b f declared ≡ Some why → v ≡ refused c.0 why
    refused_in why e = same ∙ ap (λ z. refused_or z c.0 (passes typing_rule classes m frames (c ∷ cs) (entered f declared))) e

    -- against the frame that comes in
    pub stops_in : (g : FrameFact) (r : Result Unit RuleReason) (e : RuleReason) → r ≡ Err e → Enters classes b f declared g r
        → (e ≡ OutOfMemory) ⊎ (told_of v ≡ Some (c.0, reason_view e))
    stops_in g r e q x = by (subst (Enters classes b f declared g) q x).outcome
      where
        by : (e ≡ OutOfMemory) ⊎ (entry classes b f declared ≡ Some (reason_view e)) → (e ≡ OutOfMemory) ⊎ (told_of v ≡ Some (c.0, reason_view e))
        by (inl p) = inl p
        by (inr p) = inr (ap told_of (refused_in (reason_view e) p))

    -- a frame comes in, and this one goes on
    module _ (g : FrameFact) (r : Result Unit RuleReason) (u : Unit {0}) (ok : r ≡ Ok u) (enters : Enters classes b f declared g r) where
      abbrev pub at_here : Conditions
      at_here = at_conditions classes m frames c.0 c.1 (typing_rule m c.1) (first_offset cs) g

      abbrev pub after_here : FrameFact
      after_here = after m c.0 (typing_rule m c.1) g

      abbrev on : Verdict
      on = left cs (falls (typing_rule m c.1)) after_here

      opened : v ≡ refused_or (least at_here) c.0 on
      opened =
          let came = (subst (Enters classes b f declared g) ok enters).outcome in
          same ∙ ap (λ z. refused_or z c.0 (passes typing_rule classes m frames (c ∷ cs) (entered f declared))) came.0
          ∙ ap (passes typing_rule classes m frames (c ∷ cs)) (sym came.1)

      pub stops_at : (now : FrameFact) (r : Result Unit RuleReason) (e : RuleReason) → r ≡ Err e → Done at_here after_here now r
          → (e ≡ OutOfMemory) ⊎ (told_of v ≡ Some (c.0, reason_view e))
      stops_at now r e q x = by (subst (Done at_here after_here now) q x).outcome
        where
          by : (e ≡ OutOfMemory) ⊎ (least at_here ≡ Some (reason_view e)) → (e ≡ OutOfMemory) ⊎ (told_of v ≡ Some (c.0, reason_view e))
          by (inl p) = inl p
          by (inr p) = inr (ap told_of (opened ∙ ap (λ z. refused_or z c.0 on) p))

      -- an instruction that was not refused goes on with the frame after
      pub goes_done : (now : FrameFact) (r : Result Unit RuleReason) (u : Unit {0}) (goes : Bool) → r ≡ Ok u
          → Done at_here after_here now r → goes ≡ act_goes_on c.1 → v ≡ left cs goes now
      goes_done now r u goes q x k =
          let done = (subst (Done at_here after_here now) q x).outcome in
          let falls_as : goes ≡ falls (typing_rule m c.1) =
          k ∙ (ways m c.1).way.falls_on in
          opened ∙ ap (λ z. refused_or z c.0 on) done.0 ∙ ap (λ z. left cs z after_here) (sym falls_as) ∙ ap (left cs goes) (sym done.1)

-- a frame that comes to a start where none is declared goes on as it is
pub enters_straight : (classes : List ClassFact) (comes : Bool) (f : FrameFact) (declared : Option FrameFact) → comes ≡ true → declared ≡ None → Enters classes comes f declared f (Ok tt)
enters_straight classes true f None e q = record { outcome = (refl, refl) }
enters_straight classes true f (Some g) e q = absurd (cc)
enters_straight classes false f declared e q = absurd (cc)

-- ---- the bytes that are left

-- they are these instructions, and with them the verdict is what it is; the offset and the bytes that are left are
-- those of all
pub record Remains (classes : List ClassFact) (m : Method Act) (frames : Frames) (size : ℕ) (p : Place) (comes : Bool) (f : FrameFact) (v : Verdict) : Type 0 where
  pub instructions : List (ℕ × Instruction)
  pub read : result_at p ≡ Ok instructions
  pub same : v ≡ left classes m frames (acts instructions) comes f
  pub within : p.at + length p.rest ≡ size

-- the act of the instruction in front of those of the others
pub record Steps (old new : Place) (x : ℕ × Act) (xs : List (ℕ × Instruction)) : Type 0 where
  pub others : List (ℕ × Instruction)
  pub read : result_at new ≡ Ok others
  pub all : acts xs ≡ x ∷ acts others

stepped : (old new : Place) (y : ℕ × Instruction) (x : ℕ × Act) (xs : List (ℕ × Instruction)) → x ≡ by_act y
    → (r : CodeResult) → result_at new ≡ r → behind y r ≡ Ok xs → Steps old new x xs
stepped old new y x xs same (Ok ys) now e =
    let all : y ∷ ys ≡ xs = cc in record { others = ys; read = now; all = ap acts (sym all) ∙ ap (λ z. z ∷ acts ys) (sym same) }
stepped old new y x xs same (Err fault) now e = absurd cc

pub steps : (old new : Place) (x : ℕ × program.Act) (xs : List (ℕ × Instruction))
    → result_at old ≡ Ok xs → StepsBy act_located by_act old (Some (Ok x)) new → Steps old new (act_located x) xs
steps old new x xs read s =
    let (i, same, t) = given_step act_located by_act old new (Ok x) x s refl in
    stepped old new (old.at, i) (act_located x) xs same (result_at new) refl (sym (step_reads (λ (y : ℕ × Instruction). y) old new (old.at, i) t) ∙ read)

-- the step from a place of which the offset was asked
pub taken_at : (old new : Place) (n : ℕ) (a : program.Act) → n ≡ old.at → StepsBy act_located by_act old (Some (Ok (old.at, a))) new → StepsBy act_located by_act old (Some (Ok (n, a))) new
taken_at old new n a is s = subst (λ k. StepsBy act_located by_act old (Some (Ok (k, a))) new) (sym is) s

-- nothing is left
pub at_end : (p : Place) (xs : List (ℕ × Instruction)) → result_at p ≡ Ok xs → nat_eq (length p.rest) 0 ≡ true → xs ≡ []
at_end p xs read e =
    let none : length p.rest ≡ 0 = grind (arith, nat_tests, e) in
    let both : Ok xs ≡ (let r : CodeResult = Ok [] in r) = sym read ∙ end_reads (λ (y : ℕ × Instruction). y) p p (nil_from_length p.rest none, refl) in cc

-- a step takes bytes, and leaves the others
pub step_within : (old new : Place) (x : ℕ × program.Act)
    → StepsBy act_located by_act old (Some (Ok x)) new → (old.at ≡ x.0) × (new.at + length new.rest ≡ old.at + length old.rest) × (length new.rest < length old.rest)
step_within old new x s =
    let (i, same, (here, first, spelled, took)) = given_step act_located by_act old new (Ok x) x s refl in
    let some = has_bytes old.at first (Ok i) spelled in (
      sym (ap (λ (z : ℕ × Act). z.0) same),
      omega (arith, took.at, ap length took.parts, length-append first new.rest),
      omega (arith, some, ap length took.parts, length-append first new.rest),
    )

-- no instruction is left exactly where no byte is
none_left : (bytes : List ℕ) → length bytes ≡ 0 → bytes ≡ []
none_left [] e = refl
none_left (b ∷ bytes) e = absurd (omega (arith, e))

pub last_is : (p : Place) (xs : List (ℕ × Instruction)) → result_at p ≡ Ok xs → is_none (first_offset (acts xs)) ≡ nat_eq (length p.rest) 0
last_is p xs read = by xs (nat_eq (length p.rest) 0) refl read
  where
    by : (ys : List (ℕ × Instruction)) (b : Bool) → nat_eq (length p.rest) 0 ≡ b → result_at p ≡ Ok ys → is_none (first_offset (acts ys)) ≡ b
    by [] true e q = refl
    by [] false e q = absurd (some_left p (let lt : 0 < length p.rest = grind (arith, nat_tests, e) in lt) q)
    by (y ∷ ys) false e q = refl
    by (y ∷ ys) true e q =
        let none : length p.rest ≡ 0 = grind (arith, nat_tests, e) in
        let both : Ok (y ∷ ys) ≡ (let r : CodeResult = Ok [] in r) = sym q ∙ end_reads {X = ℕ × Instruction} (λ x. x) p p (none_left p.rest none, refl) in
        absurd cc
