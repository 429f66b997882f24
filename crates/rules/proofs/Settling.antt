-- From the conditions of a family to those that are left to judge once its operands are there.
use Rattle.std.specs.Prelude.{nat_lt, is_none, ◌&&◌, if◌then◌else◌}
use Rattle.std.proofs.Common.{◌≡◌, ◌⊎◌, ℕ, ◌<◌, ◌≤◌, Bool, true, false, List, [], ◌∷◌, refl, sym, ◌∙◌, ap, subst, arith, inl, inr, Some, Option, Result, Ok, Err}
use Rattle.std.proofs.lemmas.Bool.{cond-true}
use Rattle.std.proofs.lemmas.Bool.Decides.{nat_tests}
use Rattle.classfile.specs.Methods.{Method}
use Rattle.hierarchy.specs.declared.answer.Answer.{Answer}
use Rattle.hierarchy.specs.declared.answer.Answer.TheVariants.{Yes, No, Missing}
use Rattle.hierarchy.specs.Class.{ClassFact}
use Rattle.hierarchy.specs.Answer.{Outcome, yes, no, missing, outcome_of}
use Rattle.insn.specs.declared.acts.Act as program
use Rattle.insn.specs.Meanings.{Act}
use Rattle.insn.specs.Views.{act_view}
use Rattle.insn.specs.Operators.{StackForm}
use Rattle.insn.specs.OperandStacks.{beneath, rearranged, units_taken}
use Rattle.frames.specs.VerificationType.{VerificationType}
use Rattle.frames.specs.FrameFact.{FrameFact}
use Rattle.frames.specs.Slots.{units_of}
use Rattle.frames.specs.Conditions.{Reason as Refusing, reason, Conditions, least, is_no, missing_if}
use Rattle.rules.specs.declared.reason.Reason.{Reason}
use Rattle.rules.specs.declared.reason.Reason.TheVariants.{OutOfMemory}
use Rattle.rules.specs.TypingRules.{ExpectedType, pops, loads, stores, rearranges, refuses, TypingRule, where_judged, where_allowed, where_bootstrapped}
use Rattle.rules.specs.Table.{typing_rule}
use Rattle.rules.specs.After.{local_of, after, with_stack, top_of, rest_of, stored, stored_type, form_for, rearranged_by}
use Rattle.rules.specs.Rules.{is_short, operands, accepts, is_outside, gives_frame, is_too_wide, conditions}
use Rattle.rules.specs.Outcomes.{Done, Took, TookOff, pushed, settled}
use Rattle.rules.specs.Reasons.{reason_view}
use Rattle.rules.specs.After.{with_locals}
use Rattle.rules.proofs.Taking.{both_yes}

-- with 65 before the conditions of a family
abbrev pub with_depth : Bool → Conditions → Conditions
with_depth wide family = (reason 65, gives_frame family && wide) ∷ family

redone_err : (a b : Option Refusing) (P : Type 0) (n : Refusing) → a ≡ b → P ⊎ (b ≡ Some n) → P ⊎ (a ≡ Some n)
redone_err a b P n e o = elim o [ inl p ↦ inl p | inr q ↦ inr (e ∙ q) ]

-- two lists of conditions with one least reason have one outcome
pub redone : (cs ds : Conditions) (wanted other now : FrameFact) (r : Result Unit Reason) → least cs ≡ least ds → wanted ≡ other → Done ds other now r → Done cs wanted now r
redone cs ds wanted other now (Ok u) e q d = record { outcome = (e ∙ d.outcome.0, d.outcome.1 ∙ sym q) }
redone cs ds wanted other now (Err x) e q d = record { outcome = redone_err (least cs) (least ds) (x ≡ OutOfMemory) (reason_view x) e d.outcome }

pub not_no : (a : Answer) → (a ≡ No → ⊥) → outcome_of a ≡ no → ⊥
not_no Yes n e = cc
not_no No n e = n refl
not_no (Missing m) n e = cc

-- ---- operands to a result

abbrev pub operand_parts : Bool → Outcome → Conditions
operand_parts short a = (reason 61, short) ∷ (reason 62, is_no a) ∷ missing_if a ∷ []

parts_short : (s : Bool) (a : Outcome) (w : Bool) → s ≡ true → least (with_depth w (operand_parts s a)) ≡ Some (reason 61)
parts_short false a w e = cc
parts_short true yes w e = refl
parts_short true no w e = refl
parts_short true (missing n) w e = refl

parts_no : (s : Bool) (a : Outcome) (w : Bool) → s ≡ false → a ≡ no → least (with_depth w (operand_parts s a)) ≡ Some (reason 62)
parts_no true a w e n = cc
parts_no false yes w e n = cc
parts_no false no w e n = refl
parts_no false (missing m) w e n = cc

parts_settled : (s : Bool) (a : Outcome) (w : Bool) → s ≡ false → (a ≡ no → ⊥) → least (with_depth w (operand_parts s a)) ≡ least ((reason 65, w) ∷ missing_if a ∷ [])
parts_settled true a w e n = cc
parts_settled false yes w e n = refl
parts_settled false no w e n = absurd (n refl)
parts_settled false (missing m) w e n = refl

module _ (cs : List ClassFact) (m : Method Act) (ws : List ExpectedType) (gs : List VerificationType) (f : FrameFact) where
  abbrev wide : Bool
  wide = is_too_wide m (after m 0 (pops ws gs [] true) f)

  pops_settled : (a : Outcome) (us : List VerificationType) → Took cs ws f.stack a us → (a ≡ no → ⊥) → least (conditions cs m 0 (pops ws gs [] true) f) ≡ least (settled m a (pushed gs (with_stack f us)))
  pops_settled a us t n =
      parts_settled (is_short ws f.stack) (operands cs ws f.stack) wide t.enough (λ e. n (sym t.answer_is ∙ e))
      ∙ ap (λ z. least (settled m z (pushed gs (with_stack f (beneath ws f.stack))))) t.answer_is
      ∙ ap (λ z. least (settled m a (pushed gs (with_stack f z)))) (sym t.left_is)

  pub pops_done : (a : Outcome) (us : List VerificationType) (now : FrameFact) (r : Result Unit Reason) → Took cs ws f.stack a us → (a ≡ no → ⊥) → Done (settled m a (pushed gs (with_stack f us))) (pushed gs (with_stack f us)) now r → Done (conditions cs m 0 (pops ws gs [] true) f) (after m 0 (pops ws gs [] true) f) now r
  pops_done a us now r t n d =
      redone (conditions cs m 0 (pops ws gs [] true) f) (settled m a (pushed gs (with_stack f us))) (after m 0 (pops ws gs [] true) f) (pushed gs (with_stack f us)) now r
      (pops_settled a us t n) (ap (λ z. pushed gs (with_stack f z)) (sym t.left_is)) d

-- ---- local variables that are read

abbrev pub local_parts : Bool → Outcome → Conditions
local_parts o a = (reason 63, is_no (if o then yes else a)) ∷ (reason 64, o) ∷ missing_if (if o then yes else a) ∷ []

pub local_no : (o : Bool) (a : Outcome) (w : Bool) → o ≡ false → a ≡ no → least (with_depth w (local_parts o a)) ≡ Some (reason 63)
local_no true a w e n = cc
local_no false yes w e n = cc
local_no false no w e n = refl
local_no false (missing m) w e n = cc

pub local_settled : (o : Bool) (a : Outcome) (w : Bool) → o ≡ false → (a ≡ no → ⊥) → least (with_depth w (local_parts o a)) ≡ least ((reason 65, w) ∷ missing_if a ∷ [])
local_settled true a w e n = cc
local_settled false yes w e n = refl
local_settled false no w e n = absurd (n refl)
local_settled false (missing m) w e n = refl

pub not_less : (a b : ℕ) → b ≤ a → nat_lt a b ≡ false
not_less a b le = grind (arith, nat_tests)

pub is_less : (a b : ℕ) → a < b → nat_lt a b ≡ true
is_less a b lt = grind (arith, nat_tests)

-- a load
module _ (cs : List ClassFact) (m : Method Act) (w : ExpectedType) (n k : ℕ) (f : FrameFact) where
  pub load_no : (t : VerificationType) → local_of n f ≡ t → is_outside m n k ≡ false → accepts cs w t ≡ no → least (conditions cs m 0 (loads w n k) f) ≡ Some (reason 63)
  load_no t at o a = local_no (is_outside m n k) (accepts cs w (local_of n f)) (is_too_wide m (after m 0 (loads w n k) f)) o (ap (accepts cs w) at ∙ a)

  pub load_done : (t : VerificationType) (a : Outcome) (now : FrameFact) (r : Result Unit Reason) → local_of n f ≡ t → is_outside m n k ≡ false → a ≡ accepts cs w t → (a ≡ no → ⊥) → Done (settled m a (pushed (t ∷ []) f)) (pushed (t ∷ []) f) now r → Done (conditions cs m 0 (loads w n k) f) (after m 0 (loads w n k) f) now r
  load_done t a now r at o ac ne d =
      redone (conditions cs m 0 (loads w n k) f) (settled m a (pushed (t ∷ []) f)) (after m 0 (loads w n k) f) (pushed (t ∷ []) f) now r
      (local_settled (is_outside m n k) (accepts cs w (local_of n f)) (is_too_wide m (after m 0 (loads w n k) f)) o (λ e. ne (ac ∙ (sym (ap (accepts cs w) at) ∙ e)))
      ∙ ap (λ z. least (settled m (accepts cs w z) (pushed (z ∷ []) f))) at
      ∙ ap (λ z. least (settled m z (pushed (t ∷ []) f))) (sym ac))
      (ap (λ z. pushed (z ∷ []) f) at) d

-- ---- the same on a frame that operands were taken off

module _ (cs : List ClassFact) (m : Method Act) (ws : List ExpectedType) (gs : List VerificationType) (f : FrameFact) where
  took : (a : Outcome) (g : FrameFact) → TookOff cs ws f a g → Took cs ws f.stack a (beneath ws f.stack)
  took a g t = record { enough = t.enough; answer_is = t.answer_is; left_is = refl }

  pub off_done : (a : Outcome) (g now : FrameFact) (r : Result Unit Reason) → TookOff cs ws f a g → (a ≡ no → ⊥) → Done (settled m a (pushed gs g)) (pushed gs g) now r → Done (conditions cs m 0 (pops ws gs [] true) f) (after m 0 (pops ws gs [] true) f) now r
  off_done a g now r t n d = pops_done cs m ws gs f a (beneath ws f.stack) now r (took a g t) n (subst (λ z. Done (settled m a (pushed gs z)) (pushed gs z) now r) t.left_is d)

-- ---- stores

abbrev pub store_parts : Bool → Bool → Outcome → Conditions
store_parts o short a = (reason 64, o) ∷ operand_parts short a

store_no : (o s : Bool) (a : Outcome) (w : Bool) → s ≡ false → a ≡ no → least (with_depth w (store_parts o s a)) ≡ Some (reason 62)
store_no o true a w e n = cc
store_no o false yes w e n = cc
store_no true false no w e n = refl
store_no false false no w e n = refl
store_no o false (missing m) w e n = cc

store_out : (o s : Bool) (a : Outcome) (w : Bool) → o ≡ true → s ≡ false → (a ≡ no → ⊥) → least (with_depth w (store_parts o s a)) ≡ Some (reason 64)
store_out false s a w e q n = cc
store_out true true a w e q n = cc
store_out true false yes w e q n = refl
store_out true false no w e q n = absurd (n refl)
store_out true false (missing m) w e q n = refl

store_settled : (o s : Bool) (a : Outcome) (w : Bool) → o ≡ false → s ≡ false → (a ≡ no → ⊥) → least (with_depth w (store_parts o s a)) ≡ least ((reason 65, w) ∷ missing_if a ∷ [])
store_settled true s a w e q n = cc
store_settled false true a w e q n = cc
store_settled false false yes w e q n = refl
store_settled false false no w e q n = absurd (n refl)
store_settled false false (missing m) w e q n = refl

module _ (cs : List ClassFact) (m : Method Act) (w : ExpectedType) (n k : ℕ) (f : FrameFact) where
  abbrev wide_then : Bool
  wide_then = is_too_wide m (stored n f)

  module _ (t : VerificationType) (us : List VerificationType) (e : f.stack ≡ t ∷ us) where
    enough : is_short (w ∷ []) f.stack ≡ false
    enough = ap (is_short (w ∷ [])) e

    answer : operands cs (w ∷ []) f.stack ≡ accepts cs w t
    answer = ap (operands cs (w ∷ [])) e ∙ both_yes (accepts cs w t)

    pub stores_no : accepts cs w t ≡ no → least (conditions cs m 0 (stores w n k) f) ≡ Some (reason 62)
    stores_no a = store_no (is_outside m n k) (is_short (w ∷ []) f.stack) (operands cs (w ∷ []) f.stack) wide_then enough (answer ∙ a)

    pub stores_out : (a : Outcome) → a ≡ accepts cs w t → (a ≡ no → ⊥) → is_outside m n k ≡ true → least (conditions cs m 0 (stores w n k) f) ≡ Some (reason 64)
    stores_out a ac ne o = store_out (is_outside m n k) (is_short (w ∷ []) f.stack) (operands cs (w ∷ []) f.stack) wide_then o enough (λ q. ne (ac ∙ (sym answer ∙ q)))

    pub stores_done : (a : Outcome) (locals : List VerificationType) (now : FrameFact) (r : Result Unit Reason) → a ≡ accepts cs w t → (a ≡ no → ⊥) → is_outside m n k ≡ false → locals ≡ stored_type t n f.locals
        → Done (settled m a (record { locals = locals; stack = us; flag = f.flag })) (record { locals = locals; stack = us; flag = f.flag }) now r
        → Done (conditions cs m 0 (stores w n k) f) (after m 0 (stores w n k) f) now r
    stores_done a locals now r ac ne o l d =
        let g : FrameFact = record { locals = locals; stack = us; flag = f.flag } in
        let stack_is : rest_of f.stack ≡ us = ap rest_of e in
        let locals_is : stored_type (top_of f.stack) n f.locals ≡ locals = ap (λ z. stored_type (top_of z) n f.locals) e ∙ sym l in
        redone (conditions cs m 0 (stores w n k) f) (settled m a g) (after m 0 (stores w n k) f) g now r
        (store_settled (is_outside m n k) (is_short (w ∷ []) f.stack) (operands cs (w ∷ []) f.stack) wide_then o enough (λ q. ne (ac ∙ (sym answer ∙ q)))
        ∙ ap (λ z. least ((reason 65, nat_lt m.max_stack (units_of z)) ∷ missing_if (operands cs (w ∷ []) f.stack) ∷ [])) stack_is
        ∙ ap (λ z. least (settled m z g)) (answer ∙ sym ac))
        (ap (λ z. record { locals = z; stack = rest_of f.stack; flag = f.flag }) locals_is ∙ ap (λ z. record { locals = locals; stack = z; flag = f.flag }) stack_is) d

module _ (cs : List ClassFact) (m : Method Act) (w : ExpectedType) (n k : ℕ) (f g : FrameFact) (t : VerificationType) (e : f ≡ pushed (t ∷ []) g) where
  pub store_off_out : (a : Outcome) → a ≡ accepts cs w t → (a ≡ no → ⊥) → is_outside m n k ≡ true → least (conditions cs m 0 (stores w n k) f) ≡ Some (reason 64)
  store_off_out a ac ne o = stores_out cs m w n k f t g.stack (ap (λ (z : FrameFact). z.stack) e) a ac ne o

  pub store_off_done : (a : Outcome) (h now : FrameFact) (r : Result Unit Reason) → a ≡ accepts cs w t → (a ≡ no → ⊥) → is_outside m n k ≡ false → h ≡ with_locals g (stored_type t n g.locals)
      → Done (settled m a h) h now r → Done (conditions cs m 0 (stores w n k) f) (after m 0 (stores w n k) f) now r
  store_off_done a h now r ac ne o hh d =
      subst (λ z. Done (conditions cs m 0 (stores w n k) z) (after m 0 (stores w n k) z) now r) (sym e)
      (stores_done cs m w n k (pushed (t ∷ []) g) t g.stack refl a (stored_type t n g.locals) now r ac ne o refl (subst (λ z. Done (settled m a z) z now r) hh d))

-- ---- instructions that move items

abbrev pub move_parts : Bool → Bool → Conditions
move_parts few none = (reason 61, few) ∷ (reason 62, none) ∷ []

move_few : (few none w : Bool) → few ≡ true → least (with_depth w (move_parts few none)) ≡ Some (reason 61)
move_few true true w e = refl
move_few true false w e = refl
move_few false none w e = cc

move_settled : (few none w : Bool) → few ≡ false → none ≡ false → least (with_depth w (move_parts few none)) ≡ least ((reason 65, w) ∷ missing_if yes ∷ [])
move_settled true none w e n = cc
move_settled false true w e n = cc
move_settled false false true e n = refl
move_settled false false false e n = refl

module _ (cs : List ClassFact) (m : Method Act) (forms : List StackForm) (f : FrameFact) where
  pub moves_few : units_of f.stack < units_taken forms → least (conditions cs m 0 (rearranges forms) f) ≡ Some (reason 61)
  moves_few lt = move_few (nat_lt (units_of f.stack) (units_taken forms)) (is_none (form_for forms f.stack)) (is_too_wide m (after m 0 (rearranges forms) f)) (is_less _ _ lt)

  pub moves_done : (form : StackForm) (stack : List VerificationType) (now : FrameFact) (r : Result Unit Reason) → units_taken forms ≤ units_of f.stack → form_for forms f.stack ≡ Some form → stack ≡ rearranged form f.stack
      → Done (settled m yes (with_stack f stack)) (with_stack f stack) now r → Done (conditions cs m 0 (rearranges forms) f) (after m 0 (rearranges forms) f) now r
  moves_done form stack now r le e s d =
      let stack_is : rearranged_by (form_for forms f.stack) f.stack ≡ stack = ap (λ z. rearranged_by z f.stack) e ∙ sym s in
      redone (conditions cs m 0 (rearranges forms) f) (settled m yes (with_stack f stack)) (after m 0 (rearranges forms) f) (with_stack f stack) now r
      (move_settled (nat_lt (units_of f.stack) (units_taken forms)) (is_none (form_for forms f.stack)) (is_too_wide m (after m 0 (rearranges forms) f)) (not_less _ _ le) (ap is_none e)
      ∙ ap (λ z. least (settled m yes (with_stack f z))) stack_is)
      (ap (with_stack f) stack_is) d

-- ---- a return without a value, at any offset

-- ---- by a typing rule that is found

pub by_typing_rule : (m : Method Act) (at : ℕ) (p q : TypingRule) (cs : List ClassFact) (f now : FrameFact) (r : Result Unit Reason) → p ≡ q → Done (conditions cs m at q f) (after m at q f) now r → Done (conditions cs m at p f) (after m at p f) now r
by_typing_rule m at p q cs f now r e d = subst (λ z. Done (conditions cs m at z f) (after m at z f) now r) (sym e) d

-- by the typing rule of what an instruction is seen to do
pub by_act : (m : Method Act) (at : ℕ) (a b : program.Act) (cs : List ClassFact) (f now : FrameFact) (r : Result Unit Reason) → a ≡ b
    → Done (conditions cs m at (typing_rule m (act_view b)) f) (after m at (typing_rule m (act_view b)) f) now r
    → Done (conditions cs m at (typing_rule m (act_view a)) f) (after m at (typing_rule m (act_view a)) f) now r
by_act m at a b cs f now r e d = by_typing_rule m at _ _ cs f now r (ap (λ x. typing_rule m (act_view x)) e) d

-- where the typing rule is allowed
pub by_allowed : (m : Method Act) (at : ℕ) (p : TypingRule) (b : Bool) (q : TypingRule) (cs : List ClassFact) (f now : FrameFact) (r : Result Unit Reason) → p ≡ where_allowed b q → b ≡ true → Done (conditions cs m at q f) (after m at q f) now r → Done (conditions cs m at p f) (after m at p f) now r
by_allowed m at p b q cs f now r e t d = by_typing_rule m at p q cs f now r (e ∙ cond-true b q (refuses 66) t) d

-- where the instruction is judged
pub by_judged : (m : Method Act) (at : ℕ) (p : TypingRule) (b : Bool) (q : TypingRule) (cs : List ClassFact) (f now : FrameFact) (r : Result Unit Reason) → p ≡ where_judged b q → b ≡ true → Done (conditions cs m at q f) (after m at q f) now r → Done (conditions cs m at p f) (after m at p f) now r
by_judged m at p b q cs f now r e t d = by_typing_rule m at p q cs f now r (e ∙ cond-true b q (refuses 60) t) d

-- where the constant has a bootstrap method that may be used
pub by_bootstrapped : (m : Method Act) (at : ℕ) (p : TypingRule) (b : Bool) (q : TypingRule) (cs : List ClassFact) (f now : FrameFact) (r : Result Unit Reason) → p ≡ where_bootstrapped b q → b ≡ true → Done (conditions cs m at q f) (after m at q f) now r → Done (conditions cs m at p f) (after m at p f) now r
by_bootstrapped m at p b q cs f now r e t d = by_typing_rule m at p q cs f now r (e ∙ cond-true b q (refuses 90) t) d
