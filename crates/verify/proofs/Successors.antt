-- Where each instruction goes, by its typing rule: as its act says; and where it branches, its rule needs no class.
use Rattle.std.proofs.Common.{◌≡◌, ◌⊎◌, ℕ, ◌<◌, Bool, true, false, ◌&&◌, ℤ, List, [], ◌∷◌, Option, Some, None, refl, sym, ◌∙◌, arith, inl, inr}
use Rattle.classfile.specs.Methods.{Method}
use Rattle.hierarchy.specs.Class.{ClassFact}
use Rattle.hierarchy.specs.Answer.{Outcome, yes, no, missing}
use Rattle.insn.specs.declared.kinds.Kind.TheVariants as kinds
use Rattle.insn.specs.Meanings as acts
use Rattle.insn.specs.Meanings.{Act}
use Rattle.frames.specs.VerificationType.{VerificationType, top, int, float, long, double, null, class, array, uninit_this, uninit}
use Rattle.frames.specs.FrameAssignable.{both}
use Rattle.frames.specs.FrameFact.{FrameFact}
use Rattle.frames.specs.Conditions.{Reason, reason, Conditions, least, is_no, missing_if}
use Rattle.rules.specs.TypingRules.{ExpectedType, number, any_reference, TypingRule, pops, offsets_of}
use Rattle.rules.specs.Table.{typing_rule}
use Rattle.rules.proofs.Directions.{WayOf, way_of}
use Rattle.rules.specs.After.{after}
use Rattle.rules.specs.Rules.{accepts, is_short, operands, gives_frame, is_too_wide, conditions}
use Rattle.rules.specs.Ways.{goes_on, branch_offsets}

-- no reason, or one of those that only a rule gives
abbrev pub IsEarly : Option Reason → Type 0
IsEarly o = (o ≡ None) ⊎ ((n : ℕ) × (o ≡ Some (reason n)) × (n < 67))

-- no condition of a typing rule needs a class
abbrev pub IsCalm : TypingRule → Type 0
IsCalm p = (classes : List ClassFact) (m : Method Act) (at : ℕ) (f : FrameFact) → IsEarly (least (conditions classes m at p f))

-- the typing rule goes where the act says; where it branches, it needs no class
pub record IsWay (a : Act) (p : TypingRule) : Type 0 where
  pub way : WayOf a p
  pub calm : (offsets_of p ≡ []) ⊎ IsCalm p

-- ---- typing rules that branch

abbrev IsDecided : Outcome → Type 0
IsDecided yes = Unit {0}
IsDecided no = Unit {0}
IsDecided (missing name) = ⊥

both_decided : (a b : Outcome) → IsDecided a → IsDecided b → IsDecided (both a b)
both_decided yes b p q = q
both_decided no b p q = tt
both_decided (missing n) b p q = absurd p

int_decided : (classes : List ClassFact) (t : VerificationType) → IsDecided (accepts classes (number kinds.Int) t)
int_decided classes top = tt
int_decided classes int = tt
int_decided classes float = tt
int_decided classes long = tt
int_decided classes double = tt
int_decided classes null = tt
int_decided classes (class name) = tt
int_decided classes (array component) = tt
int_decided classes uninit_this = tt
int_decided classes (uninit offset) = tt

reference_decided : (classes : List ClassFact) (t : VerificationType) → IsDecided (accepts classes any_reference t)
reference_decided classes top = tt
reference_decided classes int = tt
reference_decided classes float = tt
reference_decided classes long = tt
reference_decided classes double = tt
reference_decided classes null = tt
reference_decided classes (class name) = tt
reference_decided classes (array component) = tt
reference_decided classes uninit_this = tt
reference_decided classes (uninit offset) = tt

abbrev AreDecided : List ExpectedType → Type 0
AreDecided [] = Unit {0}
AreDecided (w ∷ ws) = ((classes : List ClassFact) (t : VerificationType) → IsDecided (accepts classes w t)) × AreDecided ws

operands_decided : (classes : List ClassFact) (ws : List ExpectedType) (ts : List VerificationType) → AreDecided ws → IsDecided (operands classes ws ts)
operands_decided classes [] ts d = tt
operands_decided classes (w ∷ ws) [] d = tt
operands_decided classes (w ∷ ws) (t ∷ ts) d = both_decided (accepts classes w t) (operands classes ws ts) (d.0 classes t) (operands_decided classes ws ts d.1)

parts_early : (short wide : Bool) (a : Outcome) → IsDecided a
    → (let family : Conditions = (reason 61, short) ∷ (reason 62, is_no a) ∷ missing_if a ∷ [] in IsEarly (least ((reason 65, gives_frame family && wide) ∷ family)))
parts_early true wide yes d = inr (61, refl, omega arith)
parts_early true wide no d = inr (61, refl, omega arith)
parts_early false true yes d = inr (65, refl, omega arith)
parts_early false false yes d = inl refl
parts_early false wide no d = inr (62, refl, omega arith)
parts_early short wide (missing n) d = absurd d

branch_calm : (ws : List ExpectedType) (offsets : List ℤ) (on : Bool) → AreDecided ws → IsCalm (pops ws [] offsets on)
branch_calm ws offsets on d = λ classes m at f.
    parts_early (is_short ws f.stack) (is_too_wide m (after m at (pops ws [] offsets on) f)) (operands classes ws f.stack) (operands_decided classes ws f.stack d)

branches : (a : Act) (ws : List ExpectedType) (offsets : List ℤ) (on : Bool) → goes_on a ≡ on → branch_offsets a ≡ offsets → AreDecided ws → IsWay a (pops ws [] offsets on)
branches a ws offsets on e o d = record { way = record { falls_on = e; branches = o; elsewise = refl }; calm = inr (branch_calm ws offsets on d) }

-- ---- typing rules that do not

nowhere : (m : Method Act) (a : Act) → branch_offsets a ≡ [] → IsWay a (typing_rule m a)
nowhere m a none = record {
  way = way_of m a;
  calm = inl (sym (way_of m a).branches ∙ none);
}

-- ---- all acts

pub ways : (m : Method Act) (a : Act) → IsWay a (typing_rule m a)
ways m (acts.IfInt offset) = branches (acts.IfInt offset) (number kinds.Int ∷ []) (offset ∷ []) true refl refl (int_decided, tt)
ways m (acts.IfInts offset) =
    branches (acts.IfInts offset) (number kinds.Int ∷ number kinds.Int ∷ []) (offset ∷ []) true refl refl (int_decided, (int_decided, tt))
ways m (acts.IfReferences offset) =
    branches (acts.IfReferences offset) (any_reference ∷ any_reference ∷ []) (offset ∷ []) true refl refl (reference_decided, (reference_decided, tt))
ways m (acts.IfNull offset) = branches (acts.IfNull offset) (any_reference ∷ []) (offset ∷ []) true refl refl (reference_decided, tt)
ways m (acts.Goto offset) = branches (acts.Goto offset) [] (offset ∷ []) false refl refl tt
ways m (acts.Switch default offsets) =
    branches (acts.Switch default offsets) (number kinds.Int ∷ []) (default ∷ offsets) false refl refl (int_decided, tt)
ways m acts.Nothing = nowhere m acts.Nothing refl
ways m (acts.Constant kind) = nowhere m (acts.Constant kind) refl
ways m acts.ConstantNull = nowhere m acts.ConstantNull refl
ways m (acts.LoadConstant i) = nowhere m (acts.LoadConstant i) refl
ways m (acts.LoadWideConstant i) = nowhere m (acts.LoadWideConstant i) refl
ways m (acts.Load kind n) = nowhere m (acts.Load kind n) refl
ways m (acts.LoadReference n) = nowhere m (acts.LoadReference n) refl
ways m (acts.Store kind n) = nowhere m (acts.Store kind n) refl
ways m (acts.StoreReference n) = nowhere m (acts.StoreReference n) refl
ways m (acts.Increment n) = nowhere m (acts.Increment n) refl
ways m (acts.Numeric operator) = nowhere m (acts.Numeric operator) refl
ways m (acts.Stack operator) = nowhere m (acts.Stack operator) refl
ways m (acts.Return kind) = nowhere m (acts.Return kind) refl
ways m acts.ReturnReference = nowhere m acts.ReturnReference refl
ways m acts.ReturnVoid = nowhere m acts.ReturnVoid refl
ways m (acts.GetStatic i) = nowhere m (acts.GetStatic i) refl
ways m (acts.PutStatic i) = nowhere m (acts.PutStatic i) refl
ways m (acts.GetField i) = nowhere m (acts.GetField i) refl
ways m (acts.PutField i) = nowhere m (acts.PutField i) refl
ways m (acts.InvokeVirtual i) = nowhere m (acts.InvokeVirtual i) refl
ways m (acts.InvokeSpecial i) = nowhere m (acts.InvokeSpecial i) refl
ways m (acts.InvokeStatic i) = nowhere m (acts.InvokeStatic i) refl
ways m (acts.InvokeInterface i count) = nowhere m (acts.InvokeInterface i count) refl
ways m (acts.InvokeDynamic i) = nowhere m (acts.InvokeDynamic i) refl
ways m (acts.New i) = nowhere m (acts.New i) refl
ways m (acts.LoadElement p) = nowhere m (acts.LoadElement p) refl
ways m (acts.StoreElement p) = nowhere m (acts.StoreElement p) refl
ways m acts.LoadReferenceElement = nowhere m acts.LoadReferenceElement refl
ways m acts.StoreReferenceElement = nowhere m acts.StoreReferenceElement refl
ways m acts.ArrayLength = nowhere m acts.ArrayLength refl
ways m (acts.NewArray element) = nowhere m (acts.NewArray element) refl
ways m (acts.NewReferenceArray i) = nowhere m (acts.NewReferenceArray i) refl
ways m (acts.NewMultiArray i n) = nowhere m (acts.NewMultiArray i n) refl
ways m (acts.CheckCast i) = nowhere m (acts.CheckCast i) refl
ways m (acts.InstanceOf i) = nowhere m (acts.InstanceOf i) refl
ways m acts.Throw = nowhere m acts.Throw refl
ways m acts.Monitor = nowhere m acts.Monitor refl
ways m acts.Unsupported = nowhere m acts.Unsupported refl
