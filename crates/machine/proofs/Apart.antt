-- No stack fits two forms of one instruction.
use Rattle.std.proofs.Common.{◌≡◌, Bool, true, false, ◌||◌, List, [], ◌∷◌, ◌⊎◌, inl, inr, sym, refl, ◌∙◌, subst}
use Rattle.std.proofs.lemmas.Bool.{or_cases}
use Rattle.insn.specs.declared.stack.StackOperator.{StackOperator}
use Rattle.insn.specs.declared.stack.StackOperator.TheVariants.{Pop, Pop2, Dup, DupX1, DupX2, Dup2, Dup2X1, Dup2X2, Swap}
use Rattle.insn.specs.declared.stack.StackPlace.{StackPlace}
use Rattle.insn.specs.declared.stack.StackPlace.TheVariants.{Narrow, Wide}
use Rattle.insn.specs.Operators.{StackForm, stack_forms}
use Rattle.insn.specs.Offsets.{IsAmong}
use Rattle.machine.specs.Values.{Value}
use Rattle.machine.specs.Demands.{AreForm}

abbrev pub differ : StackPlace → StackPlace → Bool
differ Narrow Narrow = false
differ Narrow Wide = true
differ Wide Narrow = true
differ Wide Wide = false

abbrev pub apart : List StackPlace → List StackPlace → Bool
apart [] qs = false
apart (p ∷ ps) [] = false
apart (p ∷ ps) (q ∷ qs) = differ p q || apart ps qs

differ_ne : (p q : StackPlace) → differ p q ≡ true → p ≡ q → ⊥
differ_ne Narrow Wide e f = cc
differ_ne Wide Narrow e f = cc
differ_ne Narrow Narrow e f = cc
differ_ne Wide Wide e f = cc

apart_not : (ps qs : List StackPlace) (vs : List Value) → apart ps qs ≡ true → AreForm ps vs → AreForm qs vs → ⊥
apart_not [] qs vs e f g = cc
apart_not (p ∷ ps) [] vs e f g = cc
apart_not (p ∷ ps) (q ∷ qs) [] e f g = f
apart_not (p ∷ ps) (q ∷ qs) (v ∷ vs) e f g = go (λ d. apart_not ps qs vs d f.1 g.1) (or_cases (differ p q) _ e)
  where
    go : (apart ps qs ≡ true → ⊥) → (differ p q ≡ true) ⊎ (apart ps qs ≡ true) → ⊥
    go rec (inl d) = differ_ne p q d (f.0 ∙ sym g.0)
    go rec (inr d) = rec d

abbrev pub ApartFrom : StackForm → List StackForm → Type 0
ApartFrom f [] = Unit {0}
ApartFrom f (g ∷ gs) = (apart f.takes g.takes ≡ true) × ApartFrom f gs

abbrev pub AllApart : List StackForm → Type 0
AllApart [] = Unit {0}
AllApart (f ∷ fs) = ApartFrom f fs × AllApart fs

pub table_apart : (op : StackOperator) → AllApart (stack_forms op)
table_apart Pop = (tt, tt)
table_apart Pop2 = ((refl, tt), (tt, tt))
table_apart Dup = (tt, tt)
table_apart DupX1 = (tt, tt)
table_apart DupX2 = ((refl, tt), (tt, tt))
table_apart Dup2 = ((refl, tt), (tt, tt))
table_apart Dup2X1 = ((refl, tt), (tt, tt))
table_apart Dup2X2 = ((refl, (refl, (refl, tt))), ((refl, (refl, tt)), ((refl, tt), (tt, tt))))
table_apart Swap = (tt, tt)

apart_among : (f g : StackForm) (gs : List StackForm) (vs : List Value) → ApartFrom f gs → IsAmong g gs → AreForm f.takes vs → AreForm g.takes vs → ⊥
apart_among f g [] vs a m x y = m
apart_among f g (k ∷ ks) vs a (inl e) x y = apart_not f.takes k.takes vs a.0 x (subst (λ z. AreForm z.takes vs) e y)
apart_among f g (k ∷ ks) vs a (inr m) x y = apart_among f g ks vs a.1 m x y

pub one_form : (fs : List StackForm) (f g : StackForm) (vs : List Value) → AllApart fs → IsAmong f fs → IsAmong g fs → AreForm f.takes vs → AreForm g.takes vs → f ≡ g
one_form [] f g vs a m n x y = elim m [ ]
one_form (k ∷ ks) f g vs a (inl m) (inl n) x y = m ∙ sym n
one_form (k ∷ ks) f g vs a (inl m) (inr n) x y = absurd (apart_among k g ks vs a.0 n (subst (λ z. AreForm z.takes vs) m x) y)
one_form (k ∷ ks) f g vs a (inr m) (inl n) x y = absurd (apart_among k f ks vs a.0 m (subst (λ z. AreForm z.takes vs) n y) x)
one_form (k ∷ ks) f g vs a (inr m) (inr n) x y = one_form ks f g vs a.1 m n x y
