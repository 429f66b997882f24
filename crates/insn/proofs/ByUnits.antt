-- The shared tables in other words: kinds, arrays, and units of the stack.
use Rattle.std.proofs.Common.{◌≡◌, ◌≢◌, ℕ, true, List, [], ◌∷◌, refl, sym, ap, ◌∙◌, subst, arith, ◌⊎◌, inl, inr}
use Rattle.names.specs.declared.base.Primitive.{Primitive}
use Rattle.names.specs.declared.base.Primitive.TheVariants as primitives
use Rattle.insn.specs.declared.kinds.Kind.{Kind}
use Rattle.insn.specs.declared.kinds.Kind.TheVariants.{Int, Long, Float, Double}
use Rattle.insn.specs.declared.stack.StackPlace.{StackPlace}
use Rattle.insn.specs.declared.stack.StackPlace.TheVariants.{Narrow, Wide}
use Rattle.insn.specs.declared.stack.StackOperator.{StackOperator}
use Rattle.insn.specs.declared.stack.StackOperator.TheVariants.{Pop, Pop2, Dup, DupX1, DupX2, Dup2, Dup2X1, Dup2X2, Swap}
use Rattle.insn.specs.Operators.{StackForm, stack_forms, takes_array}
use Rattle.insn.specs.Kinds.{computed_as}
use Rattle.insn.specs.Offsets.{IsAmong}
use Rattle.insn.specs.TableLaws.{computational_rows, KindsAreRows, TakesArray, ArraysAreTaken, units_in, top_units, passed_units, IsFormFor, FormsMoveUnits}

-- ---- kinds

row_of : (p : Primitive) → IsAmong (p, computed_as p) computational_rows
row_of primitives.Boolean = inl refl
row_of primitives.Byte = inr (inl refl)
row_of primitives.Char = inr (inr (inl refl))
row_of primitives.Short = inr (inr (inr (inl refl)))
row_of primitives.Int = inr (inr (inr (inr (inl refl))))
row_of primitives.Float = inr (inr (inr (inr (inr (inl refl)))))
row_of primitives.Long = inr (inr (inr (inr (inr (inr (inl refl))))))
row_of primitives.Double = inr (inr (inr (inr (inr (inr (inr (inl refl)))))))

abbrev Row : Type 0
Row = Primitive × Kind

by_row : (p q : Primitive) (k j : Kind) → computed_as q ≡ j → ◌≡◌ {A = Row} (p, k) (q, j) → computed_as p ≡ k
by_row p q k j e same = ap (λ (x : Row). computed_as x.0) same ∙ e ∙ sym (ap (λ (x : Row). x.1) same)

kind_in_row : (p : Primitive) (k : Kind) → IsAmong (p, k) computational_rows → computed_as p ≡ k
kind_in_row p k (inl e) = by_row p primitives.Boolean k Int refl e
kind_in_row p k (inr (inl e)) = by_row p primitives.Byte k Int refl e
kind_in_row p k (inr (inr (inl e))) = by_row p primitives.Char k Int refl e
kind_in_row p k (inr (inr (inr (inl e)))) = by_row p primitives.Short k Int refl e
kind_in_row p k (inr (inr (inr (inr (inl e))))) = by_row p primitives.Int k Int refl e
kind_in_row p k (inr (inr (inr (inr (inr (inl e)))))) = by_row p primitives.Float k Float refl e
kind_in_row p k (inr (inr (inr (inr (inr (inr (inl e))))))) = by_row p primitives.Long k Long refl e
kind_in_row p k (inr (inr (inr (inr (inr (inr (inr (inl e)))))))) = by_row p primitives.Double k Double refl e
kind_in_row p k (inr (inr (inr (inr (inr (inr (inr (inr e)))))))) = elim e [ ]

pub kinds_are_rows : KindsAreRows
kinds_are_rows p k = (λ e. subst (λ j. IsAmong (p, j) computational_rows) e (row_of p), kind_in_row p k)

-- ---- arrays

own_array : (p : Primitive) → p ≢ primitives.Boolean → takes_array p p ≡ true
own_array primitives.Boolean e = absurd (e refl)
own_array primitives.Byte e = refl
own_array primitives.Char e = refl
own_array primitives.Short e = refl
own_array primitives.Int e = refl
own_array primitives.Long e = refl
own_array primitives.Float e = refl
own_array primitives.Double e = refl

is_taken : (p q : Primitive) → TakesArray p q → takes_array p q ≡ true
is_taken p q (inl e) = subst (λ z. takes_array p z ≡ true) e.1 (own_array p e.0)
is_taken p q (inr e) = ap (λ z. takes_array z q) e.0 ∙ ap (takes_array primitives.Byte) e.1

taken_where : (p q : Primitive) → takes_array p q ≡ true → TakesArray p q
taken_where primitives.Byte primitives.Byte e = inl (λ q. cc, refl)
taken_where primitives.Byte primitives.Boolean e = inr (refl, refl)
taken_where primitives.Char primitives.Char e = inl (λ q. cc, refl)
taken_where primitives.Short primitives.Short e = inl (λ q. cc, refl)
taken_where primitives.Int primitives.Int e = inl (λ q. cc, refl)
taken_where primitives.Long primitives.Long e = inl (λ q. cc, refl)
taken_where primitives.Float primitives.Float e = inl (λ q. cc, refl)
taken_where primitives.Double primitives.Double e = inl (λ q. cc, refl)
taken_where _ _ e = cc

pub arrays_are_taken : ArraysAreTaken
arrays_are_taken p q = (taken_where p q, is_taken p q)

-- ---- places of so many units

none_of : (ps : List StackPlace) → units_in ps ≡ 0 → ps ≡ []
none_of [] e = refl
none_of (Narrow ∷ ps) e = absurd (omega (arith, e))
none_of (Wide ∷ ps) e = absurd (omega (arith, e))

one_of : (ps : List StackPlace) → units_in ps ≡ 1 → ps ≡ Narrow ∷ []
one_of [] e = absurd (omega (arith, e))
one_of (Narrow ∷ ps) e = ap (λ z. Narrow ∷ z) (none_of ps (omega (arith, e)))
one_of (Wide ∷ ps) e = absurd (omega (arith, e))

two_of : (ps : List StackPlace) → units_in ps ≡ 2 → (ps ≡ Narrow ∷ Narrow ∷ []) ⊎ (ps ≡ Wide ∷ [])
two_of [] e = absurd (omega (arith, e))
two_of (Narrow ∷ ps) e = inl (ap (λ z. Narrow ∷ z) (one_of ps (omega (arith, e))))
two_of (Wide ∷ ps) e = inr (ap (λ z. Wide ∷ z) (none_of ps (omega (arith, e))))

-- ---- all forms

abbrev form : List StackPlace → List ℕ → StackForm
form takes leaves = record { takes = takes; leaves = leaves }

abbrev n1 : List StackPlace
n1 = Narrow ∷ []

abbrev n2 : List StackPlace
n2 = Narrow ∷ Narrow ∷ []

abbrev w1 : List StackPlace
w1 = Wide ∷ []

pop : IsFormFor Pop (form n1 []) n1 []
pop = record { top_size = refl; passed_size = refl; takes = refl; leaves = refl }

pop2 : IsFormFor Pop2 (form n2 []) n2 []
pop2 = record { top_size = refl; passed_size = refl; takes = refl; leaves = refl }

pop2_wide : IsFormFor Pop2 (form w1 []) w1 []
pop2_wide = record { top_size = refl; passed_size = refl; takes = refl; leaves = refl }

dup : IsFormFor Dup (form n1 (0 ∷ 0 ∷ [])) n1 []
dup = record { top_size = refl; passed_size = refl; takes = refl; leaves = refl }

dup_x1 : IsFormFor DupX1 (form n2 (0 ∷ 1 ∷ 0 ∷ [])) n1 n1
dup_x1 = record { top_size = refl; passed_size = refl; takes = refl; leaves = refl }

dup_x2 : IsFormFor DupX2 (form (Narrow ∷ n2) (0 ∷ 1 ∷ 2 ∷ 0 ∷ [])) n1 n2
dup_x2 = record { top_size = refl; passed_size = refl; takes = refl; leaves = refl }

dup_x2_wide : IsFormFor DupX2 (form (Narrow ∷ w1) (0 ∷ 1 ∷ 0 ∷ [])) n1 w1
dup_x2_wide = record { top_size = refl; passed_size = refl; takes = refl; leaves = refl }

dup2 : IsFormFor Dup2 (form n2 (0 ∷ 1 ∷ 0 ∷ 1 ∷ [])) n2 []
dup2 = record { top_size = refl; passed_size = refl; takes = refl; leaves = refl }

dup2_wide : IsFormFor Dup2 (form w1 (0 ∷ 0 ∷ [])) w1 []
dup2_wide = record { top_size = refl; passed_size = refl; takes = refl; leaves = refl }

dup2_x1 : IsFormFor Dup2X1 (form (Narrow ∷ n2) (0 ∷ 1 ∷ 2 ∷ 0 ∷ 1 ∷ [])) n2 n1
dup2_x1 = record { top_size = refl; passed_size = refl; takes = refl; leaves = refl }

dup2_x1_wide : IsFormFor Dup2X1 (form (Wide ∷ n1) (0 ∷ 1 ∷ 0 ∷ [])) w1 n1
dup2_x1_wide = record { top_size = refl; passed_size = refl; takes = refl; leaves = refl }

dup2_x2 : IsFormFor Dup2X2 (form (Narrow ∷ Narrow ∷ n2) (0 ∷ 1 ∷ 2 ∷ 3 ∷ 0 ∷ 1 ∷ [])) n2 n2
dup2_x2 = record { top_size = refl; passed_size = refl; takes = refl; leaves = refl }

dup2_x2_on_top : IsFormFor Dup2X2 (form (Wide ∷ n2) (0 ∷ 1 ∷ 2 ∷ 0 ∷ [])) w1 n2
dup2_x2_on_top = record { top_size = refl; passed_size = refl; takes = refl; leaves = refl }

dup2_x2_beneath : IsFormFor Dup2X2 (form (Narrow ∷ Narrow ∷ w1) (0 ∷ 1 ∷ 2 ∷ 0 ∷ 1 ∷ [])) n2 w1
dup2_x2_beneath = record { top_size = refl; passed_size = refl; takes = refl; leaves = refl }

dup2_x2_wide : IsFormFor Dup2X2 (form (Wide ∷ w1) (0 ∷ 1 ∷ 0 ∷ [])) w1 w1
dup2_x2_wide = record { top_size = refl; passed_size = refl; takes = refl; leaves = refl }

swap : IsFormFor Swap (form n2 (1 ∷ 0 ∷ [])) n1 n1
swap = record { top_size = refl; passed_size = refl; takes = refl; leaves = refl }

-- ---- each form, and one for all items

abbrev Each : StackOperator → StackForm → Type 0
Each op f = (top : List StackPlace) × (passed : List StackPlace) × IsFormFor op f top passed

found : (op : StackOperator) (f g : StackForm) (top passed : List StackPlace) → g ≡ f → IsFormFor op f top passed → Each op g
found op f g top passed e i = (top, passed, subst (λ z. IsFormFor op z top passed) (sym e) i)

each_form : (op : StackOperator) (f : StackForm) → IsAmong f (stack_forms op) → Each op f
each_form Pop f (inl e) = found Pop _ f _ _ e pop
each_form Pop f (inr e) = elim e [ ]
each_form Pop2 f (inl e) = found Pop2 _ f _ _ e pop2
each_form Pop2 f (inr (inl e)) = found Pop2 _ f _ _ e pop2_wide
each_form Pop2 f (inr (inr e)) = elim e [ ]
each_form Dup f (inl e) = found Dup _ f _ _ e dup
each_form Dup f (inr e) = elim e [ ]
each_form DupX1 f (inl e) = found DupX1 _ f _ _ e dup_x1
each_form DupX1 f (inr e) = elim e [ ]
each_form DupX2 f (inl e) = found DupX2 _ f _ _ e dup_x2
each_form DupX2 f (inr (inl e)) = found DupX2 _ f _ _ e dup_x2_wide
each_form DupX2 f (inr (inr e)) = elim e [ ]
each_form Dup2 f (inl e) = found Dup2 _ f _ _ e dup2
each_form Dup2 f (inr (inl e)) = found Dup2 _ f _ _ e dup2_wide
each_form Dup2 f (inr (inr e)) = elim e [ ]
each_form Dup2X1 f (inl e) = found Dup2X1 _ f _ _ e dup2_x1
each_form Dup2X1 f (inr (inl e)) = found Dup2X1 _ f _ _ e dup2_x1_wide
each_form Dup2X1 f (inr (inr e)) = elim e [ ]
each_form Dup2X2 f (inl e) = found Dup2X2 _ f _ _ e dup2_x2
each_form Dup2X2 f (inr (inl e)) = found Dup2X2 _ f _ _ e dup2_x2_on_top
each_form Dup2X2 f (inr (inr (inl e))) = found Dup2X2 _ f _ _ e dup2_x2_beneath
each_form Dup2X2 f (inr (inr (inr (inl e)))) = found Dup2X2 _ f _ _ e dup2_x2_wide
each_form Dup2X2 f (inr (inr (inr (inr e)))) = elim e [ ]
each_form Swap f (inl e) = found Swap _ f _ _ e swap
each_form Swap f (inr e) = elim e [ ]

abbrev All : StackOperator → List StackPlace → List StackPlace → Type 0
All op top passed = (f : StackForm) × IsAmong f (stack_forms op) × IsFormFor op f top passed

-- for places that are spelled out
there : (op : StackOperator) (top passed t p : List StackPlace) → top ≡ t → passed ≡ p → All op t p → All op top passed
there op top passed t p e d x = subst (λ z. All op z passed) (sym e) (subst (λ z. All op t z) (sym d) x)

abbrev Two : List StackPlace → Type 0
Two ps = (ps ≡ n2) ⊎ (ps ≡ w1)

two_on_none : (op : StackOperator) (top passed : List StackPlace) → All op n2 [] → All op w1 [] → passed ≡ [] → Two top → All op top passed
two_on_none op top passed x y d (inl e) = there op top passed n2 [] e d x
two_on_none op top passed x y d (inr e) = there op top passed w1 [] e d y

one_on_two : (op : StackOperator) (top passed : List StackPlace) → All op n1 n2 → All op n1 w1 → top ≡ n1 → Two passed → All op top passed
one_on_two op top passed x y e (inl d) = there op top passed n1 n2 e d x
one_on_two op top passed x y e (inr d) = there op top passed n1 w1 e d y

two_on_one : (op : StackOperator) (top passed : List StackPlace) → All op n2 n1 → All op w1 n1 → passed ≡ n1 → Two top → All op top passed
two_on_one op top passed x y d (inl e) = there op top passed n2 n1 e d x
two_on_one op top passed x y d (inr e) = there op top passed w1 n1 e d y

two_on_two : (op : StackOperator) (top passed : List StackPlace) → All op n2 n2 → All op w1 n2 → All op n2 w1 → All op w1 w1 → Two top → Two passed → All op top passed
two_on_two op top passed x y z u (inl e) (inl d) = there op top passed n2 n2 e d x
two_on_two op top passed x y z u (inr e) (inl d) = there op top passed w1 n2 e d y
two_on_two op top passed x y z u (inl e) (inr d) = there op top passed n2 w1 e d z
two_on_two op top passed x y z u (inr e) (inr d) = there op top passed w1 w1 e d u

all_items : (op : StackOperator) (top passed : List StackPlace) → units_in top ≡ top_units op → units_in passed ≡ passed_units op → All op top passed
all_items Pop top passed e d = there Pop top passed n1 [] (one_of top e) (none_of passed d) (_, inl refl, pop)
all_items Pop2 top passed e d = two_on_none Pop2 top passed (_, inl refl, pop2) (_, inr (inl refl), pop2_wide) (none_of passed d) (two_of top e)
all_items Dup top passed e d = there Dup top passed n1 [] (one_of top e) (none_of passed d) (_, inl refl, dup)
all_items DupX1 top passed e d = there DupX1 top passed n1 n1 (one_of top e) (one_of passed d) (_, inl refl, dup_x1)
all_items DupX2 top passed e d = one_on_two DupX2 top passed (_, inl refl, dup_x2) (_, inr (inl refl), dup_x2_wide) (one_of top e) (two_of passed d)
all_items Dup2 top passed e d = two_on_none Dup2 top passed (_, inl refl, dup2) (_, inr (inl refl), dup2_wide) (none_of passed d) (two_of top e)
all_items Dup2X1 top passed e d = two_on_one Dup2X1 top passed (_, inl refl, dup2_x1) (_, inr (inl refl), dup2_x1_wide) (one_of passed d) (two_of top e)
all_items Dup2X2 top passed e d =
    two_on_two Dup2X2 top passed (_, inl refl, dup2_x2) (_, inr (inl refl), dup2_x2_on_top) (_, inr (inr (inl refl)), dup2_x2_beneath)
    (_, inr (inr (inr (inl refl))), dup2_x2_wide) (two_of top e) (two_of passed d)
all_items Swap top passed e d = there Swap top passed n1 n1 (one_of top e) (one_of passed d) (_, inl refl, swap)

pub forms_move_units : FormsMoveUnits
forms_move_units op = record { each = each_form op; all = all_items op }
