-- Operators: what numeric instructions take and give, what the instructions for the stack move, and which arrays
-- element instructions take (JVMS 2.11, 6.5).
use Rattle.std.specs.Prelude.{ℕ, Bool, true, false, List, [], ◌∷◌}
use Rattle.names.specs.declared.base.Primitive.{Primitive}
use Rattle.names.specs.declared.base.Primitive.TheVariants as primitives
use Rattle.insn.specs.declared.kinds.Kind.{Kind}
use Rattle.insn.specs.declared.kinds.Kind.TheVariants.{Int, Long, Float, Double}
use Rattle.insn.specs.declared.operators.NumericOperator.{NumericOperator}
use Rattle.insn.specs.declared.operators.NumericOperator.TheVariants.{Iadd, Ladd, Fadd, Dadd, Isub, Lsub, Fsub, Dsub, Imul, Lmul, Fmul, Dmul, Idiv, Ldiv, Fdiv, Ddiv, Irem, Lrem, Frem, Drem, Ineg, Lneg, Fneg, Dneg, Ishl, Lshl, Ishr, Lshr, Iushr, Lushr, Iand, Land, Ior, Lor, Ixor, Lxor, I2l, I2f, I2d, L2i, L2f, L2d, F2i, F2l, F2d, D2i, D2l, D2f, I2b, I2c, I2s, Lcmp, Fcmpl, Fcmpg, Dcmpl, Dcmpg}
use Rattle.insn.specs.declared.stack.StackPlace.{StackPlace}
use Rattle.insn.specs.declared.stack.StackPlace.TheVariants.{Narrow, Wide}
use Rattle.insn.specs.declared.stack.StackOperator.{StackOperator}
use Rattle.insn.specs.declared.stack.StackOperator.TheVariants.{Pop, Pop2, Dup, DupX1, DupX2, Dup2, Dup2X1, Dup2X2, Swap}

-- ---- numeric instructions

-- the kinds of the numbers taken, the top of the stack first, and the kind of the one given
pub record NumericRow : Type 0 where
  pub taken : List Kind
  pub given : Kind

abbrev one : Kind → Kind → NumericRow
one taken given = record { taken = taken ∷ []; given = given }

abbrev two : Kind → Kind → Kind → NumericRow
two top below given = record { taken = top ∷ below ∷ []; given = given }

abbrev pub numeric_row : NumericOperator → NumericRow
numeric_row Iadd = two Int Int Int
numeric_row Ladd = two Long Long Long
numeric_row Fadd = two Float Float Float
numeric_row Dadd = two Double Double Double
numeric_row Isub = two Int Int Int
numeric_row Lsub = two Long Long Long
numeric_row Fsub = two Float Float Float
numeric_row Dsub = two Double Double Double
numeric_row Imul = two Int Int Int
numeric_row Lmul = two Long Long Long
numeric_row Fmul = two Float Float Float
numeric_row Dmul = two Double Double Double
numeric_row Idiv = two Int Int Int
numeric_row Ldiv = two Long Long Long
numeric_row Fdiv = two Float Float Float
numeric_row Ddiv = two Double Double Double
numeric_row Irem = two Int Int Int
numeric_row Lrem = two Long Long Long
numeric_row Frem = two Float Float Float
numeric_row Drem = two Double Double Double
numeric_row Ineg = one Int Int
numeric_row Lneg = one Long Long
numeric_row Fneg = one Float Float
numeric_row Dneg = one Double Double
numeric_row Ishl = two Int Int Int
numeric_row Lshl = two Int Long Long
numeric_row Ishr = two Int Int Int
numeric_row Lshr = two Int Long Long
numeric_row Iushr = two Int Int Int
numeric_row Lushr = two Int Long Long
numeric_row Iand = two Int Int Int
numeric_row Land = two Long Long Long
numeric_row Ior = two Int Int Int
numeric_row Lor = two Long Long Long
numeric_row Ixor = two Int Int Int
numeric_row Lxor = two Long Long Long
numeric_row I2l = one Int Long
numeric_row I2f = one Int Float
numeric_row I2d = one Int Double
numeric_row L2i = one Long Int
numeric_row L2f = one Long Float
numeric_row L2d = one Long Double
numeric_row F2i = one Float Int
numeric_row F2l = one Float Long
numeric_row F2d = one Float Double
numeric_row D2i = one Double Int
numeric_row D2l = one Double Long
numeric_row D2f = one Double Float
numeric_row I2b = one Int Int
numeric_row I2c = one Int Int
numeric_row I2s = one Int Int
numeric_row Lcmp = two Long Long Int
numeric_row Fcmpl = two Float Float Int
numeric_row Fcmpg = two Float Float Int
numeric_row Dcmpl = two Double Double Int
numeric_row Dcmpg = two Double Double Int

-- the operators in their order
abbrev pub numeric_operators : List NumericOperator
numeric_operators =
    Iadd ∷ Ladd ∷ Fadd ∷ Dadd ∷ Isub ∷ Lsub ∷ Fsub ∷ Dsub ∷
    Imul ∷ Lmul ∷ Fmul ∷ Dmul ∷ Idiv ∷ Ldiv ∷ Fdiv ∷ Ddiv ∷
    Irem ∷ Lrem ∷ Frem ∷ Drem ∷ Ineg ∷ Lneg ∷ Fneg ∷ Dneg ∷
    Ishl ∷ Lshl ∷ Ishr ∷ Lshr ∷ Iushr ∷ Lushr ∷ Iand ∷ Land ∷
    Ior ∷ Lor ∷ Ixor ∷ Lxor ∷ I2l ∷ I2f ∷ I2d ∷ L2i ∷
    L2f ∷ L2d ∷ F2i ∷ F2l ∷ F2d ∷ D2i ∷ D2l ∷ D2f ∷
    I2b ∷ I2c ∷ I2s ∷ Lcmp ∷ Fcmpl ∷ Fcmpg ∷ Dcmpl ∷ Dcmpg ∷ []

-- ---- instructions for the stack

-- the places taken, the top first, and the places that stand then, each by its number among those taken (JVMS 2.11.1,
-- computational types of category 1 and 2)
pub record StackForm : Type 0 where
  pub takes : List StackPlace
  pub leaves : List ℕ

abbrev stack_form : List StackPlace → List ℕ → StackForm
stack_form takes leaves = record { takes = takes; leaves = leaves }

-- the forms of an instruction, at most one of which fits what is on the stack
abbrev pub stack_forms : StackOperator → List StackForm
stack_forms Pop = stack_form (Narrow ∷ []) [] ∷ []
stack_forms Pop2 = stack_form (Narrow ∷ Narrow ∷ []) [] ∷ stack_form (Wide ∷ []) [] ∷ []
stack_forms Dup = stack_form (Narrow ∷ []) (0 ∷ 0 ∷ []) ∷ []
stack_forms DupX1 = stack_form (Narrow ∷ Narrow ∷ []) (0 ∷ 1 ∷ 0 ∷ []) ∷ []
stack_forms DupX2 = stack_form (Narrow ∷ Narrow ∷ Narrow ∷ []) (0 ∷ 1 ∷ 2 ∷ 0 ∷ [])
    ∷ stack_form (Narrow ∷ Wide ∷ []) (0 ∷ 1 ∷ 0 ∷ []) ∷ []
stack_forms Dup2 = stack_form (Narrow ∷ Narrow ∷ []) (0 ∷ 1 ∷ 0 ∷ 1 ∷ []) ∷ stack_form (Wide ∷ []) (0 ∷ 0 ∷ []) ∷ []
stack_forms Dup2X1 = stack_form (Narrow ∷ Narrow ∷ Narrow ∷ []) (0 ∷ 1 ∷ 2 ∷ 0 ∷ 1 ∷ [])
    ∷ stack_form (Wide ∷ Narrow ∷ []) (0 ∷ 1 ∷ 0 ∷ []) ∷ []
stack_forms Dup2X2 =
    stack_form (Narrow ∷ Narrow ∷ Narrow ∷ Narrow ∷ []) (0 ∷ 1 ∷ 2 ∷ 3 ∷ 0 ∷ 1 ∷ [])
    ∷ stack_form (Wide ∷ Narrow ∷ Narrow ∷ []) (0 ∷ 1 ∷ 2 ∷ 0 ∷ [])
    ∷ stack_form (Narrow ∷ Narrow ∷ Wide ∷ []) (0 ∷ 1 ∷ 2 ∷ 0 ∷ 1 ∷ [])
    ∷ stack_form (Wide ∷ Wide ∷ []) (0 ∷ 1 ∷ 0 ∷ [])
    ∷ []
stack_forms Swap = stack_form (Narrow ∷ Narrow ∷ []) (1 ∷ 0 ∷ []) ∷ []

-- the operators in their order
abbrev pub stack_operators : List StackOperator
stack_operators = Pop ∷ Pop2 ∷ Dup ∷ DupX1 ∷ DupX2 ∷ Dup2 ∷ Dup2X1 ∷ Dup2X2 ∷ Swap ∷ []

-- ---- arrays

-- an element instruction for the first type takes arrays of the second: bytes stand for booleans too
abbrev pub takes_array : Primitive → Primitive → Bool
takes_array primitives.Byte primitives.Byte = true
takes_array primitives.Byte primitives.Boolean = true
takes_array primitives.Char primitives.Char = true
takes_array primitives.Short primitives.Short = true
takes_array primitives.Int primitives.Int = true
takes_array primitives.Long primitives.Long = true
takes_array primitives.Float primitives.Float = true
takes_array primitives.Double primitives.Double = true
takes_array _ _ = false
