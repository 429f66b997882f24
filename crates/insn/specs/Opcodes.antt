-- The instruction set (JVMS 6.5, 7): each opcode's number, the standard's name for it, what stands after it, and what
-- it means.
use Rattle.std.specs.Prelude.{ℕ, List, [], ◌∷◌, Option, slice_get, codes}
use Rattle.names.specs.declared.base.Primitive.TheVariants as primitives
use Rattle.insn.specs.declared.kinds.Kind.TheVariants as kinds
use Rattle.insn.specs.declared.acts.Meaning.{Meaning}
use Rattle.insn.specs.declared.acts.Meaning.TheVariants as means
use Rattle.insn.specs.declared.operators.NumericOperator.TheVariants as numerics
use Rattle.insn.specs.declared.stack.StackOperator.TheVariants as stacks
use Rattle.insn.specs.declared.table.Form.{Form}
use Rattle.insn.specs.declared.table.Form.TheVariants as forms
use Rattle.insn.specs.declared.opcode.Opcode.{Opcode}
use Rattle.insn.specs.declared.opcode.Opcode.TheVariants.{Nop, AconstNull, IconstM1, Iconst0, Iconst1, Iconst2, Iconst3, Iconst4, Iconst5, Lconst0, Lconst1, Fconst0, Fconst1, Fconst2, Dconst0, Dconst1, Bipush, Sipush, Ldc, LdcW, Ldc2W, Iload, Lload, Fload, Dload, Aload, Iload0, Iload1, Iload2, Iload3, Lload0, Lload1, Lload2, Lload3, Fload0, Fload1, Fload2, Fload3, Dload0, Dload1, Dload2, Dload3, Aload0, Aload1, Aload2, Aload3, Iaload, Laload, Faload, Daload, Aaload, Baload, Caload, Saload, Istore, Lstore, Fstore, Dstore, Astore, Istore0, Istore1, Istore2, Istore3, Lstore0, Lstore1, Lstore2, Lstore3, Fstore0, Fstore1, Fstore2, Fstore3, Dstore0, Dstore1, Dstore2, Dstore3, Astore0, Astore1, Astore2, Astore3, Iastore, Lastore, Fastore, Dastore, Aastore, Bastore, Castore, Sastore, Pop, Pop2, Dup, DupX1, DupX2, Dup2, Dup2X1, Dup2X2, Swap, Iadd, Ladd, Fadd, Dadd, Isub, Lsub, Fsub, Dsub, Imul, Lmul, Fmul, Dmul, Idiv, Ldiv, Fdiv, Ddiv, Irem, Lrem, Frem, Drem, Ineg, Lneg, Fneg, Dneg, Ishl, Lshl, Ishr, Lshr, Iushr, Lushr, Iand, Land, Ior, Lor, Ixor, Lxor, Iinc, I2l, I2f, I2d, L2i, L2f, L2d, F2i, F2l, F2d, D2i, D2l, D2f, I2b, I2c, I2s, Lcmp, Fcmpl, Fcmpg, Dcmpl, Dcmpg, Ifeq, Ifne, Iflt, Ifge, Ifgt, Ifle, IfIcmpeq, IfIcmpne, IfIcmplt, IfIcmpge, IfIcmpgt, IfIcmple, IfAcmpeq, IfAcmpne, Goto, Jsr, Ret, Tableswitch, Lookupswitch, Ireturn, Lreturn, Freturn, Dreturn, Areturn, Return, Getstatic, Putstatic, Getfield, Putfield, Invokevirtual, Invokespecial, Invokestatic, Invokeinterface, Invokedynamic, New, Newarray, Anewarray, Arraylength, Athrow, Checkcast, Instanceof, Monitorenter, Monitorexit, Wide, Multianewarray, Ifnull, Ifnonnull, GotoW, JsrW}

pub record Row : Type 0 where
  pub number : ℕ
  pub mnemonic : List ℕ
  pub form : Form
  pub meaning : Meaning

abbrev with_form : Form → ℕ → List ℕ → Meaning → Row
with_form form number mnemonic meaning = record { number = number; mnemonic = mnemonic; form = form; meaning = meaning }

abbrev pub row : Opcode → Row
row Nop = with_form forms.Nothing 0 (codes "nop") means.Nothing
row AconstNull = with_form forms.Nothing 1 (codes "aconst_null") means.ConstantNull
row IconstM1 = with_form forms.Nothing 2 (codes "iconst_m1") (means.Constant kinds.Int)
row Iconst0 = with_form forms.Nothing 3 (codes "iconst_0") (means.Constant kinds.Int)
row Iconst1 = with_form forms.Nothing 4 (codes "iconst_1") (means.Constant kinds.Int)
row Iconst2 = with_form forms.Nothing 5 (codes "iconst_2") (means.Constant kinds.Int)
row Iconst3 = with_form forms.Nothing 6 (codes "iconst_3") (means.Constant kinds.Int)
row Iconst4 = with_form forms.Nothing 7 (codes "iconst_4") (means.Constant kinds.Int)
row Iconst5 = with_form forms.Nothing 8 (codes "iconst_5") (means.Constant kinds.Int)
row Lconst0 = with_form forms.Nothing 9 (codes "lconst_0") (means.Constant kinds.Long)
row Lconst1 = with_form forms.Nothing 10 (codes "lconst_1") (means.Constant kinds.Long)
row Fconst0 = with_form forms.Nothing 11 (codes "fconst_0") (means.Constant kinds.Float)
row Fconst1 = with_form forms.Nothing 12 (codes "fconst_1") (means.Constant kinds.Float)
row Fconst2 = with_form forms.Nothing 13 (codes "fconst_2") (means.Constant kinds.Float)
row Dconst0 = with_form forms.Nothing 14 (codes "dconst_0") (means.Constant kinds.Double)
row Dconst1 = with_form forms.Nothing 15 (codes "dconst_1") (means.Constant kinds.Double)
row Bipush = with_form forms.Byte 16 (codes "bipush") (means.Constant kinds.Int)
row Sipush = with_form forms.Short 17 (codes "sipush") (means.Constant kinds.Int)
row Ldc = with_form forms.Constant 18 (codes "ldc") means.LoadConstant
row LdcW = with_form forms.Index 19 (codes "ldc_w") means.LoadConstant
row Ldc2W = with_form forms.Index 20 (codes "ldc2_w") means.LoadWideConstant
row Iload = with_form forms.Local 21 (codes "iload") (means.Load kinds.Int)
row Lload = with_form forms.Local 22 (codes "lload") (means.Load kinds.Long)
row Fload = with_form forms.Local 23 (codes "fload") (means.Load kinds.Float)
row Dload = with_form forms.Local 24 (codes "dload") (means.Load kinds.Double)
row Aload = with_form forms.Local 25 (codes "aload") means.LoadReference
row Iload0 = with_form forms.Nothing 26 (codes "iload_0") (means.LoadFrom kinds.Int 0)
row Iload1 = with_form forms.Nothing 27 (codes "iload_1") (means.LoadFrom kinds.Int 1)
row Iload2 = with_form forms.Nothing 28 (codes "iload_2") (means.LoadFrom kinds.Int 2)
row Iload3 = with_form forms.Nothing 29 (codes "iload_3") (means.LoadFrom kinds.Int 3)
row Lload0 = with_form forms.Nothing 30 (codes "lload_0") (means.LoadFrom kinds.Long 0)
row Lload1 = with_form forms.Nothing 31 (codes "lload_1") (means.LoadFrom kinds.Long 1)
row Lload2 = with_form forms.Nothing 32 (codes "lload_2") (means.LoadFrom kinds.Long 2)
row Lload3 = with_form forms.Nothing 33 (codes "lload_3") (means.LoadFrom kinds.Long 3)
row Fload0 = with_form forms.Nothing 34 (codes "fload_0") (means.LoadFrom kinds.Float 0)
row Fload1 = with_form forms.Nothing 35 (codes "fload_1") (means.LoadFrom kinds.Float 1)
row Fload2 = with_form forms.Nothing 36 (codes "fload_2") (means.LoadFrom kinds.Float 2)
row Fload3 = with_form forms.Nothing 37 (codes "fload_3") (means.LoadFrom kinds.Float 3)
row Dload0 = with_form forms.Nothing 38 (codes "dload_0") (means.LoadFrom kinds.Double 0)
row Dload1 = with_form forms.Nothing 39 (codes "dload_1") (means.LoadFrom kinds.Double 1)
row Dload2 = with_form forms.Nothing 40 (codes "dload_2") (means.LoadFrom kinds.Double 2)
row Dload3 = with_form forms.Nothing 41 (codes "dload_3") (means.LoadFrom kinds.Double 3)
row Aload0 = with_form forms.Nothing 42 (codes "aload_0") (means.LoadReferenceFrom 0)
row Aload1 = with_form forms.Nothing 43 (codes "aload_1") (means.LoadReferenceFrom 1)
row Aload2 = with_form forms.Nothing 44 (codes "aload_2") (means.LoadReferenceFrom 2)
row Aload3 = with_form forms.Nothing 45 (codes "aload_3") (means.LoadReferenceFrom 3)
row Iaload = with_form forms.Nothing 46 (codes "iaload") (means.LoadElement primitives.Int)
row Laload = with_form forms.Nothing 47 (codes "laload") (means.LoadElement primitives.Long)
row Faload = with_form forms.Nothing 48 (codes "faload") (means.LoadElement primitives.Float)
row Daload = with_form forms.Nothing 49 (codes "daload") (means.LoadElement primitives.Double)
row Aaload = with_form forms.Nothing 50 (codes "aaload") means.LoadReferenceElement
row Baload = with_form forms.Nothing 51 (codes "baload") (means.LoadElement primitives.Byte)
row Caload = with_form forms.Nothing 52 (codes "caload") (means.LoadElement primitives.Char)
row Saload = with_form forms.Nothing 53 (codes "saload") (means.LoadElement primitives.Short)
row Istore = with_form forms.Local 54 (codes "istore") (means.Store kinds.Int)
row Lstore = with_form forms.Local 55 (codes "lstore") (means.Store kinds.Long)
row Fstore = with_form forms.Local 56 (codes "fstore") (means.Store kinds.Float)
row Dstore = with_form forms.Local 57 (codes "dstore") (means.Store kinds.Double)
row Astore = with_form forms.Local 58 (codes "astore") means.StoreReference
row Istore0 = with_form forms.Nothing 59 (codes "istore_0") (means.StoreTo kinds.Int 0)
row Istore1 = with_form forms.Nothing 60 (codes "istore_1") (means.StoreTo kinds.Int 1)
row Istore2 = with_form forms.Nothing 61 (codes "istore_2") (means.StoreTo kinds.Int 2)
row Istore3 = with_form forms.Nothing 62 (codes "istore_3") (means.StoreTo kinds.Int 3)
row Lstore0 = with_form forms.Nothing 63 (codes "lstore_0") (means.StoreTo kinds.Long 0)
row Lstore1 = with_form forms.Nothing 64 (codes "lstore_1") (means.StoreTo kinds.Long 1)
row Lstore2 = with_form forms.Nothing 65 (codes "lstore_2") (means.StoreTo kinds.Long 2)
row Lstore3 = with_form forms.Nothing 66 (codes "lstore_3") (means.StoreTo kinds.Long 3)
row Fstore0 = with_form forms.Nothing 67 (codes "fstore_0") (means.StoreTo kinds.Float 0)
row Fstore1 = with_form forms.Nothing 68 (codes "fstore_1") (means.StoreTo kinds.Float 1)
row Fstore2 = with_form forms.Nothing 69 (codes "fstore_2") (means.StoreTo kinds.Float 2)
row Fstore3 = with_form forms.Nothing 70 (codes "fstore_3") (means.StoreTo kinds.Float 3)
row Dstore0 = with_form forms.Nothing 71 (codes "dstore_0") (means.StoreTo kinds.Double 0)
row Dstore1 = with_form forms.Nothing 72 (codes "dstore_1") (means.StoreTo kinds.Double 1)
row Dstore2 = with_form forms.Nothing 73 (codes "dstore_2") (means.StoreTo kinds.Double 2)
row Dstore3 = with_form forms.Nothing 74 (codes "dstore_3") (means.StoreTo kinds.Double 3)
row Astore0 = with_form forms.Nothing 75 (codes "astore_0") (means.StoreReferenceTo 0)
row Astore1 = with_form forms.Nothing 76 (codes "astore_1") (means.StoreReferenceTo 1)
row Astore2 = with_form forms.Nothing 77 (codes "astore_2") (means.StoreReferenceTo 2)
row Astore3 = with_form forms.Nothing 78 (codes "astore_3") (means.StoreReferenceTo 3)
row Iastore = with_form forms.Nothing 79 (codes "iastore") (means.StoreElement primitives.Int)
row Lastore = with_form forms.Nothing 80 (codes "lastore") (means.StoreElement primitives.Long)
row Fastore = with_form forms.Nothing 81 (codes "fastore") (means.StoreElement primitives.Float)
row Dastore = with_form forms.Nothing 82 (codes "dastore") (means.StoreElement primitives.Double)
row Aastore = with_form forms.Nothing 83 (codes "aastore") means.StoreReferenceElement
row Bastore = with_form forms.Nothing 84 (codes "bastore") (means.StoreElement primitives.Byte)
row Castore = with_form forms.Nothing 85 (codes "castore") (means.StoreElement primitives.Char)
row Sastore = with_form forms.Nothing 86 (codes "sastore") (means.StoreElement primitives.Short)
row Pop = with_form forms.Nothing 87 (codes "pop") (means.Stack stacks.Pop)
row Pop2 = with_form forms.Nothing 88 (codes "pop2") (means.Stack stacks.Pop2)
row Dup = with_form forms.Nothing 89 (codes "dup") (means.Stack stacks.Dup)
row DupX1 = with_form forms.Nothing 90 (codes "dup_x1") (means.Stack stacks.DupX1)
row DupX2 = with_form forms.Nothing 91 (codes "dup_x2") (means.Stack stacks.DupX2)
row Dup2 = with_form forms.Nothing 92 (codes "dup2") (means.Stack stacks.Dup2)
row Dup2X1 = with_form forms.Nothing 93 (codes "dup2_x1") (means.Stack stacks.Dup2X1)
row Dup2X2 = with_form forms.Nothing 94 (codes "dup2_x2") (means.Stack stacks.Dup2X2)
row Swap = with_form forms.Nothing 95 (codes "swap") (means.Stack stacks.Swap)
row Iadd = with_form forms.Nothing 96 (codes "iadd") (means.Numeric numerics.Iadd)
row Ladd = with_form forms.Nothing 97 (codes "ladd") (means.Numeric numerics.Ladd)
row Fadd = with_form forms.Nothing 98 (codes "fadd") (means.Numeric numerics.Fadd)
row Dadd = with_form forms.Nothing 99 (codes "dadd") (means.Numeric numerics.Dadd)
row Isub = with_form forms.Nothing 100 (codes "isub") (means.Numeric numerics.Isub)
row Lsub = with_form forms.Nothing 101 (codes "lsub") (means.Numeric numerics.Lsub)
row Fsub = with_form forms.Nothing 102 (codes "fsub") (means.Numeric numerics.Fsub)
row Dsub = with_form forms.Nothing 103 (codes "dsub") (means.Numeric numerics.Dsub)
row Imul = with_form forms.Nothing 104 (codes "imul") (means.Numeric numerics.Imul)
row Lmul = with_form forms.Nothing 105 (codes "lmul") (means.Numeric numerics.Lmul)
row Fmul = with_form forms.Nothing 106 (codes "fmul") (means.Numeric numerics.Fmul)
row Dmul = with_form forms.Nothing 107 (codes "dmul") (means.Numeric numerics.Dmul)
row Idiv = with_form forms.Nothing 108 (codes "idiv") (means.Numeric numerics.Idiv)
row Ldiv = with_form forms.Nothing 109 (codes "ldiv") (means.Numeric numerics.Ldiv)
row Fdiv = with_form forms.Nothing 110 (codes "fdiv") (means.Numeric numerics.Fdiv)
row Ddiv = with_form forms.Nothing 111 (codes "ddiv") (means.Numeric numerics.Ddiv)
row Irem = with_form forms.Nothing 112 (codes "irem") (means.Numeric numerics.Irem)
row Lrem = with_form forms.Nothing 113 (codes "lrem") (means.Numeric numerics.Lrem)
row Frem = with_form forms.Nothing 114 (codes "frem") (means.Numeric numerics.Frem)
row Drem = with_form forms.Nothing 115 (codes "drem") (means.Numeric numerics.Drem)
row Ineg = with_form forms.Nothing 116 (codes "ineg") (means.Numeric numerics.Ineg)
row Lneg = with_form forms.Nothing 117 (codes "lneg") (means.Numeric numerics.Lneg)
row Fneg = with_form forms.Nothing 118 (codes "fneg") (means.Numeric numerics.Fneg)
row Dneg = with_form forms.Nothing 119 (codes "dneg") (means.Numeric numerics.Dneg)
row Ishl = with_form forms.Nothing 120 (codes "ishl") (means.Numeric numerics.Ishl)
row Lshl = with_form forms.Nothing 121 (codes "lshl") (means.Numeric numerics.Lshl)
row Ishr = with_form forms.Nothing 122 (codes "ishr") (means.Numeric numerics.Ishr)
row Lshr = with_form forms.Nothing 123 (codes "lshr") (means.Numeric numerics.Lshr)
row Iushr = with_form forms.Nothing 124 (codes "iushr") (means.Numeric numerics.Iushr)
row Lushr = with_form forms.Nothing 125 (codes "lushr") (means.Numeric numerics.Lushr)
row Iand = with_form forms.Nothing 126 (codes "iand") (means.Numeric numerics.Iand)
row Land = with_form forms.Nothing 127 (codes "land") (means.Numeric numerics.Land)
row Ior = with_form forms.Nothing 128 (codes "ior") (means.Numeric numerics.Ior)
row Lor = with_form forms.Nothing 129 (codes "lor") (means.Numeric numerics.Lor)
row Ixor = with_form forms.Nothing 130 (codes "ixor") (means.Numeric numerics.Ixor)
row Lxor = with_form forms.Nothing 131 (codes "lxor") (means.Numeric numerics.Lxor)
row Iinc = with_form forms.Increment 132 (codes "iinc") means.Increment
row I2l = with_form forms.Nothing 133 (codes "i2l") (means.Numeric numerics.I2l)
row I2f = with_form forms.Nothing 134 (codes "i2f") (means.Numeric numerics.I2f)
row I2d = with_form forms.Nothing 135 (codes "i2d") (means.Numeric numerics.I2d)
row L2i = with_form forms.Nothing 136 (codes "l2i") (means.Numeric numerics.L2i)
row L2f = with_form forms.Nothing 137 (codes "l2f") (means.Numeric numerics.L2f)
row L2d = with_form forms.Nothing 138 (codes "l2d") (means.Numeric numerics.L2d)
row F2i = with_form forms.Nothing 139 (codes "f2i") (means.Numeric numerics.F2i)
row F2l = with_form forms.Nothing 140 (codes "f2l") (means.Numeric numerics.F2l)
row F2d = with_form forms.Nothing 141 (codes "f2d") (means.Numeric numerics.F2d)
row D2i = with_form forms.Nothing 142 (codes "d2i") (means.Numeric numerics.D2i)
row D2l = with_form forms.Nothing 143 (codes "d2l") (means.Numeric numerics.D2l)
row D2f = with_form forms.Nothing 144 (codes "d2f") (means.Numeric numerics.D2f)
row I2b = with_form forms.Nothing 145 (codes "i2b") (means.Numeric numerics.I2b)
row I2c = with_form forms.Nothing 146 (codes "i2c") (means.Numeric numerics.I2c)
row I2s = with_form forms.Nothing 147 (codes "i2s") (means.Numeric numerics.I2s)
row Lcmp = with_form forms.Nothing 148 (codes "lcmp") (means.Numeric numerics.Lcmp)
row Fcmpl = with_form forms.Nothing 149 (codes "fcmpl") (means.Numeric numerics.Fcmpl)
row Fcmpg = with_form forms.Nothing 150 (codes "fcmpg") (means.Numeric numerics.Fcmpg)
row Dcmpl = with_form forms.Nothing 151 (codes "dcmpl") (means.Numeric numerics.Dcmpl)
row Dcmpg = with_form forms.Nothing 152 (codes "dcmpg") (means.Numeric numerics.Dcmpg)
row Ifeq = with_form forms.Branch 153 (codes "ifeq") means.IfInt
row Ifne = with_form forms.Branch 154 (codes "ifne") means.IfInt
row Iflt = with_form forms.Branch 155 (codes "iflt") means.IfInt
row Ifge = with_form forms.Branch 156 (codes "ifge") means.IfInt
row Ifgt = with_form forms.Branch 157 (codes "ifgt") means.IfInt
row Ifle = with_form forms.Branch 158 (codes "ifle") means.IfInt
row IfIcmpeq = with_form forms.Branch 159 (codes "if_icmpeq") means.IfInts
row IfIcmpne = with_form forms.Branch 160 (codes "if_icmpne") means.IfInts
row IfIcmplt = with_form forms.Branch 161 (codes "if_icmplt") means.IfInts
row IfIcmpge = with_form forms.Branch 162 (codes "if_icmpge") means.IfInts
row IfIcmpgt = with_form forms.Branch 163 (codes "if_icmpgt") means.IfInts
row IfIcmple = with_form forms.Branch 164 (codes "if_icmple") means.IfInts
row IfAcmpeq = with_form forms.Branch 165 (codes "if_acmpeq") means.IfReferences
row IfAcmpne = with_form forms.Branch 166 (codes "if_acmpne") means.IfReferences
row Goto = with_form forms.Branch 167 (codes "goto") means.Goto
row Jsr = with_form forms.Branch 168 (codes "jsr") means.Unsupported
row Ret = with_form forms.Local 169 (codes "ret") means.Unsupported
row Tableswitch = with_form forms.TableSwitch 170 (codes "tableswitch") means.Switch
row Lookupswitch = with_form forms.LookupSwitch 171 (codes "lookupswitch") means.Switch
row Ireturn = with_form forms.Nothing 172 (codes "ireturn") (means.Return kinds.Int)
row Lreturn = with_form forms.Nothing 173 (codes "lreturn") (means.Return kinds.Long)
row Freturn = with_form forms.Nothing 174 (codes "freturn") (means.Return kinds.Float)
row Dreturn = with_form forms.Nothing 175 (codes "dreturn") (means.Return kinds.Double)
row Areturn = with_form forms.Nothing 176 (codes "areturn") means.ReturnReference
row Return = with_form forms.Nothing 177 (codes "return") means.ReturnVoid
row Getstatic = with_form forms.Index 178 (codes "getstatic") means.GetStatic
row Putstatic = with_form forms.Index 179 (codes "putstatic") means.PutStatic
row Getfield = with_form forms.Index 180 (codes "getfield") means.GetField
row Putfield = with_form forms.Index 181 (codes "putfield") means.PutField
row Invokevirtual = with_form forms.Index 182 (codes "invokevirtual") means.InvokeVirtual
row Invokespecial = with_form forms.Index 183 (codes "invokespecial") means.InvokeSpecial
row Invokestatic = with_form forms.Index 184 (codes "invokestatic") means.InvokeStatic
row Invokeinterface = with_form forms.InvokeInterface 185 (codes "invokeinterface") means.InvokeInterface
row Invokedynamic = with_form forms.InvokeDynamic 186 (codes "invokedynamic") means.InvokeDynamic
row New = with_form forms.Index 187 (codes "new") means.New
row Newarray = with_form forms.NewArray 188 (codes "newarray") means.NewArray
row Anewarray = with_form forms.Index 189 (codes "anewarray") means.NewReferenceArray
row Arraylength = with_form forms.Nothing 190 (codes "arraylength") means.ArrayLength
row Athrow = with_form forms.Nothing 191 (codes "athrow") means.Throw
row Checkcast = with_form forms.Index 192 (codes "checkcast") means.CheckCast
row Instanceof = with_form forms.Index 193 (codes "instanceof") means.InstanceOf
row Monitorenter = with_form forms.Nothing 194 (codes "monitorenter") means.Monitor
row Monitorexit = with_form forms.Nothing 195 (codes "monitorexit") means.Monitor
row Wide = with_form forms.Wide 196 (codes "wide") means.Unsupported
row Multianewarray = with_form forms.MultiNewArray 197 (codes "multianewarray") means.NewMultiArray
row Ifnull = with_form forms.Branch 198 (codes "ifnull") means.IfNull
row Ifnonnull = with_form forms.Branch 199 (codes "ifnonnull") means.IfNull
row GotoW = with_form forms.WideBranch 200 (codes "goto_w") means.Goto
row JsrW = with_form forms.WideBranch 201 (codes "jsr_w") means.Unsupported

abbrev pub number : Opcode → ℕ
number o = (row o).number

abbrev pub mnemonic : Opcode → List ℕ
mnemonic o = (row o).mnemonic

abbrev pub form : Opcode → Form
form o = (row o).form

abbrev pub meaning : Opcode → Meaning
meaning o = (row o).meaning

-- the opcodes in the order of their numbers
abbrev pub opcodes : List Opcode
opcodes =
    Nop ∷ AconstNull ∷ IconstM1 ∷ Iconst0 ∷ Iconst1 ∷ Iconst2 ∷ Iconst3 ∷ Iconst4 ∷
    Iconst5 ∷ Lconst0 ∷ Lconst1 ∷ Fconst0 ∷ Fconst1 ∷ Fconst2 ∷ Dconst0 ∷ Dconst1 ∷
    Bipush ∷ Sipush ∷ Ldc ∷ LdcW ∷ Ldc2W ∷ Iload ∷ Lload ∷ Fload ∷
    Dload ∷ Aload ∷ Iload0 ∷ Iload1 ∷ Iload2 ∷ Iload3 ∷ Lload0 ∷ Lload1 ∷
    Lload2 ∷ Lload3 ∷ Fload0 ∷ Fload1 ∷ Fload2 ∷ Fload3 ∷ Dload0 ∷ Dload1 ∷
    Dload2 ∷ Dload3 ∷ Aload0 ∷ Aload1 ∷ Aload2 ∷ Aload3 ∷ Iaload ∷ Laload ∷
    Faload ∷ Daload ∷ Aaload ∷ Baload ∷ Caload ∷ Saload ∷ Istore ∷ Lstore ∷
    Fstore ∷ Dstore ∷ Astore ∷ Istore0 ∷ Istore1 ∷ Istore2 ∷ Istore3 ∷ Lstore0 ∷
    Lstore1 ∷ Lstore2 ∷ Lstore3 ∷ Fstore0 ∷ Fstore1 ∷ Fstore2 ∷ Fstore3 ∷ Dstore0 ∷
    Dstore1 ∷ Dstore2 ∷ Dstore3 ∷ Astore0 ∷ Astore1 ∷ Astore2 ∷ Astore3 ∷ Iastore ∷
    Lastore ∷ Fastore ∷ Dastore ∷ Aastore ∷ Bastore ∷ Castore ∷ Sastore ∷ Pop ∷
    Pop2 ∷ Dup ∷ DupX1 ∷ DupX2 ∷ Dup2 ∷ Dup2X1 ∷ Dup2X2 ∷ Swap ∷
    Iadd ∷ Ladd ∷ Fadd ∷ Dadd ∷ Isub ∷ Lsub ∷ Fsub ∷ Dsub ∷
    Imul ∷ Lmul ∷ Fmul ∷ Dmul ∷ Idiv ∷ Ldiv ∷ Fdiv ∷ Ddiv ∷
    Irem ∷ Lrem ∷ Frem ∷ Drem ∷ Ineg ∷ Lneg ∷ Fneg ∷ Dneg ∷
    Ishl ∷ Lshl ∷ Ishr ∷ Lshr ∷ Iushr ∷ Lushr ∷ Iand ∷ Land ∷
    Ior ∷ Lor ∷ Ixor ∷ Lxor ∷ Iinc ∷ I2l ∷ I2f ∷ I2d ∷
    L2i ∷ L2f ∷ L2d ∷ F2i ∷ F2l ∷ F2d ∷ D2i ∷ D2l ∷
    D2f ∷ I2b ∷ I2c ∷ I2s ∷ Lcmp ∷ Fcmpl ∷ Fcmpg ∷ Dcmpl ∷
    Dcmpg ∷ Ifeq ∷ Ifne ∷ Iflt ∷ Ifge ∷ Ifgt ∷ Ifle ∷ IfIcmpeq ∷
    IfIcmpne ∷ IfIcmplt ∷ IfIcmpge ∷ IfIcmpgt ∷ IfIcmple ∷ IfAcmpeq ∷ IfAcmpne ∷ Goto ∷
    Jsr ∷ Ret ∷ Tableswitch ∷ Lookupswitch ∷ Ireturn ∷ Lreturn ∷ Freturn ∷ Dreturn ∷
    Areturn ∷ Return ∷ Getstatic ∷ Putstatic ∷ Getfield ∷ Putfield ∷ Invokevirtual ∷ Invokespecial ∷
    Invokestatic ∷ Invokeinterface ∷ Invokedynamic ∷ New ∷ Newarray ∷ Anewarray ∷ Arraylength ∷ Athrow ∷
    Checkcast ∷ Instanceof ∷ Monitorenter ∷ Monitorexit ∷ Wide ∷ Multianewarray ∷ Ifnull ∷ Ifnonnull ∷
    GotoW ∷ JsrW ∷ []

-- the opcode of this number: none from 202 on
abbrev pub opcode_of : ℕ → Option Opcode
opcode_of n = slice_get opcodes n
