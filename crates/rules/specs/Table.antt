-- The typing rule of each instruction (JVMS 4.10.1.9).
use Rattle.std.specs.Prelude.{ℕ, true, false, if◌then◌else◌, List, [], ◌∷◌, Option, Some, None}
use Rattle.names.specs.Descriptors.{FieldDescriptor, primitive, class as class_descriptor, array as array_descriptor}
use Rattle.names.specs.ReferenceTypes.{class_type, array_type}
use Rattle.names.specs.StandardNames.{object_name, throwable_name}
use Rattle.pool.specs.ConstantMeanings.{constant_at, class_at, field_at, method_at, dynamic_type_at, call_site_at}
use Rattle.classfile.specs.Methods.{Method}
use Rattle.insn.specs.declared.kinds.Kind.{Kind}
use Rattle.insn.specs.declared.kinds.Kind.TheVariants as kinds
use Rattle.insn.specs.Kinds.{kind_units, computed_as, same_kind}
use Rattle.insn.specs.Operators.{numeric_row, stack_forms}
use Rattle.insn.specs.Offsets.{at_offset}
use Rattle.insn.specs.Meanings as acts
use Rattle.insn.specs.Meanings.{Act}
use Rattle.frames.specs.VerificationType.{int, null}
use Rattle.frames.specs.Slots.{number_type}
use Rattle.rules.specs.ReasonNumbers.{not_supported, wrong_return}
use Rattle.rules.specs.TypingRules.{ExpectedType, number, assignable_to, any_reference, any_array, any_array_for, TypingRule, pops, loads, stores, increments, rearranges, loads_element, makes, returns, refuses, takes, gives, expected_class, numbers}
use Rattle.rules.specs.Constants.{is_bootstrapped, load_constant, load_wide_constant, get_static, put_static, get_field, put_field, invoke_static, invoke_virtual, invoke_interface, invoke_special, invoke_dynamic, new_object, new_array, new_reference_array, new_multi_array, check_cast, instance_of}

-- ---- returns: an instruction of another kind than the method's result is refused by wrong_return (76)

-- it takes an operand, and does not go on
abbrev pub leaves_with : ExpectedType → TypingRule
leaves_with expected = pops (expected ∷ []) [] [] false

abbrev pub return_number : Option FieldDescriptor → Kind → TypingRule
return_number (Some (primitive p)) kind = if same_kind (computed_as p) kind then leaves_with (number kind)
    else refuses wrong_return
return_number _ kind = refuses wrong_return

abbrev pub return_reference : Option FieldDescriptor → TypingRule
return_reference (Some (class_descriptor name)) = leaves_with (assignable_to (class_type name))
return_reference (Some (array_descriptor component)) = leaves_with (assignable_to (array_type component))
return_reference _ = refuses wrong_return

abbrev pub return_nothing : Option FieldDescriptor → TypingRule
return_nothing None = returns
return_nothing (Some t) = refuses wrong_return

-- ---- all instructions: each case stands below the mnemonics of its instructions (JVMS 4.10.1.9, 6.5)

-- any array of references
abbrev pub object_array : ExpectedType
object_array = assignable_to (array_type (class_descriptor object_name))

abbrev pub typing_rule : Method Act → Act → TypingRule
-- nop
typing_rule m acts.Nothing = takes []
-- iconst_<i>, lconst_<l>, fconst_<f>, dconst_<d>, bipush, sipush
typing_rule m (acts.Constant kind) = gives (number_type kind)
-- aconst_null
typing_rule m acts.ConstantNull = gives null
-- ldc, ldc_w
typing_rule m (acts.LoadConstant i) =
    load_constant m (dynamic_type_at m.constant_pool i) (constant_at m.constant_pool i)
-- ldc2_w
typing_rule m (acts.LoadWideConstant i) =
    load_wide_constant m (dynamic_type_at m.constant_pool i) (constant_at m.constant_pool i)
-- iload, iload_<n>, lload, lload_<n>, fload, fload_<n>, dload, dload_<n>
typing_rule m (acts.Load kind n) = loads (number kind) n (kind_units kind)
-- aload, aload_<n>
typing_rule m (acts.LoadReference n) = loads any_reference n 1
-- istore, istore_<n>, lstore, lstore_<n>, fstore, fstore_<n>, dstore, dstore_<n>
typing_rule m (acts.Store kind n) = stores (number kind) n (kind_units kind)
-- astore, astore_<n>
typing_rule m (acts.StoreReference n) = stores any_reference n 1
-- iinc
typing_rule m (acts.Increment n) = increments n
-- iadd, ladd, fadd, dadd, and so sub, mul, div, rem, neg; ishl, lshl, ishr, lshr, iushr, lushr; iand, land, ior, lor,
-- ixor, lxor; i2l, i2f, i2d, l2i, l2f, l2d, f2i, f2l, f2d, d2i, d2l, d2f, i2b, i2c, i2s; lcmp, fcmp<op>, dcmp<op>
typing_rule m (acts.Numeric operator) =
    pops (numbers (numeric_row operator).taken) (number_type (numeric_row operator).given ∷ []) [] true
-- pop, pop2, dup, dup_x1, dup_x2, dup2, dup2_x1, dup2_x2, swap
typing_rule m (acts.Stack operator) = rearranges (stack_forms operator)
-- if<cond>: ifeq, ifne, iflt, ifge, ifgt, ifle
typing_rule m (acts.IfInt offset) = pops (number kinds.Int ∷ []) [] (offset ∷ []) true
-- if_icmp<cond>: if_icmpeq, if_icmpne, if_icmplt, if_icmpge, if_icmpgt, if_icmple
typing_rule m (acts.IfInts offset) = pops (number kinds.Int ∷ number kinds.Int ∷ []) [] (offset ∷ []) true
-- if_acmp<cond>: if_acmpeq, if_acmpne
typing_rule m (acts.IfReferences offset) = pops (any_reference ∷ any_reference ∷ []) [] (offset ∷ []) true
-- ifnull, ifnonnull
typing_rule m (acts.IfNull offset) = pops (any_reference ∷ []) [] (offset ∷ []) true
-- goto, goto_w
typing_rule m (acts.Goto offset) = pops [] [] (offset ∷ []) false
-- tableswitch, lookupswitch
typing_rule m (acts.Switch default offsets) = pops (number kinds.Int ∷ []) [] (default ∷ offsets) false
-- ireturn, lreturn, freturn, dreturn
typing_rule m (acts.Return kind) = return_number m.type.result kind
-- areturn
typing_rule m acts.ReturnReference = return_reference m.type.result
-- return
typing_rule m acts.ReturnVoid = return_nothing m.type.result
-- getstatic
typing_rule m (acts.GetStatic i) = get_static (field_at m.constant_pool i)
-- putstatic
typing_rule m (acts.PutStatic i) = put_static (field_at m.constant_pool i)
-- getfield
typing_rule m (acts.GetField i) = get_field (field_at m.constant_pool i)
-- putfield
typing_rule m (acts.PutField i) = put_field m (field_at m.constant_pool i)
-- invokevirtual
typing_rule m (acts.InvokeVirtual i) = invoke_virtual (method_at m.constant_pool i)
-- invokespecial
typing_rule m (acts.InvokeSpecial i) = invoke_special m.major_version m.class (method_at m.constant_pool i)
-- invokestatic
typing_rule m (acts.InvokeStatic i) = invoke_static m.major_version (method_at m.constant_pool i)
-- invokeinterface
typing_rule m (acts.InvokeInterface i count) = invoke_interface count (method_at m.constant_pool i)
-- invokedynamic
typing_rule m (acts.InvokeDynamic i) =
    invoke_dynamic m (is_bootstrapped m (constant_at m.constant_pool i)) (call_site_at m.constant_pool i)
-- new
typing_rule m (acts.New i) = new_object (class_at m.constant_pool i)
-- iaload, laload, faload, daload, baload, caload, saload
typing_rule m (acts.LoadElement p) =
    pops (number kinds.Int ∷ any_array_for p ∷ []) (number_type (computed_as p) ∷ []) [] true
-- iastore, lastore, fastore, dastore, bastore, castore, sastore
typing_rule m (acts.StoreElement p) = takes (number (computed_as p) ∷ number kinds.Int ∷ any_array_for p ∷ [])
-- aaload
typing_rule m acts.LoadReferenceElement = loads_element
-- aastore
typing_rule m acts.StoreReferenceElement = takes (expected_class object_name ∷ number kinds.Int ∷ object_array ∷ [])
-- arraylength
typing_rule m acts.ArrayLength = pops (any_array ∷ []) (int ∷ []) [] true
-- newarray
typing_rule m (acts.NewArray element) = new_array element
-- anewarray
typing_rule m (acts.NewReferenceArray i) = new_reference_array (class_at m.constant_pool i)
-- multianewarray
typing_rule m (acts.NewMultiArray i n) = new_multi_array n (class_at m.constant_pool i)
-- checkcast
typing_rule m (acts.CheckCast i) = check_cast (class_at m.constant_pool i)
-- instanceof
typing_rule m (acts.InstanceOf i) = instance_of (class_at m.constant_pool i)
-- athrow
typing_rule m acts.Throw = leaves_with (expected_class throwable_name)
-- monitorenter, monitorexit
typing_rule m acts.Monitor = takes (any_reference ∷ [])
-- jsr, jsr_w, ret
typing_rule m acts.Unsupported = refuses not_supported

-- a table of typing rules: for a method and an act the typing rule
abbrev pub TypingRules : Type 0
TypingRules = Method Act → Act → TypingRule

-- ---- the class of the object that a `new` makes

abbrev pub class_made : TypingRule → Option (List ℕ)
class_made (makes name) = Some name
class_made _ = None

abbrev pub made_by : Method Act → Option Act → Option (List ℕ)
made_by m None = None
made_by m (Some act) = class_made (typing_rule m act)

abbrev pub class_made_at : Method Act → ℕ → Option (List ℕ)
class_made_at m at = made_by m (at_offset m.code at)
