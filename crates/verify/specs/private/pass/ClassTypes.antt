-- The numbers that the types of a class get before the code of its methods is judged.
use Rattle.std.specs.Prelude.{ℕ, List, Option, None, option_map, slice_get, slice_index_or, ◌≡◌, Some}
use Rattle.names.specs.StandardNames.{object_name, throwable_name}
use Rattle.pool.specs.ConstantMeanings.{class_at}
use Rattle.classfile.specs.Values.{Class, Member}
use Rattle.classfile.specs.Methods.{Method, Receiver, no_receiver, ready_receiver, own_receiver, class_named, superclass_of}
use Rattle.classfile.specs.MethodParts.{or_empty}
use Rattle.insn.specs.Meanings.{Act}
use Rattle.frames.specs.VerificationType.{VerificationType, class as class_of, uninit_this}
use Rattle.type_numbers.specs.Numbers.{Numbering, IsNumber, IsNumberOf}
use Rattle.type_numbers.specs.Constants.{IsTable, arguments_of}
use Rattle.type_numbers.specs.MethodNumbers.{AreTypesOf, method_in}
use Rattle.type_numbers.specs.declared.method_numbers.MethodNumbers.{MethodNumbers}
use Rattle.numbered_rules.specs.Expected.{objects as array_of_objects}
use Rattle.verify.specs.declared.pass.class_numbers.ClassNumbers.{ClassNumbers}
use Rattle.verify.specs.declared.pass.class_types.ClassTypes.{ClassTypes}

-- those that the rules of the instructions of all methods ask for
pub record AreClassNumbers (s : Numbering) (own : List ℕ) (above : Option (List ℕ)) (x : ClassNumbers)
    : Type 0 where
  pub object : IsNumber s x.object (class_of object_name)
  pub objects : IsNumber s x.objects array_of_objects
  pub throwable : IsNumber s x.throwable (class_of throwable_name)
  pub class : IsNumber s x.class (class_of own)
  pub superclass : IsNumberOf s x.superclass (option_map class_of above)

-- those that the descriptor of each method names
abbrev pub AreMethodTypes : Numbering → List ℕ → Class → List (Option MethodNumbers) → Type 0
AreMethodTypes s row c xs = (n : ℕ) (m : Member) → slice_get c.methods n ≡ Some m
    → AreTypesOf s row (slice_index_or xs n None) (method_in c.constant_pool m.descriptor)

pub record AreClassTypes (s : Numbering) (c : Class) (x : ClassTypes) : Type 0 where
  pub numbers : AreClassNumbers s (or_empty (class_named (class_at c.constant_pool c.this_class)))
      (superclass_of c.constant_pool c.super_class) x.numbers
  pub table : IsTable s c.constant_pool x.table
  pub methods : AreMethodTypes s (arguments_of x.table) c x.methods.items

-- the type of a receiver
abbrev pub receiver_type : Method Act → Receiver → Option VerificationType
receiver_type m no_receiver = None
receiver_type m ready_receiver = Some (class_of m.class)
receiver_type m own_receiver = Some uninit_this
