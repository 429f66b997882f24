-- The method that runs, as the program keeps it.
use Rattle.std.specs.Prelude.{ℕ, List, map, length, option_map}
use Rattle.names.specs.Types.{type_of}
use Rattle.pool.specs.ConstantMeanings.{class_at}
use Rattle.classfile.specs.Methods.{Method, ExceptionEntry, judged_bootstraps, stack_map_of, class_named, superclass_of, names_at, declared_fields}
use Rattle.classfile.specs.MethodParts.{or_empty, params_at}
use Rattle.classfile.specs.Views.{class_view, code_view}
use Rattle.insn.specs.declared.instruction.Insn as insns
use Rattle.insn.specs.Meanings.{Act}
use Rattle.insn.specs.Offsets.{acts}
use Rattle.insn.specs.Views.{views}
use Rattle.machine.specs.declared.body.ExceptionEntry.{ExceptionEntry as RawEntry}
use Rattle.machine.specs.declared.body.Method.{Method as RawMethod}
use Rattle.machine.specs.Views.{run_type_view}

abbrev pub entry_view : RawEntry → ExceptionEntry
entry_view e = record { from = e.from; to = e.to; handler = e.handler; caught = run_type_view e.caught }

abbrev pub code_of : List (ℕ × insns.Insn) → List (ℕ × Act)
code_of list = acts (views list)

abbrev pub method_view : RawMethod → Method Act
method_view m =
    let c = class_view m.declared.class.now in
    let code = code_view m.declared.code.now in
    record {
      code = code_of m.list.items;
      code_length = length code.code;
      max_stack = code.max_stack;
      max_locals = code.max_locals;
      exceptions = map entry_view m.exceptions.items;
      stack_map = stack_map_of code.attributes;
      constant_pool = c.constant_pool;
      major_version = c.major_version;
      class = or_empty (class_named (class_at c.constant_pool c.this_class));
      superclass = superclass_of c.constant_pool c.super_class;
      interfaces = names_at c.constant_pool c.interfaces;
      fields = declared_fields c.constant_pool c.fields;
      is_static = m.declared.is_static;
      is_init = m.declared.is_init;
      type = record { params = params_at c m.declared.number; result = option_map type_of m.declared.result_type };
      bootstraps = judged_bootstraps (record { file = c; dynamic = m.declared.dynamic });
      dynamic = m.declared.dynamic;
      release = c.release;
    }
