-- Verdicts on methods with branches and stack maps, for the eye: one for each reason that comes with them. Nothing
-- stands on it.
use Rattle.std.proofs.Common.{◌≡◌, ℕ, pos, negsuc, true, false, List, [], ◌∷◌, Option, Some, None, codes, refl}
use Rattle.classfile.specs.Methods.{Method}
use Rattle.insn.specs.declared.kinds.Kind.TheVariants.{Int, Long}
use Rattle.insn.specs.declared.stack.StackOperator.TheVariants.{Pop}
use Rattle.insn.specs.Meanings.{Act, Nothing, Constant, Load, Store, Increment, Stack, IfInt, Goto, Switch, ReturnVoid}
use Rattle.layout.specs.Format as formats
use Rattle.layout.specs.declared.fault.ReadFault.TheVariants.{BadFrameType}
use Rattle.frames.specs.Conditions.{reason}
use Rattle.frames.specs.StackMaps as maps
use Rattle.rules.specs.Table.{typing_rule}
use Rattle.verify.specs.Verdict.{verified, refused, map_refused, unreadable, undeclared, verdict}

-- a static method without parameters, with this map and code, a stack of two units and one local variable
abbrev method : Option (List ℕ) → List (ℕ × Act) → Method Act
method map code = record {
  code = code;
  code_length = 10;
  max_stack = 2;
  max_locals = 1;
  exceptions = [];
  stack_map = map;
  constant_pool = [];
  major_version = 52;
  class = codes "K";
  superclass = Some (codes "java/lang/Object");
  interfaces = [];
  fields = [];
  is_static = true;
  is_init = false;
  type = record { params = []; result = None };
  bootstraps = [];
  dynamic = false;
  release = false;
}

-- iconst_0; istore_0; iinc 0 1; iload_0; ifne -4; return
abbrev loop : List (ℕ × Act)
loop = (0, Constant Int) ∷ (1, Store Int 0) ∷ (2, Increment 0) ∷ (5, Load Int 0) ∷ (6, IfInt (negsuc 3)) ∷ (9, ReturnVoid) ∷ []

-- an int is appended at 2
looping : verdict typing_rule [] (method (Some (0 ∷ 1 ∷ 252 ∷ 0 ∷ 2 ∷ 1 ∷ [])) loop) ≡ verified
unfolding maps.stack_map formats.times maps.map_entry maps.type_table maps.type_info
looping = refl

no_frame_at_target : verdict typing_rule [] (method None loop) ≡ refused 6 (reason 67)
no_frame_at_target = refl

-- lconst_0; goto 3; iconst_0; pop; return, where top stands on the stack at 4: a long is no item of one unit
wrong_width : verdict typing_rule [] (method (Some (0 ∷ 1 ∷ 68 ∷ 0 ∷ []))
    ((0, Constant Long) ∷ (1, Goto (pos 3)) ∷ (4, Constant Int) ∷ (5, Stack Pop) ∷ (6, ReturnVoid) ∷ [])) ≡ refused 1 (reason 68)
unfolding maps.stack_map formats.times maps.map_entry maps.type_table maps.type_info
wrong_width = refl

-- the default of a switch leads to a frame as well
default_is_a_target : verdict typing_rule [] (method (Some (0 ∷ 1 ∷ 20 ∷ []))
    ((0, Constant Int) ∷ (1, Switch (pos 18) (pos 19 ∷ [])) ∷ (20, ReturnVoid) ∷ [])) ≡ refused 1 (reason 67)
unfolding maps.stack_map formats.times maps.map_entry maps.type_table maps.type_info
default_is_a_target = refl

-- iconst_0; return, where nothing is declared on the stack at 1
not_assignable : verdict typing_rule [] (method (Some (0 ∷ 1 ∷ 1 ∷ [])) ((0, Constant Int) ∷ (1, ReturnVoid) ∷ [])) ≡ refused 1 (reason 69)
unfolding maps.stack_map formats.times maps.map_entry maps.type_table maps.type_info
not_assignable = refl

no_frame : verdict typing_rule [] (method None ((0, ReturnVoid) ∷ (1, Nothing) ∷ (2, ReturnVoid) ∷ [])) ≡ refused 1 (reason 70)
no_frame = refl

falls_off : verdict typing_rule [] (method None ((0, Nothing) ∷ [])) ≡ refused 0 (reason 71)
falls_off = refl

-- a map that no entry begins, and one whose entry is at no instruction
bad_frame_type : verdict typing_rule [] (method (Some (0 ∷ 1 ∷ 128 ∷ [])) ((0, Nothing) ∷ (1, ReturnVoid) ∷ [])) ≡ map_refused (unreadable (BadFrameType 2))
unfolding maps.stack_map formats.times maps.map_entry maps.type_table maps.type_info
bad_frame_type = refl

not_a_start : verdict typing_rule [] (method (Some (0 ∷ 1 ∷ 5 ∷ [])) ((0, Nothing) ∷ (1, ReturnVoid) ∷ [])) ≡ map_refused (undeclared (reason 52))
unfolding maps.stack_map formats.times maps.map_entry maps.type_table maps.type_info
not_a_start = refl
