-- A stack map that names a `new`, for the eye. Nothing stands on it.
use Rattle.std.proofs.Common.{◌≡◌, ℕ, true, false, List, [], ◌∷◌, Some, None, codes, refl}
use Rattle.classfile.specs.Methods.{Method}
use Rattle.insn.specs.Meanings.{Act, New, ReturnVoid}
use Rattle.layout.specs.Format as formats
use Rattle.frames.specs.Conditions.{reason}
use Rattle.frames.specs.StackMaps as maps
use Rattle.pool.specs.Lookups as lookups
use Rattle.rules.specs.Table.{typing_rule}
use Rattle.verify.specs.Verdict.{refused, verdict}

-- `new` at 0, `return` at 3, and a full frame at 3 whose stack holds what the `new` at 0 makes
abbrev with_map : List (ℕ × Act) → Method Act
with_map code = record {
  code = code;
  code_length = 4;
  max_stack = 1;
  max_locals = 0;
  exceptions = [];
  stack_map = Some (0 ∷ 1 ∷ 255 ∷ 0 ∷ 3 ∷ 0 ∷ 0 ∷ 0 ∷ 1 ∷ 8 ∷ 0 ∷ 0 ∷ []);
  constant_pool = [];
  major_version = 52;
  class = codes "K";
  superclass = Some (codes "java/lang/Object");
  interfaces = [];
  fields = [];
  is_static = true;
  is_init = false;
  type = record { params = []; result = None };
  bootstraps = [];
  dynamic = false;
  release = false;
}

abbrev makes_one : List (ℕ × Act)
makes_one = (0, New 1) ∷ (3, ReturnVoid) ∷ []

-- the map is fine, and the `new` names no class of the constant pool
own_code : verdict typing_rule [] (with_map makes_one) ≡ refused 0 (reason 66)
unfolding maps.stack_map formats.times maps.map_entry maps.type_table maps.type_info lookups.class_name_at lookups.entry_at
own_code = refl
