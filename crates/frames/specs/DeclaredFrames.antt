-- The frames that a stack map declares (JVMS 4.7.4, 4.10.1.3), and the conditions that refuse an entry.
use Rattle.std.specs.Prelude.{ℕ, ◌+◌, ◌-◌, Bool, true, false, not, ◌||◌, nat_lt, List, [], ◌∷◌, ◌++◌, map, reverse, take, length, Option, Some, None, Result, Ok, Err}
use Rattle.pool.specs.Entries.{Entry, Class}
use Rattle.pool.specs.Lookups.{entry_at}
use Rattle.pool.specs.ConstantMeanings.{class_at}
use Rattle.names.specs.ReferenceTypes.{ReferenceType}
use Rattle.pool.specs.declared.fault.PoolFault.{PoolFault}
use Rattle.insn.specs.Meanings.{Act, New}
use Rattle.insn.specs.Offsets.{at_offset, has_offset}
use Rattle.frames.specs.VerificationType as types
use Rattle.frames.specs.VerificationType.{VerificationType, uninit_this, uninit}
use Rattle.frames.specs.FrameFact.{FrameFact}
use Rattle.frames.specs.Slots.{to_reference, units_of, in_locals, all_locals}
use Rattle.frames.specs.Conditions.{Reason, reason, Conditions, least}
use Rattle.frames.specs.FrameReasons.{bad_index, wrong_kind, locals_over, stack_over, chop_too_many, not_a_start, not_a_new}
use Rattle.frames.specs.StackMaps.{TypeInfo, top, integer, float, double, long, null, uninitialized_this, object, uninitialized, MapEntry, same, same_with_item, same_with_item_extended, chop, same_extended, append, full}

-- ---- types

-- a constant that is not a class stands for no type; its entry is refused
abbrev pub object_type : Option ReferenceType → VerificationType
object_type None = types.top
object_type (Some type) = to_reference type

abbrev pub type_given : List Entry → TypeInfo → VerificationType
type_given pool top = types.top
type_given pool integer = types.int
type_given pool float = types.float
type_given pool double = types.double
type_given pool long = types.long
type_given pool null = types.null
type_given pool uninitialized_this = uninit_this
type_given pool (object class) = object_type (class_at pool class)
type_given pool (uninitialized offset) = uninit offset

abbrev pub types_given : List Entry → List TypeInfo → List VerificationType
types_given pool infos = map (type_given pool) infos

abbrev pub is_uninit_this : VerificationType → Bool
is_uninit_this uninit_this = true
is_uninit_this _ = false

abbrev pub has_uninit_this : List VerificationType → Bool
has_uninit_this [] = false
has_uninit_this (t ∷ ts) = is_uninit_this t || has_uninit_this ts

-- ---- what an entry says

abbrev pub delta_of : MapEntry → ℕ
delta_of (same delta) = delta
delta_of (same_with_item delta item) = delta
delta_of (same_with_item_extended delta item) = delta
delta_of (chop count delta) = delta
delta_of (same_extended delta) = delta
delta_of (append delta locals) = delta
delta_of (full delta locals stack) = delta

-- after an entry at an offset, or as the first one
abbrev pub offset_of : Option ℕ → MapEntry → ℕ
offset_of None e = delta_of e
offset_of (Some before) e = before + delta_of e + 1

-- the locals as entries, a long or double being one of them
abbrev pub locals_of : List Entry → List VerificationType → MapEntry → List VerificationType
locals_of pool before (chop count delta) = take (length before - count) before
locals_of pool before (append delta locals) = before ++ types_given pool locals
locals_of pool before (full delta locals stack) = types_given pool locals
locals_of pool before _ = before

-- the top of the stack stands last in an entry
abbrev pub stack_of : List Entry → MapEntry → List VerificationType
stack_of pool (same_with_item delta item) = type_given pool item ∷ []
stack_of pool (same_with_item_extended delta item) = type_given pool item ∷ []
stack_of pool (full delta locals stack) = reverse (types_given pool stack)
stack_of pool _ = []

-- the types that the entry itself gives
abbrev pub infos_of : MapEntry → List TypeInfo
infos_of (same_with_item delta item) = item ∷ []
infos_of (same_with_item_extended delta item) = item ∷ []
infos_of (append delta locals) = locals
infos_of (full delta locals stack) = locals ++ stack
infos_of _ = []

-- ---- why an entry is refused

abbrev pub any_info : (TypeInfo → Bool) → List TypeInfo → Bool
any_info test [] = false
any_info test (i ∷ is) = test i || any_info test is

abbrev pub is_absent : Result Entry PoolFault → Bool
is_absent (Ok e) = false
is_absent (Err e) = true

abbrev pub is_other : Result Entry PoolFault → Bool
is_other (Ok (Class name)) = false
is_other (Ok e) = true
is_other (Err e) = false

-- the index of a class names nothing
abbrev pub names_nothing : List Entry → TypeInfo → Bool
names_nothing pool (object class) = is_absent (entry_at pool class)
names_nothing pool _ = false

-- it names another constant than a class
abbrev pub names_no_class : List Entry → TypeInfo → Bool
names_no_class pool (object class) = is_other (entry_at pool class)
names_no_class pool _ = false

abbrev pub is_new : Option Act → Bool
is_new (Some (New index)) = true
is_new _ = false

-- the offset of an uninitialized object is that of no `new`
abbrev pub is_made_nowhere : List (ℕ × Act) → TypeInfo → Bool
is_made_nowhere code (uninitialized offset) = not (is_new (at_offset code offset))
is_made_nowhere code _ = false

abbrev pub chops_more : MapEntry → List VerificationType → Bool
chops_more (chop count delta) before = nat_lt (length before) count
chops_more _ before = false

-- ---- the frames

module _ (pool : List Entry) (code : List (ℕ × Act)) (max_locals max_stack : ℕ) where
  abbrev pub entry_conditions : ℕ → MapEntry → List VerificationType → List VerificationType → List VerificationType
      → Conditions
  entry_conditions at e before locals stack =
      (reason bad_index, any_info (names_nothing pool) (infos_of e))
      ∷ (reason wrong_kind, any_info (names_no_class pool) (infos_of e))
      ∷ (reason locals_over, nat_lt max_locals (length (in_locals locals)))
      ∷ (reason stack_over, nat_lt max_stack (units_of stack))
      ∷ (reason chop_too_many, chops_more e before)
      ∷ (reason not_a_start, not (has_offset code at))
      ∷ (reason not_a_new, any_info (is_made_nowhere code) (infos_of e))
      ∷ []

  abbrev pub frame_with : List VerificationType → List VerificationType → FrameFact
  frame_with locals stack = record {
    locals = all_locals max_locals locals;
    stack = stack;
    flag =
        has_uninit_this locals;
  }

  -- a frame in front of others, unless there is a reason against it
  abbrev pub frame_before : Option Reason → ℕ → FrameFact → Result (List (ℕ × FrameFact)) Reason
      → Result (List (ℕ × FrameFact)) Reason
  frame_before (Some r) at frame others = Err r
  frame_before None at frame (Ok others) = Ok ((at, frame) ∷ others)
  frame_before None at frame (Err r) = Err r

  -- The frames that entries declare, each with its offset, or the reason against the first that is refused. `before` is
  -- the offset of the entry in front of them, and the locals are those that it left.
  abbrev pub declared_from : Option ℕ → List VerificationType → List MapEntry → Result (List (ℕ × FrameFact)) Reason
  declared_from before locals [] = Ok []
  declared_from before locals (e ∷ es) =
      let at = offset_of before e in
      let now = locals_of pool locals e in
      let stack = stack_of pool e in
      frame_before (least (entry_conditions at e locals now stack)) at (frame_with now stack)
      (declared_from (Some at) now es)

  -- the frames of a stack map, whose locals begin as the receiver and the parameters
  abbrev pub declared_frames : List VerificationType → List MapEntry → Result (List (ℕ × FrameFact)) Reason
  declared_frames initial entries = declared_from None initial entries
