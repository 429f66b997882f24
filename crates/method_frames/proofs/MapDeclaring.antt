-- One entry of a stack map: how much it leaves, and the frame that it declares.
use Rattle.std.proofs.Common.{◌≡◌, ◌∙◌, ℕ, ◌≤◌, Bool, List, [], ◌∷◌, ◌++◌, length, None, refl, sym, ap, subst, arith}
use Rattle.std.proofs.lemmas.List.{length-map}
use Rattle.pool.specs.Entries.{Entry}
use Rattle.insn.specs.Meanings.{Act}
use Rattle.frames.specs.VerificationType.{VerificationType}
use Rattle.frames.specs.FrameFact.{FrameFact}
use Rattle.frames.specs.Slots.{units_of, in_locals, all_locals}
use Rattle.frames.specs.EntrySizes.{HaveSizes}
use Rattle.frames.specs.StackMaps.{MapEntry, same, same_with_item, same_with_item_extended, chop, same_extended, append, full}
use Rattle.frames.specs.DeclaredFrames.{locals_of, stack_of, has_uninit_this, frame_with}
use Rattle.frames.specs.declared.refusing.Sizes.{Sizes}
use Rattle.frames.proofs.Units.{units_least}
use Rattle.type_numbers.specs.Constants.{IsTable}
use Rattle.type_numbers.specs.Numbers.{Numbering}
use Rattle.type_numbers.specs.declared.constant_table.ConstantTable.{ConstantTable}
use Rattle.type_numbers.specs.Decoding.{type_by, types_by}
use Rattle.method_frames.specs.NumberedFrames.{NumberedFrame, NumberedFrames, frame_by}
use Rattle.method_frames.specs.private.MapEntries.{AreRewritten, IsRestacked, locals_behind, chopped, against, IsDeclared}
use Rattle.method_frames.proofs.LayingOut.{units_are}

-- ---- sizes

pub left_so : (pool : List Entry) (e : MapEntry) (ts : List VerificationType) → locals_of pool ts e ≡ locals_behind pool e (chopped e ts)
left_so pool (same d) ts = refl
left_so pool (same_with_item d i) ts = refl
left_so pool (same_with_item_extended d i) ts = refl
left_so pool (chop n d) ts = refl
left_so pool (same_extended d) ts = refl
left_so pool (append d is) ts = refl
left_so pool (full d is js) ts = refl

module _ (pool : List Entry) (e : MapEntry) (s : Numbering) (old mid : List ℕ) (cut : types_by s mid ≡ chopped e (types_by s old)) where
  pub behind_mid : locals_of pool (types_by s old) e ≡ locals_behind pool e (types_by s mid)
  behind_mid = left_so pool e (types_by s old) ∙ ap (locals_behind pool e) (sym cut)

  pub have_sizes : (sizes : Sizes) → sizes.before ≡ length old → units_of (locals_behind pool e (types_by s mid)) ≡ sizes.locals → units_of (stack_of pool e) ≡ sizes.stack
      → HaveSizes (types_by s old) (locals_of pool (types_by s old) e) (stack_of pool e) sizes
  have_sizes sizes before locals stack = record {
    before_is = length-map old (type_by s) ∙ sym before;
    locals_are = sym (units_are (locals_of pool (types_by s old) e)) ∙ ap units_of behind_mid ∙ locals;
    stack_is = stack;
  }

pub stack_fits : (s : Numbering) (stack : List ℕ) (ts : List VerificationType) (units limit : ℕ) → types_by s stack ≡ ts → units_of ts ≡ units → units ≤ limit → length stack ≤ limit
stack_fits s stack ts units limit e u le = omega (arith, units_least (types_by s stack), length-map stack (type_by s), ap units_of e, u, le)

-- ---- the frame

-- the frames once a frame of these parts is declared at an offset
abbrev pub declared_with : NumberedFrames → ℕ → NumberedFrame → NumberedFrames
declared_with x at f = record { types = x.types; limit = x.limit; running = f; declared = x.declared ++ (at, f) ∷ []; kept = x.kept }

abbrev pub framed : List ℕ → List ℕ → Bool → NumberedFrame
framed locals stack flag = record { locals = locals; stack = stack; flag = flag }

abbrev put_locals : List ℕ → NumberedFrames → NumberedFrames
put_locals locals x = record x { running = record x.running { locals = locals } }

abbrev put_stack : List ℕ → NumberedFrames → NumberedFrames
put_stack stack x = record x { running = record x.running { stack = stack } }

abbrev pub put_flag : Bool → NumberedFrames → NumberedFrames
put_flag flag x = record x { running = record x.running { flag = flag } }

abbrev put_declared : ℕ → NumberedFrames → NumberedFrames
put_declared at x = record x { declared = x.declared ++ (at, x.running) ∷ [] }

pub steps_are : (x y z w v u : NumberedFrames) (flag : Bool) (at : ℕ) → AreRewritten x y → AreRewritten y z → IsRestacked z w
    → v ≡ record w { running = record w.running { flag = flag } } → u ≡ record v { declared = v.declared ++ (at, v.running) ∷ [] }
    → u ≡ declared_with x at (framed z.running.locals w.running.stack flag)
steps_are x y z w v u flag at a b c d e =
    e ∙ ap (put_declared at) (d ∙ ap (put_flag flag) (c ∙ ap (put_stack w.running.stack) (b.others ∙ ap (put_locals z.running.locals) a.others)))

module _ (pool : List Entry) (code : List (ℕ × Act)) (max_locals max_stack : ℕ) (x : NumberedFrames) (at : ℕ) (e : MapEntry) (old after : List ℕ) (locals stack : List ℕ) (flag : Bool)
    (free : against pool code max_locals max_stack at (types_by x.types old) e ≡ None)
    (left : types_by x.types after ≡ locals_of pool (types_by x.types old) e)
    (size : max_locals ≡ length locals)
    (laid : types_by x.types locals ≡ all_locals (length locals) (types_by x.types after))
    (fits : length (in_locals (types_by x.types after)) ≤ length locals)
    (items : types_by x.types stack ≡ stack_of pool e)
    (own : flag ≡ has_uninit_this (types_by x.types after)) where
  frame_is : frame_by x.types (framed locals stack flag) ≡ frame_with pool code max_locals max_stack (types_by x.types after) (stack_of pool e)
  frame_is =
      ap (λ ls. made ls (types_by x.types stack) flag) (laid ∙ ap (λ n. all_locals n (types_by x.types after)) (sym size))
      ∙ ap (λ st. made (all_locals max_locals (types_by x.types after)) st flag) items
      ∙ ap (made (all_locals max_locals (types_by x.types after)) (stack_of pool e)) own
    where
      made : List VerificationType → List VerificationType → Bool → FrameFact
      made ls st f = record { locals = ls; stack = st; flag = f }

  pub declared_so : (new : NumberedFrames) → new ≡ declared_with x at (framed locals stack flag) → IsDeclared pool code max_locals max_stack x new at e old after
  declared_so new is = subst (λ y. IsDeclared pool code max_locals max_stack x y at e old after) (sym is) (record {
    free = free;
    locals = left;
    frame = frame_is;
    others = refl;
    laid = record { same = laid; fits = fits };
  })

-- ---- facts about frames whose locals were written

pub table_kept : (pool : List Entry) (table : ConstantTable) (old new : NumberedFrames) → AreRewritten old new → IsTable old.types pool table → IsTable new.types pool table
table_kept pool table old new a t = subst (λ y. IsTable y.types pool table) (sym a.others) t

pub types_kept : (old new : NumberedFrames) → AreRewritten old new → new.types ≡ old.types
types_kept old new a = ap (λ y. y.types) a.others

pub limit_kept : (old new : NumberedFrames) → AreRewritten old new → new.limit ≡ old.limit
limit_kept old new a = ap (λ y. y.limit) a.others

pub flag_stacks : (x y : NumberedFrames) (flag : Bool) → y ≡ put_flag flag x → length x.running.stack ≤ x.limit → length y.running.stack ≤ y.limit
flag_stacks x y flag e le = subst (λ z. length z.running.stack ≤ z.limit) (sym e) le

-- what is left, and how it lies, by the numbers that all frames have
pub left_by : (pool : List Entry) (e : MapEntry) (s t : Numbering) (old mid after : List ℕ) → t ≡ s → types_by s mid ≡ chopped e (types_by s old)
    → types_by t after ≡ locals_behind pool e (types_by t mid) → types_by s after ≡ locals_of pool (types_by s old) e
left_by pool e s t old mid after one cut is = subst (λ u. types_by u after ≡ locals_behind pool e (types_by u mid)) one is ∙ sym (behind_mid pool e s old mid cut)
