-- The entries of a stack map one by one, and the frames that they declared so far.
use Rattle.std.proofs.Common.{◌≡◌, ◌∙◌, ℕ, zero, suc, ◌+◌, ◌<◌, ◌≤◌, Bool, true, false, if◌then◌else◌, List, [], ◌∷◌, ◌++◌, length, map, drop, get_or, Option, Some, None, Result, Ok, Err, refl, sym, ap, subst, arith, append_assoc}
use Rattle.std.specs.Prelude.{nat_eq}
use Rattle.std.proofs.lemmas.Bool.Decides.{nat_tests}
use Rattle.std.proofs.lemmas.List.{map-append, drop_more, length-map, get_or-map}
use Rattle.pool.specs.Entries.{Entry}
use Rattle.insn.specs.Meanings.{Act}
use Rattle.insn.specs.Offsets.{at_offset}
use Rattle.frames.specs.FrameFact.{FrameFact}
use Rattle.frames.specs.VerificationType.{VerificationType}
use Rattle.frames.specs.Conditions.{Reason, least}
use Rattle.frames.specs.StackMaps.{MapEntry}
use Rattle.frames.specs.DeclaredFrames.{delta_of, offset_of, locals_of, stack_of, frame_with, frame_before, entry_conditions, declared_from, declared_frames}
use Rattle.frames.specs.RefusedEntries.{RefusedFact, refused_before, refused_from, refused_entry}
use Rattle.frames.specs.MapViews.{entry_of}
use Rattle.frames.specs.declared.stack_map.MapEntry.{MapEntry as Held}
use Rattle.type_numbers.specs.Decoding.{types_by}
use Rattle.method_frames.specs.NumberedFrames.{NumberedFrame, NumberedFrames, frame_by}
use Rattle.method_frames.specs.MapFrames.{AreMore, IsLaidOut, frames_by}
use Rattle.method_frames.specs.private.MapEntries.{front_of, against, behind, IsDeclared}

-- no frame is declared from an offset on
abbrev pub NoneFrom : ℕ → NumberedFrames → Type 0
NoneFrom from x = (offset : ℕ) → from ≤ offset → at_offset x.declared offset ≡ None

-- ---- changes one after the other

pub more_on : (x y z : NumberedFrames) → AreMore x y → AreMore y z → AreMore x z
more_on x y z a b = record { others = b.others ∙ ap (parts_of z) a.others; size = b.size ∙ a.size }
  where
    parts_of : NumberedFrames → NumberedFrames → NumberedFrames
    parts_of z k = record k { running = z.running; declared = z.declared }

pub declared_more : (x y : NumberedFrames) (at : ℕ) → y ≡ record x { declared = x.declared ++ (at, x.running) ∷ [] } → AreMore x y
declared_more x y at e = record {
  others = subst (λ k. k ≡ record x { running = k.running; declared = k.declared }) (sym e) refl;
  size = ap (λ k. length k.running.locals) e;
}

-- ---- offsets

pub offset_behind : (from d : ℕ) (e : MapEntry) → d ≡ delta_of e → from + d ≡ offset_of (front_of from) e
offset_behind zero d e is = omega (arith, is)
offset_behind (suc n) d e is = omega (arith, is)

front_behind : (at : ℕ) → front_of (at + 1) ≡ Some at
front_behind at = let e : at + 1 ≡ suc at = omega arith in ap front_of e

none_behind : (xs : List (ℕ × NumberedFrame)) (at : ℕ) (f : NumberedFrame) (offset : ℕ) → at_offset xs offset ≡ None → at < offset → at_offset (xs ++ (at, f) ∷ []) offset ≡ None
none_behind [] at f offset e lt = let other : nat_eq at offset ≡ false = grind (arith, nat_tests, lt) in ap (λ b. if b then Some f else None) other
none_behind (x ∷ xs) at f offset e lt = by (nat_eq x.0 offset) e (λ h. none_behind xs at f offset h lt)
  where
    by : (b : Bool) → (if b then Some x.1 else at_offset xs offset) ≡ None → (at_offset xs offset ≡ None → at_offset (xs ++ (at, f) ∷ []) offset ≡ None)
        → (if b then Some x.1 else at_offset (xs ++ (at, f) ∷ []) offset) ≡ None
    by true h k = h
    by false h k = k h

module _ (pool : List Entry) (code : List (ℕ × Act)) (max_locals max_stack : ℕ) where
  abbrev Answer : Type 0
  Answer = Result (List (ℕ × FrameFact)) Reason

  abbrev from_here : ℕ → List VerificationType → List MapEntry → Answer
  from_here from ts es = declared_from pool code max_locals max_stack (front_of from) ts es

  abbrev refused_here : ℕ → ℕ → List VerificationType → List MapEntry → Option RefusedFact
  refused_here place from ts es = refused_from pool code max_locals max_stack place (front_of from) ts es

  -- what holds between two entries: frames are declared that begin the answer, and no entry was refused
  pub record AreBegun (old now : NumberedFrames) (locals : List ℕ) (from place : ℕ) (left : List MapEntry) (answer : Answer) (refused : Option RefusedFact) : Type 0 where
    pub rest : AreMore old now
    pub laid : IsLaidOut now locals
    pub none : NoneFrom from now
    pub declared : answer ≡ behind (frames_by old.types now.declared) (from_here from (types_by old.types locals) left)
    pub refused_is : refused ≡ refused_here place from (types_by old.types locals) left

  none_first : (r : Answer) → behind [] r ≡ r
  none_first (Ok frames) = refl
  none_first (Err r) = refl

  pub begun : (old : NumberedFrames) (locals : List ℕ) (es : List MapEntry) → old.declared ≡ [] → IsLaidOut old locals
      → AreBegun old old locals 0 0 es (declared_frames pool code max_locals max_stack (types_by old.types locals) es) (refused_entry pool code max_locals max_stack (types_by old.types locals) es)
  begun old locals es none laid = record {
    rest = record { others = refl; size = refl };
    laid = laid;
    none = λ offset le. ap (λ xs. at_offset xs offset) none;
    declared =
        sym (none_first (from_here 0 (types_by old.types locals) es)) ∙ ap (λ xs. behind (frames_by old.types xs) (from_here 0 (types_by old.types locals) es)) (sym none);
    refused_is = refl;
  }

  behind_one : (done : List (ℕ × FrameFact)) (at : ℕ) (f : FrameFact) (r : Answer) → behind done (frame_before pool code max_locals max_stack None at f r) ≡ behind (done ++ (at, f) ∷ []) r
  behind_one done at f (Ok more) = ap (λ (l : List (ℕ × FrameFact)). Ok l) (sym (append_assoc done ((at, f) ∷ []) more))
  behind_one done at f (Err r) = refl

  module _ (old now : NumberedFrames) (locals : List ℕ) (from place d at : ℕ) (e : MapEntry) (es : List MapEntry) (answer : Answer) (refused : Option RefusedFact)
      (h : AreBegun old now locals from place (e ∷ es) answer refused) (is : d ≡ delta_of e) (here : at ≡ from + d) where
    types_same : now.types ≡ old.types
    types_same = ap (λ y. y.types) h.rest.others

    offset : at ≡ offset_of (front_of from) e
    offset = here ∙ offset_behind from d e is

    -- it is refused
    module _ (r : Reason) (told : against pool code max_locals max_stack at (types_by now.types locals) e ≡ Some r) where
      told_here : least (entry_conditions pool code max_locals max_stack (offset_of (front_of from) e) e (types_by old.types locals) (locals_of pool (types_by old.types locals) e) (stack_of pool e)) ≡ Some r
      told_here = subst (λ k. against pool code max_locals max_stack k (types_by old.types locals) e ≡ Some r) offset (subst (λ s. against pool code max_locals max_stack at (types_by s locals) e ≡ Some r) types_same told)

      pub refused_so : answer ≡ Err r
      refused_so = h.declared ∙ ap (λ o. behind (frames_by old.types now.declared) (frame_before pool code max_locals max_stack o (offset_of (front_of from) e)
          (frame_with pool code max_locals max_stack (locals_of pool (types_by old.types locals) e) (stack_of pool e))
          (declared_from pool code max_locals max_stack (Some (offset_of (front_of from) e)) (locals_of pool (types_by old.types locals) e) es))) told_here

      pub refused_at : refused ≡ Some (record { place = place; at = at; reason = r })
      refused_at = h.refused_is ∙ ap (λ o. refused_before o place (offset_of (front_of from) e)
          (refused_from pool code max_locals max_stack (suc place) (Some (offset_of (front_of from) e)) (locals_of pool (types_by old.types locals) e) es)) told_here
          ∙ ap (λ k. Some (record { place = place; at = k; reason = r })) (sym offset)

    -- its frame is declared
    module _ (new : NumberedFrames) (after : List ℕ) (m : IsDeclared pool code max_locals max_stack now new at e locals after) where
      abbrev ts : List VerificationType
      ts = types_by old.types locals

      abbrev spot : ℕ
      spot = offset_of (front_of from) e

      abbrev others : Answer
      others = declared_from pool code max_locals max_stack (Some spot) (locals_of pool ts e) es

      free : against pool code max_locals max_stack spot ts e ≡ None
      free = subst (λ k. against pool code max_locals max_stack k ts e ≡ None) offset (subst (λ s. against pool code max_locals max_stack at (types_by s locals) e ≡ None) types_same m.free)

      left : types_by old.types after ≡ locals_of pool ts e
      left = subst (λ s. types_by s after ≡ locals_of pool (types_by s locals) e) types_same m.locals

      frame_is : frame_by old.types new.running ≡ frame_with pool code max_locals max_stack (locals_of pool ts e) (stack_of pool e)
      frame_is = subst (λ s. frame_by s new.running ≡ frame_with pool code max_locals max_stack (types_by s after) (stack_of pool e)) types_same m.frame
          ∙ ap (λ us. frame_with pool code max_locals max_stack us (stack_of pool e)) left

      more : frames_by old.types new.declared ≡ frames_by old.types now.declared ++ (spot, frame_with pool code max_locals max_stack (locals_of pool ts e) (stack_of pool e)) ∷ []
      more =
          ap (λ y. frames_by old.types y.declared) m.others ∙ map-append (λ (x : ℕ × NumberedFrame). (x.0, frame_by old.types x.1)) now.declared ((at, new.running) ∷ [])
          ∙ ap (λ f. frames_by old.types now.declared ++ (at, f) ∷ []) frame_is
          ∙ ap (λ k. frames_by old.types now.declared ++ (k, frame_with pool code max_locals max_stack (locals_of pool ts e) (stack_of pool e)) ∷ []) offset

      next : front_of (at + 1) ≡ Some spot
      next = front_behind at ∙ ap (λ k. Some k) offset

      declared_on : answer ≡ behind (frames_by old.types new.declared) (from_here (at + 1) (types_by old.types after) es)
      declared_on =
          h.declared ∙ ap (λ o. behind (frames_by old.types now.declared) (frame_before pool code max_locals max_stack o spot (frame_with pool code max_locals max_stack (locals_of pool ts e) (stack_of pool e)) others)) free
          ∙ behind_one (frames_by old.types now.declared) spot (frame_with pool code max_locals max_stack (locals_of pool ts e) (stack_of pool e)) others
          ∙ ap (λ fs. behind fs others) (sym more)
          ∙ ap (λ o. behind (frames_by old.types new.declared) (declared_from pool code max_locals max_stack o (locals_of pool ts e) es)) (sym next)
          ∙ ap (λ us. behind (frames_by old.types new.declared) (from_here (at + 1) us es)) (sym left)

      refused_on : refused ≡ refused_here (place + 1) (at + 1) (types_by old.types after) es
      refused_on =
          let one : suc place ≡ place + 1 = omega arith in
          h.refused_is ∙ ap (λ o. refused_before o place spot (refused_from pool code max_locals max_stack (suc place) (Some spot) (locals_of pool ts e) es)) free
          ∙ ap (λ k. refused_from pool code max_locals max_stack k (Some spot) (locals_of pool ts e) es) one
          ∙ ap (λ o. refused_from pool code max_locals max_stack (place + 1) o (locals_of pool ts e) es) (sym next)
          ∙ ap (λ us. refused_here (place + 1) (at + 1) us es) (sym left)

      pub begun_on : AreMore now new → AreBegun old new after (at + 1) (place + 1) es answer refused
      begun_on more_here = record {
        rest = more_on old now new h.rest more_here;
        laid = m.laid;
        none = λ off le. ap (λ y. at_offset y.declared off) m.others ∙ none_behind now.declared at new.running off (h.none off (omega (arith, here, le))) (omega (arith, le));
        declared = declared_on;
        refused_is = refused_on;
      }

-- ---- the entries from a place on

pub entries_split : (es : List Held) (place : ℕ) (d : Held) → place < length es
    → drop place (map entry_of es) ≡ entry_of (get_or es place d) ∷ drop (place + 1) (map entry_of es)
entries_split es place d lt =
    let long = length-map es entry_of in
    drop_more (map entry_of es) place (entry_of d) (omega (arith, lt, long))
    ∙ ap (λ e. e ∷ drop (place + 1) (map entry_of es)) (get_or-map entry_of es place d (entry_of d) lt)
