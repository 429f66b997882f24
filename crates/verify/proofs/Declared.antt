-- Facts about declared frames: each is at the start of an instruction, its stack is no wider than max_stack, and it has
-- max_locals local variables.
use Rattle.std.proofs.Common.{◌≡◌, ℕ, ◌-◌, ◌≤◌, arith, nat_lt, length, Bool, true, false, not, is_some, nat_eq, List, [], ◌∷◌, Option, Some, None, Result, Ok, Err, if◌then◌else◌, sym, refl, subst, ltb-false, eqb-true}
use Rattle.std.specs.Prelude.{replicate}
use Rattle.std.proofs.lemmas.List.{length-append, length-replicate}
use Rattle.std.proofs.lemmas.Bool.Decides.{nat_tests}
use Rattle.pool.specs.Entries.{Entry}
use Rattle.insn.specs.Meanings.{Act}
use Rattle.insn.specs.Offsets.{at_offset, IsStart}
use Rattle.frames.specs.VerificationType.{VerificationType, top}
use Rattle.frames.specs.FrameFact.{FrameFact}
use Rattle.frames.specs.Slots.{units_of, in_locals, all_locals}
use Rattle.frames.specs.Conditions.{Reason, Conditions, NoneHolds, lesser, least}
use Rattle.frames.specs.StackMaps.{MapEntry}
use Rattle.frames.specs.DeclaredFrames.{offset_of, locals_of, stack_of, entry_conditions, frame_with, frame_before, declared_from}

-- there is no reason exactly where no condition holds
pub none_least : (cs : Conditions) → least cs ≡ None → NoneHolds cs
none_least [] e = tt
none_least (c ∷ cs) e = go c.1 refl e (λ f. none_least cs f)
  where
    go : (b : Bool) → c.1 ≡ b → (if b then Some (lesser c.0 (least cs)) else least cs) ≡ None → (least cs ≡ None → NoneHolds cs) → (c.1 ≡ false) × NoneHolds cs
    go true p f rec = cc
    go false p f rec = (p, rec f)

start_of : (code : List (ℕ × Act)) (at : ℕ) (o : Option Act) → at_offset code at ≡ o → not (is_some o) ≡ false → IsStart code at
start_of code at None p e = cc
start_of code at (Some a) p e = record { what = a; here = p }

-- a frame at the start that it has, with all locals
pub record IsGoodFrame (code : List (ℕ × Act)) (max_locals max_stack at : ℕ) (f : FrameFact) : Type 0 where
  pub start : IsStart code at
  pub within : units_of f.stack ≤ max_stack
  pub full : length f.locals ≡ max_locals

pub full_length : (n : ℕ) (ts : List VerificationType) → nat_lt n (length (in_locals ts)) ≡ false → length (all_locals n ts) ≡ n
full_length n ts e =
    let le : length (in_locals ts) ≤ n = grind (arith, nat_tests, e) in
    omega (arith, length-append (in_locals ts) (replicate (n - length (in_locals ts)) top), length-replicate (n - length (in_locals ts)) top, le)

module _ (pool : List Entry) (code : List (ℕ × Act)) (max_locals max_stack : ℕ) where
  abbrev against : Option ℕ → List VerificationType → MapEntry → Conditions
  against before locals e = entry_conditions pool code max_locals max_stack (offset_of before e) e locals (locals_of pool locals e) (stack_of pool e)

  abbrev frame_of : List VerificationType → MapEntry → FrameFact
  frame_of locals e = frame_with pool code max_locals max_stack (locals_of pool locals e) (stack_of pool e)

  abbrev frames_behind : Option ℕ → List VerificationType → MapEntry → List MapEntry → Result (List (ℕ × FrameFact)) Reason
  frames_behind before locals e es = declared_from pool code max_locals max_stack (Some (offset_of before e)) (locals_of pool locals e) es

  good_first : (before : Option ℕ) (locals : List VerificationType) (e : MapEntry) → NoneHolds (against before locals e) → IsGoodFrame code max_locals max_stack (offset_of before e) (frame_of locals e)
  good_first before locals e c = record {
    start = start_of code (offset_of before e) (at_offset code (offset_of before e)) refl c.1.1.1.1.1.0;
    within = ltb-false max_stack (units_of (stack_of pool e)) c.1.1.1.0;
    full = full_length max_locals (locals_of pool locals e) c.1.1.0;
  }

  -- the parts of a list that was put together
  parts : (o : Option Reason) (at : ℕ) (f : FrameFact) (r : Result (List (ℕ × FrameFact)) Reason) (frames : List (ℕ × FrameFact)) → frame_before pool code max_locals max_stack o at f r ≡ Ok frames → (o ≡ None) × ((others : List (ℕ × FrameFact)) × (r ≡ Ok others) × ((at, f) ∷ others ≡ frames))
  parts (Some x) at f r frames e = cc
  parts None at f (Ok others) frames e = (refl, (others, refl, cc))
  parts None at f (Err x) frames e = cc

  pub good_frames : (before : Option ℕ) (locals : List VerificationType) (es : List MapEntry) (frames : List (ℕ × FrameFact)) → declared_from pool code max_locals max_stack before locals es ≡ Ok frames → (at : ℕ) (f : FrameFact) → at_offset frames at ≡ Some f → IsGoodFrame code max_locals max_stack at f
  good_frames before locals [] frames d at f here = let e : [] ≡ frames = cc in let g : None ≡ Some f = subst (λ z. at_offset z at ≡ Some f) (sym e) here in cc
  good_frames before locals (e ∷ es) frames d at f here =
      let p = parts (least (against before locals e)) (offset_of before e) (frame_of locals e) (frames_behind before locals e es) frames d in
      by p.1.0 p.0 (λ g. good_frames (Some (offset_of before e)) (locals_of pool locals e) es p.1.0 p.1.1 at f g) (nat_eq (offset_of before e) at) refl (subst (λ z. at_offset z at ≡ Some f) (sym p.1.2) here)
    where
      by : (others : List (ℕ × FrameFact)) → least (against before locals e) ≡ None → (at_offset others at ≡ Some f → IsGoodFrame code max_locals max_stack at f) → (b : Bool) → nat_eq (offset_of before e) at ≡ b → (if b then Some (frame_of locals e) else at_offset others at) ≡ Some f → IsGoodFrame code max_locals max_stack at f
      by others n rec false q g = rec g
      by others n rec true q g =
          let here_at : offset_of before e ≡ at = eqb-true (offset_of before e) at q in
          let frame : frame_of locals e ≡ f = cc in
          subst (λ z. IsGoodFrame code max_locals max_stack at z) frame (subst (λ z. IsGoodFrame code max_locals max_stack z (frame_of locals e)) here_at (good_first before locals e (none_least (against before locals e) n)))
