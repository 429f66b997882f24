-- The first entry that is refused is the one for which a map declares no frames.
use Rattle.std.proofs.Common.{◌≡◌, ◌∙◌, ℕ, suc, List, [], ◌∷◌, Option, Some, None, Result, Ok, Err, refl, sym, ap}
use Rattle.pool.specs.Entries.{Entry}
use Rattle.insn.specs.Meanings.{Act}
use Rattle.frames.specs.VerificationType.{VerificationType}
use Rattle.frames.specs.FrameFact.{FrameFact}
use Rattle.frames.specs.Conditions.{Reason, least}
use Rattle.frames.specs.StackMaps.{MapEntry}
use Rattle.frames.specs.DeclaredFrames.{locals_of, stack_of, offset_of, frame_with, frame_before, declared_from, entry_conditions}
use Rattle.frames.specs.RefusedEntries.{RefusedFact, refused_before, refused_from, RefusedIsReason}

abbrev Answer : Type 0
Answer = Result (List (ℕ × FrameFact)) Reason

-- the reason of an answer, and of an entry
abbrev against_all : Answer → Option Reason
against_all (Ok gs) = None
against_all (Err r) = Some r

abbrev against_one : Option RefusedFact → Option Reason
against_one None = None
against_one (Some x) = Some x.reason

err_of : (a : Answer) (r : Reason) → against_all a ≡ Some r → a ≡ Err r
err_of (Ok gs) r e = absurd cc
err_of (Err s) r e = let same : s ≡ r = cc in ap (λ (t : Reason). Err t) same

some_of : (o : Option RefusedFact) (r : Reason) → against_one o ≡ Some r → (x : RefusedFact) × (o ≡ Some x) × (x.reason ≡ r)
some_of None r e = absurd cc
some_of (Some x) r e = let same : x.reason ≡ r = cc in (x, refl, same)

module _ (pool : List Entry) (code : List (ℕ × Act)) (max_locals max_stack : ℕ) where
  one_entry : (c : Option Reason) (place at : ℕ) (g : FrameFact) (others : Answer) (more : Option RefusedFact) → against_all others ≡ against_one more
      → against_all (frame_before pool code max_locals max_stack c at g others) ≡ against_one (refused_before c place at more)
  one_entry (Some r) place at g others more e = refl
  one_entry None place at g (Ok gs) more e = e
  one_entry None place at g (Err r) more e = e

  same_reason : (place : ℕ) (before : Option ℕ) (ts : List VerificationType) (es : List MapEntry)
      → against_all (declared_from pool code max_locals max_stack before ts es) ≡ against_one (refused_from pool code max_locals max_stack place before ts es)
  same_reason place before ts [] = refl
  same_reason place before ts (e ∷ es) =
      let at = offset_of before e in
      let now = locals_of pool ts e in
      one_entry (least (entry_conditions pool code max_locals max_stack at e ts now (stack_of pool e))) place at (frame_with pool code max_locals max_stack now (stack_of pool e))
      (declared_from pool code max_locals max_stack (Some at) now es) (refused_from pool code max_locals max_stack (suc place) (Some at) now es) (same_reason (suc place) (Some at) now es)

pub refused_is_reason : RefusedIsReason
refused_is_reason pool code max_locals max_stack initial es r =
    let same = same_reason pool code max_locals max_stack 0 None initial es in
    let answer = declared_from pool code max_locals max_stack None initial es in
    let entry = refused_from pool code max_locals max_stack 0 None initial es in (
      λ e. some_of entry r (sym same ∙ ap against_all e),
      λ x. err_of answer r (same ∙ ap against_one x.1 ∙ ap (λ (s : Reason). Some s) x.2),
    )
