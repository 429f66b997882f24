-- Each frame of a method has max_locals local variables: an instruction leaves their number as it is.
use Rattle.std.proofs.Common.{◌≡◌, ℕ, zero, suc, Bool, true, false, List, [], ◌∷◌, length, Some, None, Ok, refl, ap, if◌then◌else◌}
use Rattle.std.proofs.lemmas.List.{length-map}
use Rattle.classfile.specs.Methods.{Method}
use Rattle.insn.specs.Meanings.{Act}
use Rattle.insn.specs.Offsets.{at_offset}
use Rattle.frames.specs.VerificationType.{VerificationType}
use Rattle.frames.specs.FrameFact.{FrameFact}
use Rattle.frames.specs.Slots.{is_wide}
use Rattle.rules.specs.TypingRules.{TypingRule, pops, loads, stores, increments, rearranges, loads_element, makes, constructs, calls_special, returns, refuses}
use Rattle.rules.specs.After.{top_of, top_first, stored_type, forgotten, class_after, initialized, after}
use Rattle.insn.specs.OperandStacks.{beneath}
use Rattle.verify.specs.InitialFrames.{initial_types}
use Rattle.verify.specs.TypeSafety.{Frames, Declares}
use Rattle.verify.specs.Verdict.{frames_declared}
use Rattle.verify.proofs.Declared.{good_frames}
use Rattle.verify.proofs.Premises.{frames_there}

topped_length : (b : Bool) (xs : List VerificationType) → length (if b then top_first xs else xs) ≡ length xs
topped_length true [] = refl
topped_length true (x ∷ xs) = refl
topped_length false xs = refl

stored_length : (t : VerificationType) (n : ℕ) (xs : List VerificationType) → length (stored_type t n xs) ≡ length xs
stored_length t zero [] = refl
stored_length t (suc zero) [] = refl
stored_length t (suc (suc n)) [] = refl
stored_length t zero (x ∷ xs) = ap suc (topped_length (is_wide t) xs)
stored_length t (suc zero) (x ∷ xs) = ap suc (stored_length t zero xs)
stored_length t (suc (suc n)) (x ∷ xs) = ap suc (stored_length t (suc n) xs)

pub after_length : (m : Method Act) (at : ℕ) (p : TypingRule) (f : FrameFact) → length (after m at p f).locals ≡ length f.locals
after_length m at (pops ws gs offsets on) f = refl
after_length m at (loads w n width) f = refl
after_length m at (stores w n width) f = stored_length (top_of f.stack) n f.locals
after_length m at (increments n) f = refl
after_length m at (rearranges forms) f = refl
after_length m at loads_element f = refl
after_length m at (makes name) f = length-map f.locals (forgotten at)
after_length m at (constructs name ws) f =
    let object = top_of (beneath ws f.stack) in
    length-map f.locals (initialized object (class_after m name object))
after_length m at (calls_special type ws gs) f = refl
after_length m at returns f = refl
after_length m at (refuses n) f = refl

pub declared_full : (m : Method Act) (frames : Frames) → frames_declared m ≡ Ok frames → (at : ℕ) (f : FrameFact) → at_offset frames at ≡ Some f → length f.locals ≡ m.max_locals
declared_full m frames e at f here =
    let d : Declares m frames = frames_there m frames e in
    (good_frames m.constant_pool m.code m.max_locals m.max_stack None (initial_types m) d.entries frames d.declared at f here).full
