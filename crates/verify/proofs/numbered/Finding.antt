-- The frame that is declared at an offset, by its place.
use Rattle.std.proofs.Common.{◌≡◌, ◌∙◌, ℕ, zero, suc, ℤ, pos, negsuc, Bool, true, false, nat_eq, List, [], ◌∷◌, Option, Some, None, option_map, slice_get, if◌then◌else◌, refl, sym, ap, subst}
use Rattle.std.specs.Prelude.{IsSomeAnd, MatchOption, int_lt}
use Rattle.std.specs.Int.RustNames.{unsigned_abs}
use Rattle.std.proofs.lemmas.Option.{slice_get_within, get_or_from_slice_get}
use Rattle.insn.specs.Offsets.{at_offset}
use Rattle.type_numbers.specs.Numbers.{Numbering}
use Rattle.method_frames.specs.NumberedFrames.{NumberedFrame, empty_frame, frame_by}
use Rattle.method_frames.specs.MapFrames.{frames_by}
use Rattle.verify.specs.Verdict.{declared_at}
use Rattle.verify.specs.private.pass.Finding.{frame_in, IsFound}

module _ (s : Numbering) where
  frames_at : (ds : List (ℕ × NumberedFrame)) (at : ℕ) → at_offset (frames_by s ds) at ≡ option_map (frame_by s) (at_offset ds at)
  frames_at [] at = refl
  frames_at (d ∷ ds) at = by (nat_eq d.0 at) (frames_at ds at)
    where
      by : (b : Bool) → at_offset (frames_by s ds) at ≡ option_map (frame_by s) (at_offset ds at)
          → (if b then Some (frame_by s d.1) else at_offset (frames_by s ds) at) ≡ option_map (frame_by s) (if b then Some d.1 else at_offset ds at)
      by true e = refl
      by false e = e

  frames_get : (ds : List (ℕ × NumberedFrame)) (k : ℕ) (x : ℕ × NumberedFrame) → slice_get ds k ≡ Some x → slice_get (frames_by s ds) k ≡ Some (x.0, frame_by s x.1)
  frames_get [] k x e = absurd (cc)
  frames_get (d ∷ ds) zero x e = let same : d ≡ x = cc in ap (λ (y : ℕ × NumberedFrame). Some (y.0, frame_by s y.1)) same
  frames_get (d ∷ ds) (suc k) x e = frames_get ds k x e

  -- none is declared
  not_found : (ds : List (ℕ × NumberedFrame)) (at : ℕ) → at_offset ds at ≡ None → at_offset (frames_by s ds) at ≡ None
  not_found ds at e = frames_at ds at ∙ ap (option_map (frame_by s)) e

  module _ (ds : List (ℕ × NumberedFrame)) (at frame : ℕ) where
    found_at : (o : Option (ℕ × NumberedFrame)) → slice_get ds frame ≡ o → IsSomeAnd o (λ x. (x.0 ≡ at) × (at_offset ds at ≡ Some x.1)) → IsFound s ds (pos at) frame
    found_at None e h = absurd h
    found_at (Some x) e h =
        let is : frame_in ds frame ≡ x.1 = ap (λ (y : ℕ × NumberedFrame). y.1) (get_or_from_slice_get ds frame x (0, empty_frame) e) in
        record {
          within = slice_get_within ds frame x e;
          place = record {
            declared = frames_at ds at ∙ ap (option_map (frame_by s)) (h.1 ∙ ap (λ (y : NumberedFrame). Some y) (sym is));
            at = x.0;
            here = frames_get ds frame x e ∙ ap (λ (y : NumberedFrame). Some (x.0, frame_by s y)) (sym is);
          };
        }

    -- one is
    found : IsSomeAnd (slice_get ds frame) (λ x. (x.0 ≡ at) × (at_offset ds at ≡ Some x.1)) → IsFound s ds (pos at) frame
    found h = found_at (slice_get ds frame) refl h

  -- an entry that is found at an offset
  abbrev IsEntry : List (ℕ × NumberedFrame) → ℕ → ℕ → Type 0
  IsEntry ds at frame = IsSomeAnd (slice_get ds frame) (λ x. (x.0 ≡ at) × (at_offset ds at ≡ Some x.1))

  found_there : (ds : List (ℕ × NumberedFrame)) (at : ℕ) (r : Option ℕ) → MatchOption r (at_offset ds at ≡ None) (IsEntry ds at) → MatchOption r (at_offset (frames_by s ds) at ≡ None) (IsFound s ds (pos at))
  found_there ds at None h = not_found ds at h
  found_there ds at (Some frame) h = found ds at frame h

  pub found_in : (ds : List (ℕ × NumberedFrame)) (at n : ℕ) (r : Option ℕ) → n ≡ at → MatchOption r (at_offset ds n ≡ None) (IsEntry ds n) → MatchOption r (at_offset (frames_by s ds) at ≡ None) (IsFound s ds (pos at))
  found_in ds at n r e h = found_there ds at r (subst (λ k. MatchOption r (at_offset ds k ≡ None) (IsEntry ds k)) e h)

  -- and at a target
  pub found_at_target : (ds : List (ℕ × NumberedFrame)) (target : ℤ) (n : ℕ) (r : Option ℕ) → target ≡ pos n → MatchOption r (at_offset ds n ≡ None) (IsEntry ds n)
      → MatchOption r (declared_at (frames_by s ds) target ≡ None) (IsFound s ds target)
  found_at_target ds target n r e h = subst (λ t. MatchOption r (declared_at (frames_by s ds) t ≡ None) (IsFound s ds t)) (sym e) (found_there ds n r h)

-- a target that is not negative
pub not_negative : (target : ℤ) → int_lt target (pos 0) ≡ false → target ≡ pos (unsigned_abs target)
not_negative (pos at) e = refl
not_negative (negsuc n) e = absurd (cc)
