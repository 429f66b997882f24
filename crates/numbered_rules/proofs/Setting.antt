-- Stores to the local variables of the running frame.
use Rattle.std.proofs.Common.{◌≡◌, ◌∙◌, ℕ, zero, suc, ◌+◌, ◌-◌, ◌<◌, ◌≤◌, Bool, true, false, List, [], ◌∷◌, length, get_or, set, refl, sym, ap, arith}
use Rattle.std.proofs.lemmas.List.{length-map, map-set}
use Rattle.frames.specs.VerificationType.{VerificationType, top}
use Rattle.frames.specs.FrameFact.{FrameFact}
use Rattle.frames.specs.Slots.{is_wide}
use Rattle.type_numbers.specs.Numbers.{Numbering}
use Rattle.type_numbers.specs.Decoding.{type_by, types_by}
use Rattle.method_frames.specs.NumberedFrames.{NumberedFrames}
use Rattle.rules.specs.After.{stored_type}
use Rattle.rules.specs.Views.{with_half_free}
use Rattle.rules.specs.After.{with_locals}
use Rattle.rules.proofs.Storing.{free_first, free_wide, free_narrow, store_narrow, store_last, store_wide}
use Rattle.numbered_rules.specs.RunningFrame.{held}

types_or : (s : Numbering) (row : List ℕ) (p : ℕ) → get_or (types_by s row) p top ≡ type_by s (get_or row p 0)
types_or s [] p = refl
types_or s (x ∷ xs) zero = refl
types_or s (x ∷ xs) (suc p) = types_or s xs p

abbrev pub IsSet : NumberedFrames → NumberedFrames → ℕ → ℕ → Type 0
IsSet old new p n = new ≡ record old { running = record old.running { locals = set old.running.locals p n } }

set_held : (old new : NumberedFrames) (p n : ℕ) → IsSet old new p n → held new ≡ with_locals (held old) (set (held old).locals p (type_by old.types n))
set_held old new p n e = ap held e ∙ ap (with_locals (held old)) (map-set (type_by old.types) old.running.locals p n)

-- ---- the long or double before a place

module _ (x : NumberedFrames) (place : ℕ) where
  abbrev freed : FrameFact
  freed = with_locals (held x) (with_half_free place (held x).locals)

  pub first_free : place ≡ 0 → held x ≡ freed
  first_free e = ap (with_locals (held x)) (free_first (held x).locals ∙ ap (λ k. with_half_free k (held x).locals) (sym e))

  module _ (n : ℕ) (some : 1 ≤ place) (inside : place < length x.running.locals) (at : n ≡ get_or x.running.locals (place - 1) 0) where
    abbrev before : ℕ
    before = place - 1

    next : suc before ≡ place
    next = omega (arith, some)

    below : before < length (held x).locals
    below = let long = length-map x.running.locals (type_by x.types) in omega (arith, inside, long)

    width : (b : Bool) → is_wide (type_by x.types n) ≡ b → is_wide (get_or (held x).locals before top) ≡ b
    width b e = ap is_wide (types_or x.types x.running.locals before ∙ ap (type_by x.types) (sym at)) ∙ e

    pub wide_free : (new : NumberedFrames) → is_wide (type_by x.types n) ≡ true → IsSet x new before 0 → held new ≡ freed
    wide_free new w e = set_held x new before 0 e ∙ ap (with_locals (held x)) (free_wide (held x).locals before below (width true w) ∙ ap (λ k. with_half_free k (held x).locals) next)

    pub narrow_free : is_wide (type_by x.types n) ≡ false → held x ≡ freed
    narrow_free w = ap (with_locals (held x)) (free_narrow (held x).locals before below (width false w) ∙ ap (λ k. with_half_free k (held x).locals) next)

-- ---- the store

module _ (old mid new : NumberedFrames) (place n : ℕ) (free : held mid ≡ freed old place) (same : mid.types ≡ old.types) (inside : place < length old.running.locals) (e : IsSet mid new place n) where
  abbrev t : VerificationType
  t = type_by old.types n

  abbrev ts : List VerificationType
  ts = (held old).locals

  within : place < length ts
  within = let long = length-map old.running.locals (type_by old.types) in omega (arith, inside, long)

  set_free : held new ≡ with_locals (held old) (set (with_half_free place ts) place t)
  set_free = set_held mid new place n e ∙ (λ i. with_locals (free i) (set ((λ (h : FrameFact). h.locals) (free i)) place (type_by (same i) n)))

  abbrev pub stored_on : FrameFact
  stored_on = with_locals (held old) (stored_type t place ts)

  pub narrow_stored : is_wide t ≡ false → held new ≡ stored_on
  narrow_stored w = set_free ∙ ap (with_locals (held old)) (store_narrow t place ts w within)

  pub last_stored : is_wide t ≡ true → length old.running.locals ≤ place + 1 → held new ≡ stored_on
  last_stored w last =
      let long = length-map old.running.locals (type_by old.types) in
      set_free ∙ ap (with_locals (held old)) (store_last t place ts w within (omega (arith, last, long)))

  pub wide_stored : (then : NumberedFrames) → is_wide t ≡ true → place + 1 < length old.running.locals → IsSet new then (place + 1) 0 → held then ≡ stored_on
  wide_stored then w more f =
      let long = length-map old.running.locals (type_by old.types) in
      set_held new then (place + 1) 0 f
      ∙ ap (λ (h : FrameFact). with_locals h (set h.locals (place + 1) top)) set_free
      ∙ ap (with_locals (held old)) (store_wide t place ts w (omega (arith, more, long)))
