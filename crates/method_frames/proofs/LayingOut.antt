-- Local variables that are given one type more after those in use, or one less.
use Rattle.std.proofs.Common.{◌≡◌, ◌∙◌, ℕ, zero, suc, ◌+◌, ◌-◌, ◌<◌, ◌≤◌, Bool, true, false, cond, List, [], ◌∷◌, ◌++◌, length, take, drop, get_or, set, replicate, reverse, Option, Some, None, refl, sym, ap, subst, arith, append_assoc}
use Rattle.std.specs.Prelude.{MatchOption}
use Rattle.std.proofs.lemmas.List.{length-append, length-replicate, length-set, map-append, map-set, reverse-reverse, take-append-drop, take-append-le, take_more}
use Rattle.std.proofs.Math.Seq.{set-append_seam}
use Rattle.frames.specs.VerificationType.{VerificationType, top}
use Rattle.frames.specs.FrameAssignable.{width_of}
use Rattle.frames.specs.Slots.{is_wide, units_of, in_locals, all_locals}
use Rattle.frames.proofs.Units.{units_append, units_reverse}
use Rattle.frames.proofs.Walks.{width_is, in_append, units_in}
use Rattle.type_numbers.specs.Numbers.{Numbering, IsGiven}
use Rattle.type_numbers.specs.Decoding.{type_by, types_by}
use Rattle.method_frames.specs.NumberedFrames.{NumberedFrames}
use Rattle.method_frames.specs.MapFrames.{IsLaidOut}
use Rattle.method_frames.specs.private.KnownRows.{AreGiven}
use Rattle.method_frames.specs.private.MapEntries.{AreRewritten}

pub units_are : (ts : List VerificationType) → units_of ts ≡ length (in_locals ts)
units_are ts = sym (units_reverse ts) ∙ sym (units_in (reverse ts)) ∙ ap (λ l. length (in_locals l)) (reverse-reverse ts)

pub some_width : (t : VerificationType) → 1 ≤ width_of t
some_width t = by (is_wide t) (width_is t)
  where
    by : (b : Bool) → width_of t ≡ cond b 2 1 → 1 ≤ width_of t
    by true e = omega (arith, e)
    by false e = omega (arith, e)

module _ (m : ℕ) (ts : List VerificationType) (t : VerificationType) (fits : units_of ts + width_of t ≤ m) where
  abbrev xs : List VerificationType
  xs = in_locals ts

  low : units_of ts ≡ length xs
  low = units_are ts

  abbrev left : List VerificationType
  left = replicate (m - length xs - 1) top

  some : 1 ≤ width_of t
  some = some_width t

  front : all_locals m ts ≡ xs ++ top ∷ left
  front =
      let e : m - length xs ≡ suc (m - length xs - 1) = omega (arith, fits, some, low) in
      ap (λ n. xs ++ replicate n top) e

  filled : (b : Bool) → width_of t ≡ cond b 2 1
      → cond b (t ∷ top ∷ []) (t ∷ []) ++ replicate (m - (length xs + length (cond b (t ∷ top ∷ []) (t ∷ [])))) top ≡ t ∷ left
  filled true w =
      let e : m - length xs - 1 ≡ suc (m - (length xs + 2)) = omega (arith, fits, low, w) in
      sym (ap (λ n. t ∷ replicate n top) e)
  filled false w =
      let e : m - (length xs + 1) ≡ m - length xs - 1 = omega arith in
      ap (λ n. t ∷ replicate n top) e

  behind : all_locals m (ts ++ t ∷ []) ≡ xs ++ t ∷ left
  behind =
      ap (λ ys. ys ++ replicate (m - length ys) top) (in_append ts (t ∷ []))
      ∙ ap (λ n. (xs ++ in_locals (t ∷ [])) ++ replicate (m - n) top) (length-append xs (in_locals (t ∷ [])))
      ∙ append_assoc xs (in_locals (t ∷ [])) (replicate (m - (length xs + length (in_locals (t ∷ [])))) top)
      ∙ ap (λ r. xs ++ r) (filled (is_wide t) (width_is t))

  pub one_more : set (all_locals m ts) (units_of ts) t ≡ all_locals m (ts ++ t ∷ [])
  one_more = ap (λ l. set l (units_of ts) t) front ∙ ap (λ n. set (xs ++ top ∷ left) n t) low ∙ set-append_seam xs top left t ∙ sym behind

  pub one_less : set (all_locals m (ts ++ t ∷ [])) (units_of ts) top ≡ all_locals m ts
  one_less = ap (λ l. set l (units_of ts) top) behind ∙ ap (λ n. set (xs ++ t ∷ left) n top) low ∙ set-append_seam xs t left top ∙ sym front

-- ---- in the running frame

abbrev pub with_local : NumberedFrames → ℕ → ℕ → NumberedFrames
with_local x place n = record x { running = record x.running { locals = set x.running.locals place n } }

module _ (x : NumberedFrames) (ns : List ℕ) (n units : ℕ) (u : units_of (types_by x.types ns) ≡ units) where
  abbrev pub types : List ℕ → List VerificationType
  types = types_by x.types

  abbrev pub high : ℕ
  high = length x.running.locals

  abbrev pub type : VerificationType
  type = type_by x.types n

  types_more : types (ns ++ n ∷ []) ≡ types ns ++ type ∷ []
  types_more = map-append (type_by x.types) ns (n ∷ [])

  pub units_more : units_of (types (ns ++ n ∷ [])) ≡ units_of (types ns) + width_of type
  units_more = let parts = ap units_of types_more ∙ units_append (types ns) (type ∷ []) in omega (arith, parts)

  still : length (set x.running.locals units n) ≡ high
  still = length-set x.running.locals units n

  pub laid_more : units_of (types ns) + width_of type ≤ high → IsLaidOut x ns → IsLaidOut (with_local x units n) (ns ++ n ∷ [])
  laid_more fits laid = record {
    same =
        map-set (type_by x.types) x.running.locals units n ∙ ap (λ l. set l units type) laid.same
        ∙ ap (λ k. set (all_locals high (types ns)) k type) (sym u) ∙ one_more high (types ns) type fits
        ∙ ap (all_locals high) (sym types_more) ∙ ap (λ k. all_locals k (types (ns ++ n ∷ []))) (sym still);
    fits = omega (arith, still, fits, units_more, units_are (types (ns ++ n ∷ [])));
  }

  pub laid_less : IsLaidOut x (ns ++ n ∷ []) → IsLaidOut (with_local x units 0) ns
  laid_less laid =
      let still_so : length (set x.running.locals units 0) ≡ high = length-set x.running.locals units 0 in
      let within : units_of (types ns) + width_of type ≤ high = omega (arith, laid.fits, units_more, units_are (types (ns ++ n ∷ []))) in
      record {
        same =
            map-set (type_by x.types) x.running.locals units 0 ∙ ap (λ l. set l units top) (laid.same ∙ ap (all_locals high) types_more)
            ∙ ap (λ k. set (all_locals high (types ns ++ type ∷ [])) k top) (sym u) ∙ one_less high (types ns) type within
            ∙ ap (λ k. all_locals k (types ns)) (sym still_so);
        fits = omega (arith, still_so, within, units_are (types ns));
      }

-- ---- a local is taken off, if there is one

abbrev pub IsPopped : List ℕ → List ℕ → Option ℕ → Type 0
IsPopped old new o = MatchOption o ((old ≡ []) × (new ≡ old)) (λ n. old ≡ new ++ n ∷ [])

pub record IsShorter (x : NumberedFrames) (units left : ℕ) (old new : List ℕ) : Type 0 where
  pub place : units < length x.running.locals
  pub laid : IsLaidOut (with_local x units 0) new
  pub front : take left new ≡ take left old
  pub count : length new < length old

pub popped_off : (x : NumberedFrames) (units left : ℕ) (old new : List ℕ) (o : Option ℕ) → IsPopped old new o → left < length old
    → units_of (types_by x.types new) ≡ units → IsLaidOut x old → IsShorter x units left old new
popped_off x units left old new None h lt u laid = let none = ap length h.0 in absurd (omega (arith, none, lt))
popped_off x units left old new (Some n) h lt u laid =
    let here = subst (IsLaidOut x) h laid in
    let long = ap length h ∙ length-append new (n ∷ []) in
    record {
      place = omega (arith, here.fits, units_more x new n units u, units_are (types_by x.types (new ++ n ∷ [])), some_width (type_by x.types n), u);
      laid = laid_less x new n units u here;
      front = sym (take-append-le left new (n ∷ []) (omega (arith, long, lt))) ∙ sym (ap (take left) h);
      count = omega (arith, long);
    }

pub rewritten_local : (old now new : NumberedFrames) (place n : ℕ) → new ≡ with_local now place n → AreRewritten old now → AreRewritten old new
rewritten_local old now new place n e a = subst (AreRewritten old) (sym e) (record {
  others = ap (λ y. with_local y place n) a.others;
  size = length-set now.running.locals place n ∙ a.size;
})

-- ---- one of many that are put after the others

units_split : (s : Numbering) (xs ys : List ℕ) → units_of (types_by s (xs ++ ys)) ≡ units_of (types_by s xs) + units_of (types_by s ys)
units_split s xs ys = ap units_of (map-append (type_by s) xs ys) ∙ units_append (types_by s xs) (types_by s ys)

units_from : (s : Numbering) (ns : List ℕ) (i : ℕ) → i < length ns
    → units_of (types_by s (take i ns)) + width_of (type_by s (get_or ns i 0)) ≤ units_of (types_by s ns)
units_from s ns i lt =
    let one = ap (λ l. units_of (types_by s l)) (take_more ns i 0 lt) ∙ units_split s (take i ns) (get_or ns i 0 ∷ []) in
    let all = ap (λ l. units_of (types_by s l)) (sym (take-append-drop (i + 1) ns)) ∙ units_split s (take (i + 1) ns) (drop (i + 1) ns) in
    omega (arith, one, all)

pub appended_given : (old now : NumberedFrames) (ns : List ℕ) (i : ℕ) → i < length ns → AreGiven old.types ns → AreRewritten old now → IsGiven now.types (get_or ns i 0)
appended_given old now ns i lt all a = subst (λ y. IsGiven y.types (get_or ns i 0)) (sym a.others) (all i lt)

pub appended_fits : (old now : NumberedFrames) (before locals ns : List ℕ) (i : ℕ) → i < length ns
    → units_of (types_by old.types (before ++ ns)) ≤ length old.running.locals → AreRewritten old now → locals ≡ before ++ take i ns
    → units_of (types_by now.types locals) + width_of (type_by now.types (get_or ns i 0)) ≤ length now.running.locals
appended_fits old now before locals ns i lt fits a e =
    subst (λ y. units_of (types_by y.types locals) + width_of (type_by y.types (get_or ns i 0)) ≤ length now.running.locals) (sym a.others)
    (omega (arith, fits, a.size, ap (λ l. units_of (types_by old.types l)) e ∙ units_split old.types before (take i ns), units_split old.types before ns, units_from old.types ns i lt))

-- ---- no local is in use

tops_by : (s : Numbering) (count : ℕ) → types_by s (replicate count 0) ≡ replicate count top
tops_by s zero = refl
tops_by s (suc n) = ap (λ ts. top ∷ ts) (tops_by s n)

pub top_laid : (x : NumberedFrames) (count : ℕ) → x.running.locals ≡ replicate count 0 → IsLaidOut x []
top_laid x count e = record {
  same =
      let long = ap length e ∙ length-replicate count zero in
      let left : length x.running.locals - 0 ≡ count = omega (arith, long) in
      ap (types_by x.types) e ∙ tops_by x.types count ∙ ap (λ n. replicate n top) (sym left);
  fits = omega arith;
}
