-- The units of the types that an entry of a stack map gives.
use Rattle.std.proofs.Common.{◌≡◌, ◌∙◌, ℕ, ◌+◌, ◌-◌, ◌<◌, ◌≤◌, ◌⊎◌, List, [], ◌∷◌, ◌++◌, length, map, take, reverse, get_or, sym, ap, subst, inl, inr, arith}
use Rattle.std.proofs.lemmas.Bool.{cases_lt}
use Rattle.std.proofs.lemmas.List.{map-append, length-append, take_more, get_or_append_left}
use Rattle.std.proofs.Math.Seq.{get_or-append_right}
use Rattle.pool.specs.Entries.{Entry}
use Rattle.frames.specs.VerificationType.{VerificationType}
use Rattle.frames.specs.FrameAssignable.{width_of}
use Rattle.frames.specs.Slots.{units_of}
use Rattle.frames.specs.MapViews.{info_of}
use Rattle.frames.specs.DeclaredFrames.{type_given, types_given}
use Rattle.frames.specs.declared.stack_map.TypeInfo.{TypeInfo}
use Rattle.frames.proofs.Units.{units_append, units_reverse}
use Rattle.type_numbers.specs.Numbers.{Numbering, IsNumber, IsGiven}
use Rattle.type_numbers.specs.Decoding.{type_by}
use Rattle.type_numbers.proofs.Decoded.{number_read}
use Rattle.method_frames.specs.private.KnownRows.{AreGiven}
use Rattle.method_frames.specs.private.MapEntries.{AreNumbers}

-- one type more
pub given_more : (pool : List Entry) (xs : List TypeInfo) (i : ℕ) (d : TypeInfo) → i < length xs
    → types_given pool (map info_of (take (i + 1) xs)) ≡ types_given pool (map info_of (take i xs)) ++ type_given pool (info_of (get_or xs i d)) ∷ []
given_more pool xs i d lt =
    ap (λ l. types_given pool (map info_of l)) (take_more xs i d lt)
    ∙ ap (types_given pool) (map-append info_of (take i xs) (get_or xs i d ∷ []))
    ∙ map-append (type_given pool) (map info_of (take i xs)) (info_of (get_or xs i d) ∷ [])

pub units_given : (pool : List Entry) (xs : List TypeInfo) (i : ℕ) (d : TypeInfo) (units width : ℕ) → i < length xs
    → units_of (types_given pool (map info_of (take i xs))) ≡ units → width_of (type_given pool (info_of (get_or xs i d))) ≡ width
    → units_of (types_given pool (map info_of (take (i + 1) xs))) ≡ units + width
units_given pool xs i d units width lt e w =
    let parts = ap units_of (given_more pool xs i d lt) ∙ units_append (types_given pool (map info_of (take i xs))) (type_given pool (info_of (get_or xs i d)) ∷ []) in
    omega (arith, parts, e, w)

-- ---- numbers of given types, one more

module _ (s : Numbering) (ns : List ℕ) (n : ℕ) (t : VerificationType) (is : IsNumber s n t) where
  given_behind : AreGiven s ns → (place : ℕ) → place < length (ns ++ n ∷ []) → IsGiven s (get_or (ns ++ n ∷ []) place 0)
  given_behind all place lt = by (cases_lt place (length ns))
    where
      by : (place < length ns) ⊎ (length ns ≤ place) → IsGiven s (get_or (ns ++ n ∷ []) place 0)
      by (inl low) = subst (IsGiven s) (sym (get_or_append_left ns (n ∷ []) 0 place low)) (all place low)
      by (inr high) =
          let same : place - length ns ≡ 0 = omega (arith, lt, high, length-append ns (n ∷ [])) in
          subst (IsGiven s) (sym (get_or-append_right ns (n ∷ []) place 0 high ∙ ap (λ k. get_or (n ∷ []) k 0) same)) (t, is)

  pub number_behind : (ts : List VerificationType) → AreNumbers s ns ts → AreNumbers s (ns ++ n ∷ []) (ts ++ t ∷ [])
  number_behind ts a = record {
    types_are = map-append (type_by s) ns (n ∷ []) ∙ ap (λ l. l ++ type_by s n ∷ []) a.types_are ∙ ap (λ u. ts ++ u ∷ []) (number_read s n t is);
    given = given_behind a.given;
  }

pub numbers_more : (s : Numbering) (pool : List Entry) (xs : List TypeInfo) (i : ℕ) (d : TypeInfo) (ns new : List ℕ) (n : ℕ) → i < length xs
    → IsNumber s n (type_given pool (info_of (get_or xs i d))) → AreNumbers s ns (types_given pool (map info_of (take i xs))) → new ≡ ns ++ n ∷ []
    → AreNumbers s new (types_given pool (map info_of (take (i + 1) xs)))
numbers_more s pool xs i d ns new n lt is a e =
    let t = type_given pool (info_of (get_or xs i d)) in
    let more = number_behind s ns n t is (types_given pool (map info_of (take i xs))) a in
    subst (λ ms. AreNumbers s ms (types_given pool (map info_of (take (i + 1) xs)))) (sym e)
    (subst (AreNumbers s (ns ++ n ∷ [])) (sym (given_more pool xs i d lt)) more)

-- ---- the units of an entry's types, by a slice of them

module _ (pool : List Entry) (xs seen : List TypeInfo) (units : ℕ) (same : seen ≡ xs) (e : units_of (types_given pool (map info_of seen)) ≡ units) where
  pub units_in_all : units_of (types_given pool (map info_of xs)) ≡ units
  units_in_all = subst (λ zs. units_of (types_given pool (map info_of zs)) ≡ units) same e

  pub units_on_stack : units_of (reverse (types_given pool (map info_of xs))) ≡ units
  units_on_stack = units_reverse (types_given pool (map info_of xs)) ∙ units_in_all

pub units_appended : (pool : List Entry) (ts : List VerificationType) (xs seen : List TypeInfo) (before units : ℕ) → seen ≡ xs → units_of ts ≡ before
    → units_of (types_given pool (map info_of seen)) ≡ units → units_of (ts ++ types_given pool (map info_of xs)) ≡ before + units
units_appended pool ts xs seen before units same e f = omega (arith, units_append ts (types_given pool (map info_of xs)), e, units_in_all pool xs seen units same f)
