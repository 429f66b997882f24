-- Bytes that stand as they are are the text of the units that they spell.
use Rattle.std.proofs.Common.{◌≡◌, ℕ, zero, suc, List, [], ◌∷◌, ◌++◌, length, take, drop, slice_index, refl, sym, ap, ap₂, ◌∙◌, Bool, true, Option, Some, None, arith}
use Rattle.std.proofs.lemmas.Bool.Decides.{nat_tests}
use Rattle.std.specs.List.{flat_map}
use Rattle.std.specs.Io.KnownBytes.{Appends}
use Rattle.names.specs.Units.{unit_at, units_of}
use Rattle.names.specs.Forms.{AreIn}
use Rattle.names.proofs.UnitLaws.{again_one, units_on_from, no_units}
use Rattle.printing.specs.Names.{is_plain, unit_text}
use Rattle.printing.specs.Json.{is_unescaped, character_text}
use Rattle.printing.specs.private.Runs.{StandsAlone, StandIn, StandInFront}
use Rattle.printing.specs.Writing.{AppendsFront}
use Rattle.printing.proofs.Writings.{SoFar, with_left, one_more, stops_inside, all_written}

pub plain_stands : (b : ℕ) → is_plain b ≡ true → StandsAlone unit_text b
plain_stands b is = record { some = grind (arith, nat_tests); one = grind (arith, nat_tests); alone = rw is refl }

pub unescaped_stands : (b : ℕ) → is_unescaped b ≡ true → StandsAlone character_text b
unescaped_stands b is = record { some = grind (arith, nat_tests); one = grind (arith, nat_tests); alone = rw is refl }

-- bytes of a kind all of which stand as they are
pub stand_in : (text : ℕ → List ℕ) (is : ℕ → Bool) → ((b : ℕ) → is b ≡ true → StandsAlone text b)
    → (bytes : List ℕ) (at n count : ℕ) → AreIn is bytes at n count → StandIn text bytes at n count
stand_in text is stands bytes at n count are = (are.0, λ k from to. stands (slice_index bytes k) (are.1 k from to))

module _ (text : ℕ → List ℕ) where
  abbrev written : List ℕ → List ℕ
  written bytes = flat_map text (units_of bytes)

  run_text : (n : ℕ) (bytes : List ℕ) → StandInFront text bytes n → written bytes ≡ take n bytes ++ written (drop n bytes)
  run_text zero bytes stand = refl
  run_text (suc n) [] stand = absurd (omega (arith, stand.0))
  run_text (suc n) (b ∷ bytes) stand =
      let first = stand.1 0 (omega arith) (omega arith) in
      let behind : StandInFront text bytes n = (omega (arith, stand.0), λ k from to. stand.1 (suc k) (omega arith) (omega (arith, to))) in
      let one = units_on_from (b ∷ bytes) b 1 (again_one b bytes first.some first.one) in
      ap (flat_map text) one ∙ ap₂ (λ t rest. t ++ rest) first.alone (run_text n bytes behind)

  -- a run of units that take a byte each
  pub bytes_text : (bytes : List ℕ) → StandInFront text bytes (length bytes) → flat_map text bytes ≡ bytes
  bytes_text [] stand = refl
  bytes_text (b ∷ bytes) stand =
      let behind : StandInFront text bytes (length bytes) = (omega arith, λ k from to. stand.1 (suc k) (omega arith) (omega (arith, to))) in
      ap₂ (λ t rest. t ++ rest) (stand.1 0 (omega arith) (omega arith)).alone (bytes_text bytes behind)

  -- after what was written, a run in front of other bytes
  module _ (a b : Option (List ℕ)) (whole bytes run behind : List ℕ) (n : ℕ) (stand : StandInFront text bytes n)
      (front : run ≡ take n bytes) (back : behind ≡ drop n bytes) (so : SoFar a b whole (written bytes)) where
    run_left : SoFar a b whole (run ++ written behind)
    run_left = with_left _ _ _ _ _ (run_text n bytes stand ∙ ap₂ (λ r l. r ++ written l) (sym front) (sym back)) so

    pub run_stops : (c : Option (List ℕ)) → AppendsFront b c run → AppendsFront a c whole
    run_stops c now = stops_inside a b c whole run (written behind) run_left now

    pub run_written : (c : Option (List ℕ)) → Appends b c run → SoFar a c whole (written behind)
    run_written c now = one_more a b c whole run (written behind) run_left now

  -- and the unit after it
  module _ (a b : Option (List ℕ)) (whole bytes : List ℕ) (u n : ℕ) (is : unit_at bytes ≡ Some (u, n)) (so : SoFar a b whole (written bytes)) where
    unit_left : SoFar a b whole (text u ++ written (drop n bytes))
    unit_left = with_left _ _ _ _ _ (ap (flat_map text) (units_on_from bytes u n is)) so

    pub unit_stops : (c : Option (List ℕ)) → AppendsFront b c (text u) → AppendsFront a c whole
    unit_stops c now = stops_inside a b c whole (text u) (written (drop n bytes)) unit_left now

    pub unit_written : (c : Option (List ℕ)) (behind : List ℕ) → behind ≡ drop n bytes → Appends b c (text u) → SoFar a c whole (written behind)
    unit_written c behind back now = with_left _ _ _ _ _ (ap written (sym back)) (one_more a b c whole (text u) (written (drop n bytes)) unit_left now)

  -- no unit is left
  pub units_written : (a b : Option (List ℕ)) (whole bytes : List ℕ) → unit_at bytes ≡ None → SoFar a b whole (written bytes) → Appends a b whole
  units_written a b whole bytes none so = all_written a b whole (with_left _ _ _ _ _ (ap (flat_map text) (no_units bytes none)) so)
