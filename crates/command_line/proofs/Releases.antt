-- The number that a word is, as it is read.
use Rattle.std.proofs.Common.{◌≡◌, ◌≤◌, ◌<◌, ◌∷◌, [], ℕ, Bool, List, Some, None, Result, Ok, Err, true, false, ◌&&◌, if◌then◌else◌, length, map, get_or, refl, ap, arith}
use Rattle.std.proofs.lemmas.Bool.{ltb-true, lt-ltb}
use Rattle.std.specs.Borrow.{Bor}
use Rattle.std.specs.Prelude.{nat_lt}
use Rattle.std.specs.List.{list_all}
use Rattle.std.specs.Char.{digit_value}
use Rattle.std.specs.Str.Parse.{AllDigits, ParsesUnsigned, digits_value, without_leading_plus}
use Rattle.std.specs.Result.{result_ok}
use Rattle.clap.proofs.WalkLemmas.{both}
use Rattle.clap.specs.ValueTests.{is_numeral}
use Rattle.clap.specs.Words.{Text}
use Rattle.command_line.specs.Line.{number_of, release_of}

are_digits : (ds : List ℕ) → list_all (λ d. nat_lt (digit_value d) 10) ds ≡ true → AllDigits 10 ds
are_digits [] e = tt
are_digits (d ∷ ds) e = let parts = both _ _ e in (ltb-true _ _ parts.0, are_digits ds parts.1)

digits_are : (ds : List ℕ) → AllDigits 10 ds → list_all (λ d. nat_lt (digit_value d) 10) ds ≡ true
digits_are [] h = refl
digits_are (d ∷ ds) h = rw (lt-ltb (digit_value d) 10 h.0) (digits_are ds h.1)

-- the test on a word
abbrev is_number : Text → Bool
is_number word = is_numeral (without_leading_plus word) && nat_lt (digits_value 10 (without_leading_plus word)) 256

pub number_is : {E : Type 0} (word : Text) (r : Result ℕ E) → ParsesUnsigned 8 10 word r → result_ok r ≡ number_of word
number_is word (Ok x) h =
    let ds = without_leading_plus word in
    rw (lt-ltb 0 (length ds) h.0.0.0, digits_are ds h.0.0.1, lt-ltb (digits_value 10 ds) 256 h.0.1) (ap Some h.1)
number_is word (Err e) none = by (is_number word) refl
  where
    by : (b : Bool) → is_number word ≡ b → None ≡ (if b then Some (digits_value 10 (without_leading_plus word)) else None)
    by true is =
        let parts = both _ _ is in
        let numeral = both _ _ parts.0 in
        absurd (none ((ltb-true _ _ numeral.0, are_digits _ numeral.1), ltb-true _ _ parts.1))
    by false is = refl

-- the release that one word names
pub of_one : (words : List (Bor (List ℕ))) (d : Bor (List ℕ)) → 1 ≤ length words → length words < 2
    → release_of (map (λ w. w.now) words) ≡ number_of (get_or words 0 d).now
of_one [] d least most = absurd (omega (arith, least))
of_one (w ∷ []) d least most = refl
of_one (w ∷ v ∷ ws) d least most = absurd (omega (arith, most))
