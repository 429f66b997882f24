-- Numbers of texts, of which each is looked up once. Words of the code's own steps.
use Rattle.std.specs.Prelude.{◌≡◌, ℕ, List, slice_get, Option, Some}
use Rattle.std.specs.Borrow.{Bor}
use Rattle.hierarchy.specs.declared.text_numbers.Lookups.{Lookups}
use Rattle.hierarchy.specs.declared.text_numbers.Numbering.{Numbering}
use Rattle.hierarchy.specs.private.Above.{Numbers, number_of}
use Rattle.hierarchy.specs.Summary.{text_among}

-- each number that was given is that of its text
pub record AreGiven (numbers : Numbers) (n : Numbering) : Type 0 where
  pub each : (place k : ℕ) → slice_get n.given.items place ≡ Some (Some k)
      → number_of numbers (text_among n.texts.now place) ≡ Some k

-- these texts are looked up among these numbers, and what was found of each is its number, if it has one
pub record AreFound (numbers : Numbers) (texts : List (Bor (List ℕ))) (l : Lookups) : Type 0 where
  pub among : l.numbers.now ≡ numbers
  pub of : l.texts.now ≡ texts
  pub each : (place : ℕ) (found : Option ℕ) → slice_get l.found.items place ≡ Some (Some found)
      → found ≡ number_of numbers (text_among texts place)

-- each of these things is that of the text at its place
abbrev pub OfEach : (List ℕ → Option ℕ → Type 0) → List (Bor (List ℕ)) → List (Option ℕ) → Type 0
OfEach R texts things = (place : ℕ) (thing : Option ℕ) → slice_get things place ≡ Some thing → R (text_among texts place) thing
