-- The part of a file that is read: the class that it begins with, and the byte after it.
use Rattle.std.specs.Prelude.{◌≡◌, ◌++◌, List, ℕ, take}
use Rattle.classfile.specs.Outline.{IsOutline}

-- The front of the file that is the outline of a class file, and one byte more where there is one.
pub record ReadsOn (file given : List ℕ) : Type 0 where
  pub class : List ℕ
  pub behind : List ℕ
  pub parts : file ≡ class ++ behind
  pub outline : IsOutline class
  pub one_more : given ≡ class ++ take 1 behind

-- the file begins with these bytes
abbrev pub BeginsWith : List ℕ → List ℕ → Type 0
BeginsWith file given = (behind : List ℕ) × (file ≡ given ++ behind)
