-- Numbers of the texts of a constant pool, the same exactly for equal texts. Words of the code's own steps.
use Rattle.std.specs.Prelude.{◌≡◌, ◌≢◌, ℕ, ◌+◌, ◌<◌, List, length, Option, Some, Ok, slice_index_or}
use Rattle.std.specs.BTreeMap.{get_by}
use Rattle.std.specs.Cmp.Lexicographic.{slice_cmp}
use Rattle.std.specs.Ordering.{nat_cmp}
use Rattle.pool.specs.Entries.{Entry}
use Rattle.pool.specs.Lookups.{text_at}
use Rattle.classfile.specs.declared.text_numbers.TextNumbers.{TextNumbers}

-- the number of a text, if it was asked for
abbrev pub number_of : TextNumbers → List ℕ → Option ℕ
number_of s text = get_by (λ k. slice_cmp nat_cmp text k.now) s.numbers

-- a number leads to its text, and what is kept for an entry is the number of its text
pub record AreNumbers (pool : List Entry) (s : TextNumbers) : Type 0 where
  pub sized : length s.known.items ≡ length pool
  pub leads : (text : List ℕ) (n : ℕ) → number_of s text ≡ Some n → text_at pool n ≡ Ok text
  pub kept : (place default : ℕ) (text : List ℕ) → slice_index_or s.known.items place default ≢ 0 → place < length pool
      → text_at pool (place + 1) ≡ Ok text → number_of s text ≡ Some (slice_index_or s.known.items place default)

-- the text has this number, and all that had one keep it
pub record Numbers (pool : List Entry) (old new : TextNumbers) (text : List ℕ) (n : ℕ) : Type 0 where
  pub here : number_of new text ≡ Some n
  pub others : (x : List ℕ) (m : ℕ) → number_of old x ≡ Some m → number_of new x ≡ Some m
  pub good : AreNumbers pool new
