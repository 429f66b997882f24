-- Texts of a constant pool, long ones kept once (JVMS 4.4.7).
use Rattle.std.specs.Prelude.{◌≡◌, ℕ, suc, List, map, slice_get, Some}
use Rattle.pool.specs.Entries.{Entry}
use Rattle.hierarchy.specs.declared.texts.Texts.{Texts}
use Rattle.hierarchy.specs.ClassSummary.{text_of}

-- the texts as lists of bytes
abbrev pub kept_texts : Texts → List (List ℕ)
kept_texts t = map (λ n. n.now) t.list.items

-- an index of the pool that is known leads to the place of its text
pub record AreTexts (pool : List Entry) (t : Texts) : Type 0 where
  pub each : (index place : ℕ) → slice_get t.known.items index ≡ Some (suc place)
      → slice_get (kept_texts t) place ≡ Some (text_of pool index)

-- the text at the index has this place now, and each that was there before has the place that it had
pub record HasPlace (pool : List Entry) (old new : Texts) (index place : ℕ) : Type 0 where
  pub here : slice_get (kept_texts new) place ≡ Some (text_of pool index)
  pub kept : (other : ℕ) (text : List ℕ) → slice_get (kept_texts old) other ≡ Some text
      → slice_get (kept_texts new) other ≡ Some text
  pub good : AreTexts pool new
