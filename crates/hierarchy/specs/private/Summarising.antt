-- Members of a class as they are summarised, with their texts. Words of the code's own steps.
use Rattle.std.specs.Prelude.{◌≡◌, ℕ, List, slice_get, Some}
use Rattle.std.specs.List.{AllZip}
use Rattle.pool.specs.Entries.{Entry}
use Rattle.hierarchy.specs.declared.summary.MemberSummary.{MemberSummary}
use Rattle.hierarchy.specs.declared.texts.Texts.{Texts}
use Rattle.hierarchy.specs.Class.{MemberFact}
use Rattle.hierarchy.specs.Texts.{AreTexts, kept_texts}

-- the member is summarised, with its texts among these
pub record IsSummarised (texts : List (List ℕ)) (m : MemberSummary) (fact : MemberFact) : Type 0 where
  pub name : slice_get texts m.places.name ≡ Some fact.name
  pub descriptor : slice_get texts m.places.descriptor ≡ Some fact.descriptor
  pub kind : m.places.kind ≡ fact.kind
  pub is_static : m.is_static ≡ fact.is_static
  pub is_protected : m.is_protected ≡ fact.is_protected
  pub overriding : m.overriding ≡ fact.overriding

abbrev pub AreSummarised : List (List ℕ) → List MemberSummary → List MemberFact → Type 0
AreSummarised texts ms facts = AllZip (IsSummarised texts) ms facts

-- the member is summarised now, and each text that was there before has the place that it had
pub record Summarises (pool : List Entry) (old new : Texts) (fact : MemberFact) (m : MemberSummary) : Type 0 where
  pub here : IsSummarised (kept_texts new) m fact
  pub kept : (other : ℕ) (text : List ℕ) → slice_get (kept_texts old) other ≡ Some text
      → slice_get (kept_texts new) other ≡ Some text
  pub good : AreTexts pool new
