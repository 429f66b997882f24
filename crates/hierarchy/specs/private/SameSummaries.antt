-- Whether two summaries are the same, as tests. Words of the code's own steps.
use Rattle.std.specs.Borrow.{Bor}
use Rattle.std.specs.Prelude.{◌≡◌, ℕ, Bool, true, false, ◌&&◌, bytes_eq, List, [], ◌∷◌, Option, Some, None}
use Rattle.hierarchy.specs.declared.summary.Kind.{Kind}
use Rattle.hierarchy.specs.declared.summary.Kind.TheVariants.{Field, Method}
use Rattle.hierarchy.specs.declared.summary.Overriding.{Overriding}
use Rattle.hierarchy.specs.declared.summary.Overriding.TheVariants.{Apart, Open, FinalInPackage, Final}
use Rattle.hierarchy.specs.declared.same_summaries.Comparison.{Comparison}
use Rattle.hierarchy.specs.private.Flags.{AreNumbers}
use Rattle.hierarchy.specs.private.TextNumbers.{AreGiven}
use Rattle.hierarchy.specs.Class.{MemberFact, ClassFact}
use Rattle.hierarchy.specs.Summary.{text_among}

abbrev pub same_flag : Bool → Bool → Bool
same_flag true true = true
same_flag false false = true
same_flag true false = false
same_flag false true = false

abbrev pub same_kind : Kind → Kind → Bool
same_kind Field Field = true
same_kind Method Method = true
same_kind Field Method = false
same_kind Method Field = false

abbrev pub same_overriding : Overriding → Overriding → Bool
same_overriding Apart Apart = true
same_overriding Open Open = true
same_overriding FinalInPackage FinalInPackage = true
same_overriding Final Final = true
same_overriding _ _ = false

abbrev pub same_flags : MemberFact → MemberFact → Bool
same_flags a b =
    same_kind a.kind b.kind
    && (same_flag a.is_static b.is_static
    && (same_flag a.is_protected b.is_protected && same_overriding a.overriding b.overriding))

abbrev pub same_member : MemberFact → MemberFact → Bool
same_member a b = same_flags a b && (bytes_eq a.name b.name && bytes_eq a.descriptor b.descriptor)

abbrev pub same_members : List MemberFact → List MemberFact → Bool
same_members [] [] = true
same_members (m ∷ ms) (n ∷ ns) = same_member m n && same_members ms ns
same_members [] (n ∷ ns) = false
same_members (m ∷ ms) [] = false

abbrev pub same_name : Option (List ℕ) → Option (List ℕ) → Bool
same_name None None = true
same_name (Some a) (Some b) = bytes_eq a b
same_name None (Some b) = false
same_name (Some a) None = false

abbrev pub same_head : ClassFact → ClassFact → Bool
same_head a b =
    bytes_eq a.name b.name
    && (same_name a.superclass b.superclass
    && (same_flag a.interface b.interface && same_flag a.is_final b.is_final))

abbrev pub same_fact : ClassFact → ClassFact → Bool
same_fact a b = same_head a b && same_members a.members b.members

-- ---- texts that are numbered together

-- these texts of two summaries have numbers, the same for equal ones
pub record AreCompared (ones others : List (Bor (List ℕ))) (c : Comparison) : Type 0 where
  pub first : c.ones.texts.now ≡ ones
  pub second : c.others.texts.now ≡ others
  pub copy : c.is_copy ≡ true → (place : ℕ) → text_among ones place ≡ text_among others place
  pub good : AreNumbers c.numbers
  pub given : AreGiven c.numbers c.ones
  pub given_too : AreGiven c.numbers c.others

-- the answer is this one, and the texts are numbered as before
abbrev pub Compares : List (Bor (List ℕ)) → List (Bor (List ℕ)) → Comparison → Bool → Bool → Type 0
Compares ones others c answer result = AreCompared ones others c × (result ≡ answer)
