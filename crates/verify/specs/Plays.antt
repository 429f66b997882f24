-- Classes in play: the reports on them, or the first class of the list that breaks a rule, and the first rule that it
-- breaks.
use Rattle.std.specs.Prelude.{◌≡◌, ℕ, ◌<◌, List, length, slice_get, Some, None}
use Rattle.classfile.specs.Methods.{JudgedClass}
use Rattle.hierarchy.specs.Class.{ClassFact}
use Rattle.hierarchy.specs.ClassSummary.{summary_of}
use Rattle.verify.specs.declared.verdict.Verdict.{Verdict}
use Rattle.verify.specs.declared.verdict.Verdict.TheVariants.{Verified, NoCode, Refused}
use Rattle.verify.specs.declared.report.MethodVerdict.{MethodVerdict}
use Rattle.verify.specs.declared.report.Report.{Report}
use Rattle.verify.specs.declared.play.PlayRule.{PlayRule}
use Rattle.verify.specs.declared.play.PlayRule.TheVariants.{NotInHierarchy, Final, ClassInPlayTwice}
use Rattle.verify.specs.declared.play.PlayFault.{PlayFault}
use Rattle.verify.specs.declared.play.PlayFault.TheVariants.{OutOfMemory, Broken, NotAllVerified}
use Rattle.verify.specs.declared.play.PlayStop.{PlayStop}
use Rattle.verify.specs.declared.play.PlayStop.TheVariants as stops
use Rattle.verify.specs.Listed.{IsListed}
use Rattle.verify.specs.FinalRules.{final_rule, final_rule_number}
use Rattle.verify.specs.Reports.{IsReport}

-- verified, or without code
abbrev pub IsFineVerdict : Verdict → Type 0
IsFineVerdict Verified = Unit {0}
IsFineVerdict NoCode = Unit {0}
IsFineVerdict (Refused at why) = ⊥

abbrev pub AreFineBelow : List MethodVerdict → ℕ → Type 0
AreFineBelow rs n = (k : ℕ) (r : MethodVerdict) → k < n → slice_get rs k ≡ Some r → IsFineVerdict r.verdict

-- this method is refused, and those before it are not
pub record IsFirstRefused (rs : List MethodVerdict) (n : ℕ) (r : MethodVerdict) : Type 0 where
  pub here : slice_get rs n ≡ Some r
  pub refused : IsFineVerdict r.verdict → ⊥
  pub before : AreFineBelow rs n

-- a class before this place has the name
abbrev pub HasEarlier : List JudgedClass → ℕ → List ℕ → Type 0
HasEarlier play place name = (j : ℕ) × (d : JudgedClass) × (j < place) × (slice_get play j ≡ Some d)
    × ((summary_of d.file).name ≡ name)

abbrev pub IsFirstOfName : List JudgedClass → ℕ → JudgedClass → Type 0
IsFirstOfName play place c = HasEarlier play place (summary_of c.file).name → ⊥

-- the class breaks no rule, and this is the report on it
pub record IsFine (classes : List ClassFact) (play : List JudgedClass) (place : ℕ) (c : JudgedClass)
    (rs : List MethodVerdict) : Type 0 where
  pub report : IsReport classes c rs
  pub not_final : final_rule classes (summary_of c.file) ≡ None
  pub first : IsFirstOfName play place c
  pub verified : AreFineBelow rs (length rs)

-- the first rule that the class breaks
abbrev pub Breaks : List ClassFact → List JudgedClass → ℕ → JudgedClass → PlayRule → Type 0
Breaks classes play place c NotInHierarchy = IsListed classes c.file → ⊥
Breaks classes play place c (Final rule) = IsListed classes c.file × (final_rule classes (summary_of c.file) ≡ Some rule)
Breaks classes play place c ClassInPlayTwice =
    IsListed classes c.file × (final_rule classes (summary_of c.file) ≡ None)
    × HasEarlier play place (summary_of c.file).name

-- the class breaks none of these rules, and this is its first method that is refused
abbrev pub HasRefused : List ClassFact → List JudgedClass → ℕ → JudgedClass → ℕ → MethodVerdict → Type 0
HasRefused classes play place c n r =
    (final_rule classes (summary_of c.file) ≡ None) × IsFirstOfName play place c
    × ((rs : List MethodVerdict) × IsReport classes c rs × IsFirstRefused rs n r)

-- the first classes break no rule, and have these reports
abbrev pub AreFine : List ClassFact → List JudgedClass → List Report → Type 0
AreFine classes play rs =
    (place : ℕ) (r : Report) → slice_get rs place ≡ Some r → (c : JudgedClass) × (slice_get play place ≡ Some c)
    × IsFine classes play place c r.methods.items

-- no class breaks a rule, and they have these reports
abbrev pub ArePlayed : List ClassFact → List JudgedClass → List Report → Type 0
ArePlayed classes play rs = (length rs ≡ length play) × AreFine classes play rs

-- the class at a place is the first that breaks a rule, in this way
abbrev pub BreaksFirst : List ClassFact → List JudgedClass → ℕ → (JudgedClass → Type 0) → Type 0
BreaksFirst classes play place Way =
    ((c : JudgedClass) × (slice_get play place ≡ Some c) × Way c)
    × ((rs : List Report) × (length rs ≡ place) × AreFine classes play rs)

abbrev pub IsNotPlayed : List ClassFact → List JudgedClass → PlayFault → Type 0
IsNotPlayed classes play OutOfMemory = Unit {0}
IsNotPlayed classes play (Broken place rule) = BreaksFirst classes play place (λ c. Breaks classes play place c rule)
IsNotPlayed classes play (NotAllVerified place n) =
    BreaksFirst classes play place (λ c. (r : MethodVerdict) × HasRefused classes play place c n r)

-- where a method is refused, this is the verdict on it
abbrev pub IsStopped : List ClassFact → List JudgedClass → PlayStop → Type 0
IsStopped classes play stops.OutOfMemory = Unit {0}
IsStopped classes play (stops.Broken place rule) =
    BreaksFirst classes play place (λ c. Breaks classes play place c rule)
IsStopped classes play (stops.Refused place number method) =
    BreaksFirst classes play place (λ c. HasRefused classes play place c number method)

-- ---- numbers

abbrev pub rule_number : PlayRule → ℕ
rule_number NotInHierarchy = 80
rule_number (Final rule) = final_rule_number rule
rule_number ClassInPlayTwice = 83

abbrev pub play_fault_number : PlayFault → ℕ
play_fault_number OutOfMemory = 1
play_fault_number (Broken class rule) = rule_number rule
play_fault_number (NotAllVerified class method) = 84
