-- Refusing conditions: each with its reason, of which the least that holds is reported.
use Rattle.std.specs.Prelude.{◌≡◌, ℕ, Bool, true, false, nat_lt, if◌then◌else◌, List, [], ◌∷◌, Option, Some, None}
use Rattle.hierarchy.specs.Answer.{Outcome, yes, no, missing}

pub data Reason : Type 0 where
  -- the reason of this number
  reason : (number : ℕ) → Reason
  -- 77: a comparison needs a class that the hierarchy has not
  class_missing : (name : List ℕ) → Reason
  -- 78 or 79, with the number of the fault of the stack map or of the code
  with_fault : (number fault : ℕ) → Reason

abbrev pub number_of : Reason → ℕ
number_of (reason number) = number
number_of (class_missing name) = 77
number_of (with_fault number fault) = number

abbrev pub Conditions : Type 0
Conditions = List (Reason × Bool)

-- none of them holds
abbrev pub NoneHolds : Conditions → Type 0
NoneHolds [] = Unit {0}
NoneHolds (c ∷ cs) = (c.1 ≡ false) × NoneHolds cs

-- the least of two reasons, and of equal ones the first
abbrev pub lesser : Reason → Option Reason → Reason
lesser first None = first
lesser first (Some other) = if nat_lt (number_of other) (number_of first) then other else first

-- the least reason whose condition holds
abbrev pub least : Conditions → Option Reason
least [] = None
least (c ∷ cs) = if c.1 then Some (lesser c.0 (least cs)) else least cs

-- ---- conditions on the answer of a comparison

abbrev pub is_no : Outcome → Bool
is_no yes = false
is_no no = true
is_no (missing name) = false

abbrev pub missing_if : Outcome → Reason × Bool
missing_if yes = (class_missing [], false)
missing_if no = (class_missing [], false)
missing_if (missing name) = (class_missing name, true)
