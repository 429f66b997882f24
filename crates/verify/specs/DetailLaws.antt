-- Where a method is refused for a reason of one of these numbers, it is told what is wrong (JVMS 4.10.1.6).
use Rattle.std.specs.Prelude.{◌≡◌, ◌⊎◌, ◌<◌, ℕ, List, [], ◌∷◌, length, Some, Ok}
use Rattle.layout.specs.Place.{Place}
use Rattle.layout.specs.Format.{reads}
use Rattle.classfile.specs.Methods.{Method}
use Rattle.hierarchy.specs.Class.{ClassFact}
use Rattle.insn.specs.Meanings.{Act}
use Rattle.insn.specs.Offsets.{at_offset, IsAmong, IsStart, StartsRise}
use Rattle.frames.specs.FrameFact.{FrameFact}
use Rattle.frames.specs.Conditions.{reason}
use Rattle.frames.specs.StackMaps.{MapEntry, stack_map}
use Rattle.rules.specs.ReasonNumbers.{missing_operand, wrong_operand, wrong_local, not_assignable_at_target, not_assignable, bad_exception, handler_not_assignable, constructor_covered}
use Rattle.rules.specs.Table.{typing_rule}
use Rattle.rules.specs.UnmetLaws.{HasNoForm}
use Rattle.verify.specs.Details.{DetailFact}
use Rattle.verify.specs.Coming.{FramesFact, before, frames_at}
use Rattle.verify.specs.Verdict.{MapRefusal, refused, map_refused, verdict}

abbrev pub told_numbers : List ℕ
told_numbers =
    missing_operand ∷ wrong_operand ∷ wrong_local ∷ not_assignable_at_target ∷ not_assignable ∷ bad_exception
    ∷ handler_not_assignable ∷ constructor_covered ∷ []

abbrev pub IsTold : FramesFact → Type 0
IsTold x = (d : DetailFact) × (x.detail ≡ Some d)

-- in the frame before the instruction the operand that is wrong is none of those that it takes
pub record HasNoFormAt (m : Method Act) (at : ℕ) (x : FramesFact) : Type 0 where
  pub act : Act
  pub here : at_offset m.code at ≡ Some act
  pub frame : FrameFact
  pub there : before x.coming x.declared ≡ Some frame
  pub no_form : HasNoForm at (typing_rule m act) frame

-- It is told but where a wrong operand is none of those that the instruction takes
abbrev pub DetailsAreTold : Type 0
DetailsAreTold =
    (classes : List ClassFact) (m : Method Act) → StartsRise 0 m.code → IsStart m.code 0 → (at number : ℕ)
    → verdict typing_rule classes m ≡ refused at (reason number) → IsAmong number told_numbers
    → IsTold (frames_at typing_rule classes m number at)
    ⊎ ((number ≡ wrong_operand) × HasNoFormAt m at (frames_at typing_rule classes m number at))

-- ---- of a stack map that is refused

-- its fault is in none of its entries: their number is cut, or bytes stand after the last one
abbrev pub IsInNoEntry : Method Act → Type 0
IsInNoEntry m =
    (body : List ℕ) × (m.stack_map ≡ Some body)
    × ((length body < 2)
    ⊎ ((x : List MapEntry × Place) × (reads stack_map 0 body ≡ Ok x) × (0 < length x.1.rest)))

-- whatever the number and the offset are for which it is told
abbrev pub MapDetailsAreTold : Type 0
MapDetailsAreTold =
    (classes : List ClassFact) (m : Method Act) (why : MapRefusal) → verdict typing_rule classes m ≡ map_refused why
    → (at number : ℕ) → IsTold (frames_at typing_rule classes m number at) ⊎ IsInNoEntry m
