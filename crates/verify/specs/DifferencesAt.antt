-- The first difference of a frame that leads to a branch target, or to the handler of an exception, from the frame that
-- is declared there, or the first place at which their comparison asks for a class that is missing; and the entries of
-- the exception table that are at fault (JVMS 4.10.1.6).
use Rattle.std.specs.Prelude.{ℕ, suc, ℤ, pos, negsuc, is_none, List, [], ◌∷◌, Option, Some, None, option_map, if◌then◌else◌}
use Rattle.std.specs.Option.{option_or}
use Rattle.classfile.specs.Methods.{Method, ExceptionEntry, covers}
use Rattle.hierarchy.specs.Class.{ClassFact}
use Rattle.insn.specs.Meanings.{Act}
use Rattle.insn.specs.Offsets.{at_offset}
use Rattle.frames.specs.FrameFact.{FrameFact}
use Rattle.frames.specs.Differences.{DifferenceFact, first_difference, first_missing, difference_of}
use Rattle.frames.specs.declared.difference.Sought.{Sought}
use Rattle.frames.specs.declared.difference.Sought.TheVariants.{No, Missing}
use Rattle.frames.specs.Conditions.{least}
use Rattle.rules.specs.TypingRules.{TypingRule, targets}
use Rattle.rules.specs.After.{after}
use Rattle.rules.specs.Rules.{conditions}
use Rattle.verify.specs.TypeSafety.{Frames, caught_frame}
use Rattle.verify.specs.Verdict.{table_conditions}
use Rattle.verify.specs.declared.difference_at.DifferenceAt.{DifferenceAt}

-- the first difference of one frame from another, or the first place that asks for a missing class, as is sought
abbrev pub sought_difference : Sought → List ClassFact → FrameFact → FrameFact → Option DifferenceFact
sought_difference No classes f g = first_difference classes f g
sought_difference Missing classes f g = first_missing classes f g

-- with the offset of the declared frame
pub record DifferenceAtFact : Type 0 where
  pub at : ℕ
  pub difference : DifferenceFact

abbrev pub placed : ℕ → Option DifferenceFact → Option DifferenceAtFact
placed at None = None
placed at (Some d) = Some (record { at = at; difference = d })

-- of a frame from the one that is declared at an offset, if one is
abbrev pub from_declared : Sought → List ClassFact → FrameFact → ℕ → Option FrameFact → Option DifferenceAtFact
from_declared sought classes f at None = None
from_declared sought classes f at (Some declared) = placed at (sought_difference sought classes f declared)

-- no frame is declared at a negative offset
abbrev pub at_target : Sought → List ClassFact → Frames → FrameFact → ℤ → Option DifferenceAtFact
at_target sought classes frames f (pos at) = from_declared sought classes f at (at_offset frames at)
at_target sought classes frames f (negsuc n) = None

-- at the first of these targets at which there is one
abbrev pub at_targets : Sought → List ClassFact → Frames → FrameFact → List ℤ → Option DifferenceAtFact
at_targets sought classes frames f [] = None
at_targets sought classes frames f (target ∷ others) =
    option_or (at_target sought classes frames f target) (at_targets sought classes frames f others)

-- at the handler of an entry of the exception table, if it covers the instruction
abbrev pub at_handler : Sought → List ClassFact → Frames → ℕ → FrameFact → ExceptionEntry → Option DifferenceAtFact
at_handler sought classes frames at f e =
    if covers e at then from_declared sought classes (caught_frame e f) e.handler (at_offset frames e.handler) else None

-- at the first of these entries' handlers at which there is one, with the place of the entry in the table; the first of
-- these entries has this place
abbrev pub at_handlers : Sought → List ClassFact → Frames → ℕ → FrameFact → ℕ → List ExceptionEntry
    → Option (ℕ × DifferenceAtFact)
at_handlers sought classes frames at f place [] = None
at_handlers sought classes frames at f place (e ∷ es) =
    option_or (option_map (λ d. (place, d)) (at_handler sought classes frames at f e))
    (at_handlers sought classes frames at f (suc place) es)

-- The first difference of the frame after an instruction from the frames at its targets, where its rule does not refuse
-- it in the frame before it; the default of a switch is the first target.
abbrev pub target_difference : Sought → List ClassFact → Method Act → Frames → ℕ → TypingRule → Option FrameFact
    → Option DifferenceAtFact
target_difference sought classes m frames at p None = None
target_difference sought classes m frames at p (Some f) =
    if is_none (least (conditions classes m at p f))
    then at_targets sought classes frames (after m at p f) (targets at p) else None

-- the first difference of the frame before an instruction, with the caught object alone on its stack, from the frames
-- of the handlers that cover it
abbrev pub handler_difference : Sought → List ClassFact → Method Act → Frames → ℕ → Option FrameFact
    → Option (ℕ × DifferenceAtFact)
handler_difference sought classes m frames at None = None
handler_difference sought classes m frames at (Some f) = at_handlers sought classes frames at f 0 m.exceptions

-- ---- entries of the exception table that are at fault, by their places

-- the first of these that is refused before the code is judged; the first of these has this place
abbrev pub first_refused : List ClassFact → Method Act → Frames → ℕ → List ExceptionEntry → Option ℕ
first_refused classes m frames place [] = None
first_refused classes m frames place (e ∷ es) =
    if is_none (least (table_conditions classes m frames e)) then first_refused classes m frames (suc place) es
    else Some place

-- the first of these that covers an instruction
abbrev pub first_covering : ℕ → ℕ → List ExceptionEntry → Option ℕ
first_covering at place [] = None
first_covering at place (e ∷ es) = if covers e at then Some place else first_covering at (suc place) es

-- ---- what a value of the program stands for

abbrev pub difference_at_of : DifferenceAt → DifferenceAtFact
difference_at_of d = record { at = d.at; difference = difference_of d.difference }

abbrev pub handler_difference_of : (ℕ × DifferenceAt) → (ℕ × DifferenceAtFact)
handler_difference_of x = (x.0, difference_at_of x.1)
