-- Declared frames to which the running one leads, as it is or with what is caught alone on its stack.
use Rattle.std.specs.Prelude.{◌≡◌, ◌≢◌, ◌⊎◌, ◌≤◌, ◌<◌, ℕ, suc, List, [], ◌∷◌, All, Contains, length, Option, Some, None, option_map, IfSome}
use Rattle.std.specs.Option.{option_or}
use Rattle.frames.specs.FrameFact.{FrameFact}
use Rattle.frames.specs.declared.difference.Sought.{Sought}
use Rattle.type_numbers.specs.Decoding.{type_by}
use Rattle.type_numbers.specs.Numbers.{IsGiven}
use Rattle.method_frames.specs.NumberedFrames.{NumberedFrames, frame_by, declared_frame}
use Rattle.numbered_rules.specs.RunningFrame.{held}
use Rattle.rules.specs.After.{with_stack}
use Rattle.verify.specs.DifferencesAt.{DifferenceAtFact, from_declared}
use Rattle.verify.specs.declared.difference_at.Way.{Way}

-- the frame is a declared one, and the type has its number
pub record IsWay (x : NumberedFrames) (w : Way) : Type 0 where
  pub within : w.frame < length x.declared
  pub given : IfSome w.caught (IsGiven x.types)

abbrev pub IsWayIf : NumberedFrames → Option Way → Type 0
IsWayIf x o = IfSome o (IsWay x)

-- the running frame, as it is or with a type alone on its stack
abbrev pub led_frame : NumberedFrames → Option ℕ → FrameFact
led_frame x None = held x
led_frame x (Some caught) = with_stack (held x) (type_by x.types caught ∷ [])

-- its difference from the declared one
abbrev pub way_difference : Sought → NumberedFrames → Way → Option DifferenceAtFact
way_difference sought x w =
    from_declared sought x.types.classes (led_frame x w.caught) w.at
    (Some (frame_by x.types (declared_frame x w.frame)))

abbrev pub difference_if : Sought → NumberedFrames → Option Way → Option DifferenceAtFact
difference_if sought x None = None
difference_if sought x (Some w) = way_difference sought x w

-- on the first of these ways on which there is one, with its place; the first of these has this place
abbrev pub first_of_ways : Sought → NumberedFrames → ℕ → List (Option Way) → Option (ℕ × DifferenceAtFact)
first_of_ways sought x place [] = None
first_of_ways sought x place (w ∷ ws) =
    option_or (option_map (λ d. (place, d)) (difference_if sought x w)) (first_of_ways sought x (suc place) ws)

abbrev pub first_of_targets : Sought → NumberedFrames → List (Option Way) → Option DifferenceAtFact
first_of_targets sought x ws = option_map (λ d. d.1) (first_of_ways sought x 0 ws)

-- the ways that are there, with their places; the first of these has this place
abbrev pub with_places : ℕ → List (Option Way) → List (ℕ × Way)
with_places place [] = []
with_places place (None ∷ ws) = with_places (suc place) ws
with_places place (Some w ∷ ws) = (place, w) ∷ with_places (suc place) ws

-- there is a difference, or there is none on a way in front of a place
abbrev pub IsUnlike : Sought → NumberedFrames → Way → Type 0
IsUnlike sought x w = way_difference sought x w ≢ None

abbrev pub IsAlikeBefore : Sought → NumberedFrames → ℕ → ℕ × Way → Type 0
IsAlikeBefore sought x end w = w.0 < end → way_difference sought x w.1 ≡ None

-- a way that is not in front of the end, or is in front of the others, or is the one that was asked for last
abbrev pub IsPassed : ℕ → ℕ → Option Way → ℕ × Way → Type 0
IsPassed alike end last w = (w.0 < alike) ⊎ ((end ≤ w.0) ⊎ (last ≡ Some w.1))

-- on one of these ways in front of a place there is one, or there is none on each
abbrev pub FindsUnlike : Sought → NumberedFrames → ℕ → List (ℕ × Way) → Option (ℕ × Way) → Type 0
FindsUnlike sought x end ws None = All (IsAlikeBefore sought x end) ws
FindsUnlike sought x end ws (Some w) = Contains ws w × (w.0 < end) × IsUnlike sought x w.1

-- this is the first of these ways on which there is one, by their places
abbrev pub IsFirstUnlike : Sought → NumberedFrames → List (ℕ × Way) → Option (ℕ × Way) → Type 0
IsFirstUnlike sought x ws None = All (λ w. way_difference sought x w.1 ≡ None) ws
IsFirstUnlike sought x ws (Some w) = Contains ws w × IsUnlike sought x w.1 × All (IsAlikeBefore sought x w.0) ws
