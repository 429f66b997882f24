-- How the locals that an entry of a stack map leaves are summed up.
use Rattle.std.specs.Prelude.{◌≡◌, ℕ, ◌+◌, if◌then◌else◌, List, [], ◌∷◌}
use Rattle.frames.specs.VerificationType.{VerificationType}
use Rattle.frames.specs.DeclaredFrames.{is_uninit_this}
use Rattle.type_numbers.specs.Numbers.{Numbering}
use Rattle.type_numbers.specs.Decoding.{types_by}
use Rattle.method_frames.specs.private.Counted.{IsCounted}

-- how many of these types are the own object that is not initialized
abbrev pub own_among : List VerificationType → ℕ
own_among [] = 0
own_among (t ∷ ts) = (if is_uninit_this t then 1 else 0) + own_among ts

-- how many are a long or a double, and how many are the own object
pub record AreSummed (numbers : List ℕ) (wides own : ℕ) : Type 0 where
  pub counted : IsCounted numbers wides
  pub owned : (s : Numbering) → own_among (types_by s numbers) ≡ own
