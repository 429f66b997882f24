-- Objects that are not initialized (JVMS 4.10.1.9, new and invokespecial): which types are of one object, and the type
-- that takes their place.
use Rattle.std.specs.Prelude.{ℕ, Bool, true, false, ◌==◌, ◌||◌, List, [], ◌∷◌, if◌then◌else◌}
use Rattle.frames.specs.VerificationType.{VerificationType, top, int, float, long, double, null, class, array, uninit_this, uninit}

-- is it the object that the `new` at this offset has made
abbrev pub is_made_at : ℕ → VerificationType → Bool
is_made_at at top = false
is_made_at at int = false
is_made_at at float = false
is_made_at at long = false
is_made_at at double = false
is_made_at at null = false
is_made_at at (class name) = false
is_made_at at (array component) = false
is_made_at at uninit_this = false
is_made_at at (uninit offset) = at == offset

-- is it the object that a constructor was called on
abbrev pub is_initialized : VerificationType → VerificationType → Bool
is_initialized uninit_this uninit_this = true
is_initialized (uninit at) t = is_made_at at t
is_initialized _ _ = false

abbrev pub replaced : VerificationType → VerificationType → VerificationType → VerificationType
replaced object by t = if is_initialized object t then by else t

-- is the object among these
abbrev pub has_object : VerificationType → List VerificationType → Bool
has_object object [] = false
has_object object (t ∷ ts) = is_initialized object t || has_object object ts
