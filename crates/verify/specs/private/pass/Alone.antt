-- The scopes in which an instruction is judged.
use Rattle.std.specs.Prelude.{◌≡◌, ◌&&◌, ℕ, Bool, true, is_none, None}
use Rattle.classfile.specs.Methods.{Method}
use Rattle.insn.specs.Meanings.{Act}
use Rattle.frames.specs.Conditions.{least}
use Rattle.method_frames.specs.NumberedFrames.{NumberedFrames}
use Rattle.method_frames.specs.MapFrames.{frames_by}
use Rattle.numbered_rules.specs.RunningFrame.{held}
use Rattle.rules.specs.Naming.{loaded_index, names_bootstrapped, site_index, sets_own}
use Rattle.rules.specs.Ways.{is_plain}
use Rattle.verify.specs.declared.pass.judging.Scope.{Scope}
use Rattle.verify.specs.declared.pass.judging.Scope.TheVariants.{Plain, Named, Wholly}
use Rattle.verify.specs.private.JudgingSteps.{aside_conditions}
use Rattle.verify.specs.private.pass.Objects.{used_index}

-- the instruction uses no member on an object, and names no bootstrap method
abbrev pub asks_no_more : (release : Bool) → Act → Bool
asks_no_more release a = is_none (used_index release a) && is_none (loaded_index a) && is_none (site_index a)

-- nothing is against it but what its rule and its targets are
abbrev pub IsAlone : NumberedFrames → Method Act → ℕ → Act → Bool → Type 0
IsAlone x m at a last =
    least (aside_conditions x.types.classes m (frames_by x.types x.declared) at a last (held x)) ≡ None

-- it is enough to judge so much of an instruction in the running frame
abbrev pub IsScope : NumberedFrames → Method Act → ℕ → Act → Bool → Scope → Type 0
IsScope x m at a last Plain = (is_plain a ≡ true) × IsAlone x m at a last
IsScope x m at a last (Named facts) =
    (facts.own ≡ sets_own m a) × (facts.bootstrapped ≡ names_bootstrapped m a) × IsAlone x m at a last
IsScope x m at a last Wholly = Unit {0}
