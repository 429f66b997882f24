use Rattle.std.proofs.Common.{rules, subst}
use Rattle.std.specs.Cmp.Lexicographic.{same_text}
use Rattle.hierarchy.specs.World.{same}
use Rattle.hierarchy.specs.Class.{IsSubclass}
use Rattle.hierarchy.proofs.chains.ChainsClasses.is_subclass.Goals as goal

pub returns-then-eq : goal.returns-then-eq
returns-then-eq g c = subst (λ x. IsSubclass c.args.self.now c.args.a.now x) (same_text _ _ c.if-eq.ensures) same

pub returns-then-is_none : goal.returns-then-is_none
returns-then-is_none g c = search rules
