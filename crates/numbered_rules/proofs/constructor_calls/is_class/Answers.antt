use Rattle.std.proofs.Common.{◌≡◌, ℕ, nat_eq, List, Option, Some, None, option_map, subst}
use Rattle.classfile.specs.Methods.{is_name}
use Rattle.frames.specs.VerificationType.{class as class_of}
use Rattle.type_numbers.specs.Numbers.{IsNumberOf}
use Rattle.numbered_rules.proofs.NamedClasses.{same_class}
use Rattle.numbered_rules.proofs.constructor_calls.is_class.Goals as goal

pub returns-in-Some : goal.returns-in-Some
returns-in-Some c s o name h k = by o (subst (λ z. IsNumberOf s z (option_map class_of o)) c.in-Some.is h)
  where
    by : (p : Option (List ℕ)) → IsNumberOf s (Some c.in-Some.other) (option_map class_of p) → nat_eq c.in-Some.other c.args.class ≡ is_name p name
    by None q = absurd q
    by (Some a) q = same_class s c.in-Some.other c.args.class a name q k
