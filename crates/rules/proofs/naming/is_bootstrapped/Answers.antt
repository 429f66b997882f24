use Rattle.std.proofs.Common.{rules, tests, ◌≡◌, ◌∙◌, ℕ, Bool, true, false, List, [], Option, sym, ap}
use Rattle.std.specs.Prelude.{if◌then◌else◌}
use Rattle.std.specs.Option.{option_map_or}
use Rattle.classfile.specs.Bootstraps.{BootstrapMethod, bootstraps_of, has_bootstrap}
use Rattle.classfile.specs.Views.{class_view}
use Rattle.rules.specs.Bodies.{method_view}
use Rattle.rules.proofs.naming.is_bootstrapped.Goals as goal

pub returns-then-not-method-clause-found : goal.returns-then-not-method-clause-found
unfolding has_bootstrap
returns-then-not-method-clause-found c =
    let m = method_view c.args.method.now in
    let all : List BootstrapMethod = bootstraps_of (class_view c.args.method.now.class.now) in
    let off : c.args.method.now.dynamic ≡ false = search (rules, tests) in
    sym (ap (λ (o : Option ℕ). option_map_or (has_bootstrap m.constant_pool m.bootstraps) o true) (sym c.bootstrap_of.ensures ∙ c.in-Some.is)
    ∙ ap (λ (b : Bool). has_bootstrap m.constant_pool (if b then all else []) c.in-Some.number) off)
