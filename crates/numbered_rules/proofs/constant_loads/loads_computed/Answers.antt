use Rattle.std.proofs.Common.{◌≡◌, ◌∙◌, sym, ap, Some, Bool}
use Rattle.pool.specs.ConstantMeanings.{constant_at, dynamic_type_at, found}
use Rattle.pool.specs.Entries as entries
use Rattle.pool.specs.Views.{view}
use Rattle.classfile.specs.Bootstraps.{has_bootstrap}
use Rattle.rules.specs.Bodies.{method_view}
use Rattle.rules.specs.Constants.{load_dynamic, is_bootstrapped}
use Rattle.rules.specs.TypingRules.{where_judged}
use Rattle.rules.proofs.Settling.{by_judged}
use Rattle.numbered_rules.specs.RunningFrame.{held}
use Rattle.numbered_rules.specs.private.ConstantLoads.{units_by, load_computed}
use Rattle.numbered_rules.proofs.constant_loads.loads_computed.Goals as goal

pub gives_computed-requires : goal.gives_computed-requires
gives_computed-requires g c =
    let s = c.args.frames.now.types in
    let m = method_view c.args.method.now in
    (dynamic_type_at m.constant_pool c.args.index, c.computed_at.ensures s m.constant_pool c.requires.table)

pub returns-then-method-clause-done : goal.returns-then-method-clause-done
returns-then-method-clause-done g c = λ at.
    let s = c.args.frames.now.types in
    let m = method_view c.args.method.now in
    let f = held c.args.frames.now in
    let u = units_by c.args.wide in
    let b = c.args.bootstrapped in
    let t = dynamic_type_at m.constant_pool c.args.index in
    let d = c.in-Ok-Dynamic in
    let constant : constant_at m.constant_pool c.args.index ≡ Some (entries.Dynamic d.field-0-0 d.field-0-1) = ap found d.ensures ∙ ap (λ k. Some (view k)) d.field-0-is in
    let same : has_bootstrap m.constant_pool m.bootstraps d.field-0-0 ≡ b = sym (c.requires.bootstrapped ∙ ap (is_bootstrapped m) constant) in
    by_judged m at (load_computed m u t (constant_at m.constant_pool c.args.index)) m.dynamic (load_dynamic u b t) s.classes f (held c.gives_computed.new.frames) c.gives_computed.result
    (ap (load_computed m u t) constant ∙ ap (λ (k : Bool). where_judged m.dynamic (load_dynamic u k t)) same) c.if-method.true
    (c.gives_computed.ensures.done at t (c.computed_at.ensures s m.constant_pool c.requires.table))
