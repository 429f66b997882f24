-- Each step takes the type in front.
use Rattle.std.proofs.Common.{◌∙◌, ◌∷◌, length, sym, ap}
use Rattle.names.specs.ReadTypes.{type_read}
use Rattle.names.proofs.Kept.{field_shorter}
use Rattle.names.proofs.Judged.{shallow_read, deep_read}
use Rattle.names.specs.Parameters.{types_at}
use Rattle.names.proofs.ParameterLaws.{no_type, deep_type, taken}
use Rattle.names.proofs.parameters.ParametersIterator.next.Goals as goal

pub returns-in_default-clause-steps : goal.returns-in_default-clause-steps
returns-in_default-clause-steps c =
    let bytes = c.args.self.now.rest.now in
    let nothing = no_type (length bytes) bytes c.in_default.field-0.rest.now c.in_default.ensures in
    (nothing, nothing)

pub returns-in_default-limited-clause-steps : goal.returns-in_default-limited-clause-steps
returns-in_default-limited-clause-steps c =
    let bytes = c.args.self.now.rest.now in
    let nothing = deep_type (length bytes) bytes c.in-Ok.behind.now (type_read c.in-Ok.field) c.in-Ok.ensures (deep_read c.in-Ok.field c.in_default-limited.ensures.deep.1) in
    (nothing, nothing)

pub returns-clause-steps : goal.returns-clause-steps
returns-clause-steps c =
    let within = c.in-Ok-limited.ensures.within in
    let behind = c.in-Ok.behind.now in
    taken c.args.self.now.rest.now behind (type_read c.in-Ok.field) c.in-Ok.ensures (shallow_read c.in-Ok.field within.1) ∙ ap (λ t. t ∷ types_at (length behind) behind) (sym within.0)

pub returns-clause-goes : goal.returns-clause-goes
returns-clause-goes c =
    let fewer = field_shorter c.args.self.now.rest.now c.in-Ok.behind.now (type_read c.in-Ok.field) c.in-Ok.ensures in
    record { on = λ _. (tt, tt, fewer); keeps = tt; rests = λ _. tt }
