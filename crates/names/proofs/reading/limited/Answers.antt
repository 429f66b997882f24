use Rattle.std.proofs.Common.{Ok, Err, Some, sym, ap, ◌∙◌}
use Rattle.std.specs.Prelude.{Option}
use Rattle.std.specs.Option.{option_map}
use Rattle.names.specs.declared.reading.FieldRead.{FieldRead}
use Rattle.names.specs.ReadTypes.{type_read}
use Rattle.names.specs.Reading.{method_type, limited_method}
use Rattle.names.proofs.Judged.{deep_read, shallow_read}
use Rattle.names.proofs.Kept.{limited_by_result, limited_by_width, shallow_result}
use Rattle.names.proofs.reading.limited.Goals as goal

pub returns-in-Ok : goal.returns-in-Ok
returns-in-Ok c = λ types k.
    let field = c.in-Some.field in
    let within = c.in-Ok.ensures.within in
    let fit = rw within.0 at (c.fitting-in-Ok.ensures types k) in
    rw c.in-Some.is
    (limited_by_width c.args.receiver types (Some (type_read field)) c.fitting-in-Ok.result (sym k.is_deep_known ∙ c.if-params.false) (shallow_result (type_read field) (shallow_read field within.1)) fit)

pub returns : goal.returns
returns c = λ types k.
    let field = c.in-Some.field in
    let deep = c.in-Err.ensures.deep in
    ap (λ (o : Option FieldRead). limited_method c.args.receiver (Ok (method_type types (option_map type_read o)))) c.in-Some.is
    ∙ limited_by_result c.args.receiver types (type_read field) (deep_read field deep.1)
    ∙ ap Err (sym deep.0)
