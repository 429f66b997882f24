use Rattle.std.proofs.Common.{◌+◌, ap, ◌∙◌, ℕ}
use Rattle.std.specs.Option.{option_map}
use Rattle.std.specs.List.{list_any}
use Rattle.names.specs.Descriptors.{result_types}
use Rattle.names.specs.ReadTypes.{type_read}
use Rattle.names.specs.Reading.{is_deep}
use Rattle.names.proofs.ShapeLaws.{too_deep, too_wide, has_shape, units_of_receiver, no_deep, same_some}
use Rattle.names.proofs.shape.shape_within.Goals as goal

pub returns-then-deep : goal.returns-then-deep
returns-then-deep c = λ types s.
    too_deep c.args.receiver c.args.measured types (option_map type_read c.args.returned) s (rw c.is_deep.ensures at c.if-deep.true)

pub returns-then-units-gt255 : goal.returns-then-units-gt255
returns-then-units-gt255 c = λ types s.
    let o = option_map type_read c.args.returned in
    let shallow = no_deep c.args.measured.deep (list_any is_deep (result_types o)) (rw c.is_deep.ensures at c.if-deep.false) in
    let over = rw (c.from.ensures, units_of_receiver) at c.if-units-gt255.true in
    too_wide c.args.receiver c.args.measured types o s shallow.0 shallow.1 over

pub returns : goal.returns
returns c = λ types s.
    let o = option_map type_read c.args.returned in
    let shallow = no_deep c.args.measured.deep (list_any is_deep (result_types o)) (rw c.is_deep.ensures at c.if-deep.false) in
    let units = c.from.ensures ∙ units_of_receiver c.args.receiver in
    has_shape c.args.receiver c.args.measured types o _ s shallow.0 shallow.1 (ap (λ (n : ℕ). c.args.measured.units + n) units) c.if-units-gt255.false (c.is_some.ensures ∙ same_some c.args.returned)
