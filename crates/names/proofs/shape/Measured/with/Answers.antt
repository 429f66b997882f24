use Rattle.names.specs.ReadTypes.{type_read}
use Rattle.names.proofs.ShapeLaws.{deep_is, counted_more, wide_more}
use Rattle.names.proofs.shape.Measured.with.Goals as goal

pub returns-then-self-gt255 : goal.returns-then-self-gt255
returns-then-self-gt255 c = λ types s. rw (← deep_is c.args.field) (wide_more c.args.self types (type_read c.args.field) c.if-self-gt255.true s)

pub returns : goal.returns
returns c = λ types s. rw (c.width.ensures, ← deep_is c.args.field) (counted_more c.args.self types (type_read c.args.field) c.if-self-gt255.false s)
