use Rattle.std.proofs.Common.{refl}
use Rattle.names.specs.Types.{type_of}
use Rattle.names.proofs.Kept.{too_many_types}
use Rattle.names.proofs.reading.fitting.Goals as goal
use Rattle.std.specs.Option.{option_map}

pub returns-then-params : goal.returns-then-params
returns-then-params c = λ types k. (refl, too_many_types types (option_map type_of c.args.returned) c.args.receiver (k.many c.requires.shallow c.if-params.true))
