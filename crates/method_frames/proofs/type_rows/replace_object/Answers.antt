use Rattle.std.proofs.Common.{ap}
use Rattle.std.proofs.lemmas.Result.{on_ok_weaker}
use Rattle.blocks.specs.Rows.{Rows}
use Rattle.method_frames.proofs.Holding.{object_high, replaces_whole}
use Rattle.method_frames.proofs.type_rows.replace_object.Goals as goal

pub replace-requires : goal.replace-requires
replace-requires c = object_high c.args.object c.requires.object

pub returns-clause-only : goal.returns-clause-only
returns-clause-only c = replaces_whole c.args.object c.args.by c.args.rows.now c.replace.new.self c.replace.result c.replace.ensures.ok c.replace.ensures.err

pub returns-clause-all : goal.returns-clause-all
returns-clause-all c = on_ok_weaker c.replace.result (λ is. ap (λ (x : Rows). x.running) is) c.replace.ensures.ok
