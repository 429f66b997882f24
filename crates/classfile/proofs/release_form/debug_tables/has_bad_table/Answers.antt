use Rattle.std.proofs.Common.{◌∙◌}
use Rattle.classfile.specs.Views.{code_view}
use Rattle.classfile.proofs.DebugBodies.{judged_bad}
use Rattle.classfile.proofs.release_form.debug_tables.has_bad_table.Goals as goal

pub returns-in-Some-clause-told : goal.returns-in-Some-clause-told
returns-in-Some-clause-told c =
    c.few_are_bad.ensures.told ∙ judged_bad c.args.major c.args.pool.now (code_view c.args.code.now) c.in-Some.bodies c.in-Some.ensures
