use Rattle.std.proofs.Common.{rules, refl}
use Rattle.file_reads.proofs.Extents.{takes_number, takes_wide, takes_handle, takes_method_type, takes_dynamic}
use Rattle.file_reads.proofs.outline.rare_extent.Goals as goal

pub returns-in-15 : goal.returns-in-15
returns-in-15 c = takes_handle c.args.last c.args.tag c.narrow.result c.in-15.is c.narrow.ensures

pub returns-in-16 : goal.returns-in-16
returns-in-16 c = takes_method_type c.args.last c.args.tag c.narrow-in-16.result c.in-16.is c.narrow-in-16.ensures

pub returns-in-3 : goal.returns-in-3
returns-in-3 c = takes_number c.args.last c.args.tag c.narrow-in-3.result (search rules) (search rules) c.narrow-in-3.ensures

pub returns-else-last : goal.returns-else-last
returns-else-last c = takes_wide c.args.last c.args.tag _ (search rules) (search rules) c.if-last.false refl

pub returns-in-17 : goal.returns-in-17
returns-in-17 c = takes_dynamic c.args.last c.args.tag c.narrow-in-17.result (search rules) (search rules) c.narrow-in-17.ensures
