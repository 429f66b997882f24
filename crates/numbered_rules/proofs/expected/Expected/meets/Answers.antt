use Rattle.std.proofs.Common.{sym}
use Rattle.numbered_rules.proofs.expected.Expected.meets.Goals as goal

pub returns-then-is_met_at_once : goal.returns-then-is_met_at_once
returns-then-is_met_at_once g c = sym (c.is_met_at_once.ensures c.args.types.now c.requires.given c.requires.expected c.if-is_met_at_once.true)
