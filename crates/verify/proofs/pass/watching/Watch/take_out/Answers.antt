use Rattle.std.proofs.Common.{sym}
use Rattle.verify.specs.private.pass.Watching.{IsGroup}
use Rattle.verify.proofs.numbered.Watched.{removed_all}
use Rattle.verify.proofs.pass.watching.Watch.take_out.Goals as goal

pub returns-in-Some-clause-group : goal.returns-in-Some-clause-group
returns-in-Some-clause-group c = λ s ds list is. is c.args.at c.in-Some.group (sym c.in-Some.ensures.value)

pub returns-in-Some-clause-watch : goal.returns-in-Some-clause-watch
returns-in-Some-clause-watch c = λ s ds list is. removed_all (IsGroup s ds list) c.args.self.now.groups c.remove.new.self c.args.at c.remove.ensures.updates is

pub returns-in-None-clause-group : goal.returns-in-None-clause-group
returns-in-None-clause-group c = λ s ds list is. c.new.ensures s ds list c.args.at

pub returns-in-None-clause-watch : goal.returns-in-None-clause-watch
returns-in-None-clause-watch c = λ s ds list is. removed_all (IsGroup s ds list) c.args.self.now.groups c.remove.new.self c.args.at c.remove.ensures.updates is
