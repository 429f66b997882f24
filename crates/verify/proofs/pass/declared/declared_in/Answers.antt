use Rattle.verify.proofs.numbered.Finding.{found_in}
use Rattle.verify.proofs.pass.declared.declared_in.Goals as goal

pub returns : goal.returns
returns g c = found_in c.args.frames.now.types c.args.frames.now.declared c.args.at c.from.result c.find.result c.from.ensures c.find.ensures
