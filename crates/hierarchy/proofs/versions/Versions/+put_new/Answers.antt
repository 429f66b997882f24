use Rattle.hierarchy.proofs.Sharing.{new_at_top, new_in_odd, new_in_even}
use Rattle.hierarchy.proofs.versions.Versions.+put_new.Goals as goal

pub returns-then-index-eq0 : goal.returns-then-index-eq0
returns-then-index-eq0 t c =
    new_at_top c.args.self.now c.args.version c.index-node.result.now c.requires.good c.requires.there c.index-node.ensures c.push.new.self c.args.index c.args.value c.push.result
    c.if-index-eq0.true c.push.ensures

pub returns-then-index-eq1 : goal.returns-then-index-eq1
returns-then-index-eq1 t c =
    new_in_odd c.args.self.now c.args.version c.index-node.result.now c.requires.good c.requires.there c.index-node.ensures c.push-then-index-eq1.new.self c.args.index c.args.value c.push-then-index-eq1.result
    c.put_new.new.self c.in_ok-odd.odd c.if-index-eq0.false c.if-index-eq1.true c.in_ok-odd.ensures c.push-then-index-eq1.ensures

pub returns : goal.returns
returns t c =
    new_in_even c.args.self.now c.args.version c.index-node.result.now c.requires.good c.requires.there c.index-node.ensures c.push-2.new.self c.args.index c.args.value c.push-2.result
    c.put_new-2.new.self c.in_ok-even.even c.if-index-eq0.false c.if-index-eq1.false c.in_ok-even.ensures c.push-2.ensures
