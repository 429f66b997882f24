use Rattle.std.proofs.lemmas.Result.{IfOk-weaker}
use Rattle.hierarchy.specs.private.Versions.{PutsAll, PutsNested, Puts}
use Rattle.std.proofs.Common.{subst}
use Rattle.hierarchy.proofs.Putting.{nested}
use Rattle.hierarchy.proofs.versions.Versions.put_nested.Goals as goal

pub returns : goal.returns
returns c =
    let old = c.args.self.now in
    let mid = c.put_all.new.self in
    let new = c.put.new.self in
    let puts = c.args.puts.now in
    let has = c.in_ok-has.has in
    let all = subst (λ had. PutsAll old mid had puts has) c.get-had.ensures c.in_ok-has.ensures in
    IfOk-weaker c.put.result (Puts mid new c.args.version c.args.outer has) (PutsNested old new c.args.version c.args.outer puts)
    (λ made one. nested old mid new c.args.version c.args.outer puts has made c.requires.there c.requires.named all one) c.put.ensures.puts
