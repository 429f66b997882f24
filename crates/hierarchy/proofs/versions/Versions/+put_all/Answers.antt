use Rattle.std.proofs.Common.{◌∙◌, ◌-◌, ◌/◌, arith, sym, subst}
use Rattle.std.proofs.lemmas.Result.{IfOk-weaker}
use Rattle.hierarchy.specs.declared.versions.Node.{Node}
use Rattle.hierarchy.specs.private.Versions.{IsAdded, IsSplit, IsVersion, Most, PutsAll}
use Rattle.hierarchy.proofs.Putting.{no_puts, puts_below, puts_here, puts_nothing}
use Rattle.hierarchy.proofs.Sharing.{is_read}
use Rattle.hierarchy.proofs.versions.Versions.+put_all.Goals as goal

pub returns-then-is_empty : goal.returns-then-is_empty
returns-then-is_empty t c =
    let vs = c.args.self.now in
    let v = c.args.version in
    subst (λ ps. PutsAll vs vs v ps v) (sym (no_puts c.args.puts.now (sym c.is_empty.ensures ∙ c.if-is_empty.true))) (puts_nothing vs v c.requires.good c.requires.there)

pub returns-then-most-eq0 : goal.returns-then-most-eq0
returns-then-most-eq0 t c =
    let old = c.args.self.now in
    let new = c.at_top.new.self in
    let from = c.args.version in
    let s = c.in_ok-split.split in
    let node = c.index-node.result.now in
    let read = is_read old from node c.requires.good c.requires.there c.index-node.ensures in
    let split = subst (λ (x : Node). IsSplit x.value c.args.puts.now s) read c.in_ok-split.ensures in
    let top : Node = record { value = s.value; odd = node.odd; even = node.even } in
    IfOk-weaker c.at_top.result (IsAdded old new top) (PutsAll old new from c.args.puts.now)
    (λ made a. puts_here old from c.requires.good c.requires.there c.args.puts.now s split (subst (λ n. Most n c.args.puts.now) c.if-most-eq0.true c.requires.most) new made
    (subst (λ (x : Node). IsAdded old new (record { value = s.value; odd = x.odd; even = x.even }) made) read a)) c.at_top.ensures

pub put_all-requires-2 : goal.put_all-requires-2
put_all-requires-2 t c =
    let old = c.args.self.now in
    let read = is_read old c.args.version c.index-node.result.now c.requires.good c.requires.there c.index-node.ensures in
    let even = subst (λ (x : Node). IsVersion old x.even) (sym read) (c.requires.good.even c.args.version c.requires.there) in
    let first = c.in_ok-odd.ensures in
    (omega (arith, c.decreases, c.if-most-eq0.false), (first.good, (first.stays c.index-node.result.now.even even, subst (Most ((c.args.most - 1) / 2)) (sym c.deref-2.ensures.value) (c.in_ok-split.ensures.most_even c.args.most c.requires.most))))

pub returns : goal.returns
returns t c =
    let old = c.args.self.now in
    let first = c.put_all.new.self in
    let mid = c.put_all-2.new.self in
    let new = c.at_top-2.new.self in
    let from = c.args.version in
    let s = c.in_ok-split.split in
    let node = c.index-node.result.now in
    let odd = c.in_ok-odd.odd in
    let even = c.in_ok-even.even in
    let read = is_read old from node c.requires.good c.requires.there c.index-node.ensures in
    let split = subst (λ (x : Node). IsSplit x.value c.args.puts.now s) read c.in_ok-split.ensures in
    let left = subst (λ (x : Node). PutsAll old first x.odd s.odd.items odd) read (subst (λ ps. PutsAll old first node.odd ps odd) c.deref.ensures.value c.in_ok-odd.ensures) in
    let right = subst (λ (x : Node). PutsAll first mid x.even s.even.items even) read (subst (λ ps. PutsAll first mid node.even ps even) c.deref-2.ensures.value c.in_ok-even.ensures) in
    let top : Node = record { value = s.value; odd = odd; even = even } in
    IfOk-weaker c.at_top-2.result (IsAdded mid new top) (PutsAll old new from c.args.puts.now)
    (λ made a. puts_below old from c.requires.good c.requires.there c.args.puts.now s split first mid new odd even made left right a) c.at_top-2.ensures
