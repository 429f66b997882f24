use Rattle.std.proofs.Common.{get_or, ap, sym, subst, refl, ◌+◌}
use Rattle.verify.specs.declared.pass.watching.Wanted.{Wanted}
use Rattle.verify.specs.private.pass.Watching.{AreFitting, Has}
use Rattle.verify.proofs.numbered.Listed.{index_at}
use Rattle.verify.proofs.numbered.Watched.{wanted_more}
use Rattle.verify.proofs.pass.watching.Wanted.see.Goals as goal

pub loop-self-preserved : goal.loop-self-preserved
loop-self-preserved g c =
    let s = c.args.frames.now.types in
    let ds = c.args.frames.now.declared in
    let list = c.args.list.now in
    let old = c.loop-self.self in
    let frame = get_or list old.seen 0 in
    let said = c.in_ok-want.ensures in
    let fitting = said.fitting s c.declared_local-number.ensures.given c.loop-self.invariant.fitting in
    wanted_more s ds list c.args.place frame old _ (index_at list 0 old.seen c.loop-self-test.true) c.loop-self.invariant
    (record { given = fitting.given; few = fitting.few; fit = fitting.fit }) (ap (λ n. n + 1) said.seen) said.more
    (subst (Has c.want.new.self.numbers.items) c.declared_local-number.ensures.number said.wanted)
