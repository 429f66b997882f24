use Rattle.std.proofs.Common.{◌≡◌, ◌∙◌, ◌/◌, List, ℕ, refl, sym, ap, subst}
use Rattle.verify.specs.private.pass.Watching.{IsGroup}
use Rattle.verify.proofs.numbered.Watched.{updated_all}
use Rattle.verify.proofs.pass.watching.Watch.all_take.Goals as goal

pub see-requires-clause-group : goal.see-requires-clause-group
see-requires-clause-group g c =
    let x = c.args.frames.now in
    c.take_out-group.ensures.group x.types x.declared c.args.list.now c.requires.watch

pub returns-clause-watch : goal.returns-clause-watch
returns-clause-watch g c =
    let x = c.args.frames.now in
    updated_all (IsGroup x.types x.declared c.args.list.now) c.take_out-group.new.self.groups c.insert.new.self (c.args.place / 256) _ c.in_ok-insert.ensures.updates
    (c.in_ok-all.ensures.group c.args.list.now (c.in_ok-see.ensures.group)) (c.take_out-group.ensures.watch x.types x.declared c.args.list.now c.requires.watch)
