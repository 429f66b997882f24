use Rattle.std.proofs.Common.{sym}
use Rattle.verify.specs.declared.pass.watching.Group.{Group}
use Rattle.verify.specs.private.pass.Watching.{IsWanted}
use Rattle.verify.proofs.numbered.Watched.{removed_all}
use Rattle.verify.proofs.pass.watching.Group.take_out.Goals as goal

pub returns-in-Some-clause-wanted : goal.returns-in-Some-clause-wanted
returns-in-Some-clause-wanted c = λ s ds list at is. is.locals c.args.place c.in-Some.wanted (sym c.in-Some.ensures.value)

pub returns-in-Some-clause-group : goal.returns-in-Some-clause-group
returns-in-Some-clause-group c = λ s ds list at is. record {
  few = is.few;
  declared = is.declared;
  each = is.each;
  locals = removed_all (IsWanted s ds c.args.self.now.frames.items) c.args.self.now.locals c.remove.new.self c.args.place c.remove.ensures.updates is.locals;
}

pub returns-in-None-clause-wanted : goal.returns-in-None-clause-wanted
returns-in-None-clause-wanted c = λ s ds list at is. c.new.ensures s ds c.args.self.now.frames.items c.args.place

pub returns-in-None-clause-group : goal.returns-in-None-clause-group
returns-in-None-clause-group c = λ s ds list at is. record {
  few = is.few;
  declared = is.declared;
  each = is.each;
  locals = removed_all (IsWanted s ds c.args.self.now.frames.items) c.args.self.now.locals c.remove.new.self c.args.place c.remove.ensures.updates is.locals;
}
