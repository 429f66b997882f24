use Rattle.std.proofs.Common.{◌≡◌, ◌-◌, List}
use Rattle.classfile.specs.Methods.{ExceptionEntry}
use Rattle.verify.specs.private.pass.Following.{Follows, AreAhead}
use Rattle.verify.proofs.pass.handlers.Handlers.compare.Given as goal

abbrev pub invariant-loop-self : goal.invariant-loop-self
invariant-loop-self g l = record {
  same : l.frames ≡ l.fn.frames;
  flag : l.self.flag ≡ l.fn.self.flag;
  ahead : AreAhead l.at l.fn.self → AreAhead l.at l.self;
  follows : (es : List ExceptionEntry) → Follows l.fn.frames es l.at l.fn.self → Follows l.fn.frames es l.at l.self;
}

abbrev pub decreases-loop-self : goal.decreases-loop-self
decreases-loop-self g l = l.self.begun - l.self.settled
