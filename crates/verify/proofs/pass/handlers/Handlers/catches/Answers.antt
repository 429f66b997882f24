use Rattle.std.proofs.Common.{◌∙◌, sym, ap}
use Rattle.std.specs.Option.{option_copied}
use Rattle.std.proofs.lemmas.Bool.{eqb-true}
use Rattle.verify.proofs.pass.handlers.Handlers.catches.Goals as goal

pub returns-then-one-handler : goal.returns-then-one-handler
returns-then-one-handler c = λ t. record {
  key = c.key_of.result;
  known = c.in-Some.one.now;
  there = sym c.get.ensures.value ∙ ap option_copied c.in-Some.is;
  frame = c.if-one-handler.true;
  caught = eqb-true c.in-Some.one.now.caught c.args.handler.now.caught t;
}
