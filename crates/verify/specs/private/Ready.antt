-- An instruction can be run: the constants, the running frame and the numbers are those of its method.
use Rattle.std.specs.Prelude.{◌≡◌, length}
use Rattle.method_frames.specs.NumberedFrames.{NumberedFrames}
use Rattle.numbered_rules.specs.RuleNumbers.{AreRuleNumbers}
use Rattle.numbered_rules.specs.declared.body.Body.{Body}
use Rattle.rules.specs.Bodies.{method_view}
use Rattle.rules.specs.Guards.{Surroundings}

pub record IsReady (body : Body) (around : Surroundings) (frames : NumberedFrames) : Type 0 where
  pub constants : around ≡ record { class = body.method.now.class.now; classes = frames.types.classes }
  pub locals : length frames.running.locals ≡ body.method.now.code.now.max_locals
  pub numbers : AreRuleNumbers frames.types (method_view body.method.now) body.numbers
