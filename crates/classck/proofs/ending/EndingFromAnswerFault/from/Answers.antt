use Rattle.std.proofs.Common.{rules}
use Rattle.classck.proofs.ending.EndingFromAnswerFault.from.Goals as goal

pub returns-in-WriteFailed : goal.returns-in-WriteFailed
returns-in-WriteFailed c = search rules
