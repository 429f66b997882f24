use Rattle.std.proofs.Common.{rules}
use Rattle.verify.proofs.verdict.VerifyFault.number.Goals as goal

pub returns-in-NotInHierarchy : goal.returns-in-NotInHierarchy
returns-in-NotInHierarchy c = search rules
