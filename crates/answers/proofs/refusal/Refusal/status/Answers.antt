use Rattle.std.proofs.Common.{rules}
use Rattle.answers.proofs.refusal.Refusal.status.Goals as goal

pub returns-in-Unread-ReadFailed : goal.returns-in-Unread-ReadFailed
returns-in-Unread-ReadFailed c = search rules
