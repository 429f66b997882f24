use Rattle.std.proofs.Common.{map, subst}
use Rattle.std.specs.Result.{MatchResult}
use Rattle.classfile.specs.CodeMethods.{judged_class}
use Rattle.verify.specs.Plays.{ArePlayed, IsStopped}
use Rattle.verify.proofs.play.reports_in_play.Goals as goal

pub returns-clause-exactly : goal.returns-clause-exactly
returns-clause-exactly g c =
    let cs = map judged_class c.args.play.now in
    subst (λ h. MatchResult c.reports_in_turn.result (λ rs. ArePlayed h cs rs.items) (IsStopped h cs)) c.in_ok-prepared.ensures c.reports_in_turn.ensures.exactly
