use Rattle.std.proofs.Common.{◌<◌, map, subst, sym}
use Rattle.classfile.specs.CodeMethods.{judged_class}
use Rattle.verify.proofs.Playing.{are_playable}
use Rattle.verify.proofs.play.verify_play.Goals as goal

pub returns-in-Ok-clause-safe : goal.returns-in-Ok-clause-safe
returns-in-Ok-clause-safe g c =
    are_playable (g.C.Classes.content c.args.classes.now) (map judged_class c.args.play.now) c.in-Ok.reports.items
    (λ some. c.in-Ok.ensures.hierarchy (subst (λ n. 0 < n) (sym c.in-Ok.ensures.exactly.0) some)) c.in-Ok.ensures.exactly

pub returns-in-Err-clause-exactly : goal.returns-in-Err-clause-exactly
returns-in-Err-clause-exactly g c =
    c.fault_of.ensures (g.C.Classes.content c.args.classes.now) (map judged_class c.args.play.now) c.in-Err.ensures.exactly
