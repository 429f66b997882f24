use Rattle.std.proofs.Common.{sym, ◌∙◌}
use Rattle.std.proofs.lemmas.Bool.{false≢true}
use Rattle.classfile.specs.CodeMethods.{judged_class}
use Rattle.verify.proofs.Walking.{not_type_safe}
use Rattle.verify.proofs.verified_walk.check_verified.Goals as goal

pub returns-then-not-is_verified-clause-refused : goal.returns-then-not-is_verified-clause-refused
returns-then-not-is_verified-clause-refused g c =
    not_type_safe (g.C.Classes.content c.args.classes.now) (judged_class c.args.formed.now) c.args.number c.in_ok-verdict.verdict
    (λ e. false≢true (sym c.if-not-is_verified.true ∙ c.is_verified.ensures.1 e)) c.in_ok-verdict.ensures.exactly c.in_ok-verdict.ensures.only

pub returns-clause-safe : goal.returns-clause-safe
returns-clause-safe g c = c.in_ok-verdict.ensures.safe (c.is_verified.ensures.0 c.if-not-is_verified.false)
