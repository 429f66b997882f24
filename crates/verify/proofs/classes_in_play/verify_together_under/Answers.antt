use Rattle.std.proofs.Common.{map, sym, subst, ap}
use Rattle.verify.specs.Files.{read_of}
use Rattle.verify.specs.private.TogetherSteps.{DecodesAll, views}
use Rattle.verify.proofs.classes_in_play.verify_together_under.Goals as goal

pub returns-clause-exactly : goal.returns-clause-exactly
returns-clause-exactly g c =
    let reads = map read_of c.args.files.now in
    let decoded = c.in_ok-decoded.decoded in
    c.reports_decoded.ensures.exactly reads (subst (λ cs. DecodesAll reads cs decoded.fault) (ap views (sym c.deref.ensures.value)) c.in_ok-decoded.ensures)

pub returns-clause-safe : goal.returns-clause-safe
returns-clause-safe g c =
    let reads = map read_of c.args.files.now in
    let decoded = c.in_ok-decoded.decoded in
    c.reports_decoded.ensures.safe reads (subst (λ cs. DecodesAll reads cs decoded.fault) (ap views (sym c.deref.ensures.value)) c.in_ok-decoded.ensures)
