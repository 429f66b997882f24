use Rattle.std.proofs.Common.{◌∙◌, ap}
use Rattle.hierarchy.specs.Summary.{facts_of}
use Rattle.verify.proofs.classes_in_play.reports_on.Goals as goal

pub reports_among-requires : goal.reports_among-requires
reports_among-requires g c = ap facts_of c.deref.ensures.value ∙ c.in_ok-summaries.ensures
