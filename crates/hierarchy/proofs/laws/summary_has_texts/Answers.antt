use Rattle.hierarchy.proofs.Summaries.{has_texts}
use Rattle.hierarchy.proofs.laws.summary_has_texts.Goals as goal

pub returns : goal.returns
returns c = has_texts c.formed_has_names.ensures
