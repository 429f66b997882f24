use Rattle.hierarchy.proofs.SameSummaries.{none_numbered}
use Rattle.hierarchy.proofs.same_summaries.Comparison.new.Goals as goal

pub returns : goal.returns
returns c = record {
  first = c.in_ok-new.ensures.0;
  second = c.in_ok-new-2.ensures.0;
  copy = c.same_texts.ensures;
  good = none_numbered c.new.result c.new.ensures.empty;
  given = c.in_ok-new.ensures.1 c.new.result;
  given_too = c.in_ok-new-2.ensures.1 c.new.result;
}
