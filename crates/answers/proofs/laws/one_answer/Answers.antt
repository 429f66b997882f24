use Rattle.answers.proofs.OneAnswer.{same_answer}
use Rattle.answers.proofs.laws.one_answer.Goals as goal

pub returns : goal.returns
returns c =
    same_answer record {
      one_class = c.one_class.ensures;
      not_both = c.no_fault_in_class.ensures;
      one_fault = c.one_fault.ensures;
      not_formed = c.no_fault_in_formed.ensures;
      one_first = c.one_first_fault.ensures;
      not_hierarchy = c.faults_break_rules.ensures;
      one_hierarchy_fault = c.one_hierarchy_fault.ensures;
      one_report = c.one_report.ensures;
      one_frames = c.one_frames.ensures;
    }
