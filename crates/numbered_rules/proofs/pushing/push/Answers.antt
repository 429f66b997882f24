use Rattle.numbered_rules.proofs.pushing.push.Goals as goal

pub returns-clause-done : goal.returns-clause-done
returns-clause-done g c = λ at p is. is.judged at _ _ c.push_result.ensures.done

pub push_result-requires : goal.push_result-requires
push_result-requires g c = c.requires.1.given
