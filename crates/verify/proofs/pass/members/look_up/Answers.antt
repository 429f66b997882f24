use Rattle.verify.proofs.pass.members.look_up.Goals as goal

pub returns-in-Ok-clause-unguarded : goal.returns-in-Ok-clause-unguarded
returns-in-Ok-clause-unguarded g c = λ s same numbers. c.uses_no_guarded.ensures.unguarded c.if-not-uses_no_guarded.false s same numbers
