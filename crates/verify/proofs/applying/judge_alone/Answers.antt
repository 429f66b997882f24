use Rattle.std.proofs.Common.{◌∙◌, ap}
use Rattle.rules.specs.Guards.{Surroundings}
use Rattle.type_numbers.specs.Numbers.{Numbering}
use Rattle.verify.proofs.applying.judge_alone.Goals as goal

pub judge-requires-clause-constants : goal.judge-requires-clause-constants
judge-requires-clause-constants g c =
    let class = c.args.body.now.method.now.class.now in
    c.new-constants.ensures
    ∙ ap (λ cs. let all : Surroundings = record { class = class; classes = cs } in all) (c.classes-classes.ensures ∙ ap (λ (s : Numbering). s.classes) c.types.ensures)
