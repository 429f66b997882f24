use Rattle.std.proofs.Common.{◌∙◌, map, ap}
use Rattle.hierarchy.specs.Nearest.{is_guarded}
use Rattle.hierarchy.specs.Summary.{references_of}
use Rattle.rules.proofs.Guarding.{guards_are}
use Rattle.rules.proofs.guards.Guards.new.Goals as goal

pub returns : goal.returns
returns g c =
    let classes = g.C.Classes.content c.args.classes.now in
    let class = c.args.class.now in
    let references = references_of c.in_ok-places.references in
    guards_are classes class (record { places = c.in_ok-places.places; answers = c.in_ok-answers.answers }) references c.in_ok-places.ensures
    (c.in_ok-answers.ensures ∙ ap (λ n. map (is_guarded classes n) references) c.own_name.ensures)
