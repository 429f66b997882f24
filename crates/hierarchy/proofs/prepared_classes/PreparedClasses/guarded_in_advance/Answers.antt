use Rattle.std.proofs.Common.{◌≡◌, ◌∙◌, map, subst, sym}
use Rattle.hierarchy.specs.Nearest.{is_guarded}
use Rattle.hierarchy.specs.Summary.{references_of}
use Rattle.hierarchy.proofs.prepared_classes.PreparedClasses.guarded_in_advance.Goals as goal

pub returns-in_ok-answers-in-Some : goal.returns-in_ok-answers-in-Some
returns-in_ok-answers-in-Some g c =
    let content = g.C.Classes.content c.self.inside.classes.now in
    let is = c.self.invariant in
    let at = is.ancestry.places.leads c.args.class.now c.in-Some.place (sym c.place.ensures ∙ c.in-Some.is) in
    let told = c.in_ok-answers-in-Some.ensures at.0 at.1 in
    let named = subst (λ name. c.in_ok-answers-in-Some.answers.items ≡ map (is_guarded content name) (references_of c.args.references.now)) at.2 told in
    subst (λ classes. c.in_ok-answers-in-Some.answers.items ≡ map (is_guarded classes c.args.class.now) (references_of c.args.references.now)) c.self.view_is named
