use Rattle.std.proofs.Common.{◌≡◌, ◌∙◌, false, sym, subst}
use Rattle.hierarchy.specs.Nearest.{is_guarded}
use Rattle.rules.specs.Guards.{IsReference, Surroundings, own_name}
use Rattle.rules.proofs.Guarding.{own_free}
use Rattle.rules.proofs.members.Members.is_guarded.Goals as goal

pub returns-then-names_own-clause-found : goal.returns-then-names_own-clause-found
returns-then-names_own-clause-found g c = λ r.
    let classes = g.C.Classes.content c.self.inside.classes.now in
    let class = c.self.inside.class.now in
    subst (λ (s : Surroundings). IsReference s.class.constant_pool c.args.index r → false ≡ is_guarded s.classes (own_name s.class) r) c.self.view_is
    (λ is. sym (own_free classes class c.args.index r (sym c.names_own.ensures ∙ c.if-names_own.true) is))
