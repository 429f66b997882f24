use Rattle.std.proofs.Common.{◌∙◌, ◌++◌, ◌∷◌, [], ap, arith, refl}
use Rattle.hierarchy.specs.declared.texts.Texts.{Texts}
use Rattle.hierarchy.proofs.TextPlaces.{has_place}
use Rattle.hierarchy.proofs.texts.Texts.push.Goals as goal

pub returns-clause-place : goal.returns-clause-place
returns-clause-place c =
    let old = c.args.self.now in
    let new : Texts = record { known = old.known; list = c.push_reserved.new.self } in
    has_place c.args._pool.now old new c.requires.good c.args._index c.len-place.result c.args.text c.requires.text (omega (arith, c.len-place.ensures, old.list.ok)) (c.push_reserved.ensures.items ∙ ap (λ xs. xs ++ c.args.text ∷ []) c.make_room.ensures.same) refl
