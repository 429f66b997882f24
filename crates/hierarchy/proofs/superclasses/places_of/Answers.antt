use Rattle.std.proofs.lemmas.Map.Text.{btree_map_updates_str}
use Rattle.hierarchy.proofs.Guarding.{places_next}
use Rattle.hierarchy.proofs.superclasses.places_of.Goals as goal

pub loop-place-preserved : goal.loop-place-preserved
loop-place-preserved c =
    places_next c.args.names.now c.loop-place.place _ c.loop-place.places c.insert.new.self c.loop-place-test.true c.loop-place.invariant
    (λ t. btree_map_updates_str _ c.loop-place.places c.insert.new.self _ c.in_ok-insert.ensures.updates t)
