use Rattle.hierarchy.proofs.PlacesKept.{places_are_names}
use Rattle.hierarchy.proofs.laws.places_are_names.Goals as goal

pub returns : goal.returns
returns c = places_are_names
