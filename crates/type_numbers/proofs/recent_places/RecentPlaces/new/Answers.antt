use Rattle.std.proofs.Common.{None}
use Rattle.std.proofs.lemmas.List.Elements.{All-replicate}
use Rattle.type_numbers.specs.private.RecentPlaces.{IsSlot}
use Rattle.type_numbers.proofs.recent_places.RecentPlaces.new.Goals as goal

pub returns : goal.returns
returns c = λ classes kept. All-replicate (IsSlot classes kept) 256 None tt
