-- None so far is refused, so it rests with the others.
use Rattle.std.proofs.Common.{◌≡◌, map, drop}
use Rattle.std.specs.List.{list_any}
use Rattle.classfile.specs.Views.{member_view}
use Rattle.printing.specs.Classes.{is_refused_method}
use Rattle.printing.proofs.listing.Listing.is_refused.Given as goal

abbrev pub invariant-loop-method : goal.invariant-loop-method
invariant-loop-method l =
    list_any is_refused_method (map member_view l.self.0.now.methods.items) ≡ list_any is_refused_method (map member_view (drop l.method-index l.self.0.now.methods.items))
