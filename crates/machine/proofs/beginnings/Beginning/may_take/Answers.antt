use Rattle.std.proofs.Common.{map, sym, ◌∙◌, subst}
use Rattle.std.proofs.lemmas.Bool.{false≢true}
use Rattle.names.specs.Types.{type_of}
use Rattle.hierarchy.specs.Class.{world_of}
use Rattle.machine.specs.Heap.{AllFit}
use Rattle.machine.specs.Views.{value_view, heap_view}
use Rattle.machine.proofs.ReadBack.{room, fits_in}
use Rattle.machine.proofs.beginnings.Beginning.may_take.Goals as goal

pub returns-then-not-has_room : goal.returns-then-not-has_room
returns-then-not-has_room g c = (
  (λ t. absurd (false≢true t)),
  (λ x. absurd (false≢true (sym c.if-not-has_room.true ∙ c.has_room.ensures.1 (room c.args.values.now c.args.self.now.max_locals x.enough)))),
)

pub returns : goal.returns
returns g c =
    let w = world_of (g.C.Classes.content c.args.classes.now) in (
      (λ t. record {
        fit = subst (λ z. AllFit w (heap_view c.args.heap.now) (map type_of z) (map value_view c.args.arguments.now)) c.deref.ensures.value (c.all_fit.ensures.0 c.if-not-all_fit.false);
        enough = fits_in c.args.values.now c.args.self.now.max_locals (c.has_room.ensures.0 c.if-not-has_room.false);
        are = c.are_objects.ensures.0 t;
      }),
      (λ x. c.are_objects.ensures.1 x.are),
    )
