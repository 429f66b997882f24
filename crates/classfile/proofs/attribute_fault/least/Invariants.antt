-- The index that was found stands for those of the layouts so far.
use Rattle.std.proofs.Common.{◌≡◌, map, drop}
use Rattle.classfile.specs.AttributeFault.{least, second_of_layout}
use Rattle.classfile.specs.LayoutViews.{layout_view}
use Rattle.classfile.proofs.attribute_fault.least.Given as goal

abbrev pub invariant-loop-layout : goal.invariant-loop-layout
invariant-loop-layout g l =
    least l.fn.first (map (second_of_layout (map g.A.Tabled.attribute l.attributes)) (map layout_view l.layouts))
    ≡ least l.found (map (second_of_layout (map g.A.Tabled.attribute l.attributes))
    (map layout_view (drop l.layout-index l.layouts)))
