-- No layout so far is that of the name, so it rests with the others.
use Rattle.std.proofs.Common.{◌≡◌, map, drop}
use Rattle.classfile.specs.Layouts.{layout_in}
use Rattle.classfile.specs.LayoutViews.{layout_view}
use Rattle.classfile.proofs.layouts.layout_in.Given as goal

abbrev pub invariant-loop-layout : goal.invariant-loop-layout
invariant-loop-layout l = layout_in l.major l.name (map layout_view l.layouts) ≡ layout_in l.major l.name (map layout_view (drop l.layout-index l.layouts))
