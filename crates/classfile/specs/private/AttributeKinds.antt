-- Words of the code's own steps: kinds of attributes of which a table may have one.
use Rattle.std.specs.Prelude.{Bool}
use Rattle.classfile.specs.declared.attribute_fault.Kind.{Kind}
use Rattle.classfile.specs.declared.attribute_fault.Kind.TheVariants.{OfParts, OfLayout}
use Rattle.classfile.specs.AttributeForm.{is_of_parts}
use Rattle.classfile.specs.LayoutViews.{layout_view}
use Rattle.classfile.specs.NumberForm.{has_this_layout}
use Rattle.classfile.specs.Values.{AttributeOf}

abbrev pub has_kind : {A : Type 0} → Kind → AttributeOf A → Bool
has_kind OfParts attribute = is_of_parts attribute
has_kind (OfLayout layout) attribute = has_this_layout (layout_view layout.now) attribute
