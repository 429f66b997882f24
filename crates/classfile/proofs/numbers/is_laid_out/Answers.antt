use Rattle.std.proofs.Common.{◌≡◌, ◌∙◌, ◌&&◌, Bool, true, false, Option, sym, ap}
use Rattle.classfile.specs.Layouts.{AttributeLayout, has_layout}
use Rattle.classfile.specs.LayoutViews.{layout_view, numbers_view}
use Rattle.classfile.specs.Numbers.{is_same_layout, is_laid_out}
use Rattle.classfile.proofs.Columns.{layouts_compared}
use Rattle.classfile.proofs.numbers.is_laid_out.Goals as goal

pub returns-then-eq : goal.returns-then-eq
returns-then-eq c =
    let n = numbers_view c.args.numbers.now in
    let layout = layout_view c.in-Some.layout.now in
    let same : is_same_layout layout n.layout ≡ true = sym (c.eq.ensures ∙ layouts_compared c.in-Some.layout.now c.args.numbers.now.layout.now) ∙ c.if-eq.true in
    c.has_layout.ensures ∙ ap (λ (b : Bool). b && has_layout layout n.body) (sym same) ∙ ap (λ (o : Option AttributeLayout). is_laid_out o n) c.in-Some.ensures

pub returns-else-eq : goal.returns-else-eq
returns-else-eq c =
    let n = numbers_view c.args.numbers.now in
    let layout = layout_view c.in-Some.layout.now in
    let other : is_same_layout layout n.layout ≡ false = sym (c.eq.ensures ∙ layouts_compared c.in-Some.layout.now c.args.numbers.now.layout.now) ∙ c.if-eq.false in
    c.if-eq.false ∙ ap (λ (b : Bool). b && has_layout layout n.body) (sym other) ∙ ap (λ (o : Option AttributeLayout). is_laid_out o n) c.in-Some.ensures
