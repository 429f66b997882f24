use Rattle.std.proofs.Common.{◌∙◌, ap, ℕ, List, map, Option}
use Rattle.classfile.specs.AttributeFault.{least, second_of_layout}
use Rattle.classfile.specs.Layouts.{AttributeLayout, layouts_in}
use Rattle.classfile.proofs.attribute_fault.repeated_at.Goals as goal

pub returns : goal.returns
returns g c =
    let each : AttributeLayout → Option ℕ = second_of_layout (map g.A.Tabled.attribute c.args.attributes.now) in
    c.least.ensures ∙ ap (λ (ls : List AttributeLayout). least c.second-first.result (map each ls)) c.layouts_in.ensures
    ∙ ap (λ (n : Option ℕ). least n (map each (layouts_in c.args.location))) c.second-first.ensures
