use Rattle.std.proofs.Common.{◌≡◌, ◌∙◌, sym, ap₂}
use Rattle.numbered_rules.specs.private.TypeParts.{holds_references, holds_references_by}
use Rattle.numbered_rules.proofs.Elements.{element_number, no_element_number, null_element_number, holds_parts}
use Rattle.numbered_rules.proofs.arrays.element_of.Goals as goal

pub returns-then-number-eq-NULL : goal.returns-then-number-eq-NULL
returns-then-number-eq-NULL c = λ s t h. null_element_number s c.args.number t h c.if-number-eq-NULL.true

pub returns-then-holds_references : goal.returns-then-holds_references
returns-then-holds_references c = λ s t h.
    let told : c.holds_references.result ≡ holds_references t = c.holds_references.ensures ∙ ap₂ holds_references_by c.of.ensures.tag c.of.ensures.dims ∙ holds_parts s c.args.number t h in
    element_number s c.args.number t h (sym told ∙ c.if-holds_references.true)

pub returns-else-holds_references : goal.returns-else-holds_references
returns-else-holds_references c = λ s t h.
    let told : c.holds_references.result ≡ holds_references t = c.holds_references.ensures ∙ ap₂ holds_references_by c.of.ensures.tag c.of.ensures.dims ∙ holds_parts s c.args.number t h in
    no_element_number s c.args.number t h c.if-number-eq-NULL.false (sym told ∙ c.if-holds_references.false)
