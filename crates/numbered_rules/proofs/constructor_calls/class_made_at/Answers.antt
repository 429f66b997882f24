use Rattle.std.proofs.Common.{◌∙◌, None, option_map, sym, ap, subst}
use Rattle.insn.specs.Offsets.{acts, at_offset}
use Rattle.insn.specs.Decoding.{instructions_in}
use Rattle.frames.specs.Marks.{new_index}
use Rattle.frames.specs.VerificationType.{class as class_of}
use Rattle.type_numbers.specs.Numbers.{IsNumberOf}
use Rattle.rules.specs.Bodies.{method_view}
use Rattle.rules.proofs.Made.{class_of_index, index_made}
use Rattle.numbered_rules.proofs.constructor_calls.class_made_at.Goals as goal

pub returns-in-None : goal.returns-in-None
returns-in-None c = λ s table.
    let m = method_view c.args.body.now.method.now in
    let index = sym c.in-None.is ∙ c.class_index.ensures ∙ ap (λ b. new_index (at_offset (acts (instructions_in b)) c.args.at)) c.args.body.now.code in
    subst (λ o. IsNumberOf s None (option_map class_of o)) (ap (class_of_index m) index ∙ index_made m (at_offset m.code c.args.at)) tt

pub returns-in-Some : goal.returns-in-Some
returns-in-Some c = λ s table.
    let m = method_view c.args.body.now.method.now in
    let index = sym c.in-Some.is ∙ c.class_index.ensures ∙ ap (λ b. new_index (at_offset (acts (instructions_in b)) c.args.at)) c.args.body.now.code in
    subst (λ o. IsNumberOf s c.class_named.result (option_map class_of o)) (ap (class_of_index m) index ∙ index_made m (at_offset m.code c.args.at)) (c.class_named.ensures s m.constant_pool table)
