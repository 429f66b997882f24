use Rattle.std.proofs.Common.{◌∙◌, ◌&&◌, Bool, ap}
use Rattle.std.specs.Str.{bytes_eq}
use Rattle.pool.specs.Views.{name_and_type_view}
use Rattle.classfile.specs.Indices.{on_text}
use Rattle.classfile.specs.Views.{member_view}
use Rattle.classfile.proofs.Marks.{both_texts}
use Rattle.classfile.proofs.duplicate_finder.has_texts.Goals as goal

pub returns-then-is_text : goal.returns-then-is_text
returns-then-is_text c =
    let pool = c.args.pool.now in
    let m = member_view c.args.member.now in
    let x = name_and_type_view c.args.texts in
    let second : Bool = on_text pool m.descriptor (bytes_eq x.descriptor) in
    c.is_text-then-is_text.ensures ∙ ap (λ (b : Bool). b && second) c.if-is_text.ensures ∙ both_texts pool m x

pub returns-else-is_text : goal.returns-else-is_text
returns-else-is_text c =
    let pool = c.args.pool.now in
    let m = member_view c.args.member.now in
    let x = name_and_type_view c.args.texts in
    let second : Bool = on_text pool m.descriptor (bytes_eq x.descriptor) in
    c.if-is_text.false ∙ ap (λ (b : Bool). b && second) c.if-is_text.ensures ∙ both_texts pool m x
