use Rattle.std.proofs.Common.{◌≡◌, ◌∙◌, ℕ, List, ◌∷◌, map, take, ap, sym, subst}
use Rattle.std.proofs.lemmas.List.{reverse-reverse}
use Rattle.frames.specs.VerificationType.{type_of}
use Rattle.printing.specs.Writing.{Writes}
use Rattle.printing.specs.Frames.{type_text, in_use, type_strings, flag_fields}
use Rattle.printing.specs.Json.{strings, fields_then}
use Rattle.printing.specs.declared.names_in.Within.TheVariants.{Json}
use Rattle.printing.proofs.Fields.{of_views}
use Rattle.printing.proofs.frame.FrameFieldsPrint.put.Goals as goal

pub returns : goal.returns
returns g c =
    let held = g.W.Write.contents in
    let self = c.args.self.now in
    let f = self.frame.now in
    let rest = g.B.Print.text self.behind in
    let types = map type_of f.locals.items in
    let stack = map type_of f.stack.items in
    let text : List (List ℕ) → List (List ℕ) → List ℕ = λ (locals operands : List (List ℕ)).
    fields_then ((self.locals.now, strings locals) ∷ (self.stack.now, strings operands) ∷ flag_fields self.flags.now f.flag) rest in
    let used : map type_of c.split_at.result.0.now ≡ in_use types =
    ap (map type_of) (c.split_at.ensures.front ∙ ap (take c.count_in_use.result) (c.deref.ensures.value ∙ sym c.deref-2.ensures.value)) ∙ sym c.count_in_use.ensures.used ∙ ap (λ l. in_use (map type_of l)) c.deref-2.ensures.value in
    let locals = of_views (type_text Json) type_of c.split_at.result.0.now ∙ ap type_strings used in
    let operands = of_views (type_text Json) type_of c.deref-3.result.now ∙ ap type_strings (ap (map type_of) c.deref-3.ensures.value ∙ sym (reverse-reverse stack)) in
    subst (λ (l : List ℕ). Writes (held c.args.out.now) (held c.put.new.out) l c.put.result)
    (ap (λ ls. text ls (map (λ x. type_text Json (type_of x)) c.deref-3.result.now)) locals ∙ ap (text (type_strings (in_use types))) operands)
    c.put.ensures
