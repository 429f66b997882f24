use Rattle.std.proofs.Common.{◌≡◌, ◌∙◌, ◌++◌, List, map, take, ap, sym, subst}
use Rattle.std.specs.Prelude.{ℕ, codes}
use Rattle.std.proofs.lemmas.List.{reverse-reverse}
use Rattle.frames.specs.VerificationType.{VerificationType, type_of}
use Rattle.printing.specs.Writing.{Writes}
use Rattle.printing.specs.Frames.{in_use, types_line, flags_line}
use Rattle.printing.proofs.frame.FrameLinesPrint.put.Goals as goal

pub returns : goal.returns
returns g c =
    let held = g.W.Write.contents in
    let f = c.args.self.now.frame.now in
    let label = c.args.self.now.label.now in
    let types = map type_of f.locals.items in
    let stack = map type_of f.stack.items in
    let flags = flags_line label f.flag in
    let used : map type_of c.split_at.result.0.now ≡ in_use types =
    ap (map type_of) (c.split_at.ensures.front ∙ ap (take c.count_in_use.result) (c.deref.ensures.value ∙ sym c.deref-2.ensures.value)) ∙ sym c.count_in_use.ensures.used ∙ ap (λ l. in_use (map type_of l)) c.deref-2.ensures.value in
    subst (λ (l : List ℕ). Writes (held c.args.out.now) (held c.put.new.out) l c.put.result)
    (ap (λ (ts : List VerificationType). types_line label (codes "locals") ts ++ (types_line label (codes "stack") (map type_of c.deref-3.result.now) ++ flags)) used
    ∙ ap (λ (ts : List VerificationType). types_line label (codes "locals") (in_use types) ++ (types_line label (codes "stack") ts ++ flags)) (ap (map type_of) c.deref-3.ensures.value ∙ sym (reverse-reverse stack)))
    c.put.ensures
