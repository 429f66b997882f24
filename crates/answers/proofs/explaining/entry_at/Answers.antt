use Rattle.std.proofs.Common.{◌≡◌, ℕ, ◌+◌, ◌-◌, map, take, drop, sym, ◌∙◌, ap, arith}
use Rattle.std.proofs.lemmas.List.{take-map, drop-map}
use Rattle.classfile.specs.Views.{handler_view}
use Rattle.answers.specs.Explanations.{entry_at}
use Rattle.answers.proofs.explaining.entry_at.Goals as goal

pub returns : goal.returns
returns c =
    let place = c.in-Some.place in
    let table = c.args.table.now in
    let one : place + 1 - place ≡ 1 = omega (arith) in
    ap (λ n. map handler_view (take n (drop place table))) one ∙ sym (take-map handler_view 1 (drop place table)) ∙ ap (take 1) (sym (drop-map handler_view place table))
    ∙ ap (entry_at (map handler_view table)) (sym c.in-Some.is)
