use Rattle.std.proofs.Common.{◌≡◌, ◌∙◌, ◌++◌, List, map, sym, ap, arith}
use Rattle.std.proofs.lemmas.List.{append-nil, drop_all}
use Rattle.frames.specs.declared.vtype.VType.{VType}
use Rattle.frames.specs.VerificationType.{type_of}
use Rattle.frames.specs.Slots.{in_locals}
use Rattle.frames.proofs.Filling.{filled_up}
use Rattle.frames.proofs.declaring.all_locals.Goals as goal

pub returns : goal.returns
returns c =
    let all = c.loop-t.all.items in
    let types = c.args.types.now in
    let none = drop_all c.loop-t.t-index types (omega (arith, c.loop-t-test.false)) in
    let front : map type_of all ≡ in_locals (map type_of types) =
    sym (append-nil (map type_of all)) ∙ ap (λ (l : List VType). map type_of all ++ in_locals (map type_of l)) (sym none) ∙ c.loop-t.invariant in
    filled_up all c.resize.new.self.items (map type_of types) c.args.max_locals c.from-2.result c.loop-t.all.len c.loop-t.all.ok.0 c.from-2.ensures c.requires front c.in_ok-resize.ensures.items
