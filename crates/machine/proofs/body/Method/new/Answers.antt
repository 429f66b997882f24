use Rattle.std.proofs.Common.{rules, ◌≡◌, Some, option_map, sym, ◌∙◌, ap}
use Rattle.classfile.specs.MethodParts.{code_at}
use Rattle.classfile.specs.Views.{class_view, code_view}
use Rattle.machine.proofs.Entries.{code_fits}
use Rattle.machine.proofs.body.Method.new.Goals as goal

pub decode_code-requires : goal.decode_code-requires
decode_code-requires c =
    let n = c.args.number in
    let e : code_at (class_view c.class-class.result.now) n ≡ Some (code_view c.unwrap-method.result.code.now) =
    ap (λ z. code_at (class_view z) n) c.class-class.ensures.same ∙ sym c.method.ensures.code ∙ ap (option_map (λ m. code_view m.code.now)) c.unwrap-method.ensures in
    code_fits (class_view c.class-class.result.now) c.class-class.ensures.formed n (code_view c.unwrap-method.result.code.now) e

pub returns-clause-told : goal.returns-clause-told
returns-clause-told c = search rules
