use Rattle.std.proofs.Common.{◌≡◌, ◌∙◌, length, map, refl, sym, arith}
use Rattle.std.proofs.lemmas.List.{length-map}
use Rattle.names.specs.Types.{type_of}
use Rattle.pool.specs.ConstantViews.{method_constant_view}
use Rattle.rules.proofs.Using.{is_call}
use Rattle.rules.proofs.protected_members.call_use.Goals as goal

pub returns : goal.returns
returns c =
    let called = c.args.called.now in
    let params = called.method_type.params in
    let count : c.len-above.result ≡ length (map type_of params.items) = omega (arith, length-map params.items type_of, params.ok.0, c.len-above.ensures) in
    (refl, is_call (method_constant_view called) c.if-called.false (sym c.is_of_class.ensures ∙ c.if-not-is_of_class.false) c.len-above.result count)
