use Rattle.std.proofs.Common.{◌≡◌, ◌∙◌, [], length, map, ap, subst, arith}
use Rattle.std.specs.Prelude.{drop}
use Rattle.std.proofs.lemmas.List.{length-map}
use Rattle.names.specs.Types.{type_of}
use Rattle.frames.specs.VerificationType.{type_of as vtype_of}
use Rattle.frames.specs.DeclaredFrames.{is_uninit_this}
use Rattle.type_numbers.specs.Numbers.{IsNumber}
use Rattle.insn.specs.OperandStacks.{beneath}
use Rattle.rules.specs.After.{top_of}
use Rattle.rules.specs.TypingRules.{arguments_on}
use Rattle.rules.proofs.Made.{beneath_arguments}
use Rattle.numbered_rules.specs.RunningFrame.{held}
use Rattle.verify.proofs.numbered.Objects.{read_as}
use Rattle.verify.proofs.pass.members.is_on_own.Goals as goal

pub returns : goal.returns
returns g c =
    let s = c.args.frames.now.types in
    let stack = (held c.args.frames.now).stack in
    let params = c.args.called.now.method_type.params in
    let count : params.len ≡ length (map type_of params.items) = omega (arith, length-map params.items type_of, params.ok.0) in
    let own = subst (λ z. IsNumber z c.item_beneath-object.result (vtype_of c.vtype.result)) c.types.ensures c.vtype.ensures in
    let drops : top_of (drop c.len.result stack) ≡ top_of (beneath (arguments_on (map type_of params.items) []) stack) =
    ap (λ n. top_of (drop n stack)) c.len.ensures ∙ ap top_of (beneath_arguments (map type_of params.items) params.len stack count) in
    c.is_own.ensures.own ∙ ap is_uninit_this (read_as s c.item_beneath-object.result (vtype_of c.vtype.result) (top_of (drop c.len.result stack)) own c.item_beneath-object.ensures.item ∙ drops)
