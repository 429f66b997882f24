use Rattle.std.proofs.Common.{rules, ◌≡◌, ◌∙◌, Some, Ok, ap, sym, subst}
use Rattle.std.specs.Prelude.{IfSome}
use Rattle.std.specs.Option.{option_map}
use Rattle.names.specs.Types.{type_of}
use Rattle.classfile.specs.CodeMethods.{class_of, IsAt, code_method_view}
use Rattle.classfile.specs.Methods.{method_of}
use Rattle.classfile.specs.MethodParts.{code_at}
use Rattle.classfile.specs.Views.{class_view, code_view}
use Rattle.classfile.proofs.MethodLaws.{method_says}
use Rattle.insn.specs.Meanings.{Act}
use Rattle.insn.specs.Offsets.{acts}
use Rattle.insn.specs.Decoding.{or_none, instructions_in}
use Rattle.insn.specs.Views.{views}
use Rattle.insn.proofs.CodeResults.{only_result}
use Rattle.classfile.specs.WellFormed.{WellFormed}
use Rattle.verify.proofs.MethodCode.{little_code}
use Rattle.verify.proofs.environment.Env.new.Goals as goal

pub returns-clause-method : goal.returns-clause-method
returns-clause-method g c =
    let m = c.unwrap-method.result in
    let class = c.args.formed.now.class.now in
    let xs = views c.args.list.now in
    let at : IsAt c.args.formed.now c.args.number m = subst (λ o. IfSome o (λ k. IsAt c.args.formed.now c.args.number k)) c.unwrap-method.ensures c.method.ensures.here in
    let coded : code_at (class_view class) c.args.number ≡ Some (code_view m.code.now) =
    sym c.method.ensures.code ∙ ap (option_map (λ k. code_view k.code.now)) c.unwrap-method.ensures in
    let read : instructions_in m.code.now.code.now ≡ xs = ap or_none (only_result m.code.now.code.now (Ok xs) (c.requires.listed (code_view m.code.now) coded)) in
    ap (λ k. method_of (record { file = class_view k; dynamic = c.args.formed.now.dynamic }) c.args.number (acts xs)) (sym at.class_is)
    ∙ ap (λ d. method_of (record { file = class_view m.class.now; dynamic = d }) c.args.number (acts xs)) (sym at.dynamic_is)
    ∙ ap (λ n. method_of (class_of m) n (acts xs)) (sym at.number_is)
    ∙ method_says {A = Act} (class_of m) m.number (code_view m.code.now) m.is_static m.is_init (option_map type_of m.result_type) m.is_method (acts xs)
    ∙ ap (λ ys. Some (code_method_view m (acts ys))) (sym read)

pub returns-clause-list : goal.returns-clause-list
returns-clause-list g c = search rules

pub returns-clause-here : goal.returns-clause-here
returns-clause-here g c = search rules

pub invariant_of-result : goal.invariant_of-result
invariant_of-result g c =
    let m = c.unwrap-method.result in
    let xs = views c.args.list.now in
    let coded : code_at (class_view c.args.formed.now.class.now) c.args.number ≡ Some (code_view m.code.now) =
    sym c.method.ensures.code ∙ ap (option_map (λ k. code_view k.code.now)) c.unwrap-method.ensures in
    record {
      read = only_result m.code.now.code.now (Ok xs) (c.requires.listed (code_view m.code.now) coded);
      few =
          little_code (class_view c.args.formed.now.class.now) (subst (λ k. WellFormed (class_view k)) c.class.ensures.same c.class.ensures.formed) c.args.number (code_view m.code.now) coded;
    }
