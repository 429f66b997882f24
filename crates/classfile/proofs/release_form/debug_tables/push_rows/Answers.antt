use Rattle.std.proofs.Common.{◌≡◌, ◌∙◌, ◌-◌, ◌+◌, ◌++◌, ◌∷◌, [], List, ℕ, suc, ap, sym, arith}
use Rattle.std.proofs.lemmas.List.{append-nil, append_assoc}
use Rattle.classfile.specs.declared.release_form.debug_tables.Variable.{Variable}
use Rattle.classfile.specs.release.DebugTables.{variables_in}
use Rattle.classfile.proofs.DebugRows.{one_variable, no_variable}
use Rattle.classfile.proofs.release_form.debug_tables.push_rows.Goals as goal

pub returns-in_default : goal.returns-in_default
returns-in_default c =
    let left = c.args.count - (c.loop.counter + 1) in
    let more : c.args.count - c.loop.counter ≡ suc left = omega (arith, c.loop-test.true) in
    sym (append-nil c.loop.variables.items)
    ∙ ap (λ (vs : List Variable). c.loop.variables.items ++ vs) (sym (ap (λ (k : ℕ). variables_in k c.loop.rest.now) more ∙ no_variable left c.loop.rest.now c.in_default.ensures))
    ∙ c.loop.invariant

pub loop-preserved : goal.loop-preserved
loop-preserved c =
    let left = c.args.count - (c.loop.counter + 1) in
    let more : c.args.count - c.loop.counter ≡ suc left = omega (arith, c.loop-test.true) in
    let later = variables_in left c.in-Some.behind.now in
    ap (λ (vs : List Variable). vs ++ later) c.in_ok-push.ensures.items ∙ append_assoc c.loop.variables.items (c.in-Some.variable ∷ []) later
    ∙ ap (λ (vs : List Variable). c.loop.variables.items ++ vs) (sym (ap (λ (k : ℕ). variables_in k c.loop.rest.now) more
    ∙ one_variable left c.loop.rest.now c.in-Some.variable c.in-Some.behind.now c.in-Some.ensures))
    ∙ c.loop.invariant
