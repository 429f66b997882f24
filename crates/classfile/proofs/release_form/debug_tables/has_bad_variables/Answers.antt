use Rattle.std.proofs.Common.{◌≡◌, ◌∙◌, ◌||◌, List, ap₂}
use Rattle.std.specs.List.{list_any}
use Rattle.classfile.specs.declared.release_form.debug_tables.Variable.{Variable}
use Rattle.classfile.specs.declared.release_form.debug_tables.VariableTable.TheVariants as tables
use Rattle.classfile.specs.Views.{code_view}
use Rattle.classfile.specs.release.DebugTables.{local_variable_table, variables_named, types_named, is_bad_row, are_repeated, has_bad_variables}
use Rattle.classfile.proofs.DebugRows.{all_bad}
use Rattle.classfile.proofs.release_form.debug_tables.has_bad_variables.Goals as goal

pub returns-clause-told : goal.returns-clause-told
unfolding has_bad_variables
returns-clause-told c =
    let pool = c.args.pool.now in
    let code = code_view c.args.code.now in
    all_bad pool code (variables_named pool local_variable_table code) (types_named c.args.major pool code) c.in_ok-variables.variables.items c.in_ok-types.types.items
    c.in_ok-are_repeated.field-0 c.have_bad_row-bad.result c.in_ok-variables.ensures c.in_ok-types.ensures
    (c.in_ok-are_repeated.ensures ∙ ap₂ are_repeated c.deref.ensures.value c.deref-2.ensures.value) c.if-branch.false
    (c.have_bad_row-bad.ensures.told
    ∙ ap₂ (λ (vs ts : List Variable). list_any (is_bad_row tables.Variables pool code) vs || list_any (is_bad_row tables.Types pool code) ts) c.deref-3.ensures.value c.deref-4.ensures.value)
