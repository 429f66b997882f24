use Rattle.std.proofs.Common.{◌≡◌, map, reverse, take, subst}
use Rattle.std.specs.Prelude.{IfOk}
use Rattle.frames.specs.VerificationType.{type_of}
use Rattle.type_numbers.specs.Decoding.{types_by}
use Rattle.method_frames.specs.NumberedRows.{declared_in}
use Rattle.method_frames.specs.NumberedStacks.{declared_stack}
use Rattle.method_frames.proofs.Heights.{is_height, its_stack}
use Rattle.method_frames.proofs.Typing.{stack_typed}
use Rattle.method_frames.proofs.stack_rows.StackRows.declared_types.Goals as goal

pub declared_types-requires-clause-row : goal.declared_types-requires-clause-row
declared_types-requires-clause-row g c =
    let x = c.self.inside in
    (is_height x.items x.rows x.written x.high x.declared.items c.args.self.now c.self.view_is c.self.invariant c.args.stack c.requires c.index-height.result.now c.index-height.ensures).row

pub declared_types-requires-clause-count : goal.declared_types-requires-clause-count
declared_types-requires-clause-count g c =
    let x = c.self.inside in
    (is_height x.items x.rows x.written x.high x.declared.items c.args.self.now c.self.view_is c.self.invariant c.args.stack c.requires c.index-height.result.now c.index-height.ensures).depth

pub returns : goal.returns
returns g c =
    let x = c.self.inside in
    let now = c.args.self.now in
    let h = c.index-height.result.now in
    subst (λ y. IfOk c.declared_types.result (λ v. reverse (map type_of v.items) ≡ types_by y.types (declared_stack now c.args.stack))) c.self.view_is
    (stack_typed (λ v. v.items) x.rows.types (take h.depth (declared_in x.rows h.row)) (declared_stack now c.args.stack) c.declared_types.result
    (its_stack x.items x.rows x.written x.high x.declared.items now c.self.view_is c.self.invariant c.args.stack c.requires h c.index-height.ensures) c.declared_types.ensures)
