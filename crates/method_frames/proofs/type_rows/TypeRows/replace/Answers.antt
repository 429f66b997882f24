use Rattle.std.proofs.Common.{◌∙◌, OnOk, subst, sym}
use Rattle.type_numbers.specs.Numbers.{IsGiven}
use Rattle.method_frames.proofs.Holding.{replaced_held}
use Rattle.method_frames.proofs.ObjectTypes.{BecomesAsTypes, ok_types}
use Rattle.method_frames.proofs.type_rows.TypeRows.replace.Goals as goal

pub invariant_of-self : goal.invariant_of-self
invariant_of-self g c =
    let x = c.self.inside in
    let given = subst (λ y. IsGiven y.types c.args.by) (sym (c.self.view_is ∙ c.make_room.ensures)) c.requires.given in
    record { held = replaced_held x.types.now c.args.object c.args.by x.rows c.replace_object.new.rows x.holders c.replace_object.ensures.only c.requires.by given c.self.invariant.held; lacking = tt }

pub returns-clause-types : goal.returns-clause-types
returns-clause-types g c =
    let x = c.self.inside in
    subst (λ y. OnOk c.replace_object.result (BecomesAsTypes y.types c.args.object c.args.by y.running c.replace_object.new.rows.running)) (c.self.view_is ∙ c.make_room.ensures)
    (ok_types x.types.now c.args.object c.args.by x.rows.running c.replace_object.new.rows.running c.replace_object.result c.self.invariant.held.known.running c.replace_object.ensures.all)
