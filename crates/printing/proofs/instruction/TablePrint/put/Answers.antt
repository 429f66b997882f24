use Rattle.std.proofs.Common.{rules, ap, subst, SFits, w32}
use Rattle.std.proofs.lemmas.Int.{to_z-of_z}
use Rattle.std.specs.Io.KnownBytes.{Appends}
use Rattle.printing.specs.Writing.{AppendsFront}
use Rattle.std.specs.List.{flat_map}
use Rattle.insn.specs.Meanings.{offsets}
use Rattle.insn.specs.Views.{offsets_left}
use Rattle.printing.specs.InstructionLines.{target_text}
use Rattle.printing.proofs.Writings.{with_left, one_more, stops_inside}
use Rattle.printing.proofs.instruction.TablePrint.put.Goals as goal

pub loop-offset-preserved : goal.loop-offset-preserved
loop-offset-preserved g c =
    let held = g.W.Write.contents in
    let text = target_text c.args.self.now.at in
    let fits : SFits w32 c.in-Some.offset = search rules in
    one_more (held c.args.out.now) (held c.loop-offset.out) (held c.put_target.new.out) (flat_map (target_text c.args.self.now.at) (offsets c.args.self.now.offsets.now)) (text c.in-Some.offset) (flat_map text (offsets_left c.next.new.self))
    (with_left _ _ _ _ _ (ap (flat_map text) c.in-Some.ensures.steps) c.loop-offset.invariant)
    (subst (λ z. Appends (held c.loop-offset.out) (held c.put_target.new.out) (text z)) (to_z-of_z w32 c.in-Some.offset fits) c.in-Ok.ensures)

pub returns-in-Err : goal.returns-in-Err
returns-in-Err g c =
    let held = g.W.Write.contents in
    let text = target_text c.args.self.now.at in
    let fits : SFits w32 c.in-Some.offset = search rules in
    stops_inside (held c.args.out.now) (held c.loop-offset.out) (held c.put_target.new.out) (flat_map (target_text c.args.self.now.at) (offsets c.args.self.now.offsets.now)) (text c.in-Some.offset) (flat_map text (offsets_left c.next.new.self))
    (with_left _ _ _ _ _ (ap (flat_map text) c.in-Some.ensures.steps) c.loop-offset.invariant)
    (subst (λ z. AppendsFront (held c.loop-offset.out) (held c.put_target.new.out) (text z)) (to_z-of_z w32 c.in-Some.offset fits) c.in-Err.ensures)
