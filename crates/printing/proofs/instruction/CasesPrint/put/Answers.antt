use Rattle.std.proofs.Common.{rules, ap, subst, SFits, w32, to_z, of_z}
use Rattle.std.proofs.lemmas.Int.{to_z-of_z}
use Rattle.std.specs.Io.KnownBytes.{Appends}
use Rattle.printing.specs.Writing.{AppendsFront}
use Rattle.std.specs.List.{flat_map}
use Rattle.insn.specs.Instructions.{pairs}
use Rattle.insn.specs.Views.{pairs_left}
use Rattle.printing.specs.InstructionLines.{pair_text}
use Rattle.printing.proofs.Writings.{with_left, one_more, stops_inside}
use Rattle.printing.proofs.instruction.CasesPrint.put.Goals as goal

pub loop-key-preserved : goal.loop-key-preserved
loop-key-preserved g c =
    let held = g.W.Write.contents in
    let text = pair_text c.args.self.now.at in
    let key : SFits w32 c.in-Some.key = search rules in
    let offset : SFits w32 c.in-Some.offset = search rules in
    one_more (held c.args.out.now) (held c.loop-key.out) (held c.put_case.new.out) (flat_map (pair_text c.args.self.now.at) (pairs c.args.self.now.pairs.now)) (text (c.in-Some.key, c.in-Some.offset)) (flat_map text (pairs_left c.next.new.self))
    (with_left _ _ _ _ _ (ap (flat_map text) c.in-Some.ensures.steps) c.loop-key.invariant)
    (subst (λ z. Appends (held c.loop-key.out) (held c.put_case.new.out) (text (z, c.in-Some.offset))) (to_z-of_z w32 c.in-Some.key key)
    (subst (λ z. Appends (held c.loop-key.out) (held c.put_case.new.out) (text (to_z w32 (of_z w32 c.in-Some.key), z))) (to_z-of_z w32 c.in-Some.offset offset) c.in-Ok.ensures))

pub returns-in-Err : goal.returns-in-Err
returns-in-Err g c =
    let held = g.W.Write.contents in
    let text = pair_text c.args.self.now.at in
    let key : SFits w32 c.in-Some.key = search rules in
    let offset : SFits w32 c.in-Some.offset = search rules in
    stops_inside (held c.args.out.now) (held c.loop-key.out) (held c.put_case.new.out) (flat_map (pair_text c.args.self.now.at) (pairs c.args.self.now.pairs.now)) (text (c.in-Some.key, c.in-Some.offset)) (flat_map text (pairs_left c.next.new.self))
    (with_left _ _ _ _ _ (ap (flat_map text) c.in-Some.ensures.steps) c.loop-key.invariant)
    (subst (λ z. AppendsFront (held c.loop-key.out) (held c.put_case.new.out) (text (z, c.in-Some.offset))) (to_z-of_z w32 c.in-Some.key key)
    (subst (λ z. AppendsFront (held c.loop-key.out) (held c.put_case.new.out) (text (to_z w32 (of_z w32 c.in-Some.key), z))) (to_z-of_z w32 c.in-Some.offset offset) c.in-Err.ensures))
