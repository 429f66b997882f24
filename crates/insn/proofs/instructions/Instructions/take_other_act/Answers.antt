use Rattle.std.proofs.Common.{subst}
use Rattle.layout.specs.Place.{Place}
use Rattle.insn.specs.Code.{FaultyInstruction}
use Rattle.insn.proofs.CodeLaws.{not_both}
use Rattle.insn.proofs.instructions.Instructions.take_other_act.Goals as goal

pub unreachable-requires : goal.unreachable-requires
unreachable-requires c =
    let p = c.args.self.now in
    let (i, first, others, parts, spells) = c.requires in
    let e = c.in-Err.field-0 in
    not_both p.at first others p.rest i e spells parts (subst (λ (q : Place). FaultyInstruction q.at q.rest e) c.self.view_is c.in-Err.ensures.0)
