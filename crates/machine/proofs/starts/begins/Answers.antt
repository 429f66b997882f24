use Rattle.std.proofs.Common.{◌≡◌, true, pos, ◌-◌, sym, length, arith, ℕ, subst}
use Rattle.std.specs.Prelude.{int_lt}
use Rattle.insn.specs.declared.instruction.Insn.{Insn}
use Rattle.machine.proofs.Targets.{behind_all}
use Rattle.machine.proofs.starts.begins.Goals as goal

pub returns-then-from-target : goal.returns-then-from-target
returns-then-from-target c =
    let list = c.args.list.now in
    let x = c.in-Some.field-0.now in
    let lt : int_lt (pos x.0) c.args.target ≡ true = grind (arith, c.if-from-target.true, c.from.ensures, c.in-Some.last-is) in
    sym (behind_all list (length list - 1) x c.args.target c.requires (omega (arith, c.in-Some.ensures.item.3.0))
    (subst (λ (z : ℕ × Insn). int_lt (pos z.0) c.args.target ≡ true) c.in-Some.ensures.item.1 lt))
