use Rattle.std.proofs.Common.{arith}
use Rattle.method_frames.proofs.Counting.{wides_most}
use Rattle.method_frames.proofs.entry_locals.EntryLocals.units.Goals as goal

pub overflow_add-result : goal.overflow_add-result
overflow_add-result c =
    let x = c.self.inside in
    omega (arith, wides_most x.numbers.items x.wides c.self.invariant.counted, c.len.ensures, x.numbers.ok.0)
