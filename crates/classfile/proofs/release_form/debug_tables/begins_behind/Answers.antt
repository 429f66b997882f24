use Rattle.std.proofs.Common.{◌≡◌, ◌∙◌, ◌-◌, ◌+◌, ℕ, suc, Bool, false, ap, arith}
use Rattle.std.specs.Prelude.{nat_le}
use Rattle.std.specs.List.{list_any}
use Rattle.std.proofs.lemmas.Bool.Decides.{nat_tests}
use Rattle.classfile.specs.release.DebugTables.{starts_in}
use Rattle.classfile.proofs.DebugRows.{one_line}
use Rattle.classfile.proofs.release_form.debug_tables.begins_behind.Goals as goal

pub loop-preserved : goal.loop-preserved
loop-preserved c =
    let test : ℕ → Bool = nat_le c.args.end in
    let left = c.args.count - (c.loop.counter + 1) in
    let more : c.args.count - c.loop.counter ≡ suc left = omega (arith, c.loop-test.true) in
    let not : test c.in-Some.start ≡ false = grind (arith, nat_tests, c.if-from-end.false, c.from.ensures) in
    c.loop.invariant ∙ ap (λ (k : ℕ). list_any test (starts_in k c.loop.rest.now)) more
    ∙ one_line test left c.loop.rest.now c.in-Some.start c.in-Some.behind.now c.in-Some.ensures not
