use Rattle.std.proofs.Common.{◌≡◌, ◌+◌, sym, subst, ◌∙◌, arith}
use Rattle.names.proofs.UnitLaws.{ReadTo}
use Rattle.names.proofs.SingleUnits.{read_run, read_single, read_is_good}
use Rattle.names.proofs.text.first_bad.Goals as goal

pub loop-at-preserved-then-run-lt8 : goal.loop-at-preserved-then-run-lt8
loop-at-preserved-then-run-lt8 c =
    let is = sym c.is_single.ensures ∙ c.if-not-is_single.false in
    record { within = omega (arith, c.loop-at-test.true); read = read_single c.args.bytes.now c.loop-at.at c.loop-at.invariant.read c.loop-at-test.true is }

pub loop-at-preserved : goal.loop-at-preserved
loop-at-preserved c =
    let bytes = c.args.bytes.now in
    let at = c.loop-at.at in
    let n = c.single_in_front.result in
    let is = sym c.is_single.ensures ∙ c.if-not-is_single.false in
    let more = c.single_in_front.ensures in
    let there : at + 1 + n ≡ at + (1 + n) = omega arith in
    record {
      within = omega (arith, more.within);
      read = subst (ReadTo bytes) there (read_run n bytes (at + 1) (read_single bytes at c.loop-at.invariant.read c.loop-at-test.true is) more.within more.single);
    }

pub returns : goal.returns
returns c = sym (read_is_good c.args.bytes.now c.loop-at.at c.loop-at.invariant.read c.loop-at-test.false)
