use Rattle.std.proofs.Common.{◌≡◌, sym, subst, arith, length}
use Rattle.std.proofs.lemmas.Grind.{common_steps}
use Rattle.pool.specs.Views.{view}
use Rattle.type_numbers.specs.MethodNumbers.{AreDescriptors, row_of}
use Rattle.type_numbers.specs.private.Readings.{shared_row}
use Rattle.type_numbers.proofs.LawsOfNumbers.{extends_on}
use Rattle.type_numbers.proofs.Tables.{AreFilled, entry_here, fill_one, filled_none, filled_table, whole_pool}
use Rattle.type_numbers.proofs.constant_table.ConstantTable.new.Goals as goal

pub loop-constant-init : goal.loop-constant-init
loop-constant-init g c = record {
  filled = filled_none c.new.new.numbers (shared_row c.in_ok-texts.texts) c.args.pool.now c.push.new.self.items (grind (arith, common_steps));
  texts = c.in_ok-texts.ensures.texts;
  kept = c.new.ensures.kept;
}

pub returns-in_err-push-2-clause-kept : goal.returns-in_err-push-2-clause-kept
returns-in_err-push-2-clause-kept g c = extends_on c.args.numbers.now c.loop-constant.numbers c.push-in-loop-constant.new.numbers c.loop-constant.invariant.kept c.push-in-loop-constant.ensures.kept

pub loop-constant-preserved : goal.loop-constant-preserved
loop-constant-preserved g c =
    let pool = c.args.pool.now in
    let item = c.constant-item.result in
    let at = entry_here c.constants-entries.result.now pool c.loop-constant.constant-index item c.constants-entries.ensures c.constant-item.is c.loop-constant-test.true in
    let step = c.push-in-loop-constant in
    let ok = c.in_ok-push-2.ensures in
    record {
      filled = fill_one pool c.loop-constant.constants.items c.loop-constant.constant-index c.loop-constant.numbers step.new.numbers step.ensures.kept (shared_row c.loop-constant.texts) (shared_row step.new.self)
          ok.grown c.loop-constant.invariant.filled step.new.row.items ok.pushed.named (view item) ok.pushed.is at ok.pushed.described;
      texts = ok.texts;
      kept = extends_on c.args.numbers.now c.loop-constant.numbers step.new.numbers c.loop-constant.invariant.kept step.ensures.kept;
    }

pub returns-clause-described : goal.returns-clause-described
returns-clause-described g c =
    let pool = c.args.pool.now in
    let end : c.loop-constant.constant-index ≡ length c.constants-entries.result.now = omega (arith, c.loop-constant.auto.constant-index-end, c.loop-constant-test.false) in
    let all = whole_pool c.constants-entries.result.now pool c.loop-constant.constant-index c.constants-entries.ensures end in
    let items = c.loop-constant.constants.items in
    filled_table c.loop-constant.numbers pool (record { constants = c.loop-constant.constants; descriptors = c.into_descriptors.result })
    (subst (λ d. AreFilled c.loop-constant.numbers (row_of d) pool items (length pool)) (sym c.into_descriptors.ensures)
    (subst (AreFilled c.loop-constant.numbers (shared_row c.loop-constant.texts) pool items) all c.loop-constant.invariant.filled))

pub returns-clause-descriptors : goal.returns-clause-descriptors
returns-clause-descriptors g c = subst (AreDescriptors c.loop-constant.numbers c.args.pool.now) (sym c.into_descriptors.ensures) c.loop-constant.invariant.texts.methods
