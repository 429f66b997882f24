use Rattle.std.proofs.Common.{◌≡◌, ◌<◌, ◌+◌, ℕ, None}
use Rattle.classfile.specs.declared.form_fault.Place.TheVariants as places
use Rattle.classfile.specs.private.TextForms.{AreForms}
use Rattle.classfile.specs.Views.{class_view}
use Rattle.classfile.specs.WellFormed.{fault_at}
use Rattle.classfile.proofs.form.pool_form.Given as goal

abbrev pub invariant-loop-place : goal.invariant-loop-place
invariant-loop-place l = record {
  none : (k : ℕ) → k < l.place → fault_at (class_view l.class) (places.Pool (k + 1)) ≡ None;
  kept : AreForms l.class.constant_pool l.forms;
  same : l.bootstraps ≡ l.class;
}
