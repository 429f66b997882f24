use Rattle.std.proofs.Common.{◌≡◌, ◌<◌, ℕ, None, take}
use Rattle.classfile.specs.declared.form_fault.Place.TheVariants as places
use Rattle.classfile.specs.private.DuplicateFinder.{WereMet}
use Rattle.classfile.specs.private.TextForms.{AreForms}
use Rattle.classfile.specs.Views.{class_view}
use Rattle.classfile.specs.WellFormed.{fault_at}
use Rattle.classfile.proofs.form.fields_form.Given as goal

abbrev pub invariant-loop-n : goal.invariant-loop-n
invariant-loop-n l = record {
  met : WereMet (class_view l.class).constant_pool (take l.n (class_view l.class).fields) l.seen;
  none : (k : ℕ) → k < l.n → fault_at (class_view l.class) (places.Field k) ≡ None;
  kept : AreForms l.class.constant_pool l.forms;
}
