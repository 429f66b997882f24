use Rattle.std.proofs.Common.{◌≡◌, ◌<◌, ℕ, length}
use Rattle.std.specs.Prelude.{slice_index}
use Rattle.verify.specs.private.pass.Representatives.{IsLead}
use Rattle.verify.proofs.pass.exceptions.leads_of.Given as goal

abbrev pub invariant-loop-frame : goal.invariant-loop-frame
invariant-loop-frame g l = record {
  many : length l.leads.items ≡ l.frame;
  each : (frame : ℕ) → frame < length l.leads.items → IsLead l.frames.declared (slice_index l.leads.items frame) frame;
}
