use Rattle.std.proofs.Common.{◌∙◌}
use Rattle.frames.specs.MapViews.{entry_of}
use Rattle.frames.proofs.FaultyEntries.{faulty_next}
use Rattle.frames.proofs.entry_faults.faulty_entry.Goals as goal

pub loop-place-preserved : goal.loop-place-preserved
loop-place-preserved c =
    c.loop-place.invariant ∙ faulty_next c.from-place-end.result c.loop-place.place c.loop-place.cursor c.take.new.cursor (entry_of c.in-Ok-take.field-0) c.loop-place-test.true c.in-Ok-take.ensures
