use Rattle.frames.proofs.FaultyEntries.{faulty_is_fault}
use Rattle.frames.proofs.laws.faulty_is_fault.Goals as goal

pub returns : goal.returns
returns c = faulty_is_fault
