use Rattle.machine.specs.declared.objects.RunType.TheVariants.{Array}
use Rattle.machine.proofs.Addresses.{run_time}
use Rattle.machine.proofs.heaps.array.Goals as goal

pub returns-clause-of : goal.returns-clause-of
returns-clause-of c = run_time (Array c.args.dims c.args.base) c.ranges.dims.fits
