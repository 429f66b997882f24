use Rattle.std.proofs.Common.{◌≡◌, drop}
use Rattle.rules.specs.After.{fits_places}
use Rattle.numbered_rules.specs.RunningFrame.{held}
use Rattle.numbered_rules.proofs.stacks.fits_places.Given as goal

abbrev pub invariant-loop-above : goal.invariant-loop-above
invariant-loop-above g l = fits_places l.places (held l.frames).stack ≡ fits_places (drop l.above l.places) (drop l.above (held l.frames).stack)
