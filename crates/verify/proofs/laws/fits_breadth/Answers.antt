use Rattle.verify.proofs.safety.FitsBreadth.{fits_breadth}
use Rattle.verify.proofs.laws.fits_breadth.Goals as goal

pub returns : goal.returns
returns c = fits_breadth
