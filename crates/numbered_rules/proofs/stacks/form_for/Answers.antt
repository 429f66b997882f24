use Rattle.std.proofs.Common.{sym, ◌∙◌}
use Rattle.rules.proofs.Moving.{form_next, form_here, form_end}
use Rattle.numbered_rules.specs.RunningFrame.{held}
use Rattle.numbered_rules.proofs.stacks.form_for.Goals as goal

pub loop-form-preserved : goal.loop-form-preserved
loop-form-preserved g c = c.loop-form.invariant ∙ form_next c.args.forms.now c.loop-form.form-index _ (held c.args.frames.now).stack c.loop-form-test.true (sym c.fits_places.ensures ∙ c.if-fits_places.false)

pub returns-then-fits_places : goal.returns-then-fits_places
returns-then-fits_places g c = sym (c.loop-form.invariant ∙ form_here c.args.forms.now c.loop-form.form-index _ (held c.args.frames.now).stack c.loop-form-test.true (sym c.fits_places.ensures ∙ c.if-fits_places.true))

pub returns : goal.returns
returns g c = sym (c.loop-form.invariant ∙ form_end c.args.forms.now c.loop-form.form-index (held c.args.frames.now).stack c.loop-form-test.false)
