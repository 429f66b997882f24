use Rattle.std.proofs.Common.{◌-◌, ◌∙◌, ℕ, Some, ap, arith}
use Rattle.std.specs.Prelude.{slice_index_or, slice_set}
use Rattle.classfile.proofs.Judged.{place_of, kept_form, keep_form}
use Rattle.classfile.proofs.text_forms.JudgedTexts.form.Goals as goal

pub overflow_sub-place : goal.overflow_sub-place
overflow_sub-place g c =
    let place = place_of g.F.TextForm.form_of c.args.pool.now c.args.self.now.forms.items c.args.index c.args.text.bytes.now c.requires.kept c.requires.text in
    omega (arith, place.some, c.from-place.ensures)

pub index-requires : goal.index-requires
index-requires g c =
    let place = place_of g.F.TextForm.form_of c.args.pool.now c.args.self.now.forms.items c.args.index c.args.text.bytes.now c.requires.kept c.requires.text in
    omega (arith, place.kept, c.from-place.ensures)

pub index_mut-requires : goal.index_mut-requires
index_mut-requires g c =
    let place = place_of g.F.TextForm.form_of c.args.pool.now c.args.self.now.forms.items c.args.index c.args.text.bytes.now c.requires.kept c.requires.text in
    omega (arith, place.kept, c.from-place.ensures)

pub returns-in-Some-clause-form : goal.returns-in-Some-clause-form
returns-in-Some-clause-form g c =
    let found = c.index.result.now in
    let items = c.args.self.now.forms.items in
    kept_form g.F.TextForm.form_of c.args.pool.now items c.args.index c.args.text.bytes.now found c.in-Some.form c.requires.kept c.requires.text
    (c.index.ensures ∙ ap (λ (k : ℕ). slice_index_or items (k - 1) found) c.from-place.ensures) c.in-Some.is

pub returns-clause-kept : goal.returns-clause-kept
returns-clause-kept g c =
    let items = c.args.self.now.forms.items in
    let form = c.form_of-form.result in
    keep_form g.F.TextForm.form_of c.args.pool.now items (slice_set items (c.from-place.result - 1) (Some form)) c.args.index c.args.text.bytes.now c.requires.kept c.requires.text
    (ap (λ (k : ℕ). slice_set items (k - 1) (Some form)) c.from-place.ensures ∙ ap (λ f. slice_set items (c.args.index - 1) (Some f)) c.form_of-form.ensures)
