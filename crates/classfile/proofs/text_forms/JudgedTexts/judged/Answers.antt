use Rattle.std.proofs.Common.{◌-◌, ◌∙◌, ℕ, ap, arith}
use Rattle.std.specs.Prelude.{slice_index_or}
use Rattle.classfile.proofs.Judged.{place_of, kept_forms}
use Rattle.classfile.proofs.text_forms.JudgedTexts.judged.Goals as goal

pub overflow_sub-from : goal.overflow_sub-from
overflow_sub-from g c =
    let place = place_of g.F.TextForm.form_of c.args._pool.now c.args.self.now.forms.items c.args.index c.args._text.bytes.now c.requires.kept c.requires.text in
    omega (arith, place.some, c.from.ensures)

pub index-requires : goal.index-requires
index-requires g c =
    let place = place_of g.F.TextForm.form_of c.args._pool.now c.args.self.now.forms.items c.args.index c.args._text.bytes.now c.requires.kept c.requires.text in
    omega (arith, place.kept, c.from.ensures)

pub returns : goal.returns
returns g c =
    let found = c.index.result.now in
    let items = c.args.self.now.forms.items in
    kept_forms g.F.TextForm.form_of c.args._pool.now items c.args.index c.args._text.bytes.now found c.requires.kept c.requires.text
    (c.index.ensures ∙ ap (λ (k : ℕ). slice_index_or items (k - 1) found) c.from.ensures)
