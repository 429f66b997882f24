use Rattle.std.proofs.Common.{◌≡◌, ◌-◌, ◌∙◌, ℕ, refl, ap, arith}
use Rattle.std.specs.Prelude.{slice_index_or, slice_set}
use Rattle.classfile.specs.declared.text_numbers.TextNumbers.{TextNumbers}
use Rattle.std.specs.Vec.{with_item}
use Rattle.classfile.proofs.TextNumberLaws.{place_of, kept_number, keep_number}
use Rattle.classfile.proofs.text_numbers.TextNumbers.of.Goals as goal

pub overflow_sub-place : goal.overflow_sub-place
overflow_sub-place c =
    let place = place_of c.args.pool.now c.args.self.now c.args.index c.args.text.bytes.now c.requires.kept c.requires.text in
    omega (arith, place.some, c.from-place.ensures)

pub index-known-requires : goal.index-known-requires
index-known-requires c =
    let place = place_of c.args.pool.now c.args.self.now c.args.index c.args.text.bytes.now c.requires.kept c.requires.text in
    omega (arith, place.known, c.from-place.ensures)

pub returns-then-known-ne0 : goal.returns-then-known-ne0
returns-then-known-ne0 c =
    let items = c.args.self.now.known.items in
    let n = c.index-known.result.now in
    let here : n ≡ slice_index_or items (c.args.index - 1) n =
    c.index-known.ensures ∙ ap (λ (k : ℕ). slice_index_or items (k - 1) n) c.from-place.ensures in
    kept_number c.args.pool.now c.args.self.now c.args.index n c.args.text.bytes.now c.requires.kept c.requires.text here c.if-known-ne0.true

pub index_mut-requires : goal.index_mut-requires
index_mut-requires c =
    let place = place_of c.args.pool.now c.find.new.self c.args.index c.args.text.bytes.now c.in_ok-number.ensures.good c.requires.text in
    omega (arith, place.known, c.from-place.ensures)

pub returns : goal.returns
returns c =
    let found = c.find.new.self in
    let n = c.in_ok-number.number in
    let new : TextNumbers = record { known = with_item found.known (c.from-place.result - 1) n; numbers = found.numbers } in
    keep_number c.args.pool.now c.args.self.now found new c.args.index n c.args.text.bytes.now c.in_ok-number.ensures c.requires.text refl
    (ap (λ (k : ℕ). slice_set found.known.items (k - 1) n) c.from-place.ensures)
