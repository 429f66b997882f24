use Rattle.std.proofs.Common.{◌≡◌, ◌∙◌, refl, sym, ap, cond, ℕ, List, None, Some}
use Rattle.std.proofs.lemmas.Map.Text.{btree_map_updates_str}
use Rattle.std.specs.Str.{bytes_eq}
use Rattle.classfile.specs.declared.text_numbers.TextNumbers.{TextNumbers}
use Rattle.classfile.specs.TextNumbers.{number_of}
use Rattle.classfile.proofs.TextNumberLaws.{new_number, old_number}
use Rattle.classfile.proofs.text_numbers.TextNumbers.find.Goals as goal

pub returns-in_default : goal.returns-in_default
returns-in_default c =
    let old = c.args.self.now in
    let text = c.args.text.bytes.now in
    let new : TextNumbers = record { known = old.known; numbers = c.insert.new.self } in
    let none : number_of old text ≡ None = ap (number_of old) (sym c.bytes.ensures) ∙ sym c.in_ok-number.ensures.old ∙ c.in_default.is in
    new_number c.args._pool.now old new c.args.index text c.requires.kept c.requires.text none refl
    (λ x. btree_map_updates_str c.bytes.result.now old.numbers c.insert.new.self _ c.in_ok-number.ensures.updates x
    ∙ ap (λ (bs : List ℕ). cond (bytes_eq bs x) (Some c.args.index) (number_of old x)) c.bytes.ensures)

pub returns : goal.returns
returns c =
    let old = c.args.self.now in
    let text = c.args.text.bytes.now in
    let between : TextNumbers = record { known = old.known; numbers = c.insert.new.self } in
    let new : TextNumbers = record { known = old.known; numbers = c.insert-2.new.self } in
    let here : number_of old text ≡ Some c.in-Some.number = ap (number_of old) (sym c.bytes.ensures) ∙ sym c.in_ok-number.ensures.old ∙ c.in-Some.is in
    old_number c.args._pool.now old between new c.args.index c.in-Some.number text c.requires.kept here refl
    (λ x. btree_map_updates_str c.bytes.result.now old.numbers c.insert.new.self _ c.in_ok-number.ensures.updates x
    ∙ ap (λ (bs : List ℕ). cond (bytes_eq bs x) (Some c.args.index) (number_of old x)) c.bytes.ensures)
    (λ x. btree_map_updates_str c.bytes-2.result.now between.numbers c.insert-2.new.self _ c.in_ok-insert.ensures.updates x
    ∙ ap (λ (bs : List ℕ). cond (bytes_eq bs x) (Some c.in-Some.number) (number_of between x)) c.bytes-2.ensures)
