use Rattle.std.proofs.Common.{◌≡◌, ◌∙◌, [], Some, None, length, map, option_map, sym, ap}
use Rattle.std.specs.Option.{unwrap_or}
use Rattle.std.proofs.lemmas.List.{length-map}
use Rattle.clap.specs.Words.{all_of, rows_of, found_of}
use Rattle.command_line.proofs.Rows.{raw_rows}
use Rattle.command_line.proofs.parsing.count_words.Goals as goal

pub returns-in-Some : goal.returns-in-Some
returns-in-Some c =
    let found = found_of c.args.found.now in
    let words = c.in-Some.words.now in
    let some : all_of c.args.name.now (rows_of found) ≡ Some (map (λ v. v.now) words) =
    sym (raw_rows found c.args.name.now) ∙ sym c.get_strs.ensures ∙ ap (option_map (λ s. map (λ v. v.now) s.now)) c.in-Some.is in
    sym (length-map words (λ v. v.now)) ∙ ap (λ o. length (unwrap_or o [])) (sym some)

pub returns-in-None : goal.returns-in-None
returns-in-None c =
    let found = found_of c.args.found.now in
    let none : all_of c.args.name.now (rows_of found) ≡ None =
    sym (raw_rows found c.args.name.now) ∙ sym c.get_strs.ensures ∙ ap (option_map (λ s. map (λ v. v.now) s.now)) c.in-None.is in
    ap (λ o. length (unwrap_or o [])) (sym none)
