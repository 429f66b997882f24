use Rattle.std.proofs.Common.{◌≡◌, ◌∙◌, [], None, map, option_map, sym, ap}
use Rattle.std.specs.Option.{unwrap_or}
use Rattle.clap.specs.Words.{all_of, rows_of, found_of}
use Rattle.command_line.specs.Line.{is_true}
use Rattle.command_line.proofs.Rows.{raw_rows}
use Rattle.command_line.proofs.parsing.is_set.Goals as goal

pub returns-in-None : goal.returns-in-None
returns-in-None c =
    let found = found_of c.args.found.now in
    let none : all_of c.args.name.now (rows_of found) ≡ None =
    sym (raw_rows found c.args.name.now) ∙ sym c.get_strs.ensures ∙ ap (option_map (λ s. map (λ v. v.now) s.now)) c.in-None.is in
    ap (λ o. is_true (unwrap_or o [])) (sym none)
