use Rattle.std.proofs.Common.{◌≡◌, ◌∙◌, map, option_map, List, Option, Some, None, true, refl, sym, ap, subst, []}
use Rattle.clap.specs.Words.{Text, app_of, rows_of, found_of, is_simple, is_simple_and_free, fault_of, subcommand_of, subcommand_rows_of}
use Rattle.clap.specs.Simple.{subcommand_rows}
use Rattle.clap.specs.declared.parser.matches.ArgMatches.TheViews.{out-ArgMatches, out-SubCommand}
use Rattle.std.specs.Prelude.{Box}
use Rattle.std.specs.Box.{box_value}
use Rattle.clap.specs.declared.parser.matches.SubCommand.{SubCommand}
use Rattle.clap.proofs.OnLiterals.{clap_on_literals}
use Rattle.command_line.specs.Line.{line, IsFault, asked, task_files}
use Rattle.command_line.proofs.parsing.request.Goals as goal

free : is_simple_and_free line ≡ true
unfolding clap_on_literals
free = refl

simple : is_simple line ≡ true
unfolding clap_on_literals
simple = refl

-- the command's name and its words, from what is said of each
both : {A B : Type 0} (o : Option (A × B)) (a : A) (b : B) → Some a ≡ option_map (λ p. p.0) o → Some b ≡ option_map (λ p. p.1) o → Some (a, b) ≡ o
both (Some p) a b e f = let x : a ≡ p.0 = cc in let y : b ≡ p.1 = cc in ap (λ z. Some (z, b)) x ∙ ap (λ z. Some (p.0, z)) y
both None a b e f = absurd cc

name_in : {Z : Type 0} (o : Option (Box SubCommand Z)) → option_map (λ p. p.0) (subcommand_rows o) ≡ option_map (λ b. (out-SubCommand (box_value b)).name.now) o
name_in (Some b) = refl
name_in None = refl

pub returns : goal.returns
returns c =
    let m = c.in-Ok.matches in
    let words : List Text = map (λ w. w.now) c.args.words.now in
    let is_line : app_of c.in_ok-parser.parser ≡ line = c.in_ok-parser.ensures in
    let none : fault_of (app_of c.in_ok-parser.parser) words ≡ [] = c.in-Ok.ensures.kinds (ap is_simple_and_free is_line ∙ free) in
    let rows : subcommand_rows_of m ≡ subcommand_of (app_of c.in_ok-parser.parser) words = (c.in-Ok.ensures.matches (ap is_simple is_line ∙ simple)).1 in
    let found : Some (rows_of (found_of c.in-Some.found.now)) ≡ option_map (λ p. p.1) (subcommand_rows_of m) = c.in-Some.ensures.rows in
    let name : Some c.in-Some.name.now ≡ option_map (λ p. p.0) (subcommand_rows_of m) = c.in-Some.ensures.name ∙ sym (name_in (out-ArgMatches m).subcommand) in (
      ap (λ a. fault_of a words) (sym is_line) ∙ none,
      ap (λ a. asked (subcommand_of a words)) (sym is_line) ∙ ap asked (sym rows) ∙ ap asked (sym (both (subcommand_rows_of m) _ _ name found))
          ∙ ap (λ task. Some (task, task_files task (rows_of (found_of c.in-Some.found.now)))) (sym c.task_named-task.ensures)
          ∙ ap (λ files. Some (c.task_named-task.result, files)) (sym c.in_ok-task_files-in-Some.ensures),
    )

pub returns-in-Err : goal.returns-in-Err
returns-in-Err c =
    let words : List Text = map (λ w. w.now) c.args.words.now in
    let is_line : app_of c.in_ok-parser.parser ≡ line = c.in_ok-parser.ensures in
    subst (λ a. IsFault (fault_of a words) c.line_fault.result) is_line (c.line_fault.ensures.kind (fault_of (app_of c.in_ok-parser.parser) words) (c.in-Err.ensures.kinds (ap is_simple_and_free is_line ∙ free)))
