use Rattle.std.proofs.Common.{◌∙◌, [], ℕ, List, get_or, sym}
use Rattle.std.specs.Borrow.{Bor}
use Rattle.command_line.proofs.Releases.{number_is, of_one}
use Rattle.command_line.proofs.parsing.release_of.Goals as goal

none : Bor (List ℕ)
none = record { ref_ptr = (0, 0); now = [] }

pub returns-in-len1 : goal.returns-in-len1
unfolding none
returns-in-len1 c =
    let words = c.args.words.now in
    c.ok.ensures.value ∙ number_is (get_or words 0 none).now c.parse.result c.parse.ensures.value.0
    ∙ sym (of_one words none c.in-len1.len_at_least c.in-len1.len_below)
