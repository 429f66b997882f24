-- The lines that the program writes where it ends without an answer.
use Rattle.std.specs.Prelude.{ℕ, List, ◌++◌, codes, decimal}
use Rattle.command_line.specs.declared.fault.MainFault.{MainFault}
use Rattle.command_line.specs.declared.fault.MainFault.TheVariants.{NoRandom, CannotOpen, Memory, NotWritten}

abbrev pub complaint_text : MainFault → List ℕ
complaint_text NoRandom = codes "no random words\n"
complaint_text (CannotOpen i) = codes "file " ++ (decimal i ++ codes " cannot be opened\n")
complaint_text Memory = codes "refused 1\n"
complaint_text NotWritten = codes "refused 19\n"
