-- The words so far were copied.
use Rattle.std.proofs.Common.{◌≡◌, ◌++◌, map, string_bytes, take}
use Rattle.command_line.proofs.parsing.add_owned.Given as goal

abbrev pub invariant-loop-word : goal.invariant-loop-word
invariant-loop-word l = map string_bytes l.files.items ≡ map string_bytes l.initial.files.items ++ map (λ w. w.now) (take l.word-index l.words)
