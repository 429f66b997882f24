-- A name stands twice exactly where one of the others was met or stands twice among them.
use Rattle.std.proofs.Common.{◌≡◌, ◌||◌, drop, map}
use Rattle.std.specs.List.{list_any}
use Rattle.names.specs.MetNames.{is_met}
use Rattle.classfile.specs.Methods.{names_at}
use Rattle.classfile.specs.release.Twice.{has_twice}
use Rattle.std.specs.Str.{bytes_eq}
use Rattle.classfile.proofs.release_form.interfaces.interfaces_stand_twice.Given as goal

abbrev pub invariant-loop-n : goal.invariant-loop-n
invariant-loop-n l =
    let later = names_at l.pool (map (λ n. n) (drop l.n l.interfaces)) in
    has_twice bytes_eq (names_at l.pool (map (λ n. n) l.interfaces)) ≡ (list_any (is_met l.met) later || has_twice bytes_eq later)
