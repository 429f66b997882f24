-- The files so far, and those that are left, are those of all ends.
use Rattle.std.proofs.Common.{◌≡◌, map, drop}
use Rattle.libclassck.proofs.Parting.{files_in, behind}
use Rattle.libclassck.proofs.files.files_of.Given as goal

abbrev pub invariant-loop-end : goal.invariant-loop-end
invariant-loop-end l =
    behind (map (λ file. file.now) l.files.items) (files_in l.start l.rest (drop l.end-index l.ends)) ≡ files_in 0 l.fn.bytes l.ends
