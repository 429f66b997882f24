-- The bytes that were read of a file, block by block, and the part of the file that they hold.
use Rattle.std.proofs.Common.{refl, ◌≡◌, ◌∙◌, sym, ap, arith, List, ℕ, ◌+◌, ◌≤◌, ◌<◌, [], ◌∷◌, ◌++◌, length, take, drop, Option, Some, None}
use Rattle.std.proofs.lemmas.List.{take-append-drop, append_assoc, length-drop}
use Rattle.std.specs.Io.KnownBytes.{Consumes}
use Rattle.layout.specs.declared.fault.ReadFault.TheVariants.{OutOfMemory}
use Rattle.classfile.specs.Outline.{IsOutline}
use Rattle.file_reads.specs.FileReads.{ReadsOn}
use Rattle.file_reads.specs.private.BlockReads.{IsReadOf, IsCutOf}
use Rattle.file_reads.proofs.Fronts.{one_behind}

-- nothing is kept where there is no memory for a buffer
pub none_is_front : (before : Option (List ℕ)) → IsCutOf before [] OutOfMemory
none_is_front None = tt
none_is_front (Some file) = ((file, refl), tt)

-- before the first block nothing is taken
pub none_is_taken : (known : Option (List ℕ)) → Consumes known known []
none_is_taken None = tt
none_is_taken (Some file) = refl

one_in_front : (xs ys : List ℕ) → 0 < length xs → take 1 (xs ++ ys) ≡ take 1 xs
one_in_front [] ys some = absurd (omega (arith, some))
one_in_front (x ∷ xs) ys some = refl

-- bytes beyond a class that is an outline, and the one after it, are cut off
pub longer_is_cut : (before after : Option (List ℕ)) (given : List ℕ) (count : ℕ) → Consumes before after given → IsOutline (take count given) → count < length given
    → IsReadOf before (take (count + 1) given)
longer_is_cut None after given count consumed outline longer = tt
longer_is_cut (Some file) None given count consumed outline longer = absurd consumed
longer_is_cut (Some file) (Some rest) given count consumed outline longer =
    let some : 0 < length (drop count given) = omega (arith, length-drop count given, longer) in
    record {
      class = take count given;
      behind = drop count given ++ rest;
      parts = consumed ∙ ap (λ (l : List ℕ). l ++ rest) (sym (take-append-drop count given)) ∙ append_assoc (take count given) (drop count given) rest;
      outline = outline;
      one_more = one_behind count given (omega (arith, longer))
          ∙ ap (λ (l : List ℕ). take count given ++ l) (sym (one_in_front (drop count given) rest some));
    }
