-- The bytes that were taken of a file stand in front of it.
use Rattle.std.proofs.Common.{◌≡◌, ◌∙◌, ℕ, ◌+◌, ◌-◌, ◌≤◌, List, [], ◌++◌, length, take, drop, Option, Some, None, sym, ap, subst, arith}
use Rattle.std.proofs.lemmas.List.{take-append-drop, take_all, drop_all, append-nil, length-append, length-take}
use Rattle.std.proofs.Math.Seq.{take-append-add, take-append_seam}
use Rattle.std.specs.Prelude.{IfSome}
use Rattle.std.specs.Io.KnownBytes.{Consumes}
use Rattle.layout.specs.StreamLaws.{spells_leads}
use Rattle.layout.specs.declared.fault.ReadFault.{ReadFault}
use Rattle.layout.specs.declared.limits.TheConstants.{MAX_CLASS_BYTES}
use Rattle.classfile.specs.Outline.{outline, IsOutline, Stopped}
use Rattle.file_reads.specs.FileReads.{ReadsOn, BeginsWith}
use Rattle.file_reads.specs.private.Passing.{Skips}

pub taken_in_front : (before after : Option (List ℕ)) (given : List ℕ) → Consumes before after given → IfSome before (λ file. BeginsWith file given)
taken_in_front None after given h = tt
taken_in_front (Some file) None given h = absurd h
taken_in_front (Some file) (Some rest) given h = (rest, h)

pub stopped_in_front : (before after : Option (List ℕ)) (given : List ℕ) (why : ReadFault) → Stopped before after given why
    → IfSome before (λ file. BeginsWith file given)
stopped_in_front before after given why s = taken_in_front before after given s.consumed

-- so many bytes in front, and the one after them
pub one_behind : (n : ℕ) (file : List ℕ) → n ≤ length file → take (n + 1) file ≡ take n file ++ take 1 (drop n file)
one_behind n file within =
    let front = take n file in
    let long : length front ≡ n = omega (arith, length-take n file) in
    let parts : file ≡ front ++ drop n file = sym (take-append-drop n file) in
    ap (λ (k : ℕ). take (k + 1) file) (sym long) ∙ ap (take (length front + 1)) parts ∙ take-append-add front (drop n file) 1

pub none_behind : (n : ℕ) (file : List ℕ) → length file ≤ n → file ≡ take n file ++ take 1 (drop n file)
none_behind n file past =
    let none : drop n file ≡ [] = drop_all n file past in
    sym (take_all n file past) ∙ sym (append-nil (take n file)) ∙ ap (λ (l : List ℕ). take n file ++ take 1 l) (sym none)

-- a copy of a front that is an outline, and of the byte after it, is the part that is read
pub copied_is_read : (n : ℕ) (file given : List ℕ) → IsOutline (take n file) → given ≡ take n file ++ take 1 (drop n file) → ReadsOn file given
copied_is_read n file given outline is = record {
  class = take n file;
  behind = drop n file;
  parts = sym (take-append-drop n file);
  outline = outline;
  one_more = is;
}

-- the outline that a walk over the file passed, up to the rest of it
pub passed_is_outline : (file rest : List ℕ) → Skips outline file rest → length file - length rest ≤ MAX_CLASS_BYTES → IsOutline (take (length file - length rest) file)
passed_is_outline file rest passed within =
    let front = passed.front in
    let parts : file ≡ front ++ rest = passed.parts in
    let at : length file - length rest ≡ length front = let long = ap length parts in omega (arith, long, length-append front rest) in
    let same : take (length file - length rest) file ≡ front =
    ap (λ (k : ℕ). take k file) at ∙ ap (take (length front)) parts ∙ take-append_seam front rest in
    subst IsOutline (sym same) (spells_leads outline 0 front tt passed.spelled (omega (arith, at, within)))
