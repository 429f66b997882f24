-- Loops that read past so many parts of a kind.
use Rattle.std.proofs.Common.{◌≡◌, ◌∙◌, ℕ, suc, ◌+◌, ◌-◌, ◌<◌, ◌≤◌, List, Result, Ok, Err, sym, ap, arith}
use Rattle.layout.specs.Place.{Place}
use Rattle.layout.specs.Format.{Format, reads, behind_it}
use Rattle.layout.specs.FormatLaws.{reads_andthen}
use Rattle.layout.specs.declared.fault.ReadFault.{ReadFault}
use Rattle.classfile.specs.Outline.{repeated}

repeated_one : {V : Type 0} (f : Format V) (n at : ℕ) (bytes : List ℕ)
    → reads (repeated (suc n) f) at bytes ≡ behind_it (reads f at bytes) (λ skipped. repeated n f)
unfolding repeated
repeated_one f n at bytes = reads_andthen f (λ skipped. repeated n f) at bytes

pub skip_on : {V : Type 0} (f : Format V) (count i at : ℕ) (bytes : List ℕ) (v : V) (p : Place) (total : Result (Unit {0} × Place) ReadFault)
    → i < count → reads f at bytes ≡ Ok (v, p) → reads (repeated (count - i) f) at bytes ≡ total
    → reads (repeated (count - (i + 1)) f) p.at p.rest ≡ total
skip_on {V = V} f count i at bytes v p total lt read so_far =
    let is : count - i ≡ suc (count - (i + 1)) = omega arith in
    let next : V → Format (Unit {0}) = λ skipped. repeated (count - (i + 1)) f in
    sym (repeated_one f (count - (i + 1)) at bytes ∙ ap (λ r. behind_it r next) read)
    ∙ sym (ap (λ (k : ℕ). reads (repeated k f) at bytes) is) ∙ so_far

pub skip_stop : {V : Type 0} (f : Format V) (count i at : ℕ) (bytes : List ℕ) (e : ReadFault) (total : Result (Unit {0} × Place) ReadFault)
    → i < count → reads (repeated (count - i) f) at bytes ≡ total → reads f at bytes ≡ Err e → total ≡ Err e
skip_stop {V = V} f count i at bytes e total lt so_far read =
    let is : count - i ≡ suc (count - (i + 1)) = omega arith in
    let next : V → Format (Unit {0}) = λ skipped. repeated (count - (i + 1)) f in
    sym so_far ∙ ap (λ (k : ℕ). reads (repeated k f) at bytes) is
    ∙ repeated_one f (count - (i + 1)) at bytes ∙ ap (λ r. behind_it r next) read

pub skip_end : {V : Type 0} (f : Format V) (count i : ℕ) (p : Place) (total : Result (Unit {0} × Place) ReadFault)
    → count ≤ i → reads (repeated (count - i) f) p.at p.rest ≡ total → total ≡ Ok (tt, p)
unfolding repeated
skip_end f count i p total le so_far =
    let is : count - i ≡ 0 = omega arith in
    sym so_far ∙ ap (λ (k : ℕ). reads (repeated k f) p.at p.rest) is
