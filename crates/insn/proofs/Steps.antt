-- Reading an instruction part by part: what is read after a part that was read.
use Rattle.std.proofs.Common.{◌≡◌, ℕ, ℤ, Result, Ok, Err, ap, ◌∙◌, SFits, to_z, of_z, w32}
use Rattle.std.specs.Int.{cast_signed}
use Rattle.std.proofs.lemmas.Int.{to_z-of_z}
use Rattle.layout.specs.Place.{Place}
use Rattle.layout.specs.Format.{Format, done, reads, andthen, behind_it}
use Rattle.layout.specs.FormatLaws.{reads_andthen}
use Rattle.insn.specs.declared.fault.CodeFault.{CodeFault}
use Rattle.layout.specs.Faults.{Reads}
use Rattle.layout.specs.declared.fault.ReadFault.{ReadFault}
use Rattle.insn.specs.declared.fault.CodeFault.TheVariants.{CutInstruction}
use Rattle.insn.specs.declared.opcode.Opcode.{Opcode}
use Rattle.insn.specs.Instructions.{Instruction, Operands, Outcome, of_opcode}
use Rattle.insn.specs.Faults.{judged, beside}
use Rattle.insn.specs.private.PartReading.{Decodes, or_cut}

behind : {V W : Type 0} (at : ℕ) (f : Format W) (next : W → Format (Result V CodeFault)) (old mid : Place) (w : W)
    → reads f old.at old.rest ≡ Ok (w, mid)
    → judged at (reads (andthen f next) old.at old.rest) ≡ judged at (reads (next w) mid.at mid.rest)
behind at f next old mid w e = ap (judged at) (reads_andthen f next old.at old.rest ∙ ap (λ r. behind_it r next) e)

pub goes_on : {X V W : Type 0} (at : ℕ) (f : Format W) (next : W → Format (Result V CodeFault)) (view : X → V) (old mid new : Place) (w : W) (result : Result X CodeFault)
    → reads f old.at old.rest ≡ Ok (w, mid) → Decodes at (next w) view mid new result → Decodes at (andthen f next) view old new result
goes_on at f next view old mid new w (Ok x) e d = behind at f next old mid w e ∙ d
goes_on at f next view old mid new w (Err x) e d = behind at f next old mid w e ∙ d

-- a part that was read whole
pub part_read : {X V : Type 0} (at : ℕ) (f : Format V) (view : X → V) (old new : Place) (answer : Result X ReadFault) (x : X)
    → Reads f view old new answer → Ok x ≡ or_cut at answer → reads f old.at old.rest ≡ Ok (view x, new)
part_read at f view old new (Ok y) x read is = let same : x ≡ y = cc in rw same read
part_read at f view old new (Err e) x read is = absurd cc

-- a number that was cast, as it is passed on
pub passed : (z : ℤ) (n : ℕ) → SFits w32 z → z ≡ cast_signed w32 n → to_z w32 (of_z w32 z) ≡ cast_signed w32 n
passed z n fits is = to_z-of_z w32 z fits ∙ is

-- an opcode with its operands
abbrev with_opcode : Opcode → Outcome → Format (Result Instruction CodeFault)
with_opcode o x = done (of_opcode o x)

by_outcome : (o : Opcode) (p q : Place) (y : Outcome) (x : Operands) → beside p y ≡ Ok (x, q) → beside p (of_opcode o y) ≡ Ok (record { opcode = o; operands = x }, q)
by_outcome o p q (Ok y) x e =
    let made : Operands × Place = (y, p) in
    let other : Operands × Place = (x, q) in
    let same : made ≡ other = cc in
    ap (λ (z : Operands × Place). Ok (record { opcode = o; operands = z.0 }, z.1)) same
by_outcome o p q (Err f) x e = absurd cc

by_fault : (o : Opcode) (p : Place) (y : Outcome) (e : CodeFault) → beside p y ≡ Err e → beside p (of_opcode o y) ≡ Err e
by_fault o p (Ok y) e h = absurd cc
by_fault o p (Err f) e h = let same : f ≡ e = cc in ap Err same

named_ok : (at : ℕ) (o : Opcode) (r : Result (Outcome × Place) ReadFault) (x : Operands) (q : Place) → judged at r ≡ Ok (x, q)
    → judged at (behind_it r (with_opcode o)) ≡ Ok (record { opcode = o; operands = x }, q)
named_ok at o (Ok y) x q e = by_outcome o y.1 q y.0 x e
named_ok at o (Err f) x q e = absurd cc

named_err : (at : ℕ) (o : Opcode) (r : Result (Outcome × Place) ReadFault) (e : CodeFault) → judged at r ≡ Err e → judged at (behind_it r (with_opcode o)) ≡ Err e
named_err at o (Ok y) e h = by_fault o y.1 y.0 e h
named_err at o (Err f) e h = let same : CutInstruction at ≡ e = cc in ap Err same

pub opcode_ok : (at : ℕ) (o : Opcode) (f : Format Outcome) (old : Place) (x : Operands) (q : Place) → judged at (reads f old.at old.rest) ≡ Ok (x, q)
    → judged at (reads (andthen f (λ y. done (of_opcode o y))) old.at old.rest) ≡ Ok (record { opcode = o; operands = x }, q)
opcode_ok at o f old x q e = ap (judged at) (reads_andthen f (with_opcode o) old.at old.rest) ∙ named_ok at o (reads f old.at old.rest) x q e

pub opcode_err : (at : ℕ) (o : Opcode) (f : Format Outcome) (old : Place) (e : CodeFault) → judged at (reads f old.at old.rest) ≡ Err e
    → judged at (reads (andthen f (λ y. done (of_opcode o y))) old.at old.rest) ≡ Err e
opcode_err at o f old e h = ap (judged at) (reads_andthen f (with_opcode o) old.at old.rest) ∙ named_err at o (reads f old.at old.rest) e h
