use Rattle.std.proofs.Common.{◌≡◌, ◌-◌, ◌++◌, ◌∙◌, List, ap, sym, subst, arith}
use Rattle.std.specs.Prelude.{ℕ, codes, replicate}
use Rattle.names.specs.Names.{bracket}
use Rattle.names.specs.Descriptors.{base_of}
use Rattle.frames.specs.declared.vtype.VType.{VType}
use Rattle.frames.specs.VerificationType.{type_of}
use Rattle.printing.specs.Writing.{Writes}
use Rattle.printing.specs.Frames.{descriptor_text, type_text}
use Rattle.printing.proofs.Frames.{dimensioned_text}
use Rattle.printing.proofs.frame.TypeTextPrint.put.Goals as goal

pub returns-in-Array : goal.returns-in-Array
returns-in-Array g c =
    let held = g.W.Write.contents in
    let a = held c.args.out.now in
    let b = held c.put-in-Array.new.out in
    let r = c.put-in-Array.result in
    let below = base_of c.in-Array.base in
    let n : c.saturating_sub.result ≡ c.in-Array.dims - 1 = omega (arith, c.saturating_sub.ensures) in
    subst (λ (v : VType). Writes a b (type_text c.args.self.now.0 (type_of v)) r) (sym c.in-Array.is)
    (subst (λ (l : List ℕ). Writes a b (codes "Class [" ++ l) r)
    (ap (λ k. replicate k bracket ++ descriptor_text c.args.self.now.0 below) n ∙ dimensioned_text c.args.self.now.0 (c.in-Array.dims - 1) below) c.put-in-Array.ensures)

pub returns-in-UninitThis : goal.returns-in-UninitThis
returns-in-UninitThis g c =
    let held = g.W.Write.contents in
    subst (λ (v : VType). Writes (held c.args.out.now) (held c.put-in-UninitThis.new.out) (type_text c.args.self.now.0 (type_of v)) c.put-in-UninitThis.result) (sym c.in-UninitThis.is) c.put-in-UninitThis.ensures

pub returns-in-Uninit : goal.returns-in-Uninit
returns-in-Uninit g c =
    let held = g.W.Write.contents in
    subst (λ (v : VType). Writes (held c.args.out.now) (held c.put-in-Uninit.new.out) (type_text c.args.self.now.0 (type_of v)) c.put-in-Uninit.result) (sym c.in-Uninit.is) c.put-in-Uninit.ensures
