use Rattle.std.proofs.Common.{◌≡◌, suc, ◌+◌, ◌-◌, ap, sym, ◌∙◌, arith}
use Rattle.names.specs.Descriptors.{base_of, dimensioned}
use Rattle.names.specs.ReferenceTypes.{dimensions_of, descriptor_of}
use Rattle.names.specs.References.{reference_view}
use Rattle.frames.specs.VerificationType.{array}
use Rattle.names.proofs.Written.{dimensions_of_dimensioned}
use Rattle.frames.proofs.naming.array_of.Goals as goal

pub returns-in-Array : goal.returns-in-Array
returns-in-Array c =
    let d : c.dimensions-dims.result ≡ (c.in-Array.dims - 1) + 1 =
    c.dimensions-dims.ensures ∙ ap (λ t. dimensions_of (reference_view t)) c.in-Array.is ∙ ap (λ n. n + 1) (dimensions_of_dimensioned (c.in-Array.dims - 1) c.in-Array.base) in
    let more : c.dimensions-dims.result + 1 - 1 ≡ suc (c.in-Array.dims - 1) = omega (arith, d) in
    ap (λ n. array (dimensioned n (base_of c.in-Array.base))) more ∙ ap (λ t. array (descriptor_of (reference_view t))) (sym c.in-Array.is)
