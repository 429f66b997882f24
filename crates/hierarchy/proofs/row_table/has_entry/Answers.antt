use Rattle.std.proofs.Common.{◌↔◌, ℕ, ◌/◌, ◌^◌, ◌≤◌, IsTrue, arith}
use Rattle.std.specs.Prelude.{nat_lt}
use Rattle.std.proofs.lemmas.Bool.{ltb-true}
use Rattle.std.proofs.lemmas.Bool.Decides.{Decides-ltb}
use Rattle.std.proofs.lemmas.Nat.{pow_pos}
use Rattle.std.proofs.Math.Nat.{le-div_iff_mul-le, pow-le-pow_right}
use Rattle.hierarchy.proofs.row_table.has_entry.Goals as goal

reaches : (d k : ℕ) → IsTrue (nat_lt 0 (d / 2 ^ k)) ↔ (2 ^ k ≤ d)
reaches d k =
    let q = le-div_iff_mul-le {k = 2 ^ k} {x = 1} {y = d} (pow_pos k) in
    let p = Decides-ltb 0 (d / 2 ^ k) in
    (λ h. let s = p.0 h in let r = q.0 (omega (arith, s)) in omega (arith, r), λ h. let r = q.1 (omega (arith, h)) in p.1 (omega (arith, r)))

pub returns-then-k-lt16 : goal.returns-then-k-lt16
returns-then-k-lt16 c = reaches c.args.depth c.args.k

pub returns-else-k-lt16 : goal.returns-else-k-lt16
returns-else-k-lt16 c =
    (λ h. let l = ltb-true c.args.k 16 h in absurd (omega (arith, l)), λ h. let l = pow-le-pow_right {n = 2} (omega arith) {i = 16} {j = c.args.k} (omega arith) in absurd (omega (arith, l, h, c.ranges.depth.fits)))
