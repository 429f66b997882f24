use Rattle.std.proofs.Common.{false, ◌≡◌, rules}
use Rattle.std.specs.Prelude.{nat_eq, if◌then◌else◌, ◌-◌}
use Rattle.layout.specs.Format.{number, refuse}
use Rattle.layout.specs.StreamLaws.{then_streams}
use Rattle.layout.specs.declared.fault.ReadFault.TheVariants.{BadPoolCount}
use Rattle.classfile.specs.Outline.{constants, pool}
use Rattle.classfile.proofs.outline.pool.Goals as goal

pub returns : goal.returns
unfolding pool
returns g c = then_streams (number 2) (λ count. if nat_eq count 0 then refuse (λ at. BadPoolCount (at - 2)) else constants (count - 1) false) (λ x. x) _ _ _ _ _ _ _ _ c.in_ok-count.ensures
    (let some : nat_eq c.in_ok-count.count 0 ≡ false = search rules in rw some c.constants.ensures)
