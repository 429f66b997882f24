-- So far it is told of each entry whether it may be used.
use Rattle.std.proofs.Common.{◌≡◌, map, take}
use Rattle.classfile.specs.Bootstraps.{is_sound}
use Rattle.classfile.specs.BootstrapViews.{bootstrap_view}
use Rattle.classfile.proofs.bootstraps.sound_ones.Given as goal

abbrev pub invariant-loop-method : goal.invariant-loop-method
invariant-loop-method l = l.sound.items ≡ map (is_sound l.pool) (map bootstrap_view (take l.method-index l.methods))
