-- The bootstrap methods of a class as the program keeps them.
use Rattle.std.specs.Prelude.{◌≡◌, Bool, map, Vec}
use Rattle.std.specs.Global.{Global}
use Rattle.classfile.specs.declared.bootstraps.BootstrapMethod as declared
use Rattle.classfile.specs.declared.class_file.ClassFile.{ClassFile}
use Rattle.classfile.specs.Bootstraps.{BootstrapMethod, is_sound, bootstraps_of}
use Rattle.classfile.specs.Views.{class_view}

abbrev pub bootstrap_view : declared.BootstrapMethod → BootstrapMethod
bootstrap_view b = record { handle = b.handle; arguments = map (λ n. n) b.arguments.items }

-- of the bootstrap methods of the class in turn whether each may be used
abbrev pub AreSound : ClassFile → Vec Bool Global → Type 0
AreSound c sound = sound.items ≡ map (is_sound c.constant_pool) (bootstraps_of (class_view c))
