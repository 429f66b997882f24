-- Attributes that may stand once, as the program's table has them.
use Rattle.classfile.specs.declared.release_form.repeated.Single as program
use Rattle.classfile.specs.release.Attributes.{Single}

abbrev pub single_view : program.Single → Single
single_view s = record { first_major = s.first_major; name = s.name.now }
