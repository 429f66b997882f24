-- Words of the code's own steps from a file to a class: nothing that a reader must believe rests on them.
use Rattle.std.specs.Prelude.{◌≡◌, Result, Ok, Err}
use Rattle.classfile.specs.declared.class_file.ClassFile.{ClassFile}
use Rattle.classfile.specs.declared.form.Formed.{Formed}
use Rattle.classfile.specs.Values.{Class}
use Rattle.classfile.specs.Views.{class_view}
use Rattle.classfile.specs.WellFormed.{WellFormed, IsFirstFault}
use Rattle.verify.specs.declared.files.FileFault.{FileFault}
use Rattle.verify.specs.declared.files.FileFault.TheVariants.{OutOfMemory, Malformed}

-- a class that is well formed, or the first rule that it breaks
abbrev pub Forms : ClassFile → Result Formed FileFault → Type 0
Forms class (Ok formed) = (formed.class.now ≡ class) × WellFormed (class_view class)
Forms class (Err OutOfMemory) = Unit {0}
Forms class (Err (Malformed rule place)) = IsFirstFault (class_view class) rule place
Forms class (Err fault) = ⊥
