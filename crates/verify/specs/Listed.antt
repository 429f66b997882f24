-- The hierarchy has a class as it is: by its name the summary of the class file, and no other.
use Rattle.std.specs.Prelude.{◌≡◌, List, Some}
use Rattle.classfile.specs.Values.{Class}
use Rattle.hierarchy.specs.Class.{ClassFact, class_of}
use Rattle.hierarchy.specs.ClassSummary.{summary_of}

abbrev pub IsListed : List ClassFact → Class → Type 0
IsListed classes c = class_of classes (summary_of c).name ≡ Some (summary_of c)
