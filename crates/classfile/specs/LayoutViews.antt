-- The layouts and the numbers that the program's are.
use Rattle.classfile.specs.declared.layouts.AttributeLayout as program
use Rattle.classfile.specs.declared.numbers.Numbers as numbers
use Rattle.classfile.specs.Layouts.{AttributeLayout}
use Rattle.classfile.specs.Numbers.{Numbers}

abbrev pub layout_view : program.AttributeLayout → AttributeLayout
layout_view l = record {
  name = l.name.now;
  first_major = l.first_major;
  once = l.once;
  counted = l.counted;
  columns =
      l.columns.now;
}

abbrev pub numbers_view : numbers.Numbers → Numbers
numbers_view n = record { layout = layout_view n.layout.now; body = n.body.now }
