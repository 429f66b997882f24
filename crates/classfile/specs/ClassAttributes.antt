-- Facts that the attributes of a class tell: the components of a record (JVMS 4.7.30), and the classes that may extend
-- it directly (4.7.31).
use Rattle.std.specs.Prelude.{ℕ, if◌then◌else◌, List, [], Option, Some, None, codes}
use Rattle.std.specs.Option.{option_map_or}
use Rattle.std.specs.Str.{bytes_eq}
use Rattle.classfile.specs.Numbers.{Numbers, first_column}
use Rattle.classfile.specs.Values.{of_parts, of_numbers, raw, Component, ClassAttribute}

-- the components that an attribute holds; one that is not a Record has none
abbrev pub components_of : ClassAttribute → List Component
components_of (of_parts name components) = components
components_of (of_numbers name numbers) = []
components_of (raw name body) = []

-- the numbers of a PermittedSubclasses
abbrev pub if_permitted : Numbers → Option Numbers
if_permitted n = if bytes_eq n.layout.name (codes "PermittedSubclasses") then Some n else None

abbrev pub permitted_in : ClassAttribute → Option Numbers
permitted_in (of_parts name components) = None
permitted_in (of_numbers name numbers) = if_permitted numbers
permitted_in (raw name body) = None

-- the indices of the classes that an attribute permits; one that is no PermittedSubclasses permits none
abbrev pub permitted_of : ClassAttribute → List ℕ
permitted_of attribute = option_map_or first_column (permitted_in attribute) []
