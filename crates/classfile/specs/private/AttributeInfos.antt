-- Where an attribute stands that was read.
use Rattle.std.specs.Prelude.{◌≡◌, ℕ, ◌+◌, ◌<◌, ◌^◌, Result, Ok, Err, length}
use Rattle.layout.specs.declared.fault.ReadFault.{ReadFault}
use Rattle.classfile.specs.ClassFile as layouts
use Rattle.classfile.specs.declared.attribute_info.AttributeInfo.{AttributeInfo}

abbrev pub info_view : AttributeInfo → layouts.AttributeInfo
info_view i = record { name = i.name; size = i.size; body = i.body.now }

-- it begins at the first place, its body six bytes after, and what follows it stands at the second
abbrev pub StandsAt : ℕ → ℕ → Result AttributeInfo ReadFault → Type 0
StandsAt at behind (Ok i) =
    (i.at ≡ at) × (i.start ≡ at + 6) × (length i.body.now ≡ i.size) × (behind ≡ i.start + i.size) × (behind < 2 ^ 64)
StandsAt at behind (Err e) = Unit {0}
