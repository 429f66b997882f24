-- Texts with the indices at which they stand, as the program finds them. Words of the code's own steps.
use Rattle.std.specs.Prelude.{◌≡◌, Bool, List, Ok}
use Rattle.names.specs.declared.text.Text.{Text}
use Rattle.pool.specs.declared.lookups.TextAt.{TextAt}
use Rattle.pool.specs.declared.lookups.Member.{Member}
use Rattle.pool.specs.Entries.{Entry}
use Rattle.pool.specs.Lookups.{Named, FieldOf, MethodOf, text_at}

-- the text stands at its index
abbrev pub StandsIn : List Entry → TextAt → Type 0
StandsIn pool t = text_at pool t.index ≡ Ok t.text.bytes.now

-- both texts of a member stand at theirs
pub record StandIn (pool : List Entry) (m : Member) : Type 0 where
  pub class : StandsIn pool m.class
  pub descriptor : StandsIn pool m.descriptor

abbrev pub named_view : Text × TextAt → Named
named_view x = record { name = x.0.bytes.now; descriptor = x.1.text.bytes.now }

abbrev pub member_view : Member → FieldOf
member_view m = record {
  class = m.class.text.bytes.now;
  name = m.name.bytes.now;
  descriptor =
      m.descriptor.text.bytes.now;
}

abbrev pub method_view : Bool → Member → MethodOf
method_view interface m = record {
  interface = interface;
  class = m.class.text.bytes.now;
  name =
      m.name.bytes.now;
  descriptor = m.descriptor.text.bytes.now;
}
