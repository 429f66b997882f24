-- The facts that the program's summaries of classes and members, and its references, stand for (JVMS 4.1, 4.5, 4.6,
-- 5.4.3).
use Rattle.std.specs.Prelude.{ℕ, zero, suc, List, [], ◌∷◌, map, option_map}
use Rattle.std.specs.Borrow.{Bor}
use Rattle.hierarchy.specs.declared.member_references.MemberRef.{MemberRef}
use Rattle.hierarchy.specs.declared.member_references.References.{References}
use Rattle.hierarchy.specs.declared.summary.MemberPlaces.{MemberPlaces}
use Rattle.hierarchy.specs.declared.summary.MemberSummary.{MemberSummary}
use Rattle.hierarchy.specs.declared.summary.Summary.{Summary}
use Rattle.hierarchy.specs.Class.{MemberFact, ClassFact}
use Rattle.hierarchy.specs.Nearest.{MemberReference}

-- the text at a place of a list, which is empty where no text stands there
abbrev pub text_among : List (Bor (List ℕ)) → ℕ → List ℕ
text_among [] place = []
text_among (t ∷ ts) zero = t.now
text_among (t ∷ ts) (suc place) = text_among ts place

abbrev pub member_of : List (Bor (List ℕ)) → MemberSummary → MemberFact
member_of texts m = record {
  name = text_among texts m.places.name;
  descriptor = text_among texts m.places.descriptor;
  kind = m.places.kind;
  is_static = m.is_static;
  is_protected = m.is_protected;
  overriding = m.overriding;
}

abbrev pub fact_of : Summary → ClassFact
fact_of s = record {
  name = s.name.now;
  superclass = option_map (λ n. n.now) s.superclass;
  interface =
      s.interface;
  is_final = s.is_final;
  members = map (member_of s.texts.items) s.members.items;
}

abbrev pub facts_of : List Summary → List ClassFact
facts_of ss = map fact_of ss

-- a member, by the places of its texts, of the class of this name
abbrev pub asked : List (Bor (List ℕ)) → List ℕ → MemberPlaces → MemberReference
asked texts class m = record {
  class = class;
  kind = m.kind;
  name = text_among texts m.name;
  descriptor = text_among texts m.descriptor;
}

abbrev pub reference_of : References → MemberRef → MemberReference
reference_of rs r = asked rs.texts.items (text_among rs.classes.items r.class) r.places

abbrev pub references_of : References → List MemberReference
references_of rs = map (reference_of rs) rs.members.items
