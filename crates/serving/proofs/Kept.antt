-- Summaries whose texts are copied.
use Rattle.std.proofs.Common.{◌≡◌, ◌∙◌, ℕ, zero, suc, List, [], ◌∷◌, map, option_map, refl, sym, ap}
use Rattle.std.specs.Borrow.{Bor}
use Rattle.hierarchy.specs.Class.{MemberFact}
use Rattle.hierarchy.specs.Summary.{text_among, member_of, fact_of}
use Rattle.hierarchy.specs.declared.summary.MemberSummary.{MemberSummary}
use Rattle.hierarchy.specs.declared.summary.Summary.{Summary}

abbrev pub now : Bor (List ℕ) → List ℕ
now t = t.now

text_same : (ts us : List (Bor (List ℕ))) → map now ts ≡ map now us → (place : ℕ) → text_among ts place ≡ text_among us place
text_same [] [] e place = refl
text_same [] (u ∷ us) e place = absurd cc
text_same (t ∷ ts) [] e place = absurd cc
text_same (t ∷ ts) (u ∷ us) e zero = cc
text_same (t ∷ ts) (u ∷ us) e (suc place) =
    let rest : map now ts ≡ map now us = cc in
    text_same ts us rest place

members_same : (ts us : List (Bor (List ℕ))) → map now ts ≡ map now us → (ms : List MemberSummary) → map (member_of ts) ms ≡ map (member_of us) ms
members_same ts us e [] = refl
members_same ts us e (m ∷ ms) =
    let first : member_of ts m ≡ member_of us m = rw (text_same ts us e m.places.name, text_same ts us e m.places.descriptor) in
    ap (λ f. f ∷ map (member_of ts) ms) first ∙ ap (λ fs. member_of us m ∷ fs) (members_same ts us e ms)

pub fact_same : (s r : Summary) → s.name.now ≡ r.name.now → option_map now s.superclass ≡ option_map now r.superclass → s.interface ≡ r.interface → s.is_final ≡ r.is_final
    → map now s.texts.items ≡ map now r.texts.items → s.members.items ≡ r.members.items → fact_of s ≡ fact_of r
fact_same s r name super interface final texts members =
    let same : map (member_of s.texts.items) s.members.items ≡ map (member_of r.texts.items) r.members.items =
    ap (map (member_of s.texts.items)) members ∙ members_same s.texts.items r.texts.items texts r.members.items in
    rw (name, super, interface, final, same)
