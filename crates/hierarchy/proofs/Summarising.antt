-- Members as they are summarised: with one text more, and with one member more.
use Rattle.std.proofs.Common.{◌≡◌, ◌∙◌, ◌+◌, ◌<◌, ℕ, Bool, List, [], ◌∷◌, ◌++◌, append_assoc, get_or, length, map, slice_get, take, Some, refl, ap, sym, subst}
use Rattle.std.specs.Borrow.{Bor}
use Rattle.std.proofs.lemmas.List.{map-append}
use Rattle.classfile.specs.Values.{Member}
use Rattle.pool.specs.Entries.{Entry}
use Rattle.hierarchy.specs.declared.summary.Kind.{Kind}
use Rattle.hierarchy.specs.declared.summary.MemberSummary.{MemberSummary}
use Rattle.hierarchy.specs.declared.texts.Texts.{Texts}
use Rattle.hierarchy.specs.private.Summarising.{AreSummarised, IsSummarised, Summarises}
use Rattle.hierarchy.specs.Class.{MemberFact}
use Rattle.hierarchy.specs.ClassSummary.{member_summary}
use Rattle.hierarchy.specs.Summary.{member_of}
use Rattle.hierarchy.specs.Texts.{kept_texts}
use Rattle.hierarchy.proofs.Guarding.{map_more, zip_more}
use Rattle.hierarchy.proofs.TextPlaces.{among_of}

stay : (old new : List (List ℕ)) → ((p : ℕ) (t : List ℕ) → slice_get old p ≡ Some t → slice_get new p ≡ Some t) → (ms : List MemberSummary) (facts : List MemberFact) → AreSummarised old ms facts → AreSummarised new ms facts
stay old new kept [] [] a = a
stay old new kept [] (f ∷ fs) a = absurd a
stay old new kept (m ∷ ms) [] a = absurd a
stay old new kept (m ∷ ms) (f ∷ fs) a = (
  record {
    name = kept m.places.name f.name a.0.name;
    descriptor = kept m.places.descriptor f.descriptor a.0.descriptor;
    kind = a.0.kind;
    is_static = a.0.is_static;
    is_protected = a.0.is_protected;
    overriding = a.0.overriding;
  },
  stay old new kept ms fs a.1,
)

pub one_more : (pool : List Entry) (old new : Texts) (fact : MemberFact) (m : MemberSummary) (ms more : List MemberSummary) (facts : List MemberFact) → Summarises pool old new fact m
    → more ≡ ms ++ m ∷ [] → AreSummarised (kept_texts old) ms facts → AreSummarised (kept_texts new) more (facts ++ fact ∷ [])
one_more pool old new fact m ms more facts is pushed all =
    subst (λ xs. AreSummarised (kept_texts new) xs (facts ++ fact ∷ [])) (sym pushed)
    (zip_more (IsSummarised (kept_texts new)) ms facts m fact (stay (kept_texts old) (kept_texts new) is.kept ms facts all) is.here)

pub facts_are : (texts : List (Bor (List ℕ))) (ms : List MemberSummary) (facts : List MemberFact) → AreSummarised (map (λ (n : Bor (List ℕ)). n.now) texts) ms facts → map (member_of texts) ms ≡ facts
facts_are texts [] [] a = refl
facts_are texts [] (f ∷ fs) a = absurd a
facts_are texts (m ∷ ms) [] a = absurd a
facts_are texts (m ∷ ms) (f ∷ fs) a =
    let n = among_of texts m.places.name f.name a.0.name in
    let d = among_of texts m.places.descriptor f.descriptor a.0.descriptor in
    let rest = facts_are texts ms fs a.1 in
    λ i. record { name = n i; descriptor = d i; kind = a.0.kind i; is_static = a.0.is_static i; is_protected = a.0.is_protected i; overriding = a.0.overriding i } ∷ rest i

-- the facts of one member more
pub next_facts : {A : Type 0} (view : A → Member) (release : Bool) (pool : List Entry) (kind : Kind) (facts : List MemberFact) (ms : List A) (i : ℕ) (d : A) → i < length ms
    → (facts ++ map (member_summary release pool kind) (map view (take i ms))) ++ member_summary release pool kind (view (get_or ms i d)) ∷ [] ≡ facts ++ map (member_summary release pool kind) (map view (take (i + 1) ms))
next_facts view release pool kind facts ms i d lt =
    append_assoc facts (map (member_summary release pool kind) (map view (take i ms))) (member_summary release pool kind (view (get_or ms i d)) ∷ [])
    ∙ ap (λ xs. facts ++ xs) (sym (map-append (member_summary release pool kind) (map view (take i ms)) (view (get_or ms i d) ∷ [])) ∙ ap (map (member_summary release pool kind)) (sym (map_more view ms i d lt)))
