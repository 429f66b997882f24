-- Numbers of members: the order of their keys, and what one member more changes.
use Rattle.std.proofs.Common.{◌≡◌, ◌⊎◌, ◌+◌, ◌<◌, ℕ, Bool, true, false, cond, List, [], Option, Some, None, is_some, IsSome, refl, ap, sym, ◌∙◌, subst, inl, inr, arith}
use Rattle.std.specs.BTreeMap.{BTreeMap, btree_map_len, is_at}
use Rattle.std.specs.Map.{lookup}
use Rattle.std.specs.Cmp.Lexicographic.{slice_cmp}
use Rattle.std.specs.Borrow.{Bor}
use Rattle.std.specs.Option.{option_and_then}
use Rattle.std.specs.Ordering.{nat_cmp, ordering_then, is_eq}
use Rattle.std.specs.declared.cmp.Ordering.TheVariants.{Equal}
use Rattle.std.proofs.lemmas.Bool.{false≢true}
use Rattle.std.proofs.lemmas.Cmp.{nat_cmp_total, tied_itself}
use Rattle.std.proofs.lemmas.Map.Lookups.{exact_unsigned}
use Rattle.hierarchy.specs.declared.member_key.MemberKey.{MemberKey}
use Rattle.hierarchy.specs.declared.member_numbers.MemberNumbers.{MemberNumbers}
use Rattle.hierarchy.specs.declared.summary.Kind.{Kind}
use Rattle.hierarchy.specs.private.Above.{number_of}
use Rattle.hierarchy.specs.Class.{MemberFact}
use Rattle.hierarchy.specs.private.Flags.{AreNumbers, KeepNumbers}
use Rattle.hierarchy.specs.private.MemberNumbers.{key_cmp, number_at, key_with, member_number, AreMemberNumbers, AddsMember}
use Rattle.hierarchy.proofs.Guards.{TextNumbers}
use Rattle.hierarchy.proofs.Names.{none_some, some_same}
use Rattle.hierarchy.proofs.Spots.{kind_cmp, both_equal, equal_is, kinds_equal, kind_itself}

pub absent : {X : Type 0} (o : Option X) → is_some o ≡ false → o ≡ None
absent None e = refl
absent (Some x) e = absurd (false≢true (sym e))

abbrev pub KeyNumbers : Type 0
KeyNumbers = BTreeMap MemberKey ℕ

-- ---- two keys in one place of the order are one

same_key : (s t : MemberKey) → s.name ≡ t.name → s.descriptor ≡ t.descriptor → s.kind ≡ t.kind → s ≡ t
same_key s t n d k = λ i. record { name = n i; descriptor = d i; kind = k i }

one_key : (s t : MemberKey) → is_eq (key_cmp s t) ≡ true → s ≡ t
one_key s t e = same_key s t (exact_unsigned s.name t.name first.0) (exact_unsigned s.descriptor t.descriptor second.0) (kinds_equal s.kind t.kind (equal_is (kind_cmp s.kind t.kind) second.1))
  where
    first : (nat_cmp s.name t.name ≡ Equal) × (is_eq (ordering_then (nat_cmp s.descriptor t.descriptor) (kind_cmp s.kind t.kind)) ≡ true)
    first = both_equal (nat_cmp s.name t.name) (ordering_then (nat_cmp s.descriptor t.descriptor) (kind_cmp s.kind t.kind)) e

    second : (nat_cmp s.descriptor t.descriptor ≡ Equal) × (is_eq (kind_cmp s.kind t.kind) ≡ true)
    second = both_equal (nat_cmp s.descriptor t.descriptor) (kind_cmp s.kind t.kind) first.1

key_itself : (s : MemberKey) → is_eq (key_cmp s s) ≡ true
key_itself s = rw (tied_itself nat_cmp_total s.name, tied_itself nat_cmp_total s.descriptor, kind_itself s.kind) refl

-- ---- members by their keys

module _ (texts : TextNumbers) (members : KeyNumbers) where
  abbrev numbers : MemberNumbers
  numbers = record { texts = texts; members = members }

  -- the key by which a member has its number
  pub has_key : (k : Kind) (a d : List ℕ) (i : ℕ) → member_number numbers k a d ≡ Some i
      → (key : MemberKey) × (number_of texts a ≡ Some key.name) × (number_of texts d ≡ Some key.descriptor) × (key.kind ≡ k) × (number_at members key ≡ Some i)
  has_key k a d i e = by (number_of texts a) refl (number_of texts d) refl e
    where
      by : (n : Option ℕ) → number_of texts a ≡ n → (m : Option ℕ) → number_of texts d ≡ m → option_and_then (number_at members) (key_with n m k) ≡ Some i
          → (key : MemberKey) × (number_of texts a ≡ Some key.name) × (number_of texts d ≡ Some key.descriptor) × (key.kind ≡ k) × (number_at members key ≡ Some i)
      by None f m g e = absurd (none_some e)
      by (Some n) f None g e = absurd (none_some e)
      by (Some n) f (Some m) g e = (record { name = n; descriptor = m; kind = k }, f, g, refl, e)

  pub by_key : (key : MemberKey) (k : Kind) (a d : List ℕ) → number_of texts a ≡ Some key.name → number_of texts d ≡ Some key.descriptor → key.kind ≡ k → member_number numbers k a d ≡ number_at members key
  by_key key k a d n m e =
      ap (λ (o : Option ℕ). option_and_then (number_at members) (key_with o (number_of texts d) k)) n
      ∙ ap (λ (o : Option ℕ). option_and_then (number_at members) (key_with (Some key.name) o k)) m
      ∙ ap (λ (j : Kind). number_at members (record { name = key.name; descriptor = key.descriptor; kind = j })) (sym e)

  -- different members have different numbers, where their keys have
  pub are_numbers : AreNumbers texts → ((key : MemberKey) (i : ℕ) → number_at members key ≡ Some i → i < btree_map_len members)
      → ((key other : MemberKey) (i : ℕ) → number_at members key ≡ Some i → number_at members other ≡ Some i → key ≡ other)
      → ((key : MemberKey) (i : ℕ) → number_at members key ≡ Some i → (a : List ℕ) × (d : List ℕ) × (number_of texts a ≡ Some key.name) × (number_of texts d ≡ Some key.descriptor))
      → AreMemberNumbers numbers
  are_numbers good below keys named = record {
    one = λ k l a b d e i h o.
        let s = has_key k a d i h in
        let t = has_key l b e i o in
        let same = keys s.0 t.0 i s.4 t.4 in (
          sym s.3 ∙ ap (λ (x : MemberKey). x.kind) same ∙ t.3,
          good.one a b s.0.name s.1 (t.1 ∙ sym (ap (λ (x : MemberKey). Some x.name) same)),
          good.one d e s.0.descriptor s.2 (t.2 ∙ sym (ap (λ (x : MemberKey). Some x.descriptor) same)),
        );
    texts = good;
    below = below;
    keys = keys;
    named = named;
  }

-- no text and no member has a number
module _ (texts : TextNumbers) (members : KeyNumbers) (no_texts : texts.entries ≡ []) (no_members : members.entries ≡ []) where
  no_text : (t : List ℕ) → number_of texts t ≡ None
  no_text t = ap (lookup (is_at (λ (k : Bor (List ℕ)). slice_cmp nat_cmp t k.now))) no_texts

  no_key : (key : MemberKey) → number_at members key ≡ None
  no_key key = ap (lookup (is_at (key_cmp key))) no_members

  pub no_numbers : AreMemberNumbers (record { texts = texts; members = members })
  no_numbers = are_numbers texts members
      (record { below = λ t n e. absurd (none_some (sym (no_text t) ∙ e)); one = λ t u n e f. absurd (none_some (sym (no_text t) ∙ e)) })
      (λ key i e. absurd (none_some (sym (no_key key) ∙ e)))
      (λ key other i e f. absurd (none_some (sym (no_key key) ∙ e)))
      (λ key i e. absurd (none_some (sym (no_key key) ∙ e)))

  pub no_number : (k : Kind) (a d : List ℕ) → member_number (record { texts = texts; members = members }) k a d ≡ None
  no_number k a d = ap (λ (o : Option ℕ). option_and_then (number_at members) (key_with o (number_of texts d) k)) (no_text a)

-- ---- a member more

module _ (texts more : TextNumbers) (members : KeyNumbers) (old : AreMemberNumbers (record { texts = texts; members = members })) (m : MemberFact) (key : MemberKey)
    (good : AreNumbers more) (keep : KeepNumbers texts more) (name : number_of more m.name ≡ Some key.name) (descriptor : number_of more m.descriptor ≡ Some key.descriptor) (kind : key.kind ≡ m.kind) where
  -- each key has the numbers of two texts, also where more texts have numbers
  still_named : (q : MemberKey) (i : ℕ) → number_at members q ≡ Some i → (a : List ℕ) × (d : List ℕ) × (number_of more a ≡ Some q.name) × (number_of more d ≡ Some q.descriptor)
  still_named q i e = let t = old.named q i e in (t.0, t.1, keep t.0 q.name t.2, keep t.1 q.descriptor t.3)

  module _ (new : KeyNumbers) (grows : (q : MemberKey) (i : ℕ) → number_at members q ≡ Some i → number_at new q ≡ Some i) (here : IsSome (number_at new key))
      (only : (q : MemberKey) (i : ℕ) → number_at new q ≡ Some i → (number_at members q ≡ Some i) ⊎ (key ≡ q))
      (below : (q : MemberKey) (i : ℕ) → number_at new q ≡ Some i → i < btree_map_len new)
      (keys : (q r : MemberKey) (i : ℕ) → number_at new q ≡ Some i → number_at new r ≡ Some i → q ≡ r) where
    named : (q : MemberKey) (i : ℕ) → number_at new q ≡ Some i → (a : List ℕ) × (d : List ℕ) × (number_of more a ≡ Some q.name) × (number_of more d ≡ Some q.descriptor)
    named q i e = by (only q i e)
      where
        by : (number_at members q ≡ Some i) ⊎ (key ≡ q) → (a : List ℕ) × (d : List ℕ) × (number_of more a ≡ Some q.name) × (number_of more d ≡ Some q.descriptor)
        by (inl f) = still_named q i f
        by (inr f) = (m.name, m.descriptor, name ∙ ap (λ (x : MemberKey). Some x.name) f, descriptor ∙ ap (λ (x : MemberKey). Some x.descriptor) f)

    adds : AddsMember (record { texts = texts; members = members }) (record { texts = more; members = new }) m.kind m.name m.descriptor
    adds = record {
      good = are_numbers more new good below keys named;
      kept = λ k a d i e.
          let s = has_key texts members k a d i e in
          by_key more new s.0 k a d (keep a s.0.name s.1) (keep d s.0.descriptor s.2) s.3 ∙ grows s.0 i s.4;
      here = subst IsSome (sym (by_key more new key m.kind m.name m.descriptor name descriptor kind)) here;
      only = λ k a d i e. let s = has_key more new k a d i e in by k a d i s.0 s.1 s.2 s.3 (only s.0 i s.4);
    }
      where
        by : (k : Kind) (a d : List ℕ) (i : ℕ) (q : MemberKey) → number_of more a ≡ Some q.name → number_of more d ≡ Some q.descriptor → q.kind ≡ k → (number_at members q ≡ Some i) ⊎ (key ≡ q)
            → (member_number (record { texts = texts; members = members }) k a d ≡ Some i) ⊎ ((k ≡ m.kind) × (a ≡ m.name) × (d ≡ m.descriptor))
        by k a d i q n o is (inl f) =
            let t = old.named q i f in
            let first : a ≡ t.0 = good.one a t.0 q.name n (keep t.0 q.name t.2) in
            let second : d ≡ t.1 = good.one d t.1 q.descriptor o (keep t.1 q.descriptor t.3) in
            inl (by_key texts members q k a d (ap (number_of texts) first ∙ t.2) (ap (number_of texts) second ∙ t.3) is ∙ f)
        by k a d i q n o is (inr f) = inr (
          sym is ∙ sym (ap (λ (x : MemberKey). x.kind) f) ∙ kind,
          good.one a m.name q.name n (name ∙ ap (λ (x : MemberKey). Some x.name) f),
          good.one d m.descriptor q.descriptor o (descriptor ∙ ap (λ (x : MemberKey). Some x.descriptor) f),
        )

  -- the member had a number
  pub had_number : IsSome (number_at members key) → AddsMember (record { texts = texts; members = members }) (record { texts = more; members = members }) m.kind m.name m.descriptor
  had_number here = adds members (λ q i e. e) here (λ q i e. inl e) old.below old.keys

  -- the member gets the next number
  pub gets_number : (new : KeyNumbers) (n : ℕ) → n ≡ btree_map_len members → number_at members key ≡ None → ((q : MemberKey) → number_at new q ≡ cond (is_eq (key_cmp key q)) (Some n) (number_at members q))
      → btree_map_len new ≡ btree_map_len members + 1 → AddsMember (record { texts = texts; members = members }) (record { texts = more; members = new }) m.kind m.name m.descriptor
  gets_number new n is none written longer = adds new
      (λ q i e. written q ∙ grows q i e (is_eq (key_cmp key q)) refl)
      (subst IsSome (sym (written key ∙ ap (λ b. cond b (Some n) (number_at members key)) (key_itself key))) refl)
      (λ q i e. only q i (is_eq (key_cmp key q)) refl (sym (written q) ∙ e))
      (λ q i e. below q i (is_eq (key_cmp key q)) refl (sym (written q) ∙ e))
      (λ q r i e f. one q r i (is_eq (key_cmp key q)) refl (sym (written q) ∙ e) (is_eq (key_cmp key r)) refl (sym (written r) ∙ f))
    where
      grows : (q : MemberKey) (i : ℕ) → number_at members q ≡ Some i → (b : Bool) → is_eq (key_cmp key q) ≡ b → cond b (Some n) (number_at members q) ≡ Some i
      grows q i e true f = absurd (none_some (sym none ∙ ap (number_at members) (one_key key q f) ∙ e))
      grows q i e false f = e

      only : (q : MemberKey) (i : ℕ) (b : Bool) → is_eq (key_cmp key q) ≡ b → cond b (Some n) (number_at members q) ≡ Some i → (number_at members q ≡ Some i) ⊎ (key ≡ q)
      only q i true f e = inr (one_key key q f)
      only q i false f e = inl e

      below : (q : MemberKey) (i : ℕ) (b : Bool) → is_eq (key_cmp key q) ≡ b → cond b (Some n) (number_at members q) ≡ Some i → i < btree_map_len new
      below q i true f e = let same : n ≡ i = some_same e in omega arith
      below q i false f e = let lt = old.below q i e in omega arith

      one : (q r : MemberKey) (i : ℕ) (b : Bool) → is_eq (key_cmp key q) ≡ b → cond b (Some n) (number_at members q) ≡ Some i
          → (c : Bool) → is_eq (key_cmp key r) ≡ c → cond c (Some n) (number_at members r) ≡ Some i → q ≡ r
      one q r i true f e true g h = sym (one_key key q f) ∙ one_key key r g
      one q r i true f e false g h = let same : n ≡ i = some_same e in let lt = old.below r i h in absurd (omega arith)
      one q r i false f e true g h = let same : n ≡ i = some_same h in let lt = old.below q i e in absurd (omega arith)
      one q r i false f e false g h = old.keys q r i e h
