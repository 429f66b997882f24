-- Flags of declarations: those of one more class, and the first from a class upward.
use Rattle.std.proofs.Common.{◌≡◌, ◌&&◌, ◌==◌, ℕ, zero, suc, ◌+◌, ◌-◌, ◌<◌, ◌≤◌, Bool, true, false, cond, List, [], ◌∷◌, ◌++◌, drop, find, get_or, length, map, slice_get, Option, Some, None, option_map, is_some, IfSome, refl, ap, sym, ◌∙◌, subst, arith}
use Rattle.std.specs.BTreeMap.{BTreeMap}
use Rattle.std.specs.BTreeMap.Range.{IsRangeOf, IsInRange, IsEntryInRange, IsLeBy}
use Rattle.std.specs.declared.ops.Bound.TheVariants.{Included, Excluded}
use Rattle.std.specs.Borrow.{Bor}
use Rattle.std.specs.Option.{option_and_then, unwrap_or}
use Rattle.std.specs.Ordering.{is_eq, is_gt}
use Rattle.std.specs.Str.{bytes_eq}
use Rattle.std.proofs.lemmas.Bool.{false≢true, eqb-true, eqb-false}
use Rattle.std.proofs.lemmas.List.{drop_more}
use Rattle.std.proofs.lemmas.Slice.Eq.{bytes_eq-Decides}
use Rattle.hierarchy.specs.declared.spot.Spot.{Spot}
use Rattle.hierarchy.specs.declared.summary.Kind.{Kind}
use Rattle.hierarchy.specs.declared.summary.MemberSummary.{MemberSummary}
use Rattle.hierarchy.specs.declared.summary.Summary.{Summary}
use Rattle.hierarchy.specs.declared.summary.Kind.TheVariants.{Field, Method}
use Rattle.hierarchy.specs.private.Above.{number_of, first_declared}
use Rattle.hierarchy.specs.Class.{MemberFact, ClassFact}
use Rattle.hierarchy.specs.private.Flags.{AreNumbers, IsMember, spot_with, spot_of, spot_cmp, flag_of, moved, first_from, first_flag, flag_in, AreFlags}
use Rattle.hierarchy.specs.Nearest.{MemberReference, Declaration, is_kind, is_named, declared_by, or_above, is_elsewhere, is_protected_elsewhere}
use Rattle.hierarchy.specs.Summary.{member_of, fact_of}
use Rattle.hierarchy.proofs.Names.{none_some, some_same}
use Rattle.hierarchy.proofs.Spots.{one_spot, same_spot, itself, moves, not_above, not_above_is, below, one_member}

abbrev pub TextNumbers : Type 0
TextNumbers = BTreeMap (Bor (List ℕ)) ℕ

-- a class with these members
abbrev pub with_members : ClassFact → List MemberFact → ClassFact
with_members c ms = record { name = c.name; superclass = c.superclass; interface = c.interface; is_final = c.is_final; members = ms }

-- what a list with one more has at a place
pub behind : {X : Type 0} (xs : List X) (x : X) → slice_get (xs ++ x ∷ []) (length xs) ≡ Some x
behind [] x = refl
behind (y ∷ ys) x = behind ys x

pub before : {X : Type 0} (xs : List X) (x : X) (p : ℕ) → (p ≡ length xs → ⊥) → slice_get (xs ++ x ∷ []) p ≡ slice_get xs p
before [] x zero n = absurd (n refl)
before [] x (suc p) n = refl
before (y ∷ ys) x zero n = refl
before (y ∷ ys) x (suc p) n = before ys x p (λ e. n (omega arith))

pub at_last : {X : Type 0} (xs : List X) (x : X) (p : ℕ) → slice_get (xs ++ x ∷ []) p ≡ cond (p == length xs) (Some x) (slice_get xs p)
at_last xs x p = by (p == length xs) refl
  where
    by : (b : Bool) → (p == length xs) ≡ b → slice_get (xs ++ x ∷ []) p ≡ cond b (Some x) (slice_get xs p)
    by true e = ap (slice_get (xs ++ x ∷ [])) (eqb-true p (length xs) e) ∙ behind xs x
    by false e = before xs x p (eqb-false p (length xs) e)

kinds_same : (j k : Kind) → is_kind j k ≡ true → j ≡ k
kinds_same Field Field e = refl
kinds_same Field Method e = cc
kinds_same Method Field e = cc
kinds_same Method Method e = refl

kind_itself : (k : Kind) → is_kind k k ≡ true
kind_itself Field = refl
kind_itself Method = refl

and_both : (a b c : Bool) → (a && (b && c)) ≡ true → (a ≡ true) × (b ≡ true) × (c ≡ true)
and_both true true true e = (refl, refl, refl)
and_both true true false e = absurd (false≢true e)
and_both true false c e = absurd (false≢true e)
and_both false b c e = absurd (false≢true e)

-- a member that is named has the kind, the name and the descriptor
pub named_is : (r : MemberReference) (m : MemberFact) → is_named r m ≡ true → (r.kind ≡ m.kind) × (r.name ≡ m.name) × (r.descriptor ≡ m.descriptor)
named_is r m e =
    let b = and_both (is_kind r.kind m.kind) (bytes_eq r.name m.name) (bytes_eq r.descriptor m.descriptor) e in
    (kinds_same r.kind m.kind b.0, (bytes_eq-Decides r.name m.name).0 b.1, (bytes_eq-Decides r.descriptor m.descriptor).0 b.2)

pub is_named_by : (r : MemberReference) (m : MemberFact) → r.kind ≡ m.kind → r.name ≡ m.name → r.descriptor ≡ m.descriptor → is_named r m ≡ true
is_named_by r m k n d = rw (ap (λ x. is_kind r.kind x) (sym k) ∙ kind_itself r.kind, (bytes_eq-Decides r.name m.name).1 n, (bytes_eq-Decides r.descriptor m.descriptor).1 d) refl

module _ (numbers : TextNumbers) (class : List ℕ) (classes : List ClassFact) (c : ClassFact) (m : MemberFact) (ms : List MemberFact) (old : BTreeMap Spot Bool) where
  -- a member more, which no reference names
  pub passed_over : ((r : MemberReference) (s : Spot) → IsMember numbers r s → is_named r m ≡ true → ⊥)
      → AreFlags numbers class (classes ++ with_members c ms ∷ []) old → AreFlags numbers class (classes ++ with_members c (m ∷ ms) ∷ []) old
  passed_over apart kept = record { flag = λ r s is. kept.flag r s is ∙ ap (option_and_then (flag_in class r)) (at_last classes (with_members c ms) s.place) ∙ by r (is_named r m) refl (apart r s is) (s.place == length classes) s ∙ sym (ap (option_and_then (flag_in class r)) (at_last classes (with_members c (m ∷ ms)) s.place)) }
    where
      by : (r : MemberReference) (t : Bool) → is_named r m ≡ t → (is_named r m ≡ true → ⊥) → (b : Bool) (s : Spot)
          → option_and_then (flag_in class r) (cond b (Some (with_members c ms)) (slice_get classes s.place)) ≡ option_and_then (flag_in class r) (cond b (Some (with_members c (m ∷ ms))) (slice_get classes s.place))
      by r true e n b s = absurd (n e)
      by r false e n false s = refl
      by r false e n true s = ap (λ t. option_map (λ (x : MemberFact). x.is_protected && is_elsewhere class c.name) (cond t (Some m) (find (is_named r) ms))) (sym e)

  -- the flag in a class that has one member more
  abbrev flagged : (r : MemberReference) → Bool → Option Bool
  flagged r t = option_map (λ (x : MemberFact). x.is_protected && is_elsewhere class c.name) (cond t (Some m) (find (is_named r) ms))

  -- a member more, whose flag is put at its spot
  pub put_one : (new : BTreeMap Spot Bool) (at : Spot) (flag : Bool) → AreNumbers numbers
      → number_of numbers m.name ≡ Some at.name → number_of numbers m.descriptor ≡ Some at.descriptor → at.kind ≡ m.kind → at.place ≡ length classes
      → flag ≡ (m.is_protected && is_elsewhere class c.name)
      → ((s : Spot) → flag_of new s ≡ cond (is_eq (spot_cmp at s)) (Some flag) (flag_of old s))
      → AreFlags numbers class (classes ++ with_members c ms ∷ []) old → AreFlags numbers class (classes ++ with_members c (m ∷ ms) ∷ []) new
  put_one new at flag good name descriptor kind place is written kept = record { flag = one }
    where
      -- the spot of a member that is named
      there : (r : MemberReference) (s : Spot) → IsMember numbers r s → is_named r m ≡ true → s.place ≡ length classes → at ≡ s
      there r s member e p =
          let same = named_is r m e in
          let n : at.name ≡ s.name = some_same (sym name ∙ ap (number_of numbers) (sym same.1) ∙ member.name) in
          let d : at.descriptor ≡ s.descriptor = some_same (sym descriptor ∙ ap (number_of numbers) (sym same.2) ∙ member.descriptor) in
          let k : at.kind ≡ s.kind = kind ∙ sym same.0 ∙ sym member.kind in
          let q : at.place ≡ s.place = place ∙ sym p in
          same_spot at s n d k q

      here : (r : MemberReference) (s : Spot) → IsMember numbers r s → at ≡ s → (is_named r m ≡ true) × (s.place ≡ length classes)
      here r s member e = (
        is_named_by r m (sym member.kind ∙ sym (ap (λ (x : Spot). x.kind) e) ∙ kind)
            (good.one r.name m.name s.name member.name (name ∙ ap (λ (x : Spot). Some x.name) e))
            (good.one r.descriptor m.descriptor s.descriptor member.descriptor (descriptor ∙ ap (λ (x : Spot). Some x.descriptor) e)),
        sym (ap (λ (x : Spot). x.place) e) ∙ place,
      )

      told : (r : MemberReference) (s : Spot) → IsMember numbers r s → (t : Bool) → is_eq (spot_cmp at s) ≡ t
          → (b : Bool) → (s.place == length classes) ≡ b → (u : Bool) → is_named r m ≡ u
          → cond t (Some flag) (option_and_then (flag_in class r) (cond b (Some (with_members c ms)) (slice_get classes s.place)))
          ≡ option_and_then (flag_in class r) (cond b (Some (with_members c (m ∷ ms))) (slice_get classes s.place))
      told r s member true e true p true u = ap (λ t. Some t) is ∙ ap (flagged r) (sym u)
      told r s member true e b p false u = absurd (false≢true (sym u ∙ (here r s member (one_spot at s e)).0))
      told r s member true e false p true u = absurd (eqb-false s.place (length classes) p (here r s member (one_spot at s e)).1)
      told r s member false e true p true u = absurd (false≢true (sym e ∙ ap (λ x. is_eq (spot_cmp at x)) (sym (there r s member u (eqb-true s.place (length classes) p))) ∙ itself at))
      told r s member false e true p false u = ap (flagged r) (sym u)
      told r s member false e false p u g = refl

      one : (r : MemberReference) (s : Spot) → IsMember numbers r s → flag_of new s ≡ option_and_then (flag_in class r) (slice_get (classes ++ with_members c (m ∷ ms) ∷ []) s.place)
      one r s member =
          written s
          ∙ ap (cond (is_eq (spot_cmp at s)) (Some flag)) (kept.flag r s member ∙ ap (option_and_then (flag_in class r)) (at_last classes (with_members c ms) s.place))
          ∙ told r s member (is_eq (spot_cmp at s)) refl (s.place == length classes) refl (is_named r m) refl
          ∙ sym (ap (option_and_then (flag_in class r)) (at_last classes (with_members c (m ∷ ms)) s.place))

-- a class of which no member is kept yet
pub none_kept : (numbers : TextNumbers) (class : List ℕ) (classes : List ClassFact) (c : ClassFact) (old : BTreeMap Spot Bool)
    → AreFlags numbers class classes old → AreFlags numbers class (classes ++ with_members c [] ∷ []) old
none_kept numbers class classes c old kept = record { flag = λ r s is. kept.flag r s is ∙ by r s (s.place == length classes) refl ∙ sym (ap (option_and_then (flag_in class r)) (at_last classes (with_members c []) s.place)) }
  where
    beyond : {X : Type 0} (xs : List X) (p : ℕ) → p ≡ length xs → slice_get xs p ≡ None
    beyond [] p e = refl
    beyond (x ∷ xs) zero e = absurd (omega arith)
    beyond (x ∷ xs) (suc p) e = beyond xs p (omega arith)

    by : (r : MemberReference) (s : Spot) (b : Bool) → (s.place == length classes) ≡ b
        → option_and_then (flag_in class r) (slice_get classes s.place) ≡ option_and_then (flag_in class r) (cond b (Some (with_members c [])) (slice_get classes s.place))
    by r s true e = ap (option_and_then (flag_in class r)) (beyond classes s.place (eqb-true s.place (length classes) e))
    by r s false e = refl

-- ---- the first flag

module _ (flags : BTreeMap Spot Bool) (s : Spot) where
  pub no_first : (n p : ℕ) → ((q : ℕ) → p ≤ q → q < p + n → flag_of flags (moved s q) ≡ None) → first_from flags s n p ≡ false
  no_first zero p none = refl
  no_first (suc n) p none = ap (λ o. unwrap_or o (first_from flags s n (p + 1))) (none p (omega arith) (omega arith)) ∙ no_first n (p + 1) (λ q le lt. none q (omega arith) (omega arith))

  pub some_first : (n p q : ℕ) (b : Bool) → p ≤ q → q < p + n → flag_of flags (moved s q) ≡ Some b → ((k : ℕ) → p ≤ k → k < q → flag_of flags (moved s k) ≡ None) → first_from flags s n p ≡ b
  some_first zero p q b le lt f none = absurd (omega arith)
  some_first (suc n) p q b le lt f none = by (p == q) refl (λ le lt. some_first n (p + 1) q b le lt f (λ k le lt. none k (omega arith) lt))
    where
      by : (t : Bool) → (p == q) ≡ t → (p + 1 ≤ q → q < (p + 1) + n → first_from flags s n (p + 1) ≡ b) → first_from flags s (suc n) p ≡ b
      by true e next = ap (λ o. unwrap_or o (first_from flags s n (p + 1))) (ap (λ k. flag_of flags (moved s k)) (eqb-true p q e) ∙ f)
      by false e next =
          let apart = eqb-false p q e in
          let less : p < q = omega arith in
          ap (λ o. unwrap_or o (first_from flags s n (p + 1))) (none p (omega arith) less) ∙ next (omega arith) (omega arith)

-- the flags in a range of spots, in their order
module _ (flags : BTreeMap Spot Bool) (s : Spot) (end : ℕ) (rs : List (Spot × Bool)) (range : IsRangeOf spot_cmp (Included s) (Excluded (moved s end)) flags rs) where
  inside : (q : ℕ) → s.place ≤ q → q < end → IsInRange spot_cmp (Included s) (Excluded (moved s end)) (moved s q)
  inside q le lt = (ap is_gt (moves s s.place q) ∙ not_above_is s.place q le, moves s q end ∙ below q end lt)

  pub none_in_range : rs ≡ [] → first_flag flags end (Some s) ≡ false
  none_in_range e = no_first flags s (end - s.place) s.place (λ q le lt. range.5 e (moved s q) (inside q le (omega arith)))

  pub first_in_range : (e : Spot × Bool) (t : List (Spot × Bool)) → rs ≡ e ∷ t → first_flag flags end (Some s) ≡ e.1
  first_in_range e t is = some_first flags s (end - s.place) s.place e.0.place e.1 at.1 (omega (arith, at.1, at.2)) found none
    where
      there : IsEntryInRange spot_cmp (Included s) (Excluded (moved s end)) flags e
      there = subst (λ xs. IfSome (slice_get xs 0) (IsEntryInRange spot_cmp (Included s) (Excluded (moved s end)) flags)) is range.1

      at : (e.0 ≡ moved s e.0.place) × (s.place ≤ e.0.place) × (e.0.place < end)
      at = one_member s e.0 end there.0.0 there.0.1

      found : flag_of flags (moved s e.0.place) ≡ Some e.1
      found = ap (flag_of flags) (sym at.0) ∙ there.1

      by : (k : ℕ) → s.place ≤ k → k < e.0.place → (o : Option Bool) → flag_of flags (moved s k) ≡ o → o ≡ None
      by k le lt None f = refl
      by k le lt (Some b) f =
          let least : IsLeBy spot_cmp e.0 (moved s k) = subst (λ xs. IfSome (slice_get xs 0) (λ (x : Spot × Bool). IsLeBy spot_cmp x.0 (moved s k))) is (range.2 (moved s k) (inside k le (omega (arith, at.2))) (ap is_some f)) in
          let above : e.0.place ≤ k = not_above e.0.place k (ap is_gt (sym (moves s e.0.place k)) ∙ subst (λ (x : Spot). IsLeBy spot_cmp x (moved s k)) at.0 least) in
          absurd (omega (arith, above, lt))

      none : (k : ℕ) → s.place ≤ k → k < e.0.place → flag_of flags (moved s k) ≡ None
      none k le lt = by k le lt (flag_of flags (moved s k)) refl

-- it is that of the first declaration
module _ (numbers : TextNumbers) (class : List ℕ) (classes : List ClassFact) (flags : BTreeMap Spot Bool) (kept : AreFlags numbers class classes flags)
    (r : MemberReference) (s : Spot) (member : IsMember numbers r s) where
  at_place : (q : ℕ) → flag_of flags (moved s q) ≡ option_and_then (flag_in class r) (slice_get classes q)
  at_place q = kept.flag r (moved s q) (record { name = member.name; descriptor = member.descriptor; kind = member.kind })

  pub first_is : (n p : ℕ) → p + n ≡ length classes → first_from flags s n p ≡ is_protected_elsewhere class (first_declared (drop p classes) r)
  first_is zero p e = ap (λ cs. is_protected_elsewhere class (first_declared cs r)) (sym (all_dropped classes p (omega arith)))
    where
      all_dropped : {X : Type 0} (xs : List X) (k : ℕ) → length xs ≤ k → drop k xs ≡ []
      all_dropped [] zero le = refl
      all_dropped [] (suc k) le = refl
      all_dropped (x ∷ xs) zero le = absurd (omega arith)
      all_dropped (x ∷ xs) (suc k) le = all_dropped xs k (omega arith)
  first_is (suc n) p e =
      let c = next classes p (omega arith) in
      ap (λ o. unwrap_or o (first_from flags s n (p + 1))) (at_place p ∙ ap (option_and_then (flag_in class r)) c.1)
      ∙ ap (unwrap_or (flag_in class r c.0)) (first_is n (p + 1) (omega arith))
      ∙ by c.0 (declared_by c.0 r) (first_declared (drop (p + 1) classes) r)
      ∙ ap (λ cs. is_protected_elsewhere class (first_declared cs r)) (sym c.2)
    where
      next : (xs : List ClassFact) (k : ℕ) → k < length xs → (x : ClassFact) × (slice_get xs k ≡ Some x) × (drop k xs ≡ x ∷ drop (k + 1) xs)
      next [] k lt = absurd (omega arith)
      next (x ∷ xs) zero lt = (x, refl, refl)
      next (x ∷ xs) (suc k) lt =
          let r = next xs k (omega arith) in
          let p1 : k + 1 ≡ suc k = omega arith in
          let p2 : suc k + 1 ≡ suc (suc k) = omega arith in
          (r.0, r.1, r.2 ∙ ap (λ ys. r.0 ∷ ys) (ap (λ j. drop j xs) p1 ∙ sym (ap (λ j. drop j (x ∷ xs)) p2)))

      by : (c : ClassFact) (o : Option MemberFact) (others : Option Declaration) → unwrap_or (option_map (λ (m : MemberFact). m.is_protected && is_elsewhere class c.name) o) (is_protected_elsewhere class others) ≡ is_protected_elsewhere class (or_above c o others)
      by c None others = refl
      by c (Some m) others = refl

-- ---- spots of members

module _ (numbers : TextNumbers) (place : ℕ) (m : MemberFact) where
  pub has_texts : (s : Spot) → spot_of numbers place m ≡ Some s → (number_of numbers m.name ≡ Some s.name) × (number_of numbers m.descriptor ≡ Some s.descriptor) × (s.kind ≡ m.kind) × (s.place ≡ place)
  has_texts s e = by (number_of numbers m.name) refl (number_of numbers m.descriptor) refl e
    where
      by : (n : Option ℕ) → number_of numbers m.name ≡ n → (d : Option ℕ) → number_of numbers m.descriptor ≡ d → spot_with n d m.kind place ≡ Some s
          → (number_of numbers m.name ≡ Some s.name) × (number_of numbers m.descriptor ≡ Some s.descriptor) × (s.kind ≡ m.kind) × (s.place ≡ place)
      by None f d g e = absurd (none_some e)
      by (Some n) f None g e = absurd (none_some e)
      by (Some n) f (Some d) g e =
          let same = sym (some_same e) in
          (f ∙ ap (λ (x : Spot). Some x.name) (sym same), g ∙ ap (λ (x : Spot). Some x.descriptor) (sym same), ap (λ (x : Spot). x.kind) same, ap (λ (x : Spot). x.place) same)

  pub lacks_texts : spot_of numbers place m ≡ None → (r : MemberReference) (s : Spot) → IsMember numbers r s → is_named r m ≡ true → ⊥
  lacks_texts e r s member named =
      let same = named_is r m named in
      none_some (sym e ∙ ap (λ (n : Option ℕ). spot_with n (number_of numbers m.descriptor) m.kind place) (sym (ap (number_of numbers) same.1) ∙ member.name)
      ∙ ap (λ (d : Option ℕ). spot_with (Some s.name) d m.kind place) (sym (ap (number_of numbers) same.2) ∙ member.descriptor))

-- ---- the members of a class, from the last to the first

module _ (numbers : TextNumbers) (class : List ℕ) (classes : List ClassFact) (c : Summary) (left : ℕ) (m : MemberSummary) (within : left < length c.members.items) (is : m ≡ get_or c.members.items left m) where
  abbrev members_from : ℕ → List MemberFact
  members_from k = map (member_of c.texts.items) (drop k c.members.items)

  one_more : member_of c.texts.items m ∷ members_from (left + 1) ≡ members_from left
  one_more = sym (ap (map (member_of c.texts.items)) (drop_more c.members.items left m within ∙ ap (λ x. x ∷ drop (left + 1) c.members.items) (sym is)))

  pub without_spot : (old : BTreeMap Spot Bool) → spot_of numbers (length classes) (member_of c.texts.items m) ≡ None
      → AreFlags numbers class (classes ++ with_members (fact_of c) (members_from (left + 1)) ∷ []) old → AreFlags numbers class (classes ++ with_members (fact_of c) (members_from left) ∷ []) old
  without_spot old e kept =
      subst (λ ms. AreFlags numbers class (classes ++ with_members (fact_of c) ms ∷ []) old) one_more
      (passed_over numbers class classes (fact_of c) (member_of c.texts.items m) (members_from (left + 1)) old (lacks_texts numbers (length classes) (member_of c.texts.items m) e) kept)

  pub with_spot : (old new : BTreeMap Spot Bool) (at : Spot) (flag : Bool) → AreNumbers numbers → spot_of numbers (length classes) (member_of c.texts.items m) ≡ Some at
      → flag ≡ (m.is_protected && is_elsewhere class c.name.now)
      → ((s : Spot) → flag_of new s ≡ cond (is_eq (spot_cmp at s)) (Some flag) (flag_of old s))
      → AreFlags numbers class (classes ++ with_members (fact_of c) (members_from (left + 1)) ∷ []) old → AreFlags numbers class (classes ++ with_members (fact_of c) (members_from left) ∷ []) new
  with_spot old new at flag good e f written kept =
      let t = has_texts numbers (length classes) (member_of c.texts.items m) at e in
      subst (λ ms. AreFlags numbers class (classes ++ with_members (fact_of c) ms ∷ []) new) one_more
      (put_one numbers class classes (fact_of c) (member_of c.texts.items m) (members_from (left + 1)) old new at flag good t.0 t.1 t.2 t.3 f written kept)

-- after the last member there is none
pub no_members_kept : (numbers : TextNumbers) (class : List ℕ) (classes : List ClassFact) (c : Summary) (left : ℕ) (old : BTreeMap Spot Bool) → length c.members.items ≤ left
    → AreFlags numbers class classes old → AreFlags numbers class (classes ++ with_members (fact_of c) (map (member_of c.texts.items) (drop left c.members.items)) ∷ []) old
no_members_kept numbers class classes c left old le kept =
    subst (λ (ms : List MemberSummary). AreFlags numbers class (classes ++ with_members (fact_of c) (map (member_of c.texts.items) ms) ∷ []) old) (sym (all_dropped c.members.items left le))
    (none_kept numbers class classes (fact_of c) old kept)
  where
    all_dropped : {X : Type 0} (xs : List X) (k : ℕ) → length xs ≤ k → drop k xs ≡ []
    all_dropped [] zero le = refl
    all_dropped [] (suc k) le = refl
    all_dropped (x ∷ xs) zero le = absurd (omega arith)
    all_dropped (x ∷ xs) (suc k) le = all_dropped xs k (omega arith)
