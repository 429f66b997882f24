-- The least reason against an instruction, of conditions that come in turn.
use Rattle.std.proofs.Common.{◌≡◌, ℕ, suc, ◌+◌, ◌≤◌, Bool, true, false, nat_lt, List, [], ◌∷◌, ◌++◌, slice_get, Option, Some, None, Result, Ok, Err, refl, sym, ◌∙◌, ap, subst, arith, inl, inr, if◌then◌else◌}
use Rattle.std.proofs.lemmas.Bool.Decides.{nat_tests}
use Rattle.hierarchy.specs.Answer.{Outcome, yes, no, missing}
use Rattle.frames.specs.Conditions.{Conditions, Reason, reason, class_missing, number_of, least}
use Rattle.rules.specs.declared.reason.Reason.{Reason as RuleReason}
use Rattle.rules.specs.Outcomes.{Judges}
use Rattle.rules.specs.Reasons.{reason_view}
use Rattle.rules.proofs.Lesser.{merge, least_append}
use Rattle.verify.specs.Verdict.{answer_conditions}
use Rattle.verify.specs.private.InTurn.{IsLack, AreLacks, IsJudgedInTurn}

-- ---- a class that is missing

first_lack : (name : List ℕ) (o : Option Reason) → IsLack o → merge (Some (class_missing name)) o ≡ Some (class_missing name)
first_lack name o (inl e) = ap (merge (Some (class_missing name))) e
first_lack name o (inr e) = ap (merge (Some (class_missing name))) e.1

merge_lack : (a b : Option Reason) → IsLack a → IsLack b → IsLack (merge a b)
merge_lack a b (inl e) q = subst (λ z. IsLack (merge z b)) (sym e) q
merge_lack a b (inr e) q = inr (e.0, ap (λ z. merge z b) e.1 ∙ first_lack e.0 b q)

-- ---- a refusal

-- no number is below this one, and the reason of this number goes before
pub record IsBehind (n : ℕ) (o : Option Reason) : Type 0 where
  pub high : (r : Reason) → o ≡ Some r → n ≤ number_of r
  pub gives_way : merge o (Some (reason n)) ≡ Some (reason n)

pub none_behind : (n : ℕ) → IsBehind n None
none_behind n = record { high = λ r e. absurd (cc); gives_way = refl }

pub later_behind : (n : ℕ) (r : Reason) → n + 1 ≤ number_of r → IsBehind n (Some r)
later_behind n r lt = record {
  high = λ s e. (let same : r ≡ s = cc in let number = ap number_of same in omega (arith, lt, number));
  gives_way = (let e : nat_lt n (number_of r) ≡ true = grind (arith, nat_tests, lt) in rw e refl);
}

pub same_behind : (n : ℕ) → IsBehind n (Some (reason n))
same_behind n = record {
  high = λ s e. (let same : reason n ≡ s = cc in let number = ap number_of same in omega (arith, number));
  gives_way = (let e : nat_lt n n ≡ false = grind (arith, nat_tests) in rw e refl);
}

-- an answer with this number
pub answer_behind : (n : ℕ) (a : Outcome) → n + 1 ≤ 77 → IsBehind n (least (answer_conditions n a))
answer_behind n yes lt = none_behind n
answer_behind n no lt = same_behind n
answer_behind n (missing name) lt = later_behind n (class_missing name) lt

first_high : (n : ℕ) (o : Option Reason) → ((r : Reason) → o ≡ Some r → n ≤ number_of r) → merge (Some (reason n)) o ≡ Some (reason n)
first_high n None high = refl
first_high n (Some r) high = let le = high r refl in let e : nat_lt (number_of r) n ≡ false = grind (arith, nat_tests, le) in rw e refl

merge_high : (n : ℕ) (a b : Option Reason) → ((r : Reason) → a ≡ Some r → n ≤ number_of r) → ((r : Reason) → b ≡ Some r → n ≤ number_of r) → (r : Reason) → merge a b ≡ Some r → n ≤ number_of r
merge_high n None b p q r e = q r e
merge_high n (Some x) None p q r e = p r e
merge_high n (Some x) (Some y) p q r e = by (nat_lt (number_of y) (number_of x)) e
  where
    by : (c : Bool) → Some (if c then y else x) ≡ Some r → n ≤ number_of r
    by true e = q r e
    by false e = p r e

-- ---- a list of them

module _ {A : Type 0} (one : A → Conditions) (all : List A → Conditions) (none : all [] ≡ []) (more : (x : A) (xs : List A) → all (x ∷ xs) ≡ one x ++ all xs) where
  opened : (x : A) (xs : List A) → least (all (x ∷ xs)) ≡ merge (least (one x)) (least (all xs))
  opened x xs = ap least (more x xs) ∙ least_append (one x) (all xs)

  pub passed : (x : A) (xs : List A) → least (one x) ≡ None → least (all (x ∷ xs)) ≡ least (all xs)
  passed x xs e = opened x xs ∙ ap (λ z. merge z (least (all xs))) e

  -- none is refused
  pub all_pass : (xs : List A) → ((k : ℕ) (x : A) → slice_get xs k ≡ Some x → least (one x) ≡ None) → least (all xs) ≡ None
  all_pass [] so = ap least none
  all_pass (x ∷ xs) so = passed x xs (so 0 x refl) ∙ all_pass xs (λ k. so (suc k))

  -- ---- one is refused, and none for a lower number

  abbrev pub AreBehind : ℕ → List A → Type 0
  AreBehind n [] = Unit {0}
  AreBehind n (x ∷ xs) = IsBehind n (least (one x)) × AreBehind n xs

  pub each_behind : (n : ℕ) → ((x : A) → IsBehind n (least (one x))) → (xs : List A) → AreBehind n xs
  each_behind n so [] = tt
  each_behind n so (x ∷ xs) = (so x, each_behind n so xs)

  all_high : (n : ℕ) (xs : List A) → AreBehind n xs → (r : Reason) → least (all xs) ≡ Some r → n ≤ number_of r
  all_high n [] b r e = absurd (let bad : None ≡ Some r = sym (ap least none) ∙ e in cc)
  all_high n (x ∷ xs) b r e = merge_high n (least (one x)) (least (all xs)) b.0.high (all_high n xs b.1) r (sym (opened x xs) ∙ e)

  pub refused_here : (n : ℕ) (x : A) (xs : List A) → least (one x) ≡ Some (reason n) → AreBehind n xs → least (all (x ∷ xs)) ≡ Some (reason n)
  refused_here n x xs e b = opened x xs ∙ ap (λ z. merge z (least (all xs))) e ∙ first_high n (least (all xs)) (all_high n xs b)

  pub refused_later : (n : ℕ) (x : A) (xs : List A) → IsBehind n (least (one x)) → least (all xs) ≡ Some (reason n) → least (all (x ∷ xs)) ≡ Some (reason n)
  refused_later n x xs b e = opened x xs ∙ ap (merge (least (one x))) e ∙ b.gives_way

  -- ---- they are judged in turn

  abbrev pub InTurn : List A → Result Unit RuleReason → Type 0
  InTurn = IsJudgedInTurn one all

  -- nothing is left
  pub ends : (u : Unit {0}) → InTurn [] (Ok u)
  ends u = ap least none

  -- one passes
  pub goes_on : (x : A) (xs : List A) → least (one x) ≡ None → (r : Result Unit RuleReason) → InTurn xs r → InTurn (x ∷ xs) r
  goes_on x xs e (Ok u) so = passed x xs e ∙ so
  goes_on x xs e (Err why) so = λ lacks. record {
    outcome = elim (so lacks.1).outcome [
      | inl memory ↦ inl memory
      | inr is ↦ inr (passed x xs e ∙ is)
    ];
  }

  all_lack : (xs : List A) → AreLacks one xs → IsLack (least (all xs))
  all_lack [] l = inl (ap least none)
  all_lack (x ∷ xs) l = subst IsLack (sym (opened x xs)) (merge_lack (least (one x)) (least (all xs)) l.0 (all_lack xs l.1))

  -- one does not
  pub stops : (x : A) (xs : List A) (why : RuleReason) → Judges (one x) (Err why) → InTurn (x ∷ xs) (Err why)
  stops x xs why j = λ lacks. record {
    outcome = elim j.outcome [
      | inl memory ↦ inl memory
      | inr is ↦ inr (opened x xs ∙ ap (λ z. merge z (least (all xs))) is ∙ behind (reason_view why) (subst IsLack is lacks.0) lacks.1)
    ];
  }
    where
      behind : (r : Reason) → IsLack (Some r) → AreLacks one xs → merge (Some r) (least (all xs)) ≡ Some r
      behind r (inl e) l = absurd (cc)
      behind r (inr e) l = ap (λ z. merge z (least (all xs))) e.1 ∙ first_lack e.0 (least (all xs)) (all_lack xs l) ∙ sym e.1

  -- where none is refused, that is the reason against all
  pub judged_free : (xs : List A) (r : Result Unit RuleReason) → InTurn xs r → AreLacks one xs → Judges (all xs) r
  judged_free xs (Ok u) so lacks = record { outcome = so }
  judged_free xs (Err why) so lacks = so lacks
