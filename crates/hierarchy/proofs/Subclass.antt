-- The answer about a subclass: the word that computes it, and the chain that it stands for.
use Rattle.std.proofs.Common.{◌≡◌, ◌↔◌, ◌||◌, ℕ, zero, suc, Bool, true, false, cond, List, length, Option, Some, None, IsSome, is_some, option_map, refl, ap, sym, ◌∙◌, subst}
use Rattle.std.specs.Option.{option_and_then, option_map_or}
use Rattle.std.specs.Str.{bytes_eq}
use Rattle.std.proofs.lemmas.Bool.{false≢true}
use Rattle.std.proofs.lemmas.Slice.Eq.{bytes_eq-Decides}
use Rattle.hierarchy.specs.World.{Entry, World, superclass_in, IsSubclassIn, same, above}
use Rattle.hierarchy.specs.Class.{ClassFact, class_of, entry_of, world_of, superclass_of, IsAbsent, IsSubclass}
use Rattle.hierarchy.specs.Answer.{Outcome, yes, no, missing, yes_if, on_chain, subclass_answer, SubclassAnswer}
use Rattle.hierarchy.proofs.Chain.{IsWithin, here, up, shorten}

same_name : (a : List ℕ) → bytes_eq a a ≡ true
same_name a = (bytes_eq-Decides a a).1 refl

-- what is met on the way up is a chain
pub met_chain : (world : World) (n : ℕ) (a b : List ℕ) → on_chain world n a b ≡ true → IsSubclassIn world a b
met_chain world zero a b e = subst (IsSubclassIn world a) ((bytes_eq-Decides a b).0 e) same
met_chain world (suc n) a b e = by (bytes_eq a b) refl (superclass_in world a) refl e (λ s. met_chain world n s b)
  where
    by : (t : Bool) → bytes_eq a b ≡ t → (o : Option (List ℕ)) → superclass_in world a ≡ o → (t || option_map_or (λ s. on_chain world n s b) o false) ≡ true → ((s : List ℕ) → on_chain world n s b ≡ true → IsSubclassIn world s b) → IsSubclassIn world a b
    by true h o g e k = subst (IsSubclassIn world a) ((bytes_eq-Decides a b).0 h) same
    by false h None g e k = absurd (false≢true e)
    by false h (Some s) g e k = above g (k s e)

or_true : (t : Bool) → (t || true) ≡ true
or_true true = refl
or_true false = refl

or_left : (t u : Bool) → t ≡ true → (t || u) ≡ true
or_left true u e = refl
or_left false u e = absurd (false≢true e)

-- a chain of at most so many steps is met on the way up
pub chain_met : (classes : List ClassFact) (n : ℕ) (a b : List ℕ) → IsWithin classes n a b → on_chain (world_of classes) n a b ≡ true
chain_met classes zero a b here = same_name a
chain_met classes (suc n) a b here = or_left (bytes_eq a a) (option_map_or (λ s. on_chain (world_of classes) n s a) (superclass_of classes a) false) (same_name a)
chain_met classes (suc n) a b (up {s = s} e p) =
    let h = chain_met classes n s b p in
    rw (e, h) (or_true (bytes_eq a b))

-- an absent class has no other above it
pub alone : (classes : List ClassFact) (a b : List ℕ) → IsAbsent classes a → IsSubclass classes a b → a ≡ b
alone classes a b e same = refl
alone classes a b e (above {s = s} f p) = absurd (apart (class_of classes a) s e f)
  where
    apart : (o : Option ClassFact) (s : List ℕ) → o ≡ None → option_and_then (λ (e : Entry). e.superclass) (option_map entry_of o) ≡ Some s → ⊥
    apart None s e f = cc
    apart (Some c) s e f = cc

pub absent_present : (o : Option ClassFact) → o ≡ None → IsSome o → ⊥
absent_present None e p = absurd (false≢true p)
absent_present (Some c) e p = cc

module _ (classes : List ClassFact) (a b : List ℕ) where
  pub one_subclass : (r s : Outcome) → SubclassAnswer classes a b r → SubclassAnswer classes a b s → r ≡ s
  one_subclass yes yes p q = refl
  one_subclass yes no p q = absurd (q.1 p)
  one_subclass yes (missing m) p q = absurd (q.1 (alone classes a b q.2 p))
  one_subclass no yes p q = absurd (p.1 q)
  one_subclass no no p q = refl
  one_subclass no (missing m) p q = absurd (absent_present (class_of classes a) q.2 p.0)
  one_subclass (missing m) yes p q = absurd (p.1 (alone classes a b p.2 q))
  one_subclass (missing m) no p q = absurd (absent_present (class_of classes a) p.2 q.0)
  one_subclass (missing m) (missing n) p q = ap missing (p.0 ∙ sym q.0)

  pub subclass_holds : SubclassAnswer classes a b (subclass_answer classes a b)
  subclass_holds = by (bytes_eq a b) refl (class_of classes a) refl (on_chain (world_of classes) (length classes) a b) refl
    where
      by : (t : Bool) → bytes_eq a b ≡ t → (o : Option ClassFact) → class_of classes a ≡ o → (u : Bool) → on_chain (world_of classes) (length classes) a b ≡ u → SubclassAnswer classes a b (cond t yes (option_map_or (λ _. yes_if u) o (missing a)))
      by true h o g u f = subst (IsSubclass classes a) ((bytes_eq-Decides a b).0 h) same
      by false h None g u f = (refl, λ e. false≢true (sym h ∙ (bytes_eq-Decides a b).1 e), g)
      by false h (Some c) g true f = met_chain (world_of classes) (length classes) a b f
      by false h (Some c) g false f = (ap is_some g, λ p. false≢true (sym f ∙ chain_met classes (length classes) a b (shorten classes p)))

pub one_answer : (classes : List ClassFact) (a b : List ℕ) (r : Outcome) → SubclassAnswer classes a b r ↔ (r ≡ subclass_answer classes a b)
one_answer classes a b r = (
  λ p. one_subclass classes a b r (subclass_answer classes a b) p (subclass_holds classes a b),
  λ e. subst (SubclassAnswer classes a b) (sym e) (subclass_holds classes a b),
)
