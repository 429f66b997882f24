-- Names and descriptors of the methods of a well-formed class.
use Rattle.std.proofs.Common.{◌≡◌, ℕ, zero, suc, List, [], ◌∷◌, ◌++◌, length, Some, None, Result, Ok, Err, refl, sym, ◌∙◌, ap, subst}
use Rattle.std.specs.Prelude.{slice_get}
use Rattle.std.specs.Result.{IsOk}
use Rattle.names.specs.declared.text.Text.{Text}
use Rattle.pool.specs.declared.fault.PoolFault.{PoolFault}
use Rattle.pool.specs.Entries.{Entry}
use Rattle.pool.specs.Lookups.{and_then, text_at, Named, named, Answers}
use Rattle.classfile.specs.Values.{Member, Class}
use Rattle.classfile.specs.WellFormed.{WellFormed}
use Rattle.classfile.proofs.FormedNames.{formed_has_names}

-- both texts are there
pub texts_there : (pool : List Entry) (name descriptor : ℕ) (x : Named) → named pool name descriptor ≡ Ok x
    → (text_at pool name ≡ Ok x.name) × (text_at pool descriptor ≡ Ok x.descriptor)
unfolding named
texts_there pool name descriptor x e = by_name (text_at pool name) refl e
  where
    by_descriptor : (a : List ℕ) (r : Result (List ℕ) PoolFault) → text_at pool name ≡ Ok a → text_at pool descriptor ≡ r
        → and_then r (λ d. Ok (record { name = a; descriptor = d })) ≡ Ok x → (text_at pool name ≡ Ok x.name) × (text_at pool descriptor ≡ Ok x.descriptor)
    by_descriptor a (Ok b) n d e =
        let made : Named = record { name = a; descriptor = b } in
        let same : made ≡ x = cc in
        (n ∙ ap (λ z. Ok z.name) same, d ∙ ap (λ z. Ok z.descriptor) same)
    by_descriptor a (Err f) n d e = absurd cc

    by_name : (r : Result (List ℕ) PoolFault) → text_at pool name ≡ r
        → and_then r (λ n. and_then (text_at pool descriptor) (λ d. Ok (record { name = n; descriptor = d }))) ≡ Ok x
        → (text_at pool name ≡ Ok x.name) × (text_at pool descriptor ≡ Ok x.descriptor)
    by_name (Ok a) n e = by_descriptor a (text_at pool descriptor) n refl e
    by_name (Err f) n e = absurd cc

no_error : (bytes : List ℕ) (f : PoolFault) → (let o : Result (List ℕ) PoolFault = Ok bytes in o) ≡ Err f → ⊥
no_error bytes f e = cc

-- a look-up that should find something finds it
pub is_found : (found : Result (List ℕ) PoolFault) (bytes : List ℕ) (r : Result Text PoolFault) → found ≡ Ok bytes → Answers (λ t. t.bytes.now) found r → IsOk r
is_found found bytes (Ok t) e a = refl
is_found found bytes (Err f) e a = absurd (no_error bytes f (sym e ∙ a))

-- the method's name and descriptor
pub names_of : (c : Class) (number : ℕ) (m : Member) → WellFormed c → slice_get c.methods number ≡ Some m
    → (x : Named) × (named c.constant_pool m.name m.descriptor ≡ Ok x)
names_of c number m formed here = (formed_has_names c formed).method number m here

-- ---- lists

some_same : {A : Type 0} (a b : A) → Some a ≡ Some b → a ≡ b
some_same a b e = cc

none_some : {A : Type 0} (a : A) → None ≡ Some a → ⊥
none_some a e = cc

-- a property of all items and of one more is a property of all items of the longer list
pub one_more_item : {A : Type 0} (xs : List A) (x : A) (P : ℕ → A → Type 0) → ((n : ℕ) (y : A) → slice_get xs n ≡ Some y → P n y) → P (length xs) x
    → (n : ℕ) (y : A) → slice_get (xs ++ x ∷ []) n ≡ Some y → P n y
one_more_item [] x P all last zero y e = subst (P 0) (some_same x y e) last
one_more_item [] x P all last (suc n) y e = absurd (none_some y e)
one_more_item (z ∷ xs) x P all last zero y e = all zero y e
one_more_item (z ∷ xs) x P all last (suc n) y e = one_more_item xs x (λ k. P (suc k)) (λ k. all (suc k)) last n y e
