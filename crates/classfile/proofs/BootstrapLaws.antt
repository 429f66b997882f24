-- The bodies of BootstrapMethods attributes, one attribute after the other.
use Rattle.std.proofs.Common.{◌≡◌, ◌+◌, ◌<◌, ◌∙◌, ◌++◌, ℕ, suc, Bool, true, false, List, [], ◌∷◌, length, drop, drop-cons, add-one, Option, Some, None, refl, sym, ap}
use Rattle.std.specs.Prelude.{slice_get, option_map, option_to_list}
use Rattle.std.specs.Option.{is_some}
use Rattle.std.proofs.lemmas.Option.{slice_get_within, get_or_from_slice_get}
use Rattle.pool.specs.Entries.{Entry}
use Rattle.classfile.specs.Values.{ClassAttribute}
use Rattle.classfile.specs.Bootstraps.{body_of, bodies_of, only}

pub bodies_from : (pool : List Entry) (attributes : List ClassAttribute) (i : ℕ) (a : ClassAttribute) → slice_get attributes i ≡ Some a
    → bodies_of pool (drop i attributes) ≡ option_to_list (body_of pool a) ++ bodies_of pool (drop (i + 1) attributes)
bodies_from pool attributes i a here =
    let lt : i < length attributes = slice_get_within attributes i a here in
    ap (bodies_of pool) (drop-cons attributes i a lt)
    ∙ ap (λ (x : ClassAttribute). bodies_of pool (x ∷ drop (suc i) attributes)) (get_or_from_slice_get attributes i a a here)
    ∙ ap (λ (k : ℕ). bodies_of pool (a ∷ drop k attributes)) (sym (add-one i))

-- a second one
pub met_twice : {R : Type 0} (f : R → List ℕ) (x : Option R) (d : List ℕ) (others : List (List ℕ)) → is_some x ≡ true
    → only (option_to_list (option_map f x) ++ (d ∷ others)) ≡ None
met_twice f (Some r) d others e = refl
met_twice f None d others e = absurd cc

pub met_none : {R : Type 0} (f : R → List ℕ) (x : Option R) → is_some x ≡ false → option_to_list (option_map f x) ≡ []
met_none f None e = refl
met_none f (Some r) e = absurd cc

pub gives_none : {R : Type 0} (f : R → List ℕ) (x : Option R) → ((r : R) → x ≡ Some r → ⊥) → option_to_list (option_map f x) ≡ []
gives_none f None not = refl
gives_none f (Some r) not = absurd (not r refl)
