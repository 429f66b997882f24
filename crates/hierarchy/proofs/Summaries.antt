-- The texts of a summary are found where the class names them.
use Rattle.std.proofs.Common.{◌≡◌, ℕ, Bool, cond, List, [], Some, None, Result, Ok, Err, refl, sym, ap, ◌∙◌, eq-eqb}
use Rattle.std.proofs.lemmas.Bool.{ne_eqb}
use Rattle.std.specs.Result.{result_unwrap_or}
use Rattle.pool.specs.declared.fault.PoolFault.{PoolFault}
use Rattle.pool.specs.Entries.{Entry}
use Rattle.pool.specs.Lookups.{and_then, text_at, class_name_at, Named, named}
use Rattle.classfile.specs.FormLaws.{FormedHasNames}
use Rattle.hierarchy.specs.ClassSummary.{text_of, class_name_of, SummaryHasTexts}

found : {E : Type 0} (r : Result (List ℕ) E) (x : List ℕ) → r ≡ Ok x → r ≡ Ok (result_unwrap_or r [])
found r x is = is ∙ ap Ok (sym (ap (λ (s : Result (List ℕ) _). result_unwrap_or s []) is))

value : {E : Type 0} (r : Result (List ℕ) E) (x : List ℕ) → r ≡ Ok x → x ≡ result_unwrap_or r []
value r x is = sym (ap (λ (s : Result (List ℕ) _). result_unwrap_or s []) is)

abbrev joined : Result (List ℕ) PoolFault → Result (List ℕ) PoolFault → Result Named PoolFault
joined r s = and_then r (λ n. and_then s (λ d. Ok (record { name = n; descriptor = d })))

abbrev texts : Result (List ℕ) PoolFault → Result (List ℕ) PoolFault → Named
texts r s = record { name = result_unwrap_or r []; descriptor = result_unwrap_or s [] }

both_found : (r s : Result (List ℕ) PoolFault) (x : Named) → joined r s ≡ Ok x → joined r s ≡ Ok (texts r s)
both_found (Ok n) (Ok d) x is = refl
both_found (Ok n) (Err e) x is = absurd cc
both_found (Err e) s x is = absurd cc

-- two texts that were found are the name and the descriptor
both : (pool : List Entry) (name descriptor : ℕ) (x : Named) → named pool name descriptor ≡ Ok x → named pool name descriptor ≡ Ok (record { name = text_of pool name; descriptor = text_of pool descriptor })
unfolding named
both pool name descriptor x is = both_found (text_at pool name) (text_at pool descriptor) x is

pub has_texts : FormedHasNames → SummaryHasTexts
has_texts law c formed =
    let pool = c.constant_pool in
    let names = law c formed in
    record {
      name = found (class_name_at pool c.this_class) names.this.0 names.this.1;
      superclass = λ some.
          let above = names.above some in (
            above.0,
            ap (λ (b : Bool). cond b None (Some (class_name_of pool c.super_class))) (ne_eqb c.super_class 0 some)
                ∙ ap Some (sym (value (class_name_at pool c.super_class) above.0 above.1)),
            above.1,
          );
      no_superclass = λ none. ap (λ (b : Bool). cond b None (Some (class_name_of pool c.super_class))) (eq-eqb c.super_class 0 none);
      field = λ n m here. let x = names.field n m here in record { texts = both pool m.name m.descriptor x.0 x.1 };
      method = λ n m here. let x = names.method n m here in record { texts = both pool m.name m.descriptor x.0 x.1 };
    }
