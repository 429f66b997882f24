-- The fields that a class declares, one by one: what is said of the first, or of those after it.
use Rattle.std.proofs.Common.{◌≡◌, ◌||◌, ◌&&◌, ◌+◌, ℕ, Bool, true, false, List, [], ◌∷◌, drop, Option, Some, None, Result, Ok, Err, refl, sym, ap, ◌∙◌}
use Rattle.std.specs.Prelude.{slice_get}
use Rattle.std.proofs.lemmas.Option.{slice_get_within, get_or_from_slice_get}
use Rattle.std.proofs.lemmas.List.{drop_more}
use Rattle.std.specs.Str.{bytes_eq}
use Rattle.pool.specs.declared.fault.PoolFault.{PoolFault}
use Rattle.pool.specs.Entries.{Entry}
use Rattle.pool.specs.Lookups.{Named, named, text_at, and_then}
use Rattle.pool.specs.ConstantMeanings.{found}
use Rattle.classfile.specs.Values.{Member}
use Rattle.classfile.specs.Indices.{on_found}
use Rattle.classfile.specs.MemberForm.{are_same, is_among}
use Rattle.classfile.specs.Methods.{is_named, is_declared, texts, declared_fields}
use Rattle.classfile.proofs.SeenLaws.{alike}
use lib.Pointwise.{bytes_decides}

either : (b x : Bool) → (b || x) ≡ ((b || false) || x)
either true x = refl
either false x = refl

first_or_later : (name descriptor : Option (List ℕ)) (others : List Named) (n d : List ℕ)
    → is_declared (texts name descriptor others) n d ≡ (is_declared (texts name descriptor []) n d || is_declared others n d)
first_or_later (Some name) (Some descriptor) others n d = either (is_named n d (record { name = name; descriptor = descriptor })) (is_declared others n d)
first_or_later (Some name) None others n d = refl
first_or_later None descriptor others n d = refl

-- what is said of the field itself
abbrev pub says : List Entry → Member → List ℕ → List ℕ → Bool
says pool f n d = is_declared (texts (found (text_at pool f.name)) (found (text_at pool f.descriptor)) []) n d

-- from one field on, which is the next
pub from_one : (pool : List Entry) (fields : List Member) (i : ℕ) (f : Member) (n d : List ℕ) → slice_get fields i ≡ Some f
    → is_declared (declared_fields pool (drop i fields)) n d ≡ (says pool f n d || is_declared (declared_fields pool (drop (i + 1) fields)) n d)
from_one pool fields i f n d here =
    ap (λ fs. is_declared (declared_fields pool fs) n d) (drop_more fields i f (slice_get_within fields i f here))
    ∙ ap (λ (x : Member). is_declared (declared_fields pool (x ∷ drop (i + 1) fields)) n d) (get_or_from_slice_get fields i f f here)
    ∙ first_or_later (found (text_at pool f.name)) (found (text_at pool f.descriptor)) (declared_fields pool (drop (i + 1) fields)) n d

-- ---- the fields that are met are those that the class declares

same_bytes : (a b : List ℕ) → bytes_eq a b ≡ bytes_eq b a
same_bytes a b = alike (bytes_eq a b) (bytes_eq b a)
    (λ h. (bytes_decides b a).1 (sym ((bytes_decides a b).0 h)))
    (λ h. (bytes_decides a b).1 (sym ((bytes_decides b a).0 h)))

pair_of : Result (List ℕ) PoolFault → Result (List ℕ) PoolFault → Result Named PoolFault
pair_of name descriptor = and_then name (λ n. and_then descriptor (λ d. Ok (record { name = n; descriptor = d })))

one_field : (name descriptor : Result (List ℕ) PoolFault) (x : Named)
    → on_found (are_same x) (pair_of name descriptor) ≡ is_declared (texts (found name) (found descriptor) []) x.name x.descriptor
unfolding pair_of
one_field (Ok n) (Ok d) x =
    ap (λ (b : Bool). b && bytes_eq x.descriptor d) (same_bytes x.name n) ∙ ap (λ (b : Bool). bytes_eq n x.name && b) (same_bytes x.descriptor d)
    ∙ alone (bytes_eq n x.name && bytes_eq d x.descriptor)
  where
    alone : (b : Bool) → b ≡ (b || false)
    alone true = refl
    alone false = refl
one_field (Ok n) (Err e) x = refl
one_field (Err e) descriptor x = refl

-- a name and a descriptor are among the fields where the class declares such a field
pub among_declared : (pool : List Entry) (fields : List Member) (x : Named) → is_among pool fields x ≡ is_declared (declared_fields pool fields) x.name x.descriptor
unfolding is_among named text_at pair_of
among_declared pool [] x = refl
among_declared pool (f ∷ fs) x =
    ap (λ (b : Bool). b || is_among pool fs x) (one_field (text_at pool f.name) (text_at pool f.descriptor) x)
    ∙ ap (λ (b : Bool). says pool f x.name x.descriptor || b) (among_declared pool fs x)
    ∙ sym (first_or_later (found (text_at pool f.name)) (found (text_at pool f.descriptor)) (declared_fields pool fs) x.name x.descriptor)

pub named_declared : (pool : List Entry) (fields : List Member) (r : Result Named PoolFault)
    → on_found (is_among pool fields) r ≡ on_found (λ x. is_declared (declared_fields pool fields) x.name x.descriptor) r
named_declared pool fields (Ok x) = among_declared pool fields x
named_declared pool fields (Err e) = refl
