-- The locals that an entry leaves, all locals of its frame, and how much it all is.
use Rattle.std.proofs.Common.{◌≡◌, ◌∙◌, ℕ, zero, suc, ◌-◌, ◌≤◌, List, ◌∷◌, ◌++◌, length, map, reverse, take, replicate, refl, sym, ap, arith}
use Rattle.std.proofs.lemmas.List.{length-map, map-append, take-map, take_all}
use Rattle.frames.specs.declared.vtype.VType.{VType}
use Rattle.frames.specs.declared.vtype.VType.TheVariants.{Top}
use Rattle.frames.specs.VerificationType.{VerificationType, type_of, top}
use Rattle.frames.specs.Slots.{units_of, in_locals, all_locals}
use Rattle.frames.specs.EntrySizes.{HaveSizes}
use Rattle.frames.specs.declared.refusing.Sizes.{Sizes}
use Rattle.frames.proofs.Units.{units_reverse}
use Rattle.frames.proofs.Walks.{units_are}

tops : (k : ℕ) → map type_of (replicate k Top) ≡ replicate k top
tops zero = refl
tops (suc k) = ap (λ ts. top ∷ ts) (tops k)

-- locals that are filled up with top
pub filled_up : (xs new : List VType) (ts : List VerificationType) (n m len : ℕ) → len ≡ length xs → m ≡ n → length (in_locals ts) ≤ n → map type_of xs ≡ in_locals ts
    → new ≡ take m xs ++ replicate (m - len) Top → map type_of new ≡ all_locals n ts
filled_up xs new ts n m len size same fits front is =
    ap (map type_of) is ∙ map-append type_of (take m xs) (replicate (m - len) Top)
    ∙ ap (λ l. map type_of l ++ map type_of (replicate (m - len) Top)) (take_all m xs (omega (arith, fits, same, length-map xs type_of, ap length front)))
    ∙ ap (λ l. map type_of xs ++ l) (tops (m - len) ∙ ap (λ k. replicate k top) left)
    ∙ ap (λ l. l ++ replicate (n - length (in_locals ts)) top) front
  where
    left : m - len ≡ n - length (in_locals ts)
    left = omega (arith, size, same, length-map xs type_of, ap length front)

-- the last ones are taken off
pub taken_off : (xs new : List VType) (len count left : ℕ) → len ≡ length xs → left ≡ len - count → new ≡ take left xs → map type_of new ≡ take (length (map type_of xs) - count) (map type_of xs)
taken_off xs new len count left size is taken =
    ap (map type_of) taken ∙ sym (take-map type_of left xs)
    ∙ ap (λ n. take n (map type_of xs)) (is ∙ ap (λ n. n - count) (size ∙ sym (length-map xs type_of)))

-- how much an entry leaves, where types are kept from the bottom up
pub sizes_are : (before locals stack : List VerificationType) (xs ys : List VType) (sizes : Sizes) → sizes.before ≡ length before → map type_of xs ≡ locals → sizes.locals ≡ units_of (map type_of xs)
    → reverse (map type_of ys) ≡ stack → sizes.stack ≡ units_of (map type_of ys) → HaveSizes before locals stack sizes
sizes_are before locals stack xs ys sizes count left locals_units top_first stack_units = record {
  before_is = sym count;
  locals_are = sym (units_are locals) ∙ ap units_of (sym left) ∙ sym locals_units;
  stack_is = ap units_of (sym top_first) ∙ units_reverse (map type_of ys) ∙ sym stack_units;
}
