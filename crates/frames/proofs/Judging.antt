-- Types of an entry one by one: whether something is wrong with one of them.
use Rattle.std.proofs.Common.{◌≡◌, ◌∙◌, ℕ, zero, suc, ◌<◌, ◌+◌, Bool, true, false, ◌||◌, List, [], ◌∷◌, ◌++◌, map, take, length, get_or, refl, sym, ap, arith}
use Rattle.std.proofs.lemmas.List.{take_more, map_push}
use Rattle.frames.specs.StackMaps.{TypeInfo}
use Rattle.frames.specs.MapViews.{info_of}
use Rattle.frames.specs.DeclaredFrames.{any_info}
use Rattle.frames.specs.declared.stack_map.TypeInfo.{TypeInfo as Info}

pub any_more : (f : TypeInfo → Bool) (xs ys : List TypeInfo) → any_info f (xs ++ ys) ≡ any_info f xs || any_info f ys
any_more f [] ys = refl
any_more f (x ∷ xs) ys = ap (λ b. f x || b) (any_more f xs ys) ∙ sym (or_assoc (f x) (any_info f xs) (any_info f ys))
  where
    or_assoc : (a b c : Bool) → (a || b) || c ≡ a || (b || c)
    or_assoc true b c = refl
    or_assoc false b c = refl

pub any_at : (f : TypeInfo → Bool) (xs : List Info) (i : ℕ) (d : Info) → i < length xs → f (info_of (get_or xs i d)) ≡ true → any_info f (map info_of xs) ≡ true
any_at f [] i d lt e = absurd (omega (arith, lt))
any_at f (x ∷ xs) zero d lt e = ap (λ b. b || any_info f (map info_of xs)) e
any_at f (x ∷ xs) (suc i) d lt e = ap (λ b. f (info_of x) || b) (any_at f xs i d (omega (arith, lt)) e) ∙ or_true (f (info_of x))
  where
    or_true : (a : Bool) → a || true ≡ true
    or_true true = refl
    or_true false = refl

pub any_none : (f : TypeInfo → Bool) (xs : List Info) (i : ℕ) (d : Info) → i < length xs → any_info f (map info_of (take i xs)) ≡ false → f (info_of (get_or xs i d)) ≡ false
    → any_info f (map info_of (take (i + 1) xs)) ≡ false
any_none f xs i d lt none e =
    let x = info_of (get_or xs i d) in
    ap (λ (l : List Info). any_info f (map info_of l)) (take_more xs i d lt)
    ∙ ap (any_info f) (map_push info_of (take i xs) (get_or xs i d))
    ∙ any_more f (map info_of (take i xs)) (x ∷ []) ∙ ap (λ b. b || (f x || false)) none ∙ ap (λ b. b || false) e
