-- The locals and the stack of an entry of a stack map, written to the running frame.
use Rattle.std.proofs.Common.{◌≡◌, ◌∙◌, ℕ, zero, suc, ◌+◌, ◌-◌, refl, List, [], ◌∷◌, ◌++◌, length, map, take, drop, reverse, sym, ap, subst, arith}
use Rattle.std.proofs.lemmas.List.{append-nil, map-append, length-drop, length-map, get_or-drop, take_rest}
use Rattle.pool.specs.Entries.{Entry}
use Rattle.frames.specs.VerificationType.{VerificationType}
use Rattle.frames.specs.MapViews.{info_of}
use Rattle.frames.specs.DeclaredFrames.{types_given}
use Rattle.frames.specs.declared.stack_map.TypeInfo.{TypeInfo}
use Rattle.type_numbers.specs.Numbers.{Numbering, IsNumber, IsGiven}
use Rattle.type_numbers.specs.Decoding.{type_by, types_by}
use Rattle.type_numbers.proofs.Decoded.{number_read}
use Rattle.method_frames.specs.NumberedFrames.{NumberedFrames}
use Rattle.method_frames.specs.private.KnownRows.{AreGiven}
use Rattle.method_frames.specs.private.MapEntries.{AreNumbers, AreRewritten}
use Rattle.method_frames.proofs.Counting.{types_reverse}

-- ---- numbers as they are seen through a slice

module _ (s : Numbering) (pool : List Entry) (xs seen : List TypeInfo) (ns vs : List ℕ) (same : seen ≡ xs) (shown : vs ≡ ns) (are : AreNumbers s ns (types_given pool (map info_of seen))) where
  pub shown_types : types_by s vs ≡ types_given pool (map info_of xs)
  shown_types = ap (types_by s) shown ∙ are.types_are ∙ ap (λ zs. types_given pool (map info_of zs)) same

  pub shown_given : (x : NumberedFrames) → x.types ≡ s → AreGiven x.types vs
  shown_given x e = subst (λ z. AreGiven z vs) (sym e) (subst (AreGiven s) (sym shown) are.given)

  pub stack_written : (x : NumberedFrames) (stack : List ℕ) → x.running.stack ≡ [] → stack ≡ reverse vs ++ x.running.stack
      → types_by s stack ≡ reverse (types_given pool (map info_of xs))
  stack_written x stack none e =
      ap (types_by s) (e ∙ ap (λ r. reverse vs ++ r) none ∙ append-nil (reverse vs)) ∙ types_reverse s vs ∙ ap reverse shown_types

  pub locals_written : (before after : List ℕ) → after ≡ before ++ vs → types_by s after ≡ types_by s before ++ types_given pool (map info_of xs)
  locals_written before after e = ap (types_by s) e ∙ map-append (type_by s) before vs ∙ ap (λ ts. types_by s before ++ ts) shown_types

pub item_written : (s : Numbering) (n : ℕ) (t : VerificationType) (x y : NumberedFrames) → IsNumber s n t → x.running.stack ≡ []
    → y ≡ record x { running = record x.running { stack = n ∷ x.running.stack } } → types_by s y.running.stack ≡ t ∷ []
item_written s n t x y is none e =
    ap (λ z. types_by s z.running.stack) e ∙ ap (λ r. type_by s n ∷ types_by s r) none ∙ ap (λ u. u ∷ []) (number_read s n t is)

-- ---- locals that an entry chops

pub chopped_so : (s : Numbering) (old new : List ℕ) (count left : ℕ) → left ≡ length old - count → new ≡ take left old
    → types_by s new ≡ take (length (types_by s old) - count) (types_by s old)
chopped_so s old new count left e cut =
    ap (types_by s) (cut ∙ ap (λ k. take k old) e) ∙ taken (length old - count) old
    ∙ ap (λ k. take (k - count) (types_by s old)) (sym (length-map old (type_by s)))
  where
    taken : (k : ℕ) (ns : List ℕ) → types_by s (take k ns) ≡ take k (types_by s ns)
    taken zero ns = refl
    taken (suc k) [] = refl
    taken (suc k) (n ∷ ns) = ap (λ ts. type_by s n ∷ ts) (taken k ns)

-- ---- the rest of locals, after those that stay

rest_of : (ns : List ℕ) (k : ℕ) → take (length ns - k) (drop k ns) ≡ drop k ns
rest_of ns k = take_rest ns k

pub rest_given : (old now : NumberedFrames) (ns : List ℕ) (k : ℕ) → AreGiven old.types ns → AreRewritten old now → AreGiven now.types (take (length ns - k) (drop k ns))
rest_given old now ns k all a = subst (λ z. AreGiven now.types z) (sym (rest_of ns k)) (subst (λ y. AreGiven y.types (drop k ns)) (sym a.others) dropped)
  where
    dropped : AreGiven old.types (drop k ns)
    dropped place lt = subst (IsGiven old.types) (sym (get_or-drop k ns place 0)) (all (k + place) (omega (arith, lt, length-drop k ns)))
