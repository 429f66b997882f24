-- Operands from the top of the stack down, one after the other.
use Rattle.std.proofs.Common.{◌≡◌, ◌∙◌, ℕ, suc, ◌+◌, ◌-◌, ◌<◌, ◌≤◌, List, [], ◌∷◌, ◌++◌, map, length, take, drop, reverse, get_or, Option, sym, ap, arith, drop-cons}
use Rattle.std.proofs.lemmas.List.{take-append-drop, reverse-append, map-append, drop_all, take_more, take_all}
use Rattle.insn.specs.OperandStacks.{beneath}
use Rattle.frames.specs.declared.vtype.VType.{VType}
use Rattle.frames.specs.VerificationType.{VerificationType, type_of}
use Rattle.frames.specs.FrameAssignable.{width_of}
use Rattle.frames.specs.Slots.{units_of}
use Rattle.frames.proofs.Units.{units_append, units_reverse}
use Rattle.rules.specs.declared.expected.ExpectedType.{ExpectedType as RawExpectedType}
use Rattle.rules.specs.Views.{expected_view, stack_of}
use Rattle.rules.specs.Unmet.{OperandFact, absent_operand, first_of}

-- the last item of a stack, as the program keeps it, is its top
pub top_on : (xs : List VType) (n : ℕ) (d : VType) → suc n ≡ length xs → stack_of xs ≡ type_of (get_or xs n d) ∷ stack_of (take n xs)
top_on xs n d e =
    let last : drop n xs ≡ get_or xs n d ∷ [] = drop-cons xs n d (omega (arith, e)) ∙ ap (λ l. get_or xs n d ∷ l) (drop_all (suc n) xs (omega (arith, e))) in
    let split : xs ≡ take n xs ++ get_or xs n d ∷ [] = sym (take-append-drop n xs) ∙ ap (λ l. take n xs ++ l) last in
    ap stack_of split
    ∙ ap reverse (map-append type_of (take n xs) (get_or xs n d ∷ []))
    ∙ reverse-append (map type_of (take n xs)) (type_of (get_or xs n d) ∷ [])

-- all after the first one
others_left : (e : RawExpectedType) (es : List RawExpectedType) → take (length (e ∷ es) - 1) es ≡ es
others_left e es = take_all (length (e ∷ es) - 1) es (omega arith)

pub absent_next : (below : ℕ) (es : List RawExpectedType) (s : List VType) (r : Option OperandFact) → 1 ≤ length es → 1 ≤ length s
    → r ≡ absent_operand below (map expected_view (take (length es - 1) (drop 1 es))) (stack_of (take (length s - 1) s)) → r ≡ absent_operand below (map expected_view es) (stack_of s)
absent_next below [] s r h k same = absurd (omega (arith, h))
absent_next below (e ∷ es) [] r h k same = absurd (omega (arith, k))
absent_next below (e ∷ es) (x ∷ xs) r h k same =
    same ∙ ap (λ l. absent_operand below (map expected_view l) (stack_of (take (length (x ∷ xs) - 1) (x ∷ xs)))) (others_left e es)
    ∙ sym (ap (absent_operand below (expected_view e ∷ map expected_view es)) (top_on (x ∷ xs) (length (x ∷ xs) - 1) x (omega (arith, k))))

pub beneath_next : (es : List RawExpectedType) (s : List VType) (r : Option VerificationType) → 1 ≤ length es → 1 ≤ length s
    → r ≡ first_of (beneath (map expected_view (take (length es - 1) (drop 1 es))) (stack_of (take (length s - 1) s))) → r ≡ first_of (beneath (map expected_view es) (stack_of s))
beneath_next [] s r h k same = absurd (omega (arith, h))
beneath_next (e ∷ es) [] r h k same = absurd (omega (arith, k))
beneath_next (e ∷ es) (x ∷ xs) r h k same =
    same ∙ ap (λ l. first_of (beneath (map expected_view l) (stack_of (take (length (x ∷ xs) - 1) (x ∷ xs))))) (others_left e es)
    ∙ sym (ap (λ ts. first_of (beneath (expected_view e ∷ map expected_view es) ts)) (top_on (x ∷ xs) (length (x ∷ xs) - 1) x (omega (arith, k))))

-- ---- units

pub units_more : (xs : List VType) (i : ℕ) (d : VType) (taken missing : ℕ) → i < length xs → missing ≡ taken - units_of (map type_of (take i xs))
    → missing - width_of (type_of (get_or xs i d)) ≡ taken - units_of (map type_of (take (i + 1) xs))
units_more xs i d taken missing lt e =
    let more : units_of (map type_of (take (i + 1) xs)) ≡ units_of (map type_of (take i xs)) + units_of (type_of (get_or xs i d) ∷ []) =
    ap (λ l. units_of (map type_of l)) (take_more xs i d lt) ∙ ap units_of (map-append type_of (take i xs) (get_or xs i d ∷ []))
    ∙ units_append (map type_of (take i xs)) (type_of (get_or xs i d) ∷ []) in
    omega (arith, e, more)

pub units_all : (xs : List VType) (i taken missing : ℕ) → length xs ≤ i → missing ≡ taken - units_of (map type_of (take i xs)) → missing ≡ taken - units_of (stack_of xs)
units_all xs i taken missing le e = e ∙ ap (λ l. taken - units_of (map type_of l)) (take_all i xs le) ∙ ap (λ n. taken - n) (sym (units_reverse (map type_of xs)))
