-- Names of six and of eight bytes, byte by byte.
use Rattle.std.proofs.Common.{◌≡◌, ℕ, Bool, true, false, ◌&&◌, nat_eq, List, [], ◌∷◌, length, slice_index_or, refl, arith}
use Rattle.classfile.specs.Naming.{is_init, is_clinit}

six : (a b c d e f : Bool) → ((((a && b) && c) && d) && e) && f ≡ a && (b && (c && (d && (e && (f && true)))))
six false b c d e f = refl
six true false c d e f = refl
six true true false d e f = refl
six true true true false e f = refl
six true true true true false f = refl
six true true true true true false = refl
six true true true true true true = refl

eight : (a b c d e f g h : Bool) → ((((((a && b) && c) && d) && e) && f) && g) && h ≡ a && (b && (c && (d && (e && (f && (g && (h && true)))))))
eight false b c d e f g h = refl
eight true false c d e f g h = refl
eight true true false d e f g h = refl
eight true true true false e f g h = refl
eight true true true true false f g h = refl
eight true true true true true false g h = refl
eight true true true true true true false h = refl
eight true true true true true true true false = refl
eight true true true true true true true true = refl

pub init_by_bytes : (xs : List ℕ) → length xs ≡ 6
    → ((((nat_eq (slice_index_or xs 0 0) 60 && nat_eq (slice_index_or xs 1 0) 105) && nat_eq (slice_index_or xs 2 0) 110) && nat_eq (slice_index_or xs 3 0) 105) && nat_eq (slice_index_or xs 4 0) 116) && nat_eq (slice_index_or xs 5 0) 62 ≡ is_init xs
init_by_bytes (a ∷ b ∷ c ∷ d ∷ e ∷ f ∷ []) so = six (nat_eq a 60) (nat_eq b 105) (nat_eq c 110) (nat_eq d 105) (nat_eq e 116) (nat_eq f 62)
init_by_bytes [] so = absurd (omega (arith, so))
init_by_bytes (a ∷ []) so = absurd (omega (arith, so))
init_by_bytes (a ∷ b ∷ []) so = absurd (omega (arith, so))
init_by_bytes (a ∷ b ∷ c ∷ []) so = absurd (omega (arith, so))
init_by_bytes (a ∷ b ∷ c ∷ d ∷ []) so = absurd (omega (arith, so))
init_by_bytes (a ∷ b ∷ c ∷ d ∷ e ∷ []) so = absurd (omega (arith, so))
init_by_bytes (a ∷ b ∷ c ∷ d ∷ e ∷ f ∷ g ∷ xs) so = absurd (omega (arith, so))

pub clinit_by_bytes : (xs : List ℕ) → length xs ≡ 8
    → ((((((nat_eq (slice_index_or xs 0 0) 60 && nat_eq (slice_index_or xs 1 0) 99) && nat_eq (slice_index_or xs 2 0) 108) && nat_eq (slice_index_or xs 3 0) 105) && nat_eq (slice_index_or xs 4 0) 110) && nat_eq (slice_index_or xs 5 0) 105) && nat_eq (slice_index_or xs 6 0) 116) && nat_eq (slice_index_or xs 7 0) 62 ≡ is_clinit xs
clinit_by_bytes (a ∷ b ∷ c ∷ d ∷ e ∷ f ∷ g ∷ h ∷ []) so = eight (nat_eq a 60) (nat_eq b 99) (nat_eq c 108) (nat_eq d 105) (nat_eq e 110) (nat_eq f 105) (nat_eq g 116) (nat_eq h 62)
clinit_by_bytes [] so = absurd (omega (arith, so))
clinit_by_bytes (a ∷ []) so = absurd (omega (arith, so))
clinit_by_bytes (a ∷ b ∷ []) so = absurd (omega (arith, so))
clinit_by_bytes (a ∷ b ∷ c ∷ []) so = absurd (omega (arith, so))
clinit_by_bytes (a ∷ b ∷ c ∷ d ∷ []) so = absurd (omega (arith, so))
clinit_by_bytes (a ∷ b ∷ c ∷ d ∷ e ∷ []) so = absurd (omega (arith, so))
clinit_by_bytes (a ∷ b ∷ c ∷ d ∷ e ∷ f ∷ []) so = absurd (omega (arith, so))
clinit_by_bytes (a ∷ b ∷ c ∷ d ∷ e ∷ f ∷ g ∷ []) so = absurd (omega (arith, so))
clinit_by_bytes (a ∷ b ∷ c ∷ d ∷ e ∷ f ∷ g ∷ h ∷ i ∷ xs) so = absurd (omega (arith, so))
