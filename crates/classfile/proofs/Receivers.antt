-- Whether a text is the descriptor of a method with a receiver, by what it is without one.
use Rattle.std.proofs.Common.{◌≡◌, ℕ, Bool, true, false, not, ◌&&◌, nat_lt, nat_le, if◌then◌else◌, List, Option, Some, None, Result, Ok, Err, refl, sym, ap, ◌∙◌, arith}
use Rattle.std.proofs.lemmas.Bool.{leb-true, leb-false, ltb-true, ltb-false, lt-ltb}
use Rattle.std.specs.List.{list_any}
use Rattle.std.specs.Option.{is_some, is_none}
use Rattle.std.specs.Result.{is_ok}
use Rattle.names.specs.declared.fault.NameFault.{NameFault}
use Rattle.names.specs.declared.fault.NameFault.TheVariants.{TooManyDimensions, TooWide}
use Rattle.names.specs.Descriptors.{FieldDescriptor, MethodDescriptor, field_types, method_width}
use Rattle.names.specs.Reading.{whole, read_method, is_deep, limited_method, method_answer}
use Rattle.classfile.specs.Naming.{has_no_result}
use Rattle.classfile.specs.private.TextForms.{AreMethodForms}

abbrev Answer : Type 0
Answer = Result MethodDescriptor NameFault

-- types that are within the limits without a receiver, with one
abbrev fitting : MethodDescriptor → Answer
fitting m = if nat_lt 255 (method_width m true) then Err TooWide else Ok m

same_ok : (x y : MethodDescriptor) → (let r : Answer = Ok x in r) ≡ Ok y → x ≡ y
same_ok x y h = cc

limited_ok : (r : Answer) (m : MethodDescriptor) → limited_method false r ≡ Ok m → limited_method true r ≡ fitting m
limited_ok (Err e) m h = absurd cc
limited_ok (Ok x) m h = by_limits (list_any is_deep (field_types x)) (nat_lt 255 (method_width x false)) h
  where
    by_limits : (deep wide : Bool) → (if deep then Err TooManyDimensions else if wide then Err TooWide else Ok x) ≡ Ok m
        → (if deep then Err TooManyDimensions else fitting x) ≡ fitting m
    by_limits true wide k = absurd cc
    by_limits false true k = absurd cc
    by_limits false false k = ap fitting (same_ok x m k)

-- types that are too wide are so with a receiver
wider : (m : MethodDescriptor) → nat_lt 255 (method_width m false) ≡ true → nat_lt 255 (method_width m true) ≡ true
wider m h = lt-ltb 255 (method_width m true) (let less = ltb-true 255 (method_width m false) h in omega (arith, less))

limited_err : (r : Answer) (e : NameFault) → limited_method false r ≡ Err e → (is_ok (limited_method true r) ≡ false) × (has_no_result (limited_method true r) ≡ false)
limited_err (Err d) e h = (refl, refl)
limited_err (Ok x) e h = by_limits (list_any is_deep (field_types x)) (nat_lt 255 (method_width x false)) refl h
  where
    by_limits : (deep wide : Bool) → nat_lt 255 (method_width x false) ≡ wide → (if deep then Err TooManyDimensions else if wide then Err TooWide else Ok x) ≡ Err e
        → (is_ok (if deep then Err TooManyDimensions else fitting x) ≡ false) × (has_no_result (if deep then Err TooManyDimensions else fitting x) ≡ false)
    by_limits true wide w k = (refl, refl)
    by_limits false true w k =
        let over = wider x w in
        (ap (λ (b : Bool). is_ok (if b then Err TooWide else Ok x)) over, ap (λ (b : Bool). has_no_result (if b then Err TooWide else Ok x)) over)
    by_limits false false w k = absurd cc

not_over : (w : ℕ) → nat_le w 255 ≡ not (nat_lt 255 w)
not_over w = by_tests (nat_le w 255) (nat_lt 255 w) refl refl
  where
    by_tests : (within over : Bool) → nat_le w 255 ≡ within → nat_lt 255 w ≡ over → within ≡ not over
    by_tests true true h k = let a = leb-true w 255 h in let b = ltb-true 255 w k in absurd (omega (arith, a, b))
    by_tests true false h k = refl
    by_tests false true h k = refl
    by_tests false false h k = let a = leb-false w 255 h in let b = ltb-false 255 w k in absurd (omega (arith, a, b))

fits_ok : (wide : Bool) (m : MethodDescriptor) → is_ok (if wide then (let r : Answer = Err TooWide in r) else Ok m) ≡ not wide
fits_ok true m = refl
fits_ok false m = refl

fits_void : (wide : Bool) (m : MethodDescriptor) → has_no_result (if wide then (let r : Answer = Err TooWide in r) else Ok m) ≡ (not wide && is_none m.result)
fits_void true m = refl
fits_void false m = refl

-- what is kept of a text whose types are within the limits without a receiver
pub some_are : (bytes : List ℕ) (m : MethodDescriptor) (void fits both : Bool) → method_answer false bytes ≡ Ok m → void ≡ is_none m.result
    → fits ≡ nat_le (method_width m true) 255 → both ≡ (fits && void) → AreMethodForms bytes (record { field = false; method = true; void = void; receiver_method = fits; receiver_void = both })
unfolding method_answer
some_are bytes m void fits both h v f b =
    let also = limited_ok (whole bytes (read_method bytes)) m h in
    let width = method_width m true in
    let within : fits ≡ not (nat_lt 255 width) = f ∙ not_over width in
    record {
      no_field = refl;
      method = sym (ap is_ok h);
      void = v ∙ sym (ap has_no_result h);
      receiver_method = within ∙ sym (ap is_ok also ∙ fits_ok (nat_lt 255 width) m);
      receiver_void = b ∙ ap (λ (x : Bool). x && void) within ∙ ap (λ (x : Bool). not (nat_lt 255 width) && x) v ∙ sym (ap has_no_result also ∙ fits_void (nat_lt 255 width) m);
    }

-- and of one without
pub none_are : (bytes : List ℕ) (e : NameFault) → method_answer false bytes ≡ Err e → AreMethodForms bytes (record { field = false; method = false; void = false; receiver_method = false; receiver_void = false })
unfolding method_answer
none_are bytes e h =
    let also = limited_err (whole bytes (read_method bytes)) e h in
    record { no_field = refl; method = sym (ap is_ok h); void = sym (ap has_no_result h); receiver_method = sym also.0; receiver_void = sym also.1 }

-- a result is none where it is not some
pub same_void : (t : Option FieldDescriptor) (has_result : Bool) → has_result ≡ is_some t → not has_result ≡ is_none t
same_void None has_result h = ap not h
same_void (Some t) has_result h = ap not h

-- there is room for a receiver
pub fits_receiver : (m : MethodDescriptor) (units : ℕ) → units ≡ method_width m false → nat_lt units 255 ≡ nat_le (method_width m true) 255
fits_receiver m units h = by_tests (nat_lt units 255) (nat_le (method_width m true) 255) refl refl
  where
    by_tests : (less fits : Bool) → nat_lt units 255 ≡ less → nat_le (method_width m true) 255 ≡ fits → less ≡ fits
    by_tests true true a b = refl
    by_tests true false a b = let x = ltb-true units 255 a in let y = leb-false (method_width m true) 255 b in absurd (omega (arith, h, x, y))
    by_tests false true a b = let x = ltb-false units 255 a in let y = leb-true (method_width m true) 255 b in absurd (omega (arith, h, x, y))
    by_tests false false a b = refl
