-- A piece that is filled from the front.
use Rattle.std.proofs.Common.{◌≡◌, ℕ, ◌+◌, ◌≤◌, List, ◌++◌, length, take, drop, sym, ap, ◌∙◌, arith, append_assoc}
use Rattle.std.proofs.lemmas.List.{take-append-drop, take_at, length-append, length-take-le}

-- after its front, other bytes were written over
pub filled : (xs ys post : List ℕ) (at n : ℕ) → at ≤ length xs → n ≤ length ys → take (at + n) (take at xs ++ (ys ++ post)) ≡ take at xs ++ take n ys
filled xs ys post at n a b =
    let front = take at xs in
    let whole : front ++ (ys ++ post) ≡ (front ++ take n ys) ++ (drop n ys ++ post) =
    ap (λ (t : List ℕ). front ++ (t ++ post)) (sym (take-append-drop n ys)) ∙ ap (λ (t : List ℕ). front ++ t) (append_assoc (take n ys) (drop n ys) post)
    ∙ sym (append_assoc front (take n ys) (drop n ys ++ post)) in
    let x = length-take-le at xs a in
    let y = length-take-le n ys b in
    ap (take (at + n)) whole ∙ take_at (front ++ take n ys) (drop n ys ++ post) (at + n) (omega (arith, length-append front (take n ys), x, y))

-- all that stands in front is kept
pub kept : (held ys : List ℕ) (k : ℕ) → k ≤ length ys → take (length held + k) (held ++ ys) ≡ held ++ take k ys
kept held ys k b =
    let whole : held ++ ys ≡ (held ++ take k ys) ++ drop k ys = ap (λ (t : List ℕ). held ++ t) (sym (take-append-drop k ys)) ∙ sym (append_assoc held (take k ys) (drop k ys)) in
    let y = length-take-le k ys b in
    ap (take (length held + k)) whole ∙ take_at (held ++ take k ys) (drop k ys) (length held + k) (omega (arith, length-append held (take k ys), y))

-- the rest of a vector was written over, and it was cut
pub stays : (held front piece behind new : List ℕ) (start k len : ℕ) → new ≡ take (start + k) (take len ((front ++ piece) ++ behind)) → len ≡ length front + length piece
    → front ≡ held → start ≡ length held → k ≤ length piece → new ≡ held ++ take k piece
stays held front piece behind new start k len cut all same at b =
    cut ∙ ap (take (start + k)) (take_at (front ++ piece) behind len (omega (arith, length-append front piece, all)))
    ∙ ap (λ (n : ℕ). take (n + k) (front ++ piece)) at ∙ ap (λ (t : List ℕ). take (length held + k) (t ++ piece)) same ∙ kept held piece k b
