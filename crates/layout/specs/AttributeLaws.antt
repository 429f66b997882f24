-- Attributes by their pieces: bodies that are read by field, and how a program writes one. Words of the code's own
-- steps.
use Rattle.std.proofs.Common.{◌≡◌, ℕ, ◌+◌, ◌-◌, ◌^◌, ◌<◌, ◌≤◌, Bool, true, false, cond, ltb, eqb, List, [], ◌∷◌, ◌++◌, length, take, drop, Result, Ok, Err, refl, sym, ap, subst, ◌∙◌, arith}
use Rattle.std.specs.Prelude.{MatchResult}
use Rattle.std.proofs.lemmas.Bool.{eqb-true, eq-eqb, ltb-false, le-ltb}
use Rattle.std.proofs.lemmas.List.{length-append, length-take, append-nil, take_at, drop_at, nil_from_length, take-append-drop}
use Rattle.layout.specs.declared.fault.WriteFault.{WriteFault}
use Rattle.layout.specs.declared.fault.WriteFault.TheVariants.{DoesNotFit}
use Rattle.layout.specs.declared.fault.ReadFault.TheVariants.{AttributeLength}
use Rattle.layout.specs.Format.{AreBytes, Format, done, part, refuse, Spells, andthen, number, inside}
use Rattle.layout.specs.FormatLaws.{AreBytes-parts, andthen_spelled, andthen_parts, NumberLaw}
use Rattle.layout.specs.Faults.{UnlessWriteMemory}
use Rattle.layout.specs.Pieces.{Goes, Piece, plain, field, text, ArePlain, lengthened, Written, writes, then_writes}
use Rattle.layout.specs.PieceLaws.{Made, text_append, plain_parts, plain_append, writes_append, made_number, Begun, Ended, writes_behind, lengthened_ok, lengthened_over, lengthened_none, lengthened_err}

-- ---- bodies that are read by field

pub inside_spells : {A V : Type 0} (n : ℕ) (body : List ℕ) (f : Format A) (make : A → V) (bytes : List ℕ) (w : V)
    → Spells (inside n body f (λ v. done (make v))) bytes w
    → (v : A) × Spells f body v × (bytes ≡ []) × (make v ≡ w)
inside_spells {A = A} {V = V} n body (done v) make bytes w s = by_test (eqb (length body) 0) refl s
  where
    by_test : (b : Bool) → eqb (length body) 0 ≡ b
        → Spells (cond b (done (make v)) (refuse (λ at. AttributeLength (at - n - 6)))) bytes w → (u : A)
        × Spells (done v) body u × (bytes ≡ []) × (make u ≡ w)
    by_test true e s = (v, (nil_from_length body (eqb-true _ _ e), refl), s.0, s.1)
    by_test false e s = absurd s
inside_spells {A = A} {V = V} n body (part k after) make bytes w s =
    by_test (ltb (length body) k) refl s (λ t. inside_spells n (drop k body) (after (take k body)) make bytes w t)
  where
    by_test : (b : Bool) → ltb (length body) k ≡ b
        → Spells (cond b (refuse (λ at. AttributeLength (at - n - 6)))
        (inside n (drop k body) (after (take k body)) (λ v. done (make v)))) bytes w
        → (Spells (inside n (drop k body) (after (take k body)) (λ v. done (make v))) bytes w → (v : A)
        × Spells (after (take k body)) (drop k body) v × (bytes ≡ []) × (make v ≡ w))
        → (u : A) × Spells (part k after) body u × (bytes ≡ []) × (make u ≡ w)
    by_test true e s again = absurd s
    by_test false e s again =
        let r = again s in
        let long : k ≤ length body = ltb-false _ _ e in (
          r.0,
          (take k body, drop k body, omega (arith, length-take k body), sym (take-append-drop k body), r.1),
          r.2,
          r.3,
        )
inside_spells n body (refuse fault) make bytes w s = absurd s

pub spells_inside : {A V : Type 0} (n : ℕ) (body : List ℕ) (f : Format A) (make : A → V) (v : A) → Spells f body v
    → Spells (inside n body f (λ v. done (make v))) [] (make v)
spells_inside {V = V} n body (done u) make v s =
    let none : eqb (length body) 0 ≡ true = eq-eqb _ _ (ap length s.0) in
    subst (λ (t : Bool). Spells (cond t (done (make u)) (refuse (λ at. AttributeLength (at - n - 6)))) [] (make v))
    (sym none) (refl, ap make s.1)
spells_inside {V = V} n body (part k after) make v s =
    let first = s.0 in
    let others = s.1 in
    let whole : body ≡ first ++ others = s.3 in
    let long : ltb (length body) k ≡ false =
    le-ltb _ _ (omega (arith, ap length whole, length-append first others, s.2)) in
    let front : take k body ≡ first = ap (take k) whole ∙ take_at first others k s.2 in
    let back : drop k body ≡ others = ap (drop k) whole ∙ drop_at first others k s.2 in
    let inner = spells_inside n others (after first) make v s.4 in
    let one : Spells (inside n (drop k body) (after (take k body)) (λ v. done (make v))) [] (make v) =
    subst (λ (t : List ℕ). Spells (inside n t (after (take k body)) (λ v. done (make v))) [] (make v)) (sym back)
    (subst (λ (t : List ℕ). Spells (inside n others (after t) (λ v. done (make v))) [] (make v)) (sym front) inner) in
    subst (λ (t : Bool). Spells (cond t (refuse (λ at. AttributeLength (at - n - 6)))
    (inside n (drop k body) (after (take k body)) (λ v. done (make v)))) [] (make v)) (sym long) one
spells_inside n body (refuse fault) make v s = absurd s

-- bytes after a length of four bytes
pub made_held : {V : Type 0} (make : List ℕ → V) → NumberLaw 4
    → Made (andthen (number 4) (λ n. part n (λ bytes. done (make bytes)))) make (λ bytes. lengthened (plain bytes ∷ []))
made_held {V = V} make law4 = record { has = has; only = only }
  where
    held : ℕ → Format V
    held n = part n (λ bytes. done (make bytes))

    has : (bytes : List ℕ) → ArePlain (lengthened (plain bytes ∷ []))
        → Spells (andthen (number 4) held) (text (lengthened (plain bytes ∷ []))) (make bytes)
    has bytes h =
        let n = length (bytes ++ []) in
        let p = plain_parts (field 4 n) (plain bytes ∷ []) h in
        let same : bytes ++ [] ≡ bytes = append-nil bytes in
        let body : Spells (held n) (bytes ++ []) (make bytes) =
        (bytes ++ [], [], refl, sym (append-nil (bytes ++ [])), (refl, ap make same)) in
        subst (λ (t : List ℕ). Spells (andthen (number 4) held) t (make bytes))
        (sym (text_append (field 4 n) (plain bytes ∷ [])))
        (andthen_spelled (number 4) held (text (field 4 n)) (bytes ++ []) n (make bytes)
        ((made_number 4 law4).has n p.0) body)

    only : (v : V) (bytes : List ℕ) → AreBytes bytes → Spells (andthen (number 4) held) bytes v → (b : List ℕ)
        × (make b ≡ v) × (bytes ≡ text (lengthened (plain b ∷ []))) × ArePlain (lengthened (plain b ∷ []))
    only v bytes fit s =
        let i = andthen_parts (number 4) held bytes v s in
        let bs = AreBytes-parts i.0 i.1 (subst AreBytes i.3 fit) in
        let x = (made_number 4 law4).only i.2 i.0 bs.0 i.4 in
        let t = i.5 in
        let b = t.0 in
        let n : x.0 ≡ length (b ++ []) = x.1 ∙ sym t.2 ∙ sym (ap length (append-nil b)) in
        let rest : i.1 ≡ b ++ [] = t.3 ∙ ap (λ (r : List ℕ). b ++ r) t.4.0 in (
          b,
          t.4.1,
          i.3 ∙ ap (λ (r : List ℕ). r ++ i.1) (x.2 ∙ ap (λ (k : ℕ). text (field 4 k)) n)
              ∙ ap (λ (r : List ℕ). text (field 4 (length (b ++ []))) ++ r) rest
              ∙ sym (text_append (field 4 (length (b ++ []))) (plain b ∷ [])),
          plain_append (field 4 (length (b ++ []))) (plain b ∷ []) (subst (λ (k : ℕ). ArePlain (field 4 k)) n x.3) tt,
        )

-- ---- an attribute, as a program writes it

pub still : (p : List Piece) (w a b : Written) (mark : ℕ) → Begun w a mark → writes p a ≡ Ok b
    → mark + 4 ≤ length b.bytes
still p w a b mark begun body =
    let moved = writes_behind p a.bytes [] a.room a.wrong b body in
    omega (
      arith,
      ap length moved.0,
      length-append a.bytes (text p),
      ap length begun.bytes_are,
      length-append w.bytes (0 ∷ 0 ∷ 0 ∷ 0 ∷ []),
      begun.mark_is,
    )

named : (name : ℕ) (p : List Piece) (s w : Written) → writes (field 2 name) s ≡ Ok w
    → writes (field 2 name ++ lengthened p) s ≡ writes (lengthened p) w
named name p s w h = writes_append (field 2 name) (lengthened p) s
    ∙ ap (λ (r : Result Written WriteFault). then_writes r (lengthened p)) h

pub goes_end : (name : ℕ) (p : List Piece) (s w a b c : Written) (mark : ℕ) (r : Result (Unit {0}) WriteFault)
    → writes (field 2 name) s ≡ Ok w → Begun w a mark → writes p a ≡ Ok b
    → MatchResult r (λ _. Ended mark b c) (λ e. (e ≡ DoesNotFit) × (256 ^ 4 ≤ length b.bytes - mark - 4))
    → Goes (field 2 name ++ lengthened p) s c r
goes_end name p s w a b c mark (Ok x) h begun body m = named name p s w h ∙ lengthened_ok p w a b c mark begun body m
goes_end name p s w a b c mark (Err e) h begun body m =
    subst (λ (d : WriteFault). UnlessWriteMemory d (writes (field 2 name ++ lengthened p) s ≡ Err d)) (sym m.0)
    (named name p s w h ∙ lengthened_over p w a b mark begun body m.1)

pub goes_body : (name : ℕ) (p : List Piece) (s w a : Written) (mark : ℕ) (e : WriteFault)
    → writes (field 2 name) s ≡ Ok w → Begun w a mark → writes p a ≡ Err e
    → writes (field 2 name ++ lengthened p) s ≡ Err e
goes_body name p s w a mark e h begun body =
    let r = lengthened_err p w a mark e begun body in
    named name p s w h ∙ subst (λ (d : WriteFault). writes (lengthened p) w ≡ Err d) (sym r.0) r.1

pub goes_begin : (name : ℕ) (p : List Piece) (s w : Written) (e : WriteFault) → writes (field 2 name) s ≡ Ok w
    → (e ≡ DoesNotFit) × (w.room < 4) → writes (field 2 name ++ lengthened p) s ≡ Err e
goes_begin name p s w e h k =
    named name p s w h ∙ subst (λ (d : WriteFault). writes (lengthened p) w ≡ Err d) (sym k.0) (lengthened_none p w k.1)
