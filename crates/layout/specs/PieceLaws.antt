-- Words of the code's own steps: of them a reader must believe `Writes` with `Made`, and `counted`; the others are
-- lemmas. `Writes f pieces` says that f spells exactly the values whose pieces are plain,
-- each by its pieces, part by part as the format is.
use Rattle.std.proofs.Common.{get_or, map, ◌≡◌, ℕ, ◌+◌, ◌-◌, ◌^◌, ◌<◌, ◌≤◌, Bool, true, false, cond, ◌||◌, Option, Some, None, ltb, zero, suc, List, [], ◌∷◌, ◌++◌, length, take, drop, Result, Ok, Err, refl, sym, ap, subst, ◌∙◌, append_assoc, arith}
use Rattle.std.specs.List.{flat_map}
use Rattle.std.specs.Prelude.{MatchResult}
use Rattle.std.proofs.lemmas.Bool.{ltb-false, ltb-true, le-ltb, lt-ltb}
use Rattle.std.proofs.lemmas.List.{length-append, length-drop, length-take, append-nil, take_at, drop_at, drop-drop, nil_from_length, take_all}
pub use Rattle.std.specs.Prelude.{not}
use Rattle.byteorder.specs.Endian.{big_bytes}
use Rattle.layout.specs.declared.fault.WriteFault.{WriteFault}
use Rattle.layout.specs.declared.fault.WriteFault.TheVariants.{DoesNotFit, HasNoSpelling, OutOfMemory}
use Rattle.layout.specs.Format.{AreBytes, Format, done, part, refuse, Spells, andthen, number, times}
use Rattle.layout.specs.FormatLaws.{AreBytes-parts, andthen_spelled, andthen_parts, NumberLaw, number_is, number_spelled, headed}
use Rattle.layout.specs.Numbers.{number_below}
use Rattle.layout.specs.Faults.{UnlessWriteMemory}
use Rattle.layout.specs.declared.limits.TheConstants.{MAX_CLASS_BYTES}
use Rattle.layout.specs.Pieces.{has_over, has_unspelled, too_large, cannot, blank, Delivers, Goes, Puts, Piece, plain, over, unspelled, sized, field, text, ArePlain, lengthened, Written, writes, then_writes}

-- ---- pieces one after the other

pub text_append : (a b : List Piece) → text (a ++ b) ≡ text a ++ text b
text_append [] b = refl
text_append (plain bytes ∷ a) b =
    ap (λ (t : List ℕ). bytes ++ t) (text_append a b) ∙ sym (append_assoc bytes (text a) (text b))
text_append (over ∷ a) b = text_append a b
text_append (unspelled ∷ a) b = text_append a b

pub plain_parts : (a b : List Piece) → ArePlain (a ++ b) → ArePlain a × ArePlain b
plain_parts [] b h = (tt, h)
plain_parts (plain bytes ∷ a) b h = plain_parts a b h
plain_parts (over ∷ a) b h = absurd h
plain_parts (unspelled ∷ a) b h = absurd h

pub plain_append : (a b : List Piece) → ArePlain a → ArePlain b → ArePlain (a ++ b)
plain_append [] b h k = k
plain_append (plain bytes ∷ a) b h k = plain_append a b h k
plain_append (over ∷ a) b h k = absurd h
plain_append (unspelled ∷ a) b h k = absurd h

pub writes_append : (a b : List Piece) (w : Written) → writes (a ++ b) w ≡ then_writes (writes a w) b
writes_append [] b w = refl
writes_append (plain bytes ∷ a) b w =
    by_test (ltb w.room (length bytes)) _ _
    (writes_append a b (record { bytes = w.bytes ++ bytes; room = w.room - length bytes; wrong = w.wrong }))
  where
    by_test : (t : Bool) (r s : Result Written WriteFault) → r ≡ then_writes s b
        → cond t (Err DoesNotFit) r ≡ then_writes (cond t (Err DoesNotFit) s) b
    by_test true r s h = refl
    by_test false r s h = h
writes_append (over ∷ a) b w = refl
writes_append (unspelled ∷ a) b w = writes_append a b (record { bytes = w.bytes; room = w.room; wrong = true })

-- ---- The format spells exactly the values that `make` gives, each by its pieces.

pub record Made {A V : Type 0} (f : Format V) (make : A → V) (pieces : A → List Piece) : Type 0 where
  pub has : (a : A) → ArePlain (pieces a) → Spells f (text (pieces a)) (make a)
  pub only : (v : V) (bytes : List ℕ) → AreBytes bytes → Spells f bytes v → (a : A) × (make a ≡ v)
      × (bytes ≡ text (pieces a)) × ArePlain (pieces a)

abbrev pub Writes : {V : Type 0} → Format V → (V → List Piece) → Type 0
Writes f pieces = Made f (λ v. v) pieces

pub made_done : {V : Type 0} (v : V) → Made {A = Unit {0}} (done v) (λ x. v) (λ x. [])
made_done v = record { has = λ a h. (refl, refl); only = λ w bytes fit s. (tt, s.1, s.0, tt) }

pub made_refuse : {V : Type 0} (fault : _) → Made {A = ⊥} {V = V} (refuse fault) (λ x. absurd x) (λ x. [])
made_refuse fault = record { has = λ a h. absurd a; only = λ w bytes fit s. absurd s }

pub made_then : {A B U V : Type 0} {f : Format U}
    (next : U → Format V) {first : A → U} {p : A → List Piece} {make : A → B → V} {q : A → B → List Piece}
    → Made f first p → ((a : A) → Made (next (first a)) (make a) (q a))
    → Made {A = A × B} (andthen f next) (λ x. make x.0 x.1) (λ x. p x.0 ++ q x.0 x.1)
made_then {A = A} {B = B} {U = U} {V = V} {f = f} next {first = first} {p = p} {make = make} {q = q} one two = record {
  has = λ x h.
      let parts = plain_parts (p x.0) (q x.0 x.1) h in
      subst (λ (t : List ℕ). Spells (andthen f next) t (make x.0 x.1)) (sym (text_append (p x.0) (q x.0 x.1)))
      (andthen_spelled f next (text (p x.0)) (text (q x.0 x.1)) (first x.0) (make x.0 x.1) (one.has x.0 parts.0)
      ((two x.0).has x.1 parts.1));
  only = only;
}
  where
    only : (v : V) (bytes : List ℕ) → AreBytes bytes → Spells (andthen f next) bytes v
        → (x : A × B) × (make x.0 x.1 ≡ v) × (bytes ≡ text (p x.0 ++ q x.0 x.1)) × ArePlain (p x.0 ++ q x.0 x.1)
    only v bytes fit s =
        let i = andthen_parts f next bytes v s in
        let bs = AreBytes-parts i.0 i.1 (subst AreBytes i.3 fit) in
        let x = one.only i.2 i.0 bs.0 i.4 in
        let rest : Spells (next (first x.0)) i.1 v = subst (λ (u : U). Spells (next u) i.1 v) (sym x.1) i.5 in
        let y = (two x.0).only v i.1 bs.1 rest in (
          (x.0, y.0),
          y.1,
          i.3 ∙ ap (λ (t : List ℕ). t ++ i.1) x.2 ∙ ap (λ (t : List ℕ). text (p x.0) ++ t) y.2
              ∙ sym (text_append (p x.0) (q x.0 y.0)),
          plain_append (p x.0) (q x.0 y.0) x.3 y.3,
        )

-- a number
sized_fits : (n v : ℕ) (b : Bool) → ltb v (256 ^ n) ≡ b → ArePlain (cond b (plain (big_bytes n v)) over ∷ [])
    → v < 256 ^ n
sized_fits n v true e h = ltb-true _ _ e
sized_fits n v false e h = absurd h

pub sized_plain : (n v : ℕ) → v < 256 ^ n → sized n v ≡ plain (big_bytes n v)
sized_plain n v lt = ap (λ (b : Bool). cond b (plain (big_bytes n v)) over) (lt-ltb _ _ lt)

pub made_number : (n : ℕ) → NumberLaw n → Writes (number n) (field n)
unfolding field
made_number n law = record {
  has = λ v h.
      let lt = sized_fits n v (ltb v (256 ^ n)) refl h in
      subst (λ (t : List ℕ). Spells (number n) t v) (sym (is v lt)) (number_spelled n law v lt);
  only = λ v bytes fit s.
      let lt = number_below n bytes v fit s in (
        v,
        refl,
        number_is n law bytes v fit s ∙ sym (is v lt),
        subst (λ (x : Piece). ArePlain (x ∷ [])) (sym (sized_plain n v lt)) tt,
      );
}
  where
    is : (v : ℕ) → v < 256 ^ n → text (field n v) ≡ big_bytes n v
    is v lt = ap (λ (x : Piece). text (x ∷ [])) (sized_plain n v lt) ∙ append-nil (big_bytes n v)

-- values that are put together from their parts
pub made_whole : {A V : Type 0} {f : Format V} {make : A → V} {p : A → List Piece} (parts : V → A)
    → ((v : V) → make (parts v) ≡ v) → ((a : A) → parts (make a) ≡ a)
    → Made f make p → Writes f (λ v. p (parts v))
made_whole {A = A} {f = f} {make = make} {p = p} parts back forth m = record {
  has = λ v h. subst (λ (w : _). Spells f (text (p (parts v))) w) (back v) (m.has (parts v) h);
  only = λ v bytes fit s.
      let x = m.only v bytes fit s in
      let is : x.0 ≡ parts v = sym (forth x.0) ∙ ap parts x.1 in
      (v, refl, x.2 ∙ ap (λ (a : A). text (p a)) is, subst (λ (a : A). ArePlain (p a)) is x.3);
}

-- so many of the same
times_has : {V : Type 0} {f : Format V} {p : V → List Piece} → Writes f p → (vs : List V) → ArePlain (flat_map p vs)
    → Spells (times (length vs) f) (text (flat_map p vs)) vs
unfolding times
times_has m [] h = (refl, refl)
times_has {V = V} {f = f} {p = p} m (v ∷ vs) h =
    let parts = plain_parts (p v) (flat_map p vs) h in
    let n = length vs in
    let last = andthen_spelled (times n f) (λ others. done (v ∷ others)) (text (flat_map p vs)) [] vs (v ∷ vs)
    (times_has m vs parts.1) (refl, refl) in
    let plainly = subst (λ (t : List ℕ). Spells (andthen (times n f) (λ others. done (v ∷ others))) t (v ∷ vs))
    (append-nil (text (flat_map p vs))) last in
    subst (λ (t : List ℕ). Spells (times (suc n) f) t (v ∷ vs)) (sym (text_append (p v) (flat_map p vs)))
    (andthen_spelled f (λ u. andthen (times n f) (λ others. done (u ∷ others))) (text (p v)) (text (flat_map p vs)) v
    (v ∷ vs) (m.has v parts.0) plainly)

times_only : {V : Type 0} {f : Format V} {p : V → List Piece} → Writes f p → (n : ℕ) (vs : List V) (bytes : List ℕ)
    → AreBytes bytes → Spells (times n f) bytes vs
    → (length vs ≡ n) × (bytes ≡ text (flat_map p vs)) × ArePlain (flat_map p vs)
unfolding times
times_only {V = V} {f = f} {p = p} m zero vs bytes fit s = (
  sym (ap length s.1),
  s.0 ∙ ap (λ (t : List V). text (flat_map p t)) s.1,
  subst (λ (t : List V). ArePlain (flat_map p t)) s.1 tt,
)
times_only {V = V} {f = f} {p = p} m (suc n) vs bytes fit s =
    let i = andthen_parts f (λ v. andthen (times n f) (λ others. done (v ∷ others))) bytes vs s in
    let bs = AreBytes-parts i.0 i.1 (subst AreBytes i.3 fit) in
    let x = m.only i.2 i.0 bs.0 i.4 in
    let j = andthen_parts (times n f) (λ others. done (i.2 ∷ others)) i.1 vs i.5 in
    let cs = AreBytes-parts j.0 j.1 (subst AreBytes j.3 bs.1) in
    let y = times_only m n j.2 j.0 cs.0 j.4 in
    let one : i.0 ≡ text (p i.2) = x.2 ∙ ap (λ (t : V). text (p t)) x.1 in
    let one_plain : ArePlain (p i.2) = subst (λ (t : V). ArePlain (p t)) x.1 x.3 in
    let rest : i.1 ≡ text (flat_map p j.2) = j.3 ∙ ap (λ (t : List ℕ). j.0 ++ t) j.5.0 ∙ append-nil j.0 ∙ y.1 in
    let whole : i.2 ∷ j.2 ≡ vs = j.5.1 in (
      sym (ap length whole) ∙ ap suc y.0,
      i.3 ∙ ap (λ (t : List ℕ). t ++ i.1) one ∙ ap (λ (t : List ℕ). text (p i.2) ++ t) rest
          ∙ sym (text_append (p i.2) (flat_map p j.2)) ∙ ap (λ (t : List V). text (flat_map p t)) whole,
      subst (λ (t : List V). ArePlain (flat_map p t)) whole (plain_append (p i.2) (flat_map p j.2) one_plain y.2),
    )

-- a count of two bytes, and so many
abbrev pub counted : {V : Type 0} → (V → List Piece) → List V → List Piece
counted p vs = field 2 (length vs) ++ flat_map p vs

pub made_counted : {V : Type 0} {f : Format V} {p : V → List Piece} → NumberLaw 2 → Writes f p
    → Writes (andthen (number 2) (λ n. times n f)) (counted p)
made_counted {V = V} {f = f} {p = p} law m = record {
  has = λ vs h.
      let parts = plain_parts (field 2 (length vs)) (flat_map p vs) h in
      subst (λ (t : List ℕ). Spells (andthen (number 2) (λ n. times n f)) t vs)
      (sym (text_append (field 2 (length vs)) (flat_map p vs)))
      (andthen_spelled (number 2) (λ n. times n f) (text (field 2 (length vs))) (text (flat_map p vs)) (length vs) vs
      ((made_number 2 law).has (length vs) parts.0) (times_has m vs parts.1));
  only = only;
}
  where
    only : (vs : List V) (bytes : List ℕ) → AreBytes bytes → Spells (andthen (number 2) (λ n. times n f)) bytes vs
        → (x : List V) × (x ≡ vs) × (bytes ≡ text (counted p x)) × ArePlain (counted p x)
    only vs bytes fit s =
        let i = andthen_parts (number 2) (λ n. times n f) bytes vs s in
        let bs = AreBytes-parts i.0 i.1 (subst AreBytes i.3 fit) in
        let x = (made_number 2 law).only i.2 i.0 bs.0 i.4 in
        let y = times_only m i.2 vs i.1 bs.1 i.5 in
        let n : x.0 ≡ length vs = x.1 ∙ sym y.0 in (
          vs,
          refl,
          i.3 ∙ ap (λ (t : List ℕ). t ++ i.1) (x.2 ∙ ap (λ (k : ℕ). text (field 2 k)) n)
              ∙ ap (λ (t : List ℕ). text (field 2 (length vs)) ++ t) y.1
              ∙ sym (text_append (field 2 (length vs)) (flat_map p vs)),
          plain_append (field 2 (length vs)) (flat_map p vs) (subst (λ (k : ℕ). ArePlain (field 2 k)) n x.3) y.2,
        )

-- ---- attributes: a name index, a length of four bytes and a body

-- Which body a name index has, and the value that it makes: the rest of the format takes no bytes.
pub record Bodies {A V : Type 0} (pick : ℕ → ℕ → List ℕ → Format V) (name_of : A → ℕ) (make : A → V)
    (pieces : A → List Piece) : Type 0 where
  pub has : (a : A) → ArePlain (pieces a)
      → Spells (pick (name_of a) (length (text (pieces a))) (text (pieces a))) [] (make a)
  pub only : (name : ℕ) (body bytes : List ℕ) (v : V) → AreBytes body → Spells (pick name (length body) body) bytes v
      → (bytes ≡ []) × (a : A) × (make a ≡ v) × (name_of a ≡ name) × (body ≡ text (pieces a)) × ArePlain (pieces a)

pub made_headed : {A V : Type 0} {pick : ℕ → ℕ → List ℕ → Format V} {name_of : A → ℕ} {make : A → V} {pieces : A
    → List Piece} → NumberLaw 2 → NumberLaw 4
    → Bodies pick name_of make pieces → Made (headed pick) make (λ a. field 2 (name_of a) ++ lengthened (pieces a))
made_headed {A = A} {V = V} {pick = pick} {name_of = name_of} {make = make} {pieces = p} law2 law4 m =
    record { has = has; only = only }
  where
    body_of : ℕ → ℕ → Format V
    body_of name n = part n (λ body. pick name n body)

    has : (a : A) → ArePlain (field 2 (name_of a) ++ lengthened (p a))
        → Spells (headed pick) (text (field 2 (name_of a) ++ lengthened (p a))) (make a)
    has a h =
        let n = length (text (p a)) in
        let name = name_of a in
        let one = plain_parts (field 2 name) (lengthened (p a)) h in
        let two = plain_parts (field 4 n) (p a) one.1 in
        let body : Spells (body_of name n) (text (p a)) (make a) =
        (text (p a), [], refl, sym (append-nil (text (p a))), m.has a two.1) in
        let long = andthen_spelled (number 4) (body_of name) (text (field 4 n)) (text (p a)) n (make a)
        ((made_number 4 law4).has n two.0) body in
        let all = andthen_spelled (number 2) (λ name. andthen (number 4) (body_of name)) (text (field 2 name))
        (text (field 4 n) ++ text (p a)) name (make a) ((made_number 2 law2).has name one.0) long in
        subst (λ (t : List ℕ). Spells (headed pick) t (make a))
        (ap (λ (t : List ℕ). text (field 2 name) ++ t) (sym (text_append (field 4 n) (p a)))
        ∙ sym (text_append (field 2 name) (lengthened (p a)))) all

    only : (v : V) (bytes : List ℕ) → AreBytes bytes → Spells (headed pick) bytes v
        → (a : A) × (make a ≡ v) × (bytes ≡ text (field 2 (name_of a) ++ lengthened (p a)))
        × ArePlain (field 2 (name_of a) ++ lengthened (p a))
    only v bytes fit s =
        let i = andthen_parts (number 2) (λ name. andthen (number 4) (body_of name)) bytes v s in
        let bs = AreBytes-parts i.0 i.1 (subst AreBytes i.3 fit) in
        let x = (made_number 2 law2).only i.2 i.0 bs.0 i.4 in
        let j = andthen_parts (number 4) (body_of i.2) i.1 v i.5 in
        let cs = AreBytes-parts j.0 j.1 (subst AreBytes j.3 bs.1) in
        let y = (made_number 4 law4).only j.2 j.0 cs.0 j.4 in
        let t = j.5 in
        let ds = AreBytes-parts t.0 t.1 (subst AreBytes t.3 cs.1) in
        let picked : Spells (pick i.2 (length t.0) t.0) t.1 v =
        subst (λ (k : ℕ). Spells (pick i.2 k t.0) t.1 v) (sym t.2) t.4 in
        let z = m.only i.2 t.0 t.1 v ds.0 picked in
        let a = z.1 in
        let name : x.0 ≡ name_of a = x.1 ∙ sym z.3 in
        let body : j.1 ≡ text (p a) = t.3 ∙ ap (λ (r : List ℕ). t.0 ++ r) z.0 ∙ append-nil t.0 ∙ z.4 in
        let len : y.0 ≡ length (text (p a)) = y.1 ∙ sym t.2 ∙ ap length z.4 in (
          a,
          z.2,
          i.3 ∙ ap (λ (r : List ℕ). r ++ i.1) (x.2 ∙ ap (λ (k : ℕ). text (field 2 k)) name)
              ∙ ap (λ (r : List ℕ). text (field 2 (name_of a)) ++ r)
              (j.3 ∙ ap (λ (r : List ℕ). r ++ j.1) (y.2 ∙ ap (λ (k : ℕ). text (field 4 k)) len)
              ∙ ap (λ (r : List ℕ). text (field 4 (length (text (p a)))) ++ r) body
              ∙ sym (text_append (field 4 (length (text (p a)))) (p a)))
              ∙ sym (text_append (field 2 (name_of a)) (lengthened (p a))),
          plain_append (field 2 (name_of a)) (lengthened (p a)) (subst (λ (k : ℕ). ArePlain (field 2 k)) name x.3)
              (plain_append (field 4 (length (text (p a)))) (p a)
              (subst (λ (k : ℕ). ArePlain (field 4 k)) len y.3) z.5),
        )

-- ---- a length that is filled in once its body is written

pub record Begun (w a : Written) (mark : ℕ) : Type 0 where
  pub mark_is : mark ≡ length w.bytes
  pub bytes_are : a.bytes ≡ w.bytes ++ (0 ∷ 0 ∷ 0 ∷ 0 ∷ [])
  pub enough : 4 ≤ w.room
  pub room_is : a.room ≡ w.room - 4
  pub wrong_is : a.wrong ≡ w.wrong

pub record Ended (mark : ℕ) (b c : Written) : Type 0 where
  pub fits : length b.bytes - mark - 4 < 256 ^ 4
  pub bytes_are : c.bytes ≡ take mark b.bytes ++ (big_bytes 4 (length b.bytes - mark - 4) ++ drop (mark + 4) b.bytes)
  pub room_is : c.room ≡ b.room
  pub wrong_is : c.wrong ≡ b.wrong

abbrev good : Written → Result Written WriteFault
good w = Ok w

-- the same pieces after other bytes
pub writes_behind : (p : List Piece) (x y : List ℕ) (room : ℕ) (wrong : Bool) (b : Written)
    → writes p (record { bytes = x; room = room; wrong = wrong }) ≡ Ok b
    → (b.bytes ≡ x ++ text p) × (writes p (record { bytes = y; room = room; wrong = wrong })
    ≡ Ok (record { bytes = y ++ text p; room = b.room; wrong = b.wrong }))
writes_behind [] x y room wrong b e =
    let made : Written = record { bytes = x; room = room; wrong = wrong } in
    let same : made ≡ b = cc in
    subst (λ (b : Written). (b.bytes ≡ x ++ [])
    × (writes [] (record { bytes = y; room = room; wrong = wrong })
    ≡ Ok (record { bytes = y ++ []; room = b.room; wrong = b.wrong }))) same (
      sym (append-nil x),
      ap (λ (t : List ℕ). good (record { bytes = t; room = room; wrong = wrong }))
          (sym (append-nil y)),
    )
writes_behind (plain bytes ∷ p) x y room wrong b e =
    by_test (ltb room (length bytes)) e (writes_behind p (x ++ bytes) (y ++ bytes) (room - length bytes) wrong b)
  where
    by_test : (t : Bool) → cond t (Err DoesNotFit)
        (writes p (record { bytes = x ++ bytes; room = room - length bytes; wrong = wrong })) ≡ Ok b
        → (writes p (record { bytes = x ++ bytes; room = room - length bytes; wrong = wrong }) ≡ Ok b
        → (b.bytes ≡ (x ++ bytes) ++ text p)
        × (writes p (record { bytes = y ++ bytes; room = room - length bytes; wrong = wrong })
        ≡ Ok (record { bytes = (y ++ bytes) ++ text p; room = b.room; wrong = b.wrong })))
        → (b.bytes ≡ x ++ (bytes ++ text p))
        × (cond t (Err DoesNotFit) (writes p
        (record { bytes = y ++ bytes; room = room - length bytes; wrong = wrong }))
        ≡ Ok (record { bytes = y ++ (bytes ++ text p); room = b.room; wrong = b.wrong }))
    by_test true h again = absurd cc
    by_test false h again =
        let r = again h in (
          r.0 ∙ append_assoc x bytes (text p),
          r.1
              ∙ ap (λ (t : List ℕ). good (record { bytes = t; room = b.room; wrong = b.wrong }))
              (append_assoc y bytes (text p)),
        )
writes_behind (over ∷ p) x y room wrong b e = absurd cc
writes_behind (unspelled ∷ p) x y room wrong b e = writes_behind p x y room true b e

pub refused_behind : (p : List Piece) (x y : List ℕ) (room more : ℕ) (wrong other : Bool) (e : WriteFault) → more ≤ room
    → writes p (record { bytes = x; room = room; wrong = wrong }) ≡ Err e
    → (e ≡ DoesNotFit) × (writes p (record { bytes = y; room = more; wrong = other }) ≡ Err DoesNotFit)
refused_behind [] x y room more wrong other e le h = absurd cc
refused_behind (plain bytes ∷ p) x y room more wrong other e le h =
    by_test (ltb room (length bytes)) (ltb more (length bytes)) refl refl h
    (λ lt. refused_behind p (x ++ bytes) (y ++ bytes) (room - length bytes) (more - length bytes) wrong other e lt)
  where
    by_test : (t u : Bool) → ltb room (length bytes) ≡ t → ltb more (length bytes) ≡ u
        → cond t (Err DoesNotFit) (writes p (record { bytes = x ++ bytes; room = room - length bytes; wrong = wrong }))
        ≡ Err e
        → (more - length bytes ≤ room - length bytes
        → writes p (record { bytes = x ++ bytes; room = room - length bytes; wrong = wrong }) ≡ Err e
        → (e ≡ DoesNotFit) × (writes p (record { bytes = y ++ bytes; room = more - length bytes; wrong = other })
        ≡ Err DoesNotFit))
        → (e ≡ DoesNotFit) × (cond u (Err DoesNotFit)
        (writes p (record { bytes = y ++ bytes; room = more - length bytes; wrong = other })) ≡ Err DoesNotFit)
    by_test t true et eu h again = (is t h, refl)
      where
        is : (t : Bool) → cond t (Err DoesNotFit)
            (writes p (record { bytes = x ++ bytes; room = room - length bytes; wrong = wrong })) ≡ Err e
            → e ≡ DoesNotFit
        is true h = cc
        is false h = let k : more - length bytes ≤ room - length bytes = omega (arith, le) in (again k h).0
    by_test true false et eu h again = absurd (omega (arith, ltb-true _ _ et, ltb-false _ _ eu, le))
    by_test false false et eu h again = again (omega (arith, le)) h
refused_behind (over ∷ p) x y room more wrong other e le h = (cc, refl)
refused_behind (unspelled ∷ p) x y room more wrong other e le h = refused_behind p x y room more true true e le h

-- what filling in four bytes after the first `mark` makes
pub filled : (items a back f rest w : List ℕ) (mark n : ℕ) → a ≡ take mark items → back ≡ drop mark items
    → f ≡ take 4 back → rest ≡ drop 4 back → w ≡ big_bytes 4 n ++ drop 4 f → n ≡ length back - 4
    → mark + 4 ≤ length items
    → a ++ (w ++ rest) ≡ take mark items ++ (big_bytes 4 (length items - mark - 4) ++ drop (mark + 4) items)
filled items a back f rest w mark n ha hb hf hr hw hn le =
    let len : length back ≡ length items - mark = ap length hb ∙ length-drop mark items in
    let four : length f ≡ 4 = omega (arith, ap length hf, length-take 4 back, len, le) in
    let none : drop 4 f ≡ [] = nil_from_length (drop 4 f) (omega (arith, length-drop 4 f, four)) in
    let size : n ≡ length items - mark - 4 = omega (arith, hn, len) in
    let behind : rest ≡ drop (mark + 4) items = hr ∙ ap (drop 4) hb ∙ drop-drop 4 mark items in
    let middle : w ≡ big_bytes 4 (length items - mark - 4) =
    hw ∙ ap (λ (t : List ℕ). big_bytes 4 n ++ t) none ∙ ap (big_bytes 4) size in
    ap (λ (t : List ℕ). t ++ (w ++ rest)) ha ∙ ap (λ (t : List ℕ). take mark items ++ (t ++ rest)) middle
    ∙ ap (λ (t : List ℕ). take mark items ++ (big_bytes 4 (length items - mark - 4) ++ t)) behind

abbrev refused : Result Written WriteFault
refused = Err DoesNotFit

abbrev made_of : List ℕ → ℕ → Bool → Written
made_of bytes room wrong = record { bytes = bytes; room = room; wrong = wrong }

-- the length stands before its body
headed_writes : (p : List Piece) (w : Written) → length (text p) < 256 ^ 4 → 4 ≤ w.room
    → writes (lengthened p) w ≡ writes p (made_of (w.bytes ++ big_bytes 4 (length (text p))) (w.room - 4) w.wrong)
unfolding field
headed_writes p w lt le =
    let n = length (text p) in
    let more : Written = made_of (w.bytes ++ big_bytes 4 n) (w.room - 4) w.wrong in
    ap (λ (x : Piece). writes (x ∷ p) w) (sized_plain 4 n lt)
    ∙ ap (λ (t : Bool). cond t refused (writes p more)) (le-ltb _ _ le)

pub lengthened_ok : (p : List Piece) (w a b c : Written) (mark : ℕ) → Begun w a mark → writes p a ≡ Ok b
    → Ended mark b c → writes (lengthened p) w ≡ Ok c
lengthened_ok p w a b c mark begun body ended =
    let n = length (text p) in
    let zeros : List ℕ = 0 ∷ 0 ∷ 0 ∷ 0 ∷ [] in
    let moved = writes_behind p a.bytes (w.bytes ++ big_bytes 4 n) a.room a.wrong b body in
    let whole : b.bytes ≡ (w.bytes ++ zeros) ++ text p = moved.0 ∙ ap (λ (t : List ℕ). t ++ text p) begun.bytes_are in
    let sizes : length (w.bytes ++ zeros) ≡ mark + 4 = omega (arith, length-append w.bytes zeros, begun.mark_is) in
    let size : length b.bytes - mark - 4 ≡ n =
    omega (arith, ap length whole, length-append (w.bytes ++ zeros) (text p), sizes) in
    let front : take mark b.bytes ≡ w.bytes =
    ap (take mark) (whole ∙ append_assoc w.bytes zeros (text p))
    ∙ take_at w.bytes (zeros ++ text p) mark (sym begun.mark_is) in
    let back : drop (mark + 4) b.bytes ≡ text p =
    ap (drop (mark + 4)) whole ∙ drop_at (w.bytes ++ zeros) (text p) (mark + 4) sizes in
    let bytes : c.bytes ≡ (w.bytes ++ big_bytes 4 n) ++ text p =
    ended.bytes_are ∙ ap (λ (t : List ℕ). t
    ++ (big_bytes 4 (length b.bytes - mark - 4) ++ drop (mark + 4) b.bytes)) front
    ∙ ap (λ (k : ℕ). w.bytes ++ (big_bytes 4 k ++ drop (mark + 4) b.bytes)) size
    ∙ ap (λ (t : List ℕ). w.bytes ++ (big_bytes 4 n ++ t)) back
    ∙ sym (append_assoc w.bytes (big_bytes 4 n) (text p)) in
    let fits : n < 256 ^ 4 = omega (arith, ended.fits, size) in
    headed_writes p w fits begun.enough
    ∙ ap (λ (k : ℕ). writes p (made_of (w.bytes ++ big_bytes 4 n) k w.wrong)) (sym begun.room_is)
    ∙ ap (λ (t : Bool). writes p (made_of (w.bytes ++ big_bytes 4 n) a.room t)) (sym begun.wrong_is)
    ∙ moved.1
    ∙ ap (λ (t : List ℕ). good (made_of t b.room b.wrong)) (sym bytes)
    ∙ ap (λ (k : ℕ). good (made_of c.bytes k b.wrong)) (sym ended.room_is)
    ∙ ap (λ (t : Bool). good (made_of c.bytes c.room t)) (sym ended.wrong_is)

pub lengthened_over : (p : List Piece) (w a b : Written) (mark : ℕ) → Begun w a mark → writes p a ≡ Ok b
    → 256 ^ 4 ≤ length b.bytes - mark - 4 → writes (lengthened p) w ≡ Err DoesNotFit
unfolding field
lengthened_over p w a b mark begun body large =
    let n = length (text p) in
    let zeros : List ℕ = 0 ∷ 0 ∷ 0 ∷ 0 ∷ [] in
    let moved = writes_behind p a.bytes [] a.room a.wrong b body in
    let whole : b.bytes ≡ (w.bytes ++ zeros) ++ text p = moved.0 ∙ ap (λ (t : List ℕ). t ++ text p) begun.bytes_are in
    let past : ltb n (256 ^ 4) ≡ false =
    le-ltb _ _ (omega (
      arith,
      large,
      ap length whole,
      length-append (w.bytes ++ zeros) (text p),
      length-append w.bytes zeros,
      begun.mark_is,
    )) in
    ap (λ (t : Bool). writes (cond t (plain (big_bytes 4 n)) over ∷ p) w) past

pub lengthened_none : (p : List Piece) (w : Written) → w.room < 4 → writes (lengthened p) w ≡ Err DoesNotFit
unfolding field
lengthened_none p w lt = by_test (ltb (length (text p)) (256 ^ 4))
  where
    by_test : (t : Bool) → writes (cond t (plain (big_bytes 4 (length (text p)))) over ∷ p) w ≡ Err DoesNotFit
    by_test true = ap (λ (t : Bool). cond t refused
        (writes p (made_of (w.bytes ++ big_bytes 4 (length (text p))) (w.room - 4) w.wrong))) (lt-ltb _ _ lt)
    by_test false = refl

pub lengthened_err : (p : List Piece) (w a : Written) (mark : ℕ) (e : WriteFault) → Begun w a mark → writes p a ≡ Err e
    → (e ≡ DoesNotFit) × (writes (lengthened p) w ≡ Err DoesNotFit)
unfolding field
lengthened_err p w a mark e begun body =
    let n = length (text p) in
    let moved = refused_behind p a.bytes (w.bytes ++ big_bytes 4 n) a.room (w.room - 4) a.wrong w.wrong e
    (omega (arith, begun.room_is)) body in
    (moved.0, by_test (ltb n (256 ^ 4)) moved.1)
  where
    by_test : (t : Bool) → writes p (made_of (w.bytes ++ big_bytes 4 (length (text p))) (w.room - 4) w.wrong)
        ≡ Err DoesNotFit → writes (cond t (plain (big_bytes 4 (length (text p)))) over ∷ p) w ≡ Err DoesNotFit
    by_test true h = by_room (ltb w.room 4) h
      where
        by_room : (t : Bool) → writes p (made_of (w.bytes ++ big_bytes 4 (length (text p))) (w.room - 4) w.wrong)
            ≡ Err DoesNotFit → cond t refused
            (writes p (made_of (w.bytes ++ big_bytes 4 (length (text p))) (w.room - 4) w.wrong)) ≡ Err DoesNotFit
        by_room true h = refl
        by_room false h = h
    by_test false h = refl

-- ---- what writing returns

pub record WrittenAll (p : List Piece) (w b : Written) : Type 0 where
  pub none_over : has_over p ≡ false
  pub within : length (text p) ≤ w.room
  pub bytes_are : b.bytes ≡ w.bytes ++ text p
  pub wrong_is : b.wrong ≡ (w.wrong || has_unspelled p)

pub or_true : (b : Bool) → (b || true) ≡ true
or_true true = refl
or_true false = refl

pub or_false : (b : Bool) → (b || false) ≡ b
or_false true = refl
or_false false = refl

written_all : (p : List Piece) (w b : Written) → writes p w ≡ Ok b → WrittenAll p w b
written_all [] w b e =
    let same : w ≡ b = cc in
    record {
      none_over = refl;
      within = omega arith;
      bytes_are =
          ap (λ (x : Written). x.bytes) (sym same) ∙ sym (append-nil w.bytes);
      wrong_is =
          ap (λ (x : Written). x.wrong) (sym same) ∙ sym (or_false w.wrong);
    }
written_all (plain bytes ∷ p) w b e =
    by_test (ltb w.room (length bytes)) refl e
    (λ h. written_all p (made_of (w.bytes ++ bytes) (w.room - length bytes) w.wrong) b h)
  where
    more : Written
    more = made_of (w.bytes ++ bytes) (w.room - length bytes) w.wrong

    by_test : (t : Bool) → ltb w.room (length bytes) ≡ t
        → cond t (Err DoesNotFit) (writes p (made_of (w.bytes ++ bytes) (w.room - length bytes) w.wrong)) ≡ Ok b
        → (writes p (made_of (w.bytes ++ bytes) (w.room - length bytes) w.wrong) ≡ Ok b
        → WrittenAll p (made_of (w.bytes ++ bytes) (w.room - length bytes) w.wrong) b)
        → WrittenAll (plain bytes ∷ p) w b
    by_test true g h again = absurd cc
    by_test false g h again =
        let r = again h in
        record {
          none_over = r.none_over;
          within =
              omega (arith, r.within, ltb-false _ _ g, length-append bytes (text p));
          bytes_are =
              r.bytes_are ∙ append_assoc w.bytes bytes (text p);
          wrong_is = r.wrong_is;
        }
written_all (over ∷ p) w b e = absurd cc
written_all (unspelled ∷ p) w b e =
    let r = written_all p (record { bytes = w.bytes; room = w.room; wrong = true }) b e in
    record {
      none_over = r.none_over;
      within = r.within;
      bytes_are = r.bytes_are;
      wrong_is =
          r.wrong_is ∙ sym (or_true w.wrong);
    }

too_much : (p : List Piece) (w : Written) (e : WriteFault) → writes p w ≡ Err e → (e ≡ DoesNotFit)
    × ((has_over p || ltb w.room (length (text p))) ≡ true)
too_much [] w e h = absurd cc
too_much (plain bytes ∷ p) w e h =
    by_test (ltb w.room (length bytes)) refl h
    (λ k. too_much p (made_of (w.bytes ++ bytes) (w.room - length bytes) w.wrong) e k)
  where
    by_over : (o : Bool) → (o || ltb (w.room - length bytes) (length (text p))) ≡ true
        → (o || ltb w.room (length (bytes ++ text p))) ≡ true
    by_over true k = refl
    by_over false k = lt-ltb _ _ (omega (arith, ltb-true _ _ k, length-append bytes (text p)))

    first : (o : Bool) → w.room < length bytes → (o || ltb w.room (length (bytes ++ text p))) ≡ true
    first true k = refl
    first false k = lt-ltb _ _ (omega (arith, k, length-append bytes (text p)))

    by_test : (t : Bool) → ltb w.room (length bytes) ≡ t
        → cond t (Err DoesNotFit) (writes p
        (record { bytes = w.bytes ++ bytes; room = w.room - length bytes; wrong = w.wrong })) ≡ Err e
        → (writes p (made_of (w.bytes ++ bytes) (w.room - length bytes) w.wrong) ≡ Err e → (e ≡ DoesNotFit)
        × ((has_over p || ltb (w.room - length bytes) (length (text p))) ≡ true))
        → (e ≡ DoesNotFit) × ((has_over p || ltb w.room (length (bytes ++ text p))) ≡ true)
    by_test true g k again = (cc, first (has_over p) (ltb-true _ _ g))
    by_test false g k again = let r = again k in (r.0, by_over (has_over p) r.1)
too_much (over ∷ p) w e h = (cc, refl)
too_much (unspelled ∷ p) w e h = too_much p (record { bytes = w.bytes; room = w.room; wrong = true }) e h

abbrev none : Option WriteFault
none = None

-- why, by its three tests
abbrev why : (over large wrong : Bool) → Option WriteFault
why o l w = cond (o || l) (Some DoesNotFit) (cond w (Some HasNoSpelling) None)

pub cannot_is : (p : List Piece) (o l w : Bool) → has_over p ≡ o → ltb MAX_CLASS_BYTES (length (text p)) ≡ l
    → has_unspelled p ≡ w → cannot p ≡ why o l w
unfolding cannot
cannot_is p o l w ho hl hw =
    ap (λ (t : Bool). why t (ltb MAX_CLASS_BYTES (length (text p))) (has_unspelled p)) ho
    ∙ ap (λ (t : Bool). why o t (has_unspelled p)) hl ∙ ap (λ (t : Bool). why o l t) hw

-- what a program tells that wrote the pieces into nothing
pub told_ok : (p : List Piece) (b : Written) → writes p blank ≡ Ok b → b.wrong ≡ false → (cannot p ≡ None)
    × (b.bytes ≡ text p)
told_ok p b e right =
    let r = written_all p blank b e in
    (cannot_is p false false false r.none_over (le-ltb _ _ r.within) (sym r.wrong_is ∙ right), r.bytes_are)

pub told_wrong : (p : List Piece) (b : Written) → writes p blank ≡ Ok b → b.wrong ≡ true → cannot p ≡ Some HasNoSpelling
told_wrong p b e wrong =
    let r = written_all p blank b e in
    cannot_is p false false true r.none_over (le-ltb _ _ r.within) (sym r.wrong_is ∙ wrong)

because_large : (p : List Piece) → too_large p ≡ true → cannot p ≡ Some DoesNotFit
unfolding cannot
because_large p k = ap (λ (t : Bool). cond t (Some DoesNotFit) (cond (has_unspelled p) (Some HasNoSpelling) None)) k

pub told_err : (p : List Piece) (e : WriteFault) → writes p blank ≡ Err e → cannot p ≡ Some e
told_err p e h =
    let r = too_much p blank e h in
    subst (λ (d : WriteFault). cannot p ≡ Some d) (sym r.0) (because_large p r.1)

-- ---- laws of values

pub plain_cannot : (p : List Piece) → ArePlain p → (has_over p ≡ false) × (has_unspelled p ≡ false)
plain_cannot [] h = (refl, refl)
plain_cannot (plain bytes ∷ p) h = plain_cannot p h
plain_cannot (over ∷ p) h = absurd h
plain_cannot (unspelled ∷ p) h = absurd h

pub can_plain : (p : List Piece) → has_over p ≡ false → has_unspelled p ≡ false → ArePlain p
can_plain [] h k = tt
can_plain (plain bytes ∷ p) h k = can_plain p h k
can_plain (over ∷ p) h k = absurd cc
can_plain (unspelled ∷ p) h k = absurd cc

pub can : (p : List Piece) → cannot p ≡ None → ArePlain p × (length (text p) ≤ MAX_CLASS_BYTES)
can p h = by_tests (has_over p) (ltb MAX_CLASS_BYTES (length (text p))) (has_unspelled p) refl refl refl
  where
    by_tests : (o l w : Bool) → has_over p ≡ o → ltb MAX_CLASS_BYTES (length (text p)) ≡ l → has_unspelled p ≡ w
        → ArePlain p × (length (text p) ≤ MAX_CLASS_BYTES)
    by_tests false false false ho hl hw = (can_plain p ho hw, ltb-false _ _ hl)
    by_tests false false true ho hl hw = absurd (let e = cannot_is p false false true ho hl hw in cc)
    by_tests false true w ho hl hw = absurd (let e = cannot_is p false true w ho hl hw in cc)
    by_tests true l w ho hl hw = absurd (let e = cannot_is p true l w ho hl hw in cc)

-- where nothing is said against a value it has a spelling, and no other
pub spells_if : {V : Type 0} {f : Format V} {p : V → List Piece} → Writes f p → (v : V) → cannot (p v) ≡ None
    → Spells f (text (p v)) v × (length (text (p v)) ≤ MAX_CLASS_BYTES)
spells_if {p = p} m v h = let c = can (p v) h in (m.has v c.0, c.1)

pub no_other : {V : Type 0} {f : Format V} {p : V → List Piece} → Writes f p → (v : V) (a b : List ℕ) → AreBytes a
    → AreBytes b → Spells f a v → Spells f b v → a ≡ b
no_other {V = V} {p = p} m v a b fit gif s t =
    let x = m.only v a fit s in
    let y = m.only v b gif t in
    x.2 ∙ ap (λ (w : V). text (p w)) (x.1 ∙ sym y.1) ∙ sym y.2

-- a value that cannot be written has no spelling but one of too many bytes
pub spells_none : {V : Type 0} {f : Format V} {p : V → List Piece} → Writes f p
    → (v : V) (e : WriteFault) (bytes : List ℕ) → cannot (p v) ≡ Some e → AreBytes bytes → Spells f bytes v
    → (e ≡ DoesNotFit) × (MAX_CLASS_BYTES < length bytes)
spells_none {V = V} {p = p} m v e bytes h fit s =
    let x = m.only v bytes fit s in
    let same : bytes ≡ text (p v) = x.2 ∙ ap (λ (w : V). text (p w)) x.1 in
    let c = plain_cannot (p v) (subst (λ (w : V). ArePlain (p w)) x.1 x.3) in
    by_length (ltb MAX_CLASS_BYTES (length (text (p v)))) refl c.0 c.1 same
  where
    by_length : (l : Bool) → ltb MAX_CLASS_BYTES (length (text (p v))) ≡ l → has_over (p v) ≡ false
        → has_unspelled (p v) ≡ false → bytes ≡ text (p v) → (e ≡ DoesNotFit) × (MAX_CLASS_BYTES < length bytes)
    by_length true hl ho hw same = let k = cannot_is (p v) false true false ho hl hw in
        (cc, omega (arith, ltb-true _ _ hl, ap length same))
    by_length false hl ho hw same = absurd (let k = cannot_is (p v) false false false ho hl hw in cc)

-- what was read is written as it was
pub reads_back : {V : Type 0} {f : Format V} {p : V → List Piece} → Writes f p → (v : V) (bytes : List ℕ)
    → AreBytes bytes → length bytes ≤ MAX_CLASS_BYTES → Spells f bytes v → (cannot (p v) ≡ None) × (text (p v) ≡ bytes)
reads_back {V = V} {p = p} m v bytes fit le s =
    let x = m.only v bytes fit s in
    let same : bytes ≡ text (p v) = x.2 ∙ ap (λ (w : V). text (p w)) x.1 in
    let c = plain_cannot (p v) (subst (λ (w : V). ArePlain (p w)) x.1 x.3) in
    (cannot_is (p v) false false false c.0 (le-ltb _ _ (omega (arith, le, ap length same))) c.1, sym same)

pub delivers_err : {X : Type 0} (p : List Piece) (bytes : X → List ℕ) (e : WriteFault)
    → UnlessWriteMemory e (writes p blank ≡ Err e) → Delivers p bytes (Err e)
delivers_err p bytes OutOfMemory h = tt
delivers_err p bytes DoesNotFit h = told_err p DoesNotFit h
delivers_err p bytes HasNoSpelling h = told_err p HasNoSpelling h

pub told : (p : List Piece) (w : Written) (r : Result (Unit {0}) WriteFault) (e : WriteFault) → r ≡ Err e
    → Goes p blank w r → UnlessWriteMemory e (cannot p ≡ Some e)
told p w r e is g = delivers_err {X = ℕ} p (λ n. []) e
    (subst (λ (r : Result (Unit {0}) WriteFault). Goes p blank w r) is g)

pub wrote : (p : List Piece) (w : Written) (r : Result (Unit {0}) WriteFault) (x : Unit {0}) → r ≡ Ok x
    → Goes p blank w r → writes p blank ≡ Ok w
wrote p w r x is g = subst (λ (r : Result (Unit {0}) WriteFault). Goes p blank w r) is g

-- a number alone
pub number_put : (n v : ℕ) → v < 256 ^ 2 → (cannot (field 2 v) ≡ None) × (text (field 2 v) ≡ big_bytes 2 v)
unfolding cannot field
number_put n v lt = (
  ap (λ (x : Piece). cond (has_over (x ∷ []) || ltb MAX_CLASS_BYTES (length (text (x ∷ [])))) (Some DoesNotFit)
      (cond (has_unspelled (x ∷ [])) (Some HasNoSpelling) None)) (sized_plain 2 v lt),
  ap (λ (x : Piece). text (x ∷ [])) (sized_plain 2 v lt),
)

pub puts_number : (v : ℕ) (old new : List ℕ) (r : Result (Unit {0}) WriteFault) → v < 256 ^ 2
    → MatchResult r (λ _. new ≡ old ++ big_bytes 2 v) (λ e. (e ≡ OutOfMemory) × (new ≡ old))
    → Puts (field 2 v) old new r
puts_number v old new (Ok x) lt m = let t = number_put 2 v lt in (t.0, m ∙ ap (λ (b : List ℕ). old ++ b) (sym t.1))
puts_number v old new (Err e) lt m =
    (subst (λ (d : WriteFault). UnlessWriteMemory d (cannot (field 2 v) ≡ Some d)) (sym m.0) tt, m.1)

-- a value that is made of one part
pub made_last : {A U V : Type 0} {f : Format U} (mk : U → V) {first : A → U} {p : A → List Piece} → Made f first p
    → Made (andthen f (λ u. done (mk u))) (λ a. mk (first a)) p
made_last {V = V} {f = f} mk {first = first} {p = p} m = record {
  has = λ a h. subst (λ (t : List ℕ). Spells (andthen f (λ u. done (mk u))) t (mk (first a))) (append-nil (text (p a)))
      (andthen_spelled f (λ u. done (mk u)) (text (p a)) [] (first a) (mk (first a)) (m.has a h) (refl, refl));
  only = λ v bytes fit s.
      let i = andthen_parts f (λ u. done (mk u)) bytes v s in
      let bs = AreBytes-parts i.0 i.1 (subst AreBytes i.3 fit) in
      let x = m.only i.2 i.0 bs.0 i.4 in
      (x.0, ap mk x.1 ∙ i.5.1, i.3 ∙ ap (λ (t : List ℕ). i.0 ++ t) i.5.0 ∙ append-nil i.0 ∙ x.2, x.3);
}

-- ---- a list, as a program writes it, one after the other

abbrev pub others : {X : Type 0} → List X → List X
others all = take (length all - 1) (drop 1 all)

-- a list is its first and the others
pub split : {X : Type 0} (all : List X) (x : X) → 1 ≤ length all → x ≡ get_or all 0 x → all ≡ x ∷ others all
split [] x le is = absurd (omega (arith, le))
split {X = X} (y ∷ ys) x le is =
    let n : length (y ∷ ys) - 1 ≡ length ys = omega arith in
    ap (λ (z : X). z ∷ ys) (sym is)
    ∙ ap (λ (t : List X). x ∷ t) (sym (ap (λ (k : ℕ). take k ys) n ∙ take_all (length ys) ys (omega arith)))

one_of : {X V : Type 0} (view : X → V) (p : V → List Piece) (all : List X) (x : X) (w : Written) → 1 ≤ length all
    → x ≡ get_or all 0 x
    → writes (flat_map p (map view all)) w ≡ then_writes (writes (p (view x)) w) (flat_map p (map view (others all)))
one_of {X = X} view p all x w le is =
    ap (λ (t : List X). writes (flat_map p (map view t)) w) (split all x le is)
    ∙ writes_append (p (view x)) (flat_map p (map view (others all))) w

pub rest_ok : {X V : Type 0} (view : X → V) (p : V → List Piece) (all : List X) (x : X) (w m : Written)
    (total : Result Written WriteFault) → 1 ≤ length all → x ≡ get_or all 0 x
    → writes (p (view x)) w ≡ Ok m → writes (flat_map p (map view all)) w ≡ total
    → writes (flat_map p (map view (others all))) m ≡ total
rest_ok view p all x w m total le is h so_far =
    sym (one_of view p all x w le is
    ∙ ap (λ (r : Result Written WriteFault). then_writes r (flat_map p (map view (others all)))) h) ∙ so_far

pub rest_err : {X V : Type 0} (view : X → V) (p : V → List Piece) (all : List X) (x : X) (w : Written)
    (total : Result Written WriteFault) (e : WriteFault) → 1 ≤ length all → x ≡ get_or all 0 x
    → writes (flat_map p (map view all)) w ≡ total → writes (p (view x)) w ≡ Err e → total ≡ Err e
rest_err view p all x w total e le is so_far h =
    sym so_far ∙ one_of view p all x w le is
    ∙ ap (λ (r : Result Written WriteFault). then_writes r (flat_map p (map view (others all)))) h

pub rest_end : {X V : Type 0} (view : X → V) (p : V → List Piece) (all : List X) (w : Written)
    (total : Result Written WriteFault) → length all < 1 → writes (flat_map p (map view all)) w ≡ total → total ≡ Ok w
rest_end {X = X} view p all w total lt so_far =
    sym so_far ∙ ap (λ (t : List X). writes (flat_map p (map view t)) w) (nil_from_length all (omega (arith, lt)))
