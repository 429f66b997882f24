-- Numbers that frames want of local variables, while more of them are gone through.
use Rattle.std.proofs.Common.{◌≡◌, ◌⊎◌, ◌∙◌, ℕ, zero, suc, ◌+◌, ◌*◌, ◌/◌, ◌<◌, ◌≤◌, Bool, true, false, cond, nat_eq, List, [], ◌∷◌, ◌++◌, length, get_or, slice_get, Option, Some, None, refl, sym, ap, subst, inl, inr, arith}
use Rattle.std.specs.Prelude.{◌||◌, IsTrue}
use Rattle.std.specs.List.{list_any}
use Rattle.std.specs.BTreeMap.{BTreeMap, get, is_at, Updates, IsEmpty}
use Rattle.std.specs.Map.{lookup}
use Rattle.std.specs.Cmp.{Equal-is}
use Rattle.std.specs.Ordering.{nat_cmp}
use Rattle.std.proofs.lemmas.Bool.{cases_lt, eqb-true}
use Rattle.std.proofs.lemmas.Map.Lookups.{exact_unsigned}
use Rattle.std.proofs.lemmas.Option.{slice_get_within}
use Rattle.hierarchy.specs.Answer.{yes}
use Rattle.frames.specs.Assignable.{type_answer}
use Rattle.type_numbers.specs.Numbers.{Numbering, IsGiven}
use Rattle.type_numbers.specs.Decoding.{type_by}
use Rattle.method_frames.specs.NumberedFrames.{NumberedFrame}
use Rattle.verify.specs.declared.pass.watching.Group.{Group}
use Rattle.verify.specs.declared.pass.watching.Wanted.{Wanted}
use Rattle.verify.specs.declared.pass.watching.Watch.{Watch}
use Rattle.verify.specs.private.pass.Representatives.{local_in, TakesLocal}
use Rattle.verify.specs.private.pass.Watching.{AreDeclared, GoesOn, Has, FitUpTo, AreFitting, IsWanted, HasAlike, IsGroup, IsWatch}
use Rattle.verify.proofs.numbered.Listed.{some_same, pushed_cases, pushed_before, pushed_last, index_at}

-- ---- maps

module _ {X : Type 0} where
  -- an updated map has what was put, or what it had
  pub updated_cases : (m n : BTreeMap ℕ X) (k : ℕ) (w : Option X) → Updates nat_cmp m n k w → (q : ℕ) (x : X) → get nat_cmp n q ≡ Some x → ((q ≡ k) × (w ≡ Some x)) ⊎ (get nat_cmp m q ≡ Some x)
  updated_cases m n k w u q x e = by (is_at (nat_cmp k) q) refl
    where
      reads : (b : Bool) → is_at (nat_cmp k) q ≡ b → get nat_cmp n q ≡ cond b w (get nat_cmp m q)
      reads b at = u.0 q ∙ ap (λ b. cond b w (get nat_cmp m q)) at

      by : (b : Bool) → is_at (nat_cmp k) q ≡ b → ((q ≡ k) × (w ≡ Some x)) ⊎ (get nat_cmp m q ≡ Some x)
      by true at = inl (sym (exact_unsigned k q ((Equal-is (nat_cmp k q)).0 at)), sym (reads true at) ∙ e)
      by false at = inr (sym (reads false at) ∙ e)

  -- all that a map has is so, if what was put is
  pub updated_all : (P : ℕ → X → Type 0) (m n : BTreeMap ℕ X) (k : ℕ) (x : X) → Updates nat_cmp m n k (Some x) → P k x
      → ((q : ℕ) (y : X) → get nat_cmp m q ≡ Some y → P q y) → (q : ℕ) (y : X) → get nat_cmp n q ≡ Some y → P q y
  updated_all P m n k x u this so q y e = elim (updated_cases m n k (Some x) u q y e) [
    | inl here ↦ subst (λ z. P q z) (some_same x y here.1) (subst (λ z. P z x) (sym here.0) this)
    | inr there ↦ so q y there
  ]

  -- or if nothing was
  pub removed_all : (P : ℕ → X → Type 0) (m n : BTreeMap ℕ X) (k : ℕ) → Updates nat_cmp m n k None
      → ((q : ℕ) (y : X) → get nat_cmp m q ≡ Some y → P q y) → (q : ℕ) (y : X) → get nat_cmp n q ≡ Some y → P q y
  removed_all P m n k u so q y e = elim (updated_cases m n k None u q y e) [
    | inl here ↦ absurd (let q = here.1 in cc)
    | inr there ↦ so q y there
  ]

  -- a map without entries has nothing
  pub empty_all : (P : ℕ → X → Type 0) (m : BTreeMap ℕ X) → IsEmpty m → (q : ℕ) (y : X) → get nat_cmp m q ≡ Some y → P q y
  empty_all P m none q y e = absurd (by m.entries none e)
    where
      by : (es : List (ℕ × X)) → es ≡ [] → lookup (is_at (nat_cmp q)) es ≡ Some y → ⊥
      by es none e = let f : lookup (is_at (nat_cmp q)) [] ≡ Some y = sym (ap (lookup (is_at (nat_cmp q))) none) ∙ e in cc

-- ---- lists

pub goes_on_itself : (ns : List ℕ) → GoesOn ns ns
goes_on_itself ns k n e = e

pub goes_on_pushed : (ns ms : List ℕ) (n : ℕ) → ms ≡ ns ++ n ∷ [] → GoesOn ns ms
goes_on_pushed ns ms n is k m e = ap (λ xs. slice_get xs k) is ∙ pushed_before ns n m k e

pub goes_on_longer : (ns ms : List ℕ) → GoesOn ns ms → length ns ≤ length ms
goes_on_longer [] ms on = omega arith
goes_on_longer (n ∷ ns) ms on =
    let lt : length ns < length (n ∷ ns) = omega arith in
    let last = on (length ns) (get_or (n ∷ ns) (length ns) n) (index_at (n ∷ ns) n (length ns) lt) in
    let within = slice_get_within ms (length ns) (get_or (n ∷ ns) (length ns) n) last in
    omega (arith, within)

-- what stands early in the longer list stands in the other one
pub goes_back : (ns ms : List ℕ) → GoesOn ns ms → (k n : ℕ) → k < length ns → slice_get ms k ≡ Some n → slice_get ns k ≡ Some n
goes_back ns ms on k n lt e =
    let here = index_at ns n k lt in
    here ∙ (sym (on k (get_or ns k n) here) ∙ e)

pub has_on : (ns ms : List ℕ) (n : ℕ) → GoesOn ns ms → Has ns n → Has ms n
has_on ns ms n on h = (h.0, on h.0 n h.1)

pub has_pushed : (ns ms : List ℕ) (n : ℕ) → ms ≡ ns ++ n ∷ [] → Has ms n
has_pushed ns ms n is = (length ns, ap (λ xs. slice_get xs (length ns)) is ∙ pushed_last ns n)

-- ---- what is wanted

module _ (s : Numbering) where
  pub fit_less : (number c d : ℕ) (ns : List ℕ) → d ≤ c → FitUpTo s number c ns → FitUpTo s number d ns
  fit_less number c d ns le fit k n lt e = fit k n (omega (arith, lt, le)) e

  pub fit_more : (number c m : ℕ) (ns : List ℕ) → slice_get ns c ≡ Some m → type_answer s.classes (type_by s number) (type_by s m) ≡ yes → FitUpTo s number c ns → FitUpTo s number (c + 1) ns
  fit_more number c m ns here takes fit k n lt e = elim (cases_lt k c) [
    | inl less ↦ fit k n less e
    | inr ge ↦
        (let same : k ≡ c = omega (arith, lt, ge) in
        let is : m ≡ n = some_same m n (sym here ∙ ap (slice_get ns) (sym same) ∙ e) in
        subst (λ z. type_answer s.classes (type_by s number) (type_by s z) ≡ yes) is takes)
  ]

  -- the list goes on
  pub fit_on : (number c : ℕ) (ns ms : List ℕ) → GoesOn ns ms → c ≤ length ns → FitUpTo s number c ns → FitUpTo s number c ms
  fit_on number c ns ms on le fit k n lt e = fit k n lt (goes_back ns ms on k n (omega (arith, lt, le)) e)

  pub fitting_pushed : (old new : Wanted) (n : ℕ) → IsGiven s n → new.numbers.items ≡ old.numbers.items ++ n ∷ [] → new.fitting ≡ old.fitting → AreFitting s old → AreFitting s new
  fitting_pushed old new n given is same are =
      let on = goes_on_pushed old.numbers.items new.numbers.items n is in
      let longer = goes_on_longer old.numbers.items new.numbers.items on in
      record {
        given = λ k m e. elim (pushed_cases old.numbers.items n m k (sym (ap (λ xs. slice_get xs k) is) ∙ e)) [
          | inl there ↦ are.given k m there
          | inr last ↦ subst (IsGiven s) last.1 given
        ];
        few = λ number count e. let few = are.few number count (sym (ap (λ z. get nat_cmp z number) same) ∙ e) in omega (arith, few, longer);
        fit = λ number count e.
            let was = sym (ap (λ z. get nat_cmp z number) same) ∙ e in
            fit_on number count old.numbers.items new.numbers.items on (are.few number count was) (are.fit number count was);
      }

  -- a number was compared with all
  pub fitting_kept : (old new : Wanted) (number : ℕ) → new.numbers ≡ old.numbers → Updates nat_cmp old.fitting new.fitting number (Some (length old.numbers.items))
      → FitUpTo s number (length old.numbers.items) old.numbers.items → AreFitting s old → AreFitting s new
  fitting_kept old new number same u fit are = record {
    given = λ k n e. are.given k n (sym (ap (λ z. slice_get z.items k) same) ∙ e);
    few = λ q c e.
        let few = updated_all (λ q c. c ≤ length old.numbers.items) old.fitting new.fitting number (length old.numbers.items) u (omega arith) are.few q c e in
        subst (λ z. c ≤ length z.items) (sym same) few;
    fit = λ q c e.
        subst (λ z. FitUpTo s q c z.items) (sym same)
        (updated_all (λ q c. FitUpTo s q c old.numbers.items) old.fitting new.fitting number (length old.numbers.items) u fit are.fit q c e);
  }

  module _ (ds : List (ℕ × NumberedFrame)) where
    -- the list of frames goes on
    pub wanted_on : (list more : List ℕ) (place : ℕ) (w : Wanted) → GoesOn list more → IsWanted s ds list place w → IsWanted s ds more place w
    wanted_on list more place w on is =
        let few = is.few in
        let longer = goes_on_longer list more on in
        record {
          fitting = is.fitting;
          few = omega (arith, few, longer);
          each = λ k f lt e. is.each k f lt (goes_back list more on k f (omega (arith, lt, few)) e);
        }

    -- one frame more was gone through
    pub wanted_more : (list : List ℕ) (place frame : ℕ) (old new : Wanted) → slice_get list old.seen ≡ Some frame → IsWanted s ds list place old
        → AreFitting s new → new.seen ≡ old.seen + 1 → GoesOn old.numbers.items new.numbers.items → Has new.numbers.items (local_in ds frame place) → IsWanted s ds list place new
    wanted_more list place frame old new here is fitting one on has =
        let within = slice_get_within list old.seen frame here in
        record {
          fitting = fitting;
          few = omega (arith, one, within);
          each = λ k f lt e. elim (cases_lt k old.seen) [
            | inl less ↦ has_on old.numbers.items new.numbers.items (local_in ds f place) on (is.each k f less e)
            | inr ge ↦
                (let same : k ≡ old.seen = omega (arith, lt, one, ge) in
                let same_frame : frame ≡ f = some_same frame f (sym here ∙ ap (slice_get list) (sym same) ∙ e) in
                subst (λ z. Has new.numbers.items (local_in ds z place)) same_frame has)
          ];
        }

    -- a number was compared with more of what is wanted
    pub wanted_kept : (list : List ℕ) (place : ℕ) (old new : Wanted) → IsWanted s ds list place old → AreFitting s new → new.seen ≡ old.seen → new.numbers ≡ old.numbers → IsWanted s ds list place new
    wanted_kept list place old new is fitting seen same =
        let few = is.few in
        record {
          fitting = fitting;
          few = omega (arith, few, seen);
          each = λ k f lt e. subst (λ z. Has z.items (local_in ds f place)) (sym same) (is.each k f (omega (arith, lt, seen)) e);
        }

    -- ---- groups

    pub alike_on : (at : ℕ) (fs gs : List ℕ) (frame : ℕ) → GoesOn fs gs → HasAlike ds at fs frame → HasAlike ds at gs frame
    alike_on at fs gs frame on h = record { place = h.place; one = h.one; here = on h.place h.one h.here; equal = h.equal }

    pub alike_pushed : (at : ℕ) (fs gs : List ℕ) (frame : ℕ) → gs ≡ fs ++ frame ∷ [] → HasAlike ds at gs frame
    alike_pushed at fs gs frame is = record {
      place = length fs;
      one = frame;
      here = ap (λ xs. slice_get xs (length fs)) is ∙ pushed_last fs frame;
      equal = λ k from to. refl;
    }

    pub declared_pushed : (fs gs : List ℕ) (frame : ℕ) → frame < length ds → gs ≡ fs ++ frame ∷ [] → AreDeclared ds fs → AreDeclared ds gs
    declared_pushed fs gs frame lt is are k f e = elim (pushed_cases fs frame f k (sym (ap (λ xs. slice_get xs k) is) ∙ e)) [
      | inl there ↦ are k f there
      | inr last ↦ subst (λ z. z < length ds) last.1 lt
    ]

    -- the list of frames goes on
    pub group_on : (list more : List ℕ) (at : ℕ) (g : Group) → GoesOn list more → IsGroup s ds list at g → IsGroup s ds more at g
    group_on list more at g on is =
        let few = is.few in
        let longer = goes_on_longer list more on in
        record {
          few = omega (arith, few, longer);
          declared = is.declared;
          each = λ k f lt e. is.each k f lt (goes_back list more on k f (omega (arith, lt, few)) e);
          locals = is.locals;
        }

    -- one frame more was gone through
    pub group_more : (list : List ℕ) (at frame : ℕ) (old new : Group) → slice_get list old.seen ≡ Some frame → IsGroup s ds list at old
        → new.seen ≡ old.seen + 1 → new.locals ≡ old.locals → GoesOn old.frames.items new.frames.items → AreDeclared ds new.frames.items → HasAlike ds at new.frames.items frame → IsGroup s ds list at new
    group_more list at frame old new here is one same on declared has =
        let within = slice_get_within list old.seen frame here in
        record {
          few = omega (arith, one, within);
          declared = declared;
          each = λ k f lt e. elim (cases_lt k old.seen) [
            | inl less ↦ alike_on at old.frames.items new.frames.items f on (is.each k f less e)
            | inr ge ↦
                (let same : k ≡ old.seen = omega (arith, lt, one, ge) in
                let same_frame : frame ≡ f = some_same frame f (sym here ∙ ap (slice_get list) (sym same) ∙ e) in
                subst (λ z. HasAlike ds at new.frames.items z) same_frame has)
          ];
          locals = λ place w e. wanted_on old.frames.items new.frames.items place w on (is.locals place w (sym (ap (λ z. get nat_cmp z place) same) ∙ e));
        }

    -- the frames of a list take a type, if those do that have their local variables
    pub alike_take : (list : List ℕ) (place number : ℕ) (g : Group) → IsGroup s ds list (place / 256) g → g.seen ≡ length list
        → ((k f : ℕ) → slice_get g.frames.items k ≡ Some f → TakesLocal s ds f place number)
        → (k f : ℕ) → slice_get list k ≡ Some f → TakesLocal s ds f place number
    alike_take list place number g is all each k f e =
        let within = slice_get_within list k f e in
        let like = is.each k f (omega (arith, within, all)) e in
        subst (λ z. type_answer s.classes (type_by s number) (type_by s z) ≡ yes) (sym (like.equal place (low place) (high place)))
        (each like.place like.one like.here)
      where
        low : (p : ℕ) → p / 256 * 256 ≤ p
        low p = omega arith

        high : (p : ℕ) → p < p / 256 * 256 + 256
        high p = omega arith

    -- or if it may stand for all that is wanted
    pub group_takes : (list : List ℕ) (place number : ℕ) (g : Group) (w : Wanted) → IsGroup s ds list (place / 256) g → g.seen ≡ length list
        → IsWanted s ds g.frames.items place w → w.seen ≡ length g.frames.items → FitUpTo s number (length w.numbers.items) w.numbers.items
        → (k f : ℕ) → slice_get list k ≡ Some f → TakesLocal s ds f place number
    group_takes list place number g w is all wants every fit =
        alike_take list place number g is all (λ k f here.
        let there = slice_get_within g.frames.items k f here in
        let has = wants.each k f (omega (arith, there, every)) here in
        fit has.0 (local_in ds f place) (slice_get_within w.numbers.items has.0 (local_in ds f place) has.1) has.1)

    pub watch_on : (list more : List ℕ) (w : Watch) → GoesOn list more → IsWatch s ds list w → IsWatch s ds more w
    watch_on list more w on is at g e = group_on list more at g on (is at g e)
