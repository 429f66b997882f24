-- The marks of code, instruction by instruction.
use Rattle.std.proofs.Common.{◌≡◌, ◌≢◌, ◌∙◌, ◌⊎◌, inl, inr, ℕ, ◌+◌, ◌-◌, ◌<◌, ◌≤◌, Bool, true, false, eqb, List, [], ◌∷◌, ◌++◌, length, drop, get_or, set, Option, Some, None, if◌then◌else◌, Result, Ok, refl, sym, ap, subst, arith}
use Rattle.std.proofs.lemmas.List.{map-append, drop_more, length-append, length-set, get_or-set_same, get_or-set_other}
use Rattle.std.proofs.lemmas.Bool.{cases_eq}
use Rattle.std.proofs.lemmas.Bool.Decides.{nat_tests}
use Rattle.layout.specs.Place.{Place}
use Rattle.insn.specs.declared.fault.CodeFault.{CodeFault}
use Rattle.insn.specs.declared.instruction.Insn.{Insn}
use Rattle.insn.specs.Instructions.{Instruction}
use Rattle.insn.specs.Code.{StepsThrough, StepsBy}
use Rattle.insn.specs.Meanings.{Act, New, act, made_index}
use Rattle.insn.specs.Offsets.{acts, at_offset, by_made}
use Rattle.insn.specs.Decoding.{or_none, instructions_in}
use Rattle.insn.specs.Views.{view, views}
use Rattle.insn.proofs.CodeLaws.{SoFar, given_step, code_step, code_whole, shorter, has_bytes}
use Rattle.insn.proofs.CodeResults.{only_result}
use Rattle.frames.specs.declared.code_starts.StartKind.{StartKind}
use Rattle.frames.specs.declared.code_starts.StartKind.TheVariants.{Inside}
use Rattle.frames.specs.DeclaredFrames.{is_new}
use Rattle.frames.specs.Marks.{IsMark, AreMarks, AreClear}

-- ---- the mark of an instruction

pub no_new : (a : Act) → None ≡ made_index a → is_new (Some a) ≡ false
no_new (New index) e = absurd cc
no_new a e = refl

pub one_new : (a : Act) (index : ℕ) → Some index ≡ made_index a → is_new (Some a) ≡ true
one_new (New i) index e = refl
one_new a index e = absurd cc

-- ---- one instruction more

last_other : (xs : List (ℕ × Act)) (x : ℕ × Act) (k : ℕ) → eqb x.0 k ≡ false → at_offset (xs ++ x ∷ []) k ≡ at_offset xs k
last_other [] x k e = ap (λ b. if b then Some x.1 else None) e
last_other (y ∷ xs) x k e = ap (λ (o : Option Act). if eqb y.0 k then Some y.1 else o) (last_other xs x k e)

last_here : (xs : List (ℕ × Act)) (x : ℕ × Act) (k : ℕ) → at_offset xs k ≡ None → eqb x.0 k ≡ true → at_offset (xs ++ x ∷ []) k ≡ Some x.1
last_here [] x k free e = ap (λ b. if b then Some x.1 else None) e
last_here (y ∷ xs) x k free e = by (eqb y.0 k) free (λ f. last_here xs x k f e)
  where
    by : (b : Bool) → (if b then Some y.1 else at_offset xs k) ≡ None → (at_offset xs k ≡ None → at_offset (xs ++ x ∷ []) k ≡ Some x.1) → (if b then Some y.1 else at_offset (xs ++ x ∷ []) k) ≡ Some x.1
    by true f g = absurd cc
    by false f g = g f

-- the bytes in front of the cursor are marked
pub record Marking (code : List ℕ) (p : Place) (marks : List StartKind) : Type 0 where
  pub done : List (ℕ × Instruction)
  pub so_far : SoFar code p done
  pub right : AreMarks marks (acts done)
  pub beyond : (k : ℕ) → p.at ≤ k → at_offset (acts done) k ≡ None
  pub long : length marks ≡ length code

pub clear_marked : (marks : List StartKind) → AreClear marks → AreMarks marks []
clear_marked marks h k = subst (λ (x : StartKind). IsMark x None) (sym (h k)) (record { start = refl; new = refl; index = refl })

module _ (code : List ℕ) (old new : Place) (marks : List StartKind) (step : Result (ℕ × Option ℕ) CodeFault) (x : ℕ × Option ℕ) (now : Marking code old marks) (stepped : StepsBy (λ (y : ℕ × Option ℕ). y) by_made old (Some step) new) (is : step ≡ Ok x) where
  told : (i : Instruction) × (x ≡ by_made (old.at, i)) × StepsThrough (λ (y : ℕ × Instruction). y) old (Some (Ok (old.at, i))) new
  told = given_step (λ (y : ℕ × Option ℕ). y) by_made old new step x stepped is

  instruction : Instruction
  instruction = told.0

  start : x.0 ≡ old.at
  start = ap (λ (y : ℕ × Option ℕ). y.0) told.1

  made : x.1 ≡ made_index (act instruction)
  unfolding instruction
  made = ap (λ (y : ℕ × Option ℕ). y.1) told.1

  read : StepsThrough (λ (y : ℕ × Instruction). y) old (Some (Ok (old.at, instruction))) new
  unfolding instruction
  read = told.2

  pub marking_shorter : length new.rest < length old.rest
  marking_shorter = shorter read.1 instruction old new read.2 read.3

  pub marking_within : x.0 < length marks
  marking_within =
      let less = marking_shorter in
      let whole : length code ≡ length (now.so_far.0 ++ old.rest) = ap (λ (l : List ℕ). length l) now.so_far.1 in
      omega (arith, less, whole, length-append now.so_far.0 old.rest, now.so_far.2, start, now.long)

  split : acts (now.done ++ (x.0, instruction) ∷ []) ≡ acts now.done ++ (x.0, act instruction) ∷ []
  split = map-append (λ (y : ℕ × Instruction). (y.0, act y.1)) now.done ((x.0, instruction) ∷ [])

  free : at_offset (acts now.done) x.0 ≡ None
  free = now.beyond x.0 (omega (arith, start))

  right_here : (m : StartKind) → IsMark m (Some (act instruction)) → IsMark (get_or (set marks x.0 m) x.0 Inside) (at_offset (acts now.done ++ (x.0, act instruction) ∷ []) x.0)
  right_here m h =
      let same : eqb x.0 x.0 ≡ true = grind (arith, nat_tests) in
      rw (get_or-set_same marks x.0 m Inside marking_within, last_here (acts now.done) (x.0, act instruction) x.0 free same) h

  right_there : (m : StartKind) (k : ℕ) → k ≢ x.0 → IsMark (get_or (set marks x.0 m) k Inside) (at_offset (acts now.done ++ (x.0, act instruction) ∷ []) k)
  right_there m k other =
      let differs : eqb x.0 k ≡ false = grind (arith, nat_tests, other) in
      rw (get_or-set_other marks x.0 k m Inside other, last_other (acts now.done) (x.0, act instruction) k differs) (now.right k)

  right_at : (m : StartKind) → IsMark m (Some (act instruction)) → (k : ℕ) → IsMark (get_or (set marks x.0 m) k Inside) (at_offset (acts now.done ++ (x.0, act instruction) ∷ []) k)
  right_at m h k = by (cases_eq k x.0)
    where
      by : (k ≡ x.0) ⊎ (k ≢ x.0) → IsMark (get_or (set marks x.0 m) k Inside) (at_offset (acts now.done ++ (x.0, act instruction) ∷ []) k)
      by (inl e) = subst (λ (j : ℕ). IsMark (get_or (set marks x.0 m) j Inside) (at_offset (acts now.done ++ (x.0, act instruction) ∷ []) j)) (sym e) (right_here m h)
      by (inr other) = right_there m k other

  beyond_new : (k : ℕ) → new.at ≤ k → at_offset (acts now.done ++ (x.0, act instruction) ∷ []) k ≡ None
  beyond_new k le =
      let longer : x.0 < new.at = omega (arith, start, read.3.at, has_bytes old.at read.1 (Ok instruction) read.2) in
      let differs : eqb x.0 k ≡ false = grind (arith, nat_tests, longer, le) in
      last_other (acts now.done) (x.0, act instruction) k differs ∙ now.beyond k (omega (arith, longer, start, le))

  pub marking_next : (m : StartKind) → ((a : Act) → x.1 ≡ made_index a → IsMark m (Some a)) → Marking code new (set marks x.0 m)
  marking_next m marked = let h = marked (act instruction) made in record {
    done = now.done ++ (x.0, instruction) ∷ [];
    so_far = code_step code now.done (now.done ++ (x.0, instruction) ∷ []) old new (x.0, instruction) now.so_far start refl (read.1, read.2, read.3);
    right = λ k. subst (λ (xs : List (ℕ × Act)). IsMark (get_or (set marks x.0 m) k Inside) (at_offset xs k)) (sym split) (right_at m h k);
    beyond = λ k le. ap (λ (xs : List (ℕ × Act)). at_offset xs k) split ∙ beyond_new k le;
    long = length-set marks x.0 m ∙ now.long;
  }

-- ---- the end

pub marking_last : (code : List ℕ) (p : Place) (marks : List StartKind) → Marking code p marks → p.rest ≡ [] → AreMarks marks (acts (instructions_in code))
marking_last code p marks now end =
    let whole = code_whole code now.done p now.so_far (ap (λ (l : List ℕ). length l) end) in
    subst (λ (xs : List (ℕ × Instruction)). AreMarks marks (acts xs)) (sym (ap or_none (only_result code (Ok now.done) whole))) now.right

-- ---- a list from its end

pub marked_front : (marks : List StartKind) (x : ℕ × Act) (xs : List (ℕ × Act)) (m : StartKind) → x.0 < length marks → IsMark m (Some x.1) → AreMarks marks xs → AreMarks (set marks x.0 m) (x ∷ xs)
marked_front marks x xs m lt h rest k = by (cases_eq k x.0)
  where
    by : (k ≡ x.0) ⊎ (k ≢ x.0) → IsMark (get_or (set marks x.0 m) k Inside) (at_offset (x ∷ xs) k)
    by (inl e) =
        let same : eqb x.0 k ≡ true = grind (arith, nat_tests, e) in
        let here : get_or (set marks x.0 m) k Inside ≡ m = ap (λ j. get_or (set marks x.0 m) j Inside) e ∙ get_or-set_same marks x.0 m Inside lt in
        rw (here, same) h
    by (inr other) =
        let differs : eqb x.0 k ≡ false = grind (arith, nat_tests, other) in
        rw (get_or-set_other marks x.0 k m Inside other, differs) (rest k)

pub marked_from : (list : List (ℕ × Insn)) (i : ℕ) (marks : List StartKind) (d : ℕ × Insn) (m : StartKind) (at : ℕ) → 0 < i → i ≤ length list → at ≡ (get_or list (i - 1) d).0 → at < length marks
    → IsMark m (Some (act (view (get_or list (i - 1) d).1))) → AreMarks marks (acts (views (drop i list))) → AreMarks (set marks at m) (acts (views (drop (i - 1) list)))
marked_from list i marks d m at more le e lt h rest =
    let x = get_or list (i - 1) d in
    let one : i - 1 + 1 ≡ i = omega (arith, more) in
    let split : drop (i - 1) list ≡ x ∷ drop i list = drop_more list (i - 1) d (omega (arith, more, le)) ∙ ap (λ (n : ℕ). x ∷ drop n list) one in
    rw (split, e) (marked_front marks (x.0, act (view x.1)) (acts (views (drop i list))) m (omega (arith, e, lt)) h rest)
