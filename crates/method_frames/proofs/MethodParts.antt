-- The frames of a method by their parts, and as they change.
use Rattle.std.proofs.Common.{◌≡◌, ◌∙◌, ℕ, suc, ◌+◌, ◌<◌, ◌≤◌, Bool, List, [], ◌∷◌, ◌++◌, Option, Some, None, Result, Ok, Err, OnOk, OnErr, length, set, map, get_or, slice_get, refl, sym, ap, ap₂, subst, inl, inr, arith}
use Rattle.std.specs.Prelude.{MatchOption}
use Rattle.std.proofs.lemmas.Option.{slice_get_read}
use Rattle.std.proofs.lemmas.List.{length-map, length-append, length-set, get_or-map, get_or_append_left, get_or_push, map_push}
use Rattle.hierarchy.specs.Answer.{yes}
use Rattle.insn.specs.Offsets.{at_offset}
use Rattle.frames.specs.Assignable.{type_answer}
use Rattle.frames.specs.FrameAssignable.{list_answer}
use Rattle.type_numbers.specs.Decoding.{type_by, types_by}
use Rattle.method_frames.specs.NumberedRows.{NumberedRows, declared_in}
use Rattle.method_frames.specs.NumberedStacks.{NumberedStacks, declared_stack}
use Rattle.method_frames.specs.NumberedFrames.{NumberedFrame, NumberedFrames, empty_frame, declared_frame}
use Rattle.method_frames.specs.private.Frames.{frame_at, frames_of, HasParts, IsPlaceTable, AreFrames}
use Rattle.method_frames.specs.declared.method_frames.Declared.{Declared}
use Rattle.method_frames.proofs.Answering.{each_fits}
use Rattle.method_frames.proofs.Heights.{declared_more, get_end}
use Rattle.method_frames.proofs.Offsets.{same_table, table_more}

-- declared rows stay, and the running one is as long as it was
pub record RowsGrow (old new : NumberedRows) : Type 0 where
  pub types : new.types ≡ old.types
  pub long : length new.running ≡ length old.running
  pub more : length old.declared ≤ length new.declared
  pub same : (row : ℕ) → row < length old.declared → declared_in new row ≡ declared_in old row

-- declared stacks stay
pub record StacksGrow (old new : NumberedStacks) : Type 0 where
  pub types : new.types ≡ old.types
  pub more : length old.declared ≤ length new.declared
  pub same : (stack : ℕ) → stack < length old.declared → declared_stack new stack ≡ declared_stack old stack

abbrev pub stacks_more : NumberedStacks → NumberedStacks
stacks_more x = record x { declared = x.declared ++ x.running ∷ [] }

-- ---- by what calls say

pub rows_run : (old new : NumberedRows) (row : List ℕ) → length row ≡ length old.running → new ≡ record old { running = row } → RowsGrow old new
rows_run old new row long e = record {
  types = ap (λ r. r.types) e;
  long = ap (λ r. length r.running) e ∙ long;
  more = let same = ap (λ r. length r.declared) e in omega (arith, same);
  same = λ k lt. ap (λ r. declared_in r k) e;
}

pub rows_stay : (old new : NumberedRows) → new ≡ old → RowsGrow old new
rows_stay old new e = record {
  types = ap (λ r. r.types) e;
  long = ap (λ r. length r.running) e;
  more = let same = ap (λ r. length r.declared) e in omega (arith, same);
  same = λ k lt. ap (λ r. declared_in r k) e;
}

pub rows_kept : (old new : NumberedRows) → new ≡ record old { kept = old.running } → RowsGrow old new
rows_kept old new e = record {
  types = ap (λ r. r.types) e;
  long = ap (λ r. length r.running) e;
  more = let same = ap (λ r. length r.declared) e in omega (arith, same);
  same = λ k lt. ap (λ r. declared_in r k) e;
}

pub rows_set : {E : Type 0} (old new : NumberedRows) (place n : ℕ) (r : Result Unit E) → OnOk r (new ≡ record old { running = set old.running place n }) → OnErr r (new ≡ old) → RowsGrow old new
rows_set old new place n (Ok u) ok err = rows_run old new (set old.running place n) (length-set old.running place n) ok
rows_set old new place n (Err e) ok err = rows_stay old new err

pub rows_declared : (old new : NumberedRows) → new ≡ declared_more old → RowsGrow old new
rows_declared old new e = record {
  types = ap (λ r. r.types) e;
  long = ap (λ r. length r.running) e;
  more = let same = ap (λ r. length r.declared) e ∙ length-append old.declared (old.running ∷ []) in omega (arith, same);
  same = λ k lt. ap (λ r. declared_in r k) e ∙ get_or_append_left old.declared (old.running ∷ []) [] k lt;
}

pub stacks_run : (old new : NumberedStacks) (stack : List ℕ) → new ≡ record old { running = stack } → StacksGrow old new
stacks_run old new stack e = record {
  types = ap (λ r. r.types) e;
  more = let same = ap (λ r. length r.declared) e in omega (arith, same);
  same = λ k lt. ap (λ r. declared_stack r k) e;
}

pub stacks_stay : (old new : NumberedStacks) → new ≡ old → StacksGrow old new
stacks_stay old new e = record {
  types = ap (λ r. r.types) e;
  more = let same = ap (λ r. length r.declared) e in omega (arith, same);
  same = λ k lt. ap (λ r. declared_stack r k) e;
}

pub stacks_pushed : {E : Type 0} (old new : NumberedStacks) (stack : List ℕ) (r : Result Unit E) → OnOk r (new ≡ record old { running = stack }) → OnErr r (new ≡ old) → StacksGrow old new
stacks_pushed old new stack (Ok u) ok err = stacks_run old new stack ok
stacks_pushed old new stack (Err e) ok err = stacks_stay old new err

pub stacks_moved : {E : Type 0} (old new : NumberedStacks) (stack : List ℕ) (r : Result Unit E) → OnOk r (new ≡ record old { running = stack }) → OnErr r (new ≡ record old { running = [] }) → StacksGrow old new
stacks_moved old new stack (Ok u) ok err = stacks_run old new stack ok
stacks_moved old new stack (Err e) ok err = stacks_run old new [] err

pub stacks_popped : (old new : NumberedStacks) (r : Option ℕ) → MatchOption r ((old.running ≡ []) × (new ≡ old)) (λ n. old ≡ record new { running = n ∷ new.running }) → StacksGrow old new
stacks_popped old new None h = stacks_stay old new h.1
stacks_popped old new (Some n) h = record {
  types = sym (ap (λ r. r.types) h);
  more = let same = ap (λ r. length r.declared) h in omega (arith, same);
  same = λ k lt. sym (ap (λ r. declared_stack r k) h);
}

pub stacks_declared : (old new : NumberedStacks) → new ≡ stacks_more old → StacksGrow old new
stacks_declared old new e = record {
  types = ap (λ r. r.types) e;
  more = let same = ap (λ r. length r.declared) e ∙ length-append old.declared (old.running ∷ []) in omega (arith, same);
  same = λ k lt. ap (λ r. declared_stack r k) e ∙ get_or_append_left old.declared (old.running ∷ []) [] k lt;
}

-- ---- the declared frames stay

module _ (rows new : NumberedRows) (stacks newer : NumberedStacks) (a : RowsGrow rows new) (b : StacksGrow stacks newer) where
  pub declared_grown : (d : Declared) → HasParts rows stacks d → HasParts new newer d
  declared_grown d k = record {
    locals = omega (arith, k.locals, a.more);
    even = ap length (a.same d.locals k.locals) ∙ k.even ∙ sym a.long;
    stack = omega (arith, k.stack, b.more);
  }

  frame_same : (d : Declared) → HasParts rows stacks d → frame_at new newer d ≡ frame_at rows stacks d
  frame_same d k = ap₂ {C = ℕ × NumberedFrame} (λ xs ys. (d.offset, record { locals = xs; stack = ys; flag = d.flag })) (a.same d.locals k.locals) (b.same d.stack k.stack)

  pub frames_same : (ds : List Declared) → ((k : ℕ) (d : Declared) → slice_get ds k ≡ Some d → HasParts rows stacks d) → map (frame_at new newer) ds ≡ map (frame_at rows stacks) ds
  frames_same [] all = refl
  frames_same (d ∷ ds) all = ap₂ (λ x xs. x ∷ xs) (frame_same d (all 0 d refl)) (frames_same ds (λ k c e. all (suc k) c e))

  pub grown : (m : ℕ) (ds : List Declared) (places : List ℕ) → AreFrames rows stacks m ds places → AreFrames new newer m ds places
  grown m ds places k = record {
    types = b.types ∙ k.types ∙ sym a.types;
    count = a.long ∙ k.count;
    declared = λ j d e. declared_grown d (k.declared j d e);
    table = subst (IsPlaceTable places) (sym (frames_same ds k.declared)) k.table;
  }

pub places_kept : (rows : NumberedRows) (stacks : NumberedStacks) (m : ℕ) (ds : List Declared) (places news : List ℕ) → ((at : ℕ) → get_or news at 0 ≡ get_or places at 0)
    → AreFrames rows stacks m ds places → AreFrames rows stacks m ds news
places_kept rows stacks m ds places news same k = record {
  types = k.types;
  count = k.count;
  declared = k.declared;
  table = same_table places news (map (frame_at rows stacks) ds) same k.table;
}

-- ---- one of them, by its place

module _ (rows : NumberedRows) (stacks : NumberedStacks) (flag : Bool) (m : ℕ) (ds : List Declared) (places : List ℕ) (x : NumberedFrames) (is : frames_of rows stacks flag ds ≡ x)
    (k : AreFrames rows stacks m ds places) (frame : ℕ) (lt : frame < length x.declared) (d : Declared) (read : d ≡ get_or ds frame d) where
  inside : frame < length ds
  inside =
      let long = length-map ds (frame_at rows stacks) in
      let w : frame < length (map (frame_at rows stacks) ds) = subst (λ y. frame < length y.declared) (sym is) lt in
      omega (arith, w, long)

  pub is_declared : HasParts rows stacks d
  is_declared = k.declared frame d (slice_get_read ds (length ds) frame d refl inside read)

  pub its_frame : declared_frame x frame ≡ record { locals = declared_in rows d.locals; stack = declared_stack stacks d.stack; flag = d.flag }
  its_frame =
      ap (λ y. declared_frame y frame) (sym is) ∙ ap (λ p. p.1) (get_or-map (frame_at rows stacks) ds frame d (0, empty_frame) inside)
      ∙ ap (λ e. (frame_at rows stacks e).1) (sym read)

  pub its_locals : length (declared_frame x frame).locals ≡ length x.running.locals
  its_locals = ap (λ (f : NumberedFrame). length f.locals) its_frame ∙ is_declared.even ∙ ap (λ (y : NumberedFrames). length y.running.locals) is

  -- where its row takes the running one, each of its locals takes that of the running frame
  pub takes_each : yes ≡ list_answer (type_answer rows.types.classes) (types_by rows.types rows.running) (types_by rows.types (declared_in rows d.locals))
      → (place : ℕ) → place < length x.running.locals
      → type_answer x.types.classes (type_by x.types (get_or x.running.locals place 0)) (type_by x.types (get_or (declared_frame x frame).locals place 0)) ≡ yes
  takes_each told place =
      subst (λ (y : NumberedFrames). place < length y.running.locals
      → type_answer y.types.classes (type_by y.types (get_or y.running.locals place 0)) (type_by y.types (get_or (declared_frame x frame).locals place 0)) ≡ yes) is
      (λ less.
      ap (λ (f : NumberedFrame). type_answer rows.types.classes (type_by rows.types (get_or rows.running place 0)) (type_by rows.types (get_or f.locals place 0))) its_frame
      ∙ each_fits rows.types rows.running (declared_in rows d.locals) is_declared.even (sym told) place less)

-- ---- one more

module _ (rows new : NumberedRows) (stacks newer : NumberedStacks) (flag : Bool) (m : ℕ) (ds : List Declared) (places : List ℕ) (k : AreFrames rows stacks m ds places)
    (a : new ≡ declared_more rows) (x : NumberedFrames) (is : frames_of rows stacks flag ds ≡ x) where
  -- the row of its locals alone
  pub view_rows : newer ≡ stacks → frames_of new newer flag ds ≡ x
  view_rows b =
      ap (λ r. frames_of r newer flag ds) a ∙ ap (λ s. frames_of (declared_more rows) s flag ds) b
      ∙ ap {B = NumberedFrames} (λ fs. record { types = rows.types; limit = stacks.limit; running = record { locals = rows.running; stack = stacks.running; flag = flag }; declared = fs; kept = rows.kept })
      (frames_same rows (declared_more rows) stacks stacks (rows_declared rows (declared_more rows) refl) (stacks_stay stacks stacks refl) ds k.declared) ∙ is

  module _ (b : newer ≡ stacks_more stacks) where
    all_same : map (frame_at (declared_more rows) (stacks_more stacks)) ds ≡ map (frame_at rows stacks) ds
    all_same = frames_same rows (declared_more rows) stacks (stacks_more stacks) (rows_declared rows (declared_more rows) refl) (stacks_declared stacks (stacks_more stacks) refl) ds k.declared

    -- its parts alone
    pub view_parts : (news : List Declared) → news ≡ ds → frames_of new newer flag news ≡ x
    view_parts news q =
        ap (λ r. frames_of r newer flag news) a ∙ ap (λ s. frames_of (declared_more rows) s flag news) b ∙ ap (frames_of (declared_more rows) (stacks_more stacks) flag) q
        ∙ ap {B = NumberedFrames} (λ fs. record { types = rows.types; limit = stacks.limit; running = record { locals = rows.running; stack = stacks.running; flag = flag }; declared = fs; kept = rows.kept }) all_same ∙ is

    pub parts_declared : AreFrames new newer m ds places
    parts_declared = grown rows new stacks newer (rows_declared rows new a) (stacks_declared stacks newer b) m ds places k

    module _ (d : Declared) (own : d.flag ≡ flag) (locals : d.locals ≡ length rows.declared) (stack : d.stack ≡ length stacks.declared) (news : List Declared) (q : news ≡ ds ++ d ∷ []) where
      abbrev running : NumberedFrame
      running = record { locals = rows.running; stack = stacks.running; flag = flag }

      last_locals : declared_in (declared_more rows) d.locals ≡ rows.running
      last_locals = get_or_push rows.declared rows.running [] d.locals (sym locals)

      last_stack : declared_stack (stacks_more stacks) d.stack ≡ stacks.running
      last_stack = get_or_push stacks.declared stacks.running [] d.stack (sym stack)

      last : frame_at (declared_more rows) (stacks_more stacks) d ≡ (d.offset, running)
      last =
          ap₂ {C = ℕ × NumberedFrame} (λ xs ys. (d.offset, record { locals = xs; stack = ys; flag = d.flag })) last_locals last_stack
          ∙ ap {B = ℕ × NumberedFrame} (λ f. (d.offset, record { locals = rows.running; stack = stacks.running; flag = f })) own

      all_more : map (frame_at (declared_more rows) (stacks_more stacks)) (ds ++ d ∷ []) ≡ map (frame_at rows stacks) ds ++ (d.offset, running) ∷ []
      all_more = map_push (frame_at (declared_more rows) (stacks_more stacks)) ds d ∙ ap₂ (λ fs f. fs ++ f ∷ []) all_same last

      pub view_declared : frames_of new newer flag news ≡ record x { declared = x.declared ++ (d.offset, x.running) ∷ [] }
      view_declared =
          ap (λ r. frames_of r newer flag news) a ∙ ap (λ s. frames_of (declared_more rows) s flag news) b ∙ ap (frames_of (declared_more rows) (stacks_more stacks) flag) q
          ∙ ap {B = NumberedFrames} (λ fs. record { types = rows.types; limit = stacks.limit; running = running; declared = fs; kept = rows.kept }) all_more
          ∙ ap {A = NumberedFrames} {B = NumberedFrames} (λ y. record y { declared = y.declared ++ (d.offset, y.running) ∷ [] }) is

      is_last : HasParts (declared_more rows) (stacks_more stacks) d
      is_last =
          let more = length-append rows.declared (rows.running ∷ []) in
          let deeper = length-append stacks.declared (stacks.running ∷ []) in
          record { locals = omega (arith, locals, more); even = ap length last_locals; stack = omega (arith, stack, deeper) }

      pub frames_declared : (offset frame : ℕ) → d.offset ≡ offset → frame ≡ length ds → at_offset x.declared offset ≡ None → offset < length places → AreFrames new newer m news (set places offset (frame + 1))
      frames_declared offset frame o at other room =
          let fs = map (frame_at rows stacks) ds in
          let long : length fs ≡ length ds = length-map ds (frame_at rows stacks) in
          let none : at_offset fs offset ≡ None = subst (λ y. at_offset y.declared offset ≡ None) (sym is) other in
          let table : IsPlaceTable (set places offset (frame + 1)) (fs ++ (d.offset, running) ∷ []) =
          subst (λ n. IsPlaceTable (set places offset (n + 1)) (fs ++ (d.offset, running) ∷ [])) (long ∙ sym at)
          (subst (λ n. IsPlaceTable (set places offset (length fs + 1)) (fs ++ (n, running) ∷ [])) (sym o) (table_more places fs offset running k.table none room)) in
          let whole : AreFrames (declared_more rows) (stacks_more stacks) m (ds ++ d ∷ []) (set places offset (frame + 1)) = record {
            types = k.types;
            count = k.count;
            declared = λ j c e. elim (get_end ds d j c e) [
              | inl old ↦
                  declared_grown rows (declared_more rows) stacks (stacks_more stacks) (rows_declared rows (declared_more rows) refl) (stacks_declared stacks (stacks_more stacks) refl) c (k.declared j c old)
              | inr same ↦ subst (HasParts (declared_more rows) (stacks_more stacks)) same is_last
            ];
            table = subst (IsPlaceTable (set places offset (frame + 1))) (sym all_more) table;
          } in
          subst (λ r. AreFrames r newer m news (set places offset (frame + 1))) (sym a)
          (subst (λ s. AreFrames (declared_more rows) s m news (set places offset (frame + 1))) (sym b)
          (subst (λ cs. AreFrames (declared_more rows) (stacks_more stacks) m cs (set places offset (frame + 1))) (sym q) whole))
