-- The running stack beside a declared one.
use Rattle.std.proofs.Common.{◌≡◌, ◌≢◌, ◌∙◌, ℕ, ◌+◌, ◌<◌, List, length, get_or, sym, ap, arith}
use Rattle.std.proofs.lemmas.List.{length-map}
use Rattle.hierarchy.specs.Answer.{Outcome, no}
use Rattle.frames.specs.Assignable.{type_answer}
use Rattle.frames.specs.FrameAssignable.{item_answer, list_answer, stack_answer}
use Rattle.frames.specs.Slots.{units_of}
use Rattle.frames.proofs.Slots.{stack_uneven}
use Rattle.type_numbers.specs.Numbers.{Numbering}
use Rattle.type_numbers.specs.Decoding.{type_by, types_by}
use Rattle.method_frames.specs.NumberedRows.{NumberedRows, declared_in}
use Rattle.method_frames.specs.NumberedStacks.{NumberedStacks, declared_stack}
use Rattle.method_frames.specs.private.Stacks.{stack_at, stacks_of, IsHeight, AreStacks, Changes, Holds}
use Rattle.method_frames.specs.declared.stack_rows.Height.{Height}
use Rattle.method_frames.proofs.Heights.{is_height, its_stack, its_length, its_units}
use Rattle.method_frames.proofs.StackAnswers.{uneven_units, row_answer}
use Rattle.method_frames.proofs.Stacks.{same_written}

module _ (items : List ℕ) (rows : NumberedRows) (written high : ℕ) (hs : List Height) (x : NumberedStacks) (is : stacks_of items rows hs ≡ x) (k : AreStacks items rows written high hs)
    (stack : ℕ) (lt : stack < length x.declared) (h : Height) (read : h ≡ get_or hs stack h) where
  abbrev wanted : List ℕ
  wanted = declared_stack x stack

  abbrev whole : Outcome
  whole = stack_answer (item_answer x.types.classes) (types_by x.types x.running) (types_by x.types wanted)

  running_long : length x.running ≡ length items
  running_long = sym (ap (λ y. length y.running) is)

  wanted_long : length wanted ≡ h.depth
  wanted_long = its_length items rows written high hs x is k stack lt h read

  types_long : (xs : List ℕ) → length (types_by x.types xs) ≡ length xs
  types_long xs = length-map xs (type_by x.types)

  pub other_count : h.depth ≢ length items → no ≡ whole
  other_count ne =
      let longs : length (types_by x.types x.running) ≡ length items = types_long x.running ∙ running_long in
      let wants : length (types_by x.types wanted) ≡ h.depth = types_long wanted ∙ wanted_long in
      sym (stack_uneven (item_answer x.types.classes) (types_by x.types x.running) (types_by x.types wanted) (λ e. ne (omega (arith, e, longs, wants))))

  module _ (deep : h.depth ≡ length items) (w : ℕ) (units : (s : Numbering) → units_of (types_by s items) ≡ length items + w) where
    running_units : (s : Numbering) → units_of (types_by s x.running) ≡ length items + w
    running_units s = ap (λ y. units_of (types_by s y.running)) (sym is) ∙ units s

    wanted_units : (s : Numbering) → units_of (types_by s wanted) ≡ h.depth + h.wides
    wanted_units s = its_units items rows written high hs x is k stack lt h read s

    level : length (types_by x.types x.running) ≡ length (types_by x.types wanted)
    level = types_long x.running ∙ running_long ∙ sym deep ∙ sym wanted_long ∙ sym (types_long wanted)

    pub other_units : h.wides ≢ w → no ≡ whole
    other_units ne =
        let mine = running_units x.types in
        let theirs = wanted_units x.types in
        sym (uneven_units x.types.classes (types_by x.types x.running) (types_by x.types wanted) level (λ e. ne (omega (arith, e, mine, theirs, deep))))

    pub same_units : h.wides ≡ w → (new : NumberedRows) → Changes written h.depth rows new → Holds items written h.depth new
        → list_answer (type_answer new.types.classes) (types_by new.types new.running) (types_by new.types (declared_in new h.row)) ≡ whole
    same_units same new c held =
        let s = rows.types in
        let row = declared_in rows h.row in
        let height : IsHeight rows h = is_height items rows written high hs x is k stack lt h read in
        let stack_is = its_stack items rows written high hs x is k stack lt h read in
        let mine = units s in
        let theirs = sym (ap (λ ns. units_of (types_by s ns)) stack_is) ∙ wanted_units s in
        ap (λ r. list_answer (type_answer r.types.classes) (types_by r.types new.running) (types_by r.types (declared_in r h.row))) c.rest
        ∙ row_answer s.classes s items new.running row h.depth (height.even ∙ sym c.even) (omega (arith, height.depth, c.even)) deep
        (same_written items rows new written high h.depth hs k c held) height.tops (omega (arith, mine, theirs, deep, same))
        ∙ ap (λ y. stack_answer (item_answer y.types.classes) (types_by y.types y.running) (types_by y.types (stack_at rows h))) is
        ∙ ap (λ ns. stack_answer (item_answer x.types.classes) (types_by x.types x.running) (types_by x.types ns)) (sym stack_is)
