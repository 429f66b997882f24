use Rattle.std.proofs.Common.{◌≡◌, ◌∙◌, true, refl, sym, subst, inr}
use Rattle.std.specs.List.{list_any}
use Rattle.std.specs.List.Sorted.{IsPermutation}
use Rattle.std.proofs.lemmas.List.Sorted.{All-permutation, list_any-IsPermutation}
use Rattle.method_frames.specs.NumberedFrames.{NumberedFrames}
use Rattle.verify.specs.private.pass.Following.{AreHandlers, IsOfEntry, refuses}
use Rattle.verify.proofs.InTurn.{judged_free}
use Rattle.verify.proofs.numbered.Refusing.{one, all, in_turn, refused, free, moved_twice, each_of_entry}
use Rattle.verify.proofs.pass.handlers.check_handlers.Goals as goal

pub any_refuses-requires : goal.any_refuses-requires
any_refuses-requires g c =
    let x = c.args.frames.now in
    let moved : IsPermutation c.args.table.now c.deref.result.now =
    moved_twice c.args.table.now _ c.sort_by_key.new.self.items c.sort_by_key-2.new.self.items c.deref.result.now c.in_ok-by_frame.ensures c.in_ok-sort_by_key.ensures.permutation c.in_ok-sort_by_key-2.ensures.permutation c.deref.ensures.value in
    All-permutation (IsOfEntry x) c.args.table.now c.deref.result.now moved (each_of_entry x c.requires.0 c.args.table.now c.requires.1)

pub returns-then-any_refuses-clause-judged : goal.returns-then-any_refuses-clause-judged
returns-then-any_refuses-clause-judged g c = λ es a.
    let x = c.args.frames.now in
    let moved : IsPermutation c.args.table.now c.deref.result.now =
    moved_twice c.args.table.now _ c.sort_by_key.new.self.items c.sort_by_key-2.new.self.items c.deref.result.now c.in_ok-by_frame.ensures c.in_ok-sort_by_key.ensures.permutation c.in_ok-sort_by_key-2.ensures.permutation c.deref.ensures.value in
    let any : list_any (refuses x c.args.at) c.args.table.now ≡ true =
    list_any-IsPermutation (refuses x c.args.at) c.args.table.now c.deref.result.now moved ∙ sym c.any_refuses.ensures.refused ∙ c.if-any_refuses.true in
    record { outcome = inr (refused x c.args.at es c.args.table.now a any) }

pub check_in_turn-requires : goal.check_in_turn-requires
check_in_turn-requires g c = (c.requires.0, subst (λ (z : NumberedFrames). AreHandlers z.types z.declared c.requires.0 c.args.table.now) (sym c.any_refuses.ensures.same) c.requires.1)

pub returns-clause-judged : goal.returns-clause-judged
returns-clause-judged g c = λ es a.
    let x = c.args.frames.now in
    let moved : IsPermutation c.args.table.now c.deref.result.now =
    moved_twice c.args.table.now _ c.sort_by_key.new.self.items c.sort_by_key-2.new.self.items c.deref.result.now c.in_ok-by_frame.ensures c.in_ok-sort_by_key.ensures.permutation c.in_ok-sort_by_key-2.ensures.permutation c.deref.ensures.value in
    let none = list_any-IsPermutation (refuses x c.args.at) c.args.table.now c.deref.result.now moved ∙ sym c.any_refuses.ensures.refused ∙ c.if-any_refuses.false in
    let judged = subst (λ (z : NumberedFrames). AreHandlers z.types z.declared es c.args.table.now → in_turn z c.args.at es c.check_in_turn.result) c.any_refuses.ensures.same (c.check_in_turn.ensures.judged es) a in
    judged_free (one x c.args.at) (all x c.args.at) refl (λ y ys. refl) es c.check_in_turn.result judged (free x c.args.at es c.args.table.now a none)
