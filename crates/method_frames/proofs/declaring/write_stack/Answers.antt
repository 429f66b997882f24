use Rattle.std.proofs.Common.{ap, subst, sym, inl, inr}
use Rattle.std.proofs.lemmas.Result.{on_ok_weaker}
use Rattle.frames.specs.MapViews.{info_of}
use Rattle.frames.specs.DeclaredFrames.{type_given}
use Rattle.type_numbers.specs.Numbers.{IsGiven}
use Rattle.method_frames.proofs.MapWriting.{shown_given, stack_written, item_written}
use Rattle.method_frames.proofs.declaring.write_stack.Goals as goal

pub push_all-requires : goal.push_all-requires
push_all-requires g c =
    let s = c.args.frames.now.types in
    record {
      given =
          shown_given s c.requires.table.0 c.in-Full.infos.items c.deref.result.now c.numbers_given.new.numbers.items c.deref-in-Full.result.now c.deref.ensures.value c.deref-in-Full.ensures.value
          (c.in_ok-numbers_given-in-Full.ensures s c.requires.table.0 c.requires.table.1) c.clear_stack.new.self (ap (λ y. y.types) c.clear_stack.ensures);
    }

pub push-requires : goal.push-requires
push-requires g c =
    let s = c.args.frames.now.types in
    let pool = c.requires.table.0 in
    subst (λ y. IsGiven y.types c.number_given.result) (sym c.clear_stack.ensures) (type_given pool (info_of c.in-SameWithItem.item), c.number_given.ensures s pool c.requires.table.1)

pub returns-in_ok-numbers_given-in-Full-clause-stack : goal.returns-in_ok-numbers_given-in-Full-clause-stack
returns-in_ok-numbers_given-in-Full-clause-stack g c pool table =
    let s = c.args.frames.now.types in
    rw c.in-Full.is (on_ok_weaker c.push_all.result
    (stack_written s pool c.in-Full.infos.items c.deref.result.now c.numbers_given.new.numbers.items c.deref-in-Full.result.now c.deref.ensures.value c.deref-in-Full.ensures.value
    (c.in_ok-numbers_given-in-Full.ensures s pool table) c.clear_stack.new.self c.push_all.new.frames.running.stack (ap (λ y. y.running.stack) c.clear_stack.ensures)) c.push_all.ensures.stack)

pub returns-in-SameWithItem-clause-stack : goal.returns-in-SameWithItem-clause-stack
returns-in-SameWithItem-clause-stack g c pool table =
    let s = c.args.frames.now.types in
    let written =
    on_ok_weaker c.push.result (item_written s c.number_given.result (type_given pool (info_of c.in-SameWithItem.item)) c.clear_stack.new.self c.push.new.self (c.number_given.ensures s pool table) (ap (λ y. y.running.stack) c.clear_stack.ensures)) c.push.ensures.ok
    in
    elim c.in-SameWithItem.is [ inl e ↦ rw e.1 written | inr e ↦ rw e.1 written ]
