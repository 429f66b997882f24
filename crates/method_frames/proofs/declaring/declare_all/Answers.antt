use Rattle.std.proofs.Common.{◌∙◌, ◌+◌, ◌∷◌, map, drop, refl, sym, ap, subst, arith}
use Rattle.frames.specs.Conditions.{reason}
use Rattle.frames.specs.FrameReasons.{frame_fault_number}
use Rattle.frames.specs.MapViews.{entry_of}
use Rattle.frames.specs.DeclaredFrames.{declared_frames}
use Rattle.frames.specs.RefusedEntries.{refused_entry}
use Rattle.type_numbers.specs.Decoding.{types_by}
use Rattle.method_frames.proofs.MapLooping.{AreBegun, more_on, refused_so, refused_at, begun_on, entries_split}
use Rattle.method_frames.proofs.declaring.declare_all.Goals as goal

pub returns-in_err-fault-clause-rest : goal.returns-in_err-fault-clause-rest
returns-in_err-fault-clause-rest g c = more_on c.args.frames.now c.loop-place.frames c.declare_one.new.frames c.loop-place.invariant.begun.rest c.declare_one.ensures.rest

pub returns-in-Some-clause-rest : goal.returns-in-Some-clause-rest
returns-in-Some-clause-rest g c = more_on c.args.frames.now c.loop-place.frames c.declare_one.new.frames c.loop-place.invariant.begun.rest c.declare_one.ensures.rest

pub returns-in-Some-clause-declared : goal.returns-in-Some-clause-declared
returns-in-Some-clause-declared g c =
    let m = c.args.limits.now in
    let pool = m.pool.now in
    let code = g.St.Starts.code m.starts.now in
    let x = c.args.frames.now in
    let now = c.loop-place.frames in
    let es = map entry_of c.args.entries.now in
    let place = c.loop-place.place in
    let behind = c.loop-place.behind in
    let rest = drop (place + 1) es in
    let ts = types_by x.types c.args.locals.now in
    let answer = declared_frames pool code m.max_locals m.max_stack ts es in
    let refused = refused_entry pool code m.max_locals m.max_stack ts es in
    let e = entry_of c.index-entries-place.result in
    let split = entries_split c.args.entries.now place _ c.loop-place-test.true ∙ ap (λ y. entry_of y ∷ rest) (sym c.index-entries-place.is) in
    let h = subst (λ l. AreBegun pool code m.max_locals m.max_stack x now c.loop-place.locals behind place l answer refused) split c.loop-place.invariant.begun in
    refused_so pool code m.max_locals m.max_stack x now c.loop-place.locals behind place c.from.result (behind + c.from.result) e rest answer refused h (c.from.ensures ∙ c.delta.ensures) refl
    (reason (frame_fault_number c.in-Some.fault)) (rw c.in-Some.is at c.in_ok-fault.ensures.declares)

pub returns-in-Some-clause-refused : goal.returns-in-Some-clause-refused
returns-in-Some-clause-refused g c =
    let m = c.args.limits.now in
    let pool = m.pool.now in
    let code = g.St.Starts.code m.starts.now in
    let x = c.args.frames.now in
    let now = c.loop-place.frames in
    let es = map entry_of c.args.entries.now in
    let place = c.loop-place.place in
    let behind = c.loop-place.behind in
    let rest = drop (place + 1) es in
    let ts = types_by x.types c.args.locals.now in
    let answer = declared_frames pool code m.max_locals m.max_stack ts es in
    let refused = refused_entry pool code m.max_locals m.max_stack ts es in
    let e = entry_of c.index-entries-place.result in
    let split = entries_split c.args.entries.now place _ c.loop-place-test.true ∙ ap (λ y. entry_of y ∷ rest) (sym c.index-entries-place.is) in
    let h = subst (λ l. AreBegun pool code m.max_locals m.max_stack x now c.loop-place.locals behind place l answer refused) split c.loop-place.invariant.begun in
    sym (refused_at pool code m.max_locals m.max_stack x now c.loop-place.locals behind place c.from.result (behind + c.from.result) e rest answer refused h (c.from.ensures ∙ c.delta.ensures) refl
    (reason (frame_fault_number c.in-Some.fault)) (rw c.in-Some.is at c.in_ok-fault.ensures.declares))

pub loop-place-preserved : goal.loop-place-preserved
loop-place-preserved g c =
    let m = c.args.limits.now in
    let pool = m.pool.now in
    let code = g.St.Starts.code m.starts.now in
    let x = c.args.frames.now in
    let now = c.loop-place.frames in
    let es = map entry_of c.args.entries.now in
    let place = c.loop-place.place in
    let behind = c.loop-place.behind in
    let rest = drop (place + 1) es in
    let ts = types_by x.types c.args.locals.now in
    let answer = declared_frames pool code m.max_locals m.max_stack ts es in
    let refused = refused_entry pool code m.max_locals m.max_stack ts es in
    let e = entry_of c.index-entries-place.result in
    let split = entries_split c.args.entries.now place _ c.loop-place-test.true ∙ ap (λ y. entry_of y ∷ rest) (sym c.index-entries-place.is) in
    let h = subst (λ l. AreBegun pool code m.max_locals m.max_stack x now c.loop-place.locals behind place l answer refused) split c.loop-place.invariant.begun in
    record {
      small = omega (arith, c.in_ok-fault.ensures.small c.in_default.is);
      begun =
          begun_on pool code m.max_locals m.max_stack x now c.loop-place.locals behind place c.from.result (behind + c.from.result) e rest answer refused h (c.from.ensures ∙ c.delta.ensures) refl
          c.declare_one.new.frames c.declare_one.new.locals (rw c.in_default.is at c.in_ok-fault.ensures.declares) c.declare_one.ensures.rest;
    }
