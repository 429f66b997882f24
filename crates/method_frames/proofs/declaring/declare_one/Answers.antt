use Rattle.std.proofs.Common.{◌≡◌, ◌∙◌, ◌≤◌, sym, ap, subst, arith, length}
use Rattle.frames.specs.Slots.{in_locals, all_locals}
use Rattle.frames.specs.MapViews.{entry_of}
use Rattle.frames.specs.DeclaredFrames.{locals_of, stack_of}
use Rattle.type_numbers.specs.Decoding.{types_by}
use Rattle.method_frames.proofs.LayingOut.{units_are}
use Rattle.method_frames.proofs.MapDeclaring.{have_sizes, stack_fits, steps_are, declared_so, table_kept, types_kept, limit_kept, flag_stacks, left_by}
use Rattle.method_frames.proofs.declaring.declare_one.Goals as goal

pub prove-unreachable-requires : goal.prove-unreachable-requires
prove-unreachable-requires g c =
    let x = c.write_chop.new.frames in
    omega (arith, c.if-prove.true, c.in_ok-write_chop.ensures.laid.fits, c.max_locals.ensures, c.from.ensures, c.units.ensures x.types, units_are (types_by x.types c.write_chop.new.locals))

pub units_after-requires : goal.units_after-requires
units_after-requires g c =
    let s = c.args.frames.now.types in
    omega (arith, c.if-prove.false, c.max_locals.type_inv, c.from.ensures, c.units.ensures s, c.units-2.ensures s)

pub returns-in-Some-clause-declares : goal.returns-in-Some-clause-declares
returns-in-Some-clause-declares g c =
    let s = c.args.frames.now.types in
    let pool = c.args.limits.now.pool.now in
    let e = entry_of c.args.entry.now in
    let ts = types_by s c.args.locals.now in
    sym (c.in-Some.ensures.least ts (locals_of pool ts e) (stack_of pool e) (have_sizes pool e s c.args.locals.now c.write_chop.new.locals c.in_ok-write_chop.ensures.locals _ c.count-before.ensures
    (c.units_after.ensures pool (types_by s c.write_chop.new.locals) (c.units-2.ensures s)) (c.stack_units.ensures pool)))

pub write_locals-requires-clause-table : goal.write_locals-requires-clause-table
write_locals-requires-clause-table g c =
    let pool = c.args.limits.now.pool.now in
    (pool, table_kept pool c.args.table.now c.args.frames.now c.write_chop.new.frames c.in_ok-write_chop.ensures.rest c.requires.table)

pub write_stack-requires : goal.write_stack-requires
write_stack-requires g c =
    let pool = c.args.limits.now.pool.now in
    let first = table_kept pool c.args.table.now c.args.frames.now c.write_chop.new.frames c.in_ok-write_chop.ensures.rest c.requires.table in
    record { table = (pool, table_kept pool c.args.table.now c.write_chop.new.frames c.write_locals.new.frames c.in_ok-write_locals.ensures.rest first) }

pub declare-requires-clause-stack : goal.declare-requires-clause-stack
declare-requires-clause-stack g c =
    let pool = c.args.limits.now.pool.now in
    let x = c.args.frames.now in
    let y = c.write_chop.new.frames in
    let z = c.write_locals.new.frames in
    let w = c.write_stack.new.frames in
    let first = table_kept pool c.args.table.now x y c.in_ok-write_chop.ensures.rest c.requires.table in
    let second = table_kept pool c.args.table.now y z c.in_ok-write_locals.ensures.rest first in
    let limit = ap (λ u. u.limit) c.in_ok-write_stack.ensures.rest ∙ limit_kept y z c.in_ok-write_locals.ensures.rest ∙ limit_kept x y c.in_ok-write_chop.ensures.rest in
    let fits = (c.judge_entry.ensures.fits c.in_default.is).1 in
    let short =
    stack_fits z.types w.running.stack (stack_of pool (entry_of c.args.entry.now)) c.stack_units.result c.args.limits.now.max_stack (c.in_ok-write_stack.ensures.stack pool second) (c.stack_units.ensures pool) fits
    in
    flag_stacks w c.set_flag.new.self c.have_own.result c.set_flag.ensures (omega (arith, short, limit, c.requires.max_stack))

pub returns-clause-declares : goal.returns-clause-declares
returns-clause-declares g c =
    let pool = c.args.limits.now.pool.now in
    let e = entry_of c.args.entry.now in
    let x = c.args.frames.now in
    let y = c.write_chop.new.frames in
    let z = c.write_locals.new.frames in
    let w = c.write_stack.new.frames in
    let a = c.in_ok-write_chop.ensures.rest in
    let b = c.in_ok-write_locals.ensures.rest in
    let s = x.types in
    let old = c.args.locals.now in
    let mid = c.write_chop.new.locals in
    let after = c.write_locals.new.locals in
    let first = table_kept pool c.args.table.now x y a c.requires.table in
    let second = table_kept pool c.args.table.now y z b first in
    let same = types_kept y z b ∙ types_kept x y a in
    let laid = c.in_ok-write_locals.ensures.laid in
    let sizes = have_sizes pool e s old mid c.in_ok-write_chop.ensures.locals _ c.count-before.ensures (c.units_after.ensures pool (types_by s mid) (c.units-2.ensures s)) (c.stack_units.ensures pool) in
    declared_so pool (g.St.Starts.code c.args.limits.now.starts.now) c.args.limits.now.max_locals c.args.limits.now.max_stack x c.args.at e old after z.running.locals w.running.stack c.have_own.result
    (sym (c.in_default.ensures.least (types_by s old) (locals_of pool (types_by s old) e) (stack_of pool e) sizes))
    (left_by pool e s y.types old mid after (types_kept x y a) c.in_ok-write_chop.ensures.locals (c.in_ok-write_locals.ensures.locals pool first))
    (c.requires.max_locals ∙ sym a.size ∙ sym b.size)
    (subst (λ t. types_by t z.running.locals ≡ all_locals (length z.running.locals) (types_by t after)) same laid.same)
    (subst (λ t. length (in_locals (types_by t after)) ≤ length z.running.locals) same laid.fits)
    (subst (λ t. types_by t w.running.stack ≡ stack_of pool e) same (c.in_ok-write_stack.ensures.stack pool second))
    (c.have_own.ensures s)
    c.declare.new.self
    (steps_are x y z w c.set_flag.new.self c.declare.new.self c.have_own.result c.args.at a b c.in_ok-write_stack.ensures.rest c.set_flag.ensures c.in_ok-declare.ensures.ok)
