use Rattle.std.proofs.Common.{arith}
use Rattle.method_frames.proofs.Lacking.{start_lacks, end_unfit, start_fits, start_fitting}
use Rattle.method_frames.proofs.type_rows.TypeRows.start.Goals as goal

pub returns-then-lacking-count-clause-so_far : goal.returns-then-lacking-count-clause-so_far
returns-then-lacking-count-clause-so_far g c =
    let x = c.self.inside in
    start_lacks x.types.now x.rows c.args.self.now c.self.view_is c.self.invariant.held.known x.lacking c.self.invariant.lacking c.in-Some.lacking c.in-Some.is c.args.row c.requires.row
    c.common_places-count.result c.common_places-count.ensures.within c.common_places-count.ensures.same c.if-lacking-count.true

pub returns-then-lacking-count-clause-end : goal.returns-then-lacking-count-clause-end
returns-then-lacking-count-clause-end g c _ =
    let x = c.self.inside in
    end_unfit x.types.now x.rows c.args.self.now c.self.view_is c.self.invariant.held.known x.lacking c.self.invariant.lacking c.in-Some.lacking c.in-Some.is c.args.row c.requires.row
    c.common_places-count.result c.common_places-count.ensures.within c.common_places-count.ensures.same c.if-lacking-count.true

pub returns-in-Some-clause-so_far : goal.returns-in-Some-clause-so_far
returns-in-Some-clause-so_far g c =
    let x = c.self.inside in
    start_fitting x.types.now x.rows c.args.self.now c.self.view_is c.self.invariant.held.known x.lacking c.self.invariant.lacking c.in-Some.lacking c.in-Some.is c.args.row c.requires.row
    c.common_places-count.result c.common_places-count.ensures.within c.common_places-count.ensures.same (let not = c.if-lacking-count.false in omega (arith, not))

pub returns-in-Some-clause-fit : goal.returns-in-Some-clause-fit
returns-in-Some-clause-fit g c _ =
    let x = c.self.inside in
    start_fits x.types.now x.rows c.args.self.now c.self.view_is c.self.invariant.held.known x.lacking c.self.invariant.lacking c.in-Some.lacking c.in-Some.is c.args.row c.requires.row
    c.common_places-count.result c.common_places-count.ensures.within c.common_places-count.ensures.same (let not = c.if-lacking-count.false in omega (arith, not))
