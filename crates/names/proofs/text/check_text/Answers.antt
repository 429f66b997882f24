use Rattle.std.proofs.Common.{◌≡◌, ◌+◌, ◌-◌, ◌≤◌, length, sym, arith}
use Rattle.std.proofs.lemmas.Simd.{length-chunk}
use Rattle.names.proofs.SingleUnits.{lanes_between, read_from, read_is_good, read_lanes, single_is_good}
use Rattle.names.proofs.text.check_text.Goals as goal

pub text_of-requires : goal.text_of-requires
text_of-requires c = sym (single_is_good c.args.bytes.now (c.are_few.ensures c.if-are_few.true))

pub single_in_block-requires : goal.single_in_block-requires
single_in_block-requires c = length-chunk c.loop-at.at 32 c.args.bytes.now (omega (arith, c.loop-at-test.true))

pub loop-at-preserved : goal.loop-at-preserved
loop-at-preserved c =
    let bytes = c.args.bytes.now in
    let at = c.loop-at.at in
    let within : at + 32 ≤ length bytes = omega (arith, c.loop-at-test.true) in
    let all : c.single_in_block.result ≡ 32 = c.if-single_in_block-eq32.true in
    record { within = within; read = rw (← all) (read_lanes bytes at 32 c.single_in_block.result c.loop-at.invariant.read within c.single_in_block.ensures) }

pub single_in_block-requires-then-at-last : goal.single_in_block-requires-then-at-last
single_in_block-requires-then-at-last c = length-chunk (length c.args.bytes.now - 32) 32 c.args.bytes.now (omega (arith, c.if-bytes-ge32.true))

pub text_of-requires-then-single_in_block-eq32-2 : goal.text_of-requires-then-single_in_block-eq32-2
text_of-requires-then-single_in_block-eq32-2 c =
    let bytes = c.args.bytes.now in
    let n = length bytes in
    let all : c.single_in_block-then-at-last.result ≡ 32 = c.if-single_in_block-eq32-2.true in
    let last = lanes_between bytes (n - 32) 32 c.single_in_block-then-at-last.result c.single_in_block-then-at-last.ensures in
    let read = read_from bytes c.loop-at.at n c.loop-at.invariant.read c.loop-at.invariant.within (omega arith) (λ k from to. last k (omega (arith, from, c.if-at-last.true)) (omega (arith, to, all, c.if-bytes-ge32.true))) in
    sym (read_is_good bytes n read (omega arith))
