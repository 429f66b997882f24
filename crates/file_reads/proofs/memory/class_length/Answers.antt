use Rattle.std.proofs.Common.{arith}
use Rattle.file_reads.proofs.Fronts.{passed_is_outline}
use Rattle.file_reads.proofs.memory.class_length.Goals as goal

pub returns-then-count-le-MAX_CLASS_BYTES-clause-within : goal.returns-then-count-le-MAX_CLASS_BYTES-clause-within
returns-then-count-le-MAX_CLASS_BYTES-clause-within c = omega arith

pub returns-then-count-le-MAX_CLASS_BYTES-clause-outline : goal.returns-then-count-le-MAX_CLASS_BYTES-clause-outline
returns-then-count-le-MAX_CLASS_BYTES-clause-outline c =
    passed_is_outline c.args.file.now c.in_ok-rest.rest.now c.in_ok-rest.ensures c.if-count-le-MAX_CLASS_BYTES.true
