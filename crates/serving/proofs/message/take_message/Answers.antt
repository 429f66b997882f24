use Rattle.serving.proofs.Taken.{broken_behind, whole_behind, first_letter}
use Rattle.serving.proofs.message.take_message.Goals as goal

pub returns-in-Ok : goal.returns-in-Ok
returns-in-Ok g c =
    let left = g.R.Read.remaining in
    let (head, four, number, most, taken) = c.in-Ok.ensures in
    let kind = c.in-Some-kind_of.kind in
    let first = first_letter (left c.args.input.now) (left c.take_first.new.input) c.in_ok-first.field-0 c.in-Some.first kind c.in_ok-first.ensures c.in-Some.is c.in-Some-kind_of.ensures in
    whole_behind (left c.args.input.now) (left c.take_first.new.input) (left c.take_rest.new.input) kind head c.in-Ok.bytes.items four number most first taken

pub returns-in-Err : goal.returns-in-Err
returns-in-Err g c =
    let left = g.R.Read.remaining in
    let (rest, taken, why) = c.in-Err.ensures in
    let kind = c.in-Some-kind_of.kind in
    let first = first_letter (left c.args.input.now) (left c.take_first.new.input) c.in_ok-first.field-0 c.in-Some.first kind c.in_ok-first.ensures c.in-Some.is c.in-Some-kind_of.ensures in
    broken_behind (left c.args.input.now) (left c.take_first.new.input) (left c.take_rest.new.input) kind rest c.in-Err.stop first taken why
