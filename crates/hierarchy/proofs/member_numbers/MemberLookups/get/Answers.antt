use Rattle.std.proofs.Common.{◌≡◌, ◌∙◌, rules, sym}
use Rattle.std.specs.Option.{option_and_then}
use Rattle.hierarchy.specs.Summary.{text_among}
use Rattle.hierarchy.specs.private.Above.{number_of}
use Rattle.hierarchy.specs.declared.member_key.MemberKey.{MemberKey}
use Rattle.hierarchy.specs.private.MemberNumbers.{key_with, number_at}
use Rattle.hierarchy.proofs.member_numbers.MemberLookups.get.Goals as goal

pub get-requires-2 : goal.get-requires-2
get-requires-2 c =
    let numbers = c.requires.0.texts in
    let texts = c.requires.1 in
    (numbers, texts, (c.get.ensures numbers texts c.requires.2.found).0)

pub returns-in_err-name : goal.returns-in_err-name
returns-in_err-name c numbers texts is =
    let first = c.get.ensures numbers.texts texts is.found in (
      record { among = is.among; found = first.0 },
      c.from_residual.ensures ∙ λ i. option_and_then (number_at numbers.members) (key_with ((sym c.in_err-name.was ∙ first.1) i)
          (number_of numbers.texts (text_among texts c.args.member.descriptor)) c.args.member.kind),
    )

pub returns-in_err-descriptor : goal.returns-in_err-descriptor
returns-in_err-descriptor c numbers texts is =
    let first = c.get.ensures numbers.texts texts is.found in
    let second = c.get-2.ensures numbers.texts texts first.0 in (
      record { among = is.among; found = second.0 },
      c.from_residual-in_err-descriptor.ensures ∙ λ i. option_and_then (number_at numbers.members) (key_with ((sym c.in_ok-name.was ∙ first.1) i) ((sym c.in_err-descriptor.was ∙ second.1) i) c.args.member.kind),
    )

pub returns : goal.returns
returns c numbers texts is =
    let first = c.get.ensures numbers.texts texts is.found in
    let second = c.get-2.ensures numbers.texts texts first.0 in
    let key : MemberKey = record { name = c.in_ok-name.name; descriptor = c.in_ok-descriptor.descriptor; kind = c.args.member.kind } in
    let here : c.copied.result ≡ number_at c.args.self.now.numbers.now.members key = search rules in (
      record { among = is.among; found = second.0 },
      here ∙ (λ i. number_at (is.among i).members key)
          ∙ λ i. option_and_then (number_at numbers.members) (key_with ((sym c.in_ok-name.was ∙ first.1) i) ((sym c.in_ok-descriptor.was ∙ second.1) i) c.args.member.kind),
    )
