use Rattle.std.proofs.Common.{◌≡◌, ◌∙◌, ◌+◌, None, cond, false, is_some, sym, subst, ap, refl}
use Rattle.std.specs.BTreeMap.{btree_map_len}
use Rattle.hierarchy.specs.declared.member_key.MemberKey.{MemberKey}
use Rattle.hierarchy.specs.declared.summary.Overriding.TheVariants.{Apart}
use Rattle.hierarchy.specs.private.Flags.{GetsNumber}
use Rattle.hierarchy.specs.private.MemberNumbers.{number_at}
use Rattle.hierarchy.specs.Class.{MemberFact}
use Rattle.hierarchy.specs.Summary.{text_among}
use Rattle.hierarchy.proofs.Numbering.{absent, had_number, gets_number}
use Rattle.hierarchy.proofs.member_numbers.MemberNumbers.add.Goals as goal

pub returns-then-contains_key-clause-added : goal.returns-then-contains_key-clause-added
returns-then-contains_key-clause-added c =
    let first = c.in_ok-name.ensures.number in
    let second = subst (λ ts. GetsNumber c.number.new.numbers c.number-2.new.numbers (text_among ts c.args.member.descriptor) c.in_ok-descriptor.descriptor) c.in_ok-name.ensures.same c.in_ok-descriptor.ensures.number in
    let numbers = c.args.self.now in
    let texts = c.args.numbering.now.texts.now in
    let m : MemberFact = record { name = text_among texts c.args.member.name; descriptor = text_among texts c.args.member.descriptor; kind = c.args.member.kind; is_static = false; is_protected = false; overriding = Apart } in
    let key : MemberKey = record { name = c.in_ok-name.name; descriptor = c.in_ok-descriptor.descriptor; kind = c.args.member.kind } in
    had_number numbers.texts c.number-2.new.numbers numbers.members c.requires.good m key
    second.good (λ t n e. second.kept t n (first.kept t n e)) (second.kept _ _ first.here) second.here refl (sym c.contains_key.ensures ∙ c.if-contains_key.true)

pub returns-clause-added : goal.returns-clause-added
returns-clause-added c =
    let first = c.in_ok-name.ensures.number in
    let second = subst (λ ts. GetsNumber c.number.new.numbers c.number-2.new.numbers (text_among ts c.args.member.descriptor) c.in_ok-descriptor.descriptor) c.in_ok-name.ensures.same c.in_ok-descriptor.ensures.number in
    let numbers = c.args.self.now in
    let texts = c.args.numbering.now.texts.now in
    let m : MemberFact = record { name = text_among texts c.args.member.name; descriptor = text_among texts c.args.member.descriptor; kind = c.args.member.kind; is_static = false; is_protected = false; overriding = Apart } in
    let key : MemberKey = record { name = c.in_ok-name.name; descriptor = c.in_ok-descriptor.descriptor; kind = c.args.member.kind } in
    let none : number_at numbers.members key ≡ None = absent _ (sym c.contains_key.ensures ∙ c.if-contains_key.false) in
    gets_number numbers.texts c.number-2.new.numbers numbers.members c.requires.good m key
    second.good (λ t n e. second.kept t n (first.kept t n e)) (second.kept _ _ first.here) second.here refl c.insert.new.self c.len-number.result c.len-number.ensures.len none
    c.in_ok-insert.ensures.updates.0 (c.in_ok-insert.ensures.len ∙ ap (λ o. btree_map_len numbers.members + cond (is_some o) 0 1) (c.in_ok-insert.ensures.old ∙ none))
