use Rattle.type_numbers.proofs.texts.Texts.new.Goals as goal

pub returns-clause-texts : goal.returns-clause-texts
returns-clause-texts g c = let s = c.new-4.new.numbers in record {
  classes = c.in_ok-new.ensures.unread s;
  class_form = c.in_ok-new.ensures.form;
  descriptors = c.in_ok-new-2.ensures.unread s;
  descriptor_form = c.in_ok-new-2.ensures.form;
  methods = c.in_ok-new-3.ensures s;
  loaded = c.in_ok-new-4.ensures.given;
}
