use Rattle.std.proofs.Common.{◌≡◌, ◌∙◌, refl, sym, ap}
use Rattle.fip_session.proofs.Deciding.{none_of}
use Rattle.fip_session.proofs.Saying.{not_given, give_answered}
use Rattle.fip_session.proofs.session.give.Goals as goal

pub returns-in_default : goal.returns-in_default
returns-in_default c = record {
  gives = λ o s h bytes spelt. not_given o s c.args.book.now c.args.store h bytes c.args.name.now spelt (sym c.find.ensures.held ∙ none_of c.find.result c.in_default.not-Some);
}

pub returns : goal.returns
returns c = record {
  gives = λ o s h bytes spelt.
      give_answered o s c.args.book.now c.args.store h bytes c.args.name.now c.in-Some.held c.forget.new.self c.release_held.new.cells spelt (sym c.find.ensures.held ∙ c.in-Some.is) c.forget.ensures.others c.forget.ensures.forgets c.in_ok-release_held.ensures.cells c.in_ok-release_held.ensures.gone;
}
