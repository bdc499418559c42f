use Rattle.static_params.proofs.flatten.Flattening.binder.Goals as goal

pub returns-clause-stays : goal.returns-clause-stays
returns-clause-stays c = λ m. c.in_ok-annotation.ensures.stays m

pub returns-clause-flat : goal.returns-clause-flat
returns-clause-flat c = λ m.
    let b = c.args.binder.now in
    let name = c.in_ok-name.ensures in
    let annotation = c.in_ok-annotation.ensures.flat m in
    λ i. record {
      number = b.number;
      name = name i;
      place = b.place;
      annotation = annotation i;
      ty = 0;
    }
