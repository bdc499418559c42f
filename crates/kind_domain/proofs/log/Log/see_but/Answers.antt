use Rattle.kind_domain.proofs.log.Log.see_but.Goals as goal

pub returns : goal.returns
returns c = record {
  seen = λ l xs e.
      let b = c.add.ensures.added l xs e in
      record {
        new = b.new;
        other = λ h. record {
          before = b.before;
          is = c.see.ensures.seen l b.before b.is h;
          more = b.more;
          new = b.new;
        };
      };
}
