use Rattle.std.proofs.Common.{arith}
use Rattle.kind_domain.proofs.Subsets.{begin_none, begin_some}
use Rattle.kind_domain.proofs.set.begin.Goals as goal

pub returns-in-None : goal.returns-in-None
returns-in-None c = record {
  is = begin_none c.args.low c.args.count c.args.others.now c.requires.rise (let h = c.if-count-eq0.false in omega arith)
      c.in-None.ensures.lookup.3;
}

pub returns-in-Some : goal.returns-in-Some
returns-in-Some c = record {
  is = begin_some c.args.low c.args.count c.in-Some.last.now _ c.is_after.result c.args.others.now c.requires.rise
      (let h = c.if-count-eq0.false in omega arith) c.in-Some.ensures.lookup.3.0 c.in-Some.ensures.lookup.1
      c.is_after.ensures.yes c.is_after.ensures.no;
}
