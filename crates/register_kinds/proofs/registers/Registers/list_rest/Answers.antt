use Rattle.std.proofs.Common.{◌+◌, ◌<◌, ◌∷◌, sym, ap, ◌∙◌, subst, drop, length, arith}
use Rattle.kind_domain.specs.code_rules.Kinds.{at, from_of}
use Rattle.kind_domain.specs.code_rules.Taking.{part}
use Rattle.kind_domain.specs.Leading.{names}
use Rattle.register_kinds.specs.Sorted.{IsGood}
use Rattle.register_kinds.specs.declared.sorting.Wanted.TheVariants.{Below}
use Rattle.kind_domain.proofs.LentLists.{grows_on, grows_within}
use Rattle.kind_domain.proofs.Places.{drop_index}
use Rattle.register_kinds.proofs.Sorted.{below_wanted, listed_below, named_step, step_by}
use Rattle.register_kinds.proofs.registers.Registers.list_rest.Goals as goal

pub returns-then-not-list_wanted-clause-good : goal.returns-then-not-list_wanted-clause-good
returns-then-not-list_wanted-clause-good c = λ a.
    let g = c.loop-place.invariant.good a in
    step_by c.args.table.now c.args.self.now.kinds c.loop-place.self.kinds c.args.register (part c.args.parts.now c.args.types.now)
    (Below c.lent_at-listed.result c.reached-heir.result)
    c.loop-place.self.lent c.list_wanted.new.self.lent c.loop-place.self.reached c.list_wanted.new.self.reached
    c.loop-place.invariant.kinds
    (λ q o u l. listed_below c.args.table.now c.args.self.now.kinds c.args.register c.lent_at-listed.result q (part c.args.parts.now c.args.types.now)
    c.loop-place.self.lent c.reached-heir.result o c.requires.takable c.lent_at-listed.ensures.listed
    (subst (IsGood c.args.table.now c.args.self.now.kinds c.args.register (part c.args.parts.now c.args.types.now) c.loop-place.self.lent
    c.lent_at-listed.result) (sym c.reached-heir.ensures.is)
    (g c.lent_at-listed.result c.lent_at-listed.ensures.listed)) l)
    c.list_wanted.ensures.more c.list_wanted.ensures.only g

pub returns-then-not-list_wanted-clause-more : goal.returns-then-not-list_wanted-clause-more
returns-then-not-list_wanted-clause-more c = grows_on _ _ _ c.loop-place.invariant.more c.list_wanted.ensures.more

pub loop-place-preserved : goal.loop-place-preserved
loop-place-preserved c =
    let ks = c.loop-place.invariant.kinds in
    let xs = c.loop-place.self.lent in
    let there : c.loop-place.place < length xs = (let h = c.loop-place-test.true in let g = c.lent_len.ensures.is in omega arith) in
    let next = drop_index xs c.loop-place.place there
    ∙ ap (λ z. z ∷ drop (c.loop-place.place + 1) xs) (sym c.lent_at-listed.ensures.is) in
    record {
      within = let f = grows_within _ _ c.list_wanted.ensures.more in
          let h = c.loop-place-test.true in let g = c.lent_len.ensures.is in omega arith;
      closed = named_step c.args.self.now.kinds xs c.list_wanted.new.self.lent c.loop-place.place
          c.lent_at-listed.result there next c.loop-place.invariant.closed
          (λ q n. c.list_wanted.ensures.listed c.if-not-list_wanted.false q c.reached-heir.result
          (below_wanted c.args.table.now c.loop-place.self.kinds c.args.register c.lent_at-listed.result q (part c.args.parts.now c.args.types.now)
          c.reached-heir.result (ap (λ z. names c.lent_at-listed.result (from_of (at z q))) ks ∙ n)))
          c.list_wanted.ensures.more;
      good = λ a.
          let g = c.loop-place.invariant.good a in
          step_by c.args.table.now c.args.self.now.kinds c.loop-place.self.kinds c.args.register (part c.args.parts.now c.args.types.now)
          (Below c.lent_at-listed.result c.reached-heir.result)
          c.loop-place.self.lent c.list_wanted.new.self.lent c.loop-place.self.reached c.list_wanted.new.self.reached
          c.loop-place.invariant.kinds
          (λ q o u l. listed_below c.args.table.now c.args.self.now.kinds c.args.register c.lent_at-listed.result q (part c.args.parts.now c.args.types.now)
          c.loop-place.self.lent c.reached-heir.result o c.requires.takable c.lent_at-listed.ensures.listed
          (subst (IsGood c.args.table.now c.args.self.now.kinds c.args.register (part c.args.parts.now c.args.types.now) c.loop-place.self.lent
          c.lent_at-listed.result) (sym c.reached-heir.ensures.is)
          (g c.lent_at-listed.result c.lent_at-listed.ensures.listed)) l)
          c.list_wanted.ensures.more c.list_wanted.ensures.only g;
      more = grows_on _ _ _ c.loop-place.invariant.more c.list_wanted.ensures.more;
      kinds = c.list_wanted.ensures.kinds ∙ ks;
      maps = c.list_wanted.ensures.maps ∙ c.loop-place.invariant.maps;
    }
