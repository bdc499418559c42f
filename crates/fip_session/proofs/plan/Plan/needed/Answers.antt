use Rattle.std.proofs.Common.{◌∙◌, ◌≡◌, ◌+◌, ◌<◌, ◌≤◌, ◌^◌, ℕ, List, length, sym, ap, subst}
use Rattle.fip_language.specs.Store.{count}
use Rattle.fip_language.specs.declared.limits.TheConstants.{MOST_FIELDS}
use Rattle.value_text.specs.Counting.{count_at}
use Rattle.value_text.specs.Loaded.{AreSizes, free_in}
use Rattle.fip_session.proofs.Weighing.{room, fits, words_are}
use Rattle.fip_session.proofs.plan.Plan.needed.Goals as goal

pub returns : goal.returns
returns c = record {
  words = λ allowed fresh weighed.
      let first = c.args.self.now.arguments.fresh in
      let credits = c.args.self.now.function.now.credits.items in
      let all = c.add_credits.new.cells in
      let same = c.as_slice.ensures.value in
      let sizes : AreSizes c.as_slice.result.now = subst AreSizes (sym same) allowed.sizes in
      let added : (k : ℕ) → k ≤ MOST_FIELDS → count_at all k ≡ count_at first k + count k credits = λ k le. c.add_credits.ensures.counts sizes (λ k le. subst (λ ks. count_at first k + length ks < 2 ^ 64) (sym same) (room first all fresh (free_in c.args.loader.now) credits weighed allowed.few k le)) k le ∙ ap (λ ks. count_at first k + count k ks) same in
      c.words_needed.ensures.words (fits first all fresh (free_in c.args.loader.now) credits weighed allowed.few added) ∙ words_are first all fresh (free_in c.args.loader.now) credits weighed allowed.few added;
}
