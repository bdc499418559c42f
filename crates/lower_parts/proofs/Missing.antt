-- A pattern that no value matches of which this is known stays so, where more is known.
use Rattle.std.proofs.Common.{◌≡◌, inl, inr, ◌⊎◌, refl, sym, ap, ◌∙◌, true≢false, ℕ, Bool, true, false, List}
use Rattle.std.specs.Prelude.{if◌then◌else◌}
use Rattle.match_knowledge.specs.declared.heads.Head.{Head}
use Rattle.match_knowledge.specs.declared.verdicts.Verdict.{Verdict}
use Rattle.match_knowledge.specs.declared.verdicts.Verdict.TheVariants as D
use Rattle.match_knowledge.specs.ValueHeads.{same_head}
use Rattle.match_knowledge.specs.Patterns.{Pattern, Any, Test, Patterns, NoPatterns, MorePatterns}
use Rattle.match_knowledge.specs.Known.{Known, Open, Is, Knowns, NoKnowns, MoreKnowns, both, compare, compare_all, is_asks, is_in, opens, side, side_all}
use Rattle.match_knowledge.proofs.Facts.{same_is}
use Rattle.match_knowledge.proofs.Split.{asks_is, both_asks, is_asking}
use Rattle.match_knowledge.proofs.VerdictFacts.{if_asks, if_misses}
use Rattle.lower_parts.proofs.Folding.{if_true, if_false}
use Rattle.fip_language.proofs.Facts.{true_or_false as or_not}

either_misses : (a b : Verdict) → both a b ≡ D.Misses → (a ≡ D.Misses) ⊎ (b ≡ D.Misses)
either_misses D.Fits b e = inr e
either_misses D.Misses b e = inl refl
either_misses D.Asks D.Fits e = absurd (cc)
either_misses D.Asks D.Misses e = inr refl
either_misses D.Asks D.Asks e = absurd (cc)

first_misses : (a b : Verdict) → a ≡ D.Misses → both a b ≡ D.Misses
first_misses D.Fits b e = absurd (cc)
first_misses D.Misses b e = refl
first_misses D.Asks b e = absurd (cc)

second_misses : (a b : Verdict) → b ≡ D.Misses → both a b ≡ D.Misses
second_misses D.Fits b e = e
second_misses D.Misses b e = refl
second_misses D.Asks D.Fits e = absurd (cc)
second_misses D.Asks D.Misses e = refl
second_misses D.Asks D.Asks e = absurd (cc)

-- another head than one that isn't ruled out
other_head : (g h : Head) (out : List Head) → is_in g out ≡ true → is_in h out ≡ false → same_head g h ≡ false
other_head g h out e f = elim (or_not (same_head g h)) [
  | inl s ↦ absurd (true≢false (sym e ∙ ap (λ z. is_in z out) (same_is g h s) ∙ f))
  | inr n ↦ n
]

settled_misses : (b : Bool) (t u : ℕ) (g h : Head) (qs ps : Patterns) (out : List Head) → is_in g out ≡ true → is_in h out ≡ false → compare (Test u g qs) (side b (Test t h ps) (Open out)) ≡ D.Misses
settled_misses true t u g h qs ps out e f = if_false (same_head g h) (compare_all qs (opens ps)) D.Misses (other_head g h out e f)
settled_misses false t u g h qs ps out e f = if_true (if same_head h g then true else is_in g out) D.Misses D.Asks (either (same_head h g))
  where
    either : (b : Bool) → (if b then true else is_in g out) ≡ true
    either true = refl
    either false = e

mutual
  pub side_misses : (b : Bool) (q p : Pattern) (k : Known) → compare p k ≡ D.Asks → compare q k ≡ D.Misses → compare q (side b p k) ≡ D.Misses
  side_misses b q Any k asks e = absurd (cc)
  side_misses b Any (Test t h ps) k asks e = absurd (cc)
  side_misses b (Test u g qs) (Test t h ps) (Open out) asks e = settled_misses b t u g h qs ps out (if_misses (is_in g out) e) (if_asks (is_in h out) asks)
  side_misses b (Test u g qs) (Test t h ps) (Is f ks) asks e =
      let a = asks_is (compare_all ps ks) (same_head h f) asks in
      elim (or_not (same_head g f)) [
        | inl s ↦ if_true (same_head g f) (compare_all qs (side_all b ps ks)) D.Misses s ∙ all_side_misses b qs ps ks a.1 (sym (if_true (same_head g f) (compare_all qs ks) D.Misses s) ∙ e)
        | inr n ↦ if_false (same_head g f) (compare_all qs (side_all b ps ks)) D.Misses n
      ]

  all_side_misses : (b : Bool) (qs ps : Patterns) (ks : Knowns) → compare_all ps ks ≡ D.Asks → compare_all qs ks ≡ D.Misses → compare_all qs (side_all b ps ks) ≡ D.Misses
  all_side_misses b NoPatterns ps ks asks e = absurd (cc)
  all_side_misses b (MorePatterns q qs) NoPatterns ks asks e = absurd (cc)
  all_side_misses b (MorePatterns q qs) (MorePatterns p ps) NoKnowns asks e = absurd (cc)
  all_side_misses b (MorePatterns q qs) (MorePatterns p ps) (MoreKnowns k ks) asks e = elim (or_not (is_asks (compare p k))) [
    | inl y ↦ ap (compare_all (MorePatterns q qs)) (if_true (is_asks (compare p k)) (MoreKnowns (side b p k) ks) (MoreKnowns k (side_all b ps ks)) y)
        ∙ elim (either_misses (compare q k) (compare_all qs ks) e) [
          | inl m ↦ first_misses (compare q (side b p k)) (compare_all qs ks) (side_misses b q p k (is_asking (compare p k) y) m)
          | inr m ↦ second_misses (compare q (side b p k)) (compare_all qs ks) m
        ]
    | inr n ↦ ap (compare_all (MorePatterns q qs)) (if_false (is_asks (compare p k)) (MoreKnowns (side b p k) ks) (MoreKnowns k (side_all b ps ks)) n)
        ∙ elim (either_misses (compare q k) (compare_all qs ks) e) [
          | inl m ↦ first_misses (compare q k) (compare_all qs (side_all b ps ks)) m
          | inr m ↦ second_misses (compare q k) (compare_all qs (side_all b ps ks)) (all_side_misses b qs ps ks (both_asks (compare p k) (compare_all ps ks) asks n) m)
        ]
  ]
