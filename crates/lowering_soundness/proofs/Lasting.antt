-- A test that no value fails isn't written: what is reported stays so where it is known that it holds.
use Rattle.std.proofs.Common.{◌≡◌, inl, inr, ℕ, zero, suc, true, false, List, [], ◌∷◌, Option, Some, refl, sym, ap, ◌∙◌, subst, true≢false, if◌then◌else◌}
use Rattle.separation.specs.fip_language.Table.{Table}
use Rattle.separation.specs.cell_code.declared.kind.Kind.{Kind}
use Rattle.separation.specs.cell_code.declared.kind.Kind.TheVariants as K
use Rattle.separation.specs.code_rules.Types.{fields, is_scalar_type}
use Rattle.separation.proofs.separation_kinds.Basics.{chosen, refused, or_not}
use Rattle.lowering_relation.specs.match_knowledge.declared.heads.Head.{Head}
use Rattle.lowering_relation.specs.match_knowledge.declared.heads.Head.TheVariants.{Number, Tag}
use Rattle.lowering_relation.specs.match_knowledge.declared.verdicts.Verdict.TheVariants.{Asks}
use Rattle.lowering_relation.specs.match_knowledge.ValueHeads.{IsHead, same_head}
use Rattle.lowering_relation.specs.match_knowledge.Patterns as M
use Rattle.lowering_relation.specs.match_knowledge.Patterns.{IsPattern, ArePatterns}
use Rattle.lowering_relation.specs.match_knowledge.Known.{Known, Open, Is, Knowns, NoKnowns, MoreKnowns, compare, compare_all, is_asks, is_in, opens, side, side_all, is_last, are_last}
use Rattle.lowering_relation.proofs.match_knowledge.Facts.{same_is}
use Rattle.lowering_relation.proofs.match_knowledge.Split.{asks_is, both_asks, is_asking}
use Rattle.lowering_relation.proofs.match_knowledge.VerdictFacts.{if_asks}
use Rattle.lowering_relation.specs.Spots.{Spot, At, Spots, NoSpots, MoreSpots, all_in}
use Rattle.lowering_relation.specs.Sights.{left, part_kind, Unread, Fresh, AllFresh, Below, AllBelow}
use Rattle.lowering_soundness.proofs.Lefts.{left_last, head_fields, head_fresh}
use Rattle.lowering_soundness.proofs.Positions.{OnePart, all_fresh_below}

-- the constructor that is the last one
open_left : (w : Table) (t u : ℕ) (h : Head) (ps : M.Patterns) (out : List Head) → IsPattern w t (M.Test u h ps) → is_in h out ≡ false → is_last w (M.Test u h ps) (Open out) ≡ true → u ≡ t → left w t (Is h (opens ps)) ≡ left w t (Open out)
open_left w zero u (Number i) ps out typed none last e = absurd (true≢false (sym last ∙ ap (λ t. Rattle.lowering_relation.specs.match_knowledge.Known.none_left w t (Number i ∷ out)) e))
open_left w (suc t) u (Number i) ps out typed none last e = absurd typed.2
open_left w t u (Tag n) ps out typed none last e = left_last w t n out (opens ps) (ap (λ t. Rattle.lowering_relation.specs.match_knowledge.Known.none_left w t (Tag n ∷ out)) (sym e) ∙ last) none

-- the constructors are the same
pub last_left : (w : Table) (t : ℕ) (p : M.Pattern) (k : Known) → IsPattern w t p → compare p k ≡ Asks → is_last w p k ≡ true → left w t (side true p k) ≡ left w t k
last_left w t M.Any k typed asks last = absurd (cc)
last_left w t (M.Test u h ps) (Open out) typed asks last = open_left w t u h ps out typed (if_asks (is_in h out) asks) last typed.0
last_left w t (M.Test u h ps) (Is g ks) typed asks last = refl

settled_fresh : (w : Table) (t u : ℕ) (h : Head) (ps : M.Patterns) (out : List Head) → IsPattern w t (M.Test u h ps) → left w t (Is h (opens ps)) ≡ left w t (Open out) → is_last w (M.Test u h ps) (Open out) ≡ true → u ≡ t → Fresh w t (Open out) → Fresh w t (Is h (opens ps))
settled_fresh w zero u (Number i) ps out typed same last e fresh = absurd (true≢false (sym last ∙ ap (λ t. Rattle.lowering_relation.specs.match_knowledge.Known.none_left w t (Number i ∷ out)) e))
settled_fresh w (suc t) u (Number i) ps out typed same last e fresh = absurd typed.2
settled_fresh w t u (Tag n) ps out typed same last e fresh = (same ∙ fresh, head_fresh w t n typed.1 ps typed.2 typed.3)

mutual
  pub last_fresh : (w : Table) (t : ℕ) (p : M.Pattern) (k : Known) → IsPattern w t p → compare p k ≡ Asks → is_last w p k ≡ true → Fresh w t k → Fresh w t (side true p k)
  last_fresh w t M.Any k typed asks last fresh = absurd (cc)
  last_fresh w t (M.Test u h ps) (Open out) typed asks last fresh =
      settled_fresh w t u h ps out typed (open_left w t u h ps out typed (if_asks (is_in h out) asks) last typed.0) last typed.0 fresh
  last_fresh w t (M.Test u h ps) (Is (Number j) ks) typed asks last fresh = absurd fresh
  last_fresh w t (M.Test u h ps) (Is (Tag n) ks) typed asks last fresh =
      let a = asks_is (compare_all ps ks) (same_head h (Tag n)) asks in
      let hf = head_fields w t n typed.1 (subst (λ g. IsHead w t g typed.1) (same_is h (Tag n) a.0) typed.2) in
      (fresh.0, all_last_fresh w (fields w t n) ps ks (subst (λ ts. ArePatterns w ts ps) (sym hf.1) typed.3) a.1 last fresh.1)

  pub all_last_fresh : (w : Table) (ts : List ℕ) (ps : M.Patterns) (ks : Knowns) → ArePatterns w ts ps → compare_all ps ks ≡ Asks → are_last w ps ks ≡ true → AllFresh w ts ks → AllFresh w ts (side_all true ps ks)
  all_last_fresh w ts M.NoPatterns ks are asks last fresh = absurd (cc)
  all_last_fresh w ts (M.MorePatterns p ps) NoKnowns are asks last fresh = absurd (cc)
  all_last_fresh w [] (M.MorePatterns p ps) (MoreKnowns k ks) are asks last fresh = absurd are
  all_last_fresh w (t ∷ ts) (M.MorePatterns p ps) (MoreKnowns k ks) are asks last fresh = elim (or_not (is_asks (compare p k))) as (λ v. AllFresh w (t ∷ ts) (side_all true (M.MorePatterns p ps) (MoreKnowns k ks))) [
    | inl y ↦ subst (AllFresh w (t ∷ ts)) (sym (chosen (is_asks (compare p k)) (MoreKnowns (side true p k) ks) (MoreKnowns k (side_all true ps ks)) y))
        (last_fresh w t p k are.0 (is_asking (compare p k) y) (sym (chosen (is_asks (compare p k)) (is_last w p k) (are_last w ps ks) y) ∙ last) fresh.0, fresh.1)
    | inr y ↦ subst (AllFresh w (t ∷ ts)) (sym (refused (is_asks (compare p k)) (MoreKnowns (side true p k) ks) (MoreKnowns k (side_all true ps ks)) y))
        (fresh.0, all_last_fresh w ts ps ks are.1 (both_asks (compare p k) (compare_all ps ks) asks y) (sym (refused (is_asks (compare p k)) (is_last w p k) (are_last w ps ks) y) ∙ last) fresh.1)
  ]

-- a position whose kind is the same
same_part : (w : Table) (root : Option ℕ) (t : ℕ) (k l : Known) (r i : ℕ) → left w t l ≡ left w t k → part_kind w root t k r i ≡ part_kind w root t l r i
same_part w root t k l r i e = ap (λ cs. if is_scalar_type w t then K.Scalar t else K.Lent t cs root (Some (record { register = r; field = i }))) (sym e)

open_below : (w : Table) (root : Option ℕ) (t u : ℕ) (h : Head) (ps : M.Patterns) (r : ℕ) (fs : Spots) (read : List ℕ) (m : ℕ → Kind) → IsPattern w t (M.Test u h ps) → Unread (all_in fs) read m → Below w root t (Is h (opens ps)) (At r fs) read m
open_below w root t v (Number i) ps r fs read m typed u = u
open_below w root t v (Tag n) ps r fs read m typed u = all_fresh_below w root (fields w t n) (opens ps) fs r 0 read m (head_fresh w t n typed.1 ps typed.2 typed.3) u

-- one position, by what is reported below it
last_part : (w : Table) (root : Option ℕ) (t : ℕ) (p : M.Pattern) (k : Known) (s : Spot) (r i : ℕ) (read : List ℕ) (m : ℕ → Kind) → IsPattern w t p → compare p k ≡ Asks → is_last w p k ≡ true → OnePart w root t k s r i read m → (Below w root t k s read m → Below w root t (side true p k) s read m) → OnePart w root t (side true p k) s r i read m
last_part w root t p k s r i read m typed asks last (inl h) deep = inl (h.0, h.1 ∙ same_part w root t k (side true p k) r i (last_left w t p k typed asks last), deep h.2)
last_part w root t p k s r i read m typed asks last (inr h) deep = inr (h.0, h.1, h.2, last_fresh w t p k typed asks last h.3)

mutual
  pub last_below : (w : Table) (root : Option ℕ) (t : ℕ) (p : M.Pattern) (k : Known) (s : Spot) (read : List ℕ) (m : ℕ → Kind) → IsPattern w t p → compare p k ≡ Asks → is_last w p k ≡ true → Below w root t k s read m → Below w root t (side true p k) s read m
  last_below w root t M.Any k s read m typed asks last parts = absurd (cc)
  last_below w root t (M.Test u h ps) (Open out) (At r fs) read m typed asks last parts = open_below w root t u h ps r fs read m typed parts
  last_below w root t (M.Test u h ps) (Is (Number j) ks) (At r fs) read m typed asks last parts = parts
  last_below w root t (M.Test u h ps) (Is (Tag n) ks) (At r fs) read m typed asks last parts =
      let a = asks_is (compare_all ps ks) (same_head h (Tag n)) asks in
      let hf = head_fields w t n typed.1 (subst (λ g. IsHead w t g typed.1) (same_is h (Tag n) a.0) typed.2) in
      all_last_below w root (fields w t n) ps ks fs r 0 read m (subst (λ ts. ArePatterns w ts ps) (sym hf.1) typed.3) a.1 last parts

  pub all_last_below : (w : Table) (root : Option ℕ) (ts : List ℕ) (ps : M.Patterns) (ks : Knowns) (ss : Spots) (r i : ℕ) (read : List ℕ) (m : ℕ → Kind) → ArePatterns w ts ps → compare_all ps ks ≡ Asks → are_last w ps ks ≡ true → AllBelow w root ts ks ss r i read m → AllBelow w root ts (side_all true ps ks) ss r i read m
  all_last_below w root ts M.NoPatterns ks ss r i read m are asks last parts = absurd (cc)
  all_last_below w root ts (M.MorePatterns p ps) NoKnowns ss r i read m are asks last parts = absurd (cc)
  all_last_below w root ts (M.MorePatterns p ps) (MoreKnowns k ks) NoSpots r i read m are asks last parts = tt
  all_last_below w root [] (M.MorePatterns p ps) (MoreKnowns k ks) (MoreSpots s ss) r i read m are asks last parts = absurd are
  all_last_below w root (t ∷ ts) (M.MorePatterns p ps) (MoreKnowns k ks) (MoreSpots s ss) r i read m are asks last parts = elim (or_not (is_asks (compare p k))) as (λ v. AllBelow w root (t ∷ ts) (side_all true (M.MorePatterns p ps) (MoreKnowns k ks)) (MoreSpots s ss) r i read m) [
    | inl y ↦ subst (λ ks. AllBelow w root (t ∷ ts) ks (MoreSpots s ss) r i read m) (sym (chosen (is_asks (compare p k)) (MoreKnowns (side true p k) ks) (MoreKnowns k (side_all true ps ks)) y)) (
      last_part w root t p k s r i read m are.0 (is_asking (compare p k) y) (sym (chosen (is_asks (compare p k)) (is_last w p k) (are_last w ps ks) y) ∙ last) parts.0
          (λ d. last_below w root t p k s read m are.0 (is_asking (compare p k) y) (sym (chosen (is_asks (compare p k)) (is_last w p k) (are_last w ps ks) y) ∙ last) d),
      parts.1,
    )
    | inr y ↦ subst (λ ks. AllBelow w root (t ∷ ts) ks (MoreSpots s ss) r i read m) (sym (refused (is_asks (compare p k)) (MoreKnowns (side true p k) ks) (MoreKnowns k (side_all true ps ks)) y))
        (parts.0, all_last_below w root ts ps ks ss r (suc i) read m are.1 (both_asks (compare p k) (compare_all ps ks) asks y) (sym (refused (is_asks (compare p k)) (is_last w p k) (are_last w ps ks) y) ∙ last) parts.1)
  ]
