-- A value that agrees is on just one side.
use Rattle.std.proofs.Common.{◌≡◌, List, Bool, true, false, refl, sym, ap, ◌∙◌}
use Rattle.std.specs.Prelude.{◌&&◌, if◌then◌else◌}
use Rattle.match_knowledge.specs.declared.heads.Head.{Head}
use Rattle.match_knowledge.specs.declared.verdicts.Verdict.{Verdict}
use Rattle.match_knowledge.specs.declared.verdicts.Verdict.TheVariants.{Fits, Misses, Asks}
use Rattle.fip_base.specs.fip_language.Values.{Value, Values, End, More}
use Rattle.match_knowledge.specs.ValueHeads.{head, children, same_head}
use Rattle.match_knowledge.specs.Patterns.{Pattern, Any, Test, Patterns, NoPatterns, MorePatterns}
use Rattle.match_knowledge.specs.Known.{Known, Open, Is, Knowns, NoKnowns, MoreKnowns, is_in, agrees, agree_all, both, compare, compare_all, is_asks, opens, settle, side, side_all, has_asked, have_asked}
use Rattle.match_knowledge.proofs.Facts.{same_is, and_both, both_and, not_true, true_not}
use Rattle.match_knowledge.proofs.VerdictFacts.{if_asks}

pub agree_opens : (ps : Patterns) (vs : Values) → agree_all (opens ps) vs ≡ true
agree_opens NoPatterns vs = refl
agree_opens (MorePatterns p ps) End = refl
agree_opens (MorePatterns p ps) (More v vs) = agree_opens ps vs

pub asks_is : (w : Verdict) → (b : Bool) → (if b then w else Misses) ≡ Asks → (b ≡ true) × (w ≡ Asks)
asks_is w true e = (refl, e)
asks_is w false e = cc

-- where the first doesn't ask, the others do
pub both_asks : (a b : Verdict) → both a b ≡ Asks → is_asks a ≡ false → b ≡ Asks
both_asks Fits b e n = e
both_asks Misses b e n = cc
both_asks Asks b e n = cc

pub is_asking : (a : Verdict) → is_asks a ≡ true → a ≡ Asks
is_asking Fits e = cc
is_asking Misses e = cc
is_asking Asks e = refl

or_false : (b x : Bool) → b ≡ false → x ≡ false → (if b then true else x) ≡ false
or_false true x e f = cc
or_false false x e f = f

to_open : (b : Bool) (h : Head) (ps : Patterns) (out : List Head) (v : Value) → is_in (head v) out ≡ false → same_head h (head v) ≡ b → agrees (settle b h ps out) v ≡ true
to_open true h ps out v a e = both_and (same_head h (head v)) (agree_all (opens ps) (children v)) e (agree_opens ps (children v))
to_open false h ps out v a e = true_not (if same_head h (head v) then true else is_in (head v) out) (or_false (same_head h (head v)) (is_in (head v) out) e a)

to_more : (b : Bool) (p : Pattern) (ps : Patterns) (k : Known) (ks : Knowns) (v : Value) (vs : Values) → (c : Bool) → agrees k v ≡ true → agree_all ks vs ≡ true → (c ≡ true → has_asked p k v ≡ b → agrees (side b p k) v ≡ true) → (c ≡ false → have_asked ps ks vs ≡ b → agree_all (side_all b ps ks) vs ≡ true) → (if c then has_asked p k v else have_asked ps ks vs) ≡ b → agree_all (if c then MoreKnowns (side b p k) ks else MoreKnowns k (side_all b ps ks)) (More v vs) ≡ true
to_more b p ps k ks v vs true a r f g e = both_and (agrees (side b p k) v) (agree_all ks vs) (f refl e) r
to_more b p ps k ks v vs false a r f g e = both_and (agrees k v) (agree_all (side_all b ps ks) vs) a (g refl e)

end_agrees : (b : Bool) (p : Pattern) (ps : Patterns) (k : Known) (ks : Knowns) → (c : Bool) → agree_all (if c then MoreKnowns (side b p k) ks else MoreKnowns k (side_all b ps ks)) End ≡ true
end_agrees b p ps k ks true = refl
end_agrees b p ps k ks false = refl

mutual
  pub to_side : (b : Bool) (p : Pattern) (k : Known) (v : Value) → compare p k ≡ Asks → agrees k v ≡ true → has_asked p k v ≡ b → agrees (side b p k) v ≡ true
  to_side b Any k v e a x = cc
  to_side b (Test t h ps) (Open out) v e a x = to_open b h ps out v (not_true (is_in (head v) out) a) x
  to_side b (Test t h ps) (Is g ks) v e a x =
      let r = and_both (same_head g (head v)) (agree_all ks (children v)) a in
      let w = asks_is (compare_all ps ks) (same_head h g) e in
      both_and (same_head g (head v)) (agree_all (side_all b ps ks) (children v)) r.0 (to_sides b ps ks (children v) w.1 r.1 x)

  to_sides : (b : Bool) (ps : Patterns) (ks : Knowns) (vs : Values) → compare_all ps ks ≡ Asks → agree_all ks vs ≡ true → have_asked ps ks vs ≡ b → agree_all (side_all b ps ks) vs ≡ true
  to_sides b NoPatterns ks vs e a x = cc
  to_sides b (MorePatterns p ps) NoKnowns vs e a x = cc
  to_sides b (MorePatterns p ps) (MoreKnowns k ks) End e a x = end_agrees b p ps k ks (is_asks (compare p k))
  to_sides b (MorePatterns p ps) (MoreKnowns k ks) (More v vs) e a x =
      let r = and_both (agrees k v) (agree_all ks vs) a in
      to_more b p ps k ks v vs (is_asks (compare p k)) r.0 r.1 (λ c y. to_side b p k v (is_asking (compare p k) c) r.0 y) (λ c y. to_sides b ps ks vs (both_asks (compare p k) (compare_all ps ks) e c) r.1 y) x

from_open : (b : Bool) (h : Head) (ps : Patterns) (out : List Head) (v : Value) → is_in h out ≡ false → agrees (settle b h ps out) v ≡ true → is_in (head v) out ≡ false
from_open true h ps out v n a = ap (λ z. is_in z out) (sym (same_is h (head v) (let r = and_both (same_head h (head v)) (agree_all (opens ps) (children v)) a in r.0))) ∙ n
from_open false h ps out v n a = off (same_head h (head v)) (is_in (head v) out) (not_true (if same_head h (head v) then true else is_in (head v) out) a) where
  off : (b x : Bool) → (if b then true else x) ≡ false → x ≡ false
  off true x e = cc
  off false x e = e

from_more : (b : Bool) (p : Pattern) (ps : Patterns) (k : Known) (ks : Knowns) (v : Value) (vs : Values) → (c : Bool) → (c ≡ true → agrees (side b p k) v ≡ true → agrees k v ≡ true) → (c ≡ false → agree_all (side_all b ps ks) vs ≡ true → agree_all ks vs ≡ true) → agree_all (if c then MoreKnowns (side b p k) ks else MoreKnowns k (side_all b ps ks)) (More v vs) ≡ true → (agrees k v && agree_all ks vs) ≡ true
from_more b p ps k ks v vs true f g a = let r = and_both (agrees (side b p k) v) (agree_all ks vs) a in both_and (agrees k v) (agree_all ks vs) (f refl r.0) r.1
from_more b p ps k ks v vs false f g a = let r = and_both (agrees k v) (agree_all (side_all b ps ks) vs) a in both_and (agrees k v) (agree_all ks vs) r.0 (g refl r.1)

mutual
  pub from_side : (b : Bool) (p : Pattern) (k : Known) (v : Value) → compare p k ≡ Asks → agrees (side b p k) v ≡ true → agrees k v ≡ true
  from_side b Any k v e a = a
  from_side b (Test t h ps) (Open out) v e a = true_not (is_in (head v) out) (from_open b h ps out v (if_asks (is_in h out) e) a)
  from_side b (Test t h ps) (Is g ks) v e a =
      let r = and_both (same_head g (head v)) (agree_all (side_all b ps ks) (children v)) a in
      let w = asks_is (compare_all ps ks) (same_head h g) e in
      both_and (same_head g (head v)) (agree_all ks (children v)) r.0 (from_sides b ps ks (children v) w.1 r.1)

  from_sides : (b : Bool) (ps : Patterns) (ks : Knowns) (vs : Values) → compare_all ps ks ≡ Asks → agree_all (side_all b ps ks) vs ≡ true → agree_all ks vs ≡ true
  from_sides b NoPatterns ks vs e a = a
  from_sides b (MorePatterns p ps) NoKnowns vs e a = a
  from_sides b (MorePatterns p ps) (MoreKnowns k ks) End e a = refl
  from_sides b (MorePatterns p ps) (MoreKnowns k ks) (More v vs) e a =
      from_more b p ps k ks v vs (is_asks (compare p k)) (λ c y. from_side b p k v (is_asking (compare p k) c) y) (λ c y. from_sides b ps ks vs (both_asks (compare p k) (compare_all ps ks) e c) y) a
