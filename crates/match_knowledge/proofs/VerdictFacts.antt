-- What a comparison says of all values that agree.
use Rattle.std.proofs.Common.{◌≡◌, ℕ, List, [], ◌∷◌, Bool, true, false, refl, sym, ap, ◌∙◌, subst}
use Rattle.std.specs.Prelude.{◌&&◌, if◌then◌else◌}
use Rattle.match_knowledge.specs.declared.heads.Head.{Head}
use Rattle.match_knowledge.specs.declared.verdicts.Verdict.{Verdict}
use Rattle.match_knowledge.specs.declared.verdicts.Verdict.TheVariants.{Fits, Misses, Asks}
use Rattle.fip_base.specs.fip_language.Values.{Value, Values, End, More}
use Rattle.fip_base.specs.fip_language.Table.{Table, HasType, HaveTypes}
use Rattle.match_knowledge.specs.ValueHeads.{head, children, same_head, IsHead}
use Rattle.match_knowledge.specs.Patterns.{Pattern, Any, Test, Patterns, NoPatterns, MorePatterns, fits, fit_all, IsPattern, ArePatterns}
use Rattle.match_knowledge.specs.Known.{Known, Open, Is, Knowns, NoKnowns, MoreKnowns, is_in, agrees, agree_all, both, compare, compare_all, Alive, AllAlive}
use Rattle.match_knowledge.proofs.Facts.{same_is, is_same, and_both, both_and, not_true, not_both, typed_head, one_head}
use Rattle.fip_base.proofs.fip_language.Facts.{and_false_first as and_false_left, and_false_last as and_false}

pub if_misses : (b : Bool) → (if b then Misses else Asks) ≡ Misses → b ≡ true
if_misses true e = refl
if_misses false e = cc

pub if_asks : (b : Bool) → (if b then Misses else Asks) ≡ Asks → b ≡ false
if_asks true e = cc
if_asks false e = refl

pub if_open_fits : (b : Bool) → (if b then Misses else Asks) ≡ Fits → ⊥
if_open_fits true e = cc
if_open_fits false e = cc

miss_open : (h g : Head) (out : List Head) (x : Bool) → is_in h out ≡ true → is_in g out ≡ false → (s : Bool) → same_head h g ≡ s → (s && x) ≡ false
miss_open h g out x e a false q = refl
miss_open h g out x e a true q = absurd (not_both (is_in g out) (ap (λ z. is_in z out) (sym (same_is h g q)) ∙ e) a)

-- the head is another one, or the children miss
miss_is : (h g k : Head) (x : Bool) (w : Verdict) → (b : Bool) → same_head h g ≡ b → (if b then w else Misses) ≡ Misses → same_head g k ≡ true → (w ≡ Misses → x ≡ false) → (s : Bool) → same_head h k ≡ s → (s && x) ≡ false
miss_is h g k x w true q e a f s r = and_false s x (f e)
miss_is h g k x w false q e a f false r = refl
miss_is h g k x w false q e a f true r = absurd (not_both (same_head h g) (is_same h g (same_is h k r ∙ sym (same_is g k a))) q)

both_misses : (a b : Verdict) → both a b ≡ Misses → (c : Bool) → (d : Bool) → (a ≡ Misses → c ≡ false) → (b ≡ Misses → d ≡ false) → (c && d) ≡ false
both_misses Fits b e c d f g = and_false c d (g e)
both_misses Misses b e c d f g = and_false_left c d (f refl)
both_misses Asks Fits e c d f g = cc
both_misses Asks Misses e c d f g = and_false c d (g refl)
both_misses Asks Asks e c d f g = cc

mutual
  pub misses : (p : Pattern) (k : Known) (v : Value) → compare p k ≡ Misses → agrees k v ≡ true → fits p v ≡ false
  misses Any k v e a = cc
  misses (Test t h ps) (Open out) v e a = miss_open h (head v) out (fit_all ps (children v)) (if_misses (is_in h out) e) (not_true (is_in (head v) out) a) (same_head h (head v)) refl
  misses (Test t h ps) (Is g ks) v e a =
      let r = and_both (same_head g (head v)) (agree_all ks (children v)) a in
      miss_is h g (head v) (fit_all ps (children v)) (compare_all ps ks) (same_head h g) refl e r.0 (λ m. misses_all ps ks (children v) m r.1) (same_head h (head v)) refl

  misses_all : (ps : Patterns) (ks : Knowns) (vs : Values) → compare_all ps ks ≡ Misses → agree_all ks vs ≡ true → fit_all ps vs ≡ false
  misses_all NoPatterns ks vs e a = cc
  misses_all (MorePatterns p ps) NoKnowns vs e a = cc
  misses_all (MorePatterns p ps) (MoreKnowns k ks) End e a = refl
  misses_all (MorePatterns p ps) (MoreKnowns k ks) (More v vs) e a =
      let r = and_both (agrees k v) (agree_all ks vs) a in
      both_misses (compare p k) (compare_all ps ks) e (fits p v) (fit_all ps vs) (λ m. misses p k v m r.0) (λ m. misses_all ps ks vs m r.1)

fit_is : (w : Verdict) → (b : Bool) → (if b then w else Misses) ≡ Fits → (b ≡ true) × (w ≡ Fits)
fit_is w true e = (refl, e)
fit_is w false e = cc

pub both_fits : (a b : Verdict) → both a b ≡ Fits → (a ≡ Fits) × (b ≡ Fits)
both_fits Fits b e = (refl, e)
both_fits Misses b e = cc
both_fits Asks Fits e = cc
both_fits Asks Misses e = cc
both_fits Asks Asks e = cc

mutual
  pub fit : (tb : Table) (m t : ℕ) (p : Pattern) (k : Known) (v : Value) → IsPattern tb t p → Alive tb m t k → HasType tb t v → compare p k ≡ Fits → agrees k v ≡ true → fits p v ≡ true
  fit tb m t Any k v q l h e a = refl
  fit tb m t (Test u g ps) (Open out) v q l h e a = absurd (if_open_fits (is_in g out) e)
  fit tb m t (Test u g ps) (Is f ks) v q l h e a =
      let r = and_both (same_head f (head v)) (agree_all ks (children v)) a in
      let w = fit_is (compare_all ps ks) (same_head g f) e in
      let fv : f ≡ head v = same_is f (head v) r.0 in
      let gf : g ≡ f = same_is g f w.0 in
      let d = typed_head tb t v h in
      let s1 : q.1 ≡ d.0 = one_head tb t (head v) q.1 d.0 (subst (λ z. IsHead tb t z q.1) (gf ∙ fv) q.2) d.1 in
      let s2 : l.0 ≡ d.0 = one_head tb t (head v) l.0 d.0 (subst (λ z. IsHead tb t z l.0) fv l.1) d.1 in
      both_and (same_head g (head v)) (fit_all ps (children v)) (is_same g (head v) (gf ∙ fv))
      (fit_many tb m d.0 ps ks (children v) (subst (λ z. ArePatterns tb z ps) s1 q.3) (subst (λ z. AllAlive tb m z ks) s2 l.2) d.2 w.1 r.1)

  fit_many : (tb : Table) (m : ℕ) (fs : List ℕ) (ps : Patterns) (ks : Knowns) (vs : Values) → ArePatterns tb fs ps → AllAlive tb m fs ks → HaveTypes tb fs vs → compare_all ps ks ≡ Fits → agree_all ks vs ≡ true → fit_all ps vs ≡ true
  fit_many tb m [] NoPatterns ks End q l h e a = refl
  fit_many tb m [] NoPatterns ks (More v vs) q l h e a = absurd h
  fit_many tb m [] (MorePatterns p ps) ks vs q l h e a = absurd q
  fit_many tb m (f ∷ fs) NoPatterns ks vs q l h e a = absurd q
  fit_many tb m (f ∷ fs) (MorePatterns p ps) NoKnowns vs q l h e a = absurd l
  fit_many tb m (f ∷ fs) (MorePatterns p ps) (MoreKnowns k ks) End q l h e a = absurd h
  fit_many tb m (f ∷ fs) (MorePatterns p ps) (MoreKnowns k ks) (More v vs) q l h e a =
      let r = and_both (agrees k v) (agree_all ks vs) a in
      let w = both_fits (compare p k) (compare_all ps ks) e in
      both_and (fits p v) (fit_all ps vs) (fit tb m f p k v q.0 l.0 h.0 w.0 r.0) (fit_many tb m fs ps ks vs q.1 l.1 h.1 w.1 r.1)
