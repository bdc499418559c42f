-- What is known of a value, where it is as much as the value has.
use Rattle.std.proofs.Common.{◌≡◌, ◌⊎◌, inl, inr, refl, sym, ◌∙◌, subst, arith, ℕ, ◌+◌, ◌≤◌, Bool, true, false, List, [], ◌∷◌, length}
use Rattle.std.specs.Prelude.{if◌then◌else◌}
use Rattle.tree_semantics.specs.fip_language.Values.{Value, Values, End, More}
use Rattle.tree_semantics.specs.fip_language.Table.{Table, HasType, HaveTypes}
use Rattle.match_knowledge.specs.declared.heads.Head.{Head}
use Rattle.match_knowledge.specs.declared.verdicts.Verdict.TheVariants.{Fits, Asks}
use Rattle.match_knowledge.specs.ValueHeads.{head, children, same_head, IsHead}
use Rattle.match_knowledge.specs.Patterns.{Pattern, Any, Test, Patterns, NoPatterns, MorePatterns, fits, IsPattern, ArePatterns}
use Rattle.match_knowledge.specs.Known.{Known, Open, Is, Knowns, NoKnowns, MoreKnowns, agrees, agree_all, compare, compare_all, is_asks, is_in, opens, settle, side, side_all, has_asked, have_asked, is_last, Alive, AllAlive}
use Rattle.match_knowledge.proofs.Facts.{same_is, and_both, not_true, typed_head, one_head}
use Rattle.match_knowledge.proofs.Split.{asks_is, both_asks, is_asking, to_side}
use Rattle.match_knowledge.proofs.VerdictFacts.{fit}
use Rattle.match_knowledge.proofs.Living.{last_none}
use Rattle.lowering_relation.specs.Reading.{Shaped, AllShaped}
use Rattle.match_knowledge.proofs.fip_base.fip_language.Facts.{true_or_false as either_bool}

-- the heads that are out, counted
abbrev mutual
  outs : Known → ℕ
  outs (Open out) = length out
  outs (Is h ks) = all_outs ks

  all_outs : Knowns → ℕ
  all_outs NoKnowns = 0
  all_outs (MoreKnowns k ks) = outs k + all_outs ks

mutual
  alive : (tb : Table) (m t : ℕ) (k : Known) (v : Value) → outs k ≤ m → Shaped k v → HasType tb t v → agrees k v ≡ true → Alive tb m t k
  alive tb m t (Open out) v le s h a = (le, v, h, not_true (is_in (head v) out) a)
  alive tb m t (Is g ks) v le s h a =
      let r = and_both (same_head g (head v)) (agree_all ks (children v)) a in
      let d = typed_head tb t v h in
      (d.0, subst (λ z. IsHead tb t z d.0) (sym (same_is g (head v) r.0)) d.1, all_alive tb m d.0 ks (children v) le s d.2 r.1)

  all_alive : (tb : Table) (m : ℕ) (fs : List ℕ) (ks : Knowns) (vs : Values) → all_outs ks ≤ m → AllShaped ks vs → HaveTypes tb fs vs → agree_all ks vs ≡ true → AllAlive tb m fs ks
  all_alive tb m [] NoKnowns vs le s h a = tt
  all_alive tb m [] (MoreKnowns k ks) End le s h a = absurd s
  all_alive tb m [] (MoreKnowns k ks) (More v vs) le s h a = absurd h
  all_alive tb m (f ∷ fs) NoKnowns End le s h a = absurd h
  all_alive tb m (f ∷ fs) NoKnowns (More v vs) le s h a = absurd s
  all_alive tb m (f ∷ fs) (MoreKnowns k ks) End le s h a = absurd s
  all_alive tb m (f ∷ fs) (MoreKnowns k ks) (More v vs) le s h a =
      let r = and_both (agrees k v) (agree_all ks vs) a in
      (alive tb m f k v (omega (arith, le)) s.0 h.0 r.0, all_alive tb m fs ks vs (omega (arith, le)) s.1 h.1 r.1)

pub fits_known : (tb : Table) (t : ℕ) (p : Pattern) (k : Known) (v : Value) → IsPattern tb t p → HasType tb t v → Shaped k v → compare p k ≡ Fits → agrees k v ≡ true → fits p v ≡ true
fits_known tb t p k v q h s e a = fit tb (outs k) t p k v q (alive tb (outs k) t k v (omega arith) s h a) h e a

-- where the other side has no value, the value is on this one
pub last_asked : (tb : Table) (t : ℕ) (p : Pattern) (k : Known) (v : Value) → IsPattern tb t p → HasType tb t v → Shaped k v → compare p k ≡ Asks → agrees k v ≡ true → is_last tb p k ≡ true → has_asked p k v ≡ true
last_asked tb t p k v q h s e a l = by_answer (either_bool (has_asked p k v))
  where
    by_answer : (has_asked p k v ≡ true) ⊎ (has_asked p k v ≡ false) → has_asked p k v ≡ true
    by_answer (inl yes') = yes'
    by_answer (inr no') = absurd (last_none tb (outs k) t p k v q (alive tb (outs k) t k v (omega arith) s h a) h e l (to_side false p k v e a no'))

-- the sides of a test

opens_shaped : (tb : Table) (fs : List ℕ) (ps : Patterns) (vs : Values) → ArePatterns tb fs ps → HaveTypes tb fs vs → AllShaped (opens ps) vs
opens_shaped tb [] NoPatterns End q h = tt
opens_shaped tb [] NoPatterns (More v vs) q h = absurd h
opens_shaped tb [] (MorePatterns p ps) vs q h = absurd q
opens_shaped tb (f ∷ fs) NoPatterns vs q h = absurd q
opens_shaped tb (f ∷ fs) (MorePatterns p ps) End q h = absurd h
opens_shaped tb (f ∷ fs) (MorePatterns p ps) (More v vs) q h = (tt, opens_shaped tb fs ps vs q.1 h.1)

settled_shaped : (tb : Table) (t : ℕ) (b : Bool) (h : Head) (ps : Patterns) (out : List Head) (fs : List ℕ) (v : Value) → IsHead tb t h fs → ArePatterns tb fs ps → HasType tb t v → same_head h (head v) ≡ b → Shaped (settle b h ps out) v
settled_shaped tb t true h ps out fs v i q ty e =
    let d = typed_head tb t v ty in
    let same : fs ≡ d.0 = one_head tb t (head v) fs d.0 (subst (λ z. IsHead tb t z fs) (same_is h (head v) e) i) d.1 in
    opens_shaped tb d.0 ps (children v) (subst (λ z. ArePatterns tb z ps) same q) d.2
settled_shaped tb t false h ps out fs v i q ty e = tt

if_shaped : (c : Bool) (k k' : Known) (ks ks' : Knowns) (v : Value) (vs : Values) → Shaped k v → AllShaped ks vs → (c ≡ true → Shaped k' v) → (c ≡ false → AllShaped ks' vs) → AllShaped (if c then MoreKnowns k' ks else MoreKnowns k ks') (More v vs)
if_shaped true k k' ks ks' v vs s r f g = (f refl, r)
if_shaped false k k' ks ks' v vs s r f g = (s, g refl)

if_true : (c x y : Bool) (z : Bool) → c ≡ true → (if c then x else y) ≡ z → x ≡ z
if_true true x y z e f = f
if_true false x y z e f = cc

if_false : (c x y : Bool) (z : Bool) → c ≡ false → (if c then x else y) ≡ z → y ≡ z
if_false true x y z e f = cc
if_false false x y z e f = f

mutual
  pub side_shaped : (tb : Table) (t : ℕ) (b : Bool) (p : Pattern) (k : Known) (v : Value) → IsPattern tb t p → HasType tb t v → Shaped k v → agrees k v ≡ true → compare p k ≡ Asks → has_asked p k v ≡ b → Shaped (side b p k) v
  side_shaped tb t b Any k v q h s a e x = s
  side_shaped tb t b (Test u g ps) (Open out) v q h s a e x =
      settled_shaped tb t b g ps out q.1 v q.2 q.3 h x
  side_shaped tb t b (Test u g ps) (Is f ks) v q h s a e x =
      let r = and_both (same_head f (head v)) (agree_all ks (children v)) a in
      let w = asks_is (compare_all ps ks) (same_head g f) e in
      let d = typed_head tb t v h in
      let same : q.1 ≡ d.0 = one_head tb t (head v) q.1 d.0 (subst (λ z. IsHead tb t z q.1) (same_is g f w.0 ∙ same_is f (head v) r.0) q.2) d.1 in
      sides_shaped tb d.0 b ps ks (children v) (subst (λ z. ArePatterns tb z ps) same q.3) d.2 s r.1 w.1 x

  sides_shaped : (tb : Table) (fs : List ℕ) (b : Bool) (ps : Patterns) (ks : Knowns) (vs : Values) → ArePatterns tb fs ps → HaveTypes tb fs vs → AllShaped ks vs → agree_all ks vs ≡ true → compare_all ps ks ≡ Asks → have_asked ps ks vs ≡ b → AllShaped (side_all b ps ks) vs
  sides_shaped tb fs b NoPatterns ks vs q h s a e x = s
  sides_shaped tb fs b (MorePatterns p ps) NoKnowns vs q h s a e x = s
  sides_shaped tb fs b (MorePatterns p ps) (MoreKnowns k ks) End q h s a e x = absurd s
  sides_shaped tb [] b (MorePatterns p ps) (MoreKnowns k ks) (More v vs) q h s a e x = absurd h
  sides_shaped tb (f ∷ fs) b (MorePatterns p ps) (MoreKnowns k ks) (More v vs) q h s a e x =
      let r = and_both (agrees k v) (agree_all ks vs) a in
      if_shaped (is_asks (compare p k)) k (side b p k) ks (side_all b ps ks) v vs s.0 s.1
      (λ c. side_shaped tb f b p k v q.0 h.0 s.0 r.0 (is_asking (compare p k) c) (if_true (is_asks (compare p k)) (has_asked p k v) (have_asked ps ks vs) b c x))
      (λ c. sides_shaped tb fs b ps ks vs q.1 h.1 s.1 r.1 (both_asks (compare p k) (compare_all ps ks) e c) (if_false (is_asks (compare p k)) (has_asked p k v) (have_asked ps ks vs) b c x))
