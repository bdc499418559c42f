-- What is known stays what some value agrees with.
use Rattle.std.proofs.Common.{◌≡◌, ◌⊎◌, inl, inr, ℕ, zero, suc, ◌<◌, ◌≤◌, ◌^◌, List, [], ◌∷◌, length, Some, Bool, true, false, refl, sym, ap, ◌∙◌, subst, arith}
use Rattle.std.specs.Prelude.{◌&&◌, if◌then◌else◌, pos, slice_get}
use Rattle.std.proofs.lemmas.Option.{slice_get_within}
use Rattle.match_knowledge.specs.declared.heads.Head.{Head}
use Rattle.match_knowledge.specs.declared.heads.Head.TheVariants.{Number, Tag}
use Rattle.match_knowledge.specs.declared.verdicts.Verdict.TheVariants.{Asks}
use Rattle.fip_base.specs.fip_language.Values.{Value, Int, Node, Values, End, More}
use Rattle.fip_base.specs.fip_language.Table.{Shape, Table, shapes, HasType, HaveTypes}
use Rattle.match_knowledge.specs.ValueHeads.{AllHaveValues, IsTidy, head, children, same_head, IsHead}
use Rattle.match_knowledge.specs.Patterns.{Pattern, Any, Test, Patterns, NoPatterns, MorePatterns, IsPattern, ArePatterns}
use Rattle.match_knowledge.specs.Known.{Known, Open, Is, Knowns, NoKnowns, MoreKnowns, is_in, agrees, agree_all, compare, compare_all, is_asks, opens, settle, side, side_all, all_out, none_left, is_last, are_last, Alive, AllAlive}
use Rattle.match_knowledge.proofs.Facts.{same_is, is_same, and_both, both_and, not_true, true_not, not_both, typed_head, one_head, build}
use Rattle.match_knowledge.proofs.Split.{asks_is, both_asks, is_asking}
use Rattle.match_knowledge.proofs.Fresh.{fresh}
use Rattle.fip_base.proofs.fip_language.Facts.{less_or_same as below_or_same}

mutual
  pub witness : (tb : Table) (m t : ℕ) (k : Known) → Alive tb m t k → (v : Value) × HasType tb t v × (agrees k v ≡ true)
  witness tb m t (Open out) l = (l.1, l.2, true_not (is_in (head l.1) out) l.3)
  witness tb m t (Is h ks) l =
      let r = witnesses tb m l.0 ks l.2 in
      let b = build tb t h l.0 r.0 l.1 r.1 in
      (b.0, b.1, both_and (same_head h (head b.0)) (agree_all ks (children b.0)) (is_same h (head b.0) (sym b.2)) (subst (λ z. agree_all ks z ≡ true) (sym b.3) r.2))

  pub witnesses : (tb : Table) (m : ℕ) (fs : List ℕ) (ks : Knowns) → AllAlive tb m fs ks → (vs : Values) × HaveTypes tb fs vs × (agree_all ks vs ≡ true)
  witnesses tb m [] NoKnowns l = (End, tt, refl)
  witnesses tb m [] (MoreKnowns k ks) l = absurd l
  witnesses tb m (f ∷ fs) NoKnowns l = absurd l
  witnesses tb m (f ∷ fs) (MoreKnowns k ks) l =
      let a = witness tb m f k l.0 in
      let r = witnesses tb m fs ks l.1 in
      (More a.0 r.0, (a.1, r.1), both_and (agrees k a.0) (agree_all ks r.0) a.2 r.2)

mutual
  pub longer : (tb : Table) (m t : ℕ) (k : Known) → Alive tb m t k → Alive tb (suc m) t k
  longer tb m t (Open out) l = (let e = l.0 in omega arith, l.1, l.2, l.3)
  longer tb m t (Is h ks) l = (l.0, l.1, longer_all tb m l.0 ks l.2)

  longer_all : (tb : Table) (m : ℕ) (fs : List ℕ) (ks : Knowns) → AllAlive tb m fs ks → AllAlive tb (suc m) fs ks
  longer_all tb m [] NoKnowns l = tt
  longer_all tb m [] (MoreKnowns k ks) l = absurd l
  longer_all tb m (f ∷ fs) NoKnowns l = absurd l
  longer_all tb m (f ∷ fs) (MoreKnowns k ks) l = (longer tb m f k l.0, longer_all tb m fs ks l.1)

pub head_values : (tb : Table) (t : ℕ) (h : Head) (fs : List ℕ) → IsTidy tb → IsHead tb t h fs → AllHaveValues tb fs
head_values tb zero (Number i) fs y a = subst (AllHaveValues tb) (sym a.1) tt
head_values tb zero (Tag c) fs y a = absurd a
head_values tb (suc t) (Number i) fs y a = absurd a
head_values tb (suc t) (Tag c) fs y a = subst (AllHaveValues tb) a.2 (y t c a.0 a.1)

pub opens_alive : (tb : Table) (m : ℕ) (fs : List ℕ) (ps : Patterns) → ArePatterns tb fs ps → AllHaveValues tb fs → AllAlive tb m fs (opens ps)
opens_alive tb m [] NoPatterns q v = tt
opens_alive tb m [] (MorePatterns p ps) q v = absurd q
opens_alive tb m (f ∷ fs) NoPatterns q v = absurd q
opens_alive tb m (f ∷ fs) (MorePatterns p ps) q v = let x = v.0 in ((omega arith, x.0, x.1, refl), opens_alive tb m fs ps q.1 v.1)

pub values_of : (tb : Table) (fs : List ℕ) → AllHaveValues tb fs → (vs : Values) × HaveTypes tb fs vs
values_of tb [] v = (End, tt)
values_of tb (f ∷ fs) v = let r = values_of tb fs v.1 in let x = v.0 in (More x.0 r.0, (x.1, r.1))

out_step : (b x : Bool) (n : ℕ) (out : List Head) → is_in (Tag n) out ≡ b → (b && x) ≡ false → (x ≡ false → (c : ℕ) × (c < n) × (is_in (Tag c) out ≡ false)) → (c : ℕ) × (c < suc n) × (is_in (Tag c) out ≡ false)
out_step true x n out q e f = let r = f e in (r.0, omega (arith, r.1), r.2)
out_step false x n out q e f = (n, omega arith, q)

not_all_out : (n : ℕ) (out : List Head) → all_out n out ≡ false → (c : ℕ) × (c < n) × (is_in (Tag c) out ≡ false)
not_all_out zero out e = cc
not_all_out (suc n) out e = out_step (is_in (Tag n) out) (all_out n out) n out refl e (not_all_out n out)

bump : (n c : ℕ) → ((c < n) ⊎ (c ≡ n)) → (suc c < suc n) ⊎ (suc c ≡ suc n)
bump n c (inl h) = inl (omega arith)
bump n c (inr h) = inr (ap suc h)

all_out_step : (n c : ℕ) (out : List Head) → is_in (Tag n) out ≡ true → (c < n → is_in (Tag c) out ≡ true) → ((c < n) ⊎ (c ≡ n)) → is_in (Tag c) out ≡ true
all_out_step n c out q f (inl h) = f h
all_out_step n c out q f (inr h) = ap (λ z. is_in (Tag z) out) h ∙ q

pub is_all_out : (n c : ℕ) (out : List Head) → all_out n out ≡ true → c < n → is_in (Tag c) out ≡ true
is_all_out zero c out e l = absurd (omega arith)
is_all_out (suc n) c out e l = let r = and_both (is_in (Tag n) out) (all_out n out) e in all_out_step n c out r.0 (is_all_out n c out r.1) (below_or_same n c l)

within : (xs : List Shape) (c : ℕ) → c < length xs → (s : Shape) × (slice_get xs c ≡ Some s)
within [] c l = absurd (omega arith)
within (x ∷ xs) zero l = (x, refl)
within (x ∷ xs) (suc c) l = within xs c (omega arith)

-- where a head is left, so is a value with it
pub some_left : (tb : Table) (t : ℕ) (out : List Head) → IsTidy tb → length out < 2 ^ 63 → none_left tb t out ≡ false → (v : Value) × HasType tb t v × (is_in (head v) out ≡ false)
some_left tb zero out y n e = let m = fresh (length out) out (omega arith) in (Int (pos m.0), omega (arith, m.1, n), m.2)
some_left tb (suc t) out y n e =
    let c = not_all_out (length (shapes tb t)) out e in
    let s = within (shapes tb t) c.0 c.1 in
    let vs = values_of tb s.0.fields (y t c.0 s.0 s.1) in
    (Node c.0 vs.0, (s.0, s.1, vs.1), c.2)

settle_alive : (tb : Table) (m t : ℕ) (b : Bool) (h : Head) (ps : Patterns) (out : List Head) (fs : List ℕ) → IsTidy tb → suc m < 2 ^ 63 → IsHead tb t h fs → ArePatterns tb fs ps → length out ≤ m → (b ≡ false → none_left tb t (h ∷ out) ≡ false) → Alive tb (suc m) t (settle b h ps out)
settle_alive tb m t true h ps out fs y n a q l e = (fs, a, opens_alive tb (suc m) fs ps q (head_values tb t h fs y a))
settle_alive tb m t false h ps out fs y n a q l e = let v = some_left tb t (h ∷ out) y (omega arith) (e refl) in (omega arith, v.0, v.1, v.2)

if_alive : (tb : Table) (m f : ℕ) (fs : List ℕ) (k k' : Known) (ks ks' : Knowns) → (c : Bool) → Alive tb m f k → AllAlive tb m fs ks → (c ≡ true → Alive tb (suc m) f k') → (c ≡ false → AllAlive tb (suc m) fs ks') → AllAlive tb (suc m) (f ∷ fs) (if c then MoreKnowns k' ks else MoreKnowns k ks')
if_alive tb m f fs k k' ks ks' true l r a b = (a refl, longer_all tb m fs ks r)
if_alive tb m f fs k k' ks ks' false l r a b = (longer tb m f k l, b refl)

if_true : (c x y : Bool) → c ≡ true → (if c then x else y) ≡ false → x ≡ false
if_true true x y e f = f
if_true false x y e f = cc

if_false : (c x y : Bool) → c ≡ false → (if c then x else y) ≡ false → y ≡ false
if_false true x y e f = cc
if_false false x y e f = f

mutual
  pub side_alive : (tb : Table) (m t : ℕ) (b : Bool) (p : Pattern) (k : Known) → IsTidy tb → suc m < 2 ^ 63 → IsPattern tb t p → Alive tb m t k → compare p k ≡ Asks → (b ≡ false → is_last tb p k ≡ false) → Alive tb (suc m) t (side b p k)
  side_alive tb m t b Any k y n q l e d = cc
  side_alive tb m t b (Test u h ps) (Open out) y n q l e d = settle_alive tb m t b h ps out q.1 y n q.2 q.3 l.0 (λ z. subst (λ w. none_left tb w (h ∷ out) ≡ false) q.0 (d z))
  side_alive tb m t b (Test u h ps) (Is g ks) y n q l e d =
      let w = asks_is (compare_all ps ks) (same_head h g) e in
      let s : q.1 ≡ l.0 = one_head tb t g q.1 l.0 (subst (λ z. IsHead tb t z q.1) (same_is h g w.0) q.2) l.1 in
      (l.0, l.1, sides_alive tb m l.0 b ps ks y n (subst (λ z. ArePatterns tb z ps) s q.3) l.2 w.1 d)

  pub sides_alive : (tb : Table) (m : ℕ) (fs : List ℕ) (b : Bool) (ps : Patterns) (ks : Knowns) → IsTidy tb → suc m < 2 ^ 63 → ArePatterns tb fs ps → AllAlive tb m fs ks → compare_all ps ks ≡ Asks → (b ≡ false → are_last tb ps ks ≡ false) → AllAlive tb (suc m) fs (side_all b ps ks)
  sides_alive tb m fs b NoPatterns ks y n q l e d = cc
  sides_alive tb m fs b (MorePatterns p ps) NoKnowns y n q l e d = cc
  sides_alive tb m [] b (MorePatterns p ps) (MoreKnowns k ks) y n q l e d = absurd q
  sides_alive tb m (f ∷ fs) b (MorePatterns p ps) (MoreKnowns k ks) y n q l e d =
      if_alive tb m f fs k (side b p k) ks (side_all b ps ks) (is_asks (compare p k)) l.0 l.1
      (λ c. side_alive tb m f b p k y n q.0 l.0 (is_asking (compare p k) c) (λ z. if_true (is_asks (compare p k)) (is_last tb p k) (are_last tb ps ks) c (d z)))
      (λ c. sides_alive tb m fs b ps ks y n q.1 l.1 (both_asks (compare p k) (compare_all ps ks) e c) (λ z. if_false (is_asks (compare p k)) (is_last tb p k) (are_last tb ps ks) c (d z)))

-- where no head is left, no value reaches that side
none_open : (tb : Table) (t : ℕ) (out : List Head) (v : Value) → HasType tb t v → none_left tb t out ≡ true → is_in (head v) out ≡ false → ⊥
none_open tb zero out v h e a = cc
none_open tb (suc t) out (Int i) h e a = absurd h
none_open tb (suc t) out (Node c vs) h e a = not_both (is_in (Tag c) out) (is_all_out (length (shapes tb t)) c out e (slice_get_within (shapes tb t) c h.0 h.1)) a

if_last : (c x y : Bool) → (if c then x else y) ≡ true → ((c ≡ true) × (x ≡ true)) ⊎ ((c ≡ false) × (y ≡ true))
if_last true x y e = inl (refl, e)
if_last false x y e = inr (refl, e)

last_step : (tb : Table) (p : Pattern) (ps : Patterns) (k : Known) (ks : Knowns) (v : Value) (vs : Values) → (c : Bool) → ((c ≡ true) × (is_last tb p k ≡ true)) ⊎ ((c ≡ false) × (are_last tb ps ks ≡ true)) → agree_all (if c then MoreKnowns (side false p k) ks else MoreKnowns k (side_all false ps ks)) (More v vs) ≡ true → (c ≡ true → is_last tb p k ≡ true → agrees (side false p k) v ≡ true → ⊥) → (c ≡ false → are_last tb ps ks ≡ true → agree_all (side_all false ps ks) vs ≡ true → ⊥) → ⊥
last_step tb p ps k ks v vs true (inl d) a f g = let r = and_both (agrees (side false p k) v) (agree_all ks vs) a in f refl d.1 r.0
last_step tb p ps k ks v vs true (inr d) a f g = let z = d.0 in cc
last_step tb p ps k ks v vs false (inl d) a f g = let z = d.0 in cc
last_step tb p ps k ks v vs false (inr d) a f g = let r = and_both (agrees k v) (agree_all (side_all false ps ks) vs) a in g refl d.1 r.1

mutual
  pub last_none : (tb : Table) (m t : ℕ) (p : Pattern) (k : Known) (v : Value) → IsPattern tb t p → Alive tb m t k → HasType tb t v → compare p k ≡ Asks → is_last tb p k ≡ true → agrees (side false p k) v ≡ true → ⊥
  last_none tb m t Any k v q l h e d a = cc
  last_none tb m t (Test u g ps) (Open out) v q l h e d a = none_open tb t (g ∷ out) v h (subst (λ w. none_left tb w (g ∷ out) ≡ true) q.0 d) (not_true (is_in (head v) (g ∷ out)) a)
  last_none tb m t (Test u g ps) (Is f ks) v q l h e d a =
      let r = and_both (same_head f (head v)) (agree_all (side_all false ps ks) (children v)) a in
      let w = asks_is (compare_all ps ks) (same_head g f) e in
      let gf : g ≡ f = same_is g f w.0 in
      let fv : f ≡ head v = same_is f (head v) r.0 in
      let x = typed_head tb t v h in
      let s1 : q.1 ≡ x.0 = one_head tb t (head v) q.1 x.0 (subst (λ z. IsHead tb t z q.1) (gf ∙ fv) q.2) x.1 in
      let s2 : l.0 ≡ x.0 = one_head tb t (head v) l.0 x.0 (subst (λ z. IsHead tb t z l.0) fv l.1) x.1 in
      last_nones tb m x.0 ps ks (children v) (subst (λ z. ArePatterns tb z ps) s1 q.3) (subst (λ z. AllAlive tb m z ks) s2 l.2) x.2 w.1 d r.1

  pub last_nones : (tb : Table) (m : ℕ) (fs : List ℕ) (ps : Patterns) (ks : Knowns) (vs : Values) → ArePatterns tb fs ps → AllAlive tb m fs ks → HaveTypes tb fs vs → compare_all ps ks ≡ Asks → are_last tb ps ks ≡ true → agree_all (side_all false ps ks) vs ≡ true → ⊥
  last_nones tb m fs NoPatterns ks vs q l h e d a = cc
  last_nones tb m fs (MorePatterns p ps) NoKnowns vs q l h e d a = cc
  last_nones tb m [] (MorePatterns p ps) (MoreKnowns k ks) vs q l h e d a = absurd q
  last_nones tb m (f ∷ fs) (MorePatterns p ps) (MoreKnowns k ks) End q l h e d a = absurd h
  last_nones tb m (f ∷ fs) (MorePatterns p ps) (MoreKnowns k ks) (More v vs) q l h e d a =
      last_step tb p ps k ks v vs (is_asks (compare p k)) (if_last (is_asks (compare p k)) (is_last tb p k) (are_last tb ps ks) d) a
      (λ c x y. last_none tb m f p k v q.0 l.0 h.0 (is_asking (compare p k) c) x y)
      (λ c x y. last_nones tb m fs ps ks vs q.1 l.1 h.1 (both_asks (compare p k) (compare_all ps ks) e c) x y)
