-- The root is a position; so is each field of a node at a position.
use Rattle.std.proofs.Common.{◌≡◌, inl, inr, ℕ, zero, suc, List, [], ◌∷◌, Some, Bool, true, false, refl, sym, ap, ap₂, ◌∙◌, subst, arith}
use Rattle.std.specs.Prelude.{if◌then◌else◌, slice_get}
use Rattle.std.proofs.lemmas.Bool.{eqb-true}
use Rattle.fip_language.specs.Values.{Value, Int, Node, Values, End, More}
use Rattle.fip_language.specs.Table.{Shape, Table, shapes, HasType, HaveTypes}
use Rattle.match_knowledge.specs.declared.heads.Head.{Head}
use Rattle.match_knowledge.specs.declared.heads.Head.TheVariants.{Number, Tag}
use Rattle.match_knowledge.specs.ValueHeads.{AllHaveValues, head, children, same_head, IsHead}
use Rattle.match_knowledge.specs.Patterns.{Pattern, Any, Test, Patterns, NoPatterns, MorePatterns, fits, fit_all, some_fits}
use Rattle.match_knowledge.specs.Known.{Known, Is, Knowns, MoreKnowns, agrees, agree_all, Alive, AllAlive}
use Rattle.match_knowledge.specs.Left.{Left}
use Rattle.match_knowledge.proofs.Facts.{same_int_is, same_is, same_refl, is_same, and_both, both_and, not_both, typed_head, one_head, build}
use Rattle.match_cover.specs.Missing.{keep_if, fields_at, heads, tails, open_fields}
use Rattle.match_cover.specs.MissingSearch.{full, full_all, Has, Weaker, WeakerAll, IsPosition, AreFields}

-- ---- values of which all is known

mutual
  pub full_self : (v : Value) → agrees (full v) v ≡ true
  full_self (Int i) = both_and (same_head (Number i) (Number i)) true (same_refl (Number i)) refl
  full_self (Node c vs) = both_and (same_head (Tag c) (Tag c)) (agree_all (full_all vs) vs) (same_refl (Tag c)) (full_all_self vs)

  pub full_all_self : (vs : Values) → agree_all (full_all vs) vs ≡ true
  full_all_self End = refl
  full_all_self (More v vs) = both_and (agrees (full v) v) (agree_all (full_all vs) vs) (full_self v) (full_all_self vs)

pub full_is : (v : Value) → full v ≡ Is (head v) (full_all (children v))
full_is (Int i) = refl
full_is (Node c vs) = refl

same_shape : (ss : List Shape) (c d : ℕ) (s r : Shape) → c ≡ d → slice_get ss c ≡ Some s → slice_get ss d ≡ Some r → s ≡ r
same_shape ss c d s r e a b = let z = sym a ∙ ap (slice_get ss) e ∙ b in cc

mutual
  pub one_full : (tb : Table) (t : ℕ) (w v : Value) → HasType tb t w → HasType tb t v → agrees (full w) v ≡ true → v ≡ w
  one_full tb zero (Int i) (Int j) a b e = let r = and_both (same_head (Number i) (Number j)) true e in ap Int (sym (same_int_is i j r.0))
  one_full tb zero (Int i) (Node c vs) a b e = absurd b
  one_full tb zero (Node c vs) v a b e = absurd a
  one_full tb (suc t) (Int i) v a b e = absurd a
  one_full tb (suc t) (Node c vs) (Int i) a b e = absurd b
  one_full tb (suc t) (Node c vs) (Node d us) a b e =
      let r = and_both (same_head (Tag c) (Tag d)) (agree_all (full_all vs) us) e in
      let cd : c ≡ d = eqb-true c d r.0 in
      let s = same_shape (shapes tb t) c d a.0 b.0 cd a.1 b.1 in
      ap₂ Node (sym cd) (all_full tb a.0.fields vs us a.2 (subst (λ (z : Shape). HaveTypes tb z.fields us) (sym s) b.2) r.1)

  pub all_full : (tb : Table) (fs : List ℕ) (ws vs : Values) → HaveTypes tb fs ws → HaveTypes tb fs vs → agree_all (full_all ws) vs ≡ true → vs ≡ ws
  all_full tb [] End End a b e = refl
  all_full tb [] End (More v vs) a b e = absurd b
  all_full tb [] (More w ws) vs a b e = absurd a
  all_full tb (f ∷ fs) End vs a b e = absurd a
  all_full tb (f ∷ fs) (More w ws) End a b e = absurd b
  all_full tb (f ∷ fs) (More w ws) (More v vs) a b e =
      let r = and_both (agrees (full w) v) (agree_all (full_all ws) vs) e in
      ap₂ More (one_full tb f w v a.0 b.0 r.0) (all_full tb fs ws vs a.1 b.1 r.1)

pub agree_open : (fs : List ℕ) (vs : Values) → agree_all (open_fields fs) vs ≡ true
agree_open [] vs = refl
agree_open (f ∷ fs) End = refl
agree_open (f ∷ fs) (More v vs) = agree_open fs vs

pub open_alive : (tb : Table) (fs : List ℕ) → AllHaveValues tb fs → AllAlive tb 0 fs (open_fields fs)
open_alive tb [] v = tt
open_alive tb (f ∷ fs) v = let x = v.0 in ((omega arith, x.0, x.1, refl), open_alive tb fs v.1)

-- ---- what matches less

pub root_weaker : (rows : List Pattern) (w w' : Value) → Weaker rows w w' → some_fits rows w ≡ false → some_fits rows w' ≡ false
root_weaker [] w w' h e = refl
root_weaker (p ∷ rows) w w' h e = step (root_weaker rows w w' (λ q m. h q (inr m))) (fits p w') refl (fits p w) refl e where
  step : (some_fits rows w ≡ false → some_fits rows w' ≡ false) → (b : Bool) → fits p w' ≡ b → (c : Bool) → fits p w ≡ c → (if c then true else some_fits rows w) ≡ false → (if b then true else some_fits rows w') ≡ false
  step rec b x true y e = cc
  step rec true x false y e = absurd (not_both (fits p w) (h p (inl refl) x) y)
  step rec false x false y e = rec e

has_field : (h : Head) (here : List Pattern) (u : ℕ) (g : Head) (ps : Patterns) → Has (Test u g ps) here → same_head g h ≡ true → Has ps (fields_at h here)
has_field h [] u g ps m e = m
has_field h (Any ∷ here) u g ps (inl x) e = cc
has_field h (Any ∷ here) u g ps (inr m) e = has_field h here u g ps m e
has_field h (Test v f qs ∷ here) u g ps (inl x) e = step (same_head f h) (let s : g ≡ f = cc in ap (λ z. same_head z h) (sym s) ∙ e) (let s : ps ≡ qs = cc in s) where
  step : (b : Bool) → b ≡ true → ps ≡ qs → Has ps (keep_if b qs (fields_at h here))
  step true y s = inl s
  step false y s = cc
has_field h (Test v f qs ∷ here) u g ps (inr m) e = step (same_head f h) (has_field h here u g ps m e) where
  step : (b : Bool) → Has ps (fields_at h here) → Has ps (keep_if b qs (fields_at h here))
  step true n = inr n
  step false n = n

-- the fields of a position at which h was chosen
pub fields_weaker : (here : List Pattern) (h : Head) (w w' : Value) → head w ≡ h → head w' ≡ h → WeakerAll (fields_at h here) (children w) (children w') → Weaker here w w'
fields_weaker here h w w' a b f Any m e = refl
fields_weaker here h w w' a b f (Test u g ps) m e =
    let r = and_both (same_head g (head w')) (fit_all ps (children w')) e in
    let s : same_head g h ≡ true = ap (same_head g) (sym b) ∙ r.0 in
    both_and (same_head g (head w)) (fit_all ps (children w)) (ap (same_head g) a ∙ s) (f ps (has_field h here u g ps m s) r.1)

has_head : (here : List Patterns) (p : Pattern) (ps : Patterns) → Has (MorePatterns p ps) here → Has p (heads here)
has_head [] p ps m = m
has_head (NoPatterns ∷ here) p ps (inl x) = cc
has_head (NoPatterns ∷ here) p ps (inr m) = has_head here p ps m
has_head (MorePatterns q qs ∷ here) p ps (inl x) = inl (let s : p ≡ q = cc in s)
has_head (MorePatterns q qs ∷ here) p ps (inr m) = inr (has_head here p ps m)

has_tail : (here : List Patterns) (p : Pattern) (ps : Patterns) → Has (MorePatterns p ps) here → Has ps (tails here)
has_tail [] p ps m = m
has_tail (NoPatterns ∷ here) p ps (inl x) = cc
has_tail (NoPatterns ∷ here) p ps (inr m) = has_tail here p ps m
has_tail (MorePatterns q qs ∷ here) p ps (inl x) = inl (let s : ps ≡ qs = cc in s)
has_tail (MorePatterns q qs ∷ here) p ps (inr m) = inr (has_tail here p ps m)

-- the first of some fields, and the fields after it
pub first_weaker : (here : List Patterns) (w w' : Value) (vs : Values) → Weaker (heads here) w w' → WeakerAll here (More w vs) (More w' vs)
first_weaker here w w' vs f NoPatterns m e = cc
first_weaker here w w' vs f (MorePatterns p ps) m e = let r = and_both (fits p w') (fit_all ps vs) e in both_and (fits p w) (fit_all ps vs) (f p (has_head here p ps m) r.0) r.1

pub others_weaker : (here : List Patterns) (w : Value) (vs vs' : Values) → WeakerAll (tails here) vs vs' → WeakerAll here (More w vs) (More w vs')
others_weaker here w vs vs' f NoPatterns m e = cc
others_weaker here w vs vs' f (MorePatterns p ps) m e = let r = and_both (fits p w) (fit_all ps vs') e in both_and (fits p w) (fit_all ps vs) r.0 (f ps (has_tail here p ps m) r.1)

-- whether a clause names the head here
abbrev pub is_named : Head → List Pattern → Bool
is_named h [] = false
is_named h (Any ∷ ps) = is_named h ps
is_named h (Test u g qs ∷ ps) = if same_head g h then true else is_named h ps

not_named : (here : List Pattern) (h : Head) (u : ℕ) (g : Head) (ps : Patterns) → is_named h here ≡ false → Has (Test u g ps) here → same_head g h ≡ true → ⊥
not_named [] h u g ps n m e = m
not_named (Any ∷ here) h u g ps n (inl x) e = cc
not_named (Any ∷ here) h u g ps n (inr m) e = not_named here h u g ps n m e
not_named (Test v f qs ∷ here) h u g ps n (inl x) e = step (same_head f h) (let s : g ≡ f = cc in ap (λ z. same_head z h) (sym s) ∙ e) n where
  step : (b : Bool) → b ≡ true → (if b then true else is_named h here) ≡ false → ⊥
  step true y z = cc
  step false y z = cc
not_named (Test v f qs ∷ here) h u g ps n (inr m) e = step (same_head f h) n (λ z. not_named here h u g ps z m e) where
  step : (b : Bool) → (if b then true else is_named h here) ≡ false → (is_named h here ≡ false → ⊥) → ⊥
  step true z k = cc
  step false z k = k z

-- a value with a head that isn't named is matched by variables alone
pub unnamed_weaker : (here : List Pattern) (w w' : Value) → is_named (head w') here ≡ false → Weaker here w w'
unnamed_weaker here w w' n Any m e = refl
unnamed_weaker here w w' n (Test u g ps) m e = absurd (let r = and_both (same_head g (head w')) (fit_all ps (children w')) e in not_named here (head w') u g ps n m r.0)

-- ---- positions

pub root_position : (tb : Table) (t : ℕ) (rows : List Pattern) → IsPosition tb t rows (λ k. k) t rows
root_position tb t rows = record {
  alive = λ k l. l;
  value = λ k u. (u.0, u.1, u.2, (u.0, u.1, full_self u.0, u.3));
  among = λ k w h a u. let e = one_full tb t w u.0 h u.1 u.2 in (w, h, a, subst (λ z. some_fits rows z ≡ false) e u.3);
  weaker = λ w w' h h' f u. let e = one_full tb t w u.0 h u.1 u.2 in (w', h', full_self w', root_weaker rows w w' f (subst (λ z. some_fits rows z ≡ false) e u.3));
}

-- what is known of a node is known by its head and its fields
full_node : (w : Value) (h : Head) (vs : Values) → head w ≡ h → children w ≡ vs → full w ≡ Is h (full_all vs)
full_node w h vs a b = full_is w ∙ ap₂ (λ x y. Is x (full_all y)) a b

pub node_fields : (tb : Table) (root : ℕ) (rows : List Pattern) (at : Known → Known) (t : ℕ) (here : List Pattern) (h : Head) (fs : List ℕ) → IsHead tb t h fs → IsPosition tb root rows at t here → AreFields tb root rows (λ ks. at (Is h ks)) fs (fields_at h here)
node_fields tb root rows at t here h fs i p = record {
  alive = λ ks l. p.alive (Is h ks) (fs, i, l);
  values = λ ks u. let x = p.value (Is h ks) u in cut ks x.0 x.1 x.2 x.3;
  among = λ ks vs q a u. let b = build tb t h fs vs i q in
      p.among (Is h ks) b.0 b.1 (both_and (same_head h (head b.0)) (agree_all ks (children b.0)) (is_same h (head b.0) (sym b.2)) (subst (λ z. agree_all ks z ≡ true) (sym b.3) a))
      (subst (λ z. Left tb root rows (at z)) (sym (full_node b.0 h vs b.2 b.3)) u);
  weaker = λ vs vs' q q' f u. let b = build tb t h fs vs i q in let d = build tb t h fs vs' i q' in
      subst (λ z. Left tb root rows (at z)) (full_node d.0 h vs' d.2 d.3)
      (p.weaker b.0 d.0 b.1 d.1 (fields_weaker here h b.0 d.0 b.2 d.2 (subst (λ z. WeakerAll (fields_at h here) z (children d.0)) (sym b.3) (subst (λ z. WeakerAll (fields_at h here) vs z) (sym d.3) f)))
      (subst (λ z. Left tb root rows (at z)) (sym (full_node b.0 h vs b.2 b.3)) u));
} where
  cut : (ks : Knowns) (w : Value) → HasType tb t w → agrees (Is h ks) w ≡ true → Left tb root rows (at (full w)) → (vs : Values) × HaveTypes tb fs vs × (agree_all ks vs ≡ true) × Left tb root rows (at (Is h (full_all vs)))
  cut ks w q a u =
      let r = and_both (same_head h (head w)) (agree_all ks (children w)) a in
      let e : head w ≡ h = sym (same_is h (head w) r.0) in
      let g = typed_head tb t w q in
      let s : g.0 ≡ fs = one_head tb t h g.0 fs (subst (λ z. IsHead tb t z g.0) e g.1) i in
      (children w, subst (λ z. HaveTypes tb z (children w)) s g.2, r.1, subst (λ z. Left tb root rows (at z)) (full_node w h (children w) e refl) u)

pub first_field : (tb : Table) (root : ℕ) (rows : List Pattern) (at : Knowns → Known) (f : ℕ) (fs : List ℕ) (here : List Patterns) → AllHaveValues tb fs → AreFields tb root rows at (f ∷ fs) here → IsPosition tb root rows (λ k. at (MoreKnowns k (open_fields fs))) f (heads here)
first_field tb root rows at f fs here v p = record {
  alive = λ k l. p.alive (MoreKnowns k (open_fields fs)) (l, open_alive tb fs v);
  value = λ k u. let x = p.values (MoreKnowns k (open_fields fs)) u in to k x.0 x.1 x.2 x.3;
  among = λ k w h a u. let x = p.values (MoreKnowns (full w) (open_fields fs)) u in from k w h a x.0 x.1 x.2 x.3;
  weaker = λ w w' h h' g u. let x = p.values (MoreKnowns (full w) (open_fields fs)) u in over w w' h h' g x.0 x.1 x.2 x.3;
} where
  known : (k : Known) (w : Value) (vs : Values) → agrees k w ≡ true → agree_all (MoreKnowns k (open_fields fs)) (More w vs) ≡ true
  known k w vs a = both_and (agrees k w) (agree_all (open_fields fs) vs) a (agree_open fs vs)

  to : (k : Known) (vs : Values) → HaveTypes tb (f ∷ fs) vs → agree_all (MoreKnowns k (open_fields fs)) vs ≡ true → Left tb root rows (at (full_all vs)) → (w : Value) × HasType tb f w × (agrees k w ≡ true) × Left tb root rows (at (MoreKnowns (full w) (open_fields fs)))
  to k End h a u = absurd h
  to k (More w vs) h a u = let r = and_both (agrees k w) (agree_all (open_fields fs) vs) a in (w, h.0, r.0, p.among (MoreKnowns (full w) (open_fields fs)) (More w vs) h (known (full w) w vs (full_self w)) u)

  from : (k : Known) (w : Value) → HasType tb f w → agrees k w ≡ true → (vs : Values) → HaveTypes tb (f ∷ fs) vs → agree_all (MoreKnowns (full w) (open_fields fs)) vs ≡ true → Left tb root rows (at (full_all vs)) → Left tb root rows (at (MoreKnowns k (open_fields fs)))
  from k w h a End q b u = absurd q
  from k w h a (More x vs) q b u =
      let r = and_both (agrees (full w) x) (agree_all (open_fields fs) vs) b in
      let e = one_full tb f w x h q.0 r.0 in
      p.among (MoreKnowns k (open_fields fs)) (More x vs) q (known k x vs (subst (λ z. agrees k z ≡ true) (sym e) a)) u

  over : (w w' : Value) → HasType tb f w → HasType tb f w' → Weaker (heads here) w w' → (vs : Values) → HaveTypes tb (f ∷ fs) vs → agree_all (MoreKnowns (full w) (open_fields fs)) vs ≡ true → Left tb root rows (at (full_all vs)) → Left tb root rows (at (MoreKnowns (full w') (open_fields fs)))
  over w w' h h' g End q b u = absurd q
  over w w' h h' g (More x vs) q b u =
      let r = and_both (agrees (full w) x) (agree_all (open_fields fs) vs) b in
      let e = one_full tb f w x h q.0 r.0 in
      p.among (MoreKnowns (full w') (open_fields fs)) (More w' vs) (h', q.1) (known (full w') w' vs (full_self w'))
      (p.weaker (More x vs) (More w' vs) q (h', q.1) (subst (λ z. WeakerAll here (More z vs) (More w' vs)) (sym e) (first_weaker here w w' vs g)) u)

pub other_fields : (tb : Table) (root : ℕ) (rows : List Pattern) (at : Knowns → Known) (f : ℕ) (fs : List ℕ) (here : List Patterns) (k : Known) → Alive tb 0 f k → AreFields tb root rows at (f ∷ fs) here → AreFields tb root rows (λ ks. at (MoreKnowns k ks)) fs (tails here)
other_fields tb root rows at f fs here k l p = record {
  alive = λ ks m. p.alive (MoreKnowns k ks) (l, m);
  values = λ ks u. let x = p.values (MoreKnowns k ks) u in to ks x.0 x.1 x.2 x.3;
  among = λ ks vs h a u. let x = p.values (MoreKnowns k (full_all vs)) u in from ks vs h a x.0 x.1 x.2 x.3;
  weaker = λ vs vs' h h' g u. let x = p.values (MoreKnowns k (full_all vs)) u in over vs vs' h h' g x.0 x.1 x.2 x.3;
} where
  to : (ks : Knowns) (vs : Values) → HaveTypes tb (f ∷ fs) vs → agree_all (MoreKnowns k ks) vs ≡ true → Left tb root rows (at (full_all vs)) → (vs : Values) × HaveTypes tb fs vs × (agree_all ks vs ≡ true) × Left tb root rows (at (MoreKnowns k (full_all vs)))
  to ks End h a u = absurd h
  to ks (More w vs) h a u = let r = and_both (agrees k w) (agree_all ks vs) a in (vs, h.1, r.1, p.among (MoreKnowns k (full_all vs)) (More w vs) h (both_and (agrees k w) (agree_all (full_all vs) vs) r.0 (full_all_self vs)) u)

  from : (ks : Knowns) (vs : Values) → HaveTypes tb fs vs → agree_all ks vs ≡ true → (us : Values) → HaveTypes tb (f ∷ fs) us → agree_all (MoreKnowns k (full_all vs)) us ≡ true → Left tb root rows (at (full_all us)) → Left tb root rows (at (MoreKnowns k ks))
  from ks vs h a End q b u = absurd q
  from ks vs h a (More w us) q b u =
      let r = and_both (agrees k w) (agree_all (full_all vs) us) b in
      let e = all_full tb fs vs us h q.1 r.1 in
      p.among (MoreKnowns k ks) (More w us) q (both_and (agrees k w) (agree_all ks us) r.0 (subst (λ z. agree_all ks z ≡ true) (sym e) a)) u

  over : (vs vs' : Values) → HaveTypes tb fs vs → HaveTypes tb fs vs' → WeakerAll (tails here) vs vs' → (us : Values) → HaveTypes tb (f ∷ fs) us → agree_all (MoreKnowns k (full_all vs)) us ≡ true → Left tb root rows (at (full_all us)) → Left tb root rows (at (MoreKnowns k (full_all vs')))
  over vs vs' h h' g End q b u = absurd q
  over vs vs' h h' g (More w us) q b u =
      let r = and_both (agrees k w) (agree_all (full_all vs) us) b in
      let e = all_full tb fs vs us h q.1 r.1 in
      p.among (MoreKnowns k (full_all vs')) (More w vs') (q.0, h') (both_and (agrees k w) (agree_all (full_all vs') vs') r.0 (full_all_self vs'))
      (p.weaker (More w us) (More w vs') q (q.0, h') (subst (λ z. WeakerAll here (More w z) (More w vs')) (sym e) (others_weaker here w vs vs' g)) u)
