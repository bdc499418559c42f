-- A word stands for one tree, and what registers stand for where kinds are weakened or a register is written.
use Rattle.std.proofs.Common.{◌≡◌, ℕ, zero, suc, ◌<◌, Bool, true, List, [], ◌∷◌, length, map, Option, Some, None, slice_get, refl, sym, ap, ap₂, ◌∙◌, subst, arith, ◌==◌, if◌then◌else◌}
use Rattle.std.proofs.lemmas.Option.{none-some, same_Some, option_and_then_some}
use Rattle.tree_semantics.specs.fip_language.Values.{Value, Values, End, More}
use Rattle.tree_semantics.specs.fip_language.Table.{Table, Shape, shapes, HasType, HaveTypes}
use Rattle.tree_semantics.specs.fip_language.Store.{Cell, Placed, PlacedInt, Bare, At, Parts, NoParts, MoreParts, word_of, words_of, value_of, values_of}
use Rattle.separation_bounds.specs.cell_code.declared.kind.Kind.{Kind}
use Rattle.separation_bounds.specs.cell_code.declared.kind.Kind.TheVariants.{Gone, Scalar, Owned, Lent, Credit}
use Rattle.tree_semantics.specs.machine_semantics.Words.{int_of}
use Rattle.tree_semantics.specs.machine_semantics.Cells.{Store, cell_at}
use Rattle.tree_semantics.specs.machine_semantics.Trees.{Stands, StandAll, IsTree}
use Rattle.tree_semantics.specs.machine_semantics.Apart.{Holding, Tree}
use Rattle.tree_semantics.specs.Contents.{Contents}
use Rattle.tree_semantics.specs.Contents as T
use Rattle.tree_semantics.proofs.Puts.{put_elim}
use Rattle.separation_bounds.specs.code_rules.Kinds.{at, is_scalar_of, is_owned_of}
use Rattle.separation_bounds.specs.code_rules.Handing.{give, give_all}
use Rattle.separation_bounds.specs.code_rules.Changes.{forget, narrow, written, used_up, goes, tested}
use Rattle.separation_bounds.specs.code_rules.Fitting.{fits, fit_all}
use Rattle.separation_bounds.specs.separation_kinds.Meanings.{Means, AreMeant}
use Rattle.separation_bounds.proofs.separation_kinds.Basics.{pick, both, equal, equal_is, unequal_is, chosen, refused}
use Rattle.separation_bounds.proofs.separation_kinds.KindLemmas.{put, dropped, is_one, at_used_up, at_written}
use Rattle.separation_bounds.proofs.separation_kinds.Fits.{at_tested, fit_at}
use Rattle.separation_bounds.proofs.separation_kinds.Giving.{scalar_of, owned_of}
use Rattle.separation_bounds.proofs.separation_kinds.Agree.{tree_agree}
use Rattle.separation_bounds.proofs.separation_kinds.Reaching.{same_tree}
use Rattle.separation_bounds.proofs.separation.Reading.{int_is}
use Rattle.tree_refinement.specs.Agreement.{IsWordOf, AreWordsOf, type_in, Shows, AreShown}

-- ---- one tree for a word

same_at : (p q c d : ℕ) (xs ys : Parts) → p ≡ q → c ≡ d → xs ≡ ys → At p c xs ≡ At q d ys
same_at p q c d xs ys e f g = ap (λ p. At p c xs) e ∙ ap (λ c. At q c xs) f ∙ ap (λ xs. At q d xs) g

mutual
  pub same_placed : (tb : Table) (s : Store) (t : ℕ) (x y : Placed) → Stands tb s t x → Stands tb s t y → word_of x ≡ word_of y → x ≡ y
  same_placed tb s zero (PlacedInt i) (PlacedInt j) g h e = ap PlacedInt (sym (int_is i g) ∙ ap int_of e ∙ int_is j h)
  same_placed tb s zero (PlacedInt i) (Bare d) g h e = absurd h
  same_placed tb s zero (PlacedInt i) (At q d ys) g h e = absurd h
  same_placed tb s zero (Bare c) y g h e = absurd g
  same_placed tb s zero (At p c xs) y g h e = absurd g
  same_placed tb s (suc t) (PlacedInt i) y g h e = absurd g
  same_placed tb s (suc t) (Bare c) (PlacedInt j) g h e = absurd h
  same_placed tb s (suc t) (Bare c) (Bare d) g h e = let z : c ≡ d = omega arith in ap Bare z
  same_placed tb s (suc t) (Bare c) (At q d ys) g h e = absurd (let z : ⊥ = omega arith in z)
  same_placed tb s (suc t) (At p c xs) (PlacedInt j) g h e = absurd h
  same_placed tb s (suc t) (At p c xs) (Bare d) g h e = absurd (let z : ⊥ = omega arith in z)
  same_placed tb s (suc t) (At p c xs) (At q d ys) g h e =
      let place : p ≡ q = omega arith in
      let cell = same_Some (record { tag = c; fields = words_of xs }) (record { tag = d; fields = words_of ys }) (sym g.0 ∙ ap (cell_at s) place ∙ h.0) in
      let tag : c ≡ d = ap (λ (c : Cell). c.tag) cell in
      let words : words_of xs ≡ words_of ys = ap (λ (c : Cell). c.fields) cell in
      let shape : g.2 ≡ h.2 = same_Some g.2 h.2 (sym g.3 ∙ ap (slice_get (shapes tb t)) tag ∙ h.3) in
      same_at p q c d xs ys place tag (same_parts tb s g.2.fields xs ys g.4 (subst (λ (k : Shape). StandAll tb s k.fields ys) (sym shape) h.4) words)

  pub same_parts : (tb : Table) (s : Store) (ts : List ℕ) (xs ys : Parts) → StandAll tb s ts xs → StandAll tb s ts ys → words_of xs ≡ words_of ys → xs ≡ ys
  same_parts tb s [] NoParts NoParts g h e = refl
  same_parts tb s [] NoParts (MoreParts y ys) g h e = absurd h
  same_parts tb s [] (MoreParts x xs) ys g h e = absurd g
  same_parts tb s (t ∷ ts) NoParts ys g h e = absurd g
  same_parts tb s (t ∷ ts) (MoreParts x xs) NoParts g h e = absurd h
  same_parts tb s (t ∷ ts) (MoreParts x xs) (MoreParts y ys) g h e =
      let first : word_of x ≡ word_of y = cc in
      let rest : words_of xs ≡ words_of ys = cc in
      ap₂ MoreParts (same_placed tb s t x y g.0 h.0 first) (same_parts tb s ts xs ys g.1 h.1 rest)

-- the value of a tree is the one that its word stands for
pub value_is : (tb : Table) (s : Store) (t w : ℕ) (x : Placed) (v : Value) → IsTree tb s t w x → IsWordOf tb s t w v → value_of x ≡ v
value_is tb s t w x v g i = ap value_of (same_placed tb s t x i.0 g.stands i.1.stands (g.word ∙ sym i.1.word)) ∙ i.2

pub word_is : (tb : Table) (s : Store) (t w : ℕ) (x : Placed) → IsTree tb s t w x → IsWordOf tb s t w (value_of x)
word_is tb s t w x g = (x, g, refl)

-- the tree that a register holds has the value
pub held_value : (tb : Table) (s : Store) (b : List Placed) (ks : ℕ → Kind) (hs : ℕ → Holding) (k : Kind) (t w : ℕ) (h : Holding) (v : Value) (y : Placed) → type_in k ≡ Some t → Means tb s b ks hs k w h → Shows tb s (type_in k) w v → h ≡ Tree y → IsTree tb s t w y × (value_of y ≡ v)
held_value tb s b ks hs Gone t w h v y e m i held = absurd (none-some t e)
held_value tb s b ks hs (Credit n) t w h v y e m i held = absurd (none-some t e)
held_value tb s b ks hs (Scalar u) t w h v y e m i held =
    let g : IsTree tb s u w y = subst (IsTree tb s u w) (same_tree m.tree y (sym m.holds ∙ held)) m.is in
    (subst (λ t. IsTree tb s t w y) (same_Some u t e) g, value_is tb s u w y v g i)
held_value tb s b ks hs (Owned u cs) t w h v y e m i held =
    let g : IsTree tb s u w y = subst (IsTree tb s u w) (same_tree m.tree y (sym m.holds ∙ held)) m.is in
    (subst (λ t. IsTree tb s t w y) (same_Some u t e) g, value_is tb s u w y v g i)
held_value tb s b ks hs (Lent u cs root from) t w h v y e m i held =
    let g : IsTree tb s u w y = subst (IsTree tb s u w) (same_tree m.tree y (sym m.holds ∙ held)) m.is in
    (subst (λ t. IsTree tb s t w y) (same_Some u t e) g, value_is tb s u w y v g i)

-- the same register in another store, where it holds the same
pub moved_shows : (tb : Table) (s u : Store) (b d : List Placed) (ks ls : ℕ → Kind) (hs gs : ℕ → Holding) (k : Kind) (w : ℕ) (h : Holding) (v : Value) → Means tb s b ks hs k w h → Means tb u d ls gs k w h → Shows tb s (type_in k) w v → Shows tb u (type_in k) w v
moved_shows tb s u b d ks ls hs gs Gone w h v m n i = tt
moved_shows tb s u b d ks ls hs gs (Credit z) w h v m n i = tt
moved_shows tb s u b d ks ls hs gs (Scalar t) w h v m n i = (n.tree, n.is, ap value_of (same_tree n.tree m.tree (sym n.holds ∙ m.holds)) ∙ value_is tb s t w m.tree v m.is i)
moved_shows tb s u b d ks ls hs gs (Owned t cs) w h v m n i = (n.tree, n.is, ap value_of (same_tree n.tree m.tree (sym n.holds ∙ m.holds)) ∙ value_is tb s t w m.tree v m.is i)
moved_shows tb s u b d ks ls hs gs (Lent t cs root from) w h v m n i = (n.tree, n.is, ap value_of (same_tree n.tree m.tree (sym n.holds ∙ m.holds)) ∙ value_is tb s t w m.tree v m.is i)

-- ---- kinds that say less

pub type_forget : (p : ℕ → Bool) (k : Kind) → type_in (forget p k) ≡ type_in k
type_forget p Gone = refl
type_forget p (Scalar t) = refl
type_forget p (Owned t cs) = refl
type_forget p (Lent t cs root from) = refl
type_forget p (Credit n) = refl

pub type_narrow : (cs : List ℕ) (k : Kind) → type_in (narrow cs k) ≡ type_in k
type_narrow cs Gone = refl
type_narrow cs (Scalar t) = refl
type_narrow cs (Owned t ds) = refl
type_narrow cs (Lent t ds root from) = refl
type_narrow cs (Credit n) = refl

pub shows_forget : (tb : Table) (s : Store) (p : ℕ → Bool) (k : Kind) (w : ℕ) (v : Value) → Shows tb s (type_in k) w v → Shows tb s (type_in (forget p k)) w v
shows_forget tb s p k w v i = subst (λ o. Shows tb s o w v) (sym (type_forget p k)) i

shows_dropped : (tb : Table) (s : Store) (p : ℕ → Bool) (ks : ℕ → Kind) (r w : ℕ) (v : Value) → Shows tb s (type_in (ks r)) w v → Shows tb s (type_in (dropped p ks r)) w v
shows_dropped tb s p ks r w v i = pick (λ k. Shows tb s (type_in k) w v) (p r) Gone (forget p (ks r)) (λ e. tt) (λ e. shows_forget tb s p (ks r) w v i)

pub dropped_shown : (tb : Table) (s : Store) (p : ℕ → Bool) (ks : ℕ → Kind) (ws : ℕ → ℕ) (cs : Contents) → AreShown tb s ks ws cs → AreShown tb s (dropped p ks) ws cs
dropped_shown tb s p ks ws cs a = record { each = λ r. shows_dropped tb s p ks r (ws r) (cs r) (a.each r) }

pub used_up_shown : (tb : Table) (s : Store) (ks : List Kind) (u : ℕ) (ws : ℕ → ℕ) (cs : Contents) → AreShown tb s (at ks) ws cs → AreShown tb s (at (used_up ks u)) ws cs
used_up_shown tb s ks u ws cs a = record {
  each = λ r. subst (λ k. Shows tb s (type_in k) (ws r) (cs r)) (sym (at_used_up ks u r)) (shows_dropped tb s (goes ks u) (at ks) r (ws r) (cs r) (a.each r));
}

-- register d gets this kind, word and value, where the others that name it have forgotten it
pub filled_shown : (tb : Table) (s : Store) (ks : List Kind) (ws : ℕ → ℕ) (cs : Contents) (d : ℕ) (k : Kind) (w : ℕ) (v : Value) → d < length ks → AreShown tb s (dropped (is_one d) (at ks)) ws cs → Shows tb s (type_in k) w v → AreShown tb s (at (written ks d k)) (put d w ws) (T.put cs d v)
filled_shown tb s ks ws cs d k w v there a i = record {
  each = λ r. subst (λ k. Shows tb s (type_in k) (put d w ws r) (T.put cs d v r)) (sym (at_written ks d k there r))
      (put_elim (λ v. Shows tb s (type_in (put d (forget (is_one d) k) (dropped (is_one d) (at ks)) r)) (put d w ws r) v) cs d v r
      (λ e. let t = equal_is r d e in
      subst (λ k. Shows tb s (type_in k) (put d w ws r) v) (sym (chosen (r == d) (forget (is_one d) k) (dropped (is_one d) (at ks) r) t))
      (subst (λ w. Shows tb s (type_in (forget (is_one d) k)) w v) (sym (chosen (r == d) w (ws r) t)) (shows_forget tb s (is_one d) k w v i)))
      (λ n. let t = unequal_is r d n in
      subst (λ k. Shows tb s (type_in k) (put d w ws r) (cs r)) (sym (refused (r == d) (forget (is_one d) k) (dropped (is_one d) (at ks) r) t))
      (subst (λ w. Shows tb s (type_in (dropped (is_one d) (at ks) r)) w (cs r)) (sym (refused (r == d) w (ws r) t)) (a.each r))));
}

-- register d gets this kind, word and value
pub written_shown : (tb : Table) (s : Store) (ks : List Kind) (ws : ℕ → ℕ) (cs : Contents) (d : ℕ) (k : Kind) (w : ℕ) (v : Value) → d < length ks → AreShown tb s (at ks) ws cs → Shows tb s (type_in k) w v → AreShown tb s (at (written ks d k)) (put d w ws) (T.put cs d v)
written_shown tb s ks ws cs d k w v there a i = filled_shown tb s ks ws cs d k w v there (dropped_shown tb s (is_one d) (at ks) ws cs a) i

-- register d is Gone
pub gone_shown : (tb : Table) (s : Store) (ks : List Kind) (ws : ℕ → ℕ) (cs : Contents) (d : ℕ) → d < length ks → AreShown tb s (at ks) ws cs → AreShown tb s (at (written ks d Gone)) ws cs
gone_shown tb s ks ws cs d there a = record {
  each = λ r. subst (λ k. Shows tb s (type_in k) (ws r) (cs r)) (sym (at_written ks d Gone there r)) (pick (λ k. Shows tb s (type_in k) (ws r) (cs r)) (r == d) (forget (is_one d) Gone) (dropped (is_one d) (at ks) r) (λ e. tt) (λ e. shows_dropped tb s (is_one d) (at ks) r (ws r) (cs r) (a.each r)));
}

pub tested_shown : (tb : Table) (s : Store) (ks : List Kind) (r : ℕ) (ds : List ℕ) (ws : ℕ → ℕ) (cs : Contents) → AreShown tb s (at ks) ws cs → AreShown tb s (at (tested ks r ds)) ws cs
tested_shown tb s ks r ds ws cs a = record {
  each = λ q. subst (λ k. Shows tb s (type_in k) (ws q) (cs q)) (sym (at_tested ks r ds q)) (pick (λ k. Shows tb s (type_in k) (ws q) (cs q)) (q == r) (narrow ds (at ks q)) (at ks q)
      (λ e. subst (λ o. Shows tb s o (ws q) (cs q)) (sym (type_narrow ds (at ks q))) (a.each q)) (λ e. a.each q));
}

pub reworded_shown : (tb : Table) (s : Store) (ks : ℕ → Kind) (ws vs : ℕ → ℕ) (cs : Contents) → ((r : ℕ) → vs r ≡ ws r) → AreShown tb s ks ws cs → AreShown tb s ks vs cs
reworded_shown tb s ks ws vs cs e a = record { each = λ r. subst (λ w. Shows tb s (type_in (ks r)) w (cs r)) (sym (e r)) (a.each r) }

-- ---- a label

scalar_type_in : (t : ℕ) (k : Kind) → fits (Scalar t) k ≡ true → type_in k ≡ Some t
scalar_type_in t k e = ap type_in (scalar_of t k e)

-- what the kind of a map says holds of what it takes
pub fits_shows : (tb : Table) (s : Store) (m k : Kind) (w : ℕ) (v : Value) → fits m k ≡ true → Shows tb s (type_in k) w v → Shows tb s (type_in m) w v
fits_shows tb s Gone k w v e i = tt
fits_shows tb s (Credit n) k w v e i = tt
fits_shows tb s (Scalar t) k w v e i = subst (λ o. Shows tb s o w v) (scalar_type_in t k e) i
fits_shows tb s (Owned t cs) Gone w v e i = absurd (cc)
fits_shows tb s (Owned t cs) (Scalar u) w v e i = absurd (cc)
fits_shows tb s (Owned t cs) (Owned u ds) w v e i = subst (λ t. IsWordOf tb s t w v) (equal u t (both (u == t) _ e).0) i
fits_shows tb s (Owned t cs) (Lent u ds root from) w v e i = absurd (cc)
fits_shows tb s (Owned t cs) (Credit n) w v e i = absurd (cc)
fits_shows tb s (Lent t cs root from) Gone w v e i = absurd (cc)
fits_shows tb s (Lent t cs root from) (Scalar u) w v e i = absurd (cc)
fits_shows tb s (Lent t cs root from) (Owned u ds) w v e i = absurd (cc)
fits_shows tb s (Lent t cs root from) (Lent u ds o f) w v e i = subst (λ t. IsWordOf tb s t w v) (equal u t (both (u == t) _ e).0) i
fits_shows tb s (Lent t cs root from) (Credit n) w v e i = absurd (cc)

pub fitted_shown : (tb : Table) (s : Store) (ms ks : List Kind) (ws : ℕ → ℕ) (cs : Contents) → fit_all ms ks ≡ true → AreShown tb s (at ks) ws cs → AreShown tb s (at ms) ws cs
fitted_shown tb s ms ks ws cs e a = record { each = λ r. fits_shows tb s (at ms r) (at ks r) (ws r) (cs r) (fit_at ms ks e r) (a.each r) }

-- ---- stores

-- no cell changes
pub stored_shown : (tb : Table) (s u : Store) (ks : ℕ → Kind) (ws : ℕ → ℕ) (cs : Contents) → ((q : ℕ) → cell_at u q ≡ cell_at s q) → AreShown tb s ks ws cs → AreShown tb u ks ws cs
stored_shown tb s u ks ws cs e a = record { each = λ r. by (type_in (ks r)) (ws r) (cs r) (a.each r) }
  where
    by : (o : Option ℕ) (w : ℕ) (v : Value) → Shows tb s o w v → Shows tb u o w v
    by None w v i = tt
    by (Some t) w v (x, g, i) = (x, tree_agree tb s u t w x (λ q some. e q) g, i)

-- other cells change
pub agreed_shown : (tb : Table) (s u : Store) (b d : List Placed) (ks ls : ℕ → Kind) (ws : ℕ → ℕ) (hs : ℕ → Holding) (cs : Contents) → AreMeant tb s b ks ws hs → AreMeant tb u d ks ws hs → AreShown tb s ks ws cs → AreShown tb u ks ws cs
agreed_shown tb s u b d ks ls ws hs cs m n a = record { each = λ r. moved_shows tb s u b d ks ks hs hs (ks r) (ws r) (hs r) (cs r) (m.each r) (n.each r) (a.each r) }

-- a register that holds a tree shows its value
pub means_shows : (tb : Table) (s : Store) (b : List Placed) (ks : ℕ → Kind) (hs : ℕ → Holding) (k : Kind) (w : ℕ) (x : Placed) → Means tb s b ks hs k w (Tree x) → Shows tb s (type_in k) w (value_of x)
means_shows tb s b ks hs Gone w x m = tt
means_shows tb s b ks hs (Credit n) w x m = tt
means_shows tb s b ks hs (Scalar t) w x m = (m.tree, m.is, ap value_of (same_tree m.tree x (sym m.holds)))
means_shows tb s b ks hs (Owned t cs) w x m = (m.tree, m.is, ap value_of (same_tree m.tree x (sym m.holds)))
means_shows tb s b ks hs (Lent t cs root from) w x m = (m.tree, m.is, ap value_of (same_tree m.tree x (sym m.holds)))

-- ---- registers that are given as values

record IsGivenShown (tb : Table) (s : Store) (ws : ℕ → ℕ) (cs : Contents) (t r : ℕ) (left : List Kind) : Type 0 where
  shown : AreShown tb s (at left) ws cs
  value : IsWordOf tb s t (ws r) (cs r)

given_one_shown : (tb : Table) (s : Store) (ks : List Kind) (ws : ℕ → ℕ) (cs : Contents) (t r : ℕ) (left : List Kind) → give ks r t ≡ Some left → AreShown tb s (at ks) ws cs → IsGivenShown tb s ws cs t r left
given_one_shown tb s ks ws cs t r left e a = pick (λ o. o ≡ Some left → IsGivenShown tb s ws cs t r left) (is_scalar_of t (at ks r)) (Some ks) (if is_owned_of t (at ks r) then Some (used_up ks r) else None)
    (λ b is. subst (IsGivenShown tb s ws cs t r) (same_Some ks left is) (record { shown = a; value = subst (λ k. Shows tb s (type_in k) (ws r) (cs r)) (scalar_of t (at ks r) b) (a.each r) }))
    (λ b. pick (λ o. o ≡ Some left → IsGivenShown tb s ws cs t r left) (is_owned_of t (at ks r)) (Some (used_up ks r)) None
    (λ c is. let o = owned_of t (at ks r) c in subst (IsGivenShown tb s ws cs t r) (same_Some (used_up ks r) left is) (record { shown = used_up_shown tb s ks r ws cs a; value = subst (λ k. Shows tb s (type_in k) (ws r) (cs r)) o.1 (a.each r) }))
    (λ c is. absurd (none-some left is)))
    e

pub record AreGivenShown (tb : Table) (s : Store) (ws : ℕ → ℕ) (cs : Contents) (ts rs : List ℕ) (left : List Kind) : Type 0 where
  pub shown : AreShown tb s (at left) ws cs
  pub values : (xs : Parts) → StandAll tb s ts xs → words_of xs ≡ map ws rs → values_of xs ≡ T.read_all cs rs

pub given_shown : (tb : Table) (s : Store) (ks : List Kind) (ws : ℕ → ℕ) (cs : Contents) (ts rs : List ℕ) (left : List Kind) → give_all ks rs ts ≡ Some left → AreShown tb s (at ks) ws cs → AreGivenShown tb s ws cs ts rs left
given_shown tb s ks ws cs [] [] left e a = subst (AreGivenShown tb s ws cs [] []) (same_Some ks left e) (record { shown = a; values = none })
  where
    none : (xs : Parts) → StandAll tb s [] xs → words_of xs ≡ [] → values_of xs ≡ End
    none NoParts g w = refl
    none (MoreParts x xs) g w = absurd g
given_shown tb s ks ws cs (t ∷ ts) [] left e a = absurd (none-some left e)
given_shown tb s ks ws cs [] (r ∷ rs) left e a = absurd (none-some left e)
given_shown tb s ks ws cs (t ∷ ts) (r ∷ rs) left e a = option_and_then_some (λ next. give_all next rs ts) (give ks r t) left e (λ next is rest.
    let one = given_one_shown tb s ks ws cs t r next is a in
    let more = given_shown tb s next ws cs ts rs left rest one.shown in
    record { shown = more.shown; values = both_values one.value more.values })
  where
    both_values : IsWordOf tb s t (ws r) (cs r) → ((xs : Parts) → StandAll tb s ts xs → words_of xs ≡ map ws rs → values_of xs ≡ T.read_all cs rs) → (xs : Parts) → StandAll tb s (t ∷ ts) xs → words_of xs ≡ ws r ∷ map ws rs → values_of xs ≡ More (cs r) (T.read_all cs rs)
    both_values v more NoParts g w = absurd g
    both_values v more (MoreParts x xs) g w =
        let first : word_of x ≡ ws r = cc in
        let rest : words_of xs ≡ map ws rs = cc in
        ap₂ More (value_is tb s t (ws r) x (cs r) (record { word = first; stands = g.0 }) v) (more xs g.1 rest)

-- a word stands for one value
pub one_value : (tb : Table) (s : Store) (t w : ℕ) (v u : Value) → IsWordOf tb s t w v → IsWordOf tb s t w u → v ≡ u
one_value tb s t w v u i j = sym i.2 ∙ value_is tb s t w i.0 u i.1 j

-- ---- values have the types of their words

mutual
  pub stands_type : (tb : Table) (s : Store) (t : ℕ) (x : Placed) → Stands tb s t x → HasType tb t (value_of x)
  stands_type tb s zero (PlacedInt i) g = g
  stands_type tb s zero (Bare c) g = absurd g
  stands_type tb s zero (At p c xs) g = absurd g
  stands_type tb s (suc t) (PlacedInt i) g = absurd g
  stands_type tb s (suc t) (Bare c) g = (g.0, g.1, subst (λ ts. HaveTypes tb ts End) (sym g.2) tt)
  stands_type tb s (suc t) (At p c xs) g = (g.2, g.3, stand_types tb s g.2.fields xs g.4)

  pub stand_types : (tb : Table) (s : Store) (ts : List ℕ) (xs : Parts) → StandAll tb s ts xs → HaveTypes tb ts (values_of xs)
  stand_types tb s [] NoParts g = tt
  stand_types tb s [] (MoreParts x xs) g = absurd g
  stand_types tb s (t ∷ ts) NoParts g = absurd g
  stand_types tb s (t ∷ ts) (MoreParts x xs) g = (stands_type tb s t x g.0, stand_types tb s ts xs g.1)

pub words_types : (tb : Table) (s : Store) (ts ws : List ℕ) (vs : Values) → AreWordsOf tb s ts ws vs → HaveTypes tb ts vs
words_types tb s ts ws vs a = subst (HaveTypes tb ts) a.3 (stand_types tb s ts a.0 a.2)
