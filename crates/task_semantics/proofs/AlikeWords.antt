-- The registers of a task alone and among others, by what their kinds say: what stays of it where kinds are weakened, a
-- register is written, or other cells change.
use Rattle.std.proofs.Common.{◌≡◌, ℕ, ◌+◌, ◌<◌, ◌≤◌, Bool, true, List, [], ◌∷◌, length, map, Some, None, inl, inr, refl, sym, ap, ap₂, ◌∙◌, subst, arith, ◌==◌, if◌then◌else◌}
use Rattle.std.proofs.lemmas.Option.{none-some, same_Some, option_and_then_some}
use Rattle.run_loading.specs.fip_language.Table.{Table, is_scalar}
use Rattle.run_loading.specs.fip_language.Store.{Placed, Parts, NoParts, MoreParts, words_of, uses}
use Rattle.run_loading.specs.cell_code.declared.kind.Kind.{Kind}
use Rattle.run_loading.specs.cell_code.declared.kind.Kind.TheVariants.{Gone, Scalar, Owned, Lent, Credit}
use Rattle.run_loading.specs.machine_semantics.Cells.{Store, cell_at}
use Rattle.run_loading.specs.machine_semantics.Trees.{StandAll, IsTree}
use Rattle.run_loading.specs.machine_semantics.Apart.{Holding, holding_uses, owned_uses, trees_uses}
use Rattle.run_loading.specs.code_rules.Types.{is_type, is_scalar_type, all, field_kind}
use Rattle.run_loading.specs.code_rules.Kinds.{at, is_scalar_of, is_owned_of}
use Rattle.run_loading.specs.code_rules.Handing.{give, give_all}
use Rattle.run_loading.specs.code_rules.Changes.{forget, narrow, written, used_up, goes, tested}
use Rattle.run_loading.specs.code_rules.Fitting.{fits, fit_all}
use Rattle.run_loading.specs.separation_kinds.Meanings.{Means, AreMeant, owned_by}
use Rattle.run_loading.proofs.separation_kinds.Basics.{pick, both, equal, chosen, refused, or_not}
use Rattle.run_loading.proofs.separation_kinds.KindLemmas.{put, dropped, is_one, at_used_up, at_written}
use Rattle.run_loading.proofs.separation_kinds.Shapes.{scalar_bare}
use Rattle.run_loading.proofs.separation_kinds.Fits.{at_tested, fit_at}
use Rattle.run_loading.proofs.separation_kinds.Giving.{scalar_of, owned_of, credit_of, given_one}
use Rattle.run_loading.proofs.separation_kinds.Agree.{Past, owned_part, rooted_uses}
use Rattle.run_loading.specs.tree_refinement.Agreement.{type_in}
use Rattle.run_loading.proofs.tree_refinement.Values.{same_placed}
use Rattle.task_semantics.specs.Projected.{Renaming, renamed_parts, IsLikeWord, IsRenamedTree, IsRenamedWord}
use Rattle.task_semantics.proofs.Renamings.{like_of_tree, bare_word, plain_renamed, tree_moves}

-- each register of these kinds has the words that it should, alone and among others
pub record AreAlike (tb : Table) (f : Renaming) (own shared : Store) (ks : ℕ → Kind) (ws vs : ℕ → ℕ) : Type 0 where
  pub each : (r : ℕ) → IsRenamedWord tb f own shared (ks r) (ws r) (vs r)

-- ---- one register

tree_like : (tb : Table) (f : Renaming) (own shared : Store) (t w v : ℕ) → IsRenamedTree tb f own shared t w v → IsLikeWord f w v
tree_like tb f own shared t w v i = like_of_tree f i.tree w v i.alone.word i.among.word

pub like_any : (tb : Table) (f : Renaming) (own shared : Store) (k : Kind) (w v : ℕ) → IsRenamedWord tb f own shared k w v → IsLikeWord f w v
like_any tb f own shared Gone w v i = i
like_any tb f own shared (Scalar t) w v i = inl i
like_any tb f own shared (Owned t cs) w v i = tree_like tb f own shared t w v i
like_any tb f own shared (Lent t cs root from) w v i = tree_like tb f own shared t w v i
like_any tb f own shared (Credit n) w v i = inr i

pub forget_alike : (tb : Table) (f : Renaming) (own shared : Store) (p : ℕ → Bool) (k : Kind) (w v : ℕ) → IsRenamedWord tb f own shared k w v → IsRenamedWord tb f own shared (forget p k) w v
forget_alike tb f own shared p Gone w v i = i
forget_alike tb f own shared p (Scalar t) w v i = i
forget_alike tb f own shared p (Owned t cs) w v i = i
forget_alike tb f own shared p (Lent t cs root from) w v i = i
forget_alike tb f own shared p (Credit n) w v i = i

narrow_alike : (tb : Table) (f : Renaming) (own shared : Store) (ds : List ℕ) (k : Kind) (w v : ℕ) → IsRenamedWord tb f own shared k w v → IsRenamedWord tb f own shared (narrow ds k) w v
narrow_alike tb f own shared ds Gone w v i = i
narrow_alike tb f own shared ds (Scalar t) w v i = i
narrow_alike tb f own shared ds (Owned t cs) w v i = i
narrow_alike tb f own shared ds (Lent t cs root from) w v i = i
narrow_alike tb f own shared ds (Credit n) w v i = i

dropped_one : (tb : Table) (f : Renaming) (own shared : Store) (p : ℕ → Bool) (ks : ℕ → Kind) (r w v : ℕ) → IsRenamedWord tb f own shared (ks r) w v → IsRenamedWord tb f own shared (dropped p ks r) w v
dropped_one tb f own shared p ks r w v i = pick (λ k. IsRenamedWord tb f own shared k w v) (p r) Gone (forget p (ks r)) (λ e. like_any tb f own shared (ks r) w v i) (λ e. forget_alike tb f own shared p (ks r) w v i)

-- a value of a type, as it comes as a field or as a result
pub field_alike : (tb : Table) (f : Renaming) (own shared : Store) (t w v : ℕ) → IsRenamedTree tb f own shared t w v → IsRenamedWord tb f own shared (field_kind tb t) w v
field_alike tb f own shared t w v i = pick (λ k. IsRenamedWord tb f own shared k w v) (is_scalar_type tb t) (Scalar t) (Owned t (all tb t)) (λ e. scalar_same tb f own shared t w v e i) (λ e. i)
  where
    scalar_same : (tb : Table) (f : Renaming) (own shared : Store) (t w v : ℕ) → is_scalar_type tb t ≡ true → IsRenamedTree tb f own shared t w v → v ≡ w
    scalar_same tb f own shared t w v e i = sym i.among.word ∙ bare_word f i.tree (scalar_bare tb own t i.tree (both (is_type tb t) (is_scalar tb t) e).1 i.alone.stands) ∙ i.alone.word

-- what a register with a type stands for
pub typed_renamed : (tb : Table) (f : Renaming) (own shared : Store) (below : List Placed) (ks : ℕ → Kind) (hs : ℕ → Holding) (k : Kind) (t w v : ℕ) (h : Holding) → type_in k ≡ Some t → Means tb own below ks hs k w h → IsRenamedWord tb f own shared k w v → IsRenamedTree tb f own shared t w v
typed_renamed tb f own shared below ks hs Gone t w v h e m i = absurd (none-some t e)
typed_renamed tb f own shared below ks hs (Scalar u) t w v h e m i = subst (λ t. IsRenamedTree tb f own shared t w v) (same_Some u t e) (plain_renamed tb f own shared u w v h m i)
typed_renamed tb f own shared below ks hs (Owned u cs) t w v h e m i = subst (λ t. IsRenamedTree tb f own shared t w v) (same_Some u t e) i
typed_renamed tb f own shared below ks hs (Lent u cs root from) t w v h e m i = subst (λ t. IsRenamedTree tb f own shared t w v) (same_Some u t e) i
typed_renamed tb f own shared below ks hs (Credit n) t w v h e m i = absurd (none-some t e)

-- ---- all registers

pub dropped_alike : (tb : Table) (f : Renaming) (own shared : Store) (p : ℕ → Bool) (ks : ℕ → Kind) (ws vs : ℕ → ℕ) → AreAlike tb f own shared ks ws vs → AreAlike tb f own shared (dropped p ks) ws vs
dropped_alike tb f own shared p ks ws vs a = record { each = λ r. dropped_one tb f own shared p ks r (ws r) (vs r) (a.each r) }

pub used_up_alike : (tb : Table) (f : Renaming) (own shared : Store) (ks : List Kind) (u : ℕ) (ws vs : ℕ → ℕ) → AreAlike tb f own shared (at ks) ws vs → AreAlike tb f own shared (at (used_up ks u)) ws vs
used_up_alike tb f own shared ks u ws vs a = record {
  each = λ r. subst (λ k. IsRenamedWord tb f own shared k (ws r) (vs r)) (sym (at_used_up ks u r)) (dropped_one tb f own shared (goes ks u) (at ks) r (ws r) (vs r) (a.each r));
}

-- register d gets this kind and these words, where the others that name it have forgotten it
pub filled_alike : (tb : Table) (f : Renaming) (own shared : Store) (ks : List Kind) (ws vs : ℕ → ℕ) (d : ℕ) (k : Kind) (w v : ℕ) → d < length ks → AreAlike tb f own shared (dropped (is_one d) (at ks)) ws vs → IsRenamedWord tb f own shared k w v → AreAlike tb f own shared (at (written ks d k)) (put d w ws) (put d v vs)
filled_alike tb f own shared ks ws vs d k w v there a i = record {
  each = λ r. subst (λ k. IsRenamedWord tb f own shared k (put d w ws r) (put d v vs r)) (sym (at_written ks d k there r)) (elim (or_not (r == d)) as (λ b. IsRenamedWord tb f own shared (put d (forget (is_one d) k) (dropped (is_one d) (at ks)) r) (put d w ws r) (put d v vs r)) [
    | inl y ↦
        subst (λ j. IsRenamedWord tb f own shared j (put d w ws r) (put d v vs r)) (sym (chosen (r == d) (forget (is_one d) k) (dropped (is_one d) (at ks) r) y))
        (subst (λ w. IsRenamedWord tb f own shared (forget (is_one d) k) w (put d v vs r)) (sym (chosen (r == d) w (ws r) y))
        (subst (λ v. IsRenamedWord tb f own shared (forget (is_one d) k) w v) (sym (chosen (r == d) v (vs r) y)) (forget_alike tb f own shared (is_one d) k w v i)))
    | inr n ↦
        subst (λ j. IsRenamedWord tb f own shared j (put d w ws r) (put d v vs r)) (sym (refused (r == d) (forget (is_one d) k) (dropped (is_one d) (at ks) r) n))
        (subst (λ w. IsRenamedWord tb f own shared (dropped (is_one d) (at ks) r) w (put d v vs r)) (sym (refused (r == d) w (ws r) n))
        (subst (λ v. IsRenamedWord tb f own shared (dropped (is_one d) (at ks) r) (ws r) v) (sym (refused (r == d) v (vs r) n)) (a.each r)))
  ]);
}

-- register d gets this kind and these words
pub written_alike : (tb : Table) (f : Renaming) (own shared : Store) (ks : List Kind) (ws vs : ℕ → ℕ) (d : ℕ) (k : Kind) (w v : ℕ) → d < length ks → AreAlike tb f own shared (at ks) ws vs → IsRenamedWord tb f own shared k w v → AreAlike tb f own shared (at (written ks d k)) (put d w ws) (put d v vs)
written_alike tb f own shared ks ws vs d k w v there a i = filled_alike tb f own shared ks ws vs d k w v there (dropped_alike tb f own shared (is_one d) (at ks) ws vs a) i

-- register d is Gone
pub gone_alike : (tb : Table) (f : Renaming) (own shared : Store) (ks : List Kind) (ws vs : ℕ → ℕ) (d : ℕ) → d < length ks → AreAlike tb f own shared (at ks) ws vs → AreAlike tb f own shared (at (written ks d Gone)) ws vs
gone_alike tb f own shared ks ws vs d there a = record {
  each = λ r. subst (λ k. IsRenamedWord tb f own shared k (ws r) (vs r)) (sym (at_written ks d Gone there r)) (pick (λ k. IsRenamedWord tb f own shared k (ws r) (vs r)) (r == d) (forget (is_one d) Gone) (dropped (is_one d) (at ks) r) (λ e. like_any tb f own shared (at ks r) (ws r) (vs r) (a.each r)) (λ e. dropped_one tb f own shared (is_one d) (at ks) r (ws r) (vs r) (a.each r)));
}

pub tested_alike : (tb : Table) (f : Renaming) (own shared : Store) (ks : List Kind) (r : ℕ) (ds : List ℕ) (ws vs : ℕ → ℕ) → AreAlike tb f own shared (at ks) ws vs → AreAlike tb f own shared (at (tested ks r ds)) ws vs
tested_alike tb f own shared ks r ds ws vs a = record {
  each = λ q. subst (λ k. IsRenamedWord tb f own shared k (ws q) (vs q)) (sym (at_tested ks r ds q)) (pick (λ k. IsRenamedWord tb f own shared k (ws q) (vs q)) (q == r) (narrow ds (at ks q)) (at ks q)
      (λ e. narrow_alike tb f own shared ds (at ks q) (ws q) (vs q) (a.each q)) (λ e. a.each q));
}

pub reworded_alike : (tb : Table) (f : Renaming) (own shared : Store) (ks : ℕ → Kind) (ws us vs xs : ℕ → ℕ) → ((r : ℕ) → us r ≡ ws r) → ((r : ℕ) → xs r ≡ vs r) → AreAlike tb f own shared ks ws vs → AreAlike tb f own shared ks us xs
reworded_alike tb f own shared ks ws us vs xs e g a = record {
  each = λ r. subst (λ w. IsRenamedWord tb f own shared (ks r) w (xs r)) (sym (e r)) (subst (λ v. IsRenamedWord tb f own shared (ks r) (ws r) v) (sym (g r)) (a.each r));
}

-- ---- a label

-- what the kind of a map says holds of what it takes
fits_alike : (tb : Table) (f : Renaming) (own shared : Store) (m k : Kind) (w v : ℕ) → fits m k ≡ true → IsRenamedWord tb f own shared k w v → IsRenamedWord tb f own shared m w v
fits_alike tb f own shared Gone k w v e i = like_any tb f own shared k w v i
fits_alike tb f own shared (Credit n) k w v e i = subst (λ k. IsRenamedWord tb f own shared k w v) (credit_of n k e) i
fits_alike tb f own shared (Scalar t) k w v e i = subst (λ k. IsRenamedWord tb f own shared k w v) (scalar_of t k e) i
fits_alike tb f own shared (Owned t cs) Gone w v e i = absurd (cc)
fits_alike tb f own shared (Owned t cs) (Scalar u) w v e i = absurd (cc)
fits_alike tb f own shared (Owned t cs) (Owned u ds) w v e i = subst (λ t. IsRenamedTree tb f own shared t w v) (equal u t (both (u == t) _ e).0) i
fits_alike tb f own shared (Owned t cs) (Lent u ds root from) w v e i = absurd (cc)
fits_alike tb f own shared (Owned t cs) (Credit n) w v e i = absurd (cc)
fits_alike tb f own shared (Lent t cs root from) Gone w v e i = absurd (cc)
fits_alike tb f own shared (Lent t cs root from) (Scalar u) w v e i = absurd (cc)
fits_alike tb f own shared (Lent t cs root from) (Owned u ds) w v e i = absurd (cc)
fits_alike tb f own shared (Lent t cs root from) (Lent u ds o g) w v e i = subst (λ t. IsRenamedTree tb f own shared t w v) (equal u t (both (u == t) _ e).0) i
fits_alike tb f own shared (Lent t cs root from) (Credit n) w v e i = absurd (cc)

pub fitted_alike : (tb : Table) (f : Renaming) (own shared : Store) (ms ks : List Kind) (ws vs : ℕ → ℕ) → fit_all ms ks ≡ true → AreAlike tb f own shared (at ks) ws vs → AreAlike tb f own shared (at ms) ws vs
fitted_alike tb f own shared ms ks ws vs e a = record { each = λ r. fits_alike tb f own shared (at ms r) (at ks r) (ws r) (vs r) (fit_at ms ks e r) (a.each r) }

-- ---- other cells change

-- the cells that registers or trees below use are the same, alone and among others
pub record AreKept (f : Renaming) (own new shared other : Store) (u : ℕ → ℕ) : Type 0 where
  pub alone : (q : ℕ) → 0 < u q → cell_at new q ≡ cell_at own q
  pub among : (q : ℕ) → 0 < u q → cell_at other (f q) ≡ cell_at shared (f q)

pub kept_tree : (tb : Table) (f : Renaming) (own new shared other : Store) (u : ℕ → ℕ) (t w v : ℕ) → (i : IsRenamedTree tb f own shared t w v) → AreKept f own new shared other u → ((q : ℕ) → uses q i.tree ≤ u q) → IsRenamedTree tb f new other t w v
kept_tree tb f own new shared other u t w v i k few = tree_moves tb f own new shared other t w v i (λ q some. k.alone q (let z = few q in omega arith)) (λ q some. k.among q (let z = few q in omega arith))

pub same_uses : (tb : Table) (s : Store) (t w : ℕ) (x y : Placed) (q : ℕ) → IsTree tb s t w x → IsTree tb s t w y → uses q x ≡ uses q y
same_uses tb s t w x y q g h = ap (uses q) (same_placed tb s t x y g.stands h.stands (g.word ∙ sym h.word))

kept_one : (tb : Table) (f : Renaming) (own new shared other : Store) (below : List Placed) (ks : ℕ → Kind) (hs : ℕ → Holding) (n : ℕ) (k : Kind) (w v : ℕ) (h : Holding) → Past n ks → ((q : ℕ) → owned_uses q k h ≤ owned_by q ks hs n) → Means tb own below ks hs k w h → AreKept f own new shared other (λ q. owned_by q ks hs n + trees_uses q below) → IsRenamedWord tb f own shared k w v → IsRenamedWord tb f new other k w v
kept_one tb f own new shared other below ks hs n Gone w v h past part m a i = i
kept_one tb f own new shared other below ks hs n (Scalar t) w v h past part m a i = i
kept_one tb f own new shared other below ks hs n (Credit z) w v h past part m a i = i
kept_one tb f own new shared other below ks hs n (Owned t cs) w v h past part m a i = kept_tree tb f own new shared other (λ q. owned_by q ks hs n + trees_uses q below) t w v i a (λ q.
    let x = part q in
    let y = ap (holding_uses q) m.holds in
    let z = same_uses tb own t w i.tree m.tree q i.alone m.is in
    omega arith)
kept_one tb f own new shared other below ks hs n (Lent t cs root from) w v h past part m a i = kept_tree tb f own new shared other (λ q. owned_by q ks hs n + trees_uses q below) t w v i a (λ q.
    let x = rooted_uses q below ks hs n root m.tree past m.rooted in
    let z = same_uses tb own t w i.tree m.tree q i.alone m.is in
    omega arith)

pub kept_alike : (tb : Table) (f : Renaming) (own new shared other : Store) (below : List Placed) (ks : ℕ → Kind) (ws vs : ℕ → ℕ) (hs : ℕ → Holding) (n : ℕ) → Past n ks → AreMeant tb own below ks ws hs → AreKept f own new shared other (λ q. owned_by q ks hs n + trees_uses q below) → AreAlike tb f own shared ks ws vs → AreAlike tb f new other ks ws vs
kept_alike tb f own new shared other below ks ws vs hs n past m k a = record {
  each = λ r. kept_one tb f own new shared other below ks hs n (ks r) (ws r) (vs r) (hs r) past (λ q. owned_part q ks hs n r past) (m.each r) k (a.each r);
}

-- no cell changes
pub stored_alike : (tb : Table) (f : Renaming) (own new shared other : Store) (ks : ℕ → Kind) (ws vs : ℕ → ℕ) → ((q : ℕ) → cell_at new q ≡ cell_at own q) → ((q : ℕ) → cell_at other q ≡ cell_at shared q) → AreAlike tb f own shared ks ws vs → AreAlike tb f new other ks ws vs
stored_alike tb f own new shared other ks ws vs e g a = record { each = λ r. by (ks r) (ws r) (vs r) (a.each r) }
  where
    by : (k : Kind) (w v : ℕ) → IsRenamedWord tb f own shared k w v → IsRenamedWord tb f new other k w v
    by Gone w v i = i
    by (Scalar t) w v i = i
    by (Owned t cs) w v i = tree_moves tb f own new shared other t w v i (λ q some. e q) (λ q some. g (f q))
    by (Lent t cs root from) w v i = tree_moves tb f own new shared other t w v i (λ q some. e q) (λ q some. g (f q))
    by (Credit n) w v i = i

-- ---- registers that are given as values

record IsGivenAlike (tb : Table) (f : Renaming) (own shared : Store) (ws vs : ℕ → ℕ) (t r : ℕ) (left : List Kind) : Type 0 where
  alike : AreAlike tb f own shared (at left) ws vs
  tree : IsRenamedTree tb f own shared t (ws r) (vs r)

given_one_alike : (tb : Table) (f : Renaming) (own shared : Store) (below : List Placed) (ks : List Kind) (ws vs : ℕ → ℕ) (hs : ℕ → Holding) (t r : ℕ) (left : List Kind) → give ks r t ≡ Some left → AreMeant tb own below (at ks) ws hs → AreAlike tb f own shared (at ks) ws vs → IsGivenAlike tb f own shared ws vs t r left
given_one_alike tb f own shared below ks ws vs hs t r left e m a = pick (λ o. o ≡ Some left → IsGivenAlike tb f own shared ws vs t r left) (is_scalar_of t (at ks r)) (Some ks) (if is_owned_of t (at ks r) then Some (used_up ks r) else None)
    (λ b is. subst (IsGivenAlike tb f own shared ws vs t r) (same_Some ks left is) (record {
      alike = a;
      tree = typed_renamed tb f own shared below (at ks) hs (at ks r) t (ws r) (vs r) (hs r) (ap type_in (scalar_of t (at ks r) b)) (m.each r) (a.each r);
    }))
    (λ b. pick (λ o. o ≡ Some left → IsGivenAlike tb f own shared ws vs t r left) (is_owned_of t (at ks r)) (Some (used_up ks r)) None
    (λ c is. let o = owned_of t (at ks r) c in subst (IsGivenAlike tb f own shared ws vs t r) (same_Some (used_up ks r) left is) (record {
      alike = used_up_alike tb f own shared ks r ws vs a;
      tree = subst (λ k. IsRenamedWord tb f own shared k (ws r) (vs r)) o.1 (a.each r);
    }))
    (λ c is. absurd (none-some left is)))
    e

pub record AreGivenAlike (tb : Table) (f : Renaming) (own shared : Store) (ws vs : ℕ → ℕ) (ts rs : List ℕ) (left : List Kind) : Type 0 where
  pub alike : AreAlike tb f own shared (at left) ws vs
  pub trees : Parts
  pub words : words_of trees ≡ map ws rs
  pub stand : StandAll tb own ts trees
  pub mates : words_of (renamed_parts f trees) ≡ map vs rs
  pub among : StandAll tb shared ts (renamed_parts f trees)

pub given_alike : (tb : Table) (f : Renaming) (own shared : Store) (below : List Placed) (ks : List Kind) (ws vs : ℕ → ℕ) (hs : ℕ → Holding) (ts rs : List ℕ) (left : List Kind) → give_all ks rs ts ≡ Some left → AreMeant tb own below (at ks) ws hs → AreAlike tb f own shared (at ks) ws vs → AreGivenAlike tb f own shared ws vs ts rs left
given_alike tb f own shared below ks ws vs hs [] [] left e m a = subst (AreGivenAlike tb f own shared ws vs [] []) (same_Some ks left e) (record { alike = a; trees = NoParts; words = refl; stand = tt; mates = refl; among = tt })
given_alike tb f own shared below ks ws vs hs (t ∷ ts) [] left e m a = absurd (none-some left e)
given_alike tb f own shared below ks ws vs hs [] (r ∷ rs) left e m a = absurd (none-some left e)
given_alike tb f own shared below ks ws vs hs (t ∷ ts) (r ∷ rs) left e m a = option_and_then_some (λ next. give_all next rs ts) (give ks r t) left e (λ next is rest.
    let one = given_one_alike tb f own shared below ks ws vs hs t r next is m a in
    let means = given_one tb own below ks ws hs t r next is m in
    let more = given_alike tb f own shared below next ws vs hs ts rs left rest means.meant one.alike in
    record {
      alike = more.alike;
      trees = MoreParts one.tree.tree more.trees;
      words = ap₂ (λ w us. w ∷ us) one.tree.alone.word more.words;
      stand = (one.tree.alone.stands, more.stand);
      mates = ap₂ (λ w us. w ∷ us) one.tree.among.word more.mates;
      among = (one.tree.among.stands, more.among);
    })
