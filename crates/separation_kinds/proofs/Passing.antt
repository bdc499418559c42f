-- Registers that are handed over as arguments: the kinds at the entry say what they have, and each cell is owned as
-- often as before, by the caller or by the callee.
use Rattle.std.proofs.Common.{◌≡◌, ◌⊎◌, inl, inr, ℕ, zero, suc, ◌+◌, ◌<◌, ◌≤◌, Bool, true, false, ◌&&◌, ◌||◌, not, List, [], ◌∷◌, ◌++◌, length, map, drop, Option, Some, None, refl, sym, ap, ◌∙◌, subst, true≢false, arith, if◌then◌else◌, ◌==◌}
use Rattle.std.specs.Prelude.{is_some}
use Rattle.std.proofs.lemmas.Option.{none-some, same_Some, option_and_then_some}
use Rattle.machine_semantics.specs.fip_language.Table.{Table}
use Rattle.machine_semantics.specs.fip_language.Store.{Placed}
use Rattle.machine_semantics.specs.fip_base.declared.plain.Param.{Param}
use Rattle.machine_semantics.specs.cell_code.declared.kind.Kind.{Kind}
use Rattle.machine_semantics.specs.cell_code.declared.kind.Kind.TheVariants.{Gone, Scalar, Owned, Lent, Credit}
use Rattle.machine_semantics.specs.Cells.{Store}
use Rattle.machine_semantics.specs.Trees.{IsTree}
use Rattle.machine_semantics.specs.Apart.{Holding, Nothing, Tree, LiesWithin, LiesIn, owned_uses}
use Rattle.code_rules.specs.Types.{is_scalar_type, all}
use Rattle.code_rules.specs.Kinds.{at, is_owned, is_credit, is_scalar_of, is_owned_of, is_credit_of}
use Rattle.code_rules.specs.Changes.{written, goes, used_up}
use Rattle.code_rules.specs.Entry.{param_kind, gones}
use Rattle.code_rules.specs.Handing.{pass, pass_all, hand, hand_all, is_lendable, lends, lend_all}
use Rattle.separation_kinds.specs.Meanings.{Rooted, Means, AreMeant, owned_by, sum_from, word_at}
use Rattle.separation_kinds.proofs.Basics.{pick, chosen, refused, apart, both, one_of, refuted, or_not, equal, length_become}
use Rattle.separation_kinds.proofs.KindLemmas.{dropped, not_gone_within}
use Rattle.separation_kinds.proofs.Changing.{used_up_meant, count_used_up, gone_meant, count_gone, credit_not_owned}
use Rattle.separation_kinds.proofs.Shapes.{root_all}
use Rattle.separation_kinds.proofs.Giving.{scalar_of, owned_of, credit_of}
use Rattle.separation_kinds.proofs.Takes.{sum_shift}

-- it has what a kind says in whatever frame
abbrev pub MeansAnywhere : Table → Store → List Placed → Kind → ℕ → Holding → Type 0
MeansAnywhere tb s below k w h = (ls : ℕ → Kind) (gs : ℕ → Holding) → Means tb s below ls gs k w h

abbrev pub is_lent_param : Table → Param → Bool
is_lent_param tb p = not (is_scalar_type tb p.ty) && p.lent

kind_scalar : (tb : Table) (p : Param) → is_scalar_type tb p.ty ≡ true → param_kind tb p ≡ Scalar p.ty
kind_scalar tb p e = chosen (is_scalar_type tb p.ty) (Scalar p.ty) (if p.lent then Lent p.ty (all tb p.ty) None None else Owned p.ty (all tb p.ty)) e

pub kind_lent : (tb : Table) (p : Param) → is_scalar_type tb p.ty ≡ false → p.lent ≡ true → param_kind tb p ≡ Lent p.ty (all tb p.ty) None None
kind_lent tb p e l = refused (is_scalar_type tb p.ty) (Scalar p.ty) (if p.lent then Lent p.ty (all tb p.ty) None None else Owned p.ty (all tb p.ty)) e ∙ chosen p.lent (Lent p.ty (all tb p.ty) None None) (Owned p.ty (all tb p.ty)) l

kind_owned : (tb : Table) (p : Param) → is_scalar_type tb p.ty ≡ false → p.lent ≡ false → param_kind tb p ≡ Owned p.ty (all tb p.ty)
kind_owned tb p e l = refused (is_scalar_type tb p.ty) (Scalar p.ty) (if p.lent then Lent p.ty (all tb p.ty) None None else Owned p.ty (all tb p.ty)) e ∙ refused p.lent (Lent p.ty (all tb p.ty) None None) (Owned p.ty (all tb p.ty)) l

-- ---- owned and scalar ones

pub record IsPassed (tb : Table) (s : Store) (below under : List Placed) (ks : List Kind) (ws : ℕ → ℕ) (hs : ℕ → Holding) (p : Param) (a : ℕ) (left : List Kind) : Type 0 where
  pub wide : length left ≡ length ks
  pub meant : AreMeant tb s below (at left) ws hs
  pub means : is_lent_param tb p ≡ false → MeansAnywhere tb s under (param_kind tb p) (ws a) (hs a)
  pub count : (q : ℕ) → owned_by q (at left) hs (length ks) + owned_uses q (param_kind tb p) (hs a) ≡ owned_by q (at ks) hs (length ks)

pass_scalar : (tb : Table) (s : Store) (below under : List Placed) (ks : List Kind) (ws : ℕ → ℕ) (hs : ℕ → Holding) (p : Param) (a : ℕ) → is_scalar_type tb p.ty ≡ true → at ks a ≡ Scalar p.ty → AreMeant tb s below (at ks) ws hs → IsPassed tb s below under ks ws hs p a ks
pass_scalar tb s below under ks ws hs p a e is m =
    let g = subst (λ k. Means tb s below (at ks) hs k (ws a) (hs a)) is (m.each a) in
    record {
      wide = refl;
      meant = m;
      means = λ l ls gs. rw (kind_scalar tb p e) g;
      count = λ q. let none : owned_uses q (param_kind tb p) (hs a) ≡ 0 = ap (λ k. owned_uses q k (hs a)) (kind_scalar tb p e) in omega arith;
    }

pass_lent : (tb : Table) (s : Store) (below under : List Placed) (ks : List Kind) (ws : ℕ → ℕ) (hs : ℕ → Holding) (p : Param) (a : ℕ) → is_scalar_type tb p.ty ≡ false → p.lent ≡ true → AreMeant tb s below (at ks) ws hs → IsPassed tb s below under ks ws hs p a ks
pass_lent tb s below under ks ws hs p a e lent m = record {
  wide = refl;
  meant = m;
  means = λ l ls gs. apart (is_lent_param tb p) (rw (e, lent) refl) l;
  count = λ q. let none : owned_uses q (param_kind tb p) (hs a) ≡ 0 = ap (λ k. owned_uses q k (hs a)) (kind_lent tb p e lent) in omega arith;
}

pass_owned : (tb : Table) (s : Store) (below under : List Placed) (ks : List Kind) (ws : ℕ → ℕ) (hs : ℕ → Holding) (p : Param) (a : ℕ) (cs : List ℕ) → is_scalar_type tb p.ty ≡ false → p.lent ≡ false → at ks a ≡ Owned p.ty cs → AreMeant tb s below (at ks) ws hs → IsPassed tb s below under ks ws hs p a (used_up ks a)
pass_owned tb s below under ks ws hs p a cs e lent is m =
    let g = subst (λ k. Means tb s below (at ks) hs k (ws a) (hs a)) is (m.each a) in
    let owned : is_owned (at ks a) ≡ true = ap is_owned is in
    record {
      wide = length_become ks (dropped (goes ks a) (at ks));
      meant = used_up_meant tb s below ks ws hs a m;
      means = λ l ls gs. rw (kind_owned tb p e lent) (record { tree = g.tree; holds = g.holds; is = g.is; top = root_all tb s p.ty g.tree e g.is.stands });
      count = λ q.
          let c = count_used_up q ks hs a owned in
          let u = ap (λ k. owned_uses q k (hs a)) is in
          let v = ap (λ k. owned_uses q k (hs a)) (kind_owned tb p e lent) in
          omega arith;
    }

pub passed : (tb : Table) (s : Store) (below under : List Placed) (ks : List Kind) (ws : ℕ → ℕ) (hs : ℕ → Holding) (p : Param) (a : ℕ) (left : List Kind) → pass tb ks p a ≡ Some left → AreMeant tb s below (at ks) ws hs → IsPassed tb s below under ks ws hs p a left
passed tb s below under ks ws hs p a left e m = pick (λ o. o ≡ Some left → IsPassed tb s below under ks ws hs p a left) (is_scalar_type tb p.ty) (if is_scalar_of p.ty (at ks a) then Some ks else None) (if p.lent then Some ks else (if is_owned_of p.ty (at ks a) then Some (used_up ks a) else None))
    (λ scalar. pick (λ o. o ≡ Some left → IsPassed tb s below under ks ws hs p a left) (is_scalar_of p.ty (at ks a)) (Some ks) None
    (λ b is. subst (IsPassed tb s below under ks ws hs p a) (same_Some ks left is) (pass_scalar tb s below under ks ws hs p a scalar (scalar_of p.ty (at ks a) b) m))
    (λ b is. absurd (none-some left is)))
    (λ tree. pick (λ o. o ≡ Some left → IsPassed tb s below under ks ws hs p a left) p.lent (Some ks) (if is_owned_of p.ty (at ks a) then Some (used_up ks a) else None)
    (λ lent is. subst (IsPassed tb s below under ks ws hs p a) (same_Some ks left is) (pass_lent tb s below under ks ws hs p a tree lent m))
    (λ lent. pick (λ o. o ≡ Some left → IsPassed tb s below under ks ws hs p a left) (is_owned_of p.ty (at ks a)) (Some (used_up ks a)) None
    (λ b is. let o = owned_of p.ty (at ks a) b in subst (IsPassed tb s below under ks ws hs p a) (same_Some (used_up ks a) left is) (pass_owned tb s below under ks ws hs p a o.0 tree lent o.1 m))
    (λ b is. absurd (none-some left is))))
    e

-- each parameter's register has what its kind says, where this is borrowed or not
abbrev pub EachParam : Bool → Table → Store → List Placed → (ℕ → ℕ) → (ℕ → Holding) → List Param → List ℕ → Type 0
EachParam lent tb s below ws hs [] rs = Unit {0}
EachParam lent tb s below ws hs (p ∷ ps) [] = ⊥
EachParam lent tb s below ws hs (p ∷ ps) (a ∷ rs) = (is_lent_param tb p ≡ lent → MeansAnywhere tb s below (param_kind tb p) (ws a) (hs a)) × EachParam lent tb s below ws hs ps rs

abbrev pub params_uses : ℕ → Table → (ℕ → Holding) → List Param → List ℕ → ℕ
params_uses q tb hs [] rs = 0
params_uses q tb hs (p ∷ ps) [] = 0
params_uses q tb hs (p ∷ ps) (a ∷ rs) = owned_uses q (param_kind tb p) (hs a) + params_uses q tb hs ps rs

pub record ArePassed (tb : Table) (s : Store) (below under : List Placed) (ks : List Kind) (ws : ℕ → ℕ) (hs : ℕ → Holding) (ps : List Param) (rs : List ℕ) (left : List Kind) : Type 0 where
  pub wide : length left ≡ length ks
  pub meant : AreMeant tb s below (at left) ws hs
  pub each : EachParam false tb s under ws hs ps rs
  pub count : (q : ℕ) → owned_by q (at left) hs (length ks) + params_uses q tb hs ps rs ≡ owned_by q (at ks) hs (length ks)

pub all_passed : (tb : Table) (s : Store) (below under : List Placed) (ks : List Kind) (ws : ℕ → ℕ) (hs : ℕ → Holding) (ps : List Param) (rs : List ℕ) (left : List Kind) → pass_all tb ks ps rs ≡ Some left → AreMeant tb s below (at ks) ws hs → ArePassed tb s below under ks ws hs ps rs left
all_passed tb s below under ks ws hs [] rs left e m = subst (ArePassed tb s below under ks ws hs [] rs) (same_Some ks left e) (record { wide = refl; meant = m; each = tt; count = λ q. omega arith })
all_passed tb s below under ks ws hs (p ∷ ps) [] left e m = absurd (none-some left e)
all_passed tb s below under ks ws hs (p ∷ ps) (a ∷ rs) left e m = option_and_then_some (λ next. pass_all tb next ps rs) (pass tb ks p a) left e (λ next is rest.
    let one = passed tb s below under ks ws hs p a next is m in
    let more = all_passed tb s below under next ws hs ps rs left rest one.meant in
    record {
      wide = more.wide ∙ one.wide;
      meant = more.meant;
      each = (one.means, more.each);
      count = λ q.
          let x = one.count q in
          let y = more.count q in
          let l = ap (owned_by q (at left) hs) one.wide in
          let n = ap (owned_by q (at next) hs) one.wide in
          omega arith;
    })

-- ---- credits

abbrev pub EachCredit : Store → (ℕ → ℕ) → (ℕ → Holding) → Table → List Placed → List ℕ → List ℕ → Type 0
EachCredit s ws hs tb below [] rs = Unit {0}
EachCredit s ws hs tb below (k ∷ ks) [] = ⊥
EachCredit s ws hs tb below (k ∷ ks) (a ∷ rs) = MeansAnywhere tb s below (Credit k) (ws a) (hs a) × EachCredit s ws hs tb below ks rs

abbrev pub credits_uses : ℕ → (ℕ → Holding) → List ℕ → List ℕ → ℕ
credits_uses q hs [] rs = 0
credits_uses q hs (k ∷ ks) [] = 0
credits_uses q hs (k ∷ ks) (a ∷ rs) = owned_uses q (Credit k) (hs a) + credits_uses q hs ks rs

pub record AreHanded (tb : Table) (s : Store) (below under : List Placed) (ks : List Kind) (ws : ℕ → ℕ) (hs : ℕ → Holding) (sizes rs : List ℕ) (left : List Kind) : Type 0 where
  pub wide : length left ≡ length ks
  pub meant : AreMeant tb s below (at left) ws hs
  pub each : EachCredit s ws hs tb under sizes rs
  pub count : (q : ℕ) → owned_by q (at left) hs (length ks) + credits_uses q hs sizes rs ≡ owned_by q (at ks) hs (length ks)

hand_one : (ks : List Kind) (size a : ℕ) (left : List Kind) → hand ks size a ≡ Some left → (at ks a ≡ Credit size) × (written ks a Gone ≡ left)
hand_one ks size a left e = pick (λ o. o ≡ Some left → (at ks a ≡ Credit size) × (written ks a Gone ≡ left)) (is_credit_of size (at ks a)) (Some (written ks a Gone)) None (λ b is. (credit_of size (at ks a) b, same_Some (written ks a Gone) left is)) (λ b is. absurd (none-some left is)) e

pub credit_within : (ks : List Kind) (a size : ℕ) → at ks a ≡ Credit size → a < length ks
credit_within ks a size e = not_gone_within ks a (λ g. true≢false (sym (ap is_credit e) ∙ ap is_credit g))

pub all_handed : (tb : Table) (s : Store) (below under : List Placed) (ks : List Kind) (ws : ℕ → ℕ) (hs : ℕ → Holding) (sizes rs : List ℕ) (left : List Kind) → hand_all ks sizes rs ≡ Some left → AreMeant tb s below (at ks) ws hs → AreHanded tb s below under ks ws hs sizes rs left
all_handed tb s below under ks ws hs [] rs left e m = subst (AreHanded tb s below under ks ws hs [] rs) (same_Some ks left e) (record { wide = refl; meant = m; each = tt; count = λ q. omega arith })
all_handed tb s below under ks ws hs (size ∷ sizes) [] left e m = absurd (none-some left e)
all_handed tb s below under ks ws hs (size ∷ sizes) (a ∷ rs) left e m = option_and_then_some (λ next. hand_all next sizes rs) (hand ks size a) left e (λ next is rest.
    let one = hand_one ks size a next is in
    let there = credit_within ks a size one.0 in
    let g = subst (λ k. Means tb s below (at ks) hs k (ws a) (hs a)) one.0 (m.each a) in
    let meant : AreMeant tb s below (at next) ws hs = subst (λ ls. AreMeant tb s below (at ls) ws hs) one.1 (gone_meant tb s below ks ws hs a there (credit_not_owned (at ks a) (ap is_credit one.0)) m) in
    let wide : length next ≡ length ks = ap length (sym one.1) ∙ length_become ks _ in
    let more = all_handed tb s below under next ws hs sizes rs left rest meant in
    record {
      wide = more.wide ∙ wide;
      meant = more.meant;
      each = (λ ls gs. g, more.each);
      count = λ q.
          let x : owned_by q (at next) hs (length ks) + owned_uses q (at ks a) (hs a) ≡ owned_by q (at ks) hs (length ks) = subst (λ ls. owned_by q (at ls) hs (length ks) + owned_uses q (at ks a) (hs a) ≡ owned_by q (at ks) hs (length ks)) one.1 (count_gone q ks hs a there) in
          let z = ap (λ k. owned_uses q k (hs a)) one.0 in
          let y = more.count q in
          let l = ap (owned_by q (at left) hs) wide in
          let n = ap (owned_by q (at next) hs) wide in
          omega arith;
    })

-- ---- borrowed ones

-- what lies in the registers that are left, and below them, lies below the callee; in a tail call no register is left
pub record Covers (tail : Bool) (below under : List Placed) (ks : List Kind) (hs : ℕ → Holding) : Type 0 where
  pub own : (a : ℕ) (y : Placed) → tail ≡ false → is_owned (at ks a) ≡ true → hs a ≡ Tree y → LiesIn y under
  pub lower : (x : Placed) → LiesIn x below → LiesIn x under

pub lies_within : (x y : Placed) (ys : List Placed) → LiesWithin x y → LiesIn y ys → LiesIn x ys
lies_within x y [] w l = absurd l
lies_within x y (z ∷ ys) w l = elim l as (λ v. LiesWithin x z ⊎ LiesIn x ys) [
  | inl h ↦ inl (λ q. let a = w q in let b = h q in omega arith)
  | inr h ↦ inr (lies_within x y ys w h)
]

rooted_lies : (tail : Bool) (below under : List Placed) (ks : List Kind) (hs : ℕ → Holding) (root : Option ℕ) (x : Placed) → (tail && is_some root) ≡ false → Covers tail below under ks hs → Rooted below (at ks) hs root x → LiesIn x under
rooted_lies tail below under ks hs None x e c l = c.lower x l
rooted_lies true below under ks hs (Some r) x e c u = absurd (true≢false e)
rooted_lies false below under ks hs (Some r) x e c u = lies_within x u.tree under u.within (c.own r u.tree refl u.owned u.holds)

record IsLendable (tb : Table) (s : Store) (under : List Placed) (t w : ℕ) (h : Holding) : Type 0 where
  tree : Placed
  holds : h ≡ Tree tree
  is : IsTree tb s t w tree
  lies : LiesIn tree under

lendable : (tail : Bool) (tb : Table) (s : Store) (below under : List Placed) (ks : List Kind) (hs : ℕ → Holding) (u a : ℕ) (k : Kind) (w : ℕ) (h : Holding) → Covers tail below under ks hs → at ks a ≡ k → hs a ≡ h → is_lendable tail u k ≡ true → Means tb s below (at ks) hs k w h → IsLendable tb s under u w h
lendable tail tb s below under ks hs u a Gone w h c e z l m = absurd (true≢false (sym l))
lendable tail tb s below under ks hs u a (Scalar t) w h c e z l m = absurd (true≢false (sym l))
lendable tail tb s below under ks hs u a (Owned t cs) w h c e z l m =
    let p = both (t == u) (not tail) l in
    record {
      tree = m.tree;
      holds = m.holds;
      is = subst (λ t. IsTree tb s t w m.tree) (equal t u p.0) m.is;
      lies = c.own a m.tree (refuted tail p.1) (ap is_owned e) (z ∙ m.holds);
    }
lendable tail tb s below under ks hs u a (Lent t cs root from) w h c e z l m =
    let p = both (t == u) (not (tail && is_some root)) l in
    record {
      tree = m.tree;
      holds = m.holds;
      is = subst (λ t. IsTree tb s t w m.tree) (equal t u p.0) m.is;
      lies = rooted_lies tail below under ks hs root m.tree (refuted (tail && is_some root) p.1) c m.rooted;
    }
lendable tail tb s below under ks hs u a (Credit n) w h c e z l m = absurd (true≢false (sym l))

pub all_lent : (tail : Bool) (tb : Table) (s : Store) (below under : List Placed) (ks : List Kind) (ws : ℕ → ℕ) (hs : ℕ → Holding) (ps : List Param) (rs : List ℕ) → length ps ≤ length rs → Covers tail below under ks hs → lend_all tb tail ks ps rs ≡ true → AreMeant tb s below (at ks) ws hs → EachParam true tb s under ws hs ps rs
all_lent tail tb s below under ks ws hs [] rs n c e m = tt
all_lent tail tb s below under ks ws hs (p ∷ ps) [] n c e m = absurd (omega arith)
all_lent tail tb s below under ks ws hs (p ∷ ps) (a ∷ rs) n c e m =
    let q = both (lends tb tail ks p a) (lend_all tb tail ks ps rs) e in (
      λ lent ls gs.
          let l = both (not (is_scalar_type tb p.ty)) p.lent lent in
          let tree = refuted (is_scalar_type tb p.ty) l.0 in
          let able : is_lendable tail p.ty (at ks a) ≡ true = elim (one_of (is_scalar_type tb p.ty) (not p.lent || is_lendable tail p.ty (at ks a)) q.0) as (λ v. is_lendable tail p.ty (at ks a) ≡ true) [
            | inl scalar ↦ apart (is_scalar_type tb p.ty) scalar tree
            | inr other ↦ elim (one_of (not p.lent) (is_lendable tail p.ty (at ks a)) other) as (λ v. is_lendable tail p.ty (at ks a) ≡ true) [
              | inl no_lent ↦ apart p.lent l.1 (refuted p.lent no_lent)
              | inr z ↦ z
            ]
          ] in
          let g = lendable tail tb s below under ks hs p.ty a (at ks a) (ws a) (hs a) c refl refl able (m.each a) in
          rw (kind_lent tb p tree l.1) (record { tree = g.tree; holds = g.holds; is = g.is; top = root_all tb s p.ty g.tree tree g.is.stands; rooted = g.lies; framed = tt }),
      all_lent tail tb s below under ks ws hs ps rs (omega arith) c q.1 m,
    )

-- ---- the frame that is entered

-- each of these kinds says what a register has
abbrev pub EachMeans : Table → Store → List Placed → (ℕ → ℕ) → (ℕ → Holding) → List Kind → List ℕ → Type 0
EachMeans tb s below ws hs [] [] = Unit {0}
EachMeans tb s below ws hs [] (a ∷ rs) = ⊥
EachMeans tb s below ws hs (k ∷ ks) [] = ⊥
EachMeans tb s below ws hs (k ∷ ks) (a ∷ rs) = MeansAnywhere tb s below k (ws a) (hs a) × EachMeans tb s below ws hs ks rs

abbrev pub kinds_uses : ℕ → (ℕ → Holding) → List Kind → List ℕ → ℕ
kinds_uses q hs [] rs = 0
kinds_uses q hs (k ∷ ks) [] = 0
kinds_uses q hs (k ∷ ks) (a ∷ rs) = owned_uses q k (hs a) + kinds_uses q hs ks rs

each_credit : (tb : Table) (s : Store) (below : List Placed) (ws : ℕ → ℕ) (hs : ℕ → Holding) (sizes rs : List ℕ) → length rs ≡ length sizes → EachCredit s ws hs tb below sizes rs → EachMeans tb s below ws hs (map Credit sizes) rs
each_credit tb s below ws hs [] [] n c = tt
each_credit tb s below ws hs [] (a ∷ rs) n c = absurd (omega arith)
each_credit tb s below ws hs (k ∷ sizes) [] n c = absurd (omega arith)
each_credit tb s below ws hs (k ∷ sizes) (a ∷ rs) n c = (c.0, each_credit tb s below ws hs sizes rs (omega arith) c.1)

pub each_argument : (tb : Table) (s : Store) (below : List Placed) (ws : ℕ → ℕ) (hs : ℕ → Holding) (ps : List Param) (sizes rs : List ℕ) → length rs ≡ length ps + length sizes → EachParam false tb s below ws hs ps rs → EachParam true tb s below ws hs ps rs → EachCredit s ws hs tb below sizes (drop (length ps) rs) → EachMeans tb s below ws hs (map (param_kind tb) ps ++ map Credit sizes) rs
each_argument tb s below ws hs [] sizes rs n o l c = each_credit tb s below ws hs sizes rs (omega arith) c
each_argument tb s below ws hs (p ∷ ps) sizes [] n o l c = absurd (omega arith)
each_argument tb s below ws hs (p ∷ ps) sizes (a ∷ rs) n o l c = (
  elim (or_not (is_lent_param tb p)) as (λ v. MeansAnywhere tb s below (param_kind tb p) (ws a) (hs a)) [ inl y ↦ l.0 y | inr z ↦ o.0 z ],
  each_argument tb s below ws hs ps sizes rs (omega arith) o.1 l.1 c,
)

credits_sum : (q : ℕ) (hs : ℕ → Holding) (sizes rs : List ℕ) → kinds_uses q hs (map Credit sizes) rs ≡ credits_uses q hs sizes rs
credits_sum q hs [] rs = refl
credits_sum q hs (k ∷ sizes) [] = refl
credits_sum q hs (k ∷ sizes) (a ∷ rs) = ap (λ n. owned_uses q (Credit k) (hs a) + n) (credits_sum q hs sizes rs)

pub arguments_sum : (q : ℕ) (tb : Table) (hs : ℕ → Holding) (ps : List Param) (sizes rs : List ℕ) → kinds_uses q hs (map (param_kind tb) ps ++ map Credit sizes) rs ≡ params_uses q tb hs ps rs + credits_uses q hs sizes (drop (length ps) rs)
arguments_sum q tb hs [] sizes rs = credits_sum q hs sizes rs ∙ (let z : credits_uses q hs sizes rs ≡ 0 + credits_uses q hs sizes rs = omega arith in z)
arguments_sum q tb hs (p ∷ ps) sizes [] = sym (no_credits sizes)
  where
    no_credits : (sizes : List ℕ) → 0 + credits_uses q hs sizes [] ≡ 0
    no_credits [] = omega arith
    no_credits (k ∷ ks) = omega arith
arguments_sum q tb hs (p ∷ ps) sizes (a ∷ rs) = let i = arguments_sum q tb hs ps sizes rs in omega arith

-- what the registers of a new frame hold
abbrev pub hold_at : (ℕ → Holding) → List ℕ → ℕ → Holding
hold_at hs [] r = Nothing
hold_at hs (a ∷ rs) zero = hs a
hold_at hs (a ∷ rs) (suc r) = hold_at hs rs r

pub at_gones : (m r : ℕ) → at (gones m) r ≡ Gone
at_gones zero r = refl
at_gones (suc m) zero = refl
at_gones (suc m) (suc r) = at_gones m r

entered_means : (tb : Table) (s : Store) (below : List Placed) (ws : ℕ → ℕ) (hs : ℕ → Holding) (ls : ℕ → Kind) (gs : ℕ → Holding) (ks : List Kind) (rs zs : List ℕ) (m r : ℕ) → EachMeans tb s below ws hs ks rs → Means tb s below ls gs (at (ks ++ gones m) r) (word_at (map ws rs ++ zs) r) (hold_at hs rs r)
entered_means tb s below ws hs ls gs [] [] zs m r e = rw (at_gones m r) tt
entered_means tb s below ws hs ls gs [] (a ∷ rs) zs m r e = absurd e
entered_means tb s below ws hs ls gs (k ∷ ks) [] zs m r e = absurd e
entered_means tb s below ws hs ls gs (k ∷ ks) (a ∷ rs) zs m zero e = e.0 ls gs
entered_means tb s below ws hs ls gs (k ∷ ks) (a ∷ rs) zs m (suc r) e = entered_means tb s below ws hs ls gs ks rs zs m r e.1

pub entered_meant : (tb : Table) (s : Store) (below : List Placed) (ws : ℕ → ℕ) (hs : ℕ → Holding) (ks : List Kind) (rs zs : List ℕ) (m : ℕ) → EachMeans tb s below ws hs ks rs → AreMeant tb s below (at (ks ++ gones m)) (word_at (map ws rs ++ zs)) (hold_at hs rs)
entered_meant tb s below ws hs ks rs zs m e = record { each = λ r. entered_means tb s below ws hs (at (ks ++ gones m)) (hold_at hs rs) ks rs zs m r e }

pub gones_sum : (q m : ℕ) (h : ℕ → Holding) → owned_by q (at (gones m)) h (length (gones m)) ≡ 0
gones_sum q zero h = refl
gones_sum q (suc m) h =
    let a = sum_shift (λ r. owned_uses q (at (gones (suc m)) r) (h r)) 0 (length (gones m)) in
    let b = gones_sum q m (λ r. h (suc r)) in
    let c : sum_from (λ r. owned_uses q (at (gones (suc m)) (suc r)) (h (suc r))) 0 (length (gones m)) ≡ 0 = b in
    omega arith

pub entered_sum : (q : ℕ) (tb : Table) (s : Store) (below : List Placed) (ws : ℕ → ℕ) (hs : ℕ → Holding) (ks : List Kind) (rs : List ℕ) (m : ℕ) → EachMeans tb s below ws hs ks rs → owned_by q (at (ks ++ gones m)) (hold_at hs rs) (length (ks ++ gones m)) ≡ kinds_uses q hs ks rs
entered_sum q tb s below ws hs [] [] m e = gones_sum q m (hold_at hs [])
entered_sum q tb s below ws hs [] (a ∷ rs) m e = absurd e
entered_sum q tb s below ws hs (k ∷ ks) [] m e = absurd e
entered_sum q tb s below ws hs (k ∷ ks) (a ∷ rs) m e =
    let x = sum_shift (λ r. owned_uses q (at ((k ∷ ks) ++ gones m) r) (hold_at hs (a ∷ rs) r)) 0 (length (ks ++ gones m)) in
    let y = entered_sum q tb s below ws hs ks rs m e.1 in
    let z : sum_from (λ r. owned_uses q (at ((k ∷ ks) ++ gones m) (suc r)) (hold_at hs (a ∷ rs) (suc r))) 0 (length (ks ++ gones m)) ≡ kinds_uses q hs ks rs = y in
    ap (λ n. owned_uses q k (hs a) + n) (x ∙ z)
