-- What arguments show to the frame that is entered.
use Rattle.std.proofs.Common.{◌≡◌, inl, inr, ℕ, zero, suc, ◌+◌, Bool, true, false, ◌&&◌, ◌||◌, not, List, [], ◌∷◌, ◌++◌, length, map, drop, Some, None, refl, sym, ap, subst, true≢false, arith, ◌==◌, if◌then◌else◌}
use Rattle.std.specs.Prelude.{is_some}
use Rattle.std.proofs.lemmas.Option.{none-some, same_Some, option_and_then_some}
use Rattle.tree_semantics.specs.fip_language.Table.{Table}
use Rattle.separation_bounds.specs.fip_base.declared.plain.Param.{Param}
use Rattle.separation_bounds.specs.cell_code.declared.kind.Kind.{Kind}
use Rattle.separation_bounds.specs.cell_code.declared.kind.Kind.TheVariants.{Gone, Scalar, Owned, Lent, Credit}
use Rattle.tree_semantics.specs.machine_semantics.Cells.{Store}
use Rattle.tree_semantics.specs.Contents.{Contents}
use Rattle.tree_semantics.specs.Contents as T
use Rattle.separation_bounds.specs.cell_code.Plain.{PlainFunction, PlainCode, function_at}
use Rattle.separation_bounds.specs.code_rules.Types.{is_scalar_type, all}
use Rattle.separation_bounds.specs.code_rules.Kinds.{at, is_scalar_of, is_owned_of, is_credit_of}
use Rattle.separation_bounds.specs.code_rules.Entry.{param_kind, gones}
use Rattle.separation_bounds.specs.code_rules.Changes.{written, used_up}
use Rattle.separation_bounds.specs.code_rules.Handing.{pass, pass_all, hand, hand_all, is_lendable, lends, lend_all, arguments}
use Rattle.separation_bounds.specs.separation_kinds.Meanings.{word_at}
use Rattle.separation_bounds.proofs.separation_kinds.Basics.{pick, both, or_not, equal}
use Rattle.separation_bounds.proofs.separation_kinds.Giving.{scalar_of, owned_of, credit_of}
use Rattle.separation_bounds.proofs.separation_kinds.Passing.{credit_within, at_gones}
use Rattle.separation_bounds.proofs.separation.Calling.{arguments_are}
use Rattle.tree_refinement.specs.Agreement.{IsWordOf, type_in, Shows, AreShown}
use Rattle.tree_refinement.proofs.Values.{used_up_shown, gone_shown}

-- a parameter that is checked before the borrowed ones
abbrev pub is_passed : Table → Param → Bool
is_passed tb p = is_scalar_type tb p.ty || not p.lent

-- the arguments of those parameters stand for values of their types
abbrev pub EachWord : Bool → Table → Store → (ℕ → ℕ) → Contents → List Param → List ℕ → Type 0
EachWord b tb s ws cs [] rs = Unit {0}
EachWord b tb s ws cs (p ∷ ps) [] = Unit {0}
EachWord b tb s ws cs (p ∷ ps) (a ∷ rs) = (is_passed tb p ≡ b → IsWordOf tb s p.ty (ws a) (cs a)) × EachWord b tb s ws cs ps rs

-- ---- those that are passed

record IsPassedOn (tb : Table) (s : Store) (ws : ℕ → ℕ) (cs : Contents) (left : List Kind) (b : Bool) (t a : ℕ) : Type 0 where
  shown : AreShown tb s (at left) ws cs
  word : b ≡ true → IsWordOf tb s t (ws a) (cs a)

passed_by : (tb : Table) (s : Store) (ws : ℕ → ℕ) (cs : Contents) (ks left : List Kind) (t a : ℕ) (b l x y : Bool) → (x ≡ true → IsWordOf tb s t (ws a) (cs a)) → (y ≡ true → IsWordOf tb s t (ws a) (cs a)) → (if b then (if x then Some ks else None) else (if l then Some ks else (if y then Some (used_up ks a) else None))) ≡ Some left → AreShown tb s (at ks) ws cs → IsPassedOn tb s ws cs left (b || not l) t a
passed_by tb s ws cs ks left t a true l true y h i e m = subst (λ left. IsPassedOn tb s ws cs left true t a) (same_Some ks left e) (record { shown = m; word = λ z. h refl })
passed_by tb s ws cs ks left t a true l false y h i e m = absurd (none-some left e)
passed_by tb s ws cs ks left t a false true x y h i e m = subst (λ left. IsPassedOn tb s ws cs left false t a) (same_Some ks left e) (record { shown = m; word = λ z. absurd (true≢false (sym z)) })
passed_by tb s ws cs ks left t a false false x true h i e m = subst (λ left. IsPassedOn tb s ws cs left true t a) (same_Some (used_up ks a) left e) (record { shown = used_up_shown tb s ks a ws cs m; word = λ z. i refl })
passed_by tb s ws cs ks left t a false false x false h i e m = absurd (none-some left e)

passed_one : (tb : Table) (s : Store) (ws : ℕ → ℕ) (cs : Contents) (ks left : List Kind) (p : Param) (a : ℕ) → pass tb ks p a ≡ Some left → AreShown tb s (at ks) ws cs → IsPassedOn tb s ws cs left (is_passed tb p) p.ty a
passed_one tb s ws cs ks left p a e m = passed_by tb s ws cs ks left p.ty a (is_scalar_type tb p.ty) p.lent (is_scalar_of p.ty (at ks a)) (is_owned_of p.ty (at ks a))
    (λ h. subst (λ k. Shows tb s (type_in k) (ws a) (cs a)) (scalar_of p.ty (at ks a) h) (m.each a))
    (λ h. let o = owned_of p.ty (at ks a) h in subst (λ k. Shows tb s (type_in k) (ws a) (cs a)) o.1 (m.each a))
    e m

pub record ArePassedOn (tb : Table) (s : Store) (ws : ℕ → ℕ) (cs : Contents) (left : List Kind) (ps : List Param) (rs : List ℕ) : Type 0 where
  pub shown : AreShown tb s (at left) ws cs
  pub words : EachWord true tb s ws cs ps rs

all_passed_on : (tb : Table) (s : Store) (ws : ℕ → ℕ) (cs : Contents) (ks left : List Kind) (ps : List Param) (rs : List ℕ) → pass_all tb ks ps rs ≡ Some left → AreShown tb s (at ks) ws cs → ArePassedOn tb s ws cs left ps rs
all_passed_on tb s ws cs ks left [] rs e m = subst (λ left. ArePassedOn tb s ws cs left [] rs) (same_Some ks left e) (record { shown = m; words = tt })
all_passed_on tb s ws cs ks left (p ∷ ps) [] e m = absurd (none-some left e)
all_passed_on tb s ws cs ks left (p ∷ ps) (a ∷ rs) e m = option_and_then_some (λ next. pass_all tb next ps rs) (pass tb ks p a) left e (λ next is rest.
    let one = passed_one tb s ws cs ks next p a is m in
    let more = all_passed_on tb s ws cs next left ps rs rest one.shown in
    record { shown = more.shown; words = (one.word, more.words) })

-- ---- credits

handed_one : (tb : Table) (s : Store) (ws : ℕ → ℕ) (cs : Contents) (ks left : List Kind) (size a : ℕ) → hand ks size a ≡ Some left → AreShown tb s (at ks) ws cs → AreShown tb s (at left) ws cs
handed_one tb s ws cs ks left size a e m = pick (λ o. o ≡ Some left → AreShown tb s (at left) ws cs) (is_credit_of size (at ks a)) (Some (written ks a Gone)) None
    (λ b is. subst (λ left. AreShown tb s (at left) ws cs) (same_Some (written ks a Gone) left is) (gone_shown tb s ks ws cs a (credit_within ks a size (credit_of size (at ks a) b)) m))
    (λ b is. absurd (none-some left is))
    e

all_handed_on : (tb : Table) (s : Store) (ws : ℕ → ℕ) (cs : Contents) (ks left : List Kind) (sizes rs : List ℕ) → hand_all ks sizes rs ≡ Some left → AreShown tb s (at ks) ws cs → AreShown tb s (at left) ws cs
all_handed_on tb s ws cs ks left [] rs e m = subst (λ left. AreShown tb s (at left) ws cs) (same_Some ks left e) m
all_handed_on tb s ws cs ks left (size ∷ sizes) [] e m = absurd (none-some left e)
all_handed_on tb s ws cs ks left (size ∷ sizes) (a ∷ rs) e m = option_and_then_some (λ next. hand_all next sizes rs) (hand ks size a) left e (λ next is rest.
    all_handed_on tb s ws cs next left sizes rs rest (handed_one tb s ws cs ks next size a is m))

-- ---- those that are borrowed

lendable_type : (tail : Bool) (u : ℕ) (k : Kind) → is_lendable tail u k ≡ true → type_in k ≡ Some u
lendable_type tail u Gone e = absurd (true≢false (sym e))
lendable_type tail u (Scalar t) e = absurd (true≢false (sym e))
lendable_type tail u (Owned t cs) e = ap Some (equal t u (both (t == u) (not tail) e).0)
lendable_type tail u (Lent t cs root from) e = ap Some (equal t u (both (t == u) (not (tail && is_some root)) e).0)
lendable_type tail u (Credit n) e = absurd (true≢false (sym e))

lent_by : (b l x : Bool) → (b || (not l || x)) ≡ true → (b || not l) ≡ false → x ≡ true
lent_by true l x e n = absurd (true≢false n)
lent_by false true x e n = e
lent_by false false x e n = absurd (true≢false n)

all_lent_on : (tb : Table) (s : Store) (ws : ℕ → ℕ) (cs : Contents) (tail : Bool) (ks : List Kind) (ps : List Param) (rs : List ℕ) → lend_all tb tail ks ps rs ≡ true → AreShown tb s (at ks) ws cs → EachWord false tb s ws cs ps rs
all_lent_on tb s ws cs tail ks [] rs e m = tt
all_lent_on tb s ws cs tail ks (p ∷ ps) [] e m = tt
all_lent_on tb s ws cs tail ks (p ∷ ps) (a ∷ rs) e m =
    let q = both (lends tb tail ks p a) (lend_all tb tail ks ps rs) e in (
      λ n. subst (λ o. Shows tb s o (ws a) (cs a)) (lendable_type tail p.ty (at ks a) (lent_by (is_scalar_type tb p.ty) p.lent (is_lendable tail p.ty (at ks a)) q.0 n)) (m.each a),
      all_lent_on tb s ws cs tail ks ps rs q.1 m,
    )

-- ---- the frame that is entered

-- each of these kinds shows what a register holds
abbrev pub EachShows : Table → Store → (ℕ → ℕ) → Contents → List Kind → List ℕ → Type 0
EachShows tb s ws cs [] [] = Unit {0}
EachShows tb s ws cs [] (a ∷ rs) = ⊥
EachShows tb s ws cs (k ∷ ks) [] = ⊥
EachShows tb s ws cs (k ∷ ks) (a ∷ rs) = Shows tb s (type_in k) (ws a) (cs a) × EachShows tb s ws cs ks rs

pub param_type : (tb : Table) (p : Param) → type_in (param_kind tb p) ≡ Some p.ty
param_type tb p = pick (λ k. type_in k ≡ Some p.ty) (is_scalar_type tb p.ty) (Scalar p.ty) (if p.lent then Lent p.ty (all tb p.ty) None None else Owned p.ty (all tb p.ty)) (λ e. refl)
    (λ e. pick (λ k. type_in k ≡ Some p.ty) p.lent (Lent p.ty (all tb p.ty) None None) (Owned p.ty (all tb p.ty)) (λ l. refl) (λ l. refl))

each_credit : (tb : Table) (s : Store) (ws : ℕ → ℕ) (cs : Contents) (sizes rs : List ℕ) → length rs ≡ length sizes → EachShows tb s ws cs (map Credit sizes) rs
each_credit tb s ws cs [] [] n = tt
each_credit tb s ws cs [] (a ∷ rs) n = absurd (omega arith)
each_credit tb s ws cs (k ∷ sizes) [] n = absurd (omega arith)
each_credit tb s ws cs (k ∷ sizes) (a ∷ rs) n = (tt, each_credit tb s ws cs sizes rs (omega arith))

each_argument : (tb : Table) (s : Store) (ws : ℕ → ℕ) (cs : Contents) (ps : List Param) (sizes rs : List ℕ) → length rs ≡ length ps + length sizes → EachWord true tb s ws cs ps rs → EachWord false tb s ws cs ps rs → EachShows tb s ws cs (map (param_kind tb) ps ++ map Credit sizes) rs
each_argument tb s ws cs [] sizes rs n o l = each_credit tb s ws cs sizes rs (omega arith)
each_argument tb s ws cs (p ∷ ps) sizes [] n o l = absurd (omega arith)
each_argument tb s ws cs (p ∷ ps) sizes (a ∷ rs) n o l = (
  subst (λ t. Shows tb s t (ws a) (cs a)) (sym (param_type tb p)) (elim (or_not (is_passed tb p)) as (λ v. IsWordOf tb s p.ty (ws a) (cs a)) [ inl y ↦ o.0 y | inr z ↦ l.0 z ]),
  each_argument tb s ws cs ps sizes rs (omega arith) o.1 l.1,
)

entered_shows : (tb : Table) (s : Store) (ws : ℕ → ℕ) (cs : Contents) (ks : List Kind) (rs zs : List ℕ) (m r : ℕ) → EachShows tb s ws cs ks rs → Shows tb s (type_in (at (ks ++ gones m) r)) (word_at (map ws rs ++ zs) r) (T.first_contents (T.read_all cs rs) r)
entered_shows tb s ws cs [] [] zs m r e = rw (at_gones m r) tt
entered_shows tb s ws cs [] (a ∷ rs) zs m r e = absurd e
entered_shows tb s ws cs (k ∷ ks) [] zs m r e = absurd e
entered_shows tb s ws cs (k ∷ ks) (a ∷ rs) zs m zero e = e.0
entered_shows tb s ws cs (k ∷ ks) (a ∷ rs) zs m (suc r) e = entered_shows tb s ws cs ks rs zs m r e.1

pub entered_shown : (tb : Table) (s : Store) (ws : ℕ → ℕ) (cs : Contents) (ks : List Kind) (rs zs : List ℕ) (m : ℕ) → EachShows tb s ws cs ks rs → AreShown tb s (at (ks ++ gones m)) (word_at (map ws rs ++ zs)) (T.first_contents (T.read_all cs rs))
entered_shown tb s ws cs ks rs zs m e = record { each = λ r. entered_shows tb s ws cs ks rs zs m r e }

-- the registers that are left, and those of the frame that is entered
pub record AreHandedOn (c : PlainCode) (s : Store) (ws : ℕ → ℕ) (cs : Contents) (g : PlainFunction) (rs : List ℕ) (left : List Kind) : Type 0 where
  pub shown : AreShown c.types s (at left) ws cs
  pub each : EachShows c.types s ws cs (map (param_kind c.types) g.params ++ map Credit g.credits) rs

pub handed_on : (c : PlainCode) (tail : Bool) (s : Store) (ks : List Kind) (ws : ℕ → ℕ) (cs : Contents) (n : ℕ) (g : PlainFunction) (rs : List ℕ) (left : List Kind) → function_at c n ≡ Some g → arguments c tail ks n rs ≡ Some left → AreShown c.types s (at ks) ws cs → AreHandedOn c s ws cs g rs left
handed_on c tail s ks ws cs n g rs left is e m =
    let a = arguments_are c tail ks n g rs left is e in
    let p = all_passed_on c.types s ws cs ks a.middle g.params rs a.passed m in
    let h = all_handed_on c.types s ws cs a.middle left g.credits (drop (length g.params) rs) a.handed p.shown in
    record {
      shown = h;
      each = each_argument c.types s ws cs g.params g.credits rs a.number p.words (all_lent_on c.types s ws cs tail left g.params rs a.lent h);
    }
