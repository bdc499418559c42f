-- Arguments that are handed over, alone and among others.
use Rattle.std.proofs.Common.{◌≡◌, inl, inr, ℕ, zero, suc, ◌+◌, Bool, true, false, ◌&&◌, ◌||◌, not, List, [], ◌∷◌, ◌++◌, length, map, drop, Some, None, refl, sym, ◌∙◌, subst, true≢false, arith, ◌==◌, if◌then◌else◌}
use Rattle.std.specs.Prelude.{is_some}
use Rattle.std.proofs.lemmas.Option.{none-some, same_Some, option_and_then_some}
use Rattle.run_loading.specs.fip_language.Table.{Table}
use Rattle.run_loading.specs.fip_base.declared.plain.Param.{Param}
use Rattle.run_loading.specs.cell_code.declared.kind.Kind.{Kind}
use Rattle.run_loading.specs.cell_code.declared.kind.Kind.TheVariants.{Gone, Scalar, Owned, Lent, Credit}
use Rattle.run_loading.specs.machine_semantics.Cells.{Store}
use Rattle.run_loading.specs.cell_code.Plain.{PlainFunction, PlainCode, function_at}
use Rattle.run_loading.specs.code_rules.Types.{is_scalar_type, all}
use Rattle.run_loading.specs.code_rules.Kinds.{at, is_scalar_of, is_owned_of, is_credit_of}
use Rattle.run_loading.specs.code_rules.Entry.{param_kind, gones}
use Rattle.run_loading.specs.code_rules.Changes.{written, used_up}
use Rattle.run_loading.specs.code_rules.Handing.{pass, pass_all, hand, hand_all, is_lendable, lends, lend_all, arguments}
use Rattle.run_loading.specs.separation_kinds.Meanings.{word_at}
use Rattle.run_loading.proofs.separation_kinds.Basics.{pick, both, or_not, equal, chosen, refused}
use Rattle.run_loading.proofs.separation_kinds.Giving.{scalar_of, owned_of, credit_of}
use Rattle.run_loading.proofs.separation_kinds.Passing.{credit_within, at_gones, kind_lent}
use Rattle.run_loading.proofs.separation.Calling.{arguments_are}
use Rattle.task_semantics.specs.Projected.{Renaming, IsRenamedTree, IsRenamedWord}
use Rattle.task_semantics.proofs.AlikeWords.{AreAlike, used_up_alike, gone_alike}

-- a parameter that is checked before the borrowed ones
abbrev is_passed : Table → Param → Bool
is_passed tb p = is_scalar_type tb p.ty || not p.lent

-- the arguments of those parameters are alike
abbrev EachPassed : Bool → Table → Renaming → Store → Store → (ℕ → ℕ) → (ℕ → ℕ) → List Param → List ℕ → Type 0
EachPassed b tb f own shared ws vs [] rs = Unit {0}
EachPassed b tb f own shared ws vs (p ∷ ps) [] = Unit {0}
EachPassed b tb f own shared ws vs (p ∷ ps) (a ∷ rs) = (is_passed tb p ≡ b → IsRenamedWord tb f own shared (param_kind tb p) (ws a) (vs a)) × EachPassed b tb f own shared ws vs ps rs

-- ---- those that are passed

record IsPassedAlike (tb : Table) (f : Renaming) (own shared : Store) (ws vs : ℕ → ℕ) (left : List Kind) (b : Bool) (k : Kind) (a : ℕ) : Type 0 where
  alike : AreAlike tb f own shared (at left) ws vs
  word : b ≡ true → IsRenamedWord tb f own shared k (ws a) (vs a)

passed_by : (tb : Table) (f : Renaming) (own shared : Store) (ws vs : ℕ → ℕ) (ks left : List Kind) (k : Kind) (a : ℕ) (b l x y : Bool) → (b ≡ true → x ≡ true → IsRenamedWord tb f own shared k (ws a) (vs a)) → (b ≡ false → l ≡ false → y ≡ true → IsRenamedWord tb f own shared k (ws a) (vs a)) → (if b then (if x then Some ks else None) else (if l then Some ks else (if y then Some (used_up ks a) else None))) ≡ Some left → AreAlike tb f own shared (at ks) ws vs → IsPassedAlike tb f own shared ws vs left (b || not l) k a
passed_by tb f own shared ws vs ks left k a true l true y h i e m = subst (λ left. IsPassedAlike tb f own shared ws vs left true k a) (same_Some ks left e) (record { alike = m; word = λ z. h refl refl })
passed_by tb f own shared ws vs ks left k a true l false y h i e m = absurd (none-some left e)
passed_by tb f own shared ws vs ks left k a false true x y h i e m = subst (λ left. IsPassedAlike tb f own shared ws vs left false k a) (same_Some ks left e) (record { alike = m; word = λ z. absurd (true≢false (sym z)) })
passed_by tb f own shared ws vs ks left k a false false x true h i e m = subst (λ left. IsPassedAlike tb f own shared ws vs left true k a) (same_Some (used_up ks a) left e) (record { alike = used_up_alike tb f own shared ks a ws vs m; word = λ z. i refl refl refl })
passed_by tb f own shared ws vs ks left k a false false x false h i e m = absurd (none-some left e)

kind_scalar : (tb : Table) (p : Param) → is_scalar_type tb p.ty ≡ true → param_kind tb p ≡ Scalar p.ty
kind_scalar tb p e = chosen (is_scalar_type tb p.ty) (Scalar p.ty) (if p.lent then Lent p.ty (all tb p.ty) None None else Owned p.ty (all tb p.ty)) e

kind_owned : (tb : Table) (p : Param) → is_scalar_type tb p.ty ≡ false → p.lent ≡ false → param_kind tb p ≡ Owned p.ty (all tb p.ty)
kind_owned tb p e l = refused (is_scalar_type tb p.ty) (Scalar p.ty) (if p.lent then Lent p.ty (all tb p.ty) None None else Owned p.ty (all tb p.ty)) e ∙ refused p.lent (Lent p.ty (all tb p.ty) None None) (Owned p.ty (all tb p.ty)) l

passed_one : (tb : Table) (f : Renaming) (own shared : Store) (ws vs : ℕ → ℕ) (ks left : List Kind) (p : Param) (a : ℕ) → pass tb ks p a ≡ Some left → AreAlike tb f own shared (at ks) ws vs → IsPassedAlike tb f own shared ws vs left (is_passed tb p) (param_kind tb p) a
passed_one tb f own shared ws vs ks left p a e m = passed_by tb f own shared ws vs ks left (param_kind tb p) a (is_scalar_type tb p.ty) p.lent (is_scalar_of p.ty (at ks a)) (is_owned_of p.ty (at ks a))
    (λ b h. subst (λ k. IsRenamedWord tb f own shared k (ws a) (vs a)) (scalar_of p.ty (at ks a) h ∙ sym (kind_scalar tb p b)) (m.each a))
    (λ b l h.
    let o = owned_of p.ty (at ks a) h in
    let tree : IsRenamedTree tb f own shared p.ty (ws a) (vs a) = subst (λ k. IsRenamedWord tb f own shared k (ws a) (vs a)) o.1 (m.each a) in
    subst (λ k. IsRenamedWord tb f own shared k (ws a) (vs a)) (sym (kind_owned tb p b l)) tree)
    e m

record ArePassedAlike (tb : Table) (f : Renaming) (own shared : Store) (ws vs : ℕ → ℕ) (left : List Kind) (ps : List Param) (rs : List ℕ) : Type 0 where
  alike : AreAlike tb f own shared (at left) ws vs
  words : EachPassed true tb f own shared ws vs ps rs

all_passed : (tb : Table) (f : Renaming) (own shared : Store) (ws vs : ℕ → ℕ) (ks left : List Kind) (ps : List Param) (rs : List ℕ) → pass_all tb ks ps rs ≡ Some left → AreAlike tb f own shared (at ks) ws vs → ArePassedAlike tb f own shared ws vs left ps rs
all_passed tb f own shared ws vs ks left [] rs e m = subst (λ left. ArePassedAlike tb f own shared ws vs left [] rs) (same_Some ks left e) (record { alike = m; words = tt })
all_passed tb f own shared ws vs ks left (p ∷ ps) [] e m = absurd (none-some left e)
all_passed tb f own shared ws vs ks left (p ∷ ps) (a ∷ rs) e m = option_and_then_some (λ next. pass_all tb next ps rs) (pass tb ks p a) left e (λ next is rest.
    let one = passed_one tb f own shared ws vs ks next p a is m in
    let more = all_passed tb f own shared ws vs next left ps rs rest one.alike in
    record { alike = more.alike; words = (one.word, more.words) })

-- ---- credits

-- each of these kinds says of a register's words what it should
abbrev pub EachAlike : Table → Renaming → Store → Store → (ℕ → ℕ) → (ℕ → ℕ) → List Kind → List ℕ → Type 0
EachAlike tb f own shared ws vs [] [] = Unit {0}
EachAlike tb f own shared ws vs [] (a ∷ rs) = ⊥
EachAlike tb f own shared ws vs (k ∷ ks) [] = ⊥
EachAlike tb f own shared ws vs (k ∷ ks) (a ∷ rs) = IsRenamedWord tb f own shared k (ws a) (vs a) × EachAlike tb f own shared ws vs ks rs

record IsHandedAlike (tb : Table) (f : Renaming) (own shared : Store) (ws vs : ℕ → ℕ) (left : List Kind) (size a : ℕ) : Type 0 where
  alike : AreAlike tb f own shared (at left) ws vs
  word : IsRenamedWord tb f own shared (Credit size) (ws a) (vs a)

handed_one : (tb : Table) (f : Renaming) (own shared : Store) (ws vs : ℕ → ℕ) (ks left : List Kind) (size a : ℕ) → hand ks size a ≡ Some left → AreAlike tb f own shared (at ks) ws vs → IsHandedAlike tb f own shared ws vs left size a
handed_one tb f own shared ws vs ks left size a e m = pick (λ o. o ≡ Some left → IsHandedAlike tb f own shared ws vs left size a) (is_credit_of size (at ks a)) (Some (written ks a Gone)) None
    (λ b is.
    let credit = credit_of size (at ks a) b in
    subst (λ left. IsHandedAlike tb f own shared ws vs left size a) (same_Some (written ks a Gone) left is) (record {
      alike = gone_alike tb f own shared ks ws vs a (credit_within ks a size credit) m;
      word = subst (λ k. IsRenamedWord tb f own shared k (ws a) (vs a)) credit (m.each a);
    }))
    (λ b is. absurd (none-some left is))
    e

record AreHandedAlike (tb : Table) (f : Renaming) (own shared : Store) (ws vs : ℕ → ℕ) (left : List Kind) (sizes rs : List ℕ) : Type 0 where
  alike : AreAlike tb f own shared (at left) ws vs
  words : EachAlike tb f own shared ws vs (map Credit sizes) rs

all_handed : (tb : Table) (f : Renaming) (own shared : Store) (ws vs : ℕ → ℕ) (ks left : List Kind) (sizes rs : List ℕ) → length rs ≡ length sizes → hand_all ks sizes rs ≡ Some left → AreAlike tb f own shared (at ks) ws vs → AreHandedAlike tb f own shared ws vs left sizes rs
all_handed tb f own shared ws vs ks left [] [] n e m = subst (λ left. AreHandedAlike tb f own shared ws vs left [] []) (same_Some ks left e) (record { alike = m; words = tt })
all_handed tb f own shared ws vs ks left [] (a ∷ rs) n e m = absurd (let z : ⊥ = omega arith in z)
all_handed tb f own shared ws vs ks left (size ∷ sizes) [] n e m = absurd (none-some left e)
all_handed tb f own shared ws vs ks left (size ∷ sizes) (a ∷ rs) n e m = option_and_then_some (λ next. hand_all next sizes rs) (hand ks size a) left e (λ next is rest.
    let one = handed_one tb f own shared ws vs ks next size a is m in
    let more = all_handed tb f own shared ws vs next left sizes rs (omega arith) rest one.alike in
    record { alike = more.alike; words = (one.word, more.words) })

-- ---- those that are borrowed

lendable_tree : (tb : Table) (f : Renaming) (own shared : Store) (tail : Bool) (u : ℕ) (k : Kind) (w v : ℕ) → is_lendable tail u k ≡ true → IsRenamedWord tb f own shared k w v → IsRenamedTree tb f own shared u w v
lendable_tree tb f own shared tail u Gone w v e i = absurd (true≢false (sym e))
lendable_tree tb f own shared tail u (Scalar t) w v e i = absurd (true≢false (sym e))
lendable_tree tb f own shared tail u (Owned t cs) w v e i = subst (λ t. IsRenamedTree tb f own shared t w v) (equal t u (both (t == u) (not tail) e).0) i
lendable_tree tb f own shared tail u (Lent t cs root from) w v e i = subst (λ t. IsRenamedTree tb f own shared t w v) (equal t u (both (t == u) (not (tail && is_some root)) e).0) i
lendable_tree tb f own shared tail u (Credit n) w v e i = absurd (true≢false (sym e))

record IsLentParam (b l x : Bool) : Type 0 where
  tree : b ≡ false
  lent : l ≡ true
  lendable : x ≡ true

lent_by : (b l x : Bool) → (b || (not l || x)) ≡ true → (b || not l) ≡ false → IsLentParam b l x
lent_by true l x e n = absurd (true≢false n)
lent_by false true x e n = record { tree = refl; lent = refl; lendable = e }
lent_by false false x e n = absurd (true≢false n)

all_lent : (tb : Table) (f : Renaming) (own shared : Store) (ws vs : ℕ → ℕ) (tail : Bool) (ks : List Kind) (ps : List Param) (rs : List ℕ) → lend_all tb tail ks ps rs ≡ true → AreAlike tb f own shared (at ks) ws vs → EachPassed false tb f own shared ws vs ps rs
all_lent tb f own shared ws vs tail ks [] rs e m = tt
all_lent tb f own shared ws vs tail ks (p ∷ ps) [] e m = tt
all_lent tb f own shared ws vs tail ks (p ∷ ps) (a ∷ rs) e m =
    let q = both (lends tb tail ks p a) (lend_all tb tail ks ps rs) e in (
      λ n.
          let l = lent_by (is_scalar_type tb p.ty) p.lent (is_lendable tail p.ty (at ks a)) q.0 n in
          let tree : IsRenamedTree tb f own shared p.ty (ws a) (vs a) = lendable_tree tb f own shared tail p.ty (at ks a) (ws a) (vs a) l.lendable (m.each a) in
          subst (λ k. IsRenamedWord tb f own shared k (ws a) (vs a)) (sym (kind_lent tb p l.tree l.lent)) tree,
      all_lent tb f own shared ws vs tail ks ps rs q.1 m,
    )

-- ---- the frame that is entered

each_argument : (tb : Table) (f : Renaming) (own shared : Store) (ws vs : ℕ → ℕ) (ps : List Param) (sizes rs : List ℕ) → length rs ≡ length ps + length sizes → EachPassed true tb f own shared ws vs ps rs → EachPassed false tb f own shared ws vs ps rs → EachAlike tb f own shared ws vs (map Credit sizes) (drop (length ps) rs) → EachAlike tb f own shared ws vs (map (param_kind tb) ps ++ map Credit sizes) rs
each_argument tb f own shared ws vs [] sizes rs n o l k = k
each_argument tb f own shared ws vs (p ∷ ps) sizes [] n o l k = absurd (let z : ⊥ = omega arith in z)
each_argument tb f own shared ws vs (p ∷ ps) sizes (a ∷ rs) n o l k = (
  elim (or_not (is_passed tb p)) as (λ v. IsRenamedWord tb f own shared (param_kind tb p) (ws a) (vs a)) [ inl y ↦ o.0 y | inr z ↦ l.0 z ],
  each_argument tb f own shared ws vs ps sizes rs (omega arith) o.1 l.1 k,
)

entered_one : (tb : Table) (f : Renaming) (own shared : Store) (ws vs : ℕ → ℕ) (ks : List Kind) (rs zs : List ℕ) (m r : ℕ) → EachAlike tb f own shared ws vs ks rs → IsRenamedWord tb f own shared (at (ks ++ gones m) r) (word_at (map ws rs ++ zs) r) (word_at (map vs rs ++ zs) r)
entered_one tb f own shared ws vs [] [] zs m r e = subst (λ k. IsRenamedWord tb f own shared k (word_at zs r) (word_at zs r)) (sym (at_gones m r)) (inl refl)
entered_one tb f own shared ws vs [] (a ∷ rs) zs m r e = absurd e
entered_one tb f own shared ws vs (k ∷ ks) [] zs m r e = absurd e
entered_one tb f own shared ws vs (k ∷ ks) (a ∷ rs) zs m zero e = e.0
entered_one tb f own shared ws vs (k ∷ ks) (a ∷ rs) zs m (suc r) e = entered_one tb f own shared ws vs ks rs zs m r e.1

pub entered_alike : (tb : Table) (f : Renaming) (own shared : Store) (ws vs : ℕ → ℕ) (ks : List Kind) (rs zs : List ℕ) (m : ℕ) → EachAlike tb f own shared ws vs ks rs → AreAlike tb f own shared (at (ks ++ gones m)) (word_at (map ws rs ++ zs)) (word_at (map vs rs ++ zs))
entered_alike tb f own shared ws vs ks rs zs m e = record { each = λ r. entered_one tb f own shared ws vs ks rs zs m r e }

drop_length : (xs : List ℕ) (n m : ℕ) → length xs ≡ n + m → length (drop n xs) ≡ m
drop_length xs zero m e = let z : length xs ≡ m = omega arith in z
drop_length [] (suc n) m e = absurd (let z : ⊥ = omega arith in z)
drop_length (x ∷ xs) (suc n) m e = drop_length xs n m (omega arith)

-- the registers that are left, and those of the frame that is entered
pub record AreHandedOver (f : Renaming) (c : PlainCode) (own shared : Store) (ws vs : ℕ → ℕ) (g : PlainFunction) (rs : List ℕ) (left : List Kind) : Type 0 where
  pub alike : AreAlike c.types f own shared (at left) ws vs
  pub number : length rs ≡ length g.params + length g.credits
  pub each : EachAlike c.types f own shared ws vs (map (param_kind c.types) g.params ++ map Credit g.credits) rs

pub handed_over : (f : Renaming) (c : PlainCode) (tail : Bool) (own shared : Store) (ks : List Kind) (ws vs : ℕ → ℕ) (n : ℕ) (g : PlainFunction) (rs : List ℕ) (left : List Kind) → function_at c n ≡ Some g → arguments c tail ks n rs ≡ Some left → AreAlike c.types f own shared (at ks) ws vs → AreHandedOver f c own shared ws vs g rs left
handed_over f c tail own shared ks ws vs n g rs left is e m =
    let a = arguments_are c tail ks n g rs left is e in
    let p = all_passed c.types f own shared ws vs ks a.middle g.params rs a.passed m in
    let h = all_handed c.types f own shared ws vs a.middle left g.credits (drop (length g.params) rs) (drop_length rs (length g.params) (length g.credits) a.number) a.handed p.alike in
    record {
      alike = h.alike;
      number = a.number;
      each = each_argument c.types f own shared ws vs g.params g.credits rs a.number p.words (all_lent c.types f own shared ws vs tail left g.params rs a.lent h.alike) h.words;
    }
