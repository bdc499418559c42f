-- The data types that fields name have numbers: names mean data types from 1 on.
use Rattle.std.proofs.Common.{◌≡◌, ◌<◌, ◌&&◌, ◌∙◌, ℕ, suc, Bool, true, false, List, [], ◌∷◌, ◌++◌, map, nat_lt, Option, Some, None, Vec, Global, if◌then◌else◌, refl, sym, ap, subst, arith}
use Rattle.std.proofs.lemmas.Bool.Decides.{nat_tests}
use Rattle.fip_language.specs.Core.{Name, Data, Core}
use Rattle.fip_language.specs.Declarations.{same_name, data_types}
use Rattle.fip_language.specs.Every.{Every}
use Rattle.fip_trees.specs.Names.{meaning, is_among, names, with_meaning, with_meanings}
use Rattle.fip_trees.specs.declared.decls.FieldType.TheOpen as F
use Rattle.fip_trees.specs.declared.decls.FieldType.TheVariants as FV
use Rattle.fip_trees.specs.declared.decls.FieldType.TheFolds.{fold-roll-FieldType}
use Rattle.fip_trees.specs.declared.decls.FieldType.{FieldType}
use Rattle.fip_trees.specs.declared.decls.TypeHead.{TypeHead}
use Rattle.data_types.specs.Declarations.{type_meanings, declared_names}
use Rattle.data_types.specs.Numbered.{all_true, numbered_step, is_numbered, are_numbered, HasNumbers}
use Rattle.fip_language.proofs.Facts.{both_true}

pub int_numbered : is_numbered FV.Int ≡ true
int_numbered = ap is_numbered (sym FV.rolls-Int) ∙ fold-roll-FieldType Bool numbered_step F.Int

pub parameter_numbered : (k : ℕ) → is_numbered (FV.Parameter k) ≡ true
parameter_numbered k = ap is_numbered (sym (FV.rolls-Parameter k)) ∙ fold-roll-FieldType Bool numbered_step (F.Parameter k)

above_zero : (n : ℕ) → 0 < n → nat_lt 0 n ≡ true
above_zero n h = grind (arith, nat_tests)

pub applied_numbered : (n : ℕ) (ts : Vec FieldType Global) → 0 < n → are_numbered ts.items ≡ true → is_numbered (FV.Applied n ts) ≡ true
applied_numbered n ts h k = ap is_numbered (sym (FV.rolls-Applied n ts)) ∙ fold-roll-FieldType Bool numbered_step (F.Applied n ts) ∙ both_true (nat_lt 0 n) (are_numbered ts.items) (above_zero n h) k

-- one more of which it holds
pub all_true_one : {A : Type 0} (f : A → Bool) (xs : List A) (x : A) → all_true (map f xs) ≡ true → f x ≡ true → all_true (map f (xs ++ x ∷ [])) ≡ true
all_true_one f [] x h k = both_true (f x) true k refl
all_true_one f (y ∷ xs) x h k = by (f y) h (all_true_one f xs x)
  where
    by : (b : Bool) → (b && all_true (map f xs)) ≡ true → (all_true (map f xs) ≡ true → f x ≡ true → all_true (map f (xs ++ x ∷ [])) ≡ true) → (b && all_true (map f (xs ++ x ∷ []))) ≡ true
    by true g later = later g k
    by false g later = absurd (cc)

pub all_true_then : {A : Type 0} (f : A → Bool) (xs ys : List A) (x : A) → ys ≡ xs ++ x ∷ [] → all_true (map f xs) ≡ true → f x ≡ true → all_true (map f ys) ≡ true
all_true_then f xs ys x e h k = ap (λ l. all_true (map f l)) e ∙ all_true_one f xs x h k

-- ---- what names mean

abbrev Each : List (Name × TypeHead) → Type 0
Each es = Every (λ (e : Name × TypeHead). 0 < e.1.number) es

each_both : (es fs : List (Name × TypeHead)) → Each es → Each fs → Each (es ++ fs)
each_both [] fs h k = k
each_both (e ∷ es) fs h k = (h.0, each_both es fs h.1 k)

meant_by : (es : List (Name × TypeHead)) (n : Name) (a : TypeHead) → Each es → meaning n es ≡ Some a → 0 < a.number
meant_by [] n a h e = absurd (cc)
meant_by (x ∷ es) n a h e = by (same_name n x.0) e (meant_by es n a h.1)
  where
    by : (b : Bool) → (if b then Some x.1 else meaning n es) ≡ Some a → (meaning n es ≡ Some a → 0 < a.number) → 0 < a.number
    by true f later = let same : x.1 ≡ a = cc in subst (λ (a : TypeHead). 0 < a.number) same h.0
    by false f later = later f

each_one : (es : List (Name × TypeHead)) (n : Name) (a : TypeHead) → Each es → 0 < a.number → Each (with_meaning es n a)
each_one es n a h k = by (is_among n (names es))
  where
    by : (b : Bool) → Each (if b then es else es ++ (n, a) ∷ [])
    by true = h
    by false = each_both es ((n, a) ∷ []) h (k, tt)

each_with : (es fs : List (Name × TypeHead)) → Each es → Each fs → Each (with_meanings es fs)
each_with es [] h k = h
each_with es (f ∷ fs) h k = each_with (with_meaning es f.0 f.1) fs (each_one es f.0 f.1 h k.0) k.1

each_type : (n : ℕ) (ds : List Data) → Each (type_meanings (suc n) ds)
each_type n [] = tt
each_type n (d ∷ ds) = (omega arith, each_type (suc n) ds)

pub has_numbers : (core : Core) → HasNumbers (declared_names core)
has_numbers core n h e = meant_by (declared_names core).types n h (each_with [] (type_meanings 1 (data_types core)) tt (each_type 0 (data_types core))) e
