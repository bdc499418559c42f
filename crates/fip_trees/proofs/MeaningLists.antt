-- Lists of names with their meanings, seen from a map's entries.
use Rattle.std.proofs.Common.{◌≡◌, Bool, true, false, ◌||◌, List, [], ◌∷◌, ◌++◌, map, Option, Some, None, is_some, refl, sym, ap, ◌∙◌, if◌then◌else◌}
use Rattle.std.specs.Map.{lookup}
use Rattle.fip_base.specs.fip_language.Core.{Name}
use Rattle.fip_base.specs.fip_language.Declarations.{same_name}
use Rattle.fip_trees.specs.Names.{meaning, names, is_among, with_meaning}
pub use Rattle.fip_base.proofs.fip_language.Facts.{none_seen}

abbrev pub seen_by : {K A : Type 0} → (K → Name) → List (K × A) → List (Name × A)
seen_by f es = map (λ e. (f e.0, e.1)) es

pub meaning_seen : {K A : Type 0} (f : K → Name) (n : Name) (es : List (K × A)) → lookup (λ k. same_name n (f k)) es ≡ meaning n (seen_by f es)
meaning_seen f n [] = refl
meaning_seen f n (e ∷ es) = ap (λ o. if same_name n (f e.0) then Some e.1 else o) (meaning_seen f n es)

some_either : {A : Type 0} (b : Bool) (a : A) (o : Option A) → is_some (if b then Some a else o) ≡ (b || is_some o)
some_either true a o = refl
some_either false a o = refl

pub among_seen : {K A : Type 0} (f : K → Name) (n : Name) (es : List (K × A)) → is_some (lookup (λ k. same_name n (f k)) es) ≡ is_among n (names (seen_by f es))
among_seen f n [] = refl
among_seen f n (e ∷ es) = some_either (same_name n (f e.0)) e.1 (lookup (λ k. same_name n (f k)) es) ∙ ap (λ b. same_name n (f e.0) || b) (among_seen f n es)

seen_append : {K A : Type 0} (f : K → Name) (es : List (K × A)) (k : K) (a : A) → seen_by f (es ++ (k, a) ∷ []) ≡ seen_by f es ++ (f k, a) ∷ []
seen_append f [] k a = refl
seen_append f (e ∷ es) k a = ap (λ l. (f e.0, e.1) ∷ l) (seen_append f es k a)

pub added_new : {K A : Type 0} (f : K → Name) (es fs : List (K × A)) (k : K) (a : A) → fs ≡ es ++ (k, a) ∷ [] → is_among (f k) (names (seen_by f es)) ≡ false → seen_by f fs ≡ with_meaning (seen_by f es) (f k) a
added_new f es fs k a e h = ap (seen_by f) e ∙ seen_append f es k a ∙ sym (ap (λ b. if b then seen_by f es else seen_by f es ++ (f k, a) ∷ []) h)

pub added_old : {A : Type 0} (es : List (Name × A)) (n : Name) (a : A) → is_among n (names es) ≡ true → es ≡ with_meaning es n a
added_old es n a h = sym (ap (λ b. if b then es else es ++ (n, a) ∷ []) h)
