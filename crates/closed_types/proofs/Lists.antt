-- Lists that are walked, one item after another.
use Rattle.std.proofs.Common.{◌≡◌, ℕ, zero, suc, ◌+◌, ◌<◌, List, [], ◌∷◌, ◌++◌, drop, map, refl, length, get_or, Option, sym, ap, ◌∙◌, add-one, drop-cons}
use Rattle.fip_base.specs.fip_language.Core.{Name}
use Rattle.fip_trees.specs.declared.least.Violation.{Violation}
use Rattle.fip_trees.specs.Least.{after}
use Rattle.fip_trees.specs.Names.{with_meaning, with_meanings}
use Rattle.fip_trees.proofs.Leasts.{after-append}
pub use Rattle.fip_base.proofs.fip_language.Facts.{drop_item}

-- one item of a walk that notes the violations of each item of a list
pub walk_step : {A : Type 0} (one : A → List Violation) (all : List A → List Violation) → ((x : A) (xs : List A) → all (x ∷ xs) ≡ one x ++ all xs) → (xs : List A) (i : ℕ) (x : A) (l m : Option Violation) → i < length xs → x ≡ get_or xs i x → m ≡ after l (one x) → after m (all (drop (i + 1) xs)) ≡ after l (all (drop i xs))
walk_step one all splits xs i x l m h e noted =
    ap (λ m. after m (all (drop (i + 1) xs))) noted
    ∙ sym (after-append l (one x) (all (drop (i + 1) xs)))
    ∙ ap (after l) (sym (splits x (drop (i + 1) xs)))
    ∙ ap (λ ys. after l (all ys)) (sym (drop_item xs i x h e))

-- one name with its meaning more
pub with_next : {A : Type 0} (es fs more : List (Name × A)) (x y : Name) (a b : A) → x ≡ y → a ≡ b → fs ≡ with_meaning es x a → with_meanings fs more ≡ with_meanings es ((y, b) ∷ more)
with_next es fs more x y a b e g h =
    ap (λ fs. with_meanings fs more) h
    ∙ ap (λ n. with_meanings (with_meaning es n a) more) e
    ∙ ap (λ z. with_meanings (with_meaning es y z) more) g

pub drop_map : {A B : Type 0} (f : A → B) (xs : List A) (k : ℕ) → drop k (map f xs) ≡ map f (drop k xs)
drop_map f [] zero = refl
drop_map f [] (suc k) = refl
drop_map f (x ∷ xs) zero = refl
drop_map f (x ∷ xs) (suc k) = drop_map f xs k

-- what stands for a list, from an item on
pub mapped_item : {A B : Type 0} (f : A → B) (xs : List A) (k : ℕ) (x : A) → k < length xs → x ≡ get_or xs k x → drop k (map f xs) ≡ f x ∷ drop (k + 1) (map f xs)
mapped_item f xs k x h e = drop_map f xs k ∙ ap (map f) (drop_item xs k x h e) ∙ ap (λ l. f x ∷ l) (sym (drop_map f xs (k + 1)))
