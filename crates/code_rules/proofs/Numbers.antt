-- A function has one stack number at most, and rows that list a code's calls have its groups.
use Rattle.std.proofs.Common.{◌≡◌, ◌↔◌, ℕ, zero, suc, Bool, List, Option, Some, None, refl, sym, ap, ap₂, ◌∙◌, le_antisymm}
use Rattle.cell_code.specs.fip_base.declared.plain.Stack.{Stack}
use Rattle.call_groups.specs.declared.search.Call.{Call}
use Rattle.call_groups.specs.CallGraph as G
use Rattle.call_groups.specs.Stacks.{LeastSolution}
use Rattle.cell_code.specs.Plain.{PlainCode}
use Rattle.code_rules.specs.Calls.{Path, SameGroup, AreRows}
use Rattle.code_rules.specs.StackNumbers.{IsStack, HasStack}

solution_once : (calls : ℕ → ℕ → Bool → Type 0) (base own a b : ℕ → ℕ) → LeastSolution calls base own a → LeastSolution calls base own b → (n : ℕ) → a n ≡ b n
solution_once calls base own a b p q n = le_antisymm (p.1 b q.0 n) (q.1 a p.0 n)

stack_once : (c : PlainCode) (n : ℕ) (s t : Stack) → IsStack c n s → IsStack c n t → s ≡ t
stack_once c n s t x y =
    let frames : x.frames n ≡ y.frames n = solution_once _ _ _ x.frames y.frames x.are_frames y.are_frames n in
    let words : x.words n ≡ y.words n = solution_once _ _ _ x.words y.words x.are_words y.are_words n in
    let made : (f w : ℕ) → Stack = λ f w. record { frames = f; words = w } in
    x.is ∙ ap₂ made frames words ∙ sym y.is

pub has_once : (c : PlainCode) (n : ℕ) (o p : Option Stack) → HasStack c n o → HasStack c n p → o ≡ p
has_once c n None None x y = refl
has_once c n None (Some t) x y = absurd (x y.0)
has_once c n (Some s) None x y = absurd (y x.0)
has_once c n (Some s) (Some t) x y = ap Some (stack_once c n s t x.1 y.1)

path_in_rows : (c : PlainCode) (rows : List (List Call)) → AreRows c rows → (n a b : ℕ) → Path c n a b → G.Path rows n a b
path_in_rows c rows h zero a b x = x
path_in_rows c rows h (suc n) a b x = (x.0, (x.1.0, (h a x.0 x.1.0).0 x.1.1), path_in_rows c rows h n x.0 b x.2)

path_of_rows : (c : PlainCode) (rows : List (List Call)) → AreRows c rows → (n a b : ℕ) → G.Path rows n a b → Path c n a b
path_of_rows c rows h zero a b x = x
path_of_rows c rows h (suc n) a b x = (x.0, (x.1.0, (h a x.0 x.1.0).1 x.1.1), path_of_rows c rows h n x.0 b x.2)

pub groups_in_rows : (c : PlainCode) (rows : List (List Call)) → AreRows c rows → (a b : ℕ) → SameGroup c a b ↔ G.SameGroup rows a b
groups_in_rows c rows h a b = (λ x. ((x.0.0, path_in_rows c rows h x.0.0 a b x.0.1), (x.1.0, path_in_rows c rows h x.1.0 b a x.1.1)), λ x. ((x.0.0, path_of_rows c rows h x.0.0 a b x.0.1), (x.1.0, path_of_rows c rows h x.1.0 b a x.1.1)))
