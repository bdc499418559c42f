-- Names and numbers.
use Rattle.std.proofs.Common.{◌≡◌, ℕ, suc, ◌+◌, ◌*◌, ◌≤◌, List, [], ◌∷◌, ◌++◌, Some, None, Bool, true, false, refl, ap, ap₂, arith}
use Rattle.std.specs.Prelude.{if◌then◌else◌, ◌&&◌}
use Rattle.std.proofs.lemmas.Bool.{and_parts}
use Rattle.fip_language.specs.Table.{Shape}
use Rattle.fip_language.specs.Character.{Character, Blank, Line, Open, Close, Comma, Minus, Digit, Letter, Other, characters}
use Rattle.fip_language.specs.ValueText.{number}
use Rattle.value_text.specs.Machine.{same_character, same_text, begins, lookup, any_begins, is_sign}

pub guarded : {A : Type 0} → (b : Bool) (x : A) → b ≡ true → (if b then Some x else None) ≡ Some x
guarded true x e = refl
guarded false x e = cc

same_text_begins : (a b : List Character) (name : List Character) → same_text (a ++ b) name ≡ true → begins a name ≡ true
same_text_begins [] b name e = refl
same_text_begins (c ∷ a) b [] e = e
same_text_begins (c ∷ a) b (d ∷ name) e =
    let h = and_parts (same_character c d) (same_text (a ++ b) name) e in
    ap₂ (λ x y. x && y) h.0 (same_text_begins a b name h.1)

any_step : (a : List Character) (b : List Character) (i : ℕ) (s : Shape) (ss : List Shape) (r : ℕ × List ℕ) → ((i : ℕ) → lookup i (a ++ b) ss ≡ Some r → any_begins a ss ≡ true) → (t : Bool) → same_text (a ++ b) (characters s.name) ≡ t → (if t then Some (i, s.fields) else lookup (suc i) (a ++ b) ss) ≡ Some r → any_begins a (s ∷ ss) ≡ true
any_step a b i s ss r rest true e h = ap (λ t. if t then true else any_begins a ss) (same_text_begins a b (characters s.name) e)
any_step a b i s ss r rest false e h = last (begins a (characters s.name)) (any_begins a ss) (rest (suc i) h) where
  last : (x y : Bool) → y ≡ true → (if x then true else y) ≡ true
  last true y e = refl
  last false y e = e

-- a name that is found begins as it begins
pub lookup_begins : (a b : List Character) (ss : List Shape) (r : ℕ × List ℕ) (i : ℕ) → lookup i (a ++ b) ss ≡ Some r → any_begins a ss ≡ true
lookup_begins a b [] r i e = cc
lookup_begins a b (s ∷ ss) r i e = any_step a b i s ss r (lookup_begins a b ss r) (same_text (a ++ b) (characters s.name)) refl e

pub number_grows : (n : ℕ) (cs : List Character) → n ≤ number n cs
number_grows n [] = omega arith
number_grows n (Digit d ∷ cs) = let h = number_grows (10 * n + d) cs in omega arith
number_grows n (Blank ∷ cs) = omega arith
number_grows n (Line ∷ cs) = omega arith
number_grows n (Open ∷ cs) = omega arith
number_grows n (Close ∷ cs) = omega arith
number_grows n (Comma ∷ cs) = omega arith
number_grows n (Minus ∷ cs) = omega arith
number_grows n (Letter b ∷ cs) = omega arith
number_grows n (Other ∷ cs) = omega arith

pub is_sign_same : (s c : Character) → is_sign s c ≡ true → c ≡ s
is_sign_same Line Line e = refl
is_sign_same Open Open e = refl
is_sign_same Close Close e = refl
is_sign_same Comma Comma e = refl
is_sign_same _ _ e = cc
