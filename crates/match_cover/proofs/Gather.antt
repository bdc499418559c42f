-- What is noted, composed.
use Rattle.std.proofs.Common.{◌≡◌, ◌⊎◌, inl, inr, ℕ, ◌≤◌, List, [], ◌∷◌, ◌++◌, Option, Some, None, false, refl, sym, ap, ◌∙◌, subst, arith}
use Rattle.fip_language.specs.Table.{Table}
use Rattle.fip_trees.specs.declared.least.Violation.{Violation}
use Rattle.fip_trees.specs.Least.{better, after, In, comes_before}
use Rattle.fip_trees.proofs.Leasts.{after-append, in_left, in_right, in_either, none_of, least_of}
use Rattle.match_knowledge.specs.Patterns.{Pattern, AreRows, IsPattern, row_nodes}
use Rattle.match_knowledge.specs.Left.{IsMatch}
use Rattle.match_cover.specs.Gathered.{Gathers}

pub gathers_none : (o : Option Violation) (P : Violation → Type 0) (G : Type 0) → ((v : Violation) → P v → ⊥) → G → Gathers o o P G
gathers_none o P G f g = record { list = []; noted = refl; sound = λ v h. absurd h; complete = λ v h. absurd (f v h); good = λ e. g }

pub no_one : (w : Violation) (ws : List Violation) → (w ∷ ws) ≡ [] → ⊥
no_one w ws e = cc

pub gathers_one : (o p : Option Violation) (w : Violation) (P : Violation → Type 0) (G : Type 0) → p ≡ better o w → P w → ((v : Violation) → P v → v ≡ w) → Gathers o p P G
gathers_one o p w P G e h f = record {
  list = w ∷ [];
  noted = e;
  sound = λ v i. alone v i;
  complete = λ v i. inl (f v i);
  good = λ z. absurd (no_one w [] z);
} where
  alone : (v : Violation) → ((v ≡ w) ⊎ ⊥) → P v
  alone v (inl x) = subst P (sym x) h
  alone v (inr x) = absurd x

pub both_empty : (xs ys : List Violation) → (xs ++ ys) ≡ [] → (xs ≡ []) × (ys ≡ [])
both_empty [] ys e = (refl, e)
both_empty (x ∷ xs) ys e = absurd (no_one x (xs ++ ys) e)

pub gathers_more : (o p q : Option Violation) (P Q : Violation → Type 0) (G H : Type 0) → Gathers o p P G → Gathers p q Q H → Gathers o q (λ v. P v ⊎ Q v) (G × H)
gathers_more o p q P Q G H g h = record {
  list = g.list ++ h.list;
  noted = h.noted ∙ ap (λ z. after z h.list) g.noted ∙ sym (after-append o g.list h.list);
  sound = λ v i. one v (in_either v g.list h.list i);
  complete = λ v r. two v r;
  good = λ e. let b = both_empty g.list h.list e in (g.good b.0, h.good b.1);
} where
  one : (v : Violation) → (In v g.list ⊎ In v h.list) → P v ⊎ Q v
  one v (inl i) = inl (g.sound v i)
  one v (inr i) = inr (h.sound v i)

  two : (v : Violation) → (P v ⊎ Q v) → In v (g.list ++ h.list)
  two v (inl x) = in_left v g.list h.list (g.complete v x)
  two v (inr x) = in_right v g.list h.list (h.complete v x)

-- ---- rows before others

front_typed : (tb : Table) (t : ℕ) (xs ys : List Pattern) → AreRows tb t (xs ++ ys) → AreRows tb t xs
front_typed tb t [] ys h = tt
front_typed tb t (x ∷ xs) ys h = (h.0, front_typed tb t xs ys h.1)

last_typed : (tb : Table) (t : ℕ) (xs : List Pattern) (y : Pattern) → AreRows tb t (xs ++ y ∷ []) → IsPattern tb t y
last_typed tb t [] y h = h.0
last_typed tb t (x ∷ xs) y h = last_typed tb t xs y h.1

front_nodes : (xs ys : List Pattern) → row_nodes xs ≤ row_nodes (xs ++ ys)
front_nodes [] ys = omega arith
front_nodes (x ∷ xs) ys = let h = front_nodes xs ys in omega arith

pub match_front : (tb : Table) (t : ℕ) (xs ys : List Pattern) → IsMatch tb t (xs ++ ys) → IsMatch tb t xs
match_front tb t xs ys m = record {
  tidy = m.tidy;
  inhabited = m.inhabited;
  typed = front_typed tb t xs ys m.typed;
  few = let f = m.few in let l = front_nodes xs ys in omega arith;
}

pub match_last : (tb : Table) (t : ℕ) (xs : List Pattern) (y : Pattern) → IsMatch tb t (xs ++ y ∷ []) → IsPattern tb t y
match_last tb t xs y m = last_typed tb t xs y m.typed

-- ---- the end

pub none_gathered : (o p : Option Violation) (P : Violation → Type 0) (G : Type 0) → Gathers o p P G → o ≡ None → p ≡ None → G × ((v : Violation) → P v → ⊥)
none_gathered o p P G g a b =
    let e : after None g.list ≡ None = sym (ap (λ z. after z g.list) a) ∙ sym g.noted ∙ b in
    let n = none_of g.list e in
    (g.good n, λ v h. subst (In v) n (g.complete v h))

pub least_gathered : (o p : Option Violation) (v : Violation) (P : Violation → Type 0) (G : Type 0) → Gathers o p P G → o ≡ None → p ≡ Some v → P v × ((w : Violation) → P w → comes_before w v ≡ false)
least_gathered o p v P G g a b =
    let e : after None g.list ≡ Some v = sym (ap (λ z. after z g.list) a) ∙ sym g.noted ∙ b in
    let l = least_of g.list v e in
    (g.sound v l.violated, λ w h. l.least w (g.complete w h))
