-- Expressions from left to right: a sum is its first operand, extended by operators one after another, although the
-- tree that groups to the left has the last operator at its root.
use Rattle.std.proofs.Common.{◌≡◌, ℕ, suc, ◌≤◌, List, ◌∷◌, None, ◌⊎◌, inl, inr, refl, sym, ap, subst, ◌∙◌, arith}
use Rattle.fip_language.specs.declared.Place.{Place}
use Rattle.fip_language.specs.declared.Operator.{Operator}
use Rattle.fip_language.specs.Surface.{Expression, Variable, Literal, Call, Constructor, Bracket, Tuple, Match, If, Binary, NoExpressions, MoreExpressions}
use Rattle.fip_grammar.specs.Token.{Operate, Token, token}
use Rattle.fip_grammar.specs.Grammar.{tightness, left_tightness, Spelled}
use Rattle.fip_grammar.specs.Machine.{none_waits}
use Rattle.fip_language.specs.declared.Operator.TheVariants as O
use Rattle.fip_grammar.proofs.Residual.{Compared, Grows, Chain}

-- what binds tightly may be where less is required
pub looser : (j k : ℕ) → j ≤ k → (e : Expression) (ts rest : List Token) → Spelled k ts e rest → Spelled j ts e rest
looser j k l (Variable n p) ts rest c = c
looser j k l (Literal v p) ts rest c = c
looser j k l (Call n p st es) ts rest c = c
looser j k l (Constructor n p es) ts rest c = c
looser j k l (Bracket b) ts rest c = c
looser j k l (Tuple p NoExpressions) ts rest c = c
looser j k l (Tuple p (MoreExpressions e NoExpressions)) ts rest c = c
looser j k l (Tuple p (MoreExpressions e (MoreExpressions x es))) ts rest c = c
looser j k l (Match d p e cs) ts rest c = c
looser j k l (If p e one other) ts rest c = c
looser j k l (Binary op p x y) ts rest c = let h = c.2 in (c.0, c.1, omega arith, c.3, c.4, c.5)

pub chain_none : (k : ℕ) (v : Expression) (ts : List Token) → Chain k v ts v ts
chain_none k (Variable n p) ts = (refl, refl)
chain_none k (Literal v p) ts = (refl, refl)
chain_none k (Call n p st es) ts = (refl, refl)
chain_none k (Constructor n p es) ts = (refl, refl)
chain_none k (Bracket b) ts = (refl, refl)
chain_none k (Tuple p es) ts = (refl, refl)
chain_none k (Match d p e cs) ts = (refl, refl)
chain_none k (If p e one other) ts = (refl, refl)
chain_none k (Binary op p x y) ts = inl (refl, refl)

-- the first operator of a chain, if there is one
abbrev First : ℕ → Expression → List Token → Expression → List Token → Type 0
First k v ts e rest = (op : Operator) × (p : Place) × (r : Expression) × (after : List Token) × (a : List Token) × (tightness op ≡ k) × (ts ≡ token (Operate op) p ∷ after) × Spelled (suc k) after r a × Chain k (Binary op p v r) a e rest

abbrev Peeled : ℕ → Expression → List Token → Expression → List Token → Type 0
Peeled k v ts e rest = ((e ≡ v) × (ts ≡ rest)) ⊎ First k v ts e rest

peel_on : (k : ℕ) (v : Expression) (ts : List Token) (op : Operator) (p : Place) (l r : Expression) (mid after rest : List Token) → tightness op ≡ k → mid ≡ token (Operate op) p ∷ after → Spelled (suc k) after r rest → Peeled k v ts l mid → Peeled k v ts (Binary op p l r) rest
peel_on k v ts op p l r mid after rest t e s (inl h) = inr (op, p, r, after, rest, t, h.1 ∙ e, s, inl (ap (λ x. Binary op p x r) h.0, refl))
peel_on k v ts op p l r mid after rest t e s (inr h) = inr (h.0, h.1, h.2, h.3, h.4, h.5, h.6, h.7, inr (mid, after, t, h.8, e, s))

pub peel : (k : ℕ) (v : Expression) (ts : List Token) (e : Expression) (rest : List Token) → Chain k v ts e rest → Peeled k v ts e rest
peel k v ts (Variable n p) rest c = inl c
peel k v ts (Literal i p) rest c = inl c
peel k v ts (Call n p st es) rest c = inl c
peel k v ts (Constructor n p es) rest c = inl c
peel k v ts (Bracket b) rest c = inl c
peel k v ts (Tuple p es) rest c = inl c
peel k v ts (Match d p e cs) rest c = inl c
peel k v ts (If p e one other) rest c = inl c
peel k v ts (Binary op p x y) rest (inl c) = inl c
peel k v ts (Binary op p x y) rest (inr c) = peel_on k v ts op p x y c.0 c.1 rest c.2 c.4 c.5 (peel k v ts x c.0 c.3)

-- a chain with an operator before it
pub unpeel : (k : ℕ) (v : Expression) (op : Operator) (p : Place) (r : Expression) (after a : List Token) (e : Expression) (rest : List Token) → tightness op ≡ k → Spelled (suc k) after r a → Chain k (Binary op p v r) a e rest → Chain k v (token (Operate op) p ∷ after) e rest
unpeel k v op p r after a (Variable n q) rest t s c = let h = c.0 in absurd (cc)
unpeel k v op p r after a (Literal i q) rest t s c = let h = c.0 in absurd (cc)
unpeel k v op p r after a (Call n q st es) rest t s c = let h = c.0 in absurd (cc)
unpeel k v op p r after a (Constructor n q es) rest t s c = let h = c.0 in absurd (cc)
unpeel k v op p r after a (Bracket b) rest t s c = let h = c.0 in absurd (cc)
unpeel k v op p r after a (Tuple q es) rest t s c = let h = c.0 in absurd (cc)
unpeel k v op p r after a (Match d q e cs) rest t s c = let h = c.0 in absurd (cc)
unpeel k v op p r after a (If q e one other) rest t s c = let h = c.0 in absurd (cc)
unpeel k v op p r after a (Binary oq q x y) rest t s (inl c) = subst (λ z. Chain k v (token (Operate op) p ∷ after) z rest) (sym c.0) (inr (token (Operate op) p ∷ after, after, t, chain_none k v (token (Operate op) p ∷ after), refl, subst (λ l. Spelled (suc k) after r l) c.1 s))
unpeel k v op p r after a (Binary oq q x y) rest t s (inr c) = inr (c.0, c.1, c.2, unpeel k v op p r after a x c.0 t s c.3, c.4, c.5)

left_of_product : (op : Operator) → tightness op ≡ 2 → left_tightness op ≡ 2
left_of_product O.Multiply e = refl
left_of_product O.Divide e = refl
left_of_product O.Remainder e = refl
left_of_product O.Add e = absurd (omega arith)
left_of_product O.Subtract e = absurd (omega arith)
left_of_product _ e = absurd (omega arith)

left_of_sum : (op : Operator) → tightness op ≡ 1 → left_tightness op ≡ 1
left_of_sum O.Add e = refl
left_of_sum O.Subtract e = refl
left_of_sum O.Multiply e = absurd (omega arith)
left_of_sum O.Divide e = absurd (omega arith)
left_of_sum O.Remainder e = absurd (omega arith)
left_of_sum _ e = absurd (omega arith)

left_of_comparison : (op : Operator) → tightness op ≡ 0 → left_tightness op ≡ 1
left_of_comparison O.Add e = absurd (omega arith)
left_of_comparison O.Subtract e = absurd (omega arith)
left_of_comparison O.Multiply e = absurd (omega arith)
left_of_comparison O.Divide e = absurd (omega arith)
left_of_comparison O.Remainder e = absurd (omega arith)
left_of_comparison _ e = refl

-- A product is a unit and products' operators.
abbrev Units : List Token → Expression → List Token → Type 0
Units ts e rest = (v : Expression) × (a : List Token) × Spelled 3 ts v a × Chain 2 v a e rest

alone : (e : Expression) (ts rest : List Token) → Spelled 3 ts e rest → Units ts e rest
alone e ts rest c = (e, rest, c, chain_none 2 e rest)

units_on : (op : Operator) (p : Place) (x y : Expression) (ts mid after rest : List Token) → tightness op ≡ 2 → mid ≡ token (Operate op) p ∷ after → Spelled 3 after y rest → Units ts x mid → Units ts (Binary op p x y) rest
units_on op p x y ts mid after rest t e s u = (u.0, u.1, u.2, inr (mid, after, t, u.3, e, s))

pub units : (e : Expression) (ts rest : List Token) → Spelled 2 ts e rest → Units ts e rest
units (Variable n p) ts rest c = alone (Variable n p) ts rest c
units (Literal v p) ts rest c = alone (Literal v p) ts rest c
units (Call n p st es) ts rest c = alone (Call n p st es) ts rest c
units (Constructor n p es) ts rest c = alone (Constructor n p es) ts rest c
units (Bracket b) ts rest c = alone (Bracket b) ts rest c
units (Tuple p NoExpressions) ts rest c = absurd c
units (Tuple p (MoreExpressions e NoExpressions)) ts rest c = absurd c
units (Tuple p (MoreExpressions e (MoreExpressions x es))) ts rest c = alone (Tuple p (MoreExpressions e (MoreExpressions x es))) ts rest c
units (Match d p e cs) ts rest c = alone (Match d p e cs) ts rest c
units (If p e one other) ts rest c = alone (If p e one other) ts rest c
units (Binary O.Multiply p x y) ts rest c = units_on O.Multiply p x y ts c.0 c.1 rest refl c.4 c.5 (units x ts c.0 c.3)
units (Binary O.Divide p x y) ts rest c = units_on O.Divide p x y ts c.0 c.1 rest refl c.4 c.5 (units x ts c.0 c.3)
units (Binary O.Remainder p x y) ts rest c = units_on O.Remainder p x y ts c.0 c.1 rest refl c.4 c.5 (units x ts c.0 c.3)
units (Binary _ p x y) ts rest c = let h = c.2 in absurd (omega arith)

unit_back : (k : ℕ) (e v : Expression) (ts a rest : List Token) → k ≤ 3 → Spelled 3 ts v a → e ≡ v → a ≡ rest → Spelled k ts e rest
unit_back k e v ts a rest l s h g = looser k 3 l e ts rest (subst (λ x. Spelled 3 ts x rest) (sym h) (subst (λ x. Spelled 3 ts v x) g s))

pub units_back : (v : Expression) (ts a : List Token) → Spelled 3 ts v a → (e : Expression) (rest : List Token) → Chain 2 v a e rest → Spelled 2 ts e rest
units_back v ts a s (Variable n p) rest c = unit_back 2 (Variable n p) v ts a rest (omega arith) s c.0 c.1
units_back v ts a s (Literal i p) rest c = unit_back 2 (Literal i p) v ts a rest (omega arith) s c.0 c.1
units_back v ts a s (Call n p st es) rest c = unit_back 2 (Call n p st es) v ts a rest (omega arith) s c.0 c.1
units_back v ts a s (Constructor n p es) rest c = unit_back 2 (Constructor n p es) v ts a rest (omega arith) s c.0 c.1
units_back v ts a s (Bracket b) rest c = unit_back 2 (Bracket b) v ts a rest (omega arith) s c.0 c.1
units_back v ts a s (Tuple p es) rest c = unit_back 2 (Tuple p es) v ts a rest (omega arith) s c.0 c.1
units_back v ts a s (Match d p e cs) rest c = unit_back 2 (Match d p e cs) v ts a rest (omega arith) s c.0 c.1
units_back v ts a s (If p e one other) rest c = unit_back 2 (If p e one other) v ts a rest (omega arith) s c.0 c.1
units_back v ts a s (Binary op p x y) rest (inl c) = unit_back 2 (Binary op p x y) v ts a rest (omega arith) s c.0 c.1
units_back v ts a s (Binary op p x y) rest (inr c) =
    let t = c.2 in
    (c.0, c.1, omega (arith, t), subst (λ k. Spelled k ts x c.0) (sym (left_of_product op c.2)) (units_back v ts a s x c.0 c.3), c.4, subst (λ k. Spelled (suc k) c.1 y rest) (sym c.2) c.5)

-- A sum is a product and sums' operators.
abbrev Products : List Token → Expression → List Token → Type 0
Products ts e rest = (v : Expression) × (a : List Token) × Spelled 2 ts v a × Chain 1 v a e rest

one : (e : Expression) (ts rest : List Token) → Spelled 2 ts e rest → Products ts e rest
one e ts rest c = (e, rest, c, chain_none 1 e rest)

products_on : (op : Operator) (p : Place) (x y : Expression) (ts mid after rest : List Token) → tightness op ≡ 1 → mid ≡ token (Operate op) p ∷ after → Spelled 2 after y rest → Products ts x mid → Products ts (Binary op p x y) rest
products_on op p x y ts mid after rest t e s u = (u.0, u.1, u.2, inr (mid, after, t, u.3, e, s))

pub products : (e : Expression) (ts rest : List Token) → Spelled 1 ts e rest → Products ts e rest
products (Variable n p) ts rest c = one (Variable n p) ts rest c
products (Literal v p) ts rest c = one (Literal v p) ts rest c
products (Call n p st es) ts rest c = one (Call n p st es) ts rest c
products (Constructor n p es) ts rest c = one (Constructor n p es) ts rest c
products (Bracket b) ts rest c = one (Bracket b) ts rest c
products (Tuple p NoExpressions) ts rest c = absurd c
products (Tuple p (MoreExpressions e NoExpressions)) ts rest c = absurd c
products (Tuple p (MoreExpressions e (MoreExpressions x es))) ts rest c = one (Tuple p (MoreExpressions e (MoreExpressions x es))) ts rest c
products (Match d p e cs) ts rest c = one (Match d p e cs) ts rest c
products (If p e first other) ts rest c = one (If p e first other) ts rest c
products (Binary O.Add p x y) ts rest c = products_on O.Add p x y ts c.0 c.1 rest refl c.4 c.5 (products x ts c.0 c.3)
products (Binary O.Subtract p x y) ts rest c = products_on O.Subtract p x y ts c.0 c.1 rest refl c.4 c.5 (products x ts c.0 c.3)
products (Binary O.Multiply p x y) ts rest c = one (Binary O.Multiply p x y) ts rest (c.0, c.1, omega arith, c.3, c.4, c.5)
products (Binary O.Divide p x y) ts rest c = one (Binary O.Divide p x y) ts rest (c.0, c.1, omega arith, c.3, c.4, c.5)
products (Binary O.Remainder p x y) ts rest c = one (Binary O.Remainder p x y) ts rest (c.0, c.1, omega arith, c.3, c.4, c.5)
products (Binary _ p x y) ts rest c = let h = c.2 in absurd (omega arith)

product_back : (k : ℕ) (e v : Expression) (ts a rest : List Token) → k ≤ 2 → Spelled 2 ts v a → e ≡ v → a ≡ rest → Spelled k ts e rest
product_back k e v ts a rest l s h g = looser k 2 l e ts rest (subst (λ x. Spelled 2 ts x rest) (sym h) (subst (λ x. Spelled 2 ts v x) g s))

pub products_back : (v : Expression) (ts a : List Token) → Spelled 2 ts v a → (e : Expression) (rest : List Token) → Chain 1 v a e rest → Spelled 1 ts e rest
products_back v ts a s (Variable n p) rest c = product_back 1 (Variable n p) v ts a rest (omega arith) s c.0 c.1
products_back v ts a s (Literal i p) rest c = product_back 1 (Literal i p) v ts a rest (omega arith) s c.0 c.1
products_back v ts a s (Call n p st es) rest c = product_back 1 (Call n p st es) v ts a rest (omega arith) s c.0 c.1
products_back v ts a s (Constructor n p es) rest c = product_back 1 (Constructor n p es) v ts a rest (omega arith) s c.0 c.1
products_back v ts a s (Bracket b) rest c = product_back 1 (Bracket b) v ts a rest (omega arith) s c.0 c.1
products_back v ts a s (Tuple p es) rest c = product_back 1 (Tuple p es) v ts a rest (omega arith) s c.0 c.1
products_back v ts a s (Match d p e cs) rest c = product_back 1 (Match d p e cs) v ts a rest (omega arith) s c.0 c.1
products_back v ts a s (If p e first other) rest c = product_back 1 (If p e first other) v ts a rest (omega arith) s c.0 c.1
products_back v ts a s (Binary op p x y) rest (inl c) = product_back 1 (Binary op p x y) v ts a rest (omega arith) s c.0 c.1
products_back v ts a s (Binary op p x y) rest (inr c) =
    let t = c.2 in
    (c.0, c.1, omega (arith, t), subst (λ k. Spelled k ts x c.0) (sym (left_of_sum op c.2)) (products_back v ts a s x c.0 c.3), c.4, subst (λ k. Spelled (suc k) c.1 y rest) (sym c.2) c.5)

-- A simple expression is a sum, and a comparison with another or none.
abbrev Sums : List Token → Expression → List Token → Type 0
Sums ts e rest = (v : Expression) × (a : List Token) × Spelled 1 ts v a × Compared None v a e rest

sole : (e : Expression) (ts rest : List Token) → Spelled 1 ts e rest → Sums ts e rest
sole e ts rest c = (e, rest, c, inl (refl, refl))

sums_on : (op : Operator) (p : Place) (x y : Expression) (ts mid after rest : List Token) → tightness op ≡ 0 → mid ≡ token (Operate op) p ∷ after → Spelled 1 after y rest → Spelled 1 ts x mid → Sums ts (Binary op p x y) rest
sums_on op p x y ts mid after rest t e s u = (x, mid, u, inr (op, p, y, after, t, e, s, refl))

pub sums : (e : Expression) (ts rest : List Token) → Spelled 0 ts e rest → Sums ts e rest
sums (Variable n p) ts rest c = sole (Variable n p) ts rest c
sums (Literal v p) ts rest c = sole (Literal v p) ts rest c
sums (Call n p st es) ts rest c = sole (Call n p st es) ts rest c
sums (Constructor n p es) ts rest c = sole (Constructor n p es) ts rest c
sums (Bracket b) ts rest c = sole (Bracket b) ts rest c
sums (Tuple p NoExpressions) ts rest c = absurd c
sums (Tuple p (MoreExpressions e NoExpressions)) ts rest c = absurd c
sums (Tuple p (MoreExpressions e (MoreExpressions x es))) ts rest c = sole (Tuple p (MoreExpressions e (MoreExpressions x es))) ts rest c
sums (Match d p e cs) ts rest c = sole (Match d p e cs) ts rest c
sums (If p e first other) ts rest c = sole (If p e first other) ts rest c
sums (Binary O.Add p x y) ts rest c = sole (Binary O.Add p x y) ts rest (c.0, c.1, omega arith, c.3, c.4, c.5)
sums (Binary O.Subtract p x y) ts rest c = sole (Binary O.Subtract p x y) ts rest (c.0, c.1, omega arith, c.3, c.4, c.5)
sums (Binary O.Multiply p x y) ts rest c = sole (Binary O.Multiply p x y) ts rest (c.0, c.1, omega arith, c.3, c.4, c.5)
sums (Binary O.Divide p x y) ts rest c = sole (Binary O.Divide p x y) ts rest (c.0, c.1, omega arith, c.3, c.4, c.5)
sums (Binary O.Remainder p x y) ts rest c = sole (Binary O.Remainder p x y) ts rest (c.0, c.1, omega arith, c.3, c.4, c.5)
sums (Binary op p x y) ts rest c = sums_on op p x y ts c.0 c.1 rest refl c.4 c.5 c.3

pub sums_back : (v : Expression) (ts a : List Token) → Spelled 1 ts v a → (e : Expression) (rest : List Token) → Compared None v a e rest → Spelled 0 ts e rest
sums_back v ts a s e rest (inl c) = looser 0 1 (omega arith) e ts rest (subst (λ x. Spelled 1 ts x rest) (sym c.0) (subst (λ x. Spelled 1 ts v x) c.1 s))
sums_back v ts a s e rest (inr c) =
    let made : Spelled 0 ts (Binary c.0 c.1 v c.2) rest = (a, c.3, omega arith, subst (λ k. Spelled k ts v a) (sym (left_of_comparison c.0 c.4)) s, c.5, subst (λ k. Spelled (suc k) c.3 c.2 rest) (sym c.4) c.6) in
    subst (λ x. Spelled 0 ts x rest) (sym c.7) made

-- A simple expression from its first operand on, and back.

pub open_simple : (e : Expression) (ts rest : List Token) → Spelled 0 ts e rest → (v : Expression) × (a : List Token) × Spelled 3 ts v a × Grows none_waits v a e rest
open_simple e ts rest c =
    let s = sums e ts rest c in
    let p = products s.0 ts s.1 s.2 in
    let u = units p.0 ts p.1 p.2 in
    (u.0, u.1, u.2, (p.0, p.1, s.0, s.1, u.3, p.3, s.3))

pub close_simple : (e : Expression) (ts rest : List Token) (v : Expression) (a : List Token) → Spelled 3 ts v a → Grows none_waits v a e rest → Spelled 0 ts e rest
close_simple e ts rest v a s g = sums_back g.2 ts g.3 (products_back g.0 ts g.1 (units_back v ts a s g.0 g.1 g.4) g.2 g.3 g.5) e rest g.6
