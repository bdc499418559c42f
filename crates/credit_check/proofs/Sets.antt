-- What is noted is just what breaks a rule.
use Rattle.std.proofs.Common.{◌≡◌, ℕ, zero, suc, ◌<◌, ◌≤◌, ◌+◌, ◌⊎◌, inl, inr, refl, sym, ap, subst, ◌∙◌, List, [], ◌∷◌, ◌++◌, Bool, true, false, arith}
use Rattle.std.specs.Prelude.{◌↔◌, nat_lt}
use Rattle.std.proofs.lemmas.Bool.Decides.{nat_tests}
use Rattle.fip_trees.specs.fip_language.declared.FunKind.{FunKind}
use Rattle.fip_trees.specs.fip_language.declared.FunKind.TheVariants.{Fip, Fbip, Fun}
use Rattle.fip_trees.specs.fip_language.declared.Place.{Place}
use Rattle.fip_trees.specs.fip_language.declared.rule.Rule.{Rule}
use Rattle.fip_trees.specs.fip_language.declared.rule.Rule.TheVariants.{E56, E57, E58, E62}
use Rattle.fip_trees.specs.declared.least.Violation.{Violation}
use Rattle.fip_trees.specs.Least.{In, violation}
use Rattle.fip_trees.specs.Sizes.{number, no_sizes}
use Rattle.fip_trees.proofs.Leasts.{in_left, in_right, in_either}
use Rattle.fip_trees.specs.Tree.{Expression, Give, Tuple, Operation, Call, Match, Nested, Block, Last, Let, Pattern, Clauses, NoClauses, MoreClauses, Instance, Program, pattern_place}
use Rattle.credit_check.specs.Needs.{marked, takes, given, need_block, need_clause}
use Rattle.credit_check.specs.Credits.{Less, Unused, Differ, Breaks, BreaksBlock, BreaksClauses, Exceeds, FallsShort, BreaksInstance, BreaksOne}
use Rattle.credit_check.specs.Tallies.{marked_from, given_sizes, block_sizes, clause_sizes, when, below_from, below, unused_notes, differ_notes, notes, block_notes, clauses_notes, header_notes, instance_notes, all_notes}
use Rattle.credit_check.proofs.Amounts.{marked_at, given_at, block_at, clause_at}
use Rattle.fip_base.proofs.fip_language.Facts.{nat_lt_of as less_is, nat_lt_true as is_less, same_or_above as first_or, sum_exchange as mixed, sum_exchanges as mix}

-- ---- alternatives

along : (A B C : Type 0) → (A ↔ B) → (B ↔ C) → A ↔ C
along A B C f g = (λ h. g.0 (f.0 h), λ h. f.1 (g.1 h))

append_is : (v : Violation) (xs ys : List Violation) (A B : Type 0) → (In v xs ↔ A) → (In v ys ↔ B) → In v (xs ++ ys) ↔ (A ⊎ B)
append_is v xs ys A B f g = (
  λ h. elim (in_either v xs ys h) as (λ x. A ⊎ B) [ inl k ↦ inl (f.0 k) | inr k ↦ inr (g.0 k) ],
  λ h. elim h as (λ x. In v (xs ++ ys)) [ inl k ↦ in_left v xs ys (f.1 k) | inr k ↦ in_right v xs ys (g.1 k) ],
)

same_is : (A : Type 0) → A ↔ A
same_is A = (λ h. h, λ h. h)

of_when : (b : Bool) (u v : Violation) → In v (when b u) → (b ≡ true) × (v ≡ u)
of_when true u v (inl h) = (refl, h)
of_when true u v (inr h) = absurd h
of_when false u v h = absurd h

to_when : (b : Bool) (u v : Violation) → b ≡ true → v ≡ u → In v (when b u)
to_when true u v e h = inl h
to_when false u v e h = absurd (cc)

-- ---- sizes

abbrev Below : Rule → Place → ℕ → List ℕ → List ℕ → ℕ → ℕ → Violation → Type 0
Below r q i xs ys k n v = (j : ℕ) × (k ≤ j) × (j < k + n) × (number xs j < number ys j) × (v ≡ violation r q i j [])

below_in : (r : Rule) (q : Place) (i : ℕ) (xs ys : List ℕ) (k n : ℕ) (v : Violation) → In v (below_from r q i xs ys k n) → Below r q i xs ys k n v
below_in r q i xs ys k zero v h = absurd h
below_in r q i xs ys k (suc n) v h = elim (in_either v (when (nat_lt (number xs k) (number ys k)) (violation r q i k [])) (below_from r q i xs ys (suc k) n) h) as (λ x. Below r q i xs ys k (suc n) v) [
  | inl g ↦ let t = of_when (nat_lt (number xs k) (number ys k)) (violation r q i k []) v g in (k, omega arith, omega arith, is_less (number xs k) (number ys k) t.0, t.1)
  | inr g ↦ let t = below_in r q i xs ys (suc k) n v g in (t.0, (let a = t.1 in omega arith), (let b = t.2 in omega arith), t.3, t.4)
]

in_below : (r : Rule) (q : Place) (i : ℕ) (xs ys : List ℕ) (k n : ℕ) (v : Violation) → Below r q i xs ys k n v → In v (below_from r q i xs ys k n)
in_below r q i xs ys k zero v h = absurd (let a = h.1 in let b = h.2 in omega arith)
in_below r q i xs ys k (suc n) v h =
    let w = when (nat_lt (number xs k) (number ys k)) (violation r q i k []) in
    let ws = below_from r q i xs ys (suc k) n in
    elim (first_or k h.0 h.1) as (λ x. In v (w ++ ws)) [
      | inl e ↦ in_left v w ws (to_when (nat_lt (number xs k) (number ys k)) (violation r q i k []) v (less_is (number xs k) (number ys k) (subst (λ j. number xs j < number ys j) (sym e) h.3)) (h.4 ∙ ap (λ j. violation r q i j []) (sym e)))
      | inr g ↦ in_right v w ws (in_below r q i xs ys (suc k) n v (h.0, g, (let b = h.2 in omega arith), h.3, h.4))
    ]

-- lists that have what f and g say
abbrev Has : List ℕ → (ℕ → ℕ) → Type 0
Has xs f = (k : ℕ) → 0 < k → k < 17 → number xs k ≡ f k

below_is : (r : Rule) (q : Place) (i : ℕ) (xs ys : List ℕ) (f g : ℕ → ℕ) (v : Violation) → Has xs f → Has ys g → In v (below r q i xs ys) ↔ Less r q i f g v
below_is r q i xs ys f g v a b = (
  λ h.
      let t = below_in r q i xs ys 1 16 v h in
      let lo : 0 < t.0 = let z = t.1 in omega arith in
      let hi : t.0 < 17 = let z = t.2 in omega arith in
      (t.0, lo, hi, (let x = a t.0 lo hi in let y = b t.0 lo hi in let z = t.3 in omega arith), t.4),
  λ h. in_below r q i xs ys 1 16 v (h.0, (let z = h.1 in omega arith), (let z = h.2 in omega arith), (let x = a h.0 h.1 h.2 in let y = b h.0 h.1 h.2 in let z = h.3 in omega arith), h.4),
)

-- ---- expressions of a fip instance

unused_is : (p : Program) (i : ℕ) (tk : Bool) (r : Pattern) (body : Block) (v : Violation) → In v (unused_notes i true (pattern_place r) (block_sizes p no_sizes body) (given_sizes tk r)) ↔ Unused p i tk r body v
unused_is p i tk r body v = below_is E57 (pattern_place r) i (block_sizes p no_sizes body) (given_sizes tk r) (λ k. need_block p k body) (λ k. given k tk r) v (λ k l u. block_at p k l u body) (λ k l u. given_at k l u tk r)

differ_is : (p : Program) (q : Place) (i : ℕ) (tk : Bool) (xs : List ℕ) (f : ℕ → ℕ) (r : Pattern) (body : Block) (v : Violation) → Has xs f → In v (differ_notes i true q xs (clause_sizes p tk r body)) ↔ (Less E58 q i f (λ k. need_clause p k tk r body) v ⊎ Less E58 q i (λ k. need_clause p k tk r body) f v)
differ_is p q i tk xs f r body v h =
    let g : ℕ → ℕ = λ k. need_clause p k tk r body in
    let ys = clause_sizes p tk r body in
    append_is v (below E58 q i xs ys) (below E58 q i ys xs) (Less E58 q i f g v) (Less E58 q i g f v) (below_is E58 q i xs ys f g v h (λ k l u. clause_at p k l u tk r body)) (below_is E58 q i ys xs g f v (λ k l u. clause_at p k l u tk r body) h)

mutual
  notes_is : (p : Program) (i : ℕ) (e : Expression) (v : Violation) → In v (notes p i true e) ↔ Breaks p i e v
  notes_is p i (Give a) v = same_is ⊥
  notes_is p i (Tuple q as') v = same_is ⊥
  notes_is p i (Operation o q a b) v = same_is ⊥
  notes_is p i (Call g n q as') v = same_is ⊥
  notes_is p i (Match d t q a r body cs) v =
      let tk = takes p d t in
      let xs = block_notes p i true body in
      let ys = unused_notes i true (pattern_place r) (block_sizes p no_sizes body) (given_sizes tk r) in
      append_is v (xs ++ ys) (clauses_notes p i true tk q (clause_sizes p tk r body) cs) (BreaksBlock p i body v ⊎ Unused p i tk r body v) (BreaksClauses p i tk cs v ⊎ Differ p q i tk (λ k. need_clause p k tk r body) cs v)
      (append_is v xs ys (BreaksBlock p i body v) (Unused p i tk r body v) (block_is p i body v) (unused_is p i tk r body v))
      (clauses_is p i tk q (clause_sizes p tk r body) (λ k. need_clause p k tk r body) cs v (λ k l u. clause_at p k l u tk r body))
  notes_is p i (Nested b) v = block_is p i b v

  block_is : (p : Program) (i : ℕ) (b : Block) (v : Violation) → In v (block_notes p i true b) ↔ BreaksBlock p i b v
  block_is p i (Last e) v = notes_is p i e v
  block_is p i (Let bs e rest) v = append_is v (notes p i true e) (block_notes p i true rest) (Breaks p i e v) (BreaksBlock p i rest v) (notes_is p i e v) (block_is p i rest v)

  clauses_is : (p : Program) (i : ℕ) (tk : Bool) (q : Place) (xs : List ℕ) (f : ℕ → ℕ) (cs : Clauses) (v : Violation) → Has xs f → In v (clauses_notes p i true tk q xs cs) ↔ (BreaksClauses p i tk cs v ⊎ Differ p q i tk f cs v)
  clauses_is p i tk q xs f NoClauses v h = (λ g. absurd g, λ g. elim g as (λ x. ⊥) [ inl k ↦ k | inr k ↦ k ])
  clauses_is p i tk q xs f (MoreClauses r body cs) v h =
      let bs = block_notes p i true body in
      let us = unused_notes i true (pattern_place r) (block_sizes p no_sizes body) (given_sizes tk r) in
      let ds = differ_notes i true q xs (clause_sizes p tk r body) in
      let A = BreaksBlock p i body v ⊎ Unused p i tk r body v in
      let D = Less E58 q i f (λ k. need_clause p k tk r body) v ⊎ Less E58 q i (λ k. need_clause p k tk r body) f v in
      let B = BreaksClauses p i tk cs v in
      let F = Differ p q i tk f cs v in
      along (In v (((bs ++ us) ++ ds) ++ clauses_notes p i true tk q xs cs)) ((A ⊎ D) ⊎ (B ⊎ F)) ((A ⊎ B) ⊎ (D ⊎ F))
      (append_is v ((bs ++ us) ++ ds) (clauses_notes p i true tk q xs cs) (A ⊎ D) (B ⊎ F)
      (append_is v (bs ++ us) ds A D (append_is v bs us (BreaksBlock p i body v) (Unused p i tk r body v) (block_is p i body v) (unused_is p i tk r body v)) (differ_is p q i tk xs f r body v h))
      (clauses_is p i tk q xs f cs v h))
      (mix A D B F)

-- ---- in another instance nothing is noted

mutual
  none_noted : (p : Program) (i : ℕ) (e : Expression) → notes p i false e ≡ []
  none_noted p i (Give a) = refl
  none_noted p i (Tuple q as') = refl
  none_noted p i (Operation o q a b) = refl
  none_noted p i (Call g n q as') = refl
  none_noted p i (Match d t q a r body cs) = rw (none_block p i body, none_clauses p i (takes p d t) q (clause_sizes p (takes p d t) r body) cs) refl
  none_noted p i (Nested b) = none_block p i b

  none_block : (p : Program) (i : ℕ) (b : Block) → block_notes p i false b ≡ []
  none_block p i (Last e) = none_noted p i e
  none_block p i (Let bs e rest) = rw (none_noted p i e, none_block p i rest) refl

  none_clauses : (p : Program) (i : ℕ) (tk : Bool) (q : Place) (xs : List ℕ) (cs : Clauses) → clauses_notes p i false tk q xs cs ≡ []
  none_clauses p i tk q xs NoClauses = refl
  none_clauses p i tk q xs (MoreClauses r body cs) = rw (none_block p i body, none_clauses p i tk q xs cs) refl

-- ---- instances

exceeds_is : (p : Program) (i : ℕ) (d : Instance) (v : Violation) → In v (below E56 d.place i (marked_from no_sizes d.credits) (block_sizes p no_sizes d.body)) ↔ Exceeds p i d v
exceeds_is p i d v = below_is E56 d.place i (marked_from no_sizes d.credits) (block_sizes p no_sizes d.body) (λ k. marked k d.credits) (λ k. need_block p k d.body) v (λ k l u. marked_at k l u d.credits) (λ k l u. block_at p k l u d.body)

short_is : (p : Program) (i : ℕ) (d : Instance) (v : Violation) → In v (below E62 d.place i (block_sizes p no_sizes d.body) (marked_from no_sizes d.credits)) ↔ FallsShort p i d v
short_is p i d v = below_is E62 d.place i (block_sizes p no_sizes d.body) (marked_from no_sizes d.credits) (λ k. need_block p k d.body) (λ k. marked k d.credits) v (λ k l u. block_at p k l u d.body) (λ k l u. marked_at k l u d.credits)

empty_is : (v : Violation) → In v [] ↔ ⊥
empty_is v = same_is ⊥

none_right : (A : Type 0) → (A ⊎ ⊥) ↔ A
none_right A = (λ h. elim h as (λ x. A) [ inl k ↦ k | inr k ↦ absurd k ], λ h. inl h)

instance_is : (p : Program) (i : ℕ) (k : FunKind) (d : Instance) (v : Violation) → In v (instance_notes p i k d) ↔ BreaksInstance p i k d v
instance_is p i Fip d v = append_is v (block_notes p i true d.body) (header_notes p i true d) (BreaksBlock p i d.body v) (Exceeds p i d v ⊎ FallsShort p i d v) (block_is p i d.body v) (append_is v (below E56 d.place i (marked_from no_sizes d.credits) (block_sizes p no_sizes d.body)) (below E62 d.place i (block_sizes p no_sizes d.body) (marked_from no_sizes d.credits)) (Exceeds p i d v) (FallsShort p i d v) (exceeds_is p i d v) (short_is p i d v))
instance_is p i Fbip d v =
    let xs = below E56 d.place i (marked_from no_sizes d.credits) (block_sizes p no_sizes d.body) in
    subst (λ bs. In v (bs ++ (xs ++ [])) ↔ Exceeds p i d v) (sym (none_block p i d.body))
    (along (In v (xs ++ [])) (Exceeds p i d v ⊎ ⊥) (Exceeds p i d v) (append_is v xs [] (Exceeds p i d v) ⊥ (exceeds_is p i d v) (empty_is v)) (none_right (Exceeds p i d v)))
instance_is p i Fun d v = same_is ⊥

pub all_is : (p : Program) (i : ℕ) (ds : List Instance) (v : Violation) → In v (all_notes p i ds) ↔ BreaksOne p i ds v
all_is p i [] v = same_is ⊥
all_is p i (d ∷ ds) v = append_is v (instance_notes p i d.kind d) (all_notes p (suc i) ds) (BreaksInstance p i d.kind d v) (BreaksOne p (suc i) ds v) (instance_is p i d.kind d v) (all_is p (suc i) ds v)
