-- The occurrences that are found rise by their expressions, so the places of each binder rise.
use Rattle.std.proofs.Common.{◌≡◌, ℕ, zero, suc, ◌<◌, ◌≤◌, ◌+◌, refl, sym, ap, ◌∙◌, subst, List, [], ◌∷◌, ◌++◌, length, get_or, not, ◌||◌, Bool, true, false, Option, Some, None, arith}
use Rattle.fip_base.specs.declared.plain.Param.{Param}
use Rattle.fip_trees.specs.declared.program.Binder.{Binder}
use Rattle.fip_trees.specs.Tree.{Argument, Variable, Literal, Constructor, Arguments, NoArguments, MoreArguments, Pattern, BinderPattern, LiteralPattern, ConstructorPattern, Patterns, NoPatterns, MorePatterns, Instance, Expression, Give, Tuple, Operation, Call, Match, Nested, Block, Last, Let, Clauses, NoClauses, MoreClauses}
use Rattle.fip_rules.specs.World.{World, lends}
use Rattle.fip_rules.specs.Shapes.{takes}
use Rattle.derivation_walk.specs.declared.found.Occurrence.{Occurrence}
use Rattle.derivation_walk.specs.Seen.{Seen, nothing_seen, bind, bind_all, bind_pattern, bind_patterns, bind_parameters, occur, own, own_all, lend, pass, pass_all, number, see, see_parts, see_clauses, see_block, see_instance}
use Rattle.derivation_walk.specs.Tables.{empty_rows, add_at, is_taken_up, add_if, rows_from, row_at, IsRising}

-- ---- numbers

-- from m on and up to n
abbrev Rises : ℕ → ℕ → List ℕ → Type 0
Rises m n [] = m ≤ n
Rises m n (x ∷ xs) = (m ≤ x) × Rises x n xs

above : (m n : ℕ) (xs : List ℕ) → Rises m n xs → (i : ℕ) → i < length xs → m ≤ get_or xs i 0
above m n [] h i l = absurd (omega arith)
above m n (x ∷ xs) h zero l = h.0
above m n (x ∷ xs) h (suc i) l = let a = h.0 in let b = above x n xs h.1 i (omega arith) in omega arith

in_order : (m n : ℕ) (xs : List ℕ) → Rises m n xs → IsRising xs
in_order m n [] h i j l k = absurd (omega arith)
in_order m n (x ∷ xs) h zero zero l k = omega arith
in_order m n (x ∷ xs) h zero (suc j) l k = above x n xs h.1 j (omega arith)
in_order m n (x ∷ xs) h (suc i) zero l k = absurd (omega arith)
in_order m n (x ∷ xs) h (suc i) (suc j) l k = in_order x n xs h.1 i j (omega arith) (omega arith)

rises_more : (m n i : ℕ) (xs : List ℕ) → Rises m n xs → n ≤ i → Rises m i (xs ++ i ∷ [])
rises_more m n i [] h l = (omega (arith, h), omega arith)
rises_more m n i (x ∷ xs) h l = (h.0, rises_more x n i xs h.1 l)

rises_on : (m n i : ℕ) (xs : List ℕ) → Rises m n xs → n ≤ i → Rises m i xs
rises_on m n i [] h l = omega (arith, h)
rises_on m n i (x ∷ xs) h l = (h.0, rises_on x n i xs h.1 l)

abbrev expressions : List Occurrence → List ℕ
expressions [] = []
expressions (o ∷ os) = o.expression ∷ expressions os

one_more : (os : List Occurrence) (o : Occurrence) → expressions (os ++ o ∷ []) ≡ expressions os ++ o.expression ∷ []
one_more [] o = refl
one_more (p ∷ os) o = ap (λ (xs : List ℕ). p.expression ∷ xs) (one_more os o)

-- ---- what is seen

abbrev UpTo : ℕ → Seen → Type 0
UpTo n s = Rises 0 n (expressions s.occurrences)

-- t has no further occurrences, or those in expression i at most
record Goes (i : ℕ) (s t : Seen) : Type 0 where
  next : t.next ≡ s.next
  rising : UpTo i s → UpTo i t

stays : (i : ℕ) (s : Seen) → Goes i s s
stays i s = record { next = refl; rising = λ h. h }

goes_on : (i : ℕ) (s t u : Seen) → Goes i s t → Goes i t u → Goes i s u
goes_on i s t u h g = record { next = g.next ∙ h.next; rising = λ x. g.rising (h.rising x) }

occur_goes : (i : ℕ) (lent : Bool) (s : Seen) (o : Option ℕ) → Goes i s (occur i lent s o)
occur_goes i lent s None = stays i s
occur_goes i lent s (Some x) = record {
  next = refl;
  rising = λ h. subst (Rises 0 i) (sym (one_more s.occurrences (record { binder = x; expression = i; is_lent = lent }))) (rises_more 0 i i (expressions s.occurrences) h (omega arith));
}

mutual
  own_goes : (i : ℕ) (s : Seen) (a : Argument) → Goes i s (own i s a)
  own_goes i s (Variable x n p) = occur_goes i false s x
  own_goes i s (Literal v p) = stays i s
  own_goes i s (Constructor t d c n p as') = own_all_goes i s as'

  own_all_goes : (i : ℕ) (s : Seen) (as' : Arguments) → Goes i s (own_all i s as')
  own_all_goes i s NoArguments = stays i s
  own_all_goes i s (MoreArguments a as') = goes_on i s (own i s a) (own_all i (own i s a) as') (own_goes i s a) (own_all_goes i (own i s a) as')

pass_goes : (i : ℕ) (lent : Bool) (s : Seen) (a : Argument) → Goes i s (pass i lent s a)
pass_goes i false s a = own_goes i s a
pass_goes i true s (Variable x n p) = occur_goes i true s x
pass_goes i true s (Literal v p) = stays i s
pass_goes i true s (Constructor t d c n p as') = own_all_goes i s as'

pass_all_goes : (w : World) (i g j : ℕ) (s : Seen) (as' : Arguments) → Goes i s (pass_all w i g j s as')
pass_all_goes w i g j s NoArguments = stays i s
pass_all_goes w i g j s (MoreArguments a as') =
    let t = pass i (lends w g j) s a in
    goes_on i s t (pass_all w i g (j + 1) t as') (pass_goes i (lends w g j) s a) (pass_all_goes w i g (j + 1) t as')

bind_all_goes : (w : World) (i : ℕ) (s : Seen) (bs : List Binder) → Goes i s (bind_all w s bs)
bind_all_goes w i s [] = stays i s
bind_all_goes w i s (b ∷ bs) = let h = bind_all_goes w i (bind w s b.number b.ty) bs in record { next = h.next; rising = h.rising }

mutual
  bind_pattern_goes : (w : World) (i : ℕ) (s : Seen) (p : Pattern) → Goes i s (bind_pattern w s p)
  bind_pattern_goes w i s (BinderPattern b) = record { next = refl; rising = λ h. h }
  bind_pattern_goes w i s (LiteralPattern v p) = stays i s
  bind_pattern_goes w i s (ConstructorPattern t d c n p ps) = bind_patterns_goes w i s ps

  bind_patterns_goes : (w : World) (i : ℕ) (s : Seen) (ps : Patterns) → Goes i s (bind_patterns w s ps)
  bind_patterns_goes w i s NoPatterns = stays i s
  bind_patterns_goes w i s (MorePatterns p ps) =
      let t = bind_pattern w s p in
      goes_on i s t (bind_patterns w t ps) (bind_pattern_goes w i s p) (bind_patterns_goes w i t ps)

-- up to the next expression
abbrev Good : Seen → Type 0
Good s = UpTo s.next s

-- after an expression that has its number
numbered : (s t : Seen) → Good s → Goes s.next (number s) t → Good t
numbered s t h g = let e = g.next in rises_on 0 s.next t.next (expressions t.occurrences) (g.rising h) (omega arith)

kept : (s t : Seen) → Good s → Goes s.next s t → Good t
kept s t h g = subst (λ n. UpTo n t) (sym g.next) (g.rising h)

opened : (s : Seen) → Good s → Good (number s)
opened s h = numbered s (number s) h (stays s.next (number s))

mutual
  see_good : (w : World) (s : Seen) (e : Expression) → Good s → Good (see w s e)
  see_good w s (Give a) h = numbered s (own s.next (number s) a) h (own_goes s.next (number s) a)
  see_good w s (Tuple p as') h = numbered s (own_all s.next (number s) as') h (own_all_goes s.next (number s) as')
  see_good w s (Operation o p l r) h =
      let t = own s.next (number s) l in
      numbered s (own s.next t r) h (goes_on s.next (number s) t (own s.next t r) (own_goes s.next (number s) l) (own_goes s.next t r))
  see_good w s (Call g n p as') h = numbered s (pass_all w s.next g 0 (number s) as') h (pass_all_goes w s.next g 0 (number s) as')
  see_good w s (Match k t p a q body cs) h =
      let u = pass s.next (not (takes w k t)) (number s) a in
      let good = numbered s u h (pass_goes s.next (not (takes w k t)) (number s) a) in
      see_clauses_good w (see_parts w (number (bind_pattern w u q)) body) cs
      (see_parts_good w (number (bind_pattern w u q)) body (opened (bind_pattern w u q) (kept u (bind_pattern w u q) good (bind_pattern_goes w u.next u q))))
  see_good w s (Nested b) h = see_parts_good w (number s) b (opened s h)

  see_parts_good : (w : World) (s : Seen) (b : Block) → Good s → Good (see_parts w s b)
  see_parts_good w s (Last e) h = see_good w s e h
  see_parts_good w s (Let bs e rest) h =
      let t = bind_all w s bs in
      see_parts_good w (see w t e) rest (see_good w t e (kept s t h (bind_all_goes w s.next s bs)))

  see_clauses_good : (w : World) (s : Seen) (cs : Clauses) → Good s → Good (see_clauses w s cs)
  see_clauses_good w s NoClauses h = h
  see_clauses_good w s (MoreClauses q body cs) h =
      see_clauses_good w (see_parts w (number (bind_pattern w s q)) body) cs
      (see_parts_good w (number (bind_pattern w s q)) body (opened (bind_pattern w s q) (kept s (bind_pattern w s q) h (bind_pattern_goes w s.next s q))))

bind_parameters_goes : (w : World) (i : ℕ) (s : Seen) (n : ℕ) (ps : List Param) → Goes i s (bind_parameters w s n ps)
bind_parameters_goes w i s n [] = stays i s
bind_parameters_goes w i s n (p ∷ ps) = let h = bind_parameters_goes w i (bind w s n p.ty) (n + 1) ps in record { next = h.next; rising = h.rising }

instance_good : (w : World) (d : Instance) → Good (see_instance w d)
instance_good w d =
    let t = bind_parameters w nothing_seen 0 d.params in
    see_parts_good w (number t) d.body (opened t (kept nothing_seen t (omega arith) (bind_parameters_goes w 0 nothing_seen 0 d.params)))

-- ---- the rows

add_rises : (n i b : ℕ) (rs : List (List ℕ)) → ((x : ℕ) → Rises 0 n (row_at rs x)) → n ≤ i → (x : ℕ) → Rises 0 i (row_at (add_at b i rs) x)
add_rises n i b [] h l x = omega arith
add_rises n i zero (r ∷ rs) h l zero = rises_more 0 n i r (h 0) l
add_rises n i zero (r ∷ rs) h l (suc x) = rises_on 0 n i (row_at rs x) (h (suc x)) l
add_rises n i (suc b) (r ∷ rs) h l zero = rises_on 0 n i r (h 0) l
add_rises n i (suc b) (r ∷ rs) h l (suc x) = add_rises n i b rs (λ y. h (suc y)) l x

rows_rise : (all : Bool) (n m : ℕ) (rs : List (List ℕ)) (os : List Occurrence) → ((x : ℕ) → Rises 0 n (row_at rs x)) → Rises n m (expressions os) → (x : ℕ) → Rises 0 m (row_at (rows_from all rs os) x)
rows_rise all n m rs [] h g x = rises_on 0 n m (row_at rs x) (h x) g
rows_rise all n m rs (o ∷ os) h g x = rows_rise all o.expression m (add_if (is_taken_up all o) o rs) os (added (is_taken_up all o)) g.1 x
  where
    added : (b : Bool) (y : ℕ) → Rises 0 o.expression (row_at (add_if b o rs) y)
    added true y = add_rises n o.expression o.binder rs h g.0 y
    added false y = rises_on 0 n o.expression (row_at rs y) (h y) g.0

pub empty_row : (n x : ℕ) → row_at (empty_rows n) x ≡ []
empty_row zero x = refl
empty_row (suc n) zero = refl
empty_row (suc n) (suc x) = empty_row n x

-- the rows of what is found in an instance
pub places_rise : (w : World) (d : Instance) (all : Bool) (n : ℕ) (os : List Occurrence) (rs : List (List ℕ)) → os ≡ (see_instance w d).occurrences → rs ≡ rows_from all (empty_rows n) os → (x : ℕ) → IsRising (row_at rs x)
places_rise w d all n os rs e f x =
    let s = see_instance w d in
    let g : Rises 0 s.next (expressions os) = subst (λ ps. Rises 0 s.next (expressions ps)) (sym e) (instance_good w d) in
    in_order 0 s.next (row_at rs x) (subst (λ qs. Rises 0 s.next (row_at qs x)) (sym f)
    (rows_rise all 0 s.next (empty_rows n) os (λ y. subst (Rises 0 0) (sym (empty_row n y)) (omega arith)) g x))
