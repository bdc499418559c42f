-- What is seen in a part of a body: its variables, and where they occur.
use Rattle.std.proofs.Common.{◌≡◌, ℕ, zero, suc, ◌<◌, ◌≤◌, ◌+◌, ◌&&◌, ◌||◌, refl, sym, ap, ap₂, subst, ◌∙◌, append_assoc, List, [], ◌∷◌, ◌++◌, length, Option, Some, None, Bool, true, false, not, arith}
use Rattle.std.proofs.lemmas.List.{append-nil}
use Rattle.std.specs.Prelude.{◌==◌, if◌then◌else◌}
use Rattle.tail_groups.specs.fip_base.declared.plain.Param.{Param}
use Rattle.tail_groups.specs.fip_trees.declared.program.Binder.{Binder}
use Rattle.tail_groups.specs.fip_trees.Tree.{Argument, Variable, Literal, Constructor, Arguments, NoArguments, MoreArguments, Pattern, BinderPattern, LiteralPattern, ConstructorPattern, Patterns, NoPatterns, MorePatterns, Expression, Give, Tuple, Operation, Call, Match, Nested, Block, Last, Let, Clauses, NoClauses, MoreClauses, Instance}
use Rattle.derivation_walk.specs.fip_rules.World.{World, lends}
use Rattle.derivation_walk.specs.fip_rules.Shapes.{binders, binders_all, takes}
use Rattle.derivation_walk.specs.declared.found.Bound.{Bound}
use Rattle.derivation_walk.specs.declared.found.Occurrence.{Occurrence}
use Rattle.derivation_walk.specs.Seen.{Seen, nothing_seen, bind, bind_all, bind_pattern, bind_patterns, bind_parameters, occur, own, own_all, lend, pass, pass_all, see, see_parts, see_clauses, see_block, see_instance}
use Rattle.derivation_walk.specs.Seen as S
use Rattle.derivation_walk.specs.Walked.{size, size_parts, size_clauses}

-- ---- the variables of a part

abbrev pub slots : World → List Binder → List Bound
slots w [] = []
slots w (b ∷ bs) = record { binder = b.number; is_scalar = w.scalar b.ty } ∷ slots w bs

abbrev mutual
  pub slots_in : World → Expression → List Bound
  slots_in w (Give a) = []
  slots_in w (Tuple p as') = []
  slots_in w (Operation o p l r) = []
  slots_in w (Call g n p as') = []
  slots_in w (Match k t p a q body cs) = slots w (binders q) ++ (slots_parts w body ++ slots_clauses w cs)
  slots_in w (Nested b) = slots_parts w b

  pub slots_parts : World → Block → List Bound
  slots_parts w (Last e) = slots_in w e
  slots_parts w (Let bs e rest) = slots w bs ++ (slots_in w e ++ slots_parts w rest)

  pub slots_clauses : World → Clauses → List Bound
  slots_clauses w NoClauses = []
  slots_clauses w (MoreClauses q body cs) = slots w (binders q) ++ (slots_parts w body ++ slots_clauses w cs)

-- ---- the occurrences in a part, whose first expression has number i

abbrev pub marks_of : ℕ → Bool → Option ℕ → List Occurrence
marks_of i lent None = []
marks_of i lent (Some x) = record { binder = x; expression = i; is_lent = lent } ∷ []

abbrev mutual
  pub owned_value : ℕ → Argument → List Occurrence
  owned_value i (Variable x n p) = marks_of i false x
  owned_value i (Literal v p) = []
  owned_value i (Constructor t d c n p as') = owned_values i as'

  pub owned_values : ℕ → Arguments → List Occurrence
  owned_values i NoArguments = []
  owned_values i (MoreArguments a as') = owned_value i a ++ owned_values i as'

abbrev pub lent_value : ℕ → Argument → List Occurrence
lent_value i (Variable x n p) = marks_of i true x
lent_value i (Literal v p) = []
lent_value i (Constructor t d c n p as') = owned_values i as'

abbrev pub passed_value : ℕ → Bool → Argument → List Occurrence
passed_value i true a = lent_value i a
passed_value i false a = owned_value i a

abbrev pub passed_values : World → ℕ → ℕ → ℕ → Arguments → List Occurrence
passed_values w i g j NoArguments = []
passed_values w i g j (MoreArguments a as') = passed_value i (lends w g j) a ++ passed_values w i g (j + 1) as'

abbrev mutual
  pub marks : World → ℕ → Expression → List Occurrence
  marks w i (Give a) = owned_value i a
  marks w i (Tuple p as') = owned_values i as'
  marks w i (Operation o p l r) = owned_value i l ++ owned_value i r
  marks w i (Call g n p as') = passed_values w i g 0 as'
  marks w i (Match k t p a q body cs) =
      passed_value i (not (takes w k t)) a
      ++ (marks_parts w (i + 1 + 1) body ++ marks_clauses w (i + 1 + (size_parts body + 1)) cs)
  marks w i (Nested b) = marks_parts w (i + 1) b

  pub marks_parts : World → ℕ → Block → List Occurrence
  marks_parts w i (Last e) = marks w i e
  marks_parts w i (Let bs e rest) = marks w i e ++ marks_parts w (i + size e) rest

  pub marks_clauses : World → ℕ → Clauses → List Occurrence
  marks_clauses w i NoClauses = []
  marks_clauses w i (MoreClauses q body cs) =
      marks_parts w (i + 1) body ++ marks_clauses w (i + (size_parts body + 1)) cs

-- ---- that is what is seen

-- t is s with these variables, these occurrences, and so many expressions more
pub record Sees (s t : Seen) (vs : List Bound) (os : List Occurrence) (n : ℕ) : Type 0 where
  pub variables : t.variables ≡ s.variables ++ vs
  pub occurrences : t.occurrences ≡ s.occurrences ++ os
  pub next : t.next ≡ s.next + n

sees_none : (s : Seen) → Sees s s [] [] 0
sees_none s = record { variables = sym (append-nil s.variables); occurrences = sym (append-nil s.occurrences); next = omega arith }

sees_both : (s t u : Seen) (vs ws : List Bound) (os ps : List Occurrence) (m n : ℕ) → Sees s t vs os m → Sees t u ws ps n → Sees s u (vs ++ ws) (os ++ ps) (m + n)
sees_both s t u vs ws os ps m n h g = record {
  variables = g.variables ∙ ap (λ z. z ++ ws) h.variables ∙ append_assoc s.variables vs ws;
  occurrences = g.occurrences ∙ ap (λ z. z ++ ps) h.occurrences ∙ append_assoc s.occurrences os ps;
  next = let a = h.next in let b = g.next in omega (arith, a, b);
}

sees_as : (s t : Seen) (vs ws : List Bound) (os ps : List Occurrence) (m n : ℕ) → vs ≡ ws → os ≡ ps → m ≡ n → Sees s t vs os m → Sees s t ws ps n
sees_as s t vs ws os ps m n e f k h = record {
  variables = h.variables ∙ ap (λ z. s.variables ++ z) e;
  occurrences = h.occurrences ∙ ap (λ z. s.occurrences ++ z) f;
  next = h.next ∙ ap (λ z. s.next + z) k;
}

occur_sees : (i : ℕ) (lent : Bool) (s : Seen) (o : Option ℕ) → Sees s (occur i lent s o) [] (marks_of i lent o) 0
occur_sees i lent s None = sees_none s
occur_sees i lent s (Some x) = record { variables = sym (append-nil s.variables); occurrences = refl; next = omega arith }

mutual
  own_sees : (i : ℕ) (s : Seen) (a : Argument) → Sees s (own i s a) [] (owned_value i a) 0
  own_sees i s (Variable x n p) = occur_sees i false s x
  own_sees i s (Literal v p) = sees_none s
  own_sees i s (Constructor t d c n p as') = own_all_sees i s as'

  own_all_sees : (i : ℕ) (s : Seen) (as' : Arguments) → Sees s (own_all i s as') [] (owned_values i as') 0
  own_all_sees i s NoArguments = sees_none s
  own_all_sees i s (MoreArguments a as') =
      sees_both s (own i s a) (own_all i (own i s a) as') [] [] (owned_value i a) (owned_values i as') 0 0 (own_sees i s a) (own_all_sees i (own i s a) as')

pass_sees : (i : ℕ) (lent : Bool) (s : Seen) (a : Argument) → Sees s (pass i lent s a) [] (passed_value i lent a) 0
pass_sees i false s a = own_sees i s a
pass_sees i true s (Variable x n p) = occur_sees i true s x
pass_sees i true s (Literal v p) = sees_none s
pass_sees i true s (Constructor t d c n p as') = own_all_sees i s as'

pass_all_sees : (w : World) (i g j : ℕ) (s : Seen) (as' : Arguments) → Sees s (pass_all w i g j s as') [] (passed_values w i g j as') 0
pass_all_sees w i g j s NoArguments = sees_none s
pass_all_sees w i g j s (MoreArguments a as') =
    let t = pass i (lends w g j) s a in
    sees_both s t (pass_all w i g (j + 1) t as') [] [] (passed_value i (lends w g j) a) (passed_values w i g (j + 1) as') 0 0 (pass_sees i (lends w g j) s a) (pass_all_sees w i g (j + 1) t as')

bind_sees : (w : World) (s : Seen) (x t : ℕ) → Sees s (bind w s x t) (record { binder = x; is_scalar = w.scalar t } ∷ []) [] 0
bind_sees w s x t = record { variables = refl; occurrences = sym (append-nil s.occurrences); next = omega arith }

bind_all_sees : (w : World) (s : Seen) (bs : List Binder) → Sees s (bind_all w s bs) (slots w bs) [] 0
bind_all_sees w s [] = sees_none s
bind_all_sees w s (b ∷ bs) =
    let t = bind w s b.number b.ty in
    sees_both s t (bind_all w t bs) (record { binder = b.number; is_scalar = w.scalar b.ty } ∷ []) (slots w bs) [] [] 0 0 (bind_sees w s b.number b.ty) (bind_all_sees w t bs)

pub slots_append : (w : World) (bs cs : List Binder) → slots w (bs ++ cs) ≡ slots w bs ++ slots w cs
slots_append w [] cs = refl
slots_append w (b ∷ bs) cs = ap (λ (vs : List Bound). record { binder = b.number; is_scalar = w.scalar b.ty } ∷ vs) (slots_append w bs cs)

mutual
  pattern_sees : (w : World) (s : Seen) (q : Pattern) → Sees s (bind_pattern w s q) (slots w (binders q)) [] 0
  pattern_sees w s (BinderPattern b) = bind_sees w s b.number b.ty
  pattern_sees w s (LiteralPattern v p) = sees_none s
  pattern_sees w s (ConstructorPattern t d c n p ps) = patterns_sees w s ps

  patterns_sees : (w : World) (s : Seen) (ps : Patterns) → Sees s (bind_patterns w s ps) (slots w (binders_all ps)) [] 0
  patterns_sees w s NoPatterns = sees_none s
  patterns_sees w s (MorePatterns q ps) =
      let t = bind_pattern w s q in
      let u = bind_patterns w t ps in
      sees_as s u (slots w (binders q) ++ slots w (binders_all ps)) (slots w (binders q ++ binders_all ps)) [] [] 0 0 (sym (slots_append w (binders q) (binders_all ps))) refl refl
      (sees_both s t u (slots w (binders q)) (slots w (binders_all ps)) [] [] 0 0 (pattern_sees w s q) (patterns_sees w t ps))

number_sees : (s : Seen) → Sees s (S.number s) [] [] 1
number_sees s = record { variables = sym (append-nil s.variables); occurrences = sym (append-nil s.occurrences); next = refl }

-- an expression without expressions in it
leaf_sees : (s t : Seen) (os : List Occurrence) → Sees (S.number s) t [] os 0 → Sees s t [] os 1
leaf_sees s t os h = sees_both s (S.number s) t [] [] [] os 1 0 (number_sees s) h

mutual
  pub see_sees : (w : World) (i : ℕ) (s : Seen) (e : Expression) → s.next ≡ i → Sees s (see w s e) (slots_in w e) (marks w i e) (size e)
  see_sees w i s (Give a) h = subst (λ n. Sees s (own s.next (S.number s) a) [] (owned_value n a) 1) h (leaf_sees s (own s.next (S.number s) a) (owned_value s.next a) (own_sees s.next (S.number s) a))
  see_sees w i s (Tuple p as') h = subst (λ n. Sees s (own_all s.next (S.number s) as') [] (owned_values n as') 1) h (leaf_sees s (own_all s.next (S.number s) as') (owned_values s.next as') (own_all_sees s.next (S.number s) as'))
  see_sees w i s (Operation o p l r) h =
      let t = own s.next (S.number s) l in
      let u = own s.next t r in
      subst (λ n. Sees s u [] (owned_value n l ++ owned_value n r) 1) h
      (leaf_sees s u (owned_value s.next l ++ owned_value s.next r)
      (sees_both (S.number s) t u [] [] (owned_value s.next l) (owned_value s.next r) 0 0 (own_sees s.next (S.number s) l) (own_sees s.next t r)))
  see_sees w i s (Call g n p as') h =
      let t = pass_all w s.next g 0 (S.number s) as' in
      subst (λ m. Sees s t [] (passed_values w m g 0 as') 1) h (leaf_sees s t (passed_values w s.next g 0 as') (pass_all_sees w s.next g 0 (S.number s) as'))
  see_sees w i s (Match k t p a q body cs) h =
      let b = not (takes w k t) in
      let s1 = pass s.next b (S.number s) a in
      let s2 = bind_pattern w s1 q in
      let s3 = see_parts w (S.number s2) body in
      let s4 = see_clauses w s3 cs in
      let h1 : Sees s s1 [] (passed_value i b a) 1 = subst (λ n. Sees s s1 [] (passed_value n b a) 1) h (leaf_sees s s1 (passed_value s.next b a) (pass_sees s.next b (S.number s) a)) in
      let h2 = sees_both s s1 s2 [] (slots w (binders q)) (passed_value i b a) [] 1 0 h1 (pattern_sees w s1 q) in
      let n2 : s2.next ≡ i + 1 = let z = h2.next in omega (arith, z, h) in
      let h3 = sees_both s2 (S.number s2) s3 [] (slots_parts w body) [] (marks_parts w (i + 1 + 1) body) 1 (size_parts body) (number_sees s2) (parts_sees w (i + 1 + 1) (S.number s2) body (omega (arith, n2))) in
      let n3 : s3.next ≡ i + 1 + (size_parts body + 1) = let z = h3.next in omega (arith, z, n2) in
      let h4 = clauses_sees w (i + 1 + (size_parts body + 1)) s3 cs n3 in
      let h34 = sees_both s2 s3 s4 (slots_parts w body) (slots_clauses w cs) (marks_parts w (i + 1 + 1) body) (marks_clauses w (i + 1 + (size_parts body + 1)) cs) (1 + size_parts body) (size_clauses cs) h3 h4 in
      let all = sees_both s s2 s4 (slots w (binders q)) (slots_parts w body ++ slots_clauses w cs) (passed_value i b a ++ []) (marks_parts w (i + 1 + 1) body ++ marks_clauses w (i + 1 + (size_parts body + 1)) cs) (1 + 0) (1 + size_parts body + size_clauses cs) h2 h34 in
      let m : 1 + 0 + (1 + size_parts body + size_clauses cs) ≡ 1 + (size_parts body + 1) + size_clauses cs = omega arith in
      sees_as s s4 (slots_in w (Match k t p a q body cs)) (slots_in w (Match k t p a q body cs))
      ((passed_value i b a ++ []) ++ (marks_parts w (i + 1 + 1) body ++ marks_clauses w (i + 1 + (size_parts body + 1)) cs)) (marks w i (Match k t p a q body cs))
      (1 + 0 + (1 + size_parts body + size_clauses cs)) (size (Match k t p a q body cs)) refl
      (ap (λ z. z ++ (marks_parts w (i + 1 + 1) body ++ marks_clauses w (i + 1 + (size_parts body + 1)) cs)) (append-nil (passed_value i b a))) m all
  see_sees w i s (Nested b) h =
      let t = see_parts w (S.number s) b in
      let m : 1 + size_parts b ≡ size_parts b + 1 = omega arith in
      sees_as s t (slots_parts w b) (slots_parts w b) (marks_parts w (i + 1) b) (marks_parts w (i + 1) b) (1 + size_parts b) (size_parts b + 1) refl refl m
      (sees_both s (S.number s) t [] (slots_parts w b) [] (marks_parts w (i + 1) b) 1 (size_parts b) (number_sees s) (parts_sees w (i + 1) (S.number s) b (omega (arith, h))))

  pub parts_sees : (w : World) (i : ℕ) (s : Seen) (b : Block) → s.next ≡ i → Sees s (see_parts w s b) (slots_parts w b) (marks_parts w i b) (size_parts b)
  parts_sees w i s (Last e) h = see_sees w i s e h
  parts_sees w i s (Let bs e rest) h =
      let s1 = bind_all w s bs in
      let s2 = see w s1 e in
      let s3 = see_parts w s2 rest in
      let h1 = bind_all_sees w s bs in
      let n1 : s1.next ≡ i = let z = h1.next in omega (arith, z, h) in
      let h2 = see_sees w i s1 e n1 in
      let n2 : s2.next ≡ i + size e = let z = h2.next in omega (arith, z, n1) in
      let h3 = parts_sees w (i + size e) s2 rest n2 in
      let m : 0 + (size e + size_parts rest) ≡ size e + size_parts rest = omega arith in
      sees_as s s3 (slots_parts w (Let bs e rest)) (slots_parts w (Let bs e rest)) (marks_parts w i (Let bs e rest)) (marks_parts w i (Let bs e rest)) (0 + (size e + size_parts rest)) (size_parts (Let bs e rest)) refl refl m
      (sees_both s s1 s3 (slots w bs) (slots_in w e ++ slots_parts w rest) [] (marks w i e ++ marks_parts w (i + size e) rest) 0 (size e + size_parts rest) h1
      (sees_both s1 s2 s3 (slots_in w e) (slots_parts w rest) (marks w i e) (marks_parts w (i + size e) rest) (size e) (size_parts rest) h2 h3))

  pub clauses_sees : (w : World) (i : ℕ) (s : Seen) (cs : Clauses) → s.next ≡ i → Sees s (see_clauses w s cs) (slots_clauses w cs) (marks_clauses w i cs) (size_clauses cs)
  clauses_sees w i s NoClauses h = sees_none s
  clauses_sees w i s (MoreClauses q body cs) h =
      let s1 = bind_pattern w s q in
      let s2 = see_parts w (S.number s1) body in
      let s3 = see_clauses w s2 cs in
      let h1 = pattern_sees w s q in
      let n1 : s1.next ≡ i = let z = h1.next in omega (arith, z, h) in
      let h2 = sees_both s1 (S.number s1) s2 [] (slots_parts w body) [] (marks_parts w (i + 1) body) 1 (size_parts body) (number_sees s1) (parts_sees w (i + 1) (S.number s1) body (omega (arith, n1))) in
      let n2 : s2.next ≡ i + (size_parts body + 1) = let z = h2.next in omega (arith, z, n1) in
      let h3 = clauses_sees w (i + (size_parts body + 1)) s2 cs n2 in
      let h23 = sees_both s1 s2 s3 (slots_parts w body) (slots_clauses w cs) (marks_parts w (i + 1) body) (marks_clauses w (i + (size_parts body + 1)) cs) (1 + size_parts body) (size_clauses cs) h2 h3 in
      let m : 0 + (1 + size_parts body + size_clauses cs) ≡ size_parts body + 1 + size_clauses cs = omega arith in
      sees_as s s3 (slots_clauses w (MoreClauses q body cs)) (slots_clauses w (MoreClauses q body cs)) (marks_clauses w i (MoreClauses q body cs)) (marks_clauses w i (MoreClauses q body cs)) (0 + (1 + size_parts body + size_clauses cs)) (size_clauses (MoreClauses q body cs)) refl refl m
      (sees_both s s1 s3 (slots w (binders q)) (slots_parts w body ++ slots_clauses w cs) [] (marks_parts w (i + 1) body ++ marks_clauses w (i + (size_parts body + 1)) cs) 0 (1 + size_parts body + size_clauses cs) h1 h23)

-- ---- instances

-- the variables of parameters, numbered from n on
abbrev pub parameter_slots : World → ℕ → List Param → List Bound
parameter_slots w n [] = []
parameter_slots w n (p ∷ ps) = record { binder = n; is_scalar = w.scalar p.ty } ∷ parameter_slots w (n + 1) ps

parameters_see : (w : World) (s : Seen) (n : ℕ) (ps : List Param) → Sees s (bind_parameters w s n ps) (parameter_slots w n ps) [] 0
parameters_see w s n [] = sees_none s
parameters_see w s n (p ∷ ps) =
    let t = bind w s n p.ty in
    sees_both s t (bind_parameters w t (n + 1) ps) (record { binder = n; is_scalar = w.scalar p.ty } ∷ []) (parameter_slots w (n + 1) ps) [] [] 0 0 (bind_sees w s n p.ty) (parameters_see w t (n + 1) ps)

instance_sees : (w : World) (d : Instance) → Sees nothing_seen (see_instance w d) (parameter_slots w 0 d.params ++ slots_parts w d.body) (marks_parts w 1 d.body) (size_parts d.body + 1)
instance_sees w d =
    let s1 = bind_parameters w nothing_seen 0 d.params in
    let s2 = see_block w s1 d.body in
    let h1 = parameters_see w nothing_seen 0 d.params in
    let n1 : s1.next ≡ 0 = let z = h1.next in omega (arith, z) in
    let h2 = sees_both s1 (S.number s1) s2 [] (slots_parts w d.body) [] (marks_parts w 1 d.body) 1 (size_parts d.body) (number_sees s1) (parts_sees w 1 (S.number s1) d.body (omega (arith, n1))) in
    let m : 0 + (1 + size_parts d.body) ≡ size_parts d.body + 1 = omega arith in
    sees_as nothing_seen s2 (parameter_slots w 0 d.params ++ slots_parts w d.body) (parameter_slots w 0 d.params ++ slots_parts w d.body) (marks_parts w 1 d.body) (marks_parts w 1 d.body) (0 + (1 + size_parts d.body)) (size_parts d.body + 1) refl refl m
    (sees_both nothing_seen s1 s2 (parameter_slots w 0 d.params) (slots_parts w d.body) [] (marks_parts w 1 d.body) 0 (1 + size_parts d.body) h1 h2)

pub instance_variables : (w : World) (d : Instance) → (see_instance w d).variables ≡ parameter_slots w 0 d.params ++ slots_parts w d.body
instance_variables w d = (instance_sees w d).variables

pub instance_occurrences : (w : World) (d : Instance) → (see_instance w d).occurrences ≡ marks_parts w 1 d.body
instance_occurrences w d = (instance_sees w d).occurrences
