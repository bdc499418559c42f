-- What lowering requires of a program so that its code is laid out, that of an accepted source gives: its expressions
-- have values and its lets binders, and what its expressions need is what was reported of them.
use Rattle.std.proofs.Common.{◌≡◌, ◌≤◌, ◌<◌, ◌-◌, ◌+◌, ℕ, zero, suc, Bool, true, not, ◌&&◌, List, [], ◌∷◌, ◌++◌, length, map, drop, Some, slice_get, refl, sym, ap, ap₂, ◌∙◌, subst, arith}
use Rattle.std.proofs.lemmas.Option.{none-some, same_Some}
use Rattle.lowering_soundness.specs.fip_language.declared.FunKind.{FunKind}
use Rattle.lowering_soundness.specs.fip_language.declared.FunKind.TheVariants.{Fip, Fbip, Fun}
use Rattle.lowering_soundness.specs.fip_language.declared.limits.TheConstants.{MOST_FIELDS}
use Rattle.lowering_soundness.specs.fip_trees.declared.needs.Need.{Need}
use Rattle.lowering_soundness.specs.fip_trees.declared.program.Binder.{Binder}
use Rattle.lowering_soundness.specs.fip_trees.NeedsView.{needs_of}
use Rattle.lowering_soundness.specs.fip_trees.Sizes.{number, greater}
use Rattle.lowering_soundness.specs.fip_trees.Tree.{Argument, Variable, Literal, Constructor, Arguments, NoArguments, MoreArguments, count}
use Rattle.lowering_soundness.specs.fip_trees.Tree.{Expression, Give, Tuple, Operation, Call, Match, Nested, Block, Last, Let, Clauses, NoClauses, MoreClauses, Instance, Program}
use Rattle.lowering_soundness.specs.type_check.Binders.{all_annotated, entries}
use Rattle.lowering_soundness.specs.type_check.Scope.{Scope}
use Rattle.lowering_soundness.specs.type_check.Typing.{bound_by, HaveTypes, Bind, Types, TypesBlock, TypesClauses}
use Rattle.lowering_soundness.specs.type_check.World as W
use Rattle.source_safety.specs.type_safety.Formed.{FormedArgument, FormedArguments, FormedExpression, FormedBlock, FormedClauses}
use Rattle.lowering_soundness.specs.credit_check.Needs as N
use Rattle.lowering_soundness.specs.credit_check.Needs.{made_all, asked, given, takes}
use Rattle.lowering_soundness.specs.credit_check.Tallies.{sizes, needs, parts_needs, clauses_needs, instance_needs, all_needs, block_needs}
use Rattle.lowering_soundness.proofs.credit_check.Amounts.{expression_at}
use Rattle.lowering_soundness.specs.ownership_agreement.Sized.{IsVariable, SizedExpression, SizedBlock, SizedClauses}
use Rattle.derivation_correctness.specs.source_report.Order.{Spans, SpansBlock, SpansClauses}
use Rattle.lowering_soundness.specs.lowering_relation.LoweredBodies.{has_function}
use Rattle.lowering_soundness.specs.lowering_relation.LoweredFunctions.{IsSettingOf}
use Rattle.lowering_soundness.specs.lowering_relation.Values.{Setting}
use Rattle.lowering_soundness.specs.lowering_relation.Matches.{variable_of}
use Rattle.lowering_soundness.specs.lowering_relation.Uses as U
use Rattle.lowering_soundness.specs.lowering_relation.Uses.{gives_credits}
use Rattle.lower_parts.specs.Bodies.{Founded, FoundedAll, IsSome, FoundedIn, FoundedBlock, FoundedClauses, span, span_rest, span_clauses, HasNeeds, NeedsRest, NeedsClauses}

-- ---- expressions have values, and lets binders

module _ (p : Program) where
  mutual
    argument_founded : (a : Argument) → FormedArgument p a → Founded p.types a
    argument_founded (Variable x n q) h = tt
    argument_founded (Literal i q) h = tt
    argument_founded (Constructor t d c n q as') h = (h.0, arguments_founded as' h.1)

    arguments_founded : (as' : Arguments) → FormedArguments p as' → FoundedAll p.types as'
    arguments_founded NoArguments h = tt
    arguments_founded (MoreArguments a as') h = (argument_founded a h.0, arguments_founded as' h.1)

scrutinee_is : (a : Argument) → IsVariable a → IsSome (variable_of a)
scrutinee_is (Variable x n q) h = tt
scrutinee_is (Literal i q) h = absurd h
scrutinee_is (Constructor t d c n q as') h = absurd h

values_many : (w : W.World) (s : Scope) (b : Bool) (as' : Arguments) (ts : List ℕ) → HaveTypes true w s b as' ts → count as' ≡ length ts
values_many w s b NoArguments [] h = refl
values_many w s b NoArguments (t ∷ ts) h = absurd h
values_many w s b (MoreArguments a as') [] h = absurd h
values_many w s b (MoreArguments a as') (t ∷ ts) h = ap suc (values_many w s b as' ts h.1)

binders_many : (bs : List Binder) (ts : List ℕ) → Bind true bs ts → length bs ≡ length ts
binders_many [] [] h = refl
binders_many [] (t ∷ ts) h = absurd h
binders_many (b ∷ bs) [] h = absurd h
binders_many (b ∷ bs) (t ∷ ts) h = ap suc (binders_many bs ts h.1)

module _ (p : Program) where
  abbrev w : W.World
  w = W.world p

  mutual
    expression_founded : (s : Scope) (b : Bool) (e : Expression) (ts : List ℕ) (n m : ℕ) → 0 < length ts → FormedExpression p e → SizedExpression p e → Types true w s b e ts → Spans n m e → FoundedIn p.types e
    expression_founded s b (Give a) ts n m some f z t o = argument_founded p a f
    expression_founded s b (Tuple q as') ts n m some f z t o = ((let e = values_many w s b as' ts t.1 in omega (arith, some, e)), arguments_founded p as' f)
    expression_founded s b (Operation i q x y) ts n m some f z t o = (argument_founded p x f.0, argument_founded p y f.1)
    expression_founded s b (Call g x q as') ts n m some f z t o = arguments_founded p as' f.1
    expression_founded s b (Match k u q a r body cs) ts n m some f z t o = (
      scrutinee_is a z.0,
      block_founded (s ++ bound_by w (Some t.0) r) b body ts o.0 o.1 some f.1 z.2 t.4 o.3,
      clauses_founded s t.0 cs ts o.1 m some f.2 z.3 t.5 o.4,
    )
    expression_founded s b (Nested d) ts n m some f z t o = block_founded s b d ts n m some f z t o

    pub block_founded : (s : Scope) (b : Bool) (d : Block) (ts : List ℕ) (n m : ℕ) → 0 < length ts → FormedBlock p d → SizedBlock p d → TypesBlock true w s b d ts → SpansBlock n m d → FoundedBlock p.types d
    block_founded s b (Last e) ts n m some f z t o = expression_founded s b e ts n m some f z t o
    block_founded s b (Let bs e rest) ts n m some f z t o = (
      o.2,
      expression_founded s (all_annotated bs) e t.0 n o.0 (let e = binders_many bs t.0 t.2 in let x = o.2 in omega (arith, e, x)) f.0 z.0 t.1 o.3,
      block_founded (s ++ entries bs (map Some t.0)) b rest ts o.1 m some f.1 z.1 t.3 o.5,
    )

    clauses_founded : (s : Scope) (t : ℕ) (cs : Clauses) (ts : List ℕ) (n m : ℕ) → 0 < length ts → FormedClauses p cs → SizedClauses p cs → TypesClauses true w s t cs ts → SpansClauses n m cs → FoundedClauses p.types cs
    clauses_founded s t NoClauses ts n m some f z h o = tt
    clauses_founded s t (MoreClauses r body cs) ts n m some f z h o = (
      block_founded (s ++ bound_by w (Some t) r) true body ts o.0 o.1 some f.0 z.1 h.1 o.3,
      clauses_founded s t cs ts o.1 m some f.1 z.2 h.2 o.4,
    )

-- ---- what expressions need

module _ (p : Program) (st : Setting) (so : IsSettingOf p st) (k : ℕ) where
  takes_same : (d : Bool) (t : ℕ) → gives_credits st d t ≡ takes p d t
  takes_same d t = ap (λ b. d && not b) (so.scalar t)

  mutual
    need_same : (e : Expression) → U.need st k e ≡ N.need p k e
    need_same (Give a) = refl
    need_same (Tuple q as') = refl
    need_same (Operation o q x y) = refl
    need_same (Call g n q as') = ap (λ ds. made_all k as' + asked k (slice_get ds g)) so.instances
    need_same (Match d t q a r body cs) = ap₂ greater (ap₂ (λ m n. m - n) (need_block_same body) (ap (λ b. given k b r) (takes_same d t))) (need_clauses_same (gives_credits st d t) cs ∙ ap (λ b. N.need_clauses p k b cs) (takes_same d t))
    need_same (Nested b) = need_block_same b

    need_block_same : (b : Block) → U.need_block st k b ≡ N.need_block p k b
    need_block_same (Last e) = need_same e
    need_block_same (Let bs e rest) = ap₂ (λ m n. m + n) (need_same e) (need_block_same rest)

    need_clauses_same : (taken : Bool) (cs : Clauses) → U.need_clauses st k taken cs ≡ N.need_clauses p k taken cs
    need_clauses_same taken NoClauses = refl
    need_clauses_same taken (MoreClauses q body cs) = ap₂ greater (ap (λ n. n - given k taken q) (need_block_same body)) (need_clauses_same taken cs)

both_many : (xs ys : List Need) → length (xs ++ ys) ≡ length xs + length ys
both_many [] ys = omega arith
both_many (x ∷ xs) ys = let r = both_many xs ys in omega (arith, r)

again : (xs ys zs : List Need) → (xs ++ ys) ++ zs ≡ xs ++ (ys ++ zs)
again [] ys zs = refl
again (x ∷ xs) ys zs = ap (λ l. x ∷ l) (again xs ys zs)

past : (xs ys : List Need) (n : ℕ) → length xs ≡ n → drop n (xs ++ ys) ≡ ys
past [] ys zero e = refl
past [] ys (suc n) e = absurd (let z : ⊥ = omega (arith, e) in z)
past (x ∷ xs) ys zero e = absurd (let z : ⊥ = omega (arith, e) in z)
past (x ∷ xs) ys (suc n) e = past xs ys n (omega (arith, e))

module _ (p : Program) where
  mutual
    needs_many : (e : Expression) → length (needs p e) ≡ span e
    needs_many (Give a) = refl
    needs_many (Tuple q as') = refl
    needs_many (Operation o q x y) = refl
    needs_many (Call g n q as') = refl
    needs_many (Match d t q a r body cs) =
        let e = both_many (parts_needs p body) (clauses_needs p cs) in
        let x = parts_many body in
        let y = clauses_many cs in
        omega (arith, e, x, y)
    needs_many (Nested b) = ap suc (parts_many b)

    parts_many : (b : Block) → length (parts_needs p b) ≡ span_rest b
    parts_many (Last e) = needs_many e
    parts_many (Let bs e rest) =
        let z = both_many (needs p e) (parts_needs p rest) in
        let x = needs_many e in
        let y = parts_many rest in
        omega (arith, z, x, y)

    clauses_many : (cs : Clauses) → length (clauses_needs p cs) ≡ span_clauses cs
    clauses_many NoClauses = refl
    clauses_many (MoreClauses q body cs) =
        let e = both_many (parts_needs p body) (clauses_needs p cs) in
        let x = parts_many body in
        let y = clauses_many cs in
        omega (arith, e, x, y)

module _ (p : Program) (st : Setting) (so : IsSettingOf p st) where
  amount : (e : Expression) (k : ℕ) → 1 ≤ k → k ≤ MOST_FIELDS → number (sizes p e) k ≡ U.need st k e
  amount e k low high = expression_at p k (omega (arith, low)) (omega (arith, high)) e ∙ sym (need_same p st so k e)

  mutual
    expression_needs : (rest : List Need) (e : Expression) → HasNeeds st (needs p e ++ rest) e
    expression_needs rest (Give a) = tt
    expression_needs rest (Tuple q as') = tt
    expression_needs rest (Operation o q x y) = tt
    expression_needs rest (Call g n q as') = tt
    expression_needs rest (Match d t q a r body cs) =
        let e = Match d t q a r body cs in
        let x : Need = record { sizes = sizes p e; span = length (needs p e) } in
        let together = again (parts_needs p body) (clauses_needs p cs) rest in (
          (x, refl, λ k low high. amount e k low high),
          subst (λ ns. NeedsRest st ns body) (sym together) (block_needs_of (clauses_needs p cs ++ rest) body),
          subst (λ ns. NeedsClauses st ns cs) (sym (ap (drop (span_rest body)) together ∙ past (parts_needs p body) (clauses_needs p cs ++ rest) (span_rest body) (parts_many p body))) (clauses_needs_of rest cs),
        )
    expression_needs rest (Nested b) = block_needs_of rest b

    pub block_needs_of : (rest : List Need) (b : Block) → NeedsRest st (parts_needs p b ++ rest) b
    block_needs_of rest (Last e) = expression_needs rest e
    block_needs_of rest (Let bs e b) =
        let together = again (needs p e) (parts_needs p b) rest in (
          subst (λ ns. HasNeeds st ns e) (sym together) (expression_needs (parts_needs p b ++ rest) e),
          subst (λ ns. NeedsRest st ns b) (sym (ap (drop (span e)) together ∙ past (needs p e) (parts_needs p b ++ rest) (span e) (needs_many p e))) (block_needs_of rest b),
        )

    clauses_needs_of : (rest : List Need) (cs : Clauses) → NeedsClauses st (clauses_needs p cs ++ rest) cs
    clauses_needs_of rest NoClauses = tt
    clauses_needs_of rest (MoreClauses q body cs) =
        let together = again (parts_needs p body) (clauses_needs p cs) rest in (
          subst (λ ns. NeedsRest st ns body) (sym together) (block_needs_of (clauses_needs p cs ++ rest) body),
          subst (λ ns. NeedsClauses st ns cs) (sym (ap (drop (span_rest body)) together ∙ past (parts_needs p body) (clauses_needs p cs ++ rest) (span_rest body) (parts_many p body))) (clauses_needs_of rest cs),
        )

append_none : (xs : List Need) → xs ++ [] ≡ xs
append_none [] = refl
append_none (x ∷ xs) = ap (λ l. x ∷ l) (append_none xs)

needs_there : (p : Program) (ds : List Instance) (g : ℕ) (d : Instance) → slice_get ds g ≡ Some d → needs_of (all_needs p ds) g ≡ instance_needs p d.kind d
needs_there p [] g d e = absurd (none-some d e)
needs_there p (x ∷ ds) zero d e = ap (λ (d : Instance). instance_needs p d.kind d) (same_Some x d e)
needs_there p (x ∷ ds) (suc g) d e = needs_there p ds g d e

needs_ruled : (p : Program) (k : FunKind) (d : Instance) → has_function k ≡ true → instance_needs p k d ≡ block_needs p d.body
needs_ruled p Fip d e = refl
needs_ruled p Fbip d e = refl
needs_ruled p Fun d e = absurd (cc)

pub body_needs : (p : Program) (st : Setting) → IsSettingOf p st → (g : ℕ) (d : Instance) → slice_get p.instances g ≡ Some d → has_function d.kind ≡ true → NeedsRest st (drop 1 (needs_of (all_needs p p.instances) g)) d.body
body_needs p st so g d there has =
    subst (λ ns. NeedsRest st ns d.body) (append_none (parts_needs p d.body) ∙ sym (ap (drop 1) (needs_there p p.instances g d there ∙ needs_ruled p d.kind d has))) (block_needs_of p st so [] d.body)
