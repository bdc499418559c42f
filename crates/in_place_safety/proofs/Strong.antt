-- A fip instance that is derived calls fip instances alone: each of its calls is strong enough.
use Rattle.std.proofs.Common.{◌≡◌, ◌<◌, ℕ, zero, suc, Bool, true, false, not, List, [], ◌∷◌, ◌++◌, length, Some, slice_get, refl, sym, ap, ◌∙◌, subst}
use Rattle.tail_groups.specs.fip_language.declared.FunKind.{FunKind}
use Rattle.tail_groups.specs.fip_language.declared.FunKind.TheVariants.{Fip, Fbip, Fun}
use Rattle.tail_groups.proofs.fip_language.Search.{slice_get_there}
use Rattle.tail_groups.specs.fip_trees.Tree.{Argument, Pattern, Expression, Give, Tuple, Operation, Call, Match, Nested, Block, Last, Let, Clauses, NoClauses, MoreClauses, Program}
use Rattle.tail_groups.specs.Sites.{Site, sites, block_sites, clauses_sites, instance_sites}
use Rattle.tail_groups.specs.Rules.{is_fip}
use Rattle.tail_groups.specs.Members.{FipCallsFip}
use Rattle.ownership_agreement.specs.fip_rules.World.{World, world, weaker, weaker_than, is_weaker}
use Rattle.ownership_agreement.specs.fip_rules.Shapes.{Names, following, binders, takes, shape}
use Rattle.type_safety.specs.Formed.{FormedExpression, FormedBlock, FormedClauses, IsFormed}
use Rattle.type_safety.proofs.WellTyped.{formed_at}
use Rattle.ownership_agreement.specs.ownership_calculus.Terms as C
use Rattle.ownership_agreement.specs.ownership_calculus.Terms.{Item}
use Rattle.ownership_agreement.specs.ownership_calculus.Rules.{setting}
use Rattle.ownership_agreement.specs.ownership_calculus.ByCases.{Derives, DerivesLent, DerivesTaken}
use Rattle.ownership_agreement.specs.ownership_calculus.Functions.{starting}
use Rattle.ownership_agreement.proofs.ownership_calculus.Faithful.{by_cases}
use Rattle.ownership_agreement.specs.Bodies.{Scalars, variables, entering, nodes, inside, past_clause, matched, term, term_block, clauses, borrowed_parameters, owned_parameters, body_term}
use Rattle.in_place_safety.specs.Conservation.{AreFipDerived}
use Rattle.in_place_safety.proofs.Keeping.{derived_at, fip_derived}
use Rattle.in_place_safety.proofs.Runs.{AllSites}

-- ---- lists of sites

join_sites : (P : Site → Type 0) (ss rs : List Site) → AllSites P ss → AllSites P rs → AllSites P (ss ++ rs)
join_sites P [] rs h g = g
join_sites P (s ∷ ss) rs h g = (h.0, join_sites P ss rs h.1 g)

site_in : (P : Site → Type 0) (ss : List Site) (i : ℕ) (s : Site) → AllSites P ss → slice_get ss i ≡ Some s → P s
site_in P [] i s h e = cc
site_in P (r ∷ ss) zero s h e = let same : r ≡ s = cc in subst P same h.0
site_in P (r ∷ ss) (suc i) s h e = site_in P ss i s h.1 e

-- ---- clauses

abbrev ClausesDerive : Bool → (ℕ → Bool) → (Item → ℕ) → C.Clauses → Type 0
ClausesDerive true B R cs = DerivesTaken true B R cs
ClausesDerive false B R cs = DerivesLent true B R cs

record Derivable (e : C.Term) : Type 0 where
  borrowed : ℕ → Bool
  owned : Item → ℕ
  derived : Derives true borrowed owned e

clauses_derive : (w : World) (sc : Scalars) (c : Names) (taken : Bool) (a : Argument) (cs : C.Clauses) (B : ℕ → Bool) (O : Item → ℕ) → Derives true B O (matched w sc c.marks taken a cs) → (R : Item → ℕ) × ClausesDerive taken B R cs
clauses_derive w sc c true a cs B O h = (h.1, h.4)
clauses_derive w sc c false a cs B O h = (O, h.1)

first_derives : (w : World) (sc : Scalars) (taken : Bool) (c : Names) (ys ks : List ℕ) (e : C.Term) (cs : Clauses) (B : ℕ → Bool) (R : Item → ℕ) → ClausesDerive taken B R (clauses w sc taken c ys ks e cs) → Derivable e
first_derives w sc true c ys ks e NoClauses B R h = record { borrowed = setting ys false B; owned = h.0; derived = h.2 }
first_derives w sc true c ys ks e (MoreClauses q body cs) B R h = record { borrowed = setting ys false B; owned = h.0; derived = h.2 }
first_derives w sc false c ys ks e NoClauses B R h = record { borrowed = setting ys true B; owned = h.0; derived = h.2 }
first_derives w sc false c ys ks e (MoreClauses q body cs) B R h = record { borrowed = setting ys true B; owned = h.0; derived = h.2 }

later_derive : (w : World) (sc : Scalars) (taken : Bool) (c : Names) (ys ks : List ℕ) (e : C.Term) (q : Pattern) (body : Block) (cs : Clauses) (B : ℕ → Bool) (R : Item → ℕ) → ClausesDerive taken B R (clauses w sc taken c ys ks e (MoreClauses q body cs)) → ClausesDerive taken B R (clauses w sc taken (past_clause w taken c q body) (variables w c.next (binders q)) (nodes q) (term_block w (entering w c.next sc (binders q)) (inside w taken c (binders q)) body) cs)
later_derive w sc true c ys ks e q body cs B R h = h.3
later_derive w sc false c ys ks e q body cs B R h = h.3

-- ---- trees

module _ (p : Program) where
  abbrev w : World
  w = world p Fip

  -- what is called is there, and strong enough
  record IsStrong (s : Site) : Type 0 where
    there : s.callee < length p.instances
    strong : not (weaker w s.callee) ≡ true

  mutual
    expression_strong : (sc : Scalars) (c : Names) (e : Expression) (tail : Bool) (B : ℕ → Bool) (O : Item → ℕ) → FormedExpression p e → Derives true B O (term w sc c e) → AllSites IsStrong (sites tail e)
    expression_strong sc c (Give a) tail B O f h = tt
    expression_strong sc c (Tuple q as') tail B O f h = tt
    expression_strong sc c (Operation o q l r) tail B O f h = tt
    expression_strong sc c (Call g n q as') tail B O f h = (record { there = f.0; strong = h.0 }, tt)
    expression_strong sc c (Match ds t q a r body cs) tail B O f h =
        let taken = takes w ds t in
        let inner = term_block w (entering w c.next sc (binders r)) (inside w taken c (binders r)) body in
        let d = clauses_derive w sc c taken a (clauses w sc taken (past_clause w taken c r body) (variables w c.next (binders r)) (nodes r) inner cs) B O h in
        let one = first_derives w sc taken (past_clause w taken c r body) (variables w c.next (binders r)) (nodes r) inner cs B d.0 d.1 in
        join_sites IsStrong (block_sites tail body) (clauses_sites tail cs)
        (block_strong (entering w c.next sc (binders r)) (inside w taken c (binders r)) body tail one.borrowed one.owned f.1 one.derived)
        (clauses_strong sc taken (past_clause w taken c r body) (variables w c.next (binders r)) (nodes r) inner cs tail B d.0 f.2 d.1)
    expression_strong sc c (Nested b) tail B O f h = block_strong sc c b tail B O f h

    block_strong : (sc : Scalars) (c : Names) (b : Block) (tail : Bool) (B : ℕ → Bool) (O : Item → ℕ) → FormedBlock p b → Derives true B O (term_block w sc c b) → AllSites IsStrong (block_sites tail b)
    block_strong sc c (Last e) tail B O f h = expression_strong sc c e tail B O f h
    block_strong sc c (Let bs e rest) tail B O f h =
        let d = following c (shape w c e) in
        join_sites IsStrong (sites false e) (block_sites tail rest)
        (expression_strong sc c e false _ _ f.0 h.5)
        (block_strong (entering w d.next sc bs) (inside w true d bs) rest tail _ _ f.1 h.6)

    clauses_strong : (sc : Scalars) (taken : Bool) (c : Names) (ys ks : List ℕ) (e : C.Term) (cs : Clauses) (tail : Bool) (B : ℕ → Bool) (R : Item → ℕ) → FormedClauses p cs → ClausesDerive taken B R (clauses w sc taken c ys ks e cs) → AllSites IsStrong (clauses_sites tail cs)
    clauses_strong sc taken c ys ks e NoClauses tail B R f h = tt
    clauses_strong sc taken c ys ks e (MoreClauses q body cs) tail B R f h =
        let inner = term_block w (entering w c.next sc (binders q)) (inside w taken c (binders q)) body in
        let later = later_derive w sc taken c ys ks e q body cs B R h in
        let one = first_derives w sc taken (past_clause w taken c q body) (variables w c.next (binders q)) (nodes q) inner cs B R later in
        join_sites IsStrong (block_sites tail body) (clauses_sites tail cs)
        (block_strong (entering w c.next sc (binders q)) (inside w taken c (binders q)) body tail one.borrowed one.owned f.0 one.derived)
        (clauses_strong sc taken (past_clause w taken c q body) (variables w c.next (binders q)) (nodes q) inner cs tail B R f.1 later)

fip_kind : (k : FunKind) → is_fip k ≡ true → k ≡ Fip
fip_kind Fip e = refl
fip_kind Fbip e = cc
fip_kind Fun e = cc

kind_fip : (k : FunKind) → not (is_weaker Fip k) ≡ true → is_fip k ≡ true
kind_fip Fip e = refl
kind_fip Fbip e = cc
kind_fip Fun e = cc

-- fip instances call fip ones alone
pub fip_calls_fip : (p : Program) → IsFormed p → AreFipDerived p p.instances → FipCallsFip p.instances
fip_calls_fip p formed derived i d s e k here =
    let kind = fip_kind d.kind k in
    let rules = fip_derived p d Fip kind (derived_at p p.instances i d derived e kind) in
    let own = owned_parameters (world p Fip) 0 d.params d.binders in
    let lent = borrowed_parameters (world p Fip) 0 d.params d.binders in
    let all = block_strong p _ _ d.body true _ _ (formed_at p p.instances i d formed.bodies e).body (by_cases true (setting own false (Rattle.ownership_agreement.specs.ownership_calculus.Terms.has lent)) (starting own d.credits) (body_term (world p Fip) d) rules) in
    let one = site_in (IsStrong p) (instance_sites d) here.0 s all here.1 in
    let x = slice_get_there p.instances s.callee one.there in
    (x.0, x.1, kind_fip x.0.kind (sym (ap (λ o. not (weaker_than Fip o)) x.1) ∙ one.strong))
