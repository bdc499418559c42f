-- A fip instance calls fip ones alone, where no rule on ownership is broken: a call of another kind is a fault in the
-- shape of the body, wherever it is.
use Rattle.std.proofs.Common.{◌≡◌, ◌<◌, ◌+◌, ◌⊎◌, inl, inr, ℕ, zero, suc, Bool, true, false, List, [], ◌∷◌, length, Some, slice_get, if◌then◌else◌, refl, sym, ap, ◌∙◌, subst, arith}
use Rattle.cell_lower.proofs.fip_language.Search.{slice_get_there}
use Rattle.cell_lower.specs.fip_language.declared.FunKind.{FunKind}
use Rattle.cell_lower.specs.fip_language.declared.FunKind.TheVariants.{Fip, Fbip, Fun}
use Rattle.cell_lower.specs.fip_language.declared.Place.{Place}
use Rattle.cell_lower.specs.fip_language.declared.rule.Rule.TheVariants.{E55}
use Rattle.cell_lower.specs.fip_language.Every.{Among}
use Rattle.cell_lower.specs.fip_trees.Tree as T
use Rattle.cell_lower.specs.fip_trees.Tree.{Name, Program, Instance}
use Rattle.ownership_agreement.specs.fip_rules.Checks as O
use Rattle.ownership_agreement.specs.fip_rules.Marks.{Breach, reported}
use Rattle.ownership_agreement.specs.fip_rules.Rules as R
use Rattle.ownership_agreement.specs.fip_rules.Shape as S
use Rattle.ownership_agreement.specs.fip_rules.Shapes.{Names, Bind, token, called, binds, within, following, taking, binders, takes, clause_shape, shape, shape_block, shape_clauses, parameters, no_names}
use Rattle.ownership_agreement.specs.fip_rules.World.{World, world, weaker, weaker_than, is_weaker}
use Rattle.ownership_agreement.specs.fip_rules.World as W
use Rattle.cell_lower.specs.tail_groups.Members.{FipCallsFip}
use Rattle.cell_lower.specs.tail_groups.Rules as Tail
use Rattle.cell_lower.specs.tail_groups.Sites.{Site, sites, block_sites, clauses_sites, instance_sites}
use Rattle.source_report.specs.Report.{IsOwned}
use Rattle.source_report.specs.WellFormed.{IsKnown, IsKnownBlock, AreKnownClauses}
use Rattle.static_params.proofs.GoodTypes.{among_either}
use Rattle.source_report.proofs.Ready.{typed_formed}
use Rattle.static_params.proofs.TypeRows.{there_among}

-- ---- each call is of an instance

mutual
  site_known : (p : Program) (t : Bool) (e : T.Expression) (s : Site) → IsKnown p e → Among s (sites t e) → s.callee < length p.instances
  site_known p t (T.Give a) s k h = absurd h
  site_known p t (T.Tuple q as') s k h = absurd h
  site_known p t (T.Operation o q l r) s k h = absurd h
  site_known p t (T.Call g n q as') s k (inl e) = subst (λ (s : Site). s.callee < length p.instances) (sym e) k
  site_known p t (T.Call g n q as') s k (inr h) = absurd h
  site_known p t (T.Match d u q a r b cs) s k h = by (among_either s (block_sites t b) (clauses_sites t cs) h) (block_known p t b s k.1) (clauses_known p t cs s k.2)
    where
      by : Among s (block_sites t b) ⊎ Among s (clauses_sites t cs) → (Among s (block_sites t b) → s.callee < length p.instances) → (Among s (clauses_sites t cs) → s.callee < length p.instances) → s.callee < length p.instances
      by (inl x) f g = f x
      by (inr x) f g = g x
  site_known p t (T.Nested b) s k h = block_known p t b s k h

  block_known : (p : Program) (t : Bool) (b : T.Block) (s : Site) → IsKnownBlock p b → Among s (block_sites t b) → s.callee < length p.instances
  block_known p t (T.Last e) s k h = site_known p t e s k h
  block_known p t (T.Let bs e rest) s k h = by (among_either s (sites false e) (block_sites t rest) h) (site_known p false e s k.0) (block_known p t rest s k.1)
    where
      by : Among s (sites false e) ⊎ Among s (block_sites t rest) → (Among s (sites false e) → s.callee < length p.instances) → (Among s (block_sites t rest) → s.callee < length p.instances) → s.callee < length p.instances
      by (inl x) f g = f x
      by (inr x) f g = g x

  clauses_known : (p : Program) (t : Bool) (cs : T.Clauses) (s : Site) → AreKnownClauses p cs → Among s (clauses_sites t cs) → s.callee < length p.instances
  clauses_known p t T.NoClauses s k h = absurd h
  clauses_known p t (T.MoreClauses q b cs) s k h = by (among_either s (block_sites t b) (clauses_sites t cs) h) (block_known p t b s k.1) (clauses_known p t cs s k.2)
    where
      by : Among s (block_sites t b) ⊎ Among s (clauses_sites t cs) → (Among s (block_sites t b) → s.callee < length p.instances) → (Among s (clauses_sites t cs) → s.callee < length p.instances) → s.callee < length p.instances
      by (inl x) f g = f x
      by (inr x) f g = g x

-- ---- a call of a weaker kind is a fault

-- the breach at a call
abbrev at_site : ℕ → Site → Breach
at_site i s = R.broken E55 i (token s.place s.name)

within_binds : (i n : ℕ) (fip : Bool) (bs : List Bind) (e : S.Shape) (v : Breach) → R.Breaks i fip e v → R.Breaks i fip (binds n bs e) v
within_binds i n fip [] e v h = h
within_binds i n fip (b ∷ bs) e v h = inl (inl (within_binds i (suc n) fip bs e v h))

-- what the first alternatives break, all break
first_breaks : (w : World) (i : ℕ) (fip taken : Bool) (c : Names) (done : S.Shape) (cs : T.Clauses) (v : Breach) → R.Breaks i fip done v → R.Breaks i fip (shape_clauses w taken c done cs) v
first_breaks w i fip taken c done T.NoClauses v h = h
first_breaks w i fip taken c done (T.MoreClauses q b cs) v h =
    first_breaks w i fip taken c (S.Either done (clause_shape (following c done) (taking w taken (binders q)) (λ d. shape_block w d b))) cs v (inl h)

call_breaks : (i : ℕ) (fip : Bool) (g : ℕ) (p : Place) (n : Name) (w : World) → weaker w g ≡ true → R.Breaks i fip (called w g p n) (R.broken E55 i (token p n))
call_breaks i fip g p n w e = subst (λ b. R.Breaks i fip (if b then S.Fault E55 (token p n) else S.Skip) (R.broken E55 i (token p n))) (sym e) refl

clause_by : (w : World) (c : Names) (i : ℕ) (fip taken : Bool) (q : T.Pattern) (b : T.Block) (cs : T.Clauses) (done : S.Shape) (t : Bool) (s : Site) →
    Among s (block_sites t b) ⊎ Among s (clauses_sites t cs) →
    (Among s (block_sites t b) → R.Breaks i fip (shape_block w (within (following c done) (taking w taken (binders q))) b) (at_site i s)) →
    (Among s (clauses_sites t cs) → R.Breaks i fip (shape_clauses w taken c (S.Either done (clause_shape (following c done) (taking w taken (binders q)) (λ d. shape_block w d b))) cs) (at_site i s)) →
    R.Breaks i fip (shape_clauses w taken c done (T.MoreClauses q b cs)) (at_site i s)
clause_by w c i fip taken q b cs done t s (inl x) f g =
    first_breaks w i fip taken c (S.Either done (clause_shape (following c done) (taking w taken (binders q)) (λ d. shape_block w d b))) cs (at_site i s)
    (inr (within_binds i (following c done).next fip (taking w taken (binders q)) (shape_block w (within (following c done) (taking w taken (binders q))) b) (at_site i s) (f x)))
clause_by w c i fip taken q b cs done t s (inr x) f g = g x

clauses_by : (w : World) (c : Names) (i : ℕ) (fip taken : Bool) (r : T.Pattern) (b : T.Block) (cs : T.Clauses) (t : Bool) (s : Site) →
    Among s (block_sites t b) ⊎ Among s (clauses_sites t cs) →
    (Among s (block_sites t b) → R.Breaks i fip (shape_block w (within c (taking w taken (binders r))) b) (at_site i s)) →
    (Among s (clauses_sites t cs) → (done : S.Shape) → R.Breaks i fip (shape_clauses w taken c done cs) (at_site i s)) →
    R.Breaks i fip (shape_clauses w taken c (clause_shape c (taking w taken (binders r)) (λ d. shape_block w d b)) cs) (at_site i s)
clauses_by w c i fip taken r b cs t s (inl x) f g =
    first_breaks w i fip taken c (clause_shape c (taking w taken (binders r)) (λ d. shape_block w d b)) cs (at_site i s)
    (within_binds i c.next fip (taking w taken (binders r)) (shape_block w (within c (taking w taken (binders r))) b) (at_site i s) (f x))
clauses_by w c i fip taken r b cs t s (inr x) f g = g x (clause_shape c (taking w taken (binders r)) (λ d. shape_block w d b))

mutual
  site_breaks : (w : World) (c : Names) (i : ℕ) (fip t : Bool) (e : T.Expression) (s : Site) → weaker w s.callee ≡ true → Among s (sites t e) → R.Breaks i fip (shape w c e) (at_site i s)
  site_breaks w c i fip t (T.Give a) s k h = absurd h
  site_breaks w c i fip t (T.Tuple q as') s k h = absurd h
  site_breaks w c i fip t (T.Operation o q l r) s k h = absurd h
  site_breaks w c i fip t (T.Call g n q as') s k (inl e) =
      let here : weaker w g ≡ true = subst (λ (s : Site). weaker w s.callee ≡ true) e k in
      inl (subst (λ (s : Site). R.Breaks i fip (called w g q n) (at_site i s)) (sym e) (call_breaks i fip g q n w here))
  site_breaks w c i fip t (T.Call g n q as') s k (inr h) = absurd h
  site_breaks w c i fip t (T.Match d u q a r b cs) s k h =
      inr (clauses_by w c i fip (takes w d u) r b cs t s (among_either s (block_sites t b) (clauses_sites t cs) h)
      (λ x. block_breaks w (within c (taking w (takes w d u) (binders r))) i fip t b s k x)
      (λ x done. clauses_break w c i fip t (takes w d u) cs done s k x))
  site_breaks w c i fip t (T.Nested b) s k h = block_breaks w c i fip t b s k h

  block_breaks : (w : World) (c : Names) (i : ℕ) (fip t : Bool) (b : T.Block) (s : Site) → weaker w s.callee ≡ true → Among s (block_sites t b) → R.Breaks i fip (shape_block w c b) (at_site i s)
  block_breaks w c i fip t (T.Last e) s k h = site_breaks w c i fip t e s k h
  block_breaks w c i fip t (T.Let bs e rest) s k h =
      let next = following c (shape w c e) in
      by (among_either s (sites false e) (block_sites t rest) h) (site_breaks w c i fip false e s k) (block_breaks w (within next (taking w true bs)) i fip t rest s k)
    where
      by : Among s (sites false e) ⊎ Among s (block_sites t rest) → (Among s (sites false e) → R.Breaks i fip (shape w c e) (at_site i s)) →
          (Among s (block_sites t rest) → R.Breaks i fip (shape_block w (within (following c (shape w c e)) (taking w true bs)) rest) (at_site i s)) →
          R.Breaks i fip (shape_block w c (T.Let bs e rest)) (at_site i s)
      by (inl x) f g = inl (f x)
      by (inr x) f g = inr (within_binds i (following c (shape w c e)).next fip (taking w true bs) (shape_block w (within (following c (shape w c e)) (taking w true bs)) rest) (at_site i s) (g x))

  clauses_break : (w : World) (c : Names) (i : ℕ) (fip t taken : Bool) (cs : T.Clauses) (done : S.Shape) (s : Site) → weaker w s.callee ≡ true → Among s (clauses_sites t cs) → R.Breaks i fip (shape_clauses w taken c done cs) (at_site i s)
  clauses_break w c i fip t taken T.NoClauses done s k h = absurd h
  clauses_break w c i fip t taken (T.MoreClauses q b cs) done s k h =
      let next = following c done in
      let here = S.Either done (clause_shape next (taking w taken (binders q)) (λ d. shape_block w d b)) in
      clause_by w c i fip taken q b cs done t s (among_either s (block_sites t b) (clauses_sites t cs) h)
      (λ x. block_breaks w (within next (taking w taken (binders q))) i fip t b s k x) (λ x. clauses_break w c i fip t taken cs here s k x)

-- ---- so fip instances call fip ones

some_breaks : (p : Program) (i j : ℕ) (ds : List Instance) (d : Instance) (b : Breach) → slice_get ds j ≡ Some d → O.BreaksInstance p (i + j) d b → O.BreaksOne p i ds b
some_breaks p i j [] d b e h = absurd (cc)
some_breaks p i zero (x ∷ ds) d b e h =
    let same : x ≡ d = cc in
    let here : i + 0 ≡ i = omega arith in
    inl (subst (λ d. O.BreaksInstance p i d b) (sym same) (subst (λ n. O.BreaksInstance p n d b) here h))
some_breaks p i (suc j) (x ∷ ds) d b e h =
    let there : i + suc j ≡ suc i + j = omega arith in
    inr (some_breaks p (suc i) j ds d b e (subst (λ n. O.BreaksInstance p n d b) there h))

kind_fip : (k : FunKind) → Tail.is_fip k ≡ true → k ≡ Fip
kind_fip Fip e = refl
kind_fip Fbip e = absurd (cc)
kind_fip Fun e = absurd (cc)

fip_or_weaker : (k : FunKind) → (Tail.is_fip k ≡ true) ⊎ (is_weaker Fip k ≡ true)
fip_or_weaker Fip = inl refl
fip_or_weaker Fbip = inr refl
fip_or_weaker Fun = inr refl

pub fip_calls : (source : List ℕ) (p : Program) → IsOwned source p → FipCallsFip p.instances
fip_calls source p h i d s at fip calls =
    let called_at = there_among (instance_sites d) calls.0 s calls.1 in
    let formed = typed_formed source p h.matched.typed in
    let known = (formed.instances d (there_among p.instances i d at)).body in
    let there = slice_get_there p.instances s.callee (block_known p true d.body s known called_at) in
    let kind = kind_fip d.kind fip in
    by there.0 there.1 kind (fip_or_weaker there.0.kind)
  where
    called_at : Among s (instance_sites d)
    called_at = there_among (instance_sites d) calls.0 s calls.1

    breach : (e : Instance) → slice_get p.instances s.callee ≡ Some e → d.kind ≡ Fip → is_weaker Fip e.kind ≡ true → ⊥
    breach e f kind w =
        let weak : weaker (world p d.kind) s.callee ≡ true =
        ap (λ k. weaker_than k (slice_get p.instances s.callee)) kind ∙ ap (weaker_than Fip) f ∙ w in
        let shape_breaks = within_binds i no_names.next (W.is_fip d.kind) (parameters (world p d.kind) d.params d.binders)
        (shape_block (world p d.kind) (within no_names (parameters (world p d.kind) d.params d.binders)) d.body) (at_site i s)
        (block_breaks (world p d.kind) (within no_names (parameters (world p d.kind) d.params d.binders)) i (W.is_fip d.kind) true d.body s weak called_at) in
        let ruled : W.is_ruled d.kind ≡ true = ap W.is_ruled kind in
        let zero_on : i ≡ 0 + i = omega arith in
        h.unbroken (reported (at_site i s)) (at_site i s, some_breaks p 0 i p.instances d (at_site i s) at (subst (λ n. O.BreaksInstance p n d (at_site i s)) zero_on (ruled, shape_breaks)), refl)

    by : (e : Instance) → slice_get p.instances s.callee ≡ Some e → d.kind ≡ Fip → (Tail.is_fip e.kind ≡ true) ⊎ (is_weaker Fip e.kind ≡ true) → (e : Instance) × (slice_get p.instances s.callee ≡ Some e) × (Tail.is_fip e.kind ≡ true)
    by e f kind (inl k) = (e, f, k)
    by e f kind (inr w) = absurd (breach e f kind w)
