-- What the walk gives for the instances of a program is what is defined.
use Rattle.std.proofs.Common.{◌≡◌, ℕ, zero, suc, ◌<◌, ◌≤◌, ◌+◌, ◌⊎◌, inl, inr, refl, sym, ap, ap₂, subst, ◌∙◌, List, [], ◌∷◌, ◌++◌, length, Option, Some, None, Bool, true, false, not, ◌||◌, arith}
use Rattle.std.proofs.lemmas.List.{append-nil}
use Rattle.std.specs.Prelude.{if◌then◌else◌, slice_get}
use Rattle.tail_groups.specs.fip_base.declared.plain.Param.{Param}
use Rattle.tail_groups.specs.fip_language.declared.FunKind.{FunKind}
use Rattle.tail_groups.specs.fip_language.declared.FunKind.TheVariants.{Fip, Fbip, Fun}
use Rattle.tail_groups.specs.fip_trees.Sizes.{no_sizes}
use Rattle.tail_groups.specs.fip_trees.declared.needs.Need.{Need}
use Rattle.tail_groups.specs.fip_trees.NeedsView.{needs_of}
use Rattle.tail_groups.specs.fip_trees.Tree.{Instance, Program}
use Rattle.derivation_walk.specs.fip_rules.World.{World, world, is_ruled}
use Rattle.derivation_walk.specs.credit_check.Needs.{marked, need_block}
use Rattle.derivation_walk.specs.credit_check.Tallies.{marked_from, block_sizes, block_needs, parts_needs, instance_needs, all_needs}
use Rattle.derivation_making.specs.ownership_agreement.Sized.{IsSized, SizedBlock}
use Rattle.derivation_making.specs.ownership_agreement.Agreement.{AreSized}
use Rattle.derivation_walk.specs.derivation_trees.Trees.{Tree, Entry}
use Rattle.derivation_making.specs.derivation_check.Scopes.{Known, Scope, parameters, within_block}
use Rattle.derivation_making.specs.derivation_check.Calculus.{Choice, DerivesBlock}
use Rattle.derivation_making.specs.derivation_check.Accepted.{header_scope, DerivesInstance, FirstEntry, AreDerived, IsDerivation}
use Rattle.derivation_walk.specs.declared.found.Bound.{Bound}
use Rattle.derivation_walk.specs.declared.tables.Uses.{Uses}
use Rattle.derivation_walk.specs.Tables.{rows, rows_from, empty_rows, numbers_of}
use Rattle.derivation_walk.specs.Lookups.{number_at, IsOf}
use Rattle.derivation_walk.specs.Seen.{see_instance}
use Rattle.derivation_making.specs.Made.{numbers, owned_ones, made_block, made_instance, made_entries}
use Rattle.derivation_making.specs.Numbered.{IsNumbered, AllNumbered}
use Rattle.derivation_walk.specs.Walked.{Guided, Asked, asked, size_parts, owned_parameters, walked_parts, walked_instance}
use Rattle.derivation_walk.specs.Guides.{IsWalked}
use Rattle.derivation_walk.specs.Walks.{If, First, AreWalked}
use Rattle.derivation_walk.proofs.credit_check.Amounts.{none_long, marked_long, marked_at, sizes_long, sizes_at}
use Rattle.derivation_agreement.proofs.Seeing.{slots_parts, marks_parts, parameter_slots, instance_variables, instance_occurrences}
use Rattle.derivation_agreement.proofs.Hitting.{Part, Between, between_wider, parts_between}
use Rattle.derivation_agreement.proofs.Sited.{Piece, piece_first, piece_second, piece_get, Ranged, Distinct, Sited, AllSited, IsTable, ranged_append, ranged_wider, distinct_append, parts_ranged, parts_distinct, parts_length, parameters_sited, parameters_ranged, parameters_distinct, parameters_length}
use Rattle.derivation_agreement.proofs.Nodes.{Counts}
use Rattle.derivation_agreement.proofs.WalkValues.{guide}
use Rattle.derivation_agreement.proofs.Parts.{asked_is}
use Rattle.derivation_agreement.proofs.Agreeing.{block_asked, inner_needs, parts_is}

-- ---- what the parameters give

owned_is : (w : World) (order : List Bound) (u : Uses) (ns : List Need) (n : ℕ) (xs : List ℕ) (ps : List Param) → AllSited w order u (parameters n ps) → owned_parameters (guide w u ns) xs n ps ≡ xs ++ numbers (owned_ones w (parameters n ps))
owned_is w order u ns n xs [] h = sym (append-nil xs)
owned_is w order u ns n xs (p ∷ ps) h = by p.lent (w.scalar p.ty) (λ ys. owned_is w order u ns (n + 1) ys ps h.1)
  where
    by : (l s : Bool) → ((ys : List ℕ) → owned_parameters (guide w u ns) ys (n + 1) ps ≡ ys ++ numbers (owned_ones w (parameters (n + 1) ps))) → owned_parameters (guide w u ns) (if l || s then xs else xs ++ number_at u n ∷ []) (n + 1) ps ≡ xs ++ numbers (if s || not (not l) then owned_ones w (parameters (n + 1) ps) else record { binder = n; number = n; ty = p.ty; owned = not p.lent } ∷ owned_ones w (parameters (n + 1) ps))
    by true true r = r xs
    by true false r = r xs
    by false true r = r xs
    by false false r = r (xs ++ number_at u n ∷ []) ∙ assoc xs (number_at u n) (numbers (owned_ones w (parameters (n + 1) ps))) ∙ ap (λ (m : ℕ). xs ++ m ∷ numbers (owned_ones w (parameters (n + 1) ps))) h.0.number
      where
        assoc : (as' : List ℕ) (b : ℕ) (cs : List ℕ) → (as' ++ b ∷ []) ++ cs ≡ as' ++ b ∷ cs
        assoc [] b cs = refl
        assoc (a ∷ as') b cs = ap (λ (zs : List ℕ). a ∷ zs) (assoc as' b cs)

owned_sited : (w : World) (order : List Bound) (u : Uses) (vs : List Known) → AllSited w order u vs → AllSited w order u (owned_ones w vs)
owned_sited w order u [] h = tt
owned_sited w order u (v ∷ vs) h = by (w.scalar v.ty || not v.owned) (owned_sited w order u vs h.1)
  where
    by : (b : Bool) → AllSited w order u (owned_ones w vs) → AllSited w order u (if b then owned_ones w vs else v ∷ owned_ones w vs)
    by true k = k
    by false k = (h.0, k)

-- ---- an instance

pub instance_is : (p : Program) (w : World) (d : Instance) (ns : List Need) (t : Tree) → IsNumbered p d → SizedBlock p d.body → ns ≡ block_needs p d.body → DerivesInstance w d (made_instance p w d) → IsWalked w ns d t → t ≡ made_instance p w d
instance_is p w d ns t nb z en h k =
    let u = k.uses in
    let ps = d.params in
    let n = length ps in
    let b = d.body in
    let order = parameter_slots w 0 ps ++ slots_parts w b in
    let os = marks_parts w 1 b in
    let s = header_scope d in
    let ov = instance_variables w d in
    let oo = instance_occurrences w d in
    let r1 = parameters_ranged w 0 ps in
    let r2 = parts_ranged p w n n b nb.body in
    let lp = parameters_length w 0 ps in
    let lb = parts_length w b in
    let table : IsTable order u = record {
      variables = k.of.variables ∙ ov;
      numbers = k.of.numbers ∙ ap numbers_of ov;
      distinct = distinct_append 0 (0 + n) n (n + within_block b) (parameter_slots w 0 ps) (slots_parts w b) r1 r2 (inl (omega arith)) (parameters_distinct w 0 ps) (parts_distinct p w n n b nb.body);
      ranged = ranged_by (parameter_slots w 0 ps) (slots_parts w b) n (within_block b) lp lb r1 r2;
    } in
    let occurring : rows u.occurring.items ≡ rows_from true (empty_rows (length order)) os = k.of.occurring ∙ ap₂ (λ x y. rows_from true (empty_rows (length x)) y) ov oo in
    let using : rows u.used.items ≡ rows_from false (empty_rows (length order)) os = k.of.used ∙ ap₂ (λ x y. rows_from false (empty_rows (length x)) y) ov oo in
    let po : Piece order order 0 = record { before = []; following = []; is = sym (append-nil order); at = refl } in
    let po1 = piece_first order (parameter_slots w 0 ps) (slots_parts w b) 0 po in
    let po2 = piece_second order (parameter_slots w 0 ps) (slots_parts w b) 0 n (omega (arith, lp)) po in
    let ss = parameters_sited w order u 0 ps table po1 in
    let pn : Piece ns (block_needs p b) 0 = record { before = []; following = []; is = en ∙ sym (append-nil (block_needs p b)); at = refl } in
    let qa = block_asked p w order u ns os table occurring using 0 b pn in
    let pm : Part os (marks_parts w 1 b) 0 (1 + size_parts b) = record { end = 1 + size_parts b; before = []; following = []; is = sym (append-nil os); early = tt; here = between_wider 1 (1 + size_parts b) 0 (1 + size_parts b) os (omega arith) (omega arith) (parts_between w 1 b); late = tt } in
    let G : Guided = guide w u ns in
    k.is ∙ parts_is p w order u ns os table occurring using s n n 0 1 (owned_ones w (parameters 0 ps)) (λ j. marked j d.credits) (record { variables = owned_parameters G [] 0 ps; credits = marked_from no_sizes d.credits }) (asked G 0) b ss (owned_sited w order u (parameters 0 ps) ss) (owned_is w order u ns 0 [] ps ss) (record { long = marked_long no_sizes d.credits none_long; at = λ j l m. marked_at j l m d.credits }) po2 (omega arith) qa.0 qa.1 qa.2 pm (inner_needs p w order u ns os table occurring using 0 1 b refl pn) z h.4
  where
    both : (xs ys : List Bound) → length (xs ++ ys) ≡ length xs + length ys
    both [] ys = omega arith
    both (x ∷ xs) ys = let g = both xs ys in omega (arith, g)

    ranged_by : (xs ys : List Bound) (n m : ℕ) → length xs ≡ n → length ys ≡ m → Ranged 0 (0 + n) xs → Ranged n (n + m) ys → Ranged 0 (length (xs ++ ys)) (xs ++ ys)
    ranged_by xs ys n m a b f g = let e = both xs ys in ranged_append 0 (length (xs ++ ys)) xs ys (ranged_wider 0 (0 + n) 0 (length (xs ++ ys)) xs (omega arith) (omega (arith, e, a, b)) f) (ranged_wider n (n + m) 0 (length (xs ++ ys)) ys (omega arith) (omega (arith, e, a, b)) g)

-- ---- programs

needs_at : (p : Program) (n : ℕ) (nss : List (List Need)) (all : List Instance) (d : Instance) → nss ≡ all_needs p all → slice_get all n ≡ Some d → needs_of nss n ≡ instance_needs p d.kind d
needs_at p n nss all d e g = ap (λ z. needs_of z n) e ∙ at n all g
  where
    at : (i : ℕ) (ds : List Instance) → slice_get ds i ≡ Some d → needs_of (all_needs p ds) i ≡ instance_needs p d.kind d
    at i [] h = absurd (cc)
    at zero (x ∷ ds) h = let s : x ≡ d = cc in ap (λ (z : Instance). instance_needs p z.kind z) s
    at (suc i) (x ∷ ds) h = at i ds h

ruled_needs : (p : Program) (k : FunKind) (d : Instance) → is_ruled k ≡ true → instance_needs p k d ≡ block_needs p d.body
ruled_needs p Fip d r = refl
ruled_needs p Fbip d r = refl
ruled_needs p Fun d r = absurd (cc)

one_entry : (e f : Entry) → e.instance ≡ f.instance → e.tree ≡ f.tree → e ≡ f
one_entry e f a b = ap₂ (λ n t. record { instance = n; tree = t }) a b

-- of an instance that is at a place of the program
pub walked_is : (p : Program) (nss : List (List Need)) (n : ℕ) (d : Instance) (ds : List Instance) (t : Tree) → nss ≡ all_needs p p.instances → Piece p.instances (d ∷ ds) n → is_ruled d.kind ≡ true → IsNumbered p d → IsSized p d → DerivesInstance (world p d.kind) d (made_instance p (world p d.kind) d) → IsWalked (world p d.kind) (needs_of nss n) d t → t ≡ made_instance p (world p d.kind) d
walked_is p nss n d ds t same pi r an az h k =
    let nn = needs_at p n nss p.instances d same (piece_get p.instances ds d n pi) ∙ ruled_needs p d.kind d r in
    instance_is p (world p d.kind) d (needs_of nss n) t an az.body nn h k

module _ (p : Program) (nss : List (List Need)) (same : nss ≡ all_needs p p.instances) where
  entries_is : (n : ℕ) (ds : List Instance) (es : List Entry) → Piece p.instances ds n → AllNumbered p ds → AreSized p ds → AreDerived p n ds (made_entries p n ds) → AreWalked p nss n ds es → es ≡ made_entries p n ds
  entries_is n [] [] pi an az h k = refl
  entries_is n [] (e ∷ es) pi an az h k = absurd k
  entries_is n (d ∷ ds) es pi an az h k = step (is_ruled d.kind) refl es h k (λ fs g q. entries_is (n + 1) ds fs (piece_second p.instances (d ∷ []) ds n (n + 1) refl pi) an.1 az.1 g q)
    where
      step : (b : Bool) → is_ruled d.kind ≡ b → (es : List Entry)
          → Choice b (FirstEntry (if b then record { instance = n; tree = made_instance p (world p d.kind) d } ∷ made_entries p (n + 1) ds else made_entries p (n + 1) ds) (λ e rest. (e.instance ≡ n) × DerivesInstance (world p d.kind) d e.tree × AreDerived p (n + 1) ds rest)) (AreDerived p (n + 1) ds (if b then record { instance = n; tree = made_instance p (world p d.kind) d } ∷ made_entries p (n + 1) ds else made_entries p (n + 1) ds))
          → If b (First es (λ e rest. (e.instance ≡ n) × IsWalked (world p d.kind) (needs_of nss n) d e.tree × AreWalked p nss (n + 1) ds rest)) (AreWalked p nss (n + 1) ds es)
          → ((fs : List Entry) → AreDerived p (n + 1) ds (made_entries p (n + 1) ds) → AreWalked p nss (n + 1) ds fs → fs ≡ made_entries p (n + 1) ds)
          → es ≡ (if b then record { instance = n; tree = made_instance p (world p d.kind) d } ∷ made_entries p (n + 1) ds else made_entries p (n + 1) ds)
      step true r [] h k f = absurd k
      step true r (e ∷ es) h k f =
          let t = walked_is p nss n d ds e.tree same pi r (an.0 r) az.0 h.1 k.1 in
          ap₂ (λ x xs. x ∷ xs) (one_entry e (record { instance = n; tree = made_instance p (world p d.kind) d }) k.0 t) (f es h.2 k.2)
      step false r es h k f = f es h k

pub program_is : (p : Program) (nss : List (List Need)) (es : List Entry) → nss ≡ all_needs p p.instances → AllNumbered p p.instances → AreSized p p.instances → IsDerivation p (made_entries p 0 p.instances) → AreWalked p nss 0 p.instances es → es ≡ made_entries p 0 p.instances
program_is p nss es same an az h k =
    entries_is p nss same 0 p.instances es (record { before = []; following = []; is = sym (append-nil p.instances); at = refl }) an az h k
