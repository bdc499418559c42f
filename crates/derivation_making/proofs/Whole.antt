-- Instances and programs: what is made for them is derived.
use Rattle.std.proofs.Common.{◌≡◌, ℕ, suc, ◌<◌, ◌≤◌, ◌+◌, inl, inr, refl, sym, ap, subst, ◌∙◌, List, [], ◌∷◌, ◌++◌, length, Some, None, Bool, true, false, not, arith}
use Rattle.std.specs.Prelude.{◌==◌, ◌||◌, if◌then◌else◌}
use Rattle.std.proofs.lemmas.Bool.Decides.{nat_tests}
use Rattle.derivation_check.specs.fip_base.declared.plain.Param.{Param}
use Rattle.derivation_check.specs.fip_trees.declared.program.Binder.{Binder}
use Rattle.derivation_check.specs.fip_trees.Tree.{Instance, Program}
use Rattle.ownership_agreement.specs.fip_rules.World.{World, world, is_fip, is_ruled}
use Rattle.ownership_agreement.specs.fip_rules.Shapes as H
use Rattle.ownership_agreement.specs.fip_rules.Shapes.{Names, mark, or_later, no_names}
use Rattle.ownership_agreement.specs.credit_check.Needs.{marked, need_block}
use Rattle.ownership_agreement.specs.ownership_calculus.Terms.{Term, Item, Own, Credit, has, given}
use Rattle.ownership_agreement.specs.ownership_calculus.Rules.{Fits}
use Rattle.ownership_agreement.specs.ownership_calculus.Clean.{asks, fewest, Status, Free, Owned}
use Rattle.ownership_agreement.specs.ownership_calculus.Functions.{Accepted}
use Rattle.ownership_agreement.specs.ownership_calculus.Functions as F
use Rattle.ownership_agreement.proofs.ownership_calculus.Fit.{held, room, visible}
use Rattle.ownership_agreement.proofs.ownership_calculus.Forth.{clean_room, all_used_at}
use Rattle.ownership_agreement.specs.Bodies.{Scalars, borrowed_parameters, owned_parameters, entering_parameters, no_variables, body_term}
use Rattle.ownership_agreement.specs.Sized.{IsSized, AreSizes}
use Rattle.ownership_agreement.proofs.Amounts.{header_given, header_out, block_need}
use Rattle.derivation_check.specs.derivation_trees.Trees.{Tree, Entry}
use Rattle.derivation_check.specs.Owned.{amount, root, Rising}
use Rattle.derivation_check.specs.Scopes.{Known, known, parameters, AreNumbered}
use Rattle.derivation_check.specs.Calculus.{Choice}
use Rattle.derivation_check.specs.Accepted as A
use Rattle.derivation_check.specs.Accepted.{starting, header_scope, DerivesInstance, FirstEntry, AreDerived}
use Rattle.derivation_making.specs.Uses.{occurs_block}
use Rattle.derivation_making.specs.Made.{numbers, credits, owned_ones, made_instance, made_entries}
use Rattle.derivation_making.specs.Fitting.{IsFitting}
use Rattle.derivation_making.proofs.Lists.{tally, AreKnown, EachOf, same_number, number_self, one_true, one_false, either, rising_later}
use Rattle.derivation_making.proofs.Credits.{by_size, amount_in, amount_out}
use Rattle.derivation_making.proofs.Nodes.{Has, has_root, has_owned}
use Rattle.derivation_making.proofs.Linking.{LinkAt, Linked, known_head, known_here, known_after, known_last, apart}
use Rattle.derivation_making.proofs.Arguments.{each_item}
use Rattle.derivation_making.proofs.Standing.{Stands, Asks}
use Rattle.derivation_making.proofs.Bodies.{has_block, derive_block}
use Rattle.type_check.proofs.fip_language.Facts.{greater_unequal as above}
use Rattle.derivation_making.proofs.Linking.{lift_known, one_above, one_more, one_rising}
use Rattle.ownership_agreement.proofs.Parameters.{not_owned as not_before}
use Rattle.ownership_agreement.proofs.ownership_calculus.Whole.{few_start, held_start, room_start}

-- ---- the scope of the parameters

abbrev one_in : Names → Binder → Names
one_in c b = record { marks = c.marks ++ mark c.next b ∷ []; next = suc c.next }

abbrev one_scalar : World → ℕ → Scalars → Param → Scalars
one_scalar w n sc p y = if n == y then w.scalar p.ty else sc y

keep_one : (w : World) (c : Names) (sc : Scalars) (p : Param) (b : Binder) (x : ℕ) (v : Known) → b.number ≡ c.next → LinkAt w c sc x v → LinkAt w (one_in c b) (one_scalar w c.next sc p) x v
keep_one w c sc p b x v n h =
    let e : (b.number == x) ≡ false = ap (λ m. m == x) n ∙ apart x c.next h.2 in
    let f : (c.next == x) ≡ false = apart x c.next h.2 in (
      known_last c.marks (mark c.next b) x ∙ ap (λ (t : Bool). or_later (H.known c.marks x) (if t then Some c.next else None)) e ∙ h.0,
      ap (λ (t : Bool). if t then w.scalar p.ty else sc x) f ∙ h.1,
      omega arith,
      h.3,
    )

here_one : (w : World) (c : Names) (sc : Scalars) (p : Param) (b : Binder) (x : ℕ) → b.number ≡ c.next → (c.next == x) ≡ true → LinkAt w (one_in c b) (one_scalar w c.next sc p) x (record { binder = c.next; number = c.next; ty = p.ty; owned = not p.lent })
here_one w c sc p b x n f =
    let e : (b.number == x) ≡ true = ap (λ m. m == x) n ∙ f in
    let t : c.next ≡ x = same_number c.next x f in (
      known_last c.marks (mark c.next b) x ∙ ap (λ (t : Bool). or_later (H.known c.marks x) (if t then Some c.next else None)) e ∙ ap (λ (m : ℕ). Some m) t,
      ap (λ (t : Bool). if t then w.scalar p.ty else sc x) f,
      omega arith,
      t,
    )

keep_all : (w : World) (c : Names) (sc : Scalars) (d : ℕ) (ps : List Param) (bs : List Binder) (x : ℕ) (v : Known) → AreNumbered c.next d bs → LinkAt w c sc x v → LinkAt w (H.within c (H.parameters w ps bs)) (entering_parameters w c.next sc ps bs) x v
keep_all w c sc d ps [] x v n h = h
keep_all w c sc d [] (b ∷ bs) x v n h = h
keep_all w c sc d (p ∷ ps) (b ∷ bs) x v n h = keep_all w (one_in c b) (one_scalar w c.next sc p) (d + 1) ps bs x v (one_more c.next d bs n.2) (keep_one w c sc p b x v n.0 h)

params_linked : (w : World) (c : Names) (sc : Scalars) (d : ℕ) (ps : List Param) (bs : List Binder) → length bs ≡ length ps → AreNumbered c.next d bs → Linked w (parameters c.next ps) (H.within c (H.parameters w ps bs)) (entering_parameters w c.next sc ps bs)
params_linked w c sc d [] bs l n x v k = absurd (cc)
params_linked w c sc d (p ∷ ps) [] l n x v k = absurd (omega arith)
params_linked w c sc d (p ∷ ps) (b ∷ bs) l n x v k =
    let m = one_more c.next d bs n.2 in
    let u : Known = record { binder = c.next; number = c.next; ty = p.ty; owned = not p.lent } in
    let z : c.next + 1 ≡ suc c.next = omega arith in
    elim (known_head u v (parameters (c.next + 1) ps) x k) [
      | inl e ↦ subst (λ (t : Known). LinkAt w (H.within (one_in c b) (H.parameters w ps bs)) (entering_parameters w (suc c.next) (one_scalar w c.next sc p) ps bs) x t) e.1
          (keep_all w (one_in c b) (one_scalar w c.next sc p) (d + 1) ps bs x u m (here_one w c sc p b x n.0 e.0))
      | inr e ↦ params_linked w (one_in c b) (one_scalar w c.next sc p) (d + 1) ps bs (omega arith) m x v (subst (λ i. known (parameters i ps) x ≡ Some v) z e.1)
    ]

params_next : (w : World) (c : Names) (ps : List Param) (bs : List Binder) → length bs ≡ length ps → (H.within c (H.parameters w ps bs)).next ≡ c.next + length ps
params_next w c [] [] l = omega arith
params_next w c [] (b ∷ bs) l = absurd (omega arith)
params_next w c (p ∷ ps) [] l = absurd (omega arith)
params_next w c (p ∷ ps) (b ∷ bs) l = let h = params_next w (one_in c b) ps bs (omega arith) in omega arith

-- ---- what is there

one_owned : (s l : Bool) (w : World) (u : Known) (vs us : List Known) → w.scalar u.ty ≡ s → AreKnown w (u ∷ vs) us → AreKnown w (u ∷ vs) (if s || l then us else u ∷ us)
one_owned true l w u vs us e h = h
one_owned false true w u vs us e h = h
one_owned false false w u vs us e h = (known_here u vs u.binder (number_self u.binder), e, h)

owned_above : (w : World) (k n : ℕ) (ps : List Param) → k < n → EachOf (λ y. (k == y) ≡ false) (owned_ones w (parameters n ps))
owned_above w k n [] l = tt
owned_above w k n (p ∷ ps) l =
    one_above (w.scalar p.ty || not (not p.lent)) k (record { binder = n; number = n; ty = p.ty; owned = not p.lent }) (owned_ones w (parameters (n + 1) ps))
    (above k n l) (owned_above w k (n + 1) ps (omega arith))

owned_known : (w : World) (n : ℕ) (ps : List Param) → AreKnown w (parameters n ps) (owned_ones w (parameters n ps))
owned_known w n [] = tt
owned_known w n (p ∷ ps) =
    let u : Known = record { binder = n; number = n; ty = p.ty; owned = not p.lent } in
    one_owned (w.scalar p.ty) (not (not p.lent)) w u (parameters (n + 1) ps) (owned_ones w (parameters (n + 1) ps)) refl
    (lift_known w u (parameters (n + 1) ps) (owned_ones w (parameters (n + 1) ps)) (owned_above w n (n + 1) ps (omega arith)) (owned_known w (n + 1) ps))

owned_rising : (w : World) (n e : ℕ) (ps : List Param) → n + length ps ≤ e → Rising n e (numbers (owned_ones w (parameters n ps)))
owned_rising w n e [] l = tt
owned_rising w n e (p ∷ ps) l = one_rising (w.scalar p.ty || not (not p.lent)) n e (record { binder = n; number = n; ty = p.ty; owned = not p.lent }) (owned_ones w (parameters (n + 1) ps)) refl (omega arith) (owned_rising w (n + 1) e ps (omega arith))

one_number : (s l : Bool) (n : ℕ) (u : Known) (us : List Known) (ns : List ℕ) → u.number ≡ n → numbers us ≡ ns → numbers (if s || not (not l) then us else u ∷ us) ≡ (if s || l then ns else n ∷ ns)
one_number true l n u us ns e h = h
one_number false true n u us ns e h = h
one_number false false n u us ns e h = cc

owned_numbers : (w : World) (n : ℕ) (ps : List Param) → numbers (owned_ones w (parameters n ps)) ≡ A.owned_parameters w n ps
owned_numbers w n [] = refl
owned_numbers w n (p ∷ ps) = one_number (w.scalar p.ty) p.lent n (record { binder = n; number = n; ty = p.ty; owned = not p.lent }) (owned_ones w (parameters (n + 1) ps)) (A.owned_parameters w (n + 1) ps) refl (owned_numbers w (n + 1) ps)

one_tally : (s l : Bool) (n x : ℕ) (u : Known) (us : List Known) (ys : List ℕ) → u.binder ≡ n → (x < suc n → has ys x ≡ false) → tally x us ≡ (if has ys x then 1 else 0) → tally x (if s || not (not l) then us else u ∷ us) ≡ (if has (if s then ys else (if l then ys else n ∷ ys)) x then 1 else 0)
one_tally true l n x u us ys e f h = h
one_tally false true n x u us ys e f h = h
one_tally false false n x u us ys e f h = elim (either (n == x)) [
  | inl g ↦
      let s = same_number n x g in
      let o = one_true u.binder x (ap (λ m. m == x) e ∙ g) in
      let z = f (omega arith) in
      let y : tally x us ≡ 0 = h ∙ ap (λ (t : Bool). if t then 1 else 0) z in
      rw (g) (omega arith)
  | inr g ↦ let o = one_false u.binder x (ap (λ m. m == x) e ∙ g) in rw (g) (omega arith)
]

owned_tally : (w : World) (n x : ℕ) (ps : List Param) (bs : List Binder) → length bs ≡ length ps → tally x (owned_ones w (parameters n ps)) ≡ (if has (owned_parameters w n ps bs) x then 1 else 0)
owned_tally w n x [] [] l = refl
owned_tally w n x [] (b ∷ bs) l = absurd (omega arith)
owned_tally w n x (p ∷ ps) [] l = absurd (omega arith)
owned_tally w n x (p ∷ ps) (b ∷ bs) l =
    let z : n + 1 ≡ suc n = omega arith in
    let h : tally x (owned_ones w (parameters (n + 1) ps)) ≡ (if has (owned_parameters w (suc n) ps bs) x then 1 else 0) = ap (λ i. tally x (owned_ones w (parameters i ps))) z ∙ owned_tally w (suc n) x ps bs (omega arith) in
    one_tally (w.scalar p.ty) p.lent n x (record { binder = n; number = n; ty = p.ty; owned = not p.lent }) (owned_ones w (parameters (n + 1) ps)) (owned_parameters w (suc n) ps bs) refl (not_before w (suc n) x ps bs) h

-- a parameter that isn't scalar and isn't owned is borrowed
one_lent : (s l : Bool) (n x : ℕ) (v : Known) (ys : List ℕ) → s ≡ false → v.owned ≡ not l → (n == x) ≡ true → has (if s then ys else (if l then ys else n ∷ ys)) x ≡ false → v.owned ≡ false
one_lent true l n x v ys a b c h = absurd (cc)
one_lent false true n x v ys a b c h = b
one_lent false false n x v ys a b c h = absurd (let z : true ≡ false = sym (rw (c) refl) ∙ h in cc)

one_later : (s l : Bool) (n x : ℕ) (ys : List ℕ) → (n == x) ≡ false → has (if s then ys else (if l then ys else n ∷ ys)) x ≡ false → has ys x ≡ false
one_later true l n x ys c h = h
one_later false true n x ys c h = h
one_later false false n x ys c h = sym (ap (λ t. t || has ys x) c) ∙ h

params_lent : (w : World) (n x : ℕ) (ps : List Param) (bs : List Binder) (v : Known) → length bs ≡ length ps → known (parameters n ps) x ≡ Some v → w.scalar v.ty ≡ false → has (owned_parameters w n ps bs) x ≡ false → v.owned ≡ false
params_lent w n x [] bs v l k s h = absurd (cc)
params_lent w n x (p ∷ ps) [] v l k s h = absurd (omega arith)
params_lent w n x (p ∷ ps) (b ∷ bs) v l k s h =
    let z : n + 1 ≡ suc n = omega arith in
    let u : Known = record { binder = n; number = n; ty = p.ty; owned = not p.lent } in
    elim (known_head u v (parameters (n + 1) ps) x k) [
      | inl e ↦ one_lent (w.scalar p.ty) p.lent n x v (owned_parameters w (suc n) ps bs) (ap (λ (t : Known). w.scalar t.ty) e.1 ∙ s) (ap (λ (t : Known). t.owned) (sym e.1)) e.0 h
      | inr e ↦ params_lent w (suc n) x ps bs v (omega arith) (subst (λ i. known (parameters i ps) x ≡ Some v) z e.1) s (one_later (w.scalar p.ty) p.lent n x (owned_parameters w (suc n) ps bs) e.0 h)
    ]

-- ---- the start

abbrev start : Bool → Bool → Status
start o l = if o then Owned false false else (if l then Free else Owned true false)

seen_start : (o l : Bool) → visible (start o l) ≡ true → o ≡ false
seen_start true l h = absurd (cc)
seen_start false l h = refl

not_owned_or : (o b : Bool) → o ≡ false → (not o || b) ≡ true
not_owned_or o b e = rw (e) refl

body_stands : (w : World) (d : Instance) (f : ℕ → Bool) → length d.binders ≡ length d.params → Stands w (header_scope d) (length d.params) (owned_ones w (parameters 0 d.params)) (F.parameters (borrowed_parameters w 0 d.params d.binders) (owned_parameters w 0 d.params d.binders)) f
body_stands w d f l =
    let own = owned_parameters w 0 d.params d.binders in
    let lent = borrowed_parameters w 0 d.params d.binders in
    record {
      are_known = owned_known w 0 d.params;
      rising = owned_rising w 0 (length d.params) d.params (omega arith);
      few = λ x. let a = owned_tally w 0 x d.params d.binders l in let b = held_start (has own x) (has lent x) in omega arith;
      kept = λ x o. let a = owned_tally w 0 x d.params d.binders l in let b = held_start (has own x) (has lent x) in omega arith;
      lent = λ x v k z o i. not_owned_or v.owned false (params_lent w 0 x d.params d.binders v l k z (seen_start (has own x) (has lent x) i));
    }

body_asks : (fip : Bool) (lent own ks : List ℕ) (t : Term) → Accepted fip lent own ks t → Asks fip (F.parameters lent own) t
body_asks fip lent own ks t a = record {
  all = λ k x. few_start (has own x) (has lent x) (fewest x t) (all_used_at fip own t a.1 k x);
  most = λ x. let g = clean_room fip (F.parameters lent own) t a.0 x in let r = room_start (has own x) (has lent x) in omega arith;
  clean = a.0;
  even = a.3;
}

marked_fits : (fip : Bool) (g m n o : ℕ) → Fits fip g m → g ≡ o → m ≡ n → Fits fip o n
marked_fits true g m n o h e f = omega arith
marked_fits false g m n o h e f = omega arith

starts : (w : World) (d : Instance) (t : Tree) → AreSizes d.credits → Has (owned_ones w (parameters 0 d.params)) (λ k. marked k d.credits) t → (i : Item) → root t i ≡ starting w d i
starts w d t z h =
    each_item (λ i. root t i ≡ starting w d i)
    (λ y. has_root (owned_ones w (parameters 0 d.params)) (λ k. marked k d.credits) t h (Own y) ∙ ap (given y) (owned_numbers w 0 d.params))
    (λ k. has_root (owned_ones w (parameters 0 d.params)) (λ j. marked j d.credits) t h (Credit k)
    ∙ by_size (λ k. amount k (credits (λ j. marked j d.credits)) ≡ given k d.credits)
    (λ k a b. amount_in (λ j. marked j d.credits) k a b ∙ sym (header_given k d.credits))
    (λ k o. amount_out (λ j. marked j d.credits) k o ∙ sym (header_out k d.credits o z)) k)

-- The instance is derived by what is made for it.
pub instance_derived : (p : Program) (d : Instance) → IsFitting (world p d.kind) d → IsSized p d → Accepted (is_fip d.kind) (borrowed_parameters (world p d.kind) 0 d.params d.binders) (owned_parameters (world p d.kind) 0 d.params d.binders) d.credits (body_term (world p d.kind) d) → DerivesInstance (world p d.kind) d (made_instance p (world p d.kind) d)
instance_derived p d fit z a =
    let w = world p d.kind in
    let there = owned_ones w (parameters 0 d.params) in
    let have : ℕ → ℕ = λ k. marked k d.credits in
    let c = H.within no_names (H.parameters w d.params d.binders) in
    let sc = entering_parameters w 0 no_variables d.params d.binders in
    let own = owned_parameters w 0 d.params d.binders in
    let lent = borrowed_parameters w 0 d.params d.binders in
    let root = has_block p w (parameters 0 d.params) (length d.params) there have d.body in (
      fit.as_many,
      fit.numbered,
      has_owned (length d.params) there have (made_instance p w d) root (owned_rising w 0 (length d.params) d.params (omega arith)),
      starts w d (made_instance p w d) z.header root,
      derive_block p d.kind (header_scope d) c sc (length d.params) (length d.params) there have (F.parameters lent own) d.body
          (params_linked w no_names no_variables 0 d.params d.binders fit.as_many fit.numbered)
          (let e = params_next w no_names d.params d.binders fit.as_many in omega arith)
          fit.body z.body (body_stands w d (λ x. occurs_block x d.body) fit.as_many) (body_asks (is_fip d.kind) lent own d.credits (body_term w d) a)
          (λ k x y. marked_fits (is_fip d.kind) (given k d.credits) (asks (Credit k) (body_term w d)) (need_block p k d.body) (marked k d.credits) (a.2 k) (header_given k d.credits) (block_need k x p d.kind sc c d.body z.body)),
    )

-- ---- programs

abbrev pub Each : Program → List Instance → Type 0
Each p [] = Unit {0}
Each p (d ∷ ds) = (is_ruled d.kind ≡ true → DerivesInstance (world p d.kind) d (made_instance p (world p d.kind) d)) × Each p ds

one_entry : (b : Bool) (p : Program) (n : ℕ) (d : Instance) (ds : List Instance) (es : List Entry) → (b ≡ true → DerivesInstance (world p d.kind) d (made_instance p (world p d.kind) d)) → AreDerived p (n + 1) ds es → Choice b (FirstEntry (if b then record { instance = n; tree = made_instance p (world p d.kind) d } ∷ es else es) (λ e rest. (e.instance ≡ n) × DerivesInstance (world p d.kind) d e.tree × AreDerived p (n + 1) ds rest)) (AreDerived p (n + 1) ds (if b then record { instance = n; tree = made_instance p (world p d.kind) d } ∷ es else es))
one_entry true p n d ds es h r = (refl, h refl, r)
one_entry false p n d ds es h r = r

pub entries_derived : (p : Program) (n : ℕ) (ds : List Instance) → Each p ds → AreDerived p n ds (made_entries p n ds)
entries_derived p n [] h = tt
entries_derived p n (d ∷ ds) h = one_entry (is_ruled d.kind) p n d ds (made_entries p (n + 1) ds) h.0 (entries_derived p (n + 1) ds h.1)
