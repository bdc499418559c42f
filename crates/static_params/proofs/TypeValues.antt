-- Each type of the table has a value. A data type has one with leaves for its parameters; each leaf is replaced by a value
-- of the argument, and each node is a node of the type's instance, whose fields' types are in the table too.
use Rattle.std.proofs.Common.{◌≡◌, ◌<◌, ◌+◌, ◌⊎◌, inl, inr, ℕ, zero, suc, List, [], ◌∷◌, length, map, Some, None, slice_get, pos, refl, sym, ap, ap₂, ◌∙◌, subst, arith}
use Rattle.fip_language.proofs.Words.{map_at}
use Rattle.fip_language.specs.Core.{Data, DataConstructor, Core}
use Rattle.fip_language.specs.Declarations.{data_types}
use Rattle.fip_language.specs.Every.{Among}
use Rattle.fip_language.specs.Table.{Table, shapes, HasType, HaveTypes}
use Rattle.fip_language.specs.Values.{Value, Int, Node, Values, End, More}
use Rattle.fip_base.specs.CoreView.{writtens_of}
use Rattle.data_types.specs.Types as D
use Rattle.data_types.specs.Declarations.{declarations, data_declared, data_scope, declared_names, constructor_fields}
use Rattle.reached_instances.specs.closed_types.declared.closed.Head.TheVariants as H
use Rattle.reached_instances.specs.closed_types.Closed as C
use Rattle.reached_instances.specs.closed_types.Closed.{Closed, Closeds, Applied, NoClosed, MoreClosed}
use Rattle.reached_instances.specs.closed_types.Source as S
use Rattle.reached_instances.specs.closed_types.Source.{declared_at}
use Rattle.reached_instances.specs.closed_types.Instances.{AreInstances, ArePassed}
use Rattle.reached_instances.specs.closed_types.TypeInstances.{AreTypes, type_roots, parts_of, pick, field_type, field_types, unless_int, unless_ints, fields_of}
use Rattle.static_params.specs.FlatProgram.{Numbers, number_in, from_one, type_number, numbers_of, flat_constructor, rows_of, flat_program}
use Rattle.static_params.specs.FlatSource.{flat_source, field, fields, constructor, declared}
use Rattle.static_params.proofs.Meanings.{IsSoundTy, AreSoundTys, all_looked_up_sound}
use Rattle.static_params.proofs.GoodTypes.{IsGood, AreGood, get_map}
use Rattle.static_params.proofs.GoodInstances.{types_good, fields_good, declared_is}
use Rattle.static_params.proofs.TypeRows.{among_left, among_right, among_of, there_among, next_numbered, number_cons, number_there, one_at, shapes_is, IsApplied, types_applied, row_of, row_is, has_row}

-- ---- a type's arguments, put in for its parameters

picked : (cs : Closeds) (us : D.Tys) (k : ℕ) → field_type cs (field (D.pick us k)) ≡ pick (field_types cs (fields us)) k
picked cs D.NoTys k = refl
picked cs (D.MoreTys t ts) zero = refl
picked cs (D.MoreTys t ts) (suc k) = picked cs ts k

mutual
  pub filled_once : (cs : Closeds) (us : D.Tys) (t : D.Ty) → field_type cs (field (D.fill us t)) ≡ field_type (field_types cs (fields us)) (field t)
  filled_once cs us D.Given = refl
  filled_once cs us (D.Parameter k) = picked cs us k
  filled_once cs us (D.Applied t ts) = ap (λ ds. Applied (H.«Type» (suc t)) ds) (all_filled_once cs us ts)

  pub all_filled_once : (cs : Closeds) (us ts : D.Tys) → field_types cs (fields (D.fill_all us ts)) ≡ field_types (field_types cs (fields us)) (fields ts)
  all_filled_once cs us D.NoTys = refl
  all_filled_once cs us (D.MoreTys t ts) = ap₂ (λ c ds. MoreClosed c ds) (filled_once cs us t) (all_filled_once cs us ts)

own_at : (a n k : ℕ) → k < n → D.pick (D.own_from a n) k ≡ D.Parameter (a + k)
own_at a zero k h = absurd (omega (arith, h))
own_at a (suc n) zero h = ap (λ m. D.Parameter m) (let e : a ≡ a + 0 = omega arith in e)
own_at a (suc n) (suc k) h = own_at (suc a) n k (omega (arith, h)) ∙ ap (λ m. D.Parameter m) (let e : suc a + k ≡ a + suc k = omega arith in e)

-- parameters in the place of themselves
mutual
  own_same : (types n : ℕ) (t : D.Ty) → IsSoundTy types n t → D.fill (D.own_from 0 n) t ≡ t
  own_same types n D.Given h = refl
  own_same types n (D.Parameter k) h = own_at 0 n k h ∙ ap (λ m. D.Parameter m) (let e : 0 + k ≡ k = omega arith in e)
  own_same types n (D.Applied t ts) h = ap (λ us. D.Applied t us) (own_same_all types n ts h.1)

  own_same_all : (types n : ℕ) (ts : D.Tys) → AreSoundTys types n ts → D.fill_all (D.own_from 0 n) ts ≡ ts
  own_same_all types n D.NoTys h = refl
  own_same_all types n (D.MoreTys t ts) h = ap₂ (λ t ts. D.MoreTys t ts) (own_same types n t h.0) (own_same_all types n ts h.1)

declared_constructors : (ds : D.Declarations) (u : ℕ) (d : D.Declared) → slice_get ds u ≡ Some d → D.constructors ds u ≡ d.constructors
declared_constructors [] u d e = absurd (cc)
declared_constructors (x ∷ ds) zero d e = let same : x ≡ d = cc in ap (λ (d : D.Declared). d.constructors) same
declared_constructors (x ∷ ds) (suc u) d e = declared_constructors ds u d e

declared_arity : (ds : D.Declarations) (u : ℕ) (d : D.Declared) → slice_get ds u ≡ Some d → D.arity ds u ≡ d.arity
declared_arity [] u d e = absurd (cc)
declared_arity (x ∷ ds) zero d e = let same : x ≡ d = cc in ap (λ (d : D.Declared). d.arity) same
declared_arity (x ∷ ds) (suc u) d e = declared_arity ds u d e

module _ (core : Core) (ns : Numbers) (passed : List Closed) (instances : AreInstances (flat_source core) ns.instances) (given : ArePassed ns.instances passed) (types : AreTypes (flat_source core) ns.instances passed ns.types) where
  abbrev pub table : Table
  table = (flat_program (flat_source core) ns).types

  pub good : (c : Closed) → Among c ns.types → IsGood core c
  good = types_good core ns.instances passed ns.types instances given types

  pub applied : (c : Closed) → Among c ns.types → IsApplied c
  applied = types_applied (flat_source core) ns.instances passed ns.types types

  -- int, or a type that is numbered
  abbrev pub IsThere : Closed → Type 0
  IsThere c = (c ≡ C.Int) ⊎ Among c ns.types

  abbrev AreThere : Closeds → Type 0
  AreThere NoClosed = Unit {0}
  AreThere (MoreClosed c cs) = IsThere c × AreThere cs

  unless_there : (c : Closed) → ((d : Closed) → Among d (unless_int c) → Among d ns.types) → IsThere c
  unless_there C.Int h = inl refl
  unless_there (Applied x cs) h = inr (h (Applied x cs) (inl refl))

  unless_all_there : (cs : Closeds) → ((d : Closed) → Among d (unless_ints cs) → Among d ns.types) → AreThere cs
  unless_all_there NoClosed h = tt
  unless_all_there (MoreClosed c cs) h =
      (unless_there c (λ d a. h d (among_left d (unless_int c) (unless_ints cs) a)), unless_all_there cs (λ d a. h d (among_right d (unless_int c) (unless_ints cs) a)))

  parts_there : (c d : Closed) → Among c ns.types → Among d (parts_of (flat_source core) c) → Among d ns.types
  parts_there c d a b = next_numbered (type_roots (flat_source core) ns.instances passed) (parts_of (flat_source core)) ns.types types c d a b

  arguments_there : (n : ℕ) (cs : Closeds) → Among (Applied (H.«Type» n) cs) ns.types → AreThere cs
  arguments_there n cs a =
      unless_all_there cs (λ d b. parts_there (Applied (H.«Type» n) cs) d a (among_left d (unless_ints cs) (fields_of cs (declared_at (flat_source core) n)) b))

  -- the types of a constructor's fields
  fields_there : (m : ℕ) (cs : Closeds) (d : Data) (k : DataConstructor) → declared_at (flat_source core) (suc m) ≡ Some (declared (declared_names core) d) → Among k d.constructors → Among (Applied (H.«Type» (suc m)) cs) ns.types → AreThere (field_types cs (fields (constructor_fields (data_scope (declared_names core) d) k)))
  fields_there m cs d k e b a =
      unless_all_there (field_types cs (fields (constructor_fields (data_scope (declared_names core) d) k)))
      (λ f g. parts_there (Applied (H.«Type» (suc m)) cs) f a
      (among_right f (unless_ints cs) (fields_of cs (declared_at (flat_source core) (suc m)))
      (subst (λ o. Among f (fields_of cs o)) (sym e)
      (among_of (λ (k : S.Constructor). unless_ints (field_types cs k.fields)) (constructor (data_scope (declared_names core) d) k) f
      (map (constructor (data_scope (declared_names core) d)) d.constructors) (among_map d.constructors b) g))))
    where
      among_map : (ks : List DataConstructor) → Among k ks → Among (constructor (data_scope (declared_names core) d) k) (map (constructor (data_scope (declared_names core) d)) ks)
      among_map [] h = absurd h
      among_map (x ∷ ks) (inl h) = inl (ap (constructor (data_scope (declared_names core) d)) h)
      among_map (x ∷ ks) (inr h) = inr (among_map ks h)

  -- ---- values

  abbrev pub Valued : Closed → Type 0
  Valued c = (v : Value) × HasType table (type_number ns c) v

  abbrev AllValued : Closeds → Type 0
  AllValued cs = (vs : Values) × HaveTypes table (numbers_of ns cs) vs

  no_int : (ts : List Closed) → ((c : Closed) → Among c ts → IsApplied c) → number_in ts C.Int ≡ None
  no_int [] h = refl
  no_int (C.Int ∷ ts) h = absurd (h C.Int (inl refl))
  no_int (Applied x cs ∷ ts) h = let r = no_int ts (λ c a. h c (inr a)) in number_cons C.Int (Applied x cs) ts ∙ ap (λ o. Rattle.std.specs.Prelude.option_map suc o) r

  int_valued : Valued C.Int
  int_valued = (Int (pos 0), subst (λ n. HasType table n (Int (pos 0))) (sym (ap from_one (no_int ns.types applied))) (omega arith))

  -- the place of a type, and its row there
  pub row_at : (m : ℕ) (cs : Closeds) (d : Data) → declared_at (flat_source core) (suc m) ≡ Some (declared (declared_names core) d) → Among (Applied (H.«Type» (suc m)) cs) ns.types → (i : ℕ) × (type_number ns (Applied (H.«Type» (suc m)) cs) ≡ suc i) × (shapes table i ≡ row_of core ns d cs)
  row_at m cs d e a =
      let at = number_there (Applied (H.«Type» (suc m)) cs) ns.types a in (
        at.0,
        ap from_one at.1,
        shapes_is table at.0 (row_of core ns d cs)
            (one_at (rows_of (flat_source core) ns) ns.types (λ c b. has_row core ns c (good c b) (applied c b)) at.0 (Applied (H.«Type» (suc m)) cs) (row_of core ns d cs) at.2 (row_is core ns m cs d e)),
      )

  node_valued : (m c : ℕ) (cs : Closeds) (d : Data) (k : DataConstructor) → declared_at (flat_source core) (suc m) ≡ Some (declared (declared_names core) d) → Among (Applied (H.«Type» (suc m)) cs) ns.types → slice_get d.constructors c ≡ Some k → AllValued (field_types cs (fields (constructor_fields (data_scope (declared_names core) d) k))) → Valued (Applied (H.«Type» (suc m)) cs)
  node_valued m c cs d k e a at vs =
      let row = row_at m cs d e a in
      let shape : slice_get (row_of core ns d cs) c ≡ Some (flat_constructor ns cs (constructor (data_scope (declared_names core) d) k)) =
      get_map (flat_constructor ns cs) (declared (declared_names core) d).constructors c (constructor (data_scope (declared_names core) d) k)
      (get_map (constructor (data_scope (declared_names core) d)) d.constructors c k at) in
      let there : slice_get (shapes table row.0) c ≡ Some (flat_constructor ns cs (constructor (data_scope (declared_names core) d) k)) = subst (λ r. slice_get r c ≡ Some (flat_constructor ns cs (constructor (data_scope (declared_names core) d) k))) (sym row.2) shape in
      (Node c vs.0, subst (λ n. HasType table n (Node c vs.0)) (sym row.1) (flat_constructor ns cs (constructor (data_scope (declared_names core) d) k), there, vs.1))

  mutual
    value_of : (cs : Closeds) → ((k : ℕ) → Valued (pick cs k)) → (t : D.Ty) (tree : D.Tree) → D.HasType (declarations core) t tree → IsThere (field_type cs (field t)) → IsGood core (field_type cs (field t)) → Valued (field_type cs (field t))
    value_of cs ok D.Given D.Leaf h a g = int_valued
    value_of cs ok (D.Parameter k) D.Leaf h a g = ok k
    value_of cs ok (D.Applied u us) D.Leaf h a g = absurd h
    value_of cs ok D.Given (D.Node c vs) h a g = absurd h
    value_of cs ok (D.Parameter k) (D.Node c vs) h a g = absurd h
    value_of cs ok (D.Applied u us) (D.Node c vs) h (inl a) g = absurd (cc)
    value_of cs ok (D.Applied u us) (D.Node c vs) h (inr a) g =
        let below : u < length (data_types core) = (let e = g.0.1 in let b = g.0.2 in omega (arith, e, b)) in
        let there = declared_is core u below in
        let rows : D.constructors (declarations core) u ≡ map (constructor_fields (data_scope (declared_names core) there.0)) there.0.constructors =
        declared_constructors (declarations core) u (data_declared (declared_names core) there.0) (get_map (data_declared (declared_names core)) (data_types core) u there.0 there.1) in
        let at = map_at (constructor_fields (data_scope (declared_names core) there.0)) there.0.constructors c h.0 (subst (λ r. slice_get r c ≡ Some h.0) rows h.1) in
        let fs : D.Tys = constructor_fields (data_scope (declared_names core) there.0) at.0 in
        let same : field_types cs (fields (D.fill_all us h.0)) ≡ field_types (field_types cs (fields us)) (fields fs) =
        all_filled_once cs us h.0 ∙ ap (λ ts. field_types (field_types cs (fields us)) (fields ts)) (sym at.2) in
        let near = fields_there u (field_types cs (fields us)) there.0 at.0 there.2 (there_among there.0.constructors c at.0 at.1) a in
        let sound = fields_good core (length there.0.parameters) (field_types cs (fields us)) fs g.1 (all_looked_up_sound core there.0 (writtens_of at.0.fields)) in
        let parts = values_of cs ok (D.fill_all us h.0) vs h.2 (subst AreThere (sym same) near) (subst (AreGood core) (sym same) sound) in
        node_valued u c (field_types cs (fields us)) there.0 at.0 there.2 a at.1 (subst AllValued same parts)

    values_of : (cs : Closeds) → ((k : ℕ) → Valued (pick cs k)) → (ts : D.Tys) (trees : D.Trees) → D.HaveTypes (declarations core) ts trees → AreThere (field_types cs (fields ts)) → AreGood core (field_types cs (fields ts)) → AllValued (field_types cs (fields ts))
    values_of cs ok D.NoTys D.End h a g = (End, tt)
    values_of cs ok D.NoTys (D.More v vs) h a g = absurd h
    values_of cs ok (D.MoreTys t ts) D.End h a g = absurd h
    values_of cs ok (D.MoreTys t ts) (D.More v vs) h a g =
        let one = value_of cs ok t v h.0 a.0 g.0 in
        let rest = values_of cs ok ts vs h.1 a.1 g.1 in
        (More one.0 rest.0, (one.1, rest.1))

  -- a data type with arguments that have values
  data_valued : (m : ℕ) (cs : Closeds) → ((k : ℕ) → Valued (pick cs k)) → (n : m < length (data_types core)) → Among (Applied (H.«Type» (suc m)) cs) ns.types → AreGood core cs → (v : D.Tree) → D.HasType (declarations core) (D.own (declarations core) m) v → Valued (Applied (H.«Type» (suc m)) cs)
  data_valued m cs ok n a g D.Leaf h = absurd h
  data_valued m cs ok n a g (D.Node c vs) h =
      let there = declared_is core m n in
      let declared_there : slice_get (declarations core) m ≡ Some (data_declared (declared_names core) there.0) = get_map (data_declared (declared_names core)) (data_types core) m there.0 there.1 in
      let rows = declared_constructors (declarations core) m (data_declared (declared_names core) there.0) declared_there in
      let arities : D.arity (declarations core) m ≡ length there.0.parameters = declared_arity (declarations core) m (data_declared (declared_names core) there.0) declared_there in
      let at = map_at (constructor_fields (data_scope (declared_names core) there.0)) there.0.constructors c h.0 (subst (λ r. slice_get r c ≡ Some h.0) rows h.1) in
      let fs : D.Tys = constructor_fields (data_scope (declared_names core) there.0) at.0 in
      let sound = all_looked_up_sound core there.0 (writtens_of at.0.fields) in
      let same : D.fill_all (D.own_from 0 (D.arity (declarations core) m)) h.0 ≡ fs =
      ap (λ a. D.fill_all (D.own_from 0 a) h.0) arities ∙ ap (λ ts. D.fill_all (D.own_from 0 (length there.0.parameters)) ts) (sym at.2) ∙
      own_same_all (length (data_types core)) (length there.0.parameters) fs sound in
      let near = fields_there m cs there.0 at.0 there.2 (there_among there.0.constructors c at.0 at.1) a in
      let parts = values_of cs ok fs vs (subst (λ ts. D.HaveTypes (declarations core) ts vs) same h.2) near (fields_good core (length there.0.parameters) cs fs g sound) in
      node_valued m c cs there.0 at.0 there.2 a at.1 parts

  module _ (valued : (n : ℕ) → n < length (data_types core) → D.IsValued (declarations core) n) where
    by_number : (n : ℕ) (cs : Closeds) → ((k : ℕ) → Valued (pick cs k)) → (m : ℕ) → n ≡ suc m → m < length (data_types core) → AreGood core cs → Among (Applied (H.«Type» n) cs) ns.types → Valued (Applied (H.«Type» n) cs)
    by_number n cs ok m e b g a =
        let v = valued m b in
        subst (λ n. Valued (Applied (H.«Type» n) cs)) (sym e)
        (data_valued m cs ok b (subst (λ n. Among (Applied (H.«Type» n) cs) ns.types) e a) g v.0 v.1)

    mutual
      pub type_valued : (c : Closed) → IsThere c → IsGood core c → Valued c
      type_valued C.Int a g = int_valued
      type_valued (Applied (H.Function f) cs) a g = absurd g
      type_valued (Applied (H.«Type» n) cs) (inl e) g = absurd (cc)
      type_valued (Applied (H.«Type» n) cs) (inr a) g =
          by_number n cs (λ k. argument_valued cs (arguments_there n cs a) g.1 k) g.0.0 g.0.1 g.0.2 g.1 a

      argument_valued : (cs : Closeds) → AreThere cs → AreGood core cs → (k : ℕ) → Valued (pick cs k)
      argument_valued NoClosed a g k = int_valued
      argument_valued (MoreClosed c cs) a g zero = type_valued c a.0 g.0
      argument_valued (MoreClosed c cs) a g (suc k) = argument_valued cs a.1 g.1 k
