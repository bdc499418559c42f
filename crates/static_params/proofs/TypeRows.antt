-- The table of a flat program: one row for each type that is numbered, and with a type its parts are numbered.
use Rattle.std.proofs.Common.{◌+◌, nat_lt, not, cond, ◌≡◌, ◌≤◌, ◌<◌, ◌==◌, ◌&&◌, ◌||◌, ◌⊎◌, inl, inr, ℕ, zero, suc, Bool, true, false, List, [], ◌∷◌, ◌++◌, length, map, Option, Some, None, option_map, slice_get, if◌then◌else◌, refl, sym, ap, ap₂, ◌∙◌, subst, arith}
use Rattle.std.specs.List.{list_any, position_or_len}
use Rattle.std.proofs.lemmas.Bool.Decides.{nat_tests}
use Rattle.fip_language.specs.Core.{Data, Function, Core, Written}
use Rattle.fip_language.specs.Every.{Among}
use Rattle.fip_language.specs.Mentions.{all_of}
use Rattle.fip_language.specs.Table.{Shape, Table, shapes}
use Rattle.data_types.specs.Declarations.{declared_names}
use Rattle.reached_instances.specs.closed_types.declared.closed.Head.{Head}
use Rattle.reached_instances.specs.closed_types.declared.closed.Head.TheVariants as H
use Rattle.reached_instances.specs.closed_types.Closed.{Closed, Closeds, Int, Applied, NoClosed, MoreClosed, same_head, same_closed, same_closeds}
use Rattle.reached_instances.specs.closed_types.Source as S
use Rattle.reached_instances.specs.closed_types.Source.{Source, Instance, declared_at}
use Rattle.reached_instances.specs.closed_types.Uses.{declared_type}
use Rattle.reached_instances.specs.closed_types.Numbering.{with_new, with_all, AreNumbered}
use Rattle.reached_instances.specs.closed_types.TypeInstances as Y
use Rattle.reached_instances.specs.closed_types.TypeInstances.{unless_int, types_written, numbers_named, types_named, types_in, types_of_instance, types_among, types_given, type_roots, field_types, unless_ints, fields_of, parts_of, written_in_header, annotations_in_block}
use Rattle.static_params.specs.FlatProgram.{Numbers, number_in, from_one, type_number, flat_constructor, row_if, rows_of, number_if, declaring_of}
use Rattle.static_params.specs.FlatSource.{flat_source, declared}
use Rattle.static_params.proofs.GoodTypes.{among_either, all_of_have, reached_have, IsGood}
use Rattle.static_params.proofs.GoodInstances.{declared_is}
use Rattle.fip_language.proofs.Facts.{and_both as same_both, equal_itself as number_same, same_number}
use Rattle.reached_instances.proofs.closed_types.ClosedTrees.{head_is as heads_same, head_self as head_same}
pub use Rattle.reached_instances.proofs.closed_types.Numbered.{among_left, among_of, among_right}
pub use Rattle.reached_instances.proofs.closed_types.SharedTrees.{among_at as there_among}

-- ---- lists

pub some_below : {A : Type 0} (x : A) (xs : List A) → Among x xs → 0 < length xs
some_below x [] h = absurd h
some_below x (y ∷ xs) h = omega arith

-- ---- closed trees are the same where the test says so

mutual
  pub closed_same : (c d : Closed) → same_closed c d ≡ true → c ≡ d
  closed_same Int Int e = refl
  closed_same Int (Applied h ds) e = absurd (cc)
  closed_same (Applied g cs) Int e = absurd (cc)
  closed_same (Applied g cs) (Applied h ds) e =
      let parts = same_both (same_head g h) (same_closeds cs ds) e in
      ap₂ (λ h ds. Applied h ds) (heads_same g h parts.0) (closeds_same cs ds parts.1)

  pub closeds_same : (cs ds : Closeds) → same_closeds cs ds ≡ true → cs ≡ ds
  closeds_same NoClosed NoClosed e = refl
  closeds_same NoClosed (MoreClosed d ds) e = absurd (cc)
  closeds_same (MoreClosed c cs) NoClosed e = absurd (cc)
  closeds_same (MoreClosed c cs) (MoreClosed d ds) e =
      let parts = same_both (same_closed c d) (same_closeds cs ds) e in
      ap₂ (λ d ds. MoreClosed d ds) (closed_same c d parts.0) (closeds_same cs ds parts.1)

mutual
  pub same_self : (c : Closed) → same_closed c c ≡ true
  same_self Int = refl
  same_self (Applied h cs) = ap₂ (λ a b. a && b) (head_same h) (same_selves cs)

  pub same_selves : (cs : Closeds) → same_closeds cs cs ≡ true
  same_selves NoClosed = refl
  same_selves (MoreClosed c cs) = ap₂ (λ a b. a && b) (same_self c) (same_selves cs)

found : (x : Closed) (xs : List Closed) → list_any (λ y. same_closed x y) xs ≡ true → Among x xs
found x [] e = absurd (cc)
found x (y ∷ xs) e = by (same_closed x y) refl (found x xs)
  where
    by : (b : Bool) → same_closed x y ≡ b → (list_any (λ y. same_closed x y) xs ≡ true → Among x xs) → Among x (y ∷ xs)
    by true f later = inl (closed_same x y f)
    by false f later = inr (later (sym (ap (λ b. b || list_any (λ y. same_closed x y) xs) f) ∙ e))

added_among : (xs : List Closed) (x : Closed) (b : Bool) → list_any (λ y. same_closed x y) xs ≡ b → Among x (if b then xs else xs ++ x ∷ [])
added_among xs x true e = found x xs e
added_among xs x false e = among_right x xs (x ∷ []) (inl refl)

kept_among : (xs : List Closed) (x y : Closed) (b : Bool) → Among y xs → Among y (if b then xs else xs ++ x ∷ [])
kept_among xs x y true h = h
kept_among xs x y false h = among_left y xs (x ∷ []) h

all_kept : (xs ys : List Closed) (y : Closed) → Among y xs → Among y (with_all same_closed xs ys)
all_kept xs [] y h = h
all_kept xs (z ∷ ys) y h = all_kept (with_new same_closed xs z) ys y (kept_among xs z y (list_any (λ w. same_closed z w) xs) h)

pub all_among : (xs ys : List Closed) (y : Closed) → Among y ys → Among y (with_all same_closed xs ys)
all_among xs [] y h = absurd h
all_among xs (z ∷ ys) y (inl e) = all_kept (with_new same_closed xs z) ys y (subst (λ w. Among w (with_new same_closed xs z)) (sym e) (added_among xs z (list_any (λ w. same_closed z w) xs) refl))
all_among xs (z ∷ ys) y (inr h) = all_among (with_new same_closed xs z) ys y h

-- what the roots and the members give is numbered
pub root_numbered : (roots : List Closed) (next : Closed → List Closed) (xs : List Closed) → AreNumbered same_closed roots next xs → (y : Closed) → Among y roots → Among y xs
root_numbered roots next xs h y a = subst (λ l. Among y l) (sym h.ordered) (all_among [] (roots ++ all_of next xs) y (among_left y roots (all_of next xs) a))

pub next_numbered : (roots : List Closed) (next : Closed → List Closed) (xs : List Closed) → AreNumbered same_closed roots next xs → (x y : Closed) → Among x xs → Among y (next x) → Among y xs
next_numbered roots next xs h x y a b =
    subst (λ l. Among y l) (sym h.ordered) (all_among [] (roots ++ all_of next xs) y (among_right y roots (all_of next xs) (among_of next x y xs a b)))

-- ---- the number of what is numbered

first_place : (n : ℕ) → cond {A = Option ℕ} (nat_lt 0 (suc n)) (Some 0) None ≡ Some 0
first_place n = let b : nat_lt 0 (suc n) ≡ true = grind (arith, nat_tests) in ap (λ b. cond {A = Option ℕ} b (Some 0) None) b

later_place : (q n : ℕ) → cond {A = Option ℕ} (nat_lt (1 + q) (suc n)) (Some (1 + q)) None ≡ option_map suc (cond {A = Option ℕ} (nat_lt q n) (Some q) None)
later_place q n = by (nat_lt q n) refl
  where
    by : (b : Bool) → nat_lt q n ≡ b → cond {A = Option ℕ} (nat_lt (1 + q) (suc n)) (Some (1 + q)) None ≡ option_map suc (cond {A = Option ℕ} (nat_lt q n) (Some q) None)
    by true e =
        let f : nat_lt (1 + q) (suc n) ≡ true = grind (arith, nat_tests) in
        let g : 1 + q ≡ suc q = omega arith in
        ap (λ b. cond {A = Option ℕ} b (Some (1 + q)) None) f ∙ ap (λ m. Some m) g ∙ sym (ap (λ b. option_map suc (cond {A = Option ℕ} b (Some q) None)) e)
    by false e =
        let f : nat_lt (1 + q) (suc n) ≡ false = grind (arith, nat_tests) in
        ap (λ b. cond {A = Option ℕ} b (Some (1 + q)) None) f ∙ sym (ap (λ b. option_map suc (cond {A = Option ℕ} b (Some q) None)) e)

-- the number in a list, by its first item
pub number_cons : (c d : Closed) (ds : List Closed) → number_in (d ∷ ds) c ≡ (if same_closed c d then Some 0 else option_map suc (number_in ds c))
number_cons c d ds = by (same_closed c d) refl
  where
    by : (b : Bool) → same_closed c d ≡ b → number_in (d ∷ ds) c ≡ (if same_closed c d then Some 0 else option_map suc (number_in ds c))
    by true e =
        ap (λ t. cond {A = Option ℕ} (nat_lt (cond {A = ℕ} (not t) (1 + position_or_len (same_closed c) ds) 0) (suc (length ds))) (Some (cond {A = ℕ} (not t) (1 + position_or_len (same_closed c) ds) 0)) None) e ∙
        first_place (length ds) ∙ sym (ap (λ b. if b then Some 0 else option_map suc (number_in ds c)) e)
    by false e =
        ap (λ t. cond {A = Option ℕ} (nat_lt (cond {A = ℕ} (not t) (1 + position_or_len (same_closed c) ds) 0) (suc (length ds))) (Some (cond {A = ℕ} (not t) (1 + position_or_len (same_closed c) ds) 0)) None) e ∙
        later_place (position_or_len (same_closed c) ds) (length ds) ∙ sym (ap (λ b. if b then Some 0 else option_map suc (number_in ds c)) e)

pub number_there : (c : Closed) (ds : List Closed) → Among c ds → (i : ℕ) × (number_in ds c ≡ Some i) × (slice_get ds i ≡ Some c)
number_there c [] h = absurd h
number_there c (d ∷ ds) h = by (same_closed c d) refl (number_there c ds)
  where
    later : Among c (d ∷ ds) → same_closed c d ≡ false → Among c ds
    later (inl e) f = let g : same_closed c d ≡ true = subst (λ x. same_closed c x ≡ true) e (same_self c) in absurd (cc)
    later (inr a) f = a

    by : (b : Bool) → same_closed c d ≡ b → (Among c ds → (i : ℕ) × (number_in ds c ≡ Some i) × (slice_get ds i ≡ Some c)) →
        (i : ℕ) × (number_in (d ∷ ds) c ≡ Some i) × (slice_get (d ∷ ds) i ≡ Some c)
    by true f k = (0, number_cons c d ds ∙ ap (λ b. if b then Some 0 else option_map suc (number_in ds c)) f, ap (λ x. Some x) (sym (closed_same c d f)))
    by false f k =
        let r = k (later h f) in
        (suc r.0, number_cons c d ds ∙ ap (λ b. if b then Some 0 else option_map suc (number_in ds c)) f ∙ ap (option_map suc) r.1, r.2)

number_below : (c : Closed) (ds : List Closed) (i : ℕ) → number_in ds c ≡ Some i → i < length ds
number_below c [] i e = absurd (cc)
number_below c (d ∷ ds) i e = by (same_closed c d) (number_in ds c) refl (sym (number_cons c d ds) ∙ e) (number_below c ds)
  where
    by : (b : Bool) (o : Option ℕ) → number_in ds c ≡ o → (if b then Some 0 else option_map suc o) ≡ Some i → ((j : ℕ) → number_in ds c ≡ Some j → j < length ds) → i < length (d ∷ ds)
    by true o f g k = let same : ◌≡◌ {A = ℕ} 0 i = cc in omega (arith, same)
    by false None f g k = absurd (cc)
    by false (Some j) f g k = let r = k j f in let same : suc j ≡ i = cc in omega (arith, r, same)

pub from_one_within : (o : Option ℕ) (n : ℕ) → ((i : ℕ) → o ≡ Some i → i < n) → from_one o ≤ n
from_one_within None n h = omega arith
from_one_within (Some i) n h = let r = h i refl in omega (arith, r)

-- a type's number is in the table, or 0
pub type_within : (ns : Numbers) (c : Closed) → type_number ns c ≤ length ns.types
type_within ns c = from_one_within (number_in ns.types c) (length ns.types) (number_below c ns.types)

-- the number in a list of what may be there
pub place_below : (ds : List Closed) (c : Closed) (i : ℕ) → number_in ds c ≡ Some i → i < length ds
place_below ds c i e = number_below c ds i e

-- ---- one for each

module _ {A B : Type 0} (f : A → List B) where
  pub one_each : (xs : List A) → ((x : A) → Among x xs → (b : B) × (f x ≡ b ∷ [])) → length (all_of f xs) ≡ length xs
  one_each [] h = refl
  one_each (x ∷ xs) h =
      let one = h x (inl refl) in
      let rest = one_each xs (λ y a. h y (inr a)) in
      ap (λ l. length (l ++ all_of f xs)) one.1 ∙ ap suc rest

  pub one_at : (xs : List A) → ((x : A) → Among x xs → (b : B) × (f x ≡ b ∷ [])) → (i : ℕ) (x : A) (b : B) → slice_get xs i ≡ Some x → f x ≡ b ∷ [] → slice_get (all_of f xs) i ≡ Some b
  one_at [] h i x b e g = absurd (cc)
  one_at (y ∷ xs) h zero x b e g =
      let same : y ≡ x = cc in
      ap (λ z. slice_get (f z ++ all_of f xs) 0) same ∙ ap (λ l. slice_get (l ++ all_of f xs) 0) g
  one_at (y ∷ xs) h (suc i) x b e g =
      let one = h y (inl refl) in
      ap (λ l. slice_get (l ++ all_of f xs) (suc i)) one.1 ∙ one_at xs (λ z a. h z (inr a)) i x b e g

pub shapes_is : (tb : Table) (i : ℕ) (row : List Shape) → slice_get tb i ≡ Some row → shapes tb i ≡ row
shapes_is [] i row e = absurd (cc)
shapes_is (r ∷ tb) zero row e = let f : r ≡ row = cc in f
shapes_is (r ∷ tb) (suc i) row e = shapes_is tb i row e

-- ---- int isn't numbered

abbrev pub IsApplied : Closed → Type 0
IsApplied Int = ⊥
IsApplied (Applied h cs) = Unit {0}

unless_applied : (d c : Closed) → Among c (unless_int d) → IsApplied c
unless_applied Int c a = absurd a
unless_applied (Applied h ds) c (inl e) = subst IsApplied (sym e) tt
unless_applied (Applied h ds) c (inr n) = absurd n

unless_ints_applied : (cs : Closeds) (c : Closed) → Among c (unless_ints cs) → IsApplied c
unless_ints_applied NoClosed c a = absurd a
unless_ints_applied (MoreClosed d cs) c a = by (among_either c (unless_int d) (unless_ints cs) a) (unless_ints_applied cs c)
  where
    by : Among c (unless_int d) ⊎ Among c (unless_ints cs) → (Among c (unless_ints cs) → IsApplied c) → IsApplied c
    by (inl b) k = unless_applied d c b
    by (inr b) k = k b

written_applied : (s : Source) (here : Instance) (ws : List Written) (c : Closed) → Among c (types_written s here ws) → IsApplied c
written_applied s here ws c a = all_of_have IsApplied (λ (w : Written). unless_int (declared_type s here w)) ws (λ w b d e. unless_applied (declared_type s here w) d e) c a

applied_map : (ns : List ℕ) (c : Closed) → Among c (map (λ n. Applied (H.«Type» n) NoClosed) ns) → IsApplied c
applied_map [] c a = absurd a
applied_map (n ∷ ns) c (inl e) = subst IsApplied (sym e) tt
applied_map (n ∷ ns) c (inr a) = applied_map ns c a

types_in_applied : (s : Source) (here : Instance) (o : Option Function) (c : Closed) → Among c (types_in s here o) → IsApplied c
types_in_applied s here None c a = absurd a
types_in_applied s here (Some f) c a =
    first (among_either c (types_written s here (written_in_header f)) (types_written s here (annotations_in_block f.body) ++ types_named s f.body) a)
  where
    second : Among c (types_written s here (annotations_in_block f.body)) ⊎ Among c (types_named s f.body) → IsApplied c
    second (inl b) = written_applied s here (annotations_in_block f.body) c b
    second (inr b) = applied_map (numbers_named s f.body) c b

    first : Among c (types_written s here (written_in_header f)) ⊎ Among c (types_written s here (annotations_in_block f.body) ++ types_named s f.body) → IsApplied c
    first (inl b) = written_applied s here (written_in_header f) c b
    first (inr b) = second (among_either c (types_written s here (annotations_in_block f.body)) (types_named s f.body) b)

of_instance_applied : (s : Source) (x c : Closed) → Among c (types_of_instance s x) → IsApplied c
of_instance_applied s Int c a = absurd a
of_instance_applied s (Applied (H.«Type» n) cs) c a = absurd a
of_instance_applied s (Applied (H.Function f) cs) c a = types_in_applied s (record { function = f; given = cs }) (slice_get s.functions f) c a

types_among_applied : (cs : Closeds) (c : Closed) → Among c (types_among cs) → IsApplied c
types_among_applied NoClosed c a = absurd a
types_among_applied (MoreClosed Int cs) c a = types_among_applied cs c a
types_among_applied (MoreClosed (Applied (H.«Type» n) ds) cs) c (inl e) = subst IsApplied (sym e) tt
types_among_applied (MoreClosed (Applied (H.«Type» n) ds) cs) c (inr a) = types_among_applied cs c a
types_among_applied (MoreClosed (Applied (H.Function f) ds) cs) c a = types_among_applied cs c a

given_applied : (x c : Closed) → Among c (types_given x) → IsApplied c
given_applied Int c a = absurd a
given_applied (Applied h cs) c a = types_among_applied cs c a

roots_applied : (s : Source) (is ps : List Closed) (c : Closed) → Among c (type_roots s is ps) → IsApplied c
roots_applied s is ps c (inl e) = subst IsApplied (sym e) tt
roots_applied s is ps c (inr a) = by (among_either c (all_of (types_of_instance s) is) (all_of types_given ps) a)
  where
    by : Among c (all_of (types_of_instance s) is) ⊎ Among c (all_of types_given ps) → IsApplied c
    by (inl b) = all_of_have IsApplied (types_of_instance s) is (λ x k d e. of_instance_applied s x d e) c b
    by (inr b) = all_of_have IsApplied types_given ps (λ x k d e. given_applied x d e) c b

fields_applied : (cs : Closeds) (o : Option S.Declared) (c : Closed) → Among c (fields_of cs o) → IsApplied c
fields_applied cs None c a = absurd a
fields_applied cs (Some d) c a = all_of_have IsApplied (λ (k : S.Constructor). unless_ints (field_types cs k.fields)) d.constructors (λ k b e f. unless_ints_applied (field_types cs k.fields) e f) c a

parts_applied : (s : Source) (x c : Closed) → Among c (parts_of s x) → IsApplied c
parts_applied s Int c a = absurd a
parts_applied s (Applied (H.Function f) cs) c a = unless_ints_applied cs c a
parts_applied s (Applied (H.«Type» n) cs) c a = by (among_either c (unless_ints cs) (fields_of cs (declared_at s n)) a)
  where
    by : Among c (unless_ints cs) ⊎ Among c (fields_of cs (declared_at s n)) → IsApplied c
    by (inl b) = unless_ints_applied cs c b
    by (inr b) = fields_applied cs (declared_at s n) c b

pub types_applied : (s : Source) (is ps ts : List Closed) → Y.AreTypes s is ps ts → (c : Closed) → Among c ts → IsApplied c
types_applied s is ps ts h c a = reached_have IsApplied (type_roots s is ps) (parts_of s) (λ x b. roots_applied s is ps x b) (λ x y k b. parts_applied s x y b) c (h.reached c a)

-- ---- the rows

-- the row of a type: the constructors of its data type
abbrev pub row_of : Core → Numbers → Data → Closeds → List Shape
row_of core ns d cs = map (flat_constructor ns cs) (declared (declared_names core) d).constructors

pub row_is : (core : Core) (ns : Numbers) (m : ℕ) (cs : Closeds) (d : Data) → declared_at (flat_source core) (suc m) ≡ Some (declared (declared_names core) d) → rows_of (flat_source core) ns (Applied (H.«Type» (suc m)) cs) ≡ row_of core ns d cs ∷ []
row_is core ns m cs d e = ap (row_if ns cs) e

pub has_row : (core : Core) (ns : Numbers) (c : Closed) → IsGood core c → IsApplied c → (row : List Shape) × (rows_of (flat_source core) ns c ≡ row ∷ [])
has_row core ns Int h a = absurd a
has_row core ns (Applied (H.Function f) cs) h a = absurd h
has_row core ns (Applied (H.«Type» n) cs) h a =
    let there = declared_is core h.0.0 h.0.2 in
    (row_of core ns there.0 cs, ap (λ k. rows_of (flat_source core) ns (Applied (H.«Type» k) cs)) h.0.1 ∙ row_is core ns h.0.0 cs there.0 there.2)

pub has_declaring : (core : Core) (c : Closed) → IsGood core c → IsApplied c → (n : ℕ) × (declaring_of (flat_source core) c ≡ n ∷ [])
has_declaring core Int h a = absurd a
has_declaring core (Applied (H.Function f) cs) h a = absurd h
has_declaring core (Applied (H.«Type» n) cs) h a =
    let there = declared_is core h.0.0 h.0.2 in
    (n, ap (number_if n) (ap (declared_at (flat_source core)) h.0.1 ∙ there.2))
