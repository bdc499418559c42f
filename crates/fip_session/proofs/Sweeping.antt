-- The trees of all names of a book, and a store of which all other cells are released.
use Rattle.std.proofs.Common.{◌≡◌, ◌≢◌, ◌⊎◌, inl, inr, ◌∙◌, ℕ, zero, suc, ◌+◌, ◌-◌, ◌<◌, ◌≤◌, Bool, true, false, List, [], ◌∷◌, ◌++◌, length, drop, map, Option, Some, None, option_map, slice_get, refl, sym, ap, subst, arith, if◌then◌else◌}
use Rattle.std.specs.Prelude.{slice_set, IfSome, IfNone}
use Rattle.std.proofs.lemmas.Bool.{cond-true, cond-false}
use Rattle.std.proofs.lemmas.Option.{none-some, same_Some}
use Rattle.std.proofs.lemmas.Map.Text.{is_eq-slice_cmp}
use Rattle.std.proofs.lemmas.Map.Keys.{sorted_head, sorted_tail}
use Rattle.std.proofs.lemmas.Slice.Eq.{bytes_eq-Decides}
use Rattle.std.specs.BTreeMap.{BTreeMap, is_at}
use Rattle.std.specs.Cmp.Lexicographic.{slice_cmp}
use Rattle.std.specs.List.{AllByRecursion}
use Rattle.std.specs.List.Sorted.{IsStrictlySortedBy}
use Rattle.std.specs.Map.{lookup, keys_of}
use Rattle.std.specs.Ordering.{is_eq, nat_cmp}
use Rattle.std.specs.Str.{bytes_eq}
use Rattle.std.specs.declared.alloc.Global.{Global}
use Rattle.std.specs.declared.cmp.Ordering.TheVariants.{Less}
use Rattle.std.specs.declared.vec.Vec.{Vec}
use Rattle.cell_store.specs.Cells as L
use Rattle.cell_store.specs.Cells.{IsAfter}
use Rattle.fip_language.specs.Core.{Name}
use Rattle.fip_language.specs.Every.{Every}
use Rattle.fip_language.specs.Store.{Cell, Placed, word_of, uses, count, places, one_at}
use Rattle.fip_language.specs.Table.{Table}
use Rattle.fip_machine.specs.machine_cells.Small.{store_of}
use Rattle.session_correctness.specs.Called.{IsGivenUp, IsSwept}
use Rattle.session_correctness.specs.Lodging.{Lodged, lodged_as, lodged_uses, but, AreDistinct}
use Rattle.session_correctness.specs.tree_refinement.machine_semantics.Cells.{Store, IsSized, IsStore, cell_in, there, released_at, one_if_some, one_if_true}
use Rattle.session_correctness.proofs.Sharing.{taken_out, distinct_but, if_true, name_itself}
use Rattle.store_trees.specs.Added.{Adds, places_of}
use Rattle.store_trees.specs.declared.trees.Tree.{Tree}
use Rattle.value_text.specs.Standing.{Stands}
use Rattle.fip_session.specs.Named.{found}
use Rattle.fip_session.specs.Planned.{Finds, held_by}
use Rattle.fip_session.specs.declared.book.Held.{Held}
use Rattle.fip_session.proofs.Forgetting.{same_or, unlike, but_same, but_other}
use Rattle.fip_session.proofs.GivingUp.{added_more, few_more}
use Rattle.fip_session.proofs.Readying.{every_at}
use Rattle.fip_session.proofs.Stores.{same_cell}
use Rattle.fip_language.proofs.Facts.{positive_or_zero as some_or, three_ways as place_or}
pub use Rattle.fip_session.proofs.After.{every_but}

abbrev pub Entries : Type 0
Entries = List (Vec ℕ Global × Held)

abbrev pub at_name : Name → Entries → Option Held
at_name name es = lookup (is_at (λ k. slice_cmp nat_cmp name k.items)) es

-- after a key there is no equal one
none_after : (name : Name) (es : Entries) → AllByRecursion (λ y. slice_cmp nat_cmp name y.items ≡ Less) (keys_of es) → at_name name es ≡ None
none_after name [] h = refl
none_after name (e ∷ es) h = cond-false (is_eq (slice_cmp nat_cmp name (e.0).items)) (Some e.1) (at_name name es) (ap is_eq h.0) ∙ none_after name es h.1

-- the trees of the first entries are gathered
pub record Gathering (tb : Table) (cs : L.Cells) (ls : List Lodged) (es : Entries) (list : List Tree) : Type 0 where
  pub left : List Lodged
  pub ordered : IsStrictlySortedBy (λ (a b : Vec ℕ Global). slice_cmp nat_cmp a.items b.items) (keys_of es)
  pub finds : (name : Name) → at_name name es ≡ option_map held_by (lodged_as name left)
  pub distinct : AreDistinct left
  pub stand : Every (λ l. Stands tb cs l.type l.tree) left
  pub sums : (q : ℕ) → count q (places_of list) + lodged_uses left q ≡ lodged_uses ls q

module _ (tb : Table) (cs : L.Cells) (ls : List Lodged) (k : Vec ℕ Global) (h : Held) (es : Entries) (list : List Tree) (g : Gathering tb cs ls ((k, h) ∷ es) list) where
  here : at_name k.items ((k, h) ∷ es) ≡ Some h
  here = cond-true (is_eq (slice_cmp nat_cmp k.items k.items)) (Some h) (at_name k.items es) (is_eq-slice_cmp k.items k.items ∙ (bytes_eq-Decides k.items k.items).1 refl)

  pub record IsLodged : Type 0 where
    pub lodged : Lodged
    pub is : lodged_as k.items g.left ≡ Some lodged
    pub stands : Stands tb cs h.ty lodged.tree
    pub word : word_of lodged.tree ≡ h.word

  pub is_lodged : IsLodged
  is_lodged = by (lodged_as k.items g.left) refl (sym (g.finds k.items) ∙ here)
    where
      by : (o : Option Lodged) → lodged_as k.items g.left ≡ o → option_map held_by o ≡ Some h → IsLodged
      by None e f = absurd (none-some h f)
      by (Some l) e f =
          let same : held_by l ≡ h = same_Some (held_by l) h f in
          record {
            lodged = l;
            is = e;
            stands = subst (λ t. Stands tb cs t l.tree) (ap (λ (x : Held). x.ty) same) (every_at (λ (m : Lodged). Stands tb cs m.type m.tree) k.items l g.left e g.stand);
            word = ap (λ (x : Held). x.word) same;
          }

  taken : (i : IsLodged) (q : ℕ) → lodged_uses g.left q ≡ uses q i.lodged.tree + lodged_uses (but k.items g.left) q
  taken i q = taken_out k.items i.lodged g.left q g.distinct i.is

  pub gathering_few : (i : IsLodged) (s : Store) → ((q : ℕ) → lodged_uses ls q ≤ there s q) → length list + length (places i.lodged.tree) ≤ length s.cells
  gathering_few i s apart = few_more s list i.lodged.tree (λ q. (let a = apart q in let b = g.sums q in let c = taken i q in omega (arith, a, b, c)))

  pub gathering_on : (i : IsLodged) (new : List Tree) → Adds list new i.lodged.tree → Gathering tb cs ls es new
  gathering_on i new adds = record {
    left = but k.items g.left;
    ordered = sorted_tail (λ (a b : Vec ℕ Global). slice_cmp nat_cmp a.items b.items) k (keys_of es) g.ordered;
    finds = λ name. elim (same_or k.items name) as (λ v. at_name name es ≡ option_map held_by (lodged_as name (but k.items g.left))) [
      | inl e ↦
          subst (λ m. at_name m es ≡ option_map held_by (lodged_as m (but k.items g.left))) e
          (none_after k.items es (sorted_head (λ (a b : Vec ℕ Global). slice_cmp nat_cmp a.items b.items) k (keys_of es) g.ordered) ∙ sym (ap (option_map held_by) (but_same k.items g.left)))
      | inr off ↦
          sym (cond-false (is_eq (slice_cmp nat_cmp name k.items)) (Some h) (at_name name es) (is_eq-slice_cmp name k.items ∙ unlike name k.items (λ e. off (sym e))))
          ∙ g.finds name ∙ ap (option_map held_by) (sym (but_other name k.items g.left off))
    ];
    distinct = distinct_but k.items g.left g.distinct;
    stand = every_but (λ (l : Lodged). Stands tb cs l.type l.tree) k.items g.left g.stand;
    sums = λ q. (let a = g.sums q in let b = taken i q in let c = added_more list new i.lodged.tree q adds in omega (arith, a, b, c));
  }

pub gathering_starts : (tb : Table) (cs : L.Cells) (m : BTreeMap (Vec ℕ Global) Held) (ls : List Lodged) (list : List Tree) → IsStrictlySortedBy (λ (a b : Vec ℕ Global). slice_cmp nat_cmp a.items b.items) (keys_of m.entries) → Finds m ls → AreDistinct ls → Every (λ l. Stands tb cs l.type l.tree) ls → list ≡ [] → Gathering tb cs ls m.entries list
gathering_starts tb cs m ls list ordered finds distinct stand none = record {
  left = ls;
  ordered = ordered;
  finds = finds;
  distinct = distinct;
  stand = stand;
  sums = λ q. (let z = ap (λ ts. count q (places_of ts)) none in omega (arith, z));
}

nothing_left : (ls : List Lodged) (q : ℕ) → ((name : Name) → None ≡ option_map held_by (lodged_as name ls)) → lodged_uses ls q ≡ 0
nothing_left [] q h = refl
nothing_left (l ∷ ls) q h = absurd (none-some (held_by l) (h l.name ∙ ap (option_map held_by) (if_true _ (Some l) (lodged_as l.name ls) (name_itself l.name l.name refl))))

pub gathering_ends : (tb : Table) (cs : L.Cells) (ls : List Lodged) (list : List Tree) (q : ℕ) → Gathering tb cs ls [] list → count q (places_of list) ≡ lodged_uses ls q
gathering_ends tb cs ls list q g = (let s = g.sums q in let z = nothing_left g.left q g.finds in omega (arith, s, z))

-- ---- the walk

-- a place is before the next cell that is looked at
abbrev pub IsPast : Option ℕ → ℕ → Type 0
IsPast None q = Unit {0}
IsPast (Some a) q = q < a

pub record Sweeping (held : ℕ → ℕ) (first now : Store) (next : Option ℕ) : Type 0 where
  pub cells : now.cells ≡ first.cells
  pub wide : length now.released ≡ length first.released
  pub here : (q : ℕ) → IsPast next q → held q ≡ 0 → released_at now q ≡ there first q
  pub other : (q : ℕ) → (0 < held q) ⊎ (IsPast next q → ⊥) → released_at now q ≡ released_at first q

past_or : (next : Option ℕ) (q : ℕ) → IsPast next q ⊎ (IsPast next q → ⊥)
past_or None q = inl tt
past_or (Some a) q = less_or q a
  where
    less_or : (q a : ℕ) → (q < a) ⊎ (q < a → ⊥)
    less_or q zero = inr (λ h. (let z : ⊥ = omega (arith, h) in z))
    less_or zero (suc a) = inl (omega arith)
    less_or (suc q) (suc a) = by (less_or q a)
      where
        by : (q < a) ⊎ (q < a → ⊥) → (suc q < suc a) ⊎ (suc q < suc a → ⊥)
        by (inl h) = inl (omega (arith, h))
        by (inr h) = inr (λ g. h (omega (arith, g)))

none_there : (s : Store) (q : ℕ) → L.cell_at s.cells q ≡ None → there s q ≡ 0
none_there s q e = ap one_if_some (sym (same_cell s.cells q) ∙ e)

-- between a place and the next one, or after it where there is none, no cell begins
abbrev pub IsNextCell : Option ℕ → Option ℕ → L.Cells → Type 0
IsNextCell before next cs = (r : ℕ) → IsAfter before r → IsPast next r → L.cell_at cs r ≡ None

pub sweeping_starts : (held : ℕ → ℕ) (first : Store) (next : Option ℕ) → IsStore first → IsNextCell None next first.cells → Sweeping held first first next
sweeping_starts held first next st empty = record {
  cells = refl;
  wide = refl;
  here = λ q past none. (let z = none_there first q (empty q tt past) in let f = st.of_cells q in omega (arith, z, f));
  other = λ q h. refl;
}

pub sweeping_store : (held : ℕ → ℕ) (first now : Store) (next : Option ℕ) → IsStore first → Sweeping held first now next → IsStore now
sweeping_store held first now next st w = record {
  sized = subst (Every IsSized) (sym w.cells) st.sized;
  wide = w.wide ∙ st.wide ∙ ap length (sym w.cells);
  of_cells = λ q.
      let t : there now q ≡ there first q = ap (λ cs. one_if_some (cell_in cs q)) w.cells in
      let f = st.of_cells q in
      elim (past_or next q) as (λ v. released_at now q ≤ there now q) [
        | inl past ↦ elim (some_or (held q)) as (λ v. released_at now q ≤ there now q) [
          | inl some ↦ let e = w.other q (inl some) in omega (arith, e, t, f)
          | inr none ↦ let e = w.here q past none in omega (arith, e, t)
        ]
        | inr not ↦ let e = w.other q (inr not) in omega (arith, e, t, f)
      ];
}

module _ (held : ℕ → ℕ) (first now u : Store) (p : ℕ) (next : Option ℕ) (ps : List ℕ) (st : IsStore first) (w : Sweeping held first now (Some p)) (up : IsGivenUp (λ q. count q ps) now u) (one : (q : ℕ) → 0 < count q ps → q ≡ p) (covers : held p ≡ 0 → 0 < count p ps) (held_not : 0 < held p → (q : ℕ) → count q ps ≡ 0) (following : (q : ℕ) → next ≡ Some q → p < q) (empty : IsNextCell (Some p) next first.cells) where
  before_next : (q : ℕ) → q < p → IsPast next q
  before_next q less = by next refl
    where
      by : (o : Option ℕ) → next ≡ o → IsPast o q
      by None e = tt
      by (Some a) e = (let b = following a e in omega (arith, b, less))

  here_next : IsPast next p
  here_next = by next refl
    where
      by : (o : Option ℕ) → next ≡ o → IsPast o p
      by None e = tt
      by (Some a) e = following a e

  away : (q : ℕ) → (q ≡ p → ⊥) → count q ps ≡ 0
  away q off = elim (some_or (count q ps)) as (λ v. count q ps ≡ 0) [
    | inl some ↦ absurd (off (one q some))
    | inr none ↦ none
  ]

  pub sweeping_on : Sweeping held first u next
  sweeping_on = record {
    cells = up.cells ∙ w.cells;
    wide = up.wide ∙ w.wide;
    here = λ q past none. elim (place_or q p) as (λ v. released_at u q ≡ there first q) [
      | inl less ↦ up.other q (away q (λ e. (let z : ⊥ = omega (arith, e, less) in z))) ∙ w.here q less none
      | inr (inl e) ↦
          up.here q (subst (λ k. 0 < count k ps) (sym e) (covers (subst (λ k. held k ≡ 0) e none)))
          ∙ ap (λ cs. one_if_some (cell_in cs q)) w.cells
      | inr (inr more) ↦
          let a = up.other q (away q (λ e. (let z : ⊥ = omega (arith, e, more) in z))) in
          let b = w.other q (inr (λ less. (let z : ⊥ = omega (arith, less, more) in z))) in
          let c = none_there first q (empty q more past) in
          let f = st.of_cells q in
          omega (arith, a, b, c, f)
    ];
    other = λ q h. elim h as (λ v. released_at u q ≡ released_at first q) [
      | inl some ↦ up.other q (elim (some_or (count q ps)) as (λ v. count q ps ≡ 0) [
        | inl some' ↦ held_not (subst (λ k. 0 < held k) (one q some') some) q
        | inr none ↦ none
      ]) ∙ w.other q (inl some)
      | inr not ↦
          up.other q (away q (λ e. not (subst (λ k. IsPast next k) (sym e) here_next)))
          ∙ w.other q (inr (λ less. not (before_next q less)))
    ];
  }

pub sweeping_ends : (held : ℕ → ℕ) (first now : Store) → Sweeping held first now None → IsSwept held first now
sweeping_ends held first now w = record {
  cells = w.cells;
  wide = w.wide;
  here = λ q none. w.here q tt none;
  other = λ q some. w.other q (inl some);
}

-- ---- the walk's end

-- how far the cells reach after a place
abbrev pub left_behind : L.Cells → Option ℕ → ℕ
left_behind cs None = 0
left_behind cs (Some p) = suc (length cs - p)

within_cells : (cs : L.Cells) (p : ℕ) → L.cell_at cs p ≢ None → p < length cs
within_cells [] p h = absurd (h refl)
within_cells (o ∷ os) zero h = omega arith
within_cells (o ∷ os) (suc p) h = (let r = within_cells os p h in omega (arith, r))

pub less_left : (cs : L.Cells) (p : ℕ) (o : Option ℕ) → L.cell_at cs p ≢ None → IfSome o (IsAfter (Some p)) → left_behind cs o < left_behind cs (Some p)
less_left cs p None there following = omega arith
less_left cs p (Some q) there following = (let l = within_cells cs p there in omega (arith, l, following))

pub next_cell : (before next : Option ℕ) (cs : L.Cells) → IfSome next (λ q. (r : ℕ) → IsAfter before r → r < q → L.cell_at cs r ≡ None) → IfNone next ((r : ℕ) → IsAfter before r → L.cell_at cs r ≡ None) → IsNextCell before next cs
next_cell before None cs some none r following past = none r following
next_cell before (Some q) cs some none r following past = some r following past

pub after_of : (p : ℕ) (next : Option ℕ) → IfSome next (IsAfter (Some p)) → (q : ℕ) → next ≡ Some q → p < q
after_of p next h q e = subst (λ o. IfSome o (IsAfter (Some p))) e h
