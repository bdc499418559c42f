-- A call over a store that holds what names hold: after it, however it ended, each cell that isn't released is one of
-- what is held then, once.
use Rattle.std.proofs.Common.{◌≡◌, ◌∙◌, ℕ, ◌+◌, ◌<◌, ◌≤◌, Bool, true, false, List, [], ◌∷◌, map, length, slice_get, Option, Some, None, refl, sym, ap, subst, if◌then◌else◌, arith}
use Rattle.tree_refinement.specs.fip_base.declared.plain.Param.{Param}
use Rattle.tree_refinement.specs.fip_language.Core.{Name}
use Rattle.tree_refinement.specs.fip_language.Declarations.{same_name}
use Rattle.tree_refinement.specs.fip_language.Every.{Every}
use Rattle.tree_refinement.specs.fip_language.Store.{Parts, NoParts, MoreParts, uses_of_all, count}
use Rattle.tree_refinement.specs.fip_language.Table.{Table}
use Rattle.tree_refinement.specs.machine_semantics.Cells.{Store, IsStore, IsSized, cell_at, cell_in, there, released_at, one_if_some, one_if_true}
use Rattle.tree_refinement.specs.machine_semantics.Kept.{Keeps}
use Rattle.tree_refinement.specs.machine_semantics.Runs.{Over, Value, state_of, begun, after}
use Rattle.tree_refinement.specs.machine_semantics.States.{State}
use Rattle.tree_refinement.specs.machine_semantics.Steps.{Kinds}
use Rattle.tree_refinement.specs.machine_semantics.Trees.{Stands, StandAll}
use Rattle.tree_refinement.proofs.separation_kinds.Agree.{stands_agree, stand_all_agree}
use Rattle.tree_refinement.proofs.separation_kinds.Shapes.{scalar_bare}
use Rattle.tree_refinement.proofs.separation.Stores.{there_few}
use Rattle.separation_bounds.specs.cell_code.Plain.{PlainCode, results}
use Rattle.tree_refinement.specs.separation.Starts.{IsStart}
use Rattle.session_semantics.specs.Lines.{Given}
use Rattle.session_semantics.specs.Talk.{used_by}
use Rattle.session_correctness.specs.Leaving.{Leaves, Gives, lent_uses}
use Rattle.session_correctness.specs.Lodging.{Lodged, but, but_all, AreDistinct, lodged_uses, AreTrees, named_by_all, fresh_uses, lent_fresh_uses, used_uses, AreBare}
use Rattle.session_correctness.specs.Called.{AllStand, IsHeld, IsHeldWith, IsGivenUp, IsSwept}
use Rattle.session_correctness.proofs.Leaving.{run_leaves, run_gives}
use Rattle.session_correctness.proofs.Releasing.{still_apart, apart_without_value, apart_by_sweep}
use Rattle.session_correctness.proofs.Sharing.{arguments_and_kept, lent_and_kept, used_and_held}

-- ---- trees that are there

pub bare : (tb : Table) (s : Store) (ps : List Param) (xs : Parts) → StandAll tb s (map (λ p. p.ty) ps) xs → AreBare tb ps xs
bare tb s [] xs g = tt
bare tb s (p ∷ ps) NoParts g = tt
bare tb s (p ∷ ps) (MoreParts x xs) g = (λ e q. scalar_bare tb s p.ty x e g.0 q, bare tb s ps xs g.1)

every_but : (P : Lodged → Type 0) (n : Name) (ls : List Lodged) → Every P ls → Every P (but n ls)
every_but P n [] h = tt
every_but P n (l ∷ ls) h = by (same_name n l.name) (every_but P n ls h.1)
  where
    by : (b : Bool) → Every P (but n ls) → Every P (if b then but n ls else l ∷ but n ls)
    by true rest = rest
    by false rest = (h.0, rest)

every_but_all : (P : Lodged → Type 0) (ns : List Name) (ls : List Lodged) → Every P ls → Every P (but_all ns ls)
every_but_all P [] ls h = h
every_but_all P (n ∷ ns) ls h = every_but_all P ns (but n ls) (every_but P n ls h)

pub all_stand_on : (tb : Table) (s u : Store) (ls : List Lodged) → ((q : ℕ) → 0 < lodged_uses ls q → cell_at u q ≡ cell_at s q) → AllStand tb s ls → AllStand tb u ls
all_stand_on tb s u [] same h = tt
all_stand_on tb s u (l ∷ ls) same h = (
  stands_agree tb s u l.type l.tree (λ q some. same q (omega (arith, some))) h.0,
  all_stand_on tb s u ls (λ q some. same q (omega (arith, some))) h.1,
)

-- ---- stores with the same cells

same_at : (s u : Store) (q : ℕ) → u.cells ≡ s.cells → cell_at u q ≡ cell_at s q
same_at s u q e = ap (λ os. cell_in os q) e

pub there_at : (s u : Store) (q : ℕ) → u.cells ≡ s.cells → there u q ≡ there s q
there_at s u q e = ap one_if_some (same_at s u q e)

good : (s u : Store) → IsStore s → u.cells ≡ s.cells → length u.released ≡ length s.released → ((q : ℕ) → released_at u q ≤ there s q) → IsStore u
good s u g e wide few = record {
  sized = subst (Every IsSized) (sym e) g.sized;
  wide = wide ∙ g.wide ∙ ap length (sym e);
  of_cells = λ q. (let f = few q in let t = there_at s u q e in omega (arith, f, t));
}

rises_at : (s u : Store) (q : ℕ) → Keeps s u → released_at s q ≤ released_at u q
rises_at s u q k = by (slice_get s.released q) refl
  where
    by : (o : Option Bool) → slice_get s.released q ≡ o → one_if_true o ≤ released_at u q
    by None e = omega arith
    by (Some true) e = let z = ap one_if_true (k.released q e) in omega (arith, z)
    by (Some false) e = omega arith

-- ---- a call

-- Function n begins on arguments that lines' values and names were given for, beside the cells of all other names.
module _ (c : PlainCode) (before waits : Kinds) (n : ℕ) (kept : List ℕ) (s : State) (t : IsStart c before waits n kept s) (ls : List Lodged) (gs : List Given) (distinct : AreDistinct ls) (stand : AllStand c.types s.store ls) (given : AreTrees c.types ls [] t.function.params gs t.given.arguments) (others : (q : ℕ) → count q kept ≡ lodged_uses (but_all (named_by_all c.types t.function.params gs) ls) q) where
  abbrev ps : List Param
  ps = t.function.params

  abbrev xs : Parts
  xs = t.given.arguments

  abbrev following : List Lodged
  following = but_all (used_by c.types ps gs) ls

  -- what is used up where the run has no value
  abbrev gone : ℕ → ℕ
  gone q = fresh_uses gs xs q + (used_uses ps gs xs q + count q t.given.spares)

  scalars : AreBare c.types ps xs
  scalars = bare c.types s.store ps xs t.given.stand

  at_first : (q : ℕ) → gone q + (lodged_uses following q + released_at s.store q) ≡ there s.store q
  at_first q =
      let a = arguments_and_kept c.types ls distinct ps gs xs q given scalars in
      let u = used_and_held c.types ls distinct ps gs xs q given scalars in
      let o = t.given.once q in
      let k = others q in
      omega (arith, a, u, o, k)

  lent_too : (q : ℕ) → lent_uses c.types ps xs q + count q kept ≡ lent_fresh_uses ps gs xs q + lodged_uses following q
  lent_too q = let l = lent_and_kept c.types ls distinct ps gs xs q given scalars in let k = others q in omega (arith, l, k)

  -- what is held after the call is in each state
  after_stands : (last : Store) → Leaves c.types ps xs kept s.store last → AllStand c.types last following
  after_stands last l =
      all_stand_on c.types s.store last following
      (λ q some. l.cells q (let e = lent_too q in omega (arith, e, some)))
      (every_but_all (λ (x : Lodged). Stands c.types s.store x.type x.tree) (used_by c.types ps gs) ls stand)

  -- After a run that gives words, with the borrowed values of the line given up.
  pub done : (calls k : ℕ) (ws : List ℕ) (last : State) (left steps : ℕ) (u : Store) → after before c k (begun s calls) ≡ Over (Value ws) last left steps → IsGivenUp (lent_fresh_uses ps gs xs) last.store u → IsHeldWith c.types following (results c n) ws u
  done calls k ws last left steps u is up =
      let g : Gives c.types ps xs kept (results c n) ws last.store = run_gives c before waits n kept s t calls k ws last left steps is in
      let l : Leaves c.types ps xs kept s.store last.store = subst (λ r. Leaves c.types ps xs kept s.store (state_of r).store) is (run_leaves c before waits n kept s t calls k) in
      let all : (q : ℕ) → lent_fresh_uses ps gs xs q + ((lodged_uses following q + uses_of_all q g.results) + released_at last.store q) ≡ there last.store q = λ q. (let o = g.once q in let e = lent_too q in omega (arith, o, e)) in
      let now : (q : ℕ) → (lodged_uses following q + uses_of_all q g.results) + released_at u q ≡ there last.store q = λ q. still_apart (lent_fresh_uses ps gs xs q) (lodged_uses following q + uses_of_all q g.results) (released_at last.store q) (released_at u q) (there last.store q) (there_few last.store q) (all q) (up.here q) (up.other q) in
      record {
        store = good last.store u l.store up.cells up.wide (λ q. (let z = now q in omega (arith, z)));
        stand = all_stand_on c.types last.store u following (λ q some. same_at last.store u q up.cells) (after_stands last.store l);
        results = g.results;
        words = g.words;
        stand_too = stand_all_agree c.types last.store u (results c n) g.results (λ q some. same_at last.store u q up.cells) g.stand;
        once = λ q. (let z = now q in let e = there_at last.store u q up.cells in omega (arith, z, e));
      }

  held_after : (last u : Store) → Leaves c.types ps xs kept s.store last → u.cells ≡ last.cells → length u.released ≡ length last.released → ((q : ℕ) → lodged_uses following q + released_at u q ≡ there last q) → IsHeld c.types following u
  held_after last u l cells wide now = record {
    store = good last u l.store cells wide (λ q. (let z = now q in omega (arith, z)));
    stand = all_stand_on c.types last u following (λ q some. same_at last u q cells) (after_stands last l);
    once = λ q. (let z = now q in let e = there_at last u q cells in omega (arith, z, e));
  }

  held_once : (last : Store) (q : ℕ) → Leaves c.types ps xs kept s.store last → lodged_uses following q + released_at last q ≤ there last q
  held_once last q l = let o = l.once q in let e = lent_too q in omega (arith, o, e)

  -- After any state of the run, with all that was used up given up.
  pub ended : (calls k : ℕ) (u : Store) → IsGivenUp gone (state_of (after before c k (begun s calls))).store u → IsHeld c.types following u
  ended calls k u up =
      let last : Store = (state_of (after before c k (begun s calls))).store in
      let l : Leaves c.types ps xs kept s.store last = run_leaves c before waits n kept s t calls k in
      held_after last u l up.cells up.wide (λ q.
      let f = at_first q in
      let e = l.begins q in
      apart_without_value (gone q) (lodged_uses following q) (released_at s.store q) (released_at last q) (released_at u q) (there last q) (there_few last q) (omega (arith, f, e)) (held_once last q l) (rises_at s.store last q l.keeps) (up.here q) (up.other q))

  -- The same, where all cells but those of what is held are given up.
  pub swept : (calls k : ℕ) (u : Store) → IsSwept (lodged_uses following) (state_of (after before c k (begun s calls))).store u → IsHeld c.types following u
  swept calls k u up =
      let last : Store = (state_of (after before c k (begun s calls))).store in
      let l : Leaves c.types ps xs kept s.store last = run_leaves c before waits n kept s t calls k in
      held_after last u l up.cells up.wide (λ q. apart_by_sweep (lodged_uses following q) (released_at last q) (released_at u q) (there last q) (there_few last q) (held_once last q l) (up.here q) (up.other q))
