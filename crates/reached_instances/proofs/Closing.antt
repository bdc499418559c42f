-- Closing what is written, one type after another.
use Rattle.std.proofs.Common.{◌≡◌, ℕ, suc, ◌+◌, ◌<◌, ◌≤◌, Bool, true, false, ◌&&◌, List, [], ◌∷◌, ◌++◌, length, drop, get_or, Option, Some, None, option_map, is_some, Vec, Global, refl, ap, sym, subst, ◌∙◌, drop_of_length-le}
use Rattle.fip_base.specs.fip_language.declared.Place.{Place}
use Rattle.fip_base.specs.fip_language.Core as C
use Rattle.fip_base.specs.fip_language.Core.{Name}
use Rattle.fip_base.proofs.fip_language.Plain.{every_append}
use Rattle.fip_base.specs.CoreView.{written, written_step, writtens}
use Rattle.fip_base.specs.declared.core_form.Written.{Written}
use Rattle.fip_base.specs.declared.core_form.Written.TheOpen as W
use Rattle.fip_base.specs.declared.core_form.Written.TheVariants as V
use Rattle.fip_base.specs.declared.core_form.Written.TheFolds.{fold-roll-Written}
use Rattle.fip_trees.specs.Least.{after}
use Rattle.fip_trees.specs.Names.{meaning}
use Rattle.fip_trees.proofs.Leasts.{after-append}
use Rattle.fip_trees.specs.declared.least.Violation.{Violation}
use Rattle.reached_instances.specs.declared.source.Here.{Here}
use Rattle.closed_types.specs.Closed.{Closed, Closeds, NoClosed, MoreClosed}
use Rattle.closed_types.specs.Source.{Source, Instance, given_type}
use Rattle.reached_instances.specs.SourceView.{instance, IsReady}
use Rattle.reached_instances.specs.declared.source.Source as D
use Rattle.closed_types.specs.Uses.{both, closed_type, closed_types, count, named_type, type_faults, types_faults, type_name_faults}
use Rattle.closed_types.specs.SharedTrees.{Branch, tree_at, trees, trees_at, all_at, Grows, AreWithin, NoneOrWithin}
use Rattle.closed_types.specs.UsesView.{IsPlaceOf, ArePlacesOf, trees_of, with_place}
use Rattle.closed_types.proofs.Growing.{within_more, trees_kept}
use Rattle.closed_types.proofs.Lists.{drop_item}
use Rattle.fip_base.proofs.fip_language.Facts.{and_false, and_true}

pub instance_kept : (here : Here) (bs cs : List Branch) → Grows bs cs → AreWithin bs here.given.items → instance (trees cs) here ≡ instance (trees bs) here
instance_kept here bs cs g w = ap (λ (x : Closeds). record { function = here.function; given = x }) (trees_kept bs cs here.given.items g w)

pub ready_more : (s : D.Source) (bs cs : List Branch) (here : Here) → Grows bs cs → IsReady s bs here → IsReady s cs here
ready_more s bs cs here g r = record { looked_up = r.looked_up; within = within_more bs cs here.given.items g r.within }

-- ---- lists

abbrev pub onto : List Closed → Closeds → Closeds
onto [] ds = ds
onto (c ∷ cs) ds = MoreClosed c (onto cs ds)

-- the trees so far and those to come, none where one is missing
abbrev pub joined : Bool → List Closed → Option Closeds → Option Closeds
joined b cs None = None
joined false cs (Some ds) = None
joined true cs (Some ds) = Some (onto cs ds)

onto_push : (cs : List Closed) (c : Closed) (ds : Closeds) → onto (cs ++ c ∷ []) ds ≡ onto cs (MoreClosed c ds)
onto_push [] c ds = refl
onto_push (e ∷ cs) c ds = ap (MoreClosed e) (onto_push cs c ds)

pub onto_row : (ts : List Closed) (is : List ℕ) → onto (all_at ts is) NoClosed ≡ trees_at ts is
onto_row ts [] = refl
onto_row ts (i ∷ is) = ap (MoreClosed (tree_at ts i)) (onto_row ts is)

pub joined_some : (b : Bool) (cs : List Closed) (c : Closed) (o : Option Closeds) → joined b (cs ++ c ∷ []) o ≡ joined b cs (both (Some c) o)
joined_some b cs c None = refl
joined_some false cs c (Some ds) = refl
joined_some true cs c (Some ds) = ap Some (onto_push cs c ds)

joined_false : (cs : List Closed) (o : Option Closeds) → joined false cs o ≡ None
joined_false cs None = refl
joined_false cs (Some ds) = refl

pub at_append : (ts : List Closed) (xs ys : List ℕ) → all_at ts (xs ++ ys) ≡ all_at ts xs ++ all_at ts ys
at_append ts [] ys = refl
at_append ts (x ∷ xs) ys = ap (λ l. tree_at ts x ∷ l) (at_append ts xs ys)

-- one place more, or none
joined_step : (b : Bool) (ts : List Closed) (is : List ℕ) (o : Option ℕ) (c : Option Closed) (rest : Option Closeds) → option_map (tree_at ts) o ≡ c → joined (b && is_some o) (all_at ts (with_place is o)) rest ≡ joined b (all_at ts is) (both c rest)
joined_step b ts is None c rest e =
    ap (λ x. joined x (all_at ts is) rest) (and_false b) ∙ joined_false (all_at ts is) rest ∙ ap (λ x. joined b (all_at ts is) (both x rest)) e
joined_step b ts is (Some i) c rest e =
    ap (λ x. joined x (all_at ts (is ++ i ∷ [])) rest) (and_true b)
    ∙ ap (λ l. joined b l rest) (at_append ts is (i ∷ []))
    ∙ joined_some b (all_at ts is) (tree_at ts i) rest
    ∙ ap (λ x. joined b (all_at ts is) (both x rest)) e

pub with_within : (bs : List Branch) (is : List ℕ) (o : Option ℕ) → AreWithin bs is → NoneOrWithin bs o → AreWithin bs (with_place is o)
with_within bs is None w h = w
with_within bs is (Some i) w h = every_append (λ j. j < length bs + 1) is (i ∷ []) w (h, tt)

pub kept_all : (bs cs : List Branch) (is : List ℕ) → Grows bs cs → AreWithin bs is → all_at (trees cs) is ≡ all_at (trees bs) is
kept_all bs cs [] g w = refl
kept_all bs cs (i ∷ is) g w =
    let k = trees_kept bs cs (i ∷ []) g (w.0, tt) in
    ap (λ c. c ∷ all_at (trees cs) is) (let f : tree_at (trees cs) i ≡ tree_at (trees bs) i = cc in f) ∙ ap (λ l. tree_at (trees bs) i ∷ l) (kept_all bs cs is g w.1)

-- closed up to place i
pub record IsClosing (s : Source) (here : Instance) (list : List Written) (bs : List Branch) (is : List ℕ) (all : Bool) (i : ℕ) : Type 0 where
  pub within : AreWithin bs is
  pub row : joined all (all_at (trees bs) is) (closed_types s here (writtens (drop i list))) ≡ closed_types s here (writtens list)

pub joined_none : (o : Option Closeds) → joined true [] o ≡ o
joined_none None = refl
joined_none (Some ds) = refl

pub closing_starts : (s : Source) (here : Instance) (list : List Written) (bs : List Branch) → IsClosing s here list bs [] true 0
closing_starts s here list bs = record { within = tt; row = joined_none (closed_types s here (writtens list)) }

pub closing_goes : (s : Source) (here : Instance) (list : List Written) (bs cs : List Branch) (is js : List ℕ) (all b next : Bool) (i : ℕ) (x : Written) (o : Option ℕ) → i < length list → x ≡ get_or list i x → Grows bs cs → IsPlaceOf cs o (closed_type s here (written x)) → js ≡ with_place is o → b ≡ is_some o → next ≡ (all && b) → IsClosing s here list bs is all i → IsClosing s here list cs js next (i + 1)
closing_goes s here list bs cs is js all b next i x o l e g p f h n k =
    let rest = closed_types s here (writtens (drop (i + 1) list)) in
    let w = within_more bs cs is g k.within in
    record {
      within = subst (AreWithin cs) (sym f) (with_within cs is o w p.within);
      row =
          ap (λ y. joined y (all_at (trees cs) js) rest) (n ∙ ap (λ y. all && y) h)
          ∙ ap (λ ys. joined (all && is_some o) (all_at (trees cs) ys) rest) f
          ∙ joined_step all (trees cs) is o (closed_type s here (written x)) rest p.tree
          ∙ ap (λ ys. joined all ys (both (closed_type s here (written x)) rest)) (kept_all bs cs is g k.within)
          ∙ ap (λ (ws : List Written). joined all (all_at (trees bs) is) (closed_types s here (writtens ws))) (sym (drop_item list i x l e))
          ∙ k.row;
    }

closing_row : (s : Source) (here : Instance) (list : List Written) (bs : List Branch) (is : List ℕ) (all : Bool) (i : ℕ) → length list ≤ i → IsClosing s here list bs is all i → joined all (all_at (trees bs) is) (Some NoClosed) ≡ closed_types s here (writtens list)
closing_row s here list bs is all i l k =
    ap (λ (ws : List Written). joined all (all_at (trees bs) is) (closed_types s here (writtens ws))) (sym (drop_of_length-le list l)) ∙ k.row

pub closing_ends : (s : Source) (here : Instance) (list : List Written) (bs : List Branch) (v : Vec ℕ Global) (all : Bool) (i : ℕ) → length list ≤ i → all ≡ true → IsClosing s here list bs v.items all i → ArePlacesOf bs (Some v) (closed_types s here (writtens list))
closing_ends s here list bs v all i l e k =
    record {
      within = k.within;
      trees = ap Some (sym (onto_row (trees bs) v.items)) ∙ ap (λ b. joined b (all_at (trees bs) v.items) (Some NoClosed)) (sym e) ∙ closing_row s here list bs v.items all i l k;
    }

pub closing_fails : (s : Source) (here : Instance) (list : List Written) (bs : List Branch) (is : List ℕ) (all : Bool) (i : ℕ) → length list ≤ i → all ≡ false → IsClosing s here list bs is all i → ArePlacesOf bs None (closed_types s here (writtens list))
closing_fails s here list bs is all i l e k =
    record {
      within = tt;
      trees = ap (λ b. joined b (all_at (trees bs) is) (Some NoClosed)) (sym e) ∙ closing_row s here list bs is all i l k;
    }

-- ---- one type

pub written_int : (p : Place) → written (V.Int p) ≡ C.WrittenInt p
written_int p = ap written (sym (V.rolls-Int p)) ∙ fold-roll-Written C.Written written_step (W.Int p)

pub written_named : (x : Name) (p : Place) (ts : Vec Written Global) → written (V.Named x p ts) ≡ C.WrittenName x p (writtens ts.items)
written_named x p ts = ap written (sym (V.rolls-Named x p ts)) ∙ fold-roll-Written C.Written written_step (W.Named x p ts)

pub count_writtens : (ws : List Written) → count (writtens ws) ≡ length ws
count_writtens [] = refl
count_writtens (w ∷ ws) = ap suc (count_writtens ws)

-- a name whose arguments were closed, when more trees stood there
pub named_place : (s : Source) (here : Here) (as' bs cs : List Branch) (w : C.Written) (x y : Name) (p : Place) (ws : C.Writtens) (k : ℕ) (v : Option (Vec ℕ Global)) (o : Option ℕ) → AreWithin as' here.given.items → Grows as' bs → w ≡ C.WrittenName x p ws → y ≡ x → k ≡ count ws → ArePlacesOf bs v (closed_types s (instance (trees as') here) ws) → IsPlaceOf cs o (named_type (given_type s (instance (trees bs) here) y) (meaning y s.names.types) k (trees_of (trees bs) v)) → IsPlaceOf cs o (closed_type s (instance (trees as') here) w)
named_place s here as' bs cs w x y p ws k v o within grows is same number places found =
    let h = instance (trees as') here in
    subst (IsPlaceOf cs o)
    (ap (λ (j : Instance). named_type (given_type s j y) (meaning y s.names.types) k (trees_of (trees bs) v)) (instance_kept here as' bs grows within)
    ∙ ap (λ n. named_type (given_type s h n) (meaning n s.names.types) k (trees_of (trees bs) v)) same
    ∙ ap (λ n. named_type (given_type s h x) (meaning x s.names.types) n (trees_of (trees bs) v)) number
    ∙ ap (named_type (given_type s h x) (meaning x s.names.types) (count ws)) places.trees
    ∙ sym (ap (closed_type s h) is))
    found

pub named_noted : (s : Source) (i : ℕ) (here : Here) (as' bs : List Branch) (w : C.Written) (x y : Name) (p : Place) (ws : C.Writtens) (k : ℕ) (l m n : Option Violation) → AreWithin as' here.given.items → Grows as' bs → w ≡ C.WrittenName x p ws → y ≡ x → k ≡ count ws → m ≡ after l (types_faults s i (instance (trees as') here) ws) → n ≡ after m (type_name_faults i (given_type s (instance (trees bs) here) y) (meaning y s.names.types) y p k) → n ≡ after l (type_faults s i (instance (trees as') here) w)
named_noted s i here as' bs w x y p ws k l m n within grows is same number first last =
    let h = instance (trees as') here in
    last
    ∙ ap (λ (j : Instance). after m (type_name_faults i (given_type s j y) (meaning y s.names.types) y p k)) (instance_kept here as' bs grows within)
    ∙ ap (λ z. after m (type_name_faults i (given_type s h z) (meaning z s.names.types) z p k)) same
    ∙ ap (λ j. after m (type_name_faults i (given_type s h x) (meaning x s.names.types) x p j)) number
    ∙ ap (λ m. after m (type_name_faults i (given_type s h x) (meaning x s.names.types) x p (count ws))) first
    ∙ sym (after-append l (types_faults s i h ws) (type_name_faults i (given_type s h x) (meaning x s.names.types) x p (count ws)))
    ∙ sym (ap (λ v. after l (type_faults s i h v)) is)
