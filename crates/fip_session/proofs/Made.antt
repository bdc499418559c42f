-- The cells of a store by size, once a line's are made: those of what is held, of the line's values and of its credits.
use Rattle.std.proofs.Common.{◌≡◌, ◌∙◌, ℕ, suc, ◌+◌, ◌-◌, ◌<◌, ◌≤◌, false, List, [], ◌∷◌, ◌++◌, length, map, max, refl, sym, ap, arith}
use Rattle.cell_store.specs.Made.{Loading}
use Rattle.cell_store.specs.Cells.{count_free}
use Rattle.fip_base.specs.declared.plain.Param.{Param}
use Rattle.fip_language.specs.Core.{Name}
use Rattle.fip_language.specs.Store.{Parts, NoParts, MoreParts, value_of, values_of, words_of, uses_of_all, count}
use Rattle.fip_language.specs.Table.{Table}
use Rattle.fip_language.specs.Values.{Values, cells_of_all}
use Rattle.cell_code.specs.declared.code.CodeKind.TheVariants.{Fip}
use Rattle.fip_language.specs.declared.limits.TheConstants.{MOST_FIELDS}
use Rattle.fip_machine.specs.machine_cells.Small.{store_of}
use Rattle.session_correctness.specs.tree_refinement.machine_semantics.Apart.{IsGiven, AreSpare}
use Rattle.session_correctness.specs.tree_refinement.machine_semantics.Cells.{Store, IsStore, count_held, there, released_at}
use Rattle.cell_code.specs.Plain.{PlainFunction}
use Rattle.session_correctness.specs.tree_refinement.machine_semantics.Trees.{StandAll}
use Rattle.session_correctness.specs.tree_refinement.machine_semantics.Words.{place_word}
use Rattle.session_correctness.proofs.tree_refinement.separation_bounds.Weights.{first_held}
use Rattle.session_correctness.specs.Called.{AllStand, IsHeld}
use Rattle.session_correctness.specs.Counted.{sized, lodged_cells}
use Rattle.session_correctness.specs.Lodging.{Lodged, lodged_uses, AreTrees, fresh_uses}
use Rattle.session_correctness.proofs.Counting.{store_sized, held_cells, made_then}
use Rattle.session_lines.specs.session_semantics.Lines.{Given as Written, Held as Named, Fresh as New}
use Rattle.session_lines.specs.session_semantics.Talk.{named_by, written}
use Rattle.fip_session.proofs.Weighing.{credits_are}
use Rattle.session_correctness.proofs.Naming.{lodged_more as uses_more}

abbrev parts_of : List Lodged → Parts
parts_of [] = NoParts
parts_of (l ∷ ls) = MoreParts l.tree (parts_of ls)

abbrev params_of : List Lodged → List Param
params_of [] = []
params_of (l ∷ ls) = record { ty = l.type; lent = false } ∷ params_of ls

parts_use : (ls : List Lodged) (q : ℕ) → uses_of_all q (parts_of ls) ≡ lodged_uses ls q
parts_use [] q = refl
parts_use (l ∷ ls) q = (let r = parts_use ls q in omega (arith, r))

parts_cells : (k : ℕ) (ls : List Lodged) → cells_of_all k (values_of (parts_of ls)) ≡ lodged_cells k ls
parts_cells k [] = refl
parts_cells k (l ∷ ls) = (let r = parts_cells k ls in omega (arith, r))

parts_stand : (tb : Table) (s : Store) (ls : List Lodged) → AllStand tb s ls → StandAll tb s (map (λ p. p.ty) (params_of ls)) (parts_of ls)
parts_stand tb s [] h = tt
parts_stand tb s (l ∷ ls) h = (h.0, parts_stand tb s ls h.1)

-- the line's values, as if names held them
abbrev fresh_as : List Param → List Written → Parts → List Lodged
fresh_as (q ∷ qs) (New w ∷ gs) (MoreParts x xs) = record { name = []; type = q.ty; tree = x } ∷ fresh_as qs gs xs
fresh_as (q ∷ qs) (Named n ∷ gs) (MoreParts x xs) = fresh_as qs gs xs
fresh_as qs gs xs = []

fresh_facts : (tb : Table) (ls : List Lodged) (before : List Name) (s : Store) (k q : ℕ) (ps : List Param) (gs : List Written) (xs : Parts) → AreTrees tb ls before ps gs xs → StandAll tb s (map (λ p. p.ty) ps) xs → (lodged_uses (fresh_as ps gs xs) q ≡ fresh_uses gs xs q) × (lodged_cells k (fresh_as ps gs xs) ≡ written k gs (values_of xs)) × AllStand tb s (fresh_as ps gs xs)
fresh_facts tb ls before s k q [] [] NoParts t h = (refl, refl, tt)
fresh_facts tb ls before s k q [] [] (MoreParts x xs) t h = absurd t
fresh_facts tb ls before s k q [] (g ∷ gs) xs t h = absurd t
fresh_facts tb ls before s k q (p ∷ ps) [] xs t h = absurd t
fresh_facts tb ls before s k q (p ∷ ps) (g ∷ gs) NoParts t h = absurd t
fresh_facts tb ls before s k q (p ∷ ps) (New w ∷ gs) (MoreParts x xs) t h =
    let r = fresh_facts tb ls (before ++ named_by tb p (New w)) s k q ps gs xs t.1 h.1 in
    let a = r.0 in
    let b = r.1 in
    (omega (arith, a), omega (arith, b), (h.0, r.2))
fresh_facts tb ls before s k q (p ∷ ps) (Named n ∷ gs) (MoreParts x xs) t h =
    let r = fresh_facts tb ls (before ++ named_by tb p (Named n)) s k q ps gs xs t.1 h.1 in
    let a = r.0 in
    let b = r.1 in
    (omega (arith, a), omega (arith, b), r.2)

cells_more : (k : ℕ) (ls ms : List Lodged) → lodged_cells k (ls ++ ms) ≡ lodged_cells k ls + lodged_cells k ms
cells_more k [] ms = omega arith
cells_more k (l ∷ ls) ms = (let r = cells_more k ls ms in omega (arith, r))

stand_more : (tb : Table) (s : Store) (ls ms : List Lodged) → AllStand tb s ls → AllStand tb s ms → AllStand tb s (ls ++ ms)
stand_more tb s [] ms h g = g
stand_more tb s (l ∷ ls) ms h g = (h.0, stand_more tb s ls ms h.1 g)

-- the cells that aren't released, by size
abbrev holder : List Lodged → List ℕ → PlainFunction
holder ls credits = record { kind = Fip; name = []; params = params_of ls; credits = credits; results = []; registers = 0; instrs = []; labels = [] }

held_all : (tb : Table) (ls : List Lodged) (credits spares : List ℕ) (s : Store) (k : ℕ) → IsStore s → AllStand tb s ls → AreSpare s credits spares → ((q : ℕ) → lodged_uses ls q + (count q spares + released_at s q) ≡ there s q) → count_held k s ≡ lodged_cells k ls + count k credits
held_all tb ls credits spares s k st stand spare once =
    let words : List ℕ = words_of (parts_of ls) ++ map (λ p. place_word p) spares in
    let g : IsGiven tb (holder ls credits) s [] words = record {
      store = st;
      arguments = parts_of ls;
      spares = spares;
      words = refl;
      stand = parts_stand tb s ls stand;
      credits = spare;
      once = λ q. (let o = once q in let u = parts_use ls q in omega (arith, o, u));
    } in
    let f = first_held tb (holder ls credits) s [] words k g in
    let c = parts_cells k ls in
    omega (arith, f, c)

-- After the making of a line's cells there are those that were made before, or more where they don't suffice.
pub made_of : (tb : Table) (ls : List Lodged) (ps : List Param) (credits spares : List ℕ) (gs : List Written) (xs : Parts) (old new : Loading) (k live made more : ℕ) → IsHeld tb ls (store_of old.cells old.released) → IsStore (store_of new.cells new.released) → AllStand tb (store_of new.cells new.released) ls → AreTrees tb ls [] ps gs xs → StandAll tb (store_of new.cells new.released) (map (λ p. p.ty) ps) xs → AreSpare (store_of new.cells new.released) credits spares → ((q : ℕ) → lodged_uses ls q + ((fresh_uses gs xs q + count q spares) + released_at (store_of new.cells new.released) q) ≡ there (store_of new.cells new.released) q) → count_free k new.cells new.released ≡ count_free k old.cells old.released - more → more ≡ written k gs (values_of xs) + count k credits → made ≡ sized k old.cells → live ≡ lodged_cells k ls → max made (live + more) ≡ sized k new.cells
made_of tb ls ps credits spares gs xs old new k live made more held st stand trees stands spare once free is was lives =
    let s : Store = store_of new.cells new.released in
    let fl : List Lodged = fresh_as ps gs xs in
    let facts = fresh_facts tb ls [] s k 0 ps gs xs trees stands in
    let a = held_all tb (ls ++ fl) credits spares s k st (stand_more tb s ls fl stand facts.2) spare (λ q. (
    let o = once q in
    let u = (fresh_facts tb ls [] s k q ps gs xs trees stands).0 in
    let m = uses_more ls fl q in
    omega (arith, o, u, m)
    )) in
    let b = cells_more k ls fl in
    let c = facts.1 in
    let d = store_sized k s st in
    let e = store_sized k (store_of old.cells old.released) held.store in
    let f = held_cells tb k ls (store_of old.cells old.released) held in
    let z = made_then made live (count_free k old.cells old.released) more (count_held k s) (count_free k new.cells new.released) (omega (arith, e, f, was, lives)) (omega (arith, a, b, c, is, lives)) free in
    omega (arith, z, d)
