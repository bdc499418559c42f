-- The starts of calls, one after another, whose cells lie apart.
-- Idea: each cell is used once because it is made once; what was made stays where more is made.
use Rattle.std.proofs.Common.{◌≡◌, ◌≢◌, ◌∙◌, ◌≤◌, ◌<◌, ◌+◌, ℕ, zero, suc, Bool, true, false, List, [], ◌∷◌, ◌++◌, length, map, drop, Option, Some, None, option_map, refl, sym, ap, subst, append_assoc, append-nil, arith}
use Rattle.std.specs.Prelude.{slice_get, replicate}
use Rattle.std.proofs.lemmas.List.{length-replicate}
use Rattle.std.proofs.lemmas.Option.{none-some, same_Some, slice_get-map}
use Rattle.cell_code.specs.declared.code.Code.{Code}
use Rattle.cell_store.specs.Cells as L
use Rattle.cell_store.specs.Made.{Loading}
use Rattle.fip_tasks.specs.machine_semantics.Apart.{AreSpare}
use Rattle.fip_tasks.specs.machine_semantics.Cells.{Store, IsSized, cell_in, one_if_some, one_if_true}
use Rattle.fip_tasks.specs.machine_semantics.Trees as C
use Rattle.fip_tasks.specs.machine_semantics.Words.{place_word}
use Rattle.fip_language.specs.Every.{Every}
use Rattle.fip_language.specs.Store.{Cell, Placed, PlacedInt, Bare, At, Parts, NoParts, MoreParts, values_of, words_of}
use Rattle.fip_language.specs.Table.{Table}
use Rattle.fip_tasks.specs.declared.task.Start.{Start}
use Rattle.fip_tasks.specs.machine_cells.Small.{store_of}
use Rattle.cell_code.specs.Plain.{plain_function, plain, function_at}
use Rattle.value_text.specs.Loaded.{live_in, live, types_of, AreZero, cell_words}
use Rattle.value_text.specs.Standing as V
use Rattle.fip_tasks.specs.task_semantics.Lying.{Lying, LiesIn, uses_by, uses_by_all, call_words}
use Rattle.task_lines.specs.Called.{Called}
use Rattle.session_values.specs.Made.{AreMade}
use Rattle.task_lines.specs.Making.{IsStartMade}
use Rattle.task_lines.specs.Reading.{IsLineOf, AreLinesOf}
use Rattle.task_lines.specs.Started.{IsStarted, AreStarted, AreReady}
use Rattle.fip_room.specs.declared.room.Room.{Room}
use Rattle.task_lines.specs.declared.task_line.TaskLine.{TaskLine}
use Rattle.session_values.proofs.CellsKept.{all_on, zero_on, stay, made_none, made_both}
pub use Rattle.fip_language.proofs.Facts.{drop_end as none_after, left_at}

-- ---- a call that lies in a loader

pub record LiesOver (code : Code) (now : Loading) (l : Lying) : Type 0 where
  pub there : function_at (plain code) l.task.function ≡ Some l.task.header
  pub values : values_of l.trees ≡ l.task.arguments
  pub stand : V.StandAll code.types now.cells (types_of l.task.header.params) l.trees
  pub zero : AreZero now.cells l.spares l.task.header.credits

lies_on : (code : Code) (now next : Loading) (l : Lying) → ((p : ℕ) → 1 ≤ uses_by l p → L.cell_at next.cells p ≡ L.cell_at now.cells p) → LiesOver code now l → LiesOver code next l
lies_on code now next l same h = record {
  there = h.there;
  values = h.values;
  stand = all_on code.types now.cells next.cells (types_of l.task.header.params) l.trees (λ p some. same p (omega (arith, some))) h.stand;
  zero = zero_on now.cells next.cells l.spares l.task.header.credits (λ p some. same p (omega (arith, some))) h.zero;
}

all_lie_on : (code : Code) (now next : Loading) (ls : List Lying) → ((p : ℕ) → 1 ≤ uses_by_all ls p → L.cell_at next.cells p ≡ L.cell_at now.cells p) → Every (LiesOver code now) ls → Every (LiesOver code next) ls
all_lie_on code now next [] same h = tt
all_lie_on code now next (l ∷ ls) same h =
    (lies_on code now next l (λ p some. same p (omega (arith, some))) h.0, all_lie_on code now next ls (λ p some. same p (omega (arith, some))) h.1)

every_push : (P : Lying → Type 0) (ls : List Lying) (l : Lying) → Every P ls → P l → Every P (ls ++ l ∷ [])
every_push P [] l h k = (k, tt)
every_push P (m ∷ ls) l h k = (h.0, every_push P ls l h.1 k)

uses_push : (ls : List Lying) (l : Lying) (p : ℕ) → uses_by_all (ls ++ l ∷ []) p ≡ uses_by_all ls p + uses_by l p
uses_push [] l p = omega arith
uses_push (m ∷ ls) l p = let h = uses_push ls l p in omega (arith, h)

started_push : (code : Code) (room : Room) (cs : List Called) (ls : List Lying) (bs : List Start) (c : Called) (l : Lying) (b : Start) → AreStarted code room cs ls bs → IsStarted code room c l b → AreStarted code room (cs ++ c ∷ []) (ls ++ l ∷ []) (bs ++ b ∷ [])
started_push code room [] [] [] c l b h k = (k, tt)
started_push code room [] [] (x ∷ bs) c l b h k = absurd h
started_push code room [] (y ∷ ls) bs c l b h k = absurd h
started_push code room (z ∷ cs) [] bs c l b h k = absurd h
started_push code room (z ∷ cs) (y ∷ ls) [] c l b h k = absurd h
started_push code room (z ∷ cs) (y ∷ ls) (x ∷ bs) c l b h k = (h.0, started_push code room cs ls bs c l b h.1 k)

-- ---- one more

pub record AreStarting (code : Code) (room : Room) (cs : List Called) (first now : Loading) (left : List TaskLine) (starts : List Start) : Type 0 where
  pub before : List Called
  pub rest : List Called
  pub split : cs ≡ before ++ rest
  pub lines : AreLinesOf code left rest
  pub lying : List Lying
  pub started : AreStarted code room before lying starts
  pub lie : Every (LiesOver code now) lying
  pub made : AreMade first now (uses_by_all lying)

pub starting : (code : Code) (room : Room) (cs : List Called) (first : Loading) (left : List TaskLine) (starts : List Start) → starts ≡ [] → AreLinesOf code left cs → AreStarting code room cs first first left starts
starting code room cs first left starts none lines = record {
  before = [];
  rest = cs;
  split = refl;
  lines = lines;
  lying = [];
  started = subst (AreStarted code room [] []) (sym none) tt;
  lie = tt;
  made = made_none first (λ p. 0) (λ p. refl);
}

names : (ps : List ℕ) → cell_words ps ≡ map (λ p. place_word p) ps
names [] = refl
names (p ∷ ps) = ap (λ ws. place_word p ∷ ws) (names ps)

abbrev lying_of : (room : Room) (c : Called) (trees : Parts) (spares : List ℕ) (b : Start) → Lying
lying_of room c trees spares b = record {
  task = record { function = c.entry; header = plain_function c.function; arguments = c.values; calls = room.calls; frames = b.frames };
  trees = trees;
  spares = spares;
}

module _ (code : Code) (room : Room) (cs : List Called) (first now next : Loading) (t : TaskLine) (left : List TaskLine) (starts new : List Start) (b : Start) where
  abbrev pub Making : Called → Type 0
  Making c = (trees : Parts) × (spares : List ℕ) × IsStartMade code room c now next trees spares b

  step : (h : AreStarting code room cs first now (t ∷ left) starts) → ((c : Called) → IsLineOf code t c → Making c) → new ≡ starts ++ b ∷ [] → (rest : List Called) → h.rest ≡ rest → AreLinesOf code (t ∷ left) rest → AreStarting code room cs first next left new
  step h make pushed [] e k = absurd k
  step h make pushed (c ∷ rest) e k =
      let m = make c k.0 in
      let s = m.2 in
      let l : Lying = lying_of room c m.0 m.1 b in
      let more : AreMade now next (uses_by l) = s.cells.made in
      let stays = stay first now next (uses_by_all h.lying) (uses_by l) h.made more in
      let at : function_at (plain code) c.entry ≡ Some (plain_function c.function) = slice_get-map plain_function code.functions.items c.entry ∙ ap (option_map plain_function) k.0.there in
      let lies : LiesOver code next l = record { there = at; values = s.cells.values; stand = s.cells.stand; zero = s.cells.zero } in
      let words : b.words ≡ call_words l = s.cells.named ∙ ap (λ ws. words_of m.0 ++ ws) (names m.1) in
      let is : IsStarted code room c l b = record { task = refl; entry = s.entry; words = words; calls = s.calls; frames = s.frames } in
      record {
        before = h.before ++ c ∷ [];
        rest = rest;
        split = h.split ∙ ap (λ xs. h.before ++ xs) e ∙ sym (append_assoc h.before (c ∷ []) rest);
        lines = k.1;
        lying = h.lying ++ l ∷ [];
        started = subst (AreStarted code room (h.before ++ c ∷ []) (h.lying ++ l ∷ [])) (sym pushed) (started_push code room h.before h.lying starts c l b h.started is);
        lie = every_push (LiesOver code next) h.lying l (all_lie_on code now next h.lying stays h.lie) lies;
        made = made_both first now next (uses_by_all h.lying) (uses_by l) (uses_by_all (h.lying ++ l ∷ [])) (λ p. uses_push h.lying l p) h.made more;
      }

  pub starting_on : AreStarting code room cs first now (t ∷ left) starts → ((c : Called) → IsLineOf code t c → Making c) → new ≡ starts ++ b ∷ [] → AreStarting code room cs first next left new
  starting_on h make pushed = step h make pushed h.rest refl h.lines

-- ---- the store of the cells

same_cell : (cs : List (Option Cell)) (p : ℕ) → L.cell_at cs p ≡ cell_in cs p
same_cell [] p = refl
same_cell (o ∷ os) zero = refl
same_cell (o ∷ os) (suc p) = same_cell os p

every_sized : (cs : L.Cells) → ((p : ℕ) (c : Cell) → L.cell_at cs p ≡ Some c → (0 < L.size_of c) × (L.size_of c ≤ 16)) → Every IsSized cs
every_sized [] h = tt
every_sized (None ∷ os) h = (tt, every_sized os (λ p. h (suc p)))
every_sized (Some c ∷ os) h = (h 0 c refl, every_sized os (λ p. h (suc p)))

one_at_most : (o : Option Cell) (r : Option Bool) → (r ≡ Some true → o ≢ None) → one_if_true r ≤ one_if_some o
one_at_most o None h = omega arith
one_at_most o (Some false) h = omega arith
one_at_most None (Some true) h = absurd (h refl refl)
one_at_most (Some c) (Some true) h = omega arith

live_or_released : (o : Option Cell) (r : Option Bool) → (r ≡ Some true → o ≢ None) → live_in o r + one_if_true r ≤ one_if_some o
live_or_released None None h = omega arith
live_or_released None (Some true) h = absurd (h refl refl)
live_or_released None (Some false) h = omega arith
live_or_released (Some c) None h = omega arith
live_or_released (Some c) (Some true) h = omega arith
live_or_released (Some c) (Some false) h = omega arith

some_field : (cs : List (Option Cell)) (p : ℕ) (c : Cell) → Every IsSized cs → cell_in cs p ≡ Some c → 0 < L.size_of c
some_field [] p c h e = absurd (none-some c e)
some_field (o ∷ os) zero c h e = (subst IsSized e h.0).0
some_field (o ∷ os) (suc p) c h e = some_field os p c h.1 e

has_part : (xs : Parts) → 0 < length (words_of xs) → C.HasPart xs
has_part NoParts h = absurd (omega (arith, h))
has_part (MoreParts x xs) h = tt

module _ (tb : Table) (s : Store) (sized : Every IsSized s.cells) where
  mutual
    stands : (t : ℕ) (x : Placed) → V.Stands tb s.cells t x → C.Stands tb s t x
    stands zero (PlacedInt i) h = h
    stands zero (Bare c) h = absurd h
    stands zero (At p c xs) h = absurd h
    stands (suc t) (PlacedInt i) h = absurd h
    stands (suc t) (Bare c) h = h
    stands (suc t) (At p c xs) h =
        let cell : cell_in s.cells p ≡ Some (record { tag = c; fields = words_of xs }) = sym (same_cell s.cells p) ∙ h.0 in
        (cell, has_part xs (some_field s.cells p (record { tag = c; fields = words_of xs }) sized cell), h.1, h.2, stand_all h.1.fields xs h.3)

    stand_all : (ts : List ℕ) (xs : Parts) → V.StandAll tb s.cells ts xs → C.StandAll tb s ts xs
    stand_all [] NoParts h = tt
    stand_all [] (MoreParts x xs) h = absurd h
    stand_all (t ∷ ts) NoParts h = absurd h
    stand_all (t ∷ ts) (MoreParts x xs) h = (stands t x h.0, stand_all ts xs h.1)

spare : (s : Store) (ks ps : List ℕ) → AreZero s.cells ps ks → AreSpare s ks ps
spare s [] [] h = tt
spare s [] (p ∷ ps) h = absurd h
spare s (k ∷ ks) [] h = absurd h
spare s (k ∷ ks) (p ∷ ps) h = ((record { tag = 0; fields = replicate k 0 }, sym (same_cell s.cells p) ∙ h.0, length-replicate k 0), spare s ks ps h.1)

lies : (code : Code) (now : Loading) (l : Lying) → Every IsSized now.cells → LiesOver code now l → LiesIn (plain code) (store_of now.cells now.released) l
lies code now l sized h = record {
  there = h.there;
  values = h.values;
  stand = stand_all code.types (store_of now.cells now.released) sized (types_of l.task.header.params) l.trees h.stand;
  credits = spare (store_of now.cells now.released) l.task.header.credits l.spares h.zero;
}

all_lie : (code : Code) (now : Loading) (ls : List Lying) → Every IsSized now.cells → Every (LiesOver code now) ls → Every (LiesIn (plain code) (store_of now.cells now.released)) ls
all_lie code now [] sized h = tt
all_lie code now (l ∷ ls) sized h = (lies code now l sized h.0, all_lie code now ls sized h.1)

-- the calls of all lines are ready
pub ready : (code : Code) (room : Room) (cs : List Called) (first now : Loading) (left : List TaskLine) (starts : List Start) → first.cells ≡ [] → left ≡ [] → length now.released ≡ length now.cells → ((p : ℕ) (c : Cell) → L.cell_at now.cells p ≡ Some c → (0 < L.size_of c) × (L.size_of c ≤ 16)) → ((p : ℕ) → slice_get now.released p ≡ Some true → L.cell_at now.cells p ≢ None) → AreStarting code room cs first now left starts → AreReady code room cs now starts
ready code room cs first now left starts empty none flags each cells h =
    let sized : Every IsSized now.cells = every_sized now.cells each in
    let all : cs ≡ h.before = h.split ∙ ap (λ xs. h.before ++ xs) (nothing h.rest (subst (λ ls. AreLinesOf code ls h.rest) none h.lines)) ∙ append-nil h.before in
    record {
      lying = h.lying;
      apart = record {
        store = record { sized = sized; wide = flags; of_cells = λ p. subst (λ o. one_if_true (slice_get now.released p) ≤ one_if_some o) (same_cell now.cells p) (one_at_most (L.cell_at now.cells p) (slice_get now.released p) (cells p)) };
        calls = all_lie code now h.lying sized h.lie;
        once = λ p.
            let o = h.made.once p in
            let z : live first p ≡ 0 = ap (λ cs. live_in (L.cell_at cs p) (slice_get first.released p)) empty in
            let x = live_or_released (L.cell_at now.cells p) (slice_get now.released p) (cells p) in
            let e : one_if_some (L.cell_at now.cells p) ≡ one_if_some (cell_in now.cells p) = ap one_if_some (same_cell now.cells p) in
            omega (arith, o, z, x, e);
      };
      started = subst (λ xs. AreStarted code room xs h.lying starts) (sym all) h.started;
    }
  where
    nothing : (rest : List Called) → AreLinesOf code [] rest → rest ≡ []
    nothing [] k = refl
    nothing (c ∷ rest) k = absurd k
