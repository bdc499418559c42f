-- The cells of values and credits, made one after another.
-- Idea: each cell that is used is live, and what is live stays as it is; so trees that stand go on standing.
use Rattle.std.proofs.Common.{◌≡◌, ◌⊎◌, inl, inr, ◌∙◌, ◌≤◌, ◌<◌, ◌+◌, ◌*◌, ◌^◌, ℕ, zero, suc, Bool, true, false, List, [], ◌∷◌, ◌++◌, length, take, drop, get_or, Option, Some, None, append_assoc, append-nil, refl, sym, ap, subst, arith}
use Rattle.std.specs.Prelude.{slice_get, replicate}
use Rattle.std.specs.declared.slice.Iter.{Iter}
use Rattle.fip_base.specs.declared.plain.Param.{Param}
use Rattle.fip_language.specs.Character.{characters}
use Rattle.fip_language.specs.SoundTable.{AreTypes}
use Rattle.fip_language.specs.Store.{Cell, Placed, PlacedInt, Bare, At, Parts, NoParts, MoreParts, value_of, values_of, words_of, count, uses, uses_of_all}
use Rattle.fip_language.specs.Table.{Table}
use Rattle.fip_language.specs.Values.{Value, Values, End, More}
use Rattle.cell_store.specs.Cells.{Cells, cell_at}
use Rattle.cell_store.specs.Made.{Loading}
use Rattle.value_text.specs.Building.{IsMade}
use Rattle.value_text.specs.Loaded.{live_in, live, types_of, AreSizes, AreCredits, AreZero, cell_words}
use Rattle.value_text.specs.Machine.{join}
use Rattle.value_text.specs.Single.{BeginsWith, IsPlaced, IsValueMade}
use Rattle.value_text.specs.Standing.{Stands, StandAll}
use Rattle.value_text.proofs.Built.{parts_join, values_join, words_join, uses_join}
use Rattle.value_text.proofs.OneValue.{value_same}
use Rattle.value_text.proofs.Tables.{is_table}
use Rattle.value_text.proofs.Taken.{made, one_here}
use Rattle.session_values.specs.Made.{AreMade}
use Rattle.session_values.proofs.CellsKept.{made_none, made_both, made_same, all_on, zero_on, stay}
use Rattle.task_lines.specs.Making.{AreValued, AreCredited}
use Rattle.task_lines.specs.Reading.{AreAt}
use Rattle.session_values.specs.Readable.{AreParams}
use Rattle.fip_language.proofs.Facts.{take_next, take_whole}
use Rattle.value_text.proofs.Counted.{join-end as join_nothing}
use Rattle.value_text.proofs.Credits.{count_append as count_join}
use Rattle.value_text.proofs.Residual.{join-assoc as join_assoc}

-- ---- values

stand_join : (tb : Table) (cs : Cells) (ks js : List ℕ) (xs ys : Parts) → StandAll tb cs ks xs → StandAll tb cs js ys → StandAll tb cs (ks ++ js) (parts_join xs ys)
stand_join tb cs [] js NoParts ys h k = k
stand_join tb cs [] js (MoreParts x xs) ys h k = absurd h
stand_join tb cs (i ∷ ks) js NoParts ys h k = absurd h
stand_join tb cs (i ∷ ks) js (MoreParts x xs) ys h k = (h.0, stand_join tb cs ks js xs ys h.1 k)

-- what was made of the values that stand at places, and what is left of them
pub record IsMaking (tb : Table) (bytes types : List ℕ) (vs : Values) (first now : Loading) (ks ps words : List ℕ) : Type 0 where
  pub done : List ℕ
  pub trees : Parts
  pub rest : Values
  pub types_are : types ≡ done ++ ks
  pub values : vs ≡ join (values_of trees) rest
  pub at : AreAt tb bytes ks ps rest
  pub words_are : words ≡ words_of trees
  pub stand : StandAll tb now.cells done trees
  pub cells_made : AreMade first now (λ p. uses_of_all p trees)

pub making_starts : (tb : Table) (bytes types : List ℕ) (vs : Values) (first : Loading) (ps words : List ℕ) → words ≡ [] → AreAt tb bytes types ps vs → IsMaking tb bytes types vs first first types ps words
making_starts tb bytes types vs first ps words none h = record {
  done = [];
  trees = NoParts;
  rest = vs;
  types_are = refl;
  values = refl;
  at = h;
  words_are = none;
  stand = tt;
  cells_made = made_none first (λ p. 0) (λ p. refl);
}

types_right : (tb : Table) (done ks : List ℕ) → AreTypes tb (done ++ ks) → AreTypes tb ks
types_right tb [] ks h = h
types_right tb (k ∷ done) ks h = types_right tb done ks h.1

pub next_placed : (tb : Table) (bytes types : List ℕ) (vs : Values) (first now : Loading) (k p : ℕ) (ks ps words : List ℕ) → AreParams tb types → length bytes ≤ 2 ^ 63 → IsMaking tb bytes types vs first now (k ∷ ks) (p ∷ ps) words → IsPlaced tb k bytes p
next_placed tb bytes types vs first now k p ks ps words params short m = by m.rest m.at
  where
    known : k ≤ length tb
    known = (types_right tb m.done (k ∷ ks) (subst (AreTypes tb) m.types_are params.known)).0

    by : (us : Values) → AreAt tb bytes (k ∷ ks) (p ∷ ps) us → IsPlaced tb k bytes p
    by End h = absurd h
    by (More v us) h = record { sound = params.table; known = known; within = h.0; short = short }

begins_same : (tb : Table) (params : AreParams tb []) (k : ℕ) (bytes : List ℕ) (v u : Value) → BeginsWith tb k bytes v → BeginsWith tb k bytes u → v ≡ u
begins_same tb params k bytes v u h g = (value_same tb (is_table tb params.table) k (characters bytes) v u h.0 g.0 h.1 g.1).0

module _ (tb : Table) (bytes types : List ℕ) (vs : Values) (first now next : Loading) (k p : ℕ) (ks ps words new : List ℕ) (w : ℕ) (params : AreParams tb types) where
  step : (m : IsMaking tb bytes types vs first now (k ∷ ks) (p ∷ ps) words) → IsValueMade tb k (drop p bytes) now next w → new ≡ words ++ w ∷ [] → (us : Values) → m.rest ≡ us → AreAt tb bytes (k ∷ ks) (p ∷ ps) us → IsMaking tb bytes types vs first next ks ps new
  step m v pushed End e h = absurd h
  step m v pushed (More u us) e h =
      let x = v.tree in
      let one : Parts = MoreParts x NoParts in
      let all : Parts = parts_join m.trees one in
      let more : AreMade now next (λ q. uses_of_all q one) = made_same now next (λ q. uses q x) (λ q. uses_of_all q one) (λ q. omega arith) (record { once = v.once; kept = v.kept }) in
      let same : value_of x ≡ u = begins_same tb (record { table = params.table; known = tt }) k (drop p bytes) (value_of x) u v.spelled h.1 in
      let stays = stay first now next (λ q. uses_of_all q m.trees) (λ q. uses_of_all q one) m.cells_made more in
      record {
        done = m.done ++ k ∷ [];
        trees = all;
        rest = us;
        types_are = m.types_are ∙ sym (append_assoc m.done (k ∷ []) ks);
        values = m.values ∙ ap (join (values_of m.trees)) (e ∙ ap (λ y. More y us) (sym same)) ∙ sym (ap (λ ys. join ys us) (values_join m.trees one) ∙ join_assoc (values_of m.trees) (More (value_of x) End) us);
        at = h.2;
        words_are = pushed ∙ ap (λ ws. ws ++ w ∷ []) m.words_are ∙ ap (λ y. words_of m.trees ++ y ∷ []) v.named ∙ sym (words_join m.trees one);
        stand = stand_join tb next.cells m.done (k ∷ []) m.trees one (all_on tb now.cells next.cells m.done m.trees stays m.stand) (v.stands, tt);
        cells_made = made_both first now next (λ q. uses_of_all q m.trees) (λ q. uses_of_all q one) (λ q. uses_of_all q all) (λ q. uses_join q m.trees one) m.cells_made more;
      }

  pub making_on : IsMaking tb bytes types vs first now (k ∷ ks) (p ∷ ps) words → IsValueMade tb k (drop p bytes) now next w → new ≡ words ++ w ∷ [] → IsMaking tb bytes types vs first next ks ps new
  making_on m v pushed = step m v pushed m.rest refl m.at

pub making_ends : (tb : Table) (bytes types : List ℕ) (vs : Values) (first now : Loading) (ks ps words : List ℕ) → (length ks ≡ 0) ⊎ (length ps ≡ 0) → IsMaking tb bytes types vs first now ks ps words → (trees : Parts) × AreValued tb types first now vs trees words
making_ends tb bytes types vs first now ks ps words o m = by ks ps m.rest o m.at m.types_are m.values
  where
    all : types ≡ m.done ++ [] → vs ≡ join (values_of m.trees) End → (trees : Parts) × AreValued tb types first now vs trees words
    all e f = (
      m.trees,
      record {
        stand = subst (λ ts. StandAll tb now.cells ts m.trees) (sym (e ∙ append-nil m.done)) m.stand;
        values = sym (f ∙ join_nothing (values_of m.trees));
        named = m.words_are;
        made = m.cells_made;
      },
    )

    by : (ks ps : List ℕ) (us : Values) → (length ks ≡ 0) ⊎ (length ps ≡ 0) → AreAt tb bytes ks ps us → types ≡ m.done ++ ks → vs ≡ join (values_of m.trees) us → (trees : Parts) × AreValued tb types first now vs trees words
    by [] [] End o h e f = all e f
    by [] [] (More u us) o h e f = absurd h
    by [] (p ∷ ps) us o h e f = absurd h
    by (k ∷ ks) [] us o h e f = absurd h
    by (k ∷ ks) (p ∷ ps) us (inl z) h e f = absurd (omega (arith, z))
    by (k ∷ ks) (p ∷ ps) us (inr z) h e f = absurd (omega (arith, z))

pub sides : {A B : Type 0} (i : Iter A) (j : Iter B) → ((x : Iter A) × ((length i.rest.now ≡ 0) × (x ≡ i))) ⊎ ((y : Iter B) × ((length j.rest.now ≡ 0) × (y ≡ j))) → (length i.rest.now ≡ 0) ⊎ (length j.rest.now ≡ 0)
sides i j (inl h) = inl (h.1).0
sides i j (inr h) = inr (h.1).0

pub types_none : (ps : List Param) (qs : List ℕ) → (length ps ≡ 0) ⊎ (length qs ≡ 0) → (length (types_of ps) ≡ 0) ⊎ (length qs ≡ 0)
types_none [] qs (inl e) = inl refl
types_none (p ∷ ps) qs (inl e) = absurd (omega (arith, e))
types_none ps qs (inr e) = inr e

-- ---- credits

zero_join : (cs : Cells) (ps qs ks js : List ℕ) → AreZero cs ps ks → AreZero cs qs js → AreZero cs (ps ++ qs) (ks ++ js)
zero_join cs [] qs [] js h k = k
zero_join cs [] qs (i ∷ ks) js h k = absurd h
zero_join cs (p ∷ ps) qs [] js h k = absurd h
zero_join cs (p ∷ ps) qs (i ∷ ks) js h k = (h.0, zero_join cs ps qs ks js h.1 k)

words_more : (ps qs : List ℕ) → cell_words (ps ++ qs) ≡ cell_words ps ++ cell_words qs
words_more [] qs = refl
words_more (p ∷ ps) qs = ap (λ ws. (2 * p + 1) ∷ ws) (words_more ps qs)

pub made_one : (old new : Loading) (p : ℕ) (c : Cell) → length old.released ≡ length old.cells → IsMade old new p c → AreMade old new (λ q. count q (p ∷ []))
made_one old new p c flags h =
    let m = made old new p c flags h in
    record {
      once = λ q. (let l = m.living q in omega (arith, l));
      kept = λ q was. m.others q (λ e. (let d = m.dead in let z = ap (live old) (sym e) in absurd (omega (arith, d, z, was))));
    }

pub record AreCrediting (credits : List ℕ) (i : ℕ) (first now : Loading) (before words : List ℕ) : Type 0 where
  pub flags : length now.released ≡ length now.cells
  pub credited : AreCredited (take i credits) first now before words

pub crediting_starts : (credits : List ℕ) (first : Loading) (before : List ℕ) → length first.released ≡ length first.cells → AreCrediting credits 0 first first before before
crediting_starts credits first before flags = record {
  flags = flags;
  credited = record { places = []; zero = tt; named = sym (append-nil before); made = made_none first (λ p. 0) (λ p. refl) };
}

pub sizes_at : (ks : List ℕ) (i : ℕ) → i < length ks → AreSizes ks → (0 < get_or ks i 0) × (get_or ks i 0 ≤ 16)
sizes_at [] i lt h = absurd (omega (arith, lt))
sizes_at (k ∷ ks) zero lt h = (h.0, h.1)
sizes_at (k ∷ ks) (suc i) lt h = sizes_at ks i (omega (arith, lt)) h.2

pub size_at : (ks : List ℕ) (i s : ℕ) → i < length ks → get_or ks i 0 ≡ s → AreCredits ks → (0 < s) × (s ≤ 16)
size_at ks i s lt is h = subst (λ n. (0 < n) × (n ≤ 16)) is (sizes_at ks i lt h.sizes)

pub crediting_on : (credits : List ℕ) (i s : ℕ) (first now next : Loading) (before words new : List ℕ) → i < length credits → get_or credits i 0 ≡ s → AreCrediting credits i first now before words → ((p : ℕ) × (new ≡ words ++ (2 * p + 1) ∷ []) × IsMade now next p (record { tag = 0; fields = replicate s 0 })) → AreCrediting credits (i + 1) first next before new
crediting_on credits i s first now next before words new lt is c h =
    let p = h.0 in
    let cell : Cell = record { tag = 0; fields = replicate s 0 } in
    let m = made now next p cell c.flags h.2 in
    let more = made_one now next p cell c.flags h.2 in
    let d = c.credited in
    let stays = stay first now next (λ q. count q d.places) (λ q. count q (p ∷ [])) d.made more in
    let sizes : take (i + 1) credits ≡ take i credits ++ s ∷ [] = ap (λ n. take n credits) (let z : i + 1 ≡ suc i = omega arith in z) ∙ take_next credits i lt ∙ ap (λ k. take i credits ++ k ∷ []) is in
    record {
      flags = m.flags;
      credited = record {
        places = d.places ++ p ∷ [];
        zero = subst (AreZero next.cells (d.places ++ p ∷ [])) (sym sizes) (zero_join next.cells d.places (p ∷ []) (take i credits) (s ∷ []) (zero_on now.cells next.cells d.places (take i credits) stays d.zero) (m.here, tt));
        named = h.1 ∙ ap (λ ws. ws ++ (2 * p + 1) ∷ []) d.named ∙ append_assoc before (cell_words d.places) ((2 * p + 1) ∷ []) ∙ ap (λ ws. before ++ ws) (sym (words_more d.places (p ∷ [])));
        made = made_both first now next (λ q. count q d.places) (λ q. count q (p ∷ [])) (λ q. count q (d.places ++ p ∷ [])) (λ q. count_join q d.places (p ∷ [])) d.made more;
      };
    }

pub crediting_ends : (credits : List ℕ) (i : ℕ) (first now : Loading) (before words : List ℕ) → length credits ≤ i → AreCrediting credits i first now before words → AreCredited credits first now before words
crediting_ends credits i first now before words le c = subst (λ ks. AreCredited ks first now before words) (take_whole i credits le) c.credited
