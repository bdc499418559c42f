-- The trees of a line's values, noted one after another.
use Rattle.std.proofs.Common.{◌≡◌, ◌∙◌, ℕ, zero, suc, ◌+◌, ◌-◌, ◌*◌, ◌^◌, ◌<◌, ◌≤◌, Bool, true, false, List, [], ◌∷◌, ◌++◌, length, drop, get_or, Option, Some, None, option_map, refl, sym, ap, subst, arith, if◌then◌else◌}
use Rattle.std.proofs.lemmas.Option.{none-some}
use Rattle.std.specs.BTreeMap.{BTreeMap}
use Rattle.std.specs.declared.alloc.Global.{Global}
use Rattle.std.specs.declared.vec.Vec.{Vec}
use Rattle.cell_store.specs.Cells as L
use Rattle.fip_language.specs.Store.{Placed, word_of, uses, count, places}
use Rattle.fip_language.specs.Table.{Table}
use Rattle.fip_machine.specs.machine_cells.Small.{store_of}
use Rattle.session_correctness.specs.tree_refinement.machine_semantics.Cells.{Store, there}
use Rattle.store_trees.specs.Added.{Adds, places_of}
use Rattle.store_trees.specs.declared.trees.Tree.{Tree}
use Rattle.value_text.specs.Loaded.{cell_words}
use Rattle.value_text.specs.Standing.{Stands}
use Rattle.fip_language.specs.Core.{Name}
use Rattle.fip_language.specs.Every.{Every}
use Rattle.session_correctness.specs.Lodging.{Lodged, lodged_as}
use Rattle.fip_session.specs.Gone.{AreStanding, IsAny, all_uses, uses_in, named_uses}
use Rattle.fip_session.specs.Named.{found}
use Rattle.fip_session.specs.Planned.{Finds, held_by, names_used}
use Rattle.fip_session.specs.declared.book.Held.{Held}
use Rattle.fip_session.specs.declared.plan.Given.{Given}
use Rattle.fip_session.specs.declared.ready.Fresh.{Fresh}
use Rattle.fip_session.proofs.Forgetting.{none_left}
use Rattle.fip_session.proofs.GivingUp.{added_more, few_more}
use Rattle.fip_session.proofs.Readying.{every_at, lodged_of}
use Rattle.fip_language.proofs.Facts.{drop_next as item_at}
use Rattle.fip_session.proofs.GivingUp.{named_join}

pub record NotesValues (tb : Table) (cs : L.Cells) (xs : List Placed) (first now : List Tree) (fs' : List Fresh) : Type 0 where
  pub left : List Placed
  pub are : AreStanding IsAny tb cs fs' left
  pub sums : (q : ℕ) → count q (places_of now) + all_uses left q ≡ count q (places_of first) + all_uses xs q

pub notes_start : (tb : Table) (cs : L.Cells) (fs : List Fresh) (xs : List Placed) (first : List Tree) → AreStanding IsAny tb cs fs xs → NotesValues tb cs xs first first fs
notes_start tb cs fs xs first h = record { left = xs; are = h; sums = λ q. refl }

module _ (tb : Table) (cs : L.Cells) (xs : List Placed) (first now : List Tree) (f : Fresh) (fs' : List Fresh) (n : NotesValues tb cs xs first now (f ∷ fs')) where
  pub record IsFirst : Type 0 where
    pub tree : Placed
    pub rest : List Placed
    pub left : n.left ≡ tree ∷ rest
    pub stands : Stands tb cs f.held.ty tree
    pub word : word_of tree ≡ f.held.word
    pub are : AreStanding IsAny tb cs fs' rest

  pub first_is : IsFirst
  first_is = by n.left refl n.are
    where
      by : (ys : List Placed) → n.left ≡ ys → AreStanding IsAny tb cs (f ∷ fs') ys → IsFirst
      by [] e h = absurd h
      by (y ∷ ys) e h = record { tree = y; rest = ys; left = e; stands = h.0 tt; word = h.1; are = h.2 }

  pub few_notes : (i : IsFirst) (s : Store) → ((q : ℕ) → count q (places_of first) + all_uses xs q ≤ there s q) → length now + length (places i.tree) ≤ length s.cells
  few_notes i s apart = few_more s now i.tree (λ q. (let a = apart q in let b = n.sums q in let c = ap (λ ys. all_uses ys q) i.left in omega (arith, a, b, c)))

  pub notes_on : (i : IsFirst) (new : List Tree) → Adds now new i.tree → NotesValues tb cs xs first new fs'
  notes_on i new adds = record {
    left = i.rest;
    are = i.are;
    sums = λ q. (let a = n.sums q in let b = ap (λ ys. all_uses ys q) i.left in let c = added_more now new i.tree q adds in omega (arith, a, b, c));
  }

none_noted : (tb : Table) (cs : L.Cells) (ys : List Placed) (q : ℕ) → AreStanding IsAny tb cs [] ys → all_uses ys q ≡ 0
none_noted tb cs [] q h = refl
none_noted tb cs (y ∷ ys) q h = absurd h

pub notes_end : (tb : Table) (cs : L.Cells) (xs : List Placed) (first now : List Tree) (q : ℕ) → NotesValues tb cs xs first now [] → count q (places_of now) ≡ count q (places_of first) + all_uses xs q
notes_end tb cs xs first now q n = (let s = n.sums q in let z = none_noted tb cs n.left q n.are in omega (arith, s, z))

-- ---- what a name holds

pub unnoted : (b : BTreeMap (Vec ℕ Global) Held) (ls : List Lodged) (name : Name) (q : ℕ) → Finds b ls → found b name ≡ None → uses_in (lodged_as name ls) q ≡ 0
unnoted b ls name q finds none = by (lodged_as name ls) (sym (finds name) ∙ none)
  where
    by : (o : Option Lodged) → option_map held_by o ≡ None → uses_in o q ≡ 0
    by None e = refl
    by (Some l) e = absurd (none-some (held_by l) (sym e))

pub record IsHeldTree (tb : Table) (cs : L.Cells) (ls : List Lodged) (name : Name) (h : Held) : Type 0 where
  pub tree : Placed
  pub stands : Stands tb cs h.ty tree
  pub word : word_of tree ≡ h.word
  pub are : (q : ℕ) → uses_in (lodged_as name ls) q ≡ uses q tree

pub held_tree : (tb : Table) (cs : L.Cells) (b : BTreeMap (Vec ℕ Global) Held) (ls : List Lodged) (name : Name) (h : Held) → Finds b ls → Every (λ l. Stands tb cs l.type l.tree) ls → found b name ≡ Some h → IsHeldTree tb cs ls name h
held_tree tb cs b ls name h finds stand is =
    let l = lodged_of b ls finds name h is in
    record {
      tree = (l.0).tree;
      stands = subst (λ t. Stands tb cs t (l.0).tree) (sym (ap (λ (x : Held). x.ty) l.2)) (every_at (λ (m : Lodged). Stands tb cs m.type m.tree) name l.0 ls l.1 stand);
      word = sym (ap (λ (x : Held). x.word) l.2);
      are = λ q. ap (λ o. uses_in o q) l.1;
    }

-- ---- names that are used up

pub used_first : (ls : List Lodged) (g : Given) (gs : List Given) (q : ℕ) → g.is_used_up ≡ true → named_uses ls (names_used (g ∷ gs)) q ≡ uses_in (lodged_as g.name.now ls) q + named_uses ls (names_used gs) q
used_first ls g gs q is_so =
    let e = ap (λ (b : Bool). named_uses ls ((if b then g.name.now ∷ [] else []) ++ names_used gs) q) is_so in
    omega (arith, e)

pub kept_first : (ls : List Lodged) (g : Given) (gs : List Given) (q : ℕ) → g.is_used_up ≡ false → named_uses ls (names_used (g ∷ gs)) q ≡ named_uses ls (names_used gs) q
kept_first ls g gs q not = ap (λ (b : Bool). named_uses ls ((if b then g.name.now ∷ [] else []) ++ names_used gs) q) not

-- ---- one after another

pub note_on : (ls : List Lodged) (gs : List Given) (i : ℕ) (d : Given) (q now new total : ℕ) → i < length gs → new ≡ now + named_uses ls (names_used (get_or gs i d ∷ [])) q → now + named_uses ls (names_used (drop i gs)) q ≡ total → new + named_uses ls (names_used (drop (i + 1) gs)) q ≡ total
note_on ls gs i d q now new total lt one all =
    let e = ap (λ hs. named_uses ls (names_used hs) q) (item_at gs i d lt) in
    let a = named_split ls (get_or gs i d) (drop (i + 1) gs) q in
    omega (arith, e, a, one, all)
  where
    named_split : (ls : List Lodged) (g : Given) (gs : List Given) (q : ℕ) → named_uses ls (names_used (g ∷ gs)) q ≡ named_uses ls (names_used (g ∷ [])) q + named_uses ls (names_used gs) q
    named_split ls g gs q =
        let j = named_join ls (if g.is_used_up then g.name.now ∷ [] else []) (names_used gs) q in
        let k = named_join ls (if g.is_used_up then g.name.now ∷ [] else []) [] q in
        omega (arith, j, k)

pub note_ends : (ls : List Lodged) (gs : List Given) (i q now first : ℕ) → length gs ≤ i → now + named_uses ls (names_used (drop i gs)) q ≡ first + named_uses ls (names_used gs) q → now ≡ first + named_uses ls (names_used gs) q
note_ends ls gs i q now first le h = (let e = ap (λ hs. named_uses ls (names_used hs) q) (none_left gs i le) in omega (arith, e, h))

pub notes_at : (tb : Table) (cs : L.Cells) (xs : List Placed) (first now new : List Tree) (fs : List Fresh) (i : ℕ) (d : Fresh) (s : Store) (whole : Bool) → i < length fs → length s.cells ≤ 16777216 → ((q : ℕ) → count q (places_of first) + all_uses xs q ≤ there s q) → NotesValues tb cs xs first now (drop i fs) → ((x : Placed) → Stands tb cs (get_or fs i d).held.ty x → word_of x ≡ (get_or fs i d).held.word → whole ≡ true → Adds now new x) → ((x : Placed) → Stands tb cs (get_or fs i d).held.ty x → word_of x ≡ (get_or fs i d).held.word → whole ≡ false → 16777216 < length now + length (places x)) → NotesValues tb cs xs first new (drop (i + 1) fs)
notes_at tb cs xs first now new fs i d s whole lt small apart n all many =
    let f = get_or fs i d in
    let m : NotesValues tb cs xs first now (f ∷ drop (i + 1) fs) = subst (λ gs. NotesValues tb cs xs first now gs) (item_at fs i d lt) n in
    let k = first_is tb cs xs first now f (drop (i + 1) fs) m in
    let few = few_notes tb cs xs first now f (drop (i + 1) fs) m k s apart in
    notes_on tb cs xs first now f (drop (i + 1) fs) m k new (by whole refl (all k.tree k.stands k.word) (λ e. (let z = many k.tree k.stands k.word e in let y : ⊥ = omega (arith, z, few, small) in y)))
  where
    by : {P : Type 0} (b : Bool) → whole ≡ b → (whole ≡ true → P) → (whole ≡ false → ⊥) → P
    by true e yes' no' = yes' e
    by false e yes' no' = absurd (no' e)

pub notes_over : (tb : Table) (cs : L.Cells) (xs : List Placed) (first now : List Tree) (fs : List Fresh) (i q : ℕ) → length fs ≤ i → NotesValues tb cs xs first now (drop i fs) → count q (places_of now) ≡ count q (places_of first) + all_uses xs q
notes_over tb cs xs first now fs i q le n = notes_end tb cs xs first now q (subst (λ gs. NotesValues tb cs xs first now gs) (none_left fs i le) n)

-- ---- words of credits

pub credit_at : (ps : List ℕ) (i : ℕ) → i < length (cell_words ps) → Every (λ p. p ≤ 2 ^ 32 - 1) ps → (p : ℕ) × (get_or (cell_words ps) i 0 ≡ 2 * p + 1) × (drop i ps ≡ p ∷ drop (i + 1) ps) × (p ≤ 2 ^ 32 - 1)
credit_at [] i lt h = absurd (let z : ⊥ = omega (arith, lt) in z)
credit_at (p ∷ ps) zero lt h = (p, refl, refl, h.0)
credit_at (p ∷ ps) (suc i) lt h =
    let r = credit_at ps i (omega (arith, lt)) h.1 in
    (r.0, r.1, r.2 ∙ ap (λ n. r.0 ∷ drop n (p ∷ ps)) (let z : suc (i + 1) ≡ suc i + 1 = omega arith in z), r.3)

pub words_long : (ps : List ℕ) → length (cell_words ps) ≡ length ps
words_long [] = refl
words_long (p ∷ ps) = ap suc (words_long ps)
