-- The state in which an entry begins is alive.
use Rattle.std.proofs.Common.{◌≡◌, inl, inr, ℕ, zero, suc, ◌+◌, ◌-◌, Bool, true, false, ◌&&◌, not, List, [], ◌∷◌, ◌++◌, length, map, Some, None, refl, sym, ap, ◌∙◌, subst, arith, if◌then◌else◌}
use Rattle.std.specs.Prelude.{replicate}
use Rattle.std.proofs.lemmas.Option.{same_Some}
use Rattle.separation_kinds.specs.fip_language.Table.{Table, is_scalar}
use Rattle.separation_kinds.specs.fip_language.Store.{Placed, Parts, NoParts, MoreParts, word_of, words_of, uses, uses_of_all, one_at, count}
use Rattle.separation_kinds.specs.fip_base.declared.plain.Param.{Param}
use Rattle.separation_kinds.specs.cell_code.declared.kind.Kind.{Kind}
use Rattle.separation_kinds.specs.cell_code.declared.kind.Kind.TheVariants.{Scalar, Owned, Lent, Credit}
use Rattle.separation_kinds.specs.machine_semantics.Words.{place_word}
use Rattle.separation_kinds.specs.machine_semantics.Cells.{Store}
use Rattle.separation_kinds.specs.machine_semantics.Trees.{Stands, StandAll}
use Rattle.separation_kinds.specs.machine_semantics.States.{Typed, State}
use Rattle.separation_kinds.specs.machine_semantics.Steps.{Kinds, first_frame}
use Rattle.separation_kinds.specs.machine_semantics.Runs.{lent_words, loaded, loaded_in}
use Rattle.separation_kinds.specs.machine_semantics.Apart.{Holding, Nothing, Tree, Spare, LiesWithin, LiesIn, owned_uses, trees_uses, AreTrees, AreSpare}
use Rattle.separation_kinds.specs.machine_semantics.Apart as A
use Rattle.separation_kinds.specs.cell_code.Plain.{PlainFunction, PlainCode, function_at, results}
use Rattle.separation_kinds.specs.code_rules.Types.{is_type, is_scalar_type, all}
use Rattle.separation_kinds.specs.code_rules.Kinds.{at}
use Rattle.separation_kinds.specs.code_rules.Entry.{param_kind, gones, entry}
use Rattle.separation_kinds.specs.code_rules.Headers.{are_params}
use Rattle.separation_kinds.specs.code_rules.Breaks.{IsSound}
use Rattle.separation_kinds.specs.Meanings.{Means, AreMeant, owned_by, sum_from, word_at}
use Rattle.separation_kinds.proofs.Basics.{pick, chosen, refused, apart, both, or_not, length_map}
use Rattle.separation_kinds.proofs.Shapes.{scalar_bare, root_all}
use Rattle.separation_kinds.proofs.Passing.{kind_lent, at_gones, gones_sum}
use Rattle.separation_kinds.proofs.Takes.{sum_shift}
use Rattle.separation.proofs.ReadingRows.{get_some}
use Rattle.separation.proofs.Reading.{stand_length}
use Rattle.separation.specs.Alive.{IsAlive}
use Rattle.separation.specs.Starts.{IsStart}
use Rattle.separation.proofs.Sound.{formed, has_form}
use Rattle.separation.proofs.Calling.{known_entry, entry_wide, first_long, length_append}

-- what the registers of the entry hold: the arguments' trees, then the credits' cells
abbrev pub load_holds : Parts → List ℕ → ℕ → Holding
load_holds NoParts [] r = Nothing
load_holds NoParts (p ∷ ps) zero = Spare p
load_holds NoParts (p ∷ ps) (suc r) = load_holds NoParts ps r
load_holds (MoreParts x xs) ps zero = Tree x
load_holds (MoreParts x xs) ps (suc r) = load_holds xs ps r

abbrev pub is_lent_tree : Table → Param → Bool
is_lent_tree tb p = p.lent && not (is_scalar tb p.ty)

-- the trees of the borrowed arguments
abbrev pub lent_trees : Table → List Param → Parts → List Placed
lent_trees tb [] xs = []
lent_trees tb (p ∷ ps) NoParts = []
lent_trees tb (p ∷ ps) (MoreParts x xs) = if is_lent_tree tb p then x ∷ lent_trees tb ps xs else lent_trees tb ps xs

scalar_type : (tb : Table) (t : ℕ) → is_type tb t ≡ true → is_scalar_type tb t ≡ is_scalar tb t
scalar_type tb t e = ap (λ b. b && is_scalar tb t) e

-- an argument: its kind, what it uses, and whether it is borrowed
record Loads (tb : Table) (s : Store) (p : Param) (x : Placed) : Type 0 where
  lent : is_lent_tree tb p ≡ true → (q : ℕ) → owned_uses q (param_kind tb p) (Tree x) ≡ 0
  own : is_lent_tree tb p ≡ false → (q : ℕ) → owned_uses q (param_kind tb p) (Tree x) ≡ uses q x
  means : (under : List Placed) → (is_lent_tree tb p ≡ true → LiesIn x under) → (ls : ℕ → Kind) (gs : ℕ → Holding) → Means tb s under ls gs (param_kind tb p) (word_of x) (Tree x)

load_scalar : (tb : Table) (s : Store) (p : Param) (x : Placed) → is_scalar tb p.ty ≡ true → param_kind tb p ≡ Scalar p.ty → Stands tb s p.ty x → Loads tb s p x
load_scalar tb s p x e k g = record {
  lent = λ l q. ap (λ k. owned_uses q k (Tree x)) k;
  own = λ l q. ap (λ k. owned_uses q k (Tree x)) k ∙ sym (scalar_bare tb s p.ty x e g q);
  means = λ under lies ls gs. rw k (record { tree = x; holds = refl; is = record { word = refl; stands = g }; bare = scalar_bare tb s p.ty x e g });
}

load_lent : (tb : Table) (s : Store) (p : Param) (x : Placed) → is_scalar_type tb p.ty ≡ false → p.lent ≡ true → is_scalar tb p.ty ≡ false → Stands tb s p.ty x → Loads tb s p x
load_lent tb s p x e l n g =
    let k = kind_lent tb p e l in
    let yes : is_lent_tree tb p ≡ true = rw (l, n) refl in
    record {
      lent = λ z q. ap (λ k. owned_uses q k (Tree x)) k;
      own = λ z q. apart (is_lent_tree tb p) yes z;
      means = λ under lies ls gs. rw k (record { tree = x; holds = refl; is = record { word = refl; stands = g }; top = root_all tb s p.ty x e g; rooted = lies yes; framed = tt });
    }

load_owned : (tb : Table) (s : Store) (p : Param) (x : Placed) → is_scalar_type tb p.ty ≡ false → p.lent ≡ false → Stands tb s p.ty x → Loads tb s p x
load_owned tb s p x e l g =
    let k : param_kind tb p ≡ Owned p.ty (all tb p.ty) = refused (is_scalar_type tb p.ty) (Scalar p.ty) (if p.lent then Lent p.ty (all tb p.ty) None None else Owned p.ty (all tb p.ty)) e ∙ refused p.lent (Lent p.ty (all tb p.ty) None None) (Owned p.ty (all tb p.ty)) l in
    let none : is_lent_tree tb p ≡ false = rw l refl in
    record {
      lent = λ z q. apart (is_lent_tree tb p) z none;
      own = λ z q. ap (λ k. owned_uses q k (Tree x)) k;
      means = λ under lies ls gs. rw k (record { tree = x; holds = refl; is = record { word = refl; stands = g }; top = root_all tb s p.ty x e g });
    }

loads : (tb : Table) (s : Store) (p : Param) (x : Placed) → is_type tb p.ty ≡ true → Stands tb s p.ty x → Loads tb s p x
loads tb s p x t g = elim (or_not (is_scalar_type tb p.ty)) as (λ v. Loads tb s p x) [
  | inl e ↦ load_scalar tb s p x (sym (scalar_type tb p.ty t) ∙ e) (chosen (is_scalar_type tb p.ty) (Scalar p.ty) (if p.lent then Lent p.ty (all tb p.ty) None None else Owned p.ty (all tb p.ty)) e) g
  | inr e ↦ elim (or_not p.lent) as (λ v. Loads tb s p x) [
    | inl l ↦ load_lent tb s p x e l (sym (scalar_type tb p.ty t) ∙ e) g
    | inr l ↦ load_owned tb s p x e l g
  ]
]

lies_here : (tb : Table) (p : Param) (ps : List Param) (x : Placed) (xs : Parts) → is_lent_tree tb p ≡ true → LiesIn x (lent_trees tb (p ∷ ps) (MoreParts x xs))
lies_here tb p ps x xs e = subst (LiesIn x) (sym (chosen (is_lent_tree tb p) (x ∷ lent_trees tb ps xs) (lent_trees tb ps xs) e)) (inl (λ q. omega arith))

lies_more : (tb : Table) (p : Param) (ps : List Param) (x y : Placed) (xs : Parts) → LiesIn y (lent_trees tb ps xs) → LiesIn y (lent_trees tb (p ∷ ps) (MoreParts x xs))
lies_more tb p ps x y xs l = pick (LiesIn y) (is_lent_tree tb p) (x ∷ lent_trees tb ps xs) (lent_trees tb ps xs) (λ e. inr l) (λ e. l)

credit_means : (tb : Table) (s : Store) (under : List Placed) (ls : ℕ → Kind) (gs : ℕ → Holding) (cs ss zs : List ℕ) (m r : ℕ) → AreSpare s cs ss → Means tb s under ls gs (at (map Credit cs ++ gones m) r) (word_at (map (λ p. place_word p) ss ++ zs) r) (load_holds NoParts ss r)
credit_means tb s under ls gs [] [] zs m r c = rw (at_gones m r) tt
credit_means tb s under ls gs [] (p ∷ ps) zs m r c = absurd c
credit_means tb s under ls gs (k ∷ ks) [] zs m r c = absurd c
credit_means tb s under ls gs (k ∷ ks) (p ∷ ps) zs m zero c = record { place = p; holds = refl; word = refl; cell = c.0.0; there = c.0.1; size = c.0.2 }
credit_means tb s under ls gs (k ∷ ks) (p ∷ ps) zs m (suc r) c = credit_means tb s under ls gs ks ps zs m r c.1

load_means : (tb : Table) (s : Store) (under : List Placed) (ls : ℕ → Kind) (gs : ℕ → Holding) (ps : List Param) (cs : List ℕ) (xs : Parts) (ss zs : List ℕ) (m r : ℕ) → are_params tb ps ≡ true → StandAll tb s (map (λ p. p.ty) ps) xs → AreSpare s cs ss → ((y : Placed) → LiesIn y (lent_trees tb ps xs) → LiesIn y under) → Means tb s under ls gs (at ((map (param_kind tb) ps ++ map Credit cs) ++ gones m) r) (word_at ((words_of xs ++ map (λ p. place_word p) ss) ++ zs) r) (load_holds xs ss r)
load_means tb s under ls gs [] cs NoParts ss zs m r t g c lies = credit_means tb s under ls gs cs ss zs m r c
load_means tb s under ls gs [] cs (MoreParts x xs) ss zs m r t g c lies = absurd g
load_means tb s under ls gs (p ∷ ps) cs NoParts ss zs m r t g c lies = absurd g
load_means tb s under ls gs (p ∷ ps) cs (MoreParts x xs) ss zs m zero t g c lies =
    (loads tb s p x (both (is_type tb p.ty) (are_params tb ps) t).0 g.0).means under (λ e. lies x (lies_here tb p ps x xs e)) ls gs
load_means tb s under ls gs (p ∷ ps) cs (MoreParts x xs) ss zs m (suc r) t g c lies =
    load_means tb s under ls gs ps cs xs ss zs m r (both (is_type tb p.ty) (are_params tb ps) t).1 g.1 c (λ y l. lies y (lies_more tb p ps x y xs l))

credit_sum : (q : ℕ) (s : Store) (cs ss : List ℕ) (m : ℕ) → AreSpare s cs ss → owned_by q (at (map Credit cs ++ gones m)) (load_holds NoParts ss) (length (map Credit cs ++ gones m)) ≡ count q ss
credit_sum q s [] [] m c = gones_sum q m (load_holds NoParts [])
credit_sum q s [] (p ∷ ps) m c = absurd c
credit_sum q s (k ∷ ks) [] m c = absurd c
credit_sum q s (k ∷ ks) (p ∷ ps) m c =
    let a = sum_shift (λ r. owned_uses q (at (map Credit (k ∷ ks) ++ gones m) r) (load_holds NoParts (p ∷ ps) r)) 0 (length (map Credit ks ++ gones m)) in
    let b : sum_from (λ r. owned_uses q (at (map Credit (k ∷ ks) ++ gones m) (suc r)) (load_holds NoParts (p ∷ ps) (suc r))) 0 (length (map Credit ks ++ gones m)) ≡ count q ps = credit_sum q s ks ps m c.1 in
    ap (λ n. one_at q p + n) (a ∙ b)

load_sum : (q : ℕ) (tb : Table) (s : Store) (ps : List Param) (cs : List ℕ) (xs : Parts) (ss : List ℕ) (m : ℕ) → are_params tb ps ≡ true → StandAll tb s (map (λ p. p.ty) ps) xs → AreSpare s cs ss → owned_by q (at ((map (param_kind tb) ps ++ map Credit cs) ++ gones m)) (load_holds xs ss) (length ((map (param_kind tb) ps ++ map Credit cs) ++ gones m)) + trees_uses q (lent_trees tb ps xs) ≡ uses_of_all q xs + count q ss
load_sum q tb s [] cs NoParts ss m t g c = let a = credit_sum q s cs ss m c in omega arith
load_sum q tb s [] cs (MoreParts x xs) ss m t g c = absurd g
load_sum q tb s (p ∷ ps) cs NoParts ss m t g c = absurd g
load_sum q tb s (p ∷ ps) cs (MoreParts x xs) ss m t g c =
    let kinds : List Kind = (map (param_kind tb) ps ++ map Credit cs) ++ gones m in
    let a = sum_shift (λ r. owned_uses q (at (param_kind tb p ∷ kinds) r) (load_holds (MoreParts x xs) ss r)) 0 (length kinds) in
    let b = load_sum q tb s ps cs xs ss m (both (is_type tb p.ty) (are_params tb ps) t).1 g.1 c in
    let d : sum_from (λ r. owned_uses q (at (param_kind tb p ∷ kinds) (suc r)) (load_holds (MoreParts x xs) ss (suc r))) 0 (length kinds) ≡ owned_by q (at kinds) (load_holds xs ss) (length kinds) = refl in
    let l = loads tb s p x (both (is_type tb p.ty) (are_params tb ps) t).0 g.0 in
    let first : owned_uses q (param_kind tb p) (Tree x) + trees_uses q (lent_trees tb (p ∷ ps) (MoreParts x xs)) ≡ uses q x + trees_uses q (lent_trees tb ps xs) = elim (or_not (is_lent_tree tb p)) as (λ v. owned_uses q (param_kind tb p) (Tree x) + trees_uses q (lent_trees tb (p ∷ ps) (MoreParts x xs)) ≡ uses q x + trees_uses q (lent_trees tb ps xs)) [
      | inl e ↦ let z = l.lent e q in let y = ap (trees_uses q) (chosen (is_lent_tree tb p) (x ∷ lent_trees tb ps xs) (lent_trees tb ps xs) e) in omega arith
      | inr e ↦ let z = l.own e q in let y = ap (trees_uses q) (refused (is_lent_tree tb p) (x ∷ lent_trees tb ps xs) (lent_trees tb ps xs) e) in omega arith
    ] in
    omega arith

load_lent_words : (tb : Table) (s : Store) (ps : List Param) (xs : Parts) (rest : List ℕ) → StandAll tb s (map (λ p. p.ty) ps) xs → AreTrees tb s (lent_words tb ps (words_of xs ++ rest)) (lent_trees tb ps xs)
load_lent_words tb s [] NoParts rest g = tt
load_lent_words tb s [] (MoreParts x xs) rest g = absurd g
load_lent_words tb s (p ∷ ps) NoParts rest g = absurd g
load_lent_words tb s (p ∷ ps) (MoreParts x xs) rest g =
    let more = load_lent_words tb s ps xs rest g.1 in
    pick_two (AreTrees tb s) (is_lent_tree tb p) (record { type = p.ty; word = word_of x } ∷ lent_words tb ps (words_of xs ++ rest)) (lent_words tb ps (words_of xs ++ rest)) (x ∷ lent_trees tb ps xs) (lent_trees tb ps xs) (record { word = refl; stands = g.0 }, more) more
  where
    pick_two : (P : List Typed → List Placed → Type 0) (b : Bool) (a c : List Typed) (d e : List Placed) → P a d → P c e → P (if b then a else c) (if b then d else e)
    pick_two P true a c d e x y = x
    pick_two P false a c d e x y = y

pub loaded_is : (c : PlainCode) (n : ℕ) (f : PlainFunction) (store : Store) (ws : List ℕ) (free : ℕ) (s : State) → function_at c n ≡ Some f → loaded c n store ws free ≡ Some s → s ≡ record { store = store; running = first_frame n f ws; waiting = []; free = free; lent = lent_words c.types f.params ws }
loaded_is c n f store ws free s is e = sym (same_Some _ s (sym (ap (λ o. loaded_in c.types n o store ws free) is) ∙ e))

spare_length : (s : Store) (cs ss : List ℕ) → AreSpare s cs ss → length ss ≡ length cs
spare_length s [] [] c = refl
spare_length s [] (p ∷ ps) c = absurd c
spare_length s (k ∷ ks) [] c = absurd c
spare_length s (k ∷ ks) (p ∷ ps) c = ap suc (spare_length s ks ps c.1)

first_alive : (c : PlainCode) (n : ℕ) (f : PlainFunction) (store : Store) (kept ws : List ℕ) (free : ℕ) → IsSound c → function_at c n ≡ Some f → A.IsGiven c.types f store kept ws → IsAlive c (results c n) kept (record { store = store; running = first_frame n f ws; waiting = []; free = free; lent = lent_words c.types f.params ws })
first_alive c n f store kept ws free sound is g =
    let form = has_form c f (formed c n f sound is) in
    let x = get_some f.instrs 0 form.some in
    let lent : List Placed = lent_trees c.types f.params g.arguments in
    let room = form.room in
    let words_long = length_append (words_of g.arguments) (map (λ p. place_word p) g.spares) in
    let arguments_long = stand_length c.types store (map (λ p. p.ty) f.params) g.arguments g.stand in
    let params_long = length_map (λ (p : Param). p.ty) f.params in
    let spares_long = length_map (λ p. place_word p) g.spares in
    let credits_long = spare_length store f.credits g.spares g.credits in
    let all_long : length ws ≡ length f.params + length f.credits = (let z = ap length g.words in omega arith) in
    let m : ℕ = f.registers - (length f.params + length f.credits) in
    let zs : List ℕ = replicate (f.registers - length ws) 0 in
    record {
      store = g.store;
      function = f;
      is = is;
      kinds = entry c f;
      known = known_entry c f form;
      instr = x.0;
      is_instr = x.1;
      wide = entry_wide c f form;
      long = first_long f.registers ws (omega arith) ∙ sym (entry_wide c f form);
      holds = load_holds g.arguments g.spares;
      frozen = [];
      lent = lent;
      meant = subst (λ vs. AreMeant c.types store lent (at (entry c f)) (word_at (vs ++ zs)) (load_holds g.arguments g.spares)) (sym g.words) (record {
        each = λ r. load_means c.types store lent (at (entry c f)) (load_holds g.arguments g.spares) f.params f.credits g.arguments g.spares zs m r form.params g.stand g.credits (λ y l. l);
      });
      waiting = refl;
      arguments = subst (λ vs. AreTrees c.types store (lent_words c.types f.params vs) lent) (sym g.words) (load_lent_words c.types store f.params g.arguments (map (λ p. place_word p) g.spares) g.stand);
      once = λ q.
          let a = load_sum q c.types store f.params f.credits g.arguments g.spares m form.params g.stand g.credits in
          let o = g.once q in
          omega arith;
    }

pub start_alive : (c : PlainCode) (before waits : Kinds) (n : ℕ) (kept : List ℕ) (s : State) → IsStart c before waits n kept s → IsAlive c (results c n) kept s
start_alive c before waits n kept s t = subst (IsAlive c (results c n) kept) (sym (loaded_is c n t.function s.store t.words t.free s t.is t.loaded)) (first_alive c n t.function s.store kept t.words t.free t.sound t.is t.given)
