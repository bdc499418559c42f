-- Tasks that lie apart begin together: alone each is in the same state but for the cells of the others.
use Rattle.std.proofs.Common.{◌≡◌, ◌≢◌, ℕ, zero, suc, ◌+◌, ◌<◌, ◌≤◌, List, [], ◌∷◌, Option, Some, None, refl, sym, ap, ◌∙◌, subst, length, map, arith}
use Rattle.std.proofs.lemmas.List.{length-map}
use Rattle.std.proofs.lemmas.Option.{none-some, same_Some, slice_get-map}
use Rattle.std.specs.Prelude.{slice_get, option_map}
use Rattle.run_loading.specs.fip_base.declared.plain.Param.{Param}
use Rattle.run_loading.specs.fip_language.Every.{Every}
use Rattle.run_loading.specs.fip_language.Store.{Cell}
use Rattle.run_loading.specs.machine_semantics.Apart.{AreSpare}
use Rattle.run_loading.specs.machine_semantics.Cells.{Store, IsStore, cell_at, there, one_if_some, released_at}
use Rattle.run_loading.specs.machine_semantics.Runs.{Run, loaded, loaded_in, begun}
use Rattle.run_loading.specs.machine_semantics.States.{State}
use Rattle.run_loading.specs.machine_semantics.Steps.{Kinds}
use Rattle.run_loading.specs.machine_semantics.Trees.{StandAll}
use Rattle.run_loading.specs.code_rules.Breaks.{IsSound}
use Rattle.run_loading.specs.cell_code.Plain.{PlainCode, function_at}
use Rattle.run_loading.specs.separation.Codes.{HasLiterals, AreKinds}
use Rattle.run_loading.specs.separation.Starts.{IsStart}
use Rattle.run_loading.proofs.separation.Loading.{loaded_is}
use Rattle.task_semantics.specs.Projected.{Begun, IsThere, renamed_parts, IsProjected, IsSameRun, BeginTogether, AreLoaded}
use Rattle.task_semantics.specs.Schedules.{Shared, in_store}
use Rattle.task_semantics.proofs.Entries.{first_state, given_words, first_projected}
use Rattle.task_semantics.specs.Lying.{Lying, LiesIn, uses_by, uses_by_all, LieApart, call_words, own_store, IsBegun, AreApart}
use Rattle.task_semantics.proofs.Owning.{own_given, own_renamed, trees_stay, places_stay, is_used}
pub use Rattle.run_loading.proofs.tree_refinement.tree_semantics.machine_semantics.cell_code.fip_base.fip_language.Facts.{get_beside as some_at}

-- ---- one of many

pub lies_at : (c : PlainCode) (s : Store) (ls : List Lying) (k : ℕ) (l : Lying) → Every (LiesIn c s) ls → slice_get ls k ≡ Some l → LiesIn c s l
lies_at c s [] k l h e = absurd (none-some l e)
lies_at c s (x ∷ xs) zero l h e = subst (λ y. LiesIn c s y) (same_Some x l e) h.0
lies_at c s (x ∷ xs) (suc k) l h e = lies_at c s xs k l h.1 e

one_of : (ls : List Lying) (k : ℕ) (l : Lying) (p : ℕ) → slice_get ls k ≡ Some l → uses_by l p ≤ uses_by_all ls p
one_of [] k l p e = absurd (none-some l e)
one_of (x ∷ xs) zero l p e = let same = ap (λ y. uses_by y p) (same_Some x l e) in omega (arith, same)
one_of (x ∷ xs) (suc k) l p e = let rest = one_of xs k l p e in omega (arith, rest)

two_of : (ls : List Lying) (i j : ℕ) (l m : Lying) (p : ℕ) → i ≢ j → slice_get ls i ≡ Some l → slice_get ls j ≡ Some m → uses_by l p + uses_by m p ≤ uses_by_all ls p
two_of [] i j l m p off e f = absurd (none-some l e)
two_of (x ∷ xs) zero zero l m p off e f = absurd (off refl)
two_of (x ∷ xs) zero (suc j) l m p off e f = let same = ap (λ y. uses_by y p) (same_Some x l e) in let rest = one_of xs j m p f in omega (arith, same, rest)
two_of (x ∷ xs) (suc i) zero l m p off e f = let same = ap (λ y. uses_by y p) (same_Some x m f) in let rest = one_of xs i l p e in omega (arith, same, rest)
two_of (x ∷ xs) (suc i) (suc j) l m p off e f = let rest = two_of xs i j l m p (λ z. off (ap suc z)) e f in omega (arith, rest)

pub once_by : (c : PlainCode) (s : Store) (ls : List Lying) (k : ℕ) (l : Lying) → LieApart c s ls → slice_get ls k ≡ Some l → (p : ℕ) → uses_by l p + released_at s p ≤ there s p
once_by c s ls k l h e p = let a = one_of ls k l p e in let b = h.once p in omega (arith, a, b)

pub spare_long : (s : Store) (ks ps : List ℕ) → AreSpare s ks ps → length ps ≡ length ks
spare_long s [] [] h = refl
spare_long s [] (p ∷ ps) h = absurd h
spare_long s (k ∷ ks) [] h = absurd h
spare_long s (k ∷ ks) (p ∷ ps) h = ap suc (spare_long s ks ps h.1)

-- ---- the state of one, alone and among others

abbrev pub state_over : PlainCode → Store → Lying → State
state_over c s l = first_state c l.task.function l.task.header s (call_words l) l.task.frames

pub loads : (c : PlainCode) (s : Store) (l : Lying) → function_at c l.task.function ≡ Some l.task.header → loaded c l.task.function s (call_words l) l.task.frames ≡ Some (state_over c s l)
loads c s l is = ap (λ o. loaded_in c.types l.task.function o s (call_words l) l.task.frames) is

abbrev pub start_over : (c : PlainCode) (before waits : Kinds) (s : Store) (l : Lying) → IsSound c → HasLiterals c → AreKinds c before waits → IsStore s → LiesIn c s l → ((p : ℕ) → uses_by l p + released_at s p ≤ there s p) → IsStart c before waits l.task.function [] (state_over c (own_store s l) l)
start_over c before waits s l sound literals kinds store lies once = record {
  sound = sound;
  literals = literals;
  kinds = kinds;
  function = l.task.header;
  is = lies.there;
  words = call_words l;
  given = own_given c s l store lies once;
  free = l.task.frames;
  loaded = loads c (own_store s l) l lies.there;
}

projected : (c : PlainCode) (before waits : Kinds) (s : Store) (l : Lying) → IsSound c → HasLiterals c → AreKinds c before waits → IsStore s → LiesIn c s l → ((p : ℕ) → uses_by l p + released_at s p ≤ there s p) → IsProjected before waits c (λ p. p) (state_over c (own_store s l) l) (state_over c s l)
projected c before waits s l sound literals kinds store lies once =
    let given = own_given c s l store lies once in
    let words : given_words (renamed_parts (λ p. p) l.trees) (map (λ p. p) l.spares) ≡ call_words l = λ i. given_words (trees_stay l.trees i) (places_stay l.spares i) in
    subst (λ ws. IsProjected before waits c (λ p. p) (state_over c (own_store s l) l) (first_state c l.task.function l.task.header s ws l.task.frames)) words
    (first_projected (λ p. p) c before waits (own_store s l) s l.task.function l.task.header l.trees l.spares l.task.frames sound kinds lies.there (own_renamed s l once) given.stand
    (subst (StandAll c.types s (map (λ (p : Param). p.ty) l.task.header.params)) (sym (trees_stay l.trees)) lies.stand)
    (spare_long s l.task.header.credits l.spares lies.credits))

pub same_begun : (c : PlainCode) (before waits : Kinds) (shared : Store) (n : ℕ) (f : ℕ → ℕ) (a u : State) (calls : ℕ) → IsProjected before waits c f a (record u { store = shared }) → IsSameRun before waits c n f (begun a calls) (in_store shared (begun u calls))
same_begun c before waits shared n f a u zero h = (tt, h, refl, refl)
same_begun c before waits shared n f a u (suc calls) h = (h, refl, refl)

-- ---- all

-- what is known of one that begins so
record IsKnown (c : PlainCode) (before waits : Kinds) (s : Store) (l : Lying) (b : Begun) (r : Run) : Type 0 where
  start : IsStart c before waits b.function [] b.state
  same : IsSameRun before waits c b.function b.places (begun b.state b.calls) (in_store s r)

known : (c : PlainCode) (before waits : Kinds) (s : Store) (l : Lying) (b : Begun) (r : Run) → IsSound c → HasLiterals c → AreKinds c before waits → IsStore s → LiesIn c s l → ((p : ℕ) → uses_by l p + released_at s p ≤ there s p) → IsBegun c s l b r → IsKnown c before waits s l b r
known c before waits s l b r sound literals kinds store lies once i =
    let own : i.own ≡ state_over c (own_store s l) l = loaded_is c l.task.function l.task.header (own_store s l) (call_words l) l.task.frames i.own lies.there i.first in
    let among : i.among ≡ state_over c s l = loaded_is c l.task.function l.task.header s (call_words l) l.task.frames i.among lies.there i.further in
    let run : IsSameRun before waits c l.task.function (λ p. p) (begun i.own l.task.calls) (in_store s (begun i.among l.task.calls)) =
    subst (λ (a : State). IsSameRun before waits c l.task.function (λ p. p) (begun a l.task.calls) (in_store s (begun i.among l.task.calls))) (sym own)
    (subst (λ (u : State). IsSameRun before waits c l.task.function (λ p. p) (begun (state_over c (own_store s l) l) l.task.calls) (in_store s (begun u l.task.calls))) (sym among)
    (same_begun c before waits s l.task.function (λ p. p) (state_over c (own_store s l) l) (state_over c s l) l.task.calls (projected c before waits s l sound literals kinds store lies once))) in
    subst (λ (x : Begun). IsKnown c before waits s l x r) (sym i.alone) (record {
      start = subst (λ (u : State). IsStart c before waits l.task.function [] u) (sym own) (start_over c before waits s l sound literals kinds store lies once);
      same = subst (λ (q : Run). IsSameRun before waits c l.task.function (λ p. p) (begun i.own l.task.calls) (in_store s q)) (sym i.run) run;
    })

-- the call and the run of a task that begins alone so
pub record IsOne (c : PlainCode) (ls : List Lying) (first : Shared) (k : ℕ) (b : Begun) : Type 0 where
  pub lying : Lying
  pub is : slice_get ls k ≡ Some lying
  pub run : Run
  pub runs : slice_get first.runs k ≡ Some run
  pub begun : IsBegun c first.store lying b run

pub one_at_number : (c : PlainCode) (ls : List Lying) (alone : List Begun) (first : Shared) (k : ℕ) (b : Begun) → AreApart c ls alone first → slice_get alone k ≡ Some b → IsOne c ls first k b
one_at_number c ls alone first k b h e =
    let l = some_at alone ls k b h.number_alone e in
    let r = some_at ls first.runs k l.0 (sym h.number) l.1 in
    record { lying = l.0; is = l.1; run = r.0; runs = r.1; begun = h.begun k l.0 b r.0 l.1 e r.1 }

known_at : (c : PlainCode) (before waits : Kinds) (ls : List Lying) (alone : List Begun) (first : Shared) (k : ℕ) (b : Begun) → IsSound c → HasLiterals c → AreKinds c before waits → AreApart c ls alone first → (e : slice_get alone k ≡ Some b) → (x : IsOne c ls first k b) → IsKnown c before waits first.store x.lying b x.run
known_at c before waits ls alone first k b sound literals kinds h e x =
    known c before waits first.store x.lying b x.run sound literals kinds h.apart.store (lies_at c first.store ls k x.lying h.apart.calls x.is) (once_by c first.store ls k x.lying h.apart x.is) x.begun

pub are_loaded : (c : PlainCode) (before waits : Kinds) (ls : List Lying) (alone : List Begun) (first : Shared) → IsSound c → HasLiterals c → AreKinds c before waits → AreApart c ls alone first → AreLoaded before waits c alone
are_loaded c before waits ls alone first sound literals kinds h k b e =
    (known_at c before waits ls alone first k b sound literals kinds h e (one_at_number c ls alone first k b h e)).start

-- where the cells of a task are
used_by : (c : PlainCode) (s : Store) (l : Lying) (b : Begun) (r : Run) (p : ℕ) → LiesIn c s l → IsBegun c s l b r → IsThere b.state.store p → 0 < uses_by l p
used_by c s l b r p lies i at =
    let own : i.own ≡ state_over c (own_store s l) l = loaded_is c l.task.function l.task.header (own_store s l) (call_words l) l.task.frames i.own lies.there i.first in
    let store : b.state.store ≡ own_store s l = ap (λ (x : Begun). x.state.store) i.alone ∙ ap (λ (u : State). u.store) own in
    is_used s l p (subst (λ (u : Store). IsThere u p) store at)

one_cell : (o : Option Cell) → one_if_some o ≤ 1
one_cell None = omega arith
one_cell (Some c) = omega arith

pub begin_together : (c : PlainCode) (before waits : Kinds) (ls : List Lying) (alone : List Begun) (first : Shared) → IsSound c → HasLiterals c → AreKinds c before waits → AreApart c ls alone first → BeginTogether before waits c alone first
begin_together c before waits ls alone first sound literals kinds h = record {
  store = h.apart.store;
  apart = λ i j p q a b e f off at_p at_q same.
      let x = one_at_number c ls alone first i a h e in
      let y = one_at_number c ls alone first j b h f in
      let places_x : a.places p ≡ p = ap (λ (z : Begun). z.places p) x.begun.alone in
      let places_y : b.places q ≡ q = ap (λ (z : Begun). z.places q) y.begun.alone in
      let here : p ≡ q = sym places_x ∙ same ∙ places_y in
      let used_x = used_by c first.store x.lying a x.run p (lies_at c first.store ls i x.lying h.apart.calls x.is) x.begun at_p in
      let used_y = used_by c first.store y.lying b y.run p (lies_at c first.store ls j y.lying h.apart.calls y.is) y.begun (subst (λ n. IsThere b.state.store n) (sym here) at_q) in
      let two = two_of ls i j x.lying y.lying p off x.is y.is in
      let once = h.apart.once p in
      let one = one_cell (cell_at first.store p) in
      absurd (omega (arith, used_x, used_y, two, once, one));
  number = h.number ∙ sym h.number_alone;
  same = λ k t r e f.
      let x = one_at_number c ls alone first k t h e in
      let own : x.run ≡ r = same_Some x.run r (sym x.runs ∙ f) in
      subst (λ (q : Run). IsSameRun before waits c t.function t.places (begun t.state t.calls) (in_store first.store q)) own
      (known_at c before waits ls alone first k t sound literals kinds h e x).same;
}

-- ---- they can begin

abbrev begin_of : PlainCode → Store → Lying → Begun
begin_of c s l = record { function = l.task.function; state = state_over c (own_store s l) l; calls = l.task.calls; places = λ p. p }

abbrev run_of : PlainCode → Store → Lying → Run
run_of c s l = begun (state_over c s l) l.task.calls

mapped_at : {A B : Type 0} (f : A → B) (xs : List A) (k : ℕ) (x : A) (y : B) → slice_get xs k ≡ Some x → slice_get (map f xs) k ≡ Some y → y ≡ f x
mapped_at f xs k x y e h = same_Some y (f x) (sym h ∙ slice_get-map f xs k ∙ ap (λ o. option_map f o) e)

pub are_there : (c : PlainCode) (s : Store) (ls : List Lying) → LieApart c s ls → (alone : List Begun) × (first : Shared) × (first.store ≡ s) × AreApart c ls alone first
are_there c s ls h = (
  map (begin_of c s) ls,
  record { store = s; runs = map (run_of c s) ls },
  refl,
  record {
    apart = h;
    number_alone = length-map ls (begin_of c s);
    number = length-map ls (run_of c s);
    begun = λ k l b r e f g.
        let lies = lies_at c s ls k l h.calls e in
        record {
          own = state_over c (own_store s l) l;
          first = loads c (own_store s l) l lies.there;
          among = state_over c s l;
          further = loads c s l lies.there;
          alone = mapped_at (begin_of c s) ls k l b e f;
          run = mapped_at (run_of c s) ls k l r e g;
        };
  },
)
