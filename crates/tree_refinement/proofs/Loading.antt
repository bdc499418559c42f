-- The state in which an entry begins is the same on cells and on trees.
use Rattle.std.proofs.Common.{Some, ◌≡◌, ℕ, zero, suc, ◌+◌, ◌-◌, List, [], ◌∷◌, ◌++◌, length, map, None, refl, sym, ap, ◌∙◌, subst}
use Rattle.std.specs.Prelude.{replicate, take}
use Rattle.tree_semantics.specs.fip_language.Values.{Values}
use Rattle.tree_semantics.specs.fip_language.Table.{Table}
use Rattle.tree_semantics.specs.fip_language.Store.{Parts, NoParts, MoreParts, words_of, word_of, value_of, values_of}
use Rattle.separation_bounds.specs.fip_base.declared.plain.Param.{Param}
use Rattle.separation_bounds.specs.cell_code.declared.kind.Kind.TheVariants.{Credit}
use Rattle.tree_semantics.specs.machine_semantics.Words.{place_word}
use Rattle.tree_semantics.specs.machine_semantics.Cells.{Store}
use Rattle.tree_semantics.specs.machine_semantics.Trees.{StandAll}
use Rattle.tree_semantics.specs.machine_semantics.States.{State}
use Rattle.tree_semantics.specs.machine_semantics.Steps.{Kinds, first_words, first_frame}
use Rattle.tree_semantics.specs.machine_semantics.Runs.{lent_words}
use Rattle.tree_semantics.specs.Contents.{first_contents}
use Rattle.tree_semantics.specs.Runs as T
use Rattle.separation_bounds.specs.cell_code.Plain.{PlainFunction, PlainCode, function_at}
use Rattle.separation_bounds.specs.code_rules.Codes.{params, params_of}
use Rattle.separation_bounds.specs.code_rules.Kinds.{at}
use Rattle.separation_bounds.specs.code_rules.Entry.{param_kind, gones, entry}
use Rattle.separation_bounds.specs.separation_kinds.Meanings.{word_at}
use Rattle.separation_bounds.proofs.separation_kinds.Basics.{length_map}
use Rattle.separation_bounds.proofs.separation_kinds.Passing.{at_gones}
use Rattle.separation_bounds.proofs.separation.Reading.{stand_length}
use Rattle.separation_bounds.specs.separation.Starts.{IsStart}
use Rattle.separation_bounds.proofs.separation.Sound.{formed, has_form}
use Rattle.separation_bounds.proofs.separation.Calling.{known_entry}
use Rattle.separation_bounds.proofs.separation.Loading.{loaded_is}
use Rattle.tree_refinement.specs.Agreement.{AreWordsOf, type_in, Shows, AreShown, IsSame}
use Rattle.tree_refinement.specs.Runs.{BeginsWith}
use Rattle.tree_refinement.proofs.Values.{same_parts}
use Rattle.tree_refinement.proofs.Handing.{param_type}
use Rattle.tree_semantics.proofs.machine_semantics.cell_code.fip_base.fip_language.Facts.{append_more as append_twice}

credit_type : (cs : List ℕ) (m r : ℕ) → type_in (at (map Credit cs ++ gones m) r) ≡ None
credit_type [] m r = rw (at_gones m r) refl
credit_type (k ∷ cs) m zero = refl
credit_type (k ∷ cs) m (suc r) = credit_type cs m r

load_shows : (tb : Table) (s : Store) (ps : List Param) (cs : List ℕ) (xs : Parts) (us : List ℕ) (m r : ℕ) → StandAll tb s (map (λ p. p.ty) ps) xs → Shows tb s (type_in (at ((map (param_kind tb) ps ++ map Credit cs) ++ gones m) r)) (word_at (words_of xs ++ us) r) (first_contents (values_of xs) r)
load_shows tb s [] cs NoParts us m r g = subst (λ o. Shows tb s o (word_at us r) (first_contents (values_of NoParts) r)) (sym (credit_type cs m r)) tt
load_shows tb s [] cs (MoreParts x xs) us m r g = absurd g
load_shows tb s (p ∷ ps) cs NoParts us m r g = absurd g
load_shows tb s (p ∷ ps) cs (MoreParts x xs) us m zero g = subst (λ o. Shows tb s o (word_of x) (value_of x)) (sym (param_type tb p)) (x, record { word = refl; stands = g.0 }, refl)
load_shows tb s (p ∷ ps) cs (MoreParts x xs) us m (suc r) g = load_shows tb s ps cs xs us m r g.1

start_same : (c : PlainCode) (before waits : Kinds) (n : ℕ) (kept : List ℕ) (s : State) (t : IsStart c before waits n kept s) (vs : Values) → values_of t.given.arguments ≡ vs → IsSame c.types before waits s (T.entry n vs s.free)
start_same c before waits n kept s t vs e =
    let f : PlainFunction = t.function in
    let begins : State = record { store = s.store; running = first_frame n f t.words; waiting = []; free = t.free; lent = lent_words c.types f.params t.words } in
    let is : s ≡ begins = loaded_is c n f s.store t.words t.free s t.is t.loaded in
    let known : before n 0 ≡ entry c f = t.kinds.known n 0 f (entry c f) t.is (known_entry c f (has_form c f (formed c n f t.sound t.is))) in
    let xs : Parts = t.given.arguments in
    let spares : List ℕ = map (λ p. place_word p) t.given.spares in
    let m : ℕ = f.registers - (length f.params + length f.credits) in
    let zs : List ℕ = replicate (f.registers - length t.words) 0 in
    let shown : AreShown c.types s.store (at (entry c f)) (word_at (words_of xs ++ (spares ++ zs))) (first_contents (values_of xs)) = record { each = λ r. load_shows c.types s.store f.params f.credits xs (spares ++ zs) m r t.given.stand } in
    let worded : AreShown c.types s.store (at (entry c f)) (word_at (first_words f.registers t.words)) (first_contents vs) =
    subst (λ vs. AreShown c.types s.store (at (entry c f)) (word_at (first_words f.registers t.words)) (first_contents vs)) e
    (subst (λ ws. AreShown c.types s.store (at (entry c f)) (word_at (ws ++ zs)) (first_contents (values_of xs))) (sym t.given.words)
    (subst (λ ws. AreShown c.types s.store (at (entry c f)) (word_at ws) (first_contents (values_of xs))) (sym (append_twice (words_of xs) spares zs)) shown)) in
    let same : IsSame c.types before waits begins (T.entry n vs begins.free) = record {
      running = record {
        shown = subst (λ ks. AreShown c.types s.store (at ks) (word_at (first_words f.registers t.words)) (first_contents vs)) (sym known) worded;
        function = refl;
        instr = refl;
      };
      waiting = tt;
      free = refl;
    } in
    subst (λ u. IsSame c.types before waits u (T.entry n vs u.free)) (sym is) same

-- ---- the arguments are those that the first registers stand for

take_first : (xs ys : List ℕ) → take (length xs) (xs ++ ys) ≡ xs
take_first [] ys = refl
take_first (x ∷ xs) ys = ap (λ us. x ∷ us) (take_first xs ys)

first_taken : (c : PlainCode) (before waits : Kinds) (n : ℕ) (kept : List ℕ) (s : State) (t : IsStart c before waits n kept s) → take (length t.function.params) s.running.words ≡ words_of t.given.arguments
first_taken c before waits n kept s t =
    let f : PlainFunction = t.function in
    let xs : Parts = t.given.arguments in
    let spares : List ℕ = map (λ p. place_word p) t.given.spares in
    let zs : List ℕ = replicate (f.registers - length t.words) 0 in
    let begins : State = record { store = s.store; running = first_frame n f t.words; waiting = []; free = t.free; lent = lent_words c.types f.params t.words } in
    let is : s ≡ begins = loaded_is c n f s.store t.words t.free s t.is t.loaded in
    let words : s.running.words ≡ words_of xs ++ (spares ++ zs) = ap (λ (s : State). s.running.words) is ∙ ap (λ ws. ws ++ zs) t.given.words ∙ append_twice (words_of xs) spares zs in
    let number : length (words_of xs) ≡ length f.params = stand_length c.types s.store (map (λ p. p.ty) f.params) xs t.given.stand ∙ length_map (λ (p : Param). p.ty) f.params in
    ap (take (length f.params)) words ∙ ap (λ m. take m (words_of xs ++ (spares ++ zs))) (sym number) ∙ take_first (words_of xs) (spares ++ zs)

params_are : (c : PlainCode) (n : ℕ) (f : PlainFunction) → function_at c n ≡ Some f → params c n ≡ f.params
params_are c n f is = ap params_of is

pub begins_values : (c : PlainCode) (before waits : Kinds) (n : ℕ) (kept : List ℕ) (s : State) (t : IsStart c before waits n kept s) (vs : Values) → BeginsWith c n s vs → values_of t.given.arguments ≡ vs
begins_values c before waits n kept s t vs b =
    let ps : List Param = t.function.params in
    let e : AreWordsOf c.types s.store (map (λ p. p.ty) ps) (take (length ps) s.running.words) vs = subst (λ ps. AreWordsOf c.types s.store (map (λ p. p.ty) ps) (take (length ps) s.running.words) vs) (params_are c n t.function t.is) b in
    let words : words_of t.given.arguments ≡ words_of e.0 = sym (first_taken c before waits n kept s t) ∙ e.1 in
    ap values_of (same_parts c.types s.store (map (λ p. p.ty) ps) t.given.arguments e.0 t.given.stand e.2 words) ∙ e.3

-- each start has arguments
pub begins_with : (c : PlainCode) (before waits : Kinds) (n : ℕ) (kept : List ℕ) (s : State) → IsStart c before waits n kept s → (vs : Values) × BeginsWith c n s vs
begins_with c before waits n kept s t =
    let xs : Parts = t.given.arguments in
    (values_of xs, subst (λ ps. AreWordsOf c.types s.store (map (λ p. p.ty) ps) (take (length ps) s.running.words) (values_of xs)) (sym (params_are c n t.function t.is)) (xs, first_taken c before waits n kept s t, t.given.stand, refl))

pub begins_same : (c : PlainCode) (before waits : Kinds) (n : ℕ) (kept : List ℕ) (s : State) (vs : Values) → IsStart c before waits n kept s → BeginsWith c n s vs → IsSame c.types before waits s (T.entry n vs s.free)
begins_same c before waits n kept s vs t b = start_same c before waits n kept s t vs (begins_values c before waits n kept s t vs b)
