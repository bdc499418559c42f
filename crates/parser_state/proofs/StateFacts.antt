-- One element more or less of what a state of the parser keeps, against the machine's state that it stands for.
use Rattle.std.proofs.Common.{Vec, Global, ◌≡◌, ℕ, Bool, true, false, List, [], ◌∷◌, ◌++◌, length, map, refl, ap, subst, ◌∙◌, arith}
use Rattle.std.specs.Prelude.{reverse, ◌==◌}
use Rattle.std.specs.List.{All}
use Rattle.std.proofs.lemmas.List.{reverse-append, map_push, get_or_append_left, get_or_at, length-append}
use Rattle.fip_language.specs.Core as C
use Rattle.fip_language.specs.Surface as S
use Rattle.fip_base.specs.CoreView.{writtens_of}
use Rattle.fip_base.specs.SurfaceView as surface
use Rattle.fip_base.specs.SurfaceView.{Action, acted, kept, left_by, top, below, action, LetPart, Case}
use Rattle.fip_base.specs.declared.surface.Step.{Step}
use Rattle.fip_base.proofs.SurfaceLayers.{left_by_push}
use Rattle.fip_grammar.specs.Machine as M
use Rattle.parser_state.specs.declared.state.Level.{Level}
use Rattle.parser_state.specs.declared.state.Opener.{Opener}
use Rattle.parser_state.specs.declared.state.Partial.{Partial}
use Rattle.parser_state.specs.declared.state.Waiting.{Waiting}
use Rattle.parser_state.specs.StateView as view

-- what the elements stand for, with one more
pub map_pushed : {A B : Type 0} (f : A → B) (v xs : List A) (x : A) → v ≡ xs ++ x ∷ [] → map f v ≡ map f xs ++ f x ∷ []
map_pushed f v xs x e = ap (map f) e ∙ map_push f xs x

-- a step more
pub left_push : (steps : List Step) (s : Step) → view.left (steps ++ s ∷ []) ≡ acted (action s) (view.left steps) ∷ kept (action s) (view.left steps)
left_push steps s = ap (λ z. left_by z []) (map_push action steps s) ∙ left_by_push (map action steps) (action s) []

pub reverse_push : {A : Type 0} (xs : List A) (x : A) → reverse (xs ++ x ∷ []) ≡ x ∷ reverse xs
reverse_push xs x = reverse-append xs (x ∷ [])

pub levels_push : (ls : List Level) (l : Level) → view.levels (ls ++ l ∷ []) ≡ view.level l ∷ view.levels ls
levels_push ls l = ap reverse (map_push view.level ls l) ∙ reverse_push (map view.level ls) (view.level l)

-- what holds of all but one, and of that one
pub all_front : {A : Type 0} (P : A → Type 0) (xs : List A) (x : A) → All P (xs ++ x ∷ []) → All P xs
all_front P xs x h k d lt =
    subst P (get_or_append_left xs (x ∷ []) d k lt) (h k d (omega (arith, length-append xs (x ∷ []))))

pub all_last : {A : Type 0} (P : A → Type 0) (xs : List A) (x : A) → All P (xs ++ x ∷ []) → P x
all_last P xs x h = subst P (get_or_at xs x [] x (length xs) refl) (h (length xs) x (omega (arith, length-append xs (x ∷ []))))

-- The machine's lists and those of the view.
pub types_as : (ts : List C.Written) → M.onto_types ts C.NoWritten ≡ writtens_of ts
types_as [] = refl
types_as (t ∷ ts) = ap (λ z. C.MoreWritten t z) (types_as ts)

pub patterns_as : (ps : List S.Pattern) → M.onto_patterns ps S.NoPatterns ≡ surface.patterns_of ps
patterns_as [] = refl
patterns_as (p ∷ ps) = ap (λ z. S.MorePatterns p z) (patterns_as ps)

pub expressions_as : (es : List S.Expression) → M.onto_expressions es S.NoExpressions ≡ surface.expressions_of es
expressions_as [] = refl
expressions_as (e ∷ es) = ap (λ z. S.MoreExpressions e z) (expressions_as es)

pub clauses_as : (cs : List Case) → M.onto_clauses (map view.clause_of cs) S.NoClauses ≡ surface.clauses_of cs
clauses_as [] = refl
clauses_as (c ∷ cs) = ap (λ z. S.MoreClauses c.pattern c.body z) (clauses_as cs)

pub block_as : (ls : List LetPart) (e : S.Expression) → M.onto_block (map view.binding_of ls) (S.Last e) ≡ surface.block_of ls e
block_as [] e = refl
block_as (l ∷ ls) e = ap (λ z. S.Let l.binds l.bound z) (block_as ls e)

pub last_of_block : (ls : List LetPart) (e : S.Expression) → M.last_of (surface.block_of ls e) ≡ e
last_of_block [] e = refl
last_of_block (l ∷ ls) e = last_of_block ls e

-- an expression that leaves just one
pub one_as_top : (es : List S.Expression) → below es ≡ [] → surface.one_of es ≡ top es
one_as_top [] h = refl
one_as_top (e ∷ []) h = refl
one_as_top (e ∷ f ∷ es) h = cc

-- a test of a length against 0
pub some_mapped : {A B : Type 0} (f : A → B) (xs : List A) (n : ℕ) (r : Bool) → r ≡ false → r ≡ (n == 0) → n ≡ length xs → M.is_empty (map f xs) ≡ false
some_mapped f [] n r h k e = let k' : r ≡ true = k ∙ ap (λ m. m == 0) e in cc
some_mapped f (x ∷ xs) n r h k e = refl

abbrev partial_of : Partial → List Opener → Waiting → List S.Expression → M.Partial
partial_of p os w es =
    record {
      lets = view.bindings p.lets.items;
      binds = view.bound_binds p.binds;
      openers = view.openers (reverse os) (view.after_waiting w es);
      waiting = view.waiting w es;
    }

-- an opener more, inside which nothing waits
pub partial_opened : (p : Partial) (os : Vec Opener Global) (w : Waiting) (o : Opener) (es : List S.Expression) → os.items ≡ p.openers.items ++ o ∷ [] → w ≡ view.nothing_waits → view.waits_outside o ≡ p.waiting → view.partial (record p { openers = os; waiting = w }) es ≡ record (view.partial p es) { openers = view.opener o es ∷ (view.partial p es).openers; waiting = M.none_waits }
partial_opened p os w o es h n k =
    ap (λ z. partial_of p z w es) h
    ∙ ap (λ z. partial_of p (p.openers.items ++ o ∷ []) z es) n
    ∙ ap (λ z. record (view.partial p es) { openers = view.openers z es; waiting = M.none_waits }) (reverse_push p.openers.items o)
    ∙ ap (λ z. record (view.partial p es) { openers = view.opener o es ∷ view.openers (reverse p.openers.items) (view.after_waiting z es); waiting = M.none_waits }) k

pub well_opened : (p : Partial) (os : Vec Opener Global) (w : Waiting) (o : Opener) (es : List S.Expression) → os.items ≡ p.openers.items ++ o ∷ [] → w ≡ view.nothing_waits → view.waits_outside o ≡ p.waiting → view.IsWellPartial p es → view.IsWellPartial (record p { openers = os; waiting = w }) es
well_opened p os w o es h n k well =
    ap (λ z. view.after_openers (reverse z) (view.after_waiting w es)) h
    ∙ ap (λ z. view.after_openers (reverse (p.openers.items ++ o ∷ [])) (view.after_waiting z es)) n
    ∙ ap (λ z. view.after_openers z es) (reverse_push p.openers.items o)
    ∙ ap (λ z. view.after_openers (reverse p.openers.items) (view.after_waiting z es)) k
    ∙ well
