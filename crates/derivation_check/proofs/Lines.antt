-- A derivation's lines, and what a function starts with.
use Rattle.std.proofs.Common.{◌≡◌, ℕ, zero, suc, ◌<◌, ◌≤◌, ◌+◌, refl, sym, ap, ◌∙◌, subst, List, [], ◌∷◌, length, get_or, drop, map, Option, Some, None, Bool, true, false, ◌||◌, Bor, arith}
use Rattle.std.specs.Prelude.{slice_get, if◌then◌else◌}
use Rattle.fip_base.specs.declared.plain.Param.{Param}
use Rattle.fip_trees.specs.declared.program.Instance as I
use Rattle.fip_trees.specs.declared.program.Binder.{Binder}
use Rattle.fip_trees.specs.Tree as T
use Rattle.fip_trees.specs.TreeView as V
use Rattle.fip_rules.specs.World.{World, world, is_ruled}
use Rattle.ownership_calculus.specs.Terms.{Item, Own, Credit, given}
use Rattle.derivation_trees.specs.declared.derivation.Line.{Line}
use Rattle.derivation_trees.specs.declared.derivation.Credit as C
use Rattle.derivation_trees.specs.Trees.{Tree, Entry, entry}
use Rattle.derivation_check.specs.Owned.{amount, root, IsOwned, Rising}
use Rattle.derivation_check.specs.declared.scope.Scope as D
use Rattle.derivation_check.specs.declared.scope.Scope.TheVariants as SV
use Rattle.derivation_check.specs.Scopes.{Scope, parameters, AreNumbered}
use Rattle.derivation_check.specs.ScopeView.{frames, scope_of, Fits}
use Rattle.derivation_check.specs.Calculus.{Choice, DerivesBlock}
use Rattle.derivation_check.specs.Accepted.{owned_parameters, starting, DerivesInstance, FirstEntry, AreDerived}
use Rattle.derivation_check.proofs.Frames.{frames_header}
use Rattle.derivation_check.proofs.Numbers.{drop_item, drop_end, drop_one, drop_nothing, same_rising}
use Rattle.fip_base.proofs.fip_language.Facts.{or_false_false as or_none, or_last as or_lent}

pub fits_header : (ps : Bor (List Param)) → Fits (frames (SV.Header ps))
fits_header ps = subst Fits (sym (frames_header ps)) _

pub scope_header : (ps : Bor (List Param)) → scope_of (frames (SV.Header ps)) ≡ record { variables = parameters 0 ps.now; lent = λ x. false }
scope_header ps = ap scope_of (frames_header ps)

pub parameter_left : (w : World) (n : ℕ) (p : Param) (ps : List Param) (ys : List ℕ) → w.scalar p.ty ≡ true → ys ≡ owned_parameters w (n + 1) ps → ys ≡ owned_parameters w n (p ∷ ps)
parameter_left w n p ps ys e h = cc

pub parameter_lent : (w : World) (n : ℕ) (p : Param) (ps : List Param) (ys : List ℕ) → p.lent ≡ true → ys ≡ owned_parameters w (n + 1) ps → ys ≡ owned_parameters w n (p ∷ ps)
parameter_lent w n p ps ys e h = let f = or_lent (w.scalar p.ty) p.lent e in cc

pub parameter_owned : (w : World) (n i : ℕ) (p : Param) (ps : List Param) (ys : List ℕ) → w.scalar p.ty ≡ false → p.lent ≡ false → drop i ys ≡ n ∷ drop (i + 1) ys → drop (i + 1) ys ≡ owned_parameters w (n + 1) ps → drop i ys ≡ owned_parameters w n (p ∷ ps)
parameter_owned w n i p ps ys e l f h = f ∙ ap (λ (xs : List ℕ). n ∷ xs) h ∙ more
  where
    more : n ∷ owned_parameters w (n + 1) ps ≡ owned_parameters w n (p ∷ ps)
    more = let g = or_none (w.scalar p.ty) p.lent e l in cc

-- the other way round

parameters_next : (w : World) (n : ℕ) (p : Param) (ps : List Param) → w.scalar p.ty ≡ false → p.lent ≡ false → owned_parameters w n (p ∷ ps) ≡ n ∷ owned_parameters w (n + 1) ps
parameters_next w n p ps e l = let g = or_none (w.scalar p.ty) p.lent e l in cc

pub left_parameter : (w : World) (n : ℕ) (p : Param) (ps : List Param) (ys : List ℕ) → w.scalar p.ty ≡ true → ys ≡ owned_parameters w n (p ∷ ps) → ys ≡ owned_parameters w (n + 1) ps
left_parameter w n p ps ys e h = cc

pub lent_parameter : (w : World) (n : ℕ) (p : Param) (ps : List Param) (ys : List ℕ) → p.lent ≡ true → ys ≡ owned_parameters w n (p ∷ ps) → ys ≡ owned_parameters w (n + 1) ps
lent_parameter w n p ps ys e h = let f = or_lent (w.scalar p.ty) p.lent e in cc

pub drop_rest : (i x : ℕ) (ys zs : List ℕ) → drop i ys ≡ x ∷ zs → drop (i + 1) ys ≡ zs
drop_rest i x ys zs e = sym (drop_one i ys) ∙ ap (λ (xs : List ℕ). drop 1 xs) e ∙ none zs
  where
    none : (xs : List ℕ) → drop 0 xs ≡ xs
    none [] = refl
    none (x ∷ xs) = refl

pub owned_parameter : (w : World) (n i : ℕ) (p : Param) (ps : List Param) (ys : List ℕ) → w.scalar p.ty ≡ false → p.lent ≡ false → drop i ys ≡ owned_parameters w n (p ∷ ps) → drop (i + 1) ys ≡ owned_parameters w (n + 1) ps
owned_parameter w n i p ps ys e l h = drop_rest i n ys (owned_parameters w (n + 1) ps) (h ∙ parameters_next w n p ps e l)

pub no_parameter : (w : World) (n i : ℕ) (p : Param) (ps : List Param) (ys : List ℕ) → w.scalar p.ty ≡ false → p.lent ≡ false → (drop i ys ≡ n ∷ drop (i + 1) ys → ⊥) → drop i ys ≡ owned_parameters w n (p ∷ ps) → ⊥
no_parameter w n i p ps ys e l g h = g (h ∙ parameters_next w n p ps e l ∙ ap (λ (xs : List ℕ). n ∷ xs) (sym (owned_parameter w n i p ps ys e l h)))

pub parameters_over : (ys : List ℕ) (p : ℕ) → drop p ys ≡ [] → p ≤ length ys → p ≡ length ys
parameters_over ys p e l = let g = drop_nothing ys p e in omega arith

rises_up : (w : World) (m n k : ℕ) (ps : List Param) → m ≤ n → n + length ps ≤ k → Rising m k (owned_parameters w n ps)
rises_up w m n k [] l h = _
rises_up w m n k (p ∷ ps) l h = by (w.scalar p.ty || p.lent) refl (rises_up w m (n + 1) k ps (omega arith) (omega arith)) (rises_up w (n + 1) (n + 1) k ps (omega arith) (omega arith))
  where
    by : (b : Bool) → (w.scalar p.ty || p.lent) ≡ b → Rising m k (owned_parameters w (n + 1) ps) → Rising (n + 1) k (owned_parameters w (n + 1) ps) → Rising m k (owned_parameters w n (p ∷ ps))
    by true e f g = subst (Rising m k) (let q : owned_parameters w (n + 1) ps ≡ owned_parameters w n (p ∷ ps) = cc in q) f
    by false e f g = subst (Rising m k) (let q : n ∷ owned_parameters w (n + 1) ps ≡ owned_parameters w n (p ∷ ps) = cc in q) (l, omega arith, g)

-- what a function starts with
pub start_variables : (w : World) (d : T.Instance) (t : Tree) (ps : List Param) (xs : List ℕ) → ps ≡ d.params → ((x : ℕ) → root t (Own x) ≡ given x xs) → Rising 0 (length ps) xs → ((i : Item) → root t i ≡ starting w d i) → xs ≡ owned_parameters w 0 ps
start_variables w d t ps xs e a r h =
    same_rising 0 (length ps) 0 (length ps) xs (owned_parameters w 0 ps) r (rises_up w 0 0 (length ps) ps (omega arith) (omega arith)) (λ x. sym (a x) ∙ h (Own x) ∙ ap (λ qs. given x (owned_parameters w 0 qs)) (sym e))

pub start_credits : (w : World) (d : T.Instance) (t : Tree) (ks : List ℕ) (cs : List C.Credit) → ks ≡ d.credits → ((k : ℕ) → root t (Credit k) ≡ amount k cs) → ((i : Item) → root t i ≡ starting w d i) → (k : ℕ) → amount k cs ≡ given k ks
start_credits w d t ks cs e b h k = sym (b k) ∙ h (Credit k) ∙ ap (given k) (sym e)

pub starts_with : (w : World) (d : T.Instance) (t : Tree) (xs : List ℕ) (cs : List C.Credit) → ((x : ℕ) → root t (Own x) ≡ given x xs) → ((k : ℕ) → root t (Credit k) ≡ amount k cs) → xs ≡ owned_parameters w 0 d.params → ((k : ℕ) → amount k cs ≡ given k d.credits) → (i : Item) → root t i ≡ starting w d i
starts_with w d t xs cs a b e f (Own x) = a x ∙ ap (given x) e
starts_with w d t xs cs a b e f (Credit k) = b k ∙ f k

pub choice_false : (b : Bool) (A B : Type 0) → b ≡ false → B → Choice b A B
choice_false true A B e h = absurd (cc)
choice_false false A B e h = h

pub choice_true : (b : Bool) (A B : Type 0) → b ≡ true → A → Choice b A B
choice_true true A B e h = h
choice_true false A B e h = absurd (cc)

pub choice_not : (b : Bool) (A B : Type 0) → b ≡ false → Choice b A B → B
choice_not true A B e h = absurd (cc)
choice_not false A B e h = h

pub choice_so : (b : Bool) (A B : Type 0) → b ≡ true → Choice b A B → A
choice_so true A B e h = h
choice_so false A B e h = absurd (cc)

pub line_plain : (p : T.Program) (n : ℕ) (d : T.Instance) (ds : List T.Instance) (es : List Entry) → is_ruled d.kind ≡ false → AreDerived p n (d ∷ ds) es → AreDerived p (n + 1) ds es
line_plain p n d ds es e h = choice_not (is_ruled d.kind) (FirstEntry es (λ e rest. (e.instance ≡ n) × DerivesInstance (world p d.kind) d e.tree × AreDerived p (n + 1) ds rest)) (AreDerived p (n + 1) ds es) e h

pub plain_line : (p : T.Program) (n : ℕ) (d : T.Instance) (ds : List T.Instance) (es : List Entry) → is_ruled d.kind ≡ false → AreDerived p (n + 1) ds es → AreDerived p n (d ∷ ds) es
plain_line p n d ds es e h = choice_false (is_ruled d.kind) (FirstEntry es (λ e rest. (e.instance ≡ n) × DerivesInstance (world p d.kind) d e.tree × AreDerived p (n + 1) ds rest)) (AreDerived p (n + 1) ds es) e h

entry_at : (ls : List Line) (i : ℕ) (l : Line) → slice_get ls i ≡ Some l → drop i (map entry ls) ≡ entry l ∷ drop (i + 1) (map entry ls)
entry_at ls i l e = let s : suc i ≡ i + 1 = omega arith in of ls i e ∙ ap (λ k. entry l ∷ drop k (map entry ls)) s
  where
    some_one : {A : Type 0} {u v : A} → Some u ≡ Some v → u ≡ v
    some_one e = cc

    of : (ls : List Line) (i : ℕ) → slice_get ls i ≡ Some l → drop i (map entry ls) ≡ entry l ∷ drop (suc i) (map entry ls)
    of [] i e = absurd (cc)
    of (m ∷ ls) zero e = ap (λ (v : Line). entry v ∷ map entry ls) (some_line e)
      where
        some_line : Some m ≡ Some l → m ≡ l
        some_line e = cc
    of (m ∷ ls) (suc i) e = of ls i e

pub ruled_line : (p : T.Program) (n i : ℕ) (d : T.Instance) (ds : List T.Instance) (ls : List Line) (l : Line) → is_ruled d.kind ≡ true → slice_get ls i ≡ Some l → l.instance ≡ n → DerivesInstance (world p d.kind) d (entry l).tree → AreDerived p (n + 1) ds (drop (i + 1) (map entry ls)) → AreDerived p n (d ∷ ds) (drop i (map entry ls))
ruled_line p n i d ds ls l r e f g h =
    choice_true (is_ruled d.kind) (FirstEntry (drop i (map entry ls)) (λ e rest. (e.instance ≡ n) × DerivesInstance (world p d.kind) d e.tree × AreDerived p (n + 1) ds rest)) (AreDerived p (n + 1) ds (drop i (map entry ls))) r
    (subst (λ es. FirstEntry es (λ e rest. (e.instance ≡ n) × DerivesInstance (world p d.kind) d e.tree × AreDerived p (n + 1) ds rest)) (sym (entry_at ls i l e)) (f, g, h))

pub line_ruled : (p : T.Program) (n i : ℕ) (d : T.Instance) (ds : List T.Instance) (ls : List Line) (l : Line) → is_ruled d.kind ≡ true → slice_get ls i ≡ Some l → AreDerived p n (d ∷ ds) (drop i (map entry ls)) → (l.instance ≡ n) × DerivesInstance (world p d.kind) d (entry l).tree × AreDerived p (n + 1) ds (drop (i + 1) (map entry ls))
line_ruled p n i d ds ls l r e h =
    subst (λ es. FirstEntry es (λ e rest. (e.instance ≡ n) × DerivesInstance (world p d.kind) d e.tree × AreDerived p (n + 1) ds rest)) (entry_at ls i l e)
    (choice_so (is_ruled d.kind) (FirstEntry (drop i (map entry ls)) (λ e rest. (e.instance ≡ n) × DerivesInstance (world p d.kind) d e.tree × AreDerived p (n + 1) ds rest)) (AreDerived p (n + 1) ds (drop i (map entry ls))) r h)

map_length : (ls : List Line) → length (map entry ls) ≡ length ls
map_length [] = refl
map_length (l ∷ ls) = ap suc (map_length ls)

past_lines : (ls : List Line) (i : ℕ) → slice_get ls i ≡ None → drop i (map entry ls) ≡ []
past_lines [] zero e = refl
past_lines [] (suc i) e = refl
past_lines (l ∷ ls) zero e = absurd (cc)
past_lines (l ∷ ls) (suc i) e = past_lines ls i e

pub line_missing : (p : T.Program) (n i : ℕ) (d : T.Instance) (ds : List T.Instance) (ls : List Line) → is_ruled d.kind ≡ true → slice_get ls i ≡ None → AreDerived p n (d ∷ ds) (drop i (map entry ls)) → ⊥
line_missing p n i d ds ls r e h =
    subst (λ es. FirstEntry es (λ e rest. (e.instance ≡ n) × DerivesInstance (world p d.kind) d e.tree × AreDerived p (n + 1) ds rest)) (past_lines ls i e)
    (choice_so (is_ruled d.kind) (FirstEntry (drop i (map entry ls)) (λ e rest. (e.instance ≡ n) × DerivesInstance (world p d.kind) d e.tree × AreDerived p (n + 1) ds rest)) (AreDerived p (n + 1) ds (drop i (map entry ls))) r h)

pub instances_here : (p : T.Program) (n i : ℕ) (xs : List I.Instance) (x : I.Instance) (es : List Entry) → i < length xs → x ≡ get_or xs i x → AreDerived p n (V.instances (drop i xs)) es → AreDerived p n (V.instance_of x ∷ V.instances (drop (i + 1) xs)) es
instances_here p n i xs x es l e h = subst (λ ys. AreDerived p n (V.instances ys) es) (drop_item xs i x x l e) h

no_entries : (p : T.Program) (n : ℕ) (es : List Entry) → AreDerived p n [] es → es ≡ []
no_entries p n [] h = refl
no_entries p n (e ∷ es) h = absurd h

pub instances_over : (p : T.Program) (n i j : ℕ) (xs : List I.Instance) (ls : List Line) → length xs ≤ i → j ≤ length ls → AreDerived p n (V.instances (drop i xs)) (drop j (map entry ls)) → j ≡ length ls
instances_over p n i j xs ls l m h =
    let e = no_entries p n (drop j (map entry ls)) (subst (λ ys. AreDerived p n (V.instances ys) (drop j (map entry ls))) (drop_end xs i l) h) in
    let f = drop_nothing (map entry ls) j e in
    let g = map_length ls in omega arith

pub instances_more : (p : T.Program) (n i : ℕ) (xs : List I.Instance) (x : I.Instance) (es : List Entry) → i < length xs → x ≡ get_or xs i x → AreDerived p n (V.instance_of x ∷ V.instances (drop (i + 1) xs)) es → AreDerived p n (V.instances (drop i xs)) es
instances_more p n i xs x es l e h = subst (λ ys. AreDerived p n (V.instances ys) es) (sym (drop_item xs i x x l e)) h

pub instances_end : (p : T.Program) (n i j : ℕ) (xs : List I.Instance) (ls : List Line) → length xs ≤ i → j ≡ length ls → AreDerived p n (V.instances (drop i xs)) (drop j (map entry ls))
instances_end p n i j xs ls l e = subst (λ ys. AreDerived p n (V.instances ys) (drop j (map entry ls))) (sym (drop_end xs i l)) (subst (λ es. AreDerived p n [] es) (sym (drop_end (map entry ls) j (let f = same ls in omega arith))) _)
  where
    same : (ls : List Line) → length (map entry ls) ≡ length ls
    same [] = refl
    same (l ∷ ls) = ap suc (same ls)

pub function_made : (w : World) (d : T.Instance) (t : Tree) (ps : List Param) (bs : List Binder) (ks xs : List ℕ) (cs : List C.Credit) (s : Scope) → ps ≡ d.params → bs ≡ d.binders → ks ≡ d.credits → length bs ≡ length ps → AreNumbered 0 0 bs → IsOwned (length ps) t → ((x : ℕ) → root t (Own x) ≡ given x xs) → ((k : ℕ) → root t (Credit k) ≡ amount k cs) → xs ≡ owned_parameters w 0 ps → ((k : ℕ) → amount k cs ≡ given k ks) → s ≡ record { variables = parameters 0 ps; lent = λ x. false } → DerivesBlock w s (length ps) (length ps) t d.body → DerivesInstance w d t
function_made w d t ps bs ks xs cs s e f g l n o a b x k r h = (
  (ap length (sym f) ∙ l ∙ ap length e),
  subst (AreNumbered 0 0) f n,
  subst (λ qs. IsOwned (length qs) t) e o,
  starts_with w d t xs cs a b (x ∙ ap (owned_parameters w 0) e) (λ j. k j ∙ ap (given j) g),
  subst (λ qs. DerivesBlock w record { variables = parameters 0 qs; lent = λ x. false } (length qs) (length qs) t d.body) e (subst (λ v. DerivesBlock w v (length ps) (length ps) t d.body) r h),
)

pub function_body : (w : World) (d : T.Instance) (t : Tree) (ps : List Param) (s : Scope) → ps ≡ d.params → s ≡ record { variables = parameters 0 ps; lent = λ x. false } → DerivesInstance w d t → DerivesBlock w s (length ps) (length ps) t d.body
function_body w d t ps s e q h = subst (λ v. DerivesBlock w v (length ps) (length ps) t d.body) (sym q) (subst (λ qs. DerivesBlock w record { variables = parameters 0 qs; lent = λ x. false } (length qs) (length qs) t d.body) (sym e) h.4)

pub most_numbered : (c d : ℕ) (bs : List Binder) → AreNumbered c d bs → d ≤ 4294967296 → d + length bs ≤ 4294967296
most_numbered c d [] h l = omega arith
most_numbered c d (b ∷ bs) h l = let a = h.1 in let g = most_numbered (c + 1) (d + 1) bs h.2 (omega arith) in omega arith

pub ruleset lines = (plain_line, ruled_line, line_plain, line_missing)

pub ruleset in_header = (fits_header, scope_header)

pub ruleset owning_parameters = (parameter_left, parameter_lent, parameter_owned, left_parameter, lent_parameter, owned_parameter, no_parameter)
