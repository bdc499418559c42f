-- Lists of trees that are filled where they lie: what was visited, before what is still to be filled.
use Rattle.std.proofs.Common.{◌≡◌, ℕ, zero, suc, ◌+◌, ◌<◌, ◌≤◌, List, [], ◌∷◌, ◌++◌, map, take, drop, set, get_or, length, Option, Bool, true, not, refl, sym, ap, ◌∙◌, arith, add-one, append_assoc}
use Rattle.std.specs.Prelude.{◌&&◌}
use Rattle.fip_trees.specs.Tree as T
use Rattle.fip_trees.specs.TreeView.{argument, arguments, pattern, patterns, BoundPart, Case, binding, block_of, clause, clauses}
use Rattle.fip_trees.specs.declared.program.Argument.{Argument}
use Rattle.fip_base.specs.declared.plain.Param.{Param}
use Rattle.fip_trees.specs.TreeView.{instance_of}
use Rattle.fip_trees.specs.declared.program.Instance.{Instance}
use Rattle.type_check.specs.Typing.{parameter_entries}
use Rattle.type_check.specs.Parameters.{fill_first, entry_first}
use Rattle.type_check.specs.Faults.{fill_parameters, fill_instance, instance_faults, instances_faults}
use Rattle.fip_trees.specs.declared.program.Pattern.{Pattern}
use Rattle.fip_trees.specs.declared.program.Clause.{Clause}
use Rattle.fip_trees.specs.declared.program.Binding.{Binding}
use Rattle.type_check.specs.Bound.{found_bound, fill_bound, entries_bound, bound_faults}
use Rattle.type_check.specs.Faults.{found_block, faults, block_faults, clauses_faults, fill, fill_block, fill_clauses}
use Rattle.type_check.specs.Binders.{all_annotated, annotations}
use Rattle.type_check.specs.World.{World}
use Rattle.fip_language.specs.declared.rule.Rule.TheVariants.{E30}
use Rattle.fip_trees.specs.declared.program.Binder.{Binder}
use Rattle.type_check.specs.Found.{first_type, others, first_wanted, or_found, differ}
use Rattle.type_check.specs.Binders.{typed}
use Rattle.type_check.specs.Faults.{broken, when, binders_faults, fill_binders}
use Rattle.type_check.specs.Faults.{found_argument, found_arguments, argument_faults, arguments_faults, fill_argument, fill_arguments, pattern_faults, patterns_faults, fill_pattern, fill_patterns}
use Rattle.type_check.specs.Typing.{bound_by, bound_by_all}
use Rattle.type_check.specs.Scope.{Scope}
use Rattle.fip_trees.specs.declared.least.Violation.{Violation}
use Rattle.fip_trees.specs.Least.{after}
use Rattle.fip_trees.proofs.Leasts.{after-append}
use Rattle.type_check.proofs.Steps.{others_drop}

abbrev no_types : List (Option ℕ)
no_types = []

drop_none : (j : ℕ) → drop j no_types ≡ []
drop_none zero = refl
drop_none (suc j) = refl

pub drop_others : (ts : List (Option ℕ)) (j : ℕ) → drop (suc j) ts ≡ drop j (others ts)
drop_others [] j = sym (drop_none j)
drop_others (t ∷ ts) j = refl

drop_one : (ts : List (Option ℕ)) → drop 1 ts ≡ others ts
drop_one [] = refl
drop_one (t ∷ ts) = refl

-- the list from an item on, where the item is written anew
pub item_first : {A : Type 0} (xs : List A) (i : ℕ) (x d : A) → i < length xs → drop i xs ≡ get_or xs i d ∷ drop (i + 1) (set xs i x)
item_first [] i x d h = absurd (omega arith)
item_first (y ∷ ys) zero x d h = refl
item_first (y ∷ ys) (suc i) x d h = item_first ys i x d (omega arith) ∙ ap (λ k. get_or ys i d ∷ drop k (set ys i x)) (add-one i) ∙ sym (ap (λ k. get_or ys i d ∷ drop k (y ∷ set ys i x)) (add-one (suc i)))

pub take_front : {A : Type 0} (xs ys : List A) (n : ℕ) → n ≡ length xs → take n (xs ++ ys) ≡ xs
take_front [] ys zero h = refl
take_front [] ys (suc n) h = absurd (omega arith)
take_front (x ∷ xs) ys zero h = absurd (omega arith)
take_front (x ∷ xs) ys (suc n) h = ap (λ r. x ∷ r) (take_front xs ys n (omega arith))

abbrev pub before_arguments : List T.Argument → T.Arguments → T.Arguments
before_arguments [] r = r
before_arguments (a ∷ as') r = T.MoreArguments a (before_arguments as' r)

abbrev pub Arguments_half : World → Bool → List (Option ℕ) → ℕ → List Argument → T.Arguments
Arguments_half w b ts i xs = before_arguments (map argument (take i xs)) (fill_arguments w b (drop i ts) (arguments (drop i xs)))

arguments_set : (w : World) (b : Bool) (ts : List (Option ℕ)) (xs : List Argument) (i : ℕ) (x d : Argument) → i < length xs → argument x ≡ fill_argument w (first_wanted b (drop i ts)) (argument (get_or xs i d)) → Arguments_half w b ts (suc i) (set xs i x) ≡ Arguments_half w b ts i xs
arguments_set w b ts [] i x d h e = absurd (omega arith)
arguments_set w b ts (y ∷ ys) zero x d h e = rw (e, drop_one ts) refl
arguments_set w b ts (y ∷ ys) (suc i) x d h e =
    let f = drop_others ts i in
    let g = drop_others ts (suc i) in
    rw (f, g) (ap (λ r. T.MoreArguments (argument y) r) (arguments_set w b (others ts) ys i x d (omega arith) (e ∙ ap (λ q. fill_argument w (first_wanted b q) (argument (get_or ys i d))) f)))

pub arguments_step : (w : World) (b : Bool) (ts : List (Option ℕ)) (xs : List Argument) (i j : ℕ) (x d : Argument) (o : Option (Option ℕ)) → i < length xs → j ≡ i → o ≡ first_wanted b (drop j ts) → argument x ≡ fill_argument w o (argument (get_or xs i d)) → Arguments_half w b ts (i + 1) (set xs i x) ≡ Arguments_half w b ts i xs
arguments_step w b ts xs i j x d o h q m e =
    let n : o ≡ first_wanted b (drop i ts) = m ∙ ap (λ k. first_wanted b (drop k ts)) q in
    ap (λ k. Arguments_half w b ts k (set xs i x)) (add-one i) ∙ arguments_set w b ts xs i x d h (e ∙ ap (λ o. fill_argument w o (argument (get_or xs i d))) n)

pub arguments_noted : (w : World) (k : ℕ) (s : Scope) (b : Bool) (ts : List (Option ℕ)) (xs : List Argument) (i j : ℕ) (x d : Argument) (o : Option (Option ℕ)) (l m : Option Violation) → i < length xs → j ≡ i → o ≡ first_wanted b (drop j ts) → m ≡ after l (argument_faults w k s o (argument (get_or xs i d))) →
    after m (arguments_faults w k s b (drop (i + 1) ts) (arguments (drop (i + 1) (set xs i x)))) ≡ after l (arguments_faults w k s b (drop i ts) (arguments (drop i xs)))
arguments_noted w k s b ts xs i j x d o l m h q e g =
    let n : o ≡ first_wanted b (drop i ts) = e ∙ ap (λ k. first_wanted b (drop k ts)) q in
    let rest = arguments (drop (i + 1) (set xs i x)) in
    ap (λ l. after l (arguments_faults w k s b (drop (i + 1) ts) rest)) (g ∙ ap (λ o. after l (argument_faults w k s o (argument (get_or xs i d)))) n)
    ∙ sym (after-append l (argument_faults w k s (first_wanted b (drop i ts)) (argument (get_or xs i d))) (arguments_faults w k s b (drop (i + 1) ts) rest))
    ∙ sym (ap (λ q. after l (argument_faults w k s (first_wanted b (drop i ts)) (argument (get_or xs i d)) ++ arguments_faults w k s b q rest)) (others_drop ts i))
    ∙ sym (ap (λ r. after l (arguments_faults w k s b (drop i ts) (arguments r))) (item_first xs i x d h))

pub arguments_found : (w : World) (s : Scope) (b : Bool) (ts : List (Option ℕ)) (xs : List Argument) (i j : ℕ) (x d : Argument) (o : Option (Option ℕ)) (fs gs : List (Option ℕ)) (f : Option ℕ) → i < length xs → j ≡ i → o ≡ first_wanted b (drop j ts) → f ≡ found_argument w s o (argument (get_or xs i d)) → gs ≡ fs ++ f ∷ [] →
    gs ++ found_arguments w s b (drop (i + 1) ts) (arguments (drop (i + 1) (set xs i x))) ≡ fs ++ found_arguments w s b (drop i ts) (arguments (drop i xs))
arguments_found w s b ts xs i j x d o fs gs f h q e g m =
    let n : o ≡ first_wanted b (drop i ts) = e ∙ ap (λ k. first_wanted b (drop k ts)) q in
    let rest = arguments (drop (i + 1) (set xs i x)) in
    let first = found_argument w s (first_wanted b (drop i ts)) (argument (get_or xs i d)) in
    let k : f ≡ first = g ∙ ap (λ o. found_argument w s o (argument (get_or xs i d))) n in
    ap (λ gs. gs ++ found_arguments w s b (drop (i + 1) ts) rest) (m ∙ ap (λ (f : Option ℕ). fs ++ f ∷ []) k)
    ∙ append_assoc fs (first ∷ []) (found_arguments w s b (drop (i + 1) ts) rest)
    ∙ sym (ap (λ q. fs ++ (first ∷ found_arguments w s b q rest)) (others_drop ts i))
    ∙ sym (ap (λ r. fs ++ found_arguments w s b (drop i ts) (arguments r)) (item_first xs i x d h))

pub arguments_done : (w : World) (b : Bool) (ts : List (Option ℕ)) (xs : List Argument) (i : ℕ) → length xs ≤ i → Arguments_half w b ts i xs ≡ arguments xs
arguments_done w b ts [] zero h = refl
arguments_done w b ts [] (suc i) h = refl
arguments_done w b ts (y ∷ ys) zero h = absurd (omega arith)
arguments_done w b ts (y ∷ ys) (suc i) h = rw (drop_others ts i) (ap (λ r. T.MoreArguments (argument y) r) (arguments_done w b (others ts) ys i (omega arith)))

-- ---- patterns

abbrev pub before_patterns : List T.Pattern → T.Patterns → T.Patterns
before_patterns [] r = r
before_patterns (p ∷ ps) r = T.MorePatterns p (before_patterns ps r)

abbrev pub Patterns_half : World → List (Option ℕ) → ℕ → List Pattern → T.Patterns
Patterns_half w ts i xs = before_patterns (map pattern (take i xs)) (fill_patterns w (drop i ts) (patterns (drop i xs)))

patterns_set : (w : World) (ts : List (Option ℕ)) (xs : List Pattern) (i : ℕ) (x d : Pattern) → i < length xs → pattern x ≡ fill_pattern w (first_type (drop i ts)) (pattern (get_or xs i d)) → Patterns_half w ts (suc i) (set xs i x) ≡ Patterns_half w ts i xs
patterns_set w ts [] i x d h e = absurd (omega arith)
patterns_set w ts (y ∷ ys) zero x d h e = rw (e, drop_one ts) refl
patterns_set w ts (y ∷ ys) (suc i) x d h e =
    let f = drop_others ts i in
    let g = drop_others ts (suc i) in
    rw (f, g) (ap (λ r. T.MorePatterns (pattern y) r) (patterns_set w (others ts) ys i x d (omega arith) (e ∙ ap (λ q. fill_pattern w (first_type q) (pattern (get_or ys i d))) f)))

pub patterns_step : (w : World) (ts : List (Option ℕ)) (xs : List Pattern) (i j : ℕ) (x d : Pattern) (o : Option ℕ) → i < length xs → j ≡ i → o ≡ first_type (drop j ts) → pattern x ≡ fill_pattern w o (pattern (get_or xs i d)) → Patterns_half w ts (i + 1) (set xs i x) ≡ Patterns_half w ts i xs
patterns_step w ts xs i j x d o h q m e =
    let n : o ≡ first_type (drop i ts) = m ∙ ap (λ k. first_type (drop k ts)) q in
    ap (λ k. Patterns_half w ts k (set xs i x)) (add-one i) ∙ patterns_set w ts xs i x d h (e ∙ ap (λ o. fill_pattern w o (pattern (get_or xs i d))) n)

pub patterns_noted : (w : World) (k : ℕ) (ts : List (Option ℕ)) (xs : List Pattern) (i j : ℕ) (x d : Pattern) (o : Option ℕ) (l m : Option Violation) → i < length xs → j ≡ i → o ≡ first_type (drop j ts) → m ≡ after l (pattern_faults w k o (pattern (get_or xs i d))) →
    after m (patterns_faults w k (drop (i + 1) ts) (patterns (drop (i + 1) (set xs i x)))) ≡ after l (patterns_faults w k (drop i ts) (patterns (drop i xs)))
patterns_noted w k ts xs i j x d o l m h q e g =
    let n : o ≡ first_type (drop i ts) = e ∙ ap (λ k. first_type (drop k ts)) q in
    let rest = patterns (drop (i + 1) (set xs i x)) in
    ap (λ l. after l (patterns_faults w k (drop (i + 1) ts) rest)) (g ∙ ap (λ o. after l (pattern_faults w k o (pattern (get_or xs i d)))) n)
    ∙ sym (after-append l (pattern_faults w k (first_type (drop i ts)) (pattern (get_or xs i d))) (patterns_faults w k (drop (i + 1) ts) rest))
    ∙ sym (ap (λ q. after l (pattern_faults w k (first_type (drop i ts)) (pattern (get_or xs i d)) ++ patterns_faults w k q rest)) (others_drop ts i))
    ∙ sym (ap (λ r. after l (patterns_faults w k (drop i ts) (patterns r))) (item_first xs i x d h))

pub patterns_entered : (w : World) (ts : List (Option ℕ)) (xs : List Pattern) (i j : ℕ) (x d : Pattern) (o : Option ℕ) (s r : Scope) → i < length xs → j ≡ i → o ≡ first_type (drop j ts) → r ≡ s ++ bound_by w o (pattern (get_or xs i d)) →
    r ++ bound_by_all w (drop (i + 1) ts) (patterns (drop (i + 1) (set xs i x))) ≡ s ++ bound_by_all w (drop i ts) (patterns (drop i xs))
patterns_entered w ts xs i j x d o s r h q e g =
    let n : o ≡ first_type (drop i ts) = e ∙ ap (λ k. first_type (drop k ts)) q in
    let rest = patterns (drop (i + 1) (set xs i x)) in
    ap (λ s. s ++ bound_by_all w (drop (i + 1) ts) rest) (g ∙ ap (λ o. s ++ bound_by w o (pattern (get_or xs i d))) n)
    ∙ append_assoc s (bound_by w (first_type (drop i ts)) (pattern (get_or xs i d))) (bound_by_all w (drop (i + 1) ts) rest)
    ∙ sym (ap (λ q. s ++ (bound_by w (first_type (drop i ts)) (pattern (get_or xs i d)) ++ bound_by_all w q rest)) (others_drop ts i))
    ∙ sym (ap (λ r. s ++ bound_by_all w (drop i ts) (patterns r)) (item_first xs i x d h))

pub patterns_done : (w : World) (ts : List (Option ℕ)) (xs : List Pattern) (i : ℕ) → length xs ≤ i → Patterns_half w ts i xs ≡ patterns xs
patterns_done w ts [] zero h = refl
patterns_done w ts [] (suc i) h = refl
patterns_done w ts (y ∷ ys) zero h = absurd (omega arith)
patterns_done w ts (y ∷ ys) (suc i) h = rw (drop_others ts i) (ap (λ r. T.MorePatterns (pattern y) r) (patterns_done w (others ts) ys i (omega arith)))

-- ---- binders

abbrev pub Binders_half : List (Option ℕ) → ℕ → List Binder → List Binder
Binders_half ts i bs = take i bs ++ fill_binders (drop i ts) (drop i bs)

binders_set : (ts : List (Option ℕ)) (bs : List Binder) (i : ℕ) (x d : Binder) → i < length bs → x ≡ typed (or_found (get_or bs i d).annotation (first_type (drop i ts))) (get_or bs i d) → Binders_half ts (suc i) (set bs i x) ≡ Binders_half ts i bs
binders_set ts [] i x d h e = absurd (omega arith)
binders_set ts (y ∷ ys) zero x d h e = rw (e, drop_one ts) refl
binders_set ts (y ∷ ys) (suc i) x d h e =
    let f = drop_others ts i in
    let g = drop_others ts (suc i) in
    rw (f, g) (ap (λ (r : List Binder). y ∷ r) (binders_set (others ts) ys i x d (omega arith) (e ∙ ap (λ q. typed (or_found (get_or ys i d).annotation (first_type q)) (get_or ys i d)) f)))

pub binders_step : (ts : List (Option ℕ)) (bs : List Binder) (i j : ℕ) (x d : Binder) (o p : Option ℕ) → i < length bs → j ≡ i → o ≡ first_type (drop j ts) → p ≡ or_found (get_or bs i d).annotation o → x ≡ typed p (get_or bs i d) → Binders_half ts (i + 1) (set bs i x) ≡ Binders_half ts i bs
binders_step ts bs i j x d o p h q m n e =
    let r : p ≡ or_found (get_or bs i d).annotation (first_type (drop i ts)) = n ∙ ap (or_found (get_or bs i d).annotation) (m ∙ ap (λ k. first_type (drop k ts)) q) in
    ap (λ k. Binders_half ts k (set bs i x)) (add-one i) ∙ binders_set ts bs i x d h (e ∙ ap (λ p. typed p (get_or bs i d)) r)

pub binders_noted : (k : ℕ) (all : Bool) (ts : List (Option ℕ)) (bs : List Binder) (i j : ℕ) (x d : Binder) (o : Option ℕ) (b : Bool) (l m : Option Violation) → i < length bs → j ≡ i → o ≡ first_type (drop j ts) → b ≡ (not all && differ (get_or bs i d).annotation o) → m ≡ after l (when b (broken E30 (get_or bs i d).place k [])) →
    after m (binders_faults k all (drop (i + 1) (set bs i x)) (drop (i + 1) ts)) ≡ after l (binders_faults k all (drop i bs) (drop i ts))
binders_noted k all ts bs i j x d o b l m h q e f g =
    let y = get_or bs i d in
    let n : o ≡ first_type (drop i ts) = e ∙ ap (λ k. first_type (drop k ts)) q in
    let r : b ≡ (not all && differ y.annotation (first_type (drop i ts))) = f ∙ ap (λ o. not all && differ y.annotation o) n in
    let rest = drop (i + 1) (set bs i x) in
    ap (λ l. after l (binders_faults k all rest (drop (i + 1) ts))) (g ∙ ap (λ b. after l (when b (broken E30 y.place k []))) r)
    ∙ sym (after-append l (when (not all && differ y.annotation (first_type (drop i ts))) (broken E30 y.place k [])) (binders_faults k all rest (drop (i + 1) ts)))
    ∙ sym (ap (λ q. after l (when (not all && differ y.annotation (first_type (drop i ts))) (broken E30 y.place k []) ++ binders_faults k all rest q)) (others_drop ts i))
    ∙ sym (ap (λ r. after l (binders_faults k all r (drop i ts))) (item_first bs i x d h))

pub binders_done : (ts : List (Option ℕ)) (bs : List Binder) (i : ℕ) → length bs ≤ i → Binders_half ts i bs ≡ bs
binders_done ts [] zero h = refl
binders_done ts [] (suc i) h = refl
binders_done ts (y ∷ ys) zero h = absurd (omega arith)
binders_done ts (y ∷ ys) (suc i) h = rw (drop_others ts i) (ap (λ (r : List Binder). y ∷ r) (binders_done (others ts) ys i (omega arith)))

-- ---- clauses

abbrev pub before_clauses : List Case → T.Clauses → T.Clauses
before_clauses [] r = r
before_clauses (c ∷ cs) r = T.MoreClauses c.pattern c.body (before_clauses cs r)

abbrev pub Clauses_half : World → Scope → Option ℕ → List (Option ℕ) → ℕ → List Clause → T.Clauses
Clauses_half w s t ts i xs = before_clauses (map clause (take i xs)) (fill_clauses w s t ts (clauses (drop i xs)))

-- a clause and the clause that is filled from it
abbrev pub Filled_case : World → Scope → Option ℕ → List (Option ℕ) → Case → Case → Type 0
Filled_case w s t ts c d = (c.pattern ≡ fill_pattern w t d.pattern) × (c.body ≡ fill_block w (s ++ bound_by w t d.pattern) true ts d.body)

clauses_set : (w : World) (s : Scope) (t : Option ℕ) (ts : List (Option ℕ)) (xs : List Clause) (i : ℕ) (x d : Clause) → i < length xs → Filled_case w s t ts (clause x) (clause (get_or xs i d)) → Clauses_half w s t ts (suc i) (set xs i x) ≡ Clauses_half w s t ts i xs
clauses_set w s t ts [] i x d h e = absurd (omega arith)
clauses_set w s t ts (y ∷ ys) zero x d h e = let a = e.0 in let b = e.1 in rw (a, b) refl
clauses_set w s t ts (y ∷ ys) (suc i) x d h e = ap (λ r. T.MoreClauses (clause y).pattern (clause y).body r) (clauses_set w s t ts ys i x d (omega arith) e)

pub clauses_step : (w : World) (s : Scope) (t : Option ℕ) (ts : List (Option ℕ)) (xs : List Clause) (i : ℕ) (x d : Clause) → i < length xs → Filled_case w s t ts (clause x) (clause (get_or xs i d)) → Clauses_half w s t ts (i + 1) (set xs i x) ≡ Clauses_half w s t ts i xs
clauses_step w s t ts xs i x d h e = ap (λ k. Clauses_half w s t ts k (set xs i x)) (add-one i) ∙ clauses_set w s t ts xs i x d h e

abbrev pub case_faults : World → ℕ → Scope → Option ℕ → Bool → List (Option ℕ) → Case → List Violation
case_faults w k s t b ts c = pattern_faults w k t c.pattern ++ block_faults w k (s ++ bound_by w t c.pattern) b ts c.body

pub clauses_noted : (w : World) (k : ℕ) (s : Scope) (t : Option ℕ) (ts : List (Option ℕ)) (xs : List Clause) (i : ℕ) (x d : Clause) (l m : Option Violation) → i < length xs → m ≡ after l (case_faults w k s t true ts (clause (get_or xs i d))) →
    after m (clauses_faults w k s t ts (clauses (drop (i + 1) (set xs i x)))) ≡ after l (clauses_faults w k s t ts (clauses (drop i xs)))
clauses_noted w k s t ts xs i x d l m h g =
    let c = clause (get_or xs i d) in
    let rest = clauses_faults w k s t ts (clauses (drop (i + 1) (set xs i x))) in
    let body = block_faults w k (s ++ bound_by w t c.pattern) true ts c.body in
    ap (λ l. after l rest) g
    ∙ sym (after-append l (case_faults w k s t true ts c) rest)
    ∙ ap (after l) (append_assoc (pattern_faults w k t c.pattern) body rest)
    ∙ sym (ap (λ r. after l (clauses_faults w k s t ts (clauses r))) (item_first xs i x d h))

pub clauses_done : (w : World) (s : Scope) (t : Option ℕ) (ts : List (Option ℕ)) (xs : List Clause) (i : ℕ) → length xs ≤ i → Clauses_half w s t ts i xs ≡ clauses xs
clauses_done w s t ts [] zero h = refl
clauses_done w s t ts [] (suc i) h = refl
clauses_done w s t ts (y ∷ ys) zero h = absurd (omega arith)
clauses_done w s t ts (y ∷ ys) (suc i) h = ap (λ r. T.MoreClauses (clause y).pattern (clause y).body r) (clauses_done w s t ts ys i (omega arith))

-- ---- bindings

abbrev pub before_block : List BoundPart → T.Block → T.Block
before_block [] r = r
before_block (b ∷ bs) r = T.Let b.binders b.bound (before_block bs r)

-- the block with the first bindings filled, where `r` is the scope after them
abbrev pub Block_half : World → Scope → Bool → List (Option ℕ) → ℕ → List Binding → T.Expression → T.Block
Block_half w r b ts i xs e = before_block (map binding (take i xs)) (fill_block w r b ts (block_of (map binding (drop i xs)) e))

abbrev pub Filled_bound : World → Scope → BoundPart → BoundPart → Type 0
Filled_bound w s c d = (c.binders ≡ fill_binders (found_bound w s d) d.binders) × (c.bound ≡ fill_bound w s d)

block_set : (w : World) (r q : Scope) (b : Bool) (ts : List (Option ℕ)) (xs : List Binding) (e : T.Expression) (i : ℕ) (x d : Binding) → i < length xs → q ≡ r ++ entries_bound w r (binding (get_or xs i d)) → Filled_bound w r (binding x) (binding (get_or xs i d)) → Block_half w q b ts (suc i) (set xs i x) e ≡ Block_half w r b ts i xs e
block_set w r q b ts [] e i x d h g f = absurd (omega arith)
block_set w r q b ts (y ∷ ys) e zero x d h g f = let m = f.0 in let n = f.1 in rw (m, n, g) refl
block_set w r q b ts (y ∷ ys) e (suc i) x d h g f = ap (λ z. T.Let (binding y).binders (binding y).bound z) (block_set w r q b ts ys e i x d (omega arith) g f)

pub block_step : (w : World) (r q : Scope) (b : Bool) (ts : List (Option ℕ)) (xs : List Binding) (e : T.Expression) (i : ℕ) (x d : Binding) → i < length xs → q ≡ r ++ entries_bound w r (binding (get_or xs i d)) → Filled_bound w r (binding x) (binding (get_or xs i d)) → Block_half w q b ts (i + 1) (set xs i x) e ≡ Block_half w r b ts i xs e
block_step w r q b ts xs e i x d h g f = ap (λ k. Block_half w q b ts k (set xs i x) e) (add-one i) ∙ block_set w r q b ts xs e i x d h g f

-- what is left of a block
abbrev pub Left : ℕ → List Binding → T.Expression → T.Block
Left i xs e = block_of (map binding (drop i xs)) e

left_next : (xs : List Binding) (e : T.Expression) (i : ℕ) (x d : Binding) → i < length xs → Left i xs e ≡ T.Let (binding (get_or xs i d)).binders (binding (get_or xs i d)).bound (Left (i + 1) (set xs i x) e)
left_next xs e i x d h = ap (λ r. block_of (map binding r) e) (item_first xs i x d h)

pub block_found : (w : World) (r q : Scope) (b : Bool) (ts : List (Option ℕ)) (xs : List Binding) (e : T.Expression) (i : ℕ) (x d : Binding) → i < length xs → q ≡ r ++ entries_bound w r (binding (get_or xs i d)) → found_block w q b ts (Left (i + 1) (set xs i x) e) ≡ found_block w r b ts (Left i xs e)
block_found w r q b ts xs e i x d h g = ap (λ q. found_block w q b ts (Left (i + 1) (set xs i x) e)) g ∙ sym (ap (found_block w r b ts) (left_next xs e i x d h))

pub block_noted : (w : World) (k : ℕ) (r q : Scope) (b : Bool) (ts : List (Option ℕ)) (xs : List Binding) (e : T.Expression) (i : ℕ) (x d : Binding) (l m : Option Violation) → i < length xs → q ≡ r ++ entries_bound w r (binding (get_or xs i d)) → m ≡ after l (bound_faults w k r (binding (get_or xs i d))) →
    after m (block_faults w k q b ts (Left (i + 1) (set xs i x) e)) ≡ after l (block_faults w k r b ts (Left i xs e))
block_noted w k r q b ts xs e i x d l m h g f =
    let c = binding (get_or xs i d) in
    let rest = block_faults w k (r ++ entries_bound w r c) b ts (Left (i + 1) (set xs i x) e) in
    ap (λ q. after m (block_faults w k q b ts (Left (i + 1) (set xs i x) e))) g
    ∙ ap (λ l. after l rest) f
    ∙ sym (after-append l (bound_faults w k r c) rest)
    ∙ ap (after l) (append_assoc (faults w k r (all_annotated c.binders) (annotations c.binders) c.bound) (binders_faults k (all_annotated c.binders) c.binders (found_bound w r c)) rest)
    ∙ sym (ap (λ z. after l (block_faults w k r b ts z)) (left_next xs e i x d h))

pub left_none : (xs : List Binding) (e : T.Expression) (i : ℕ) → length xs ≤ i → Left i xs e ≡ T.Last e
left_none [] e zero h = refl
left_none [] e (suc i) h = refl
left_none (y ∷ ys) e zero h = absurd (omega arith)
left_none (y ∷ ys) e (suc i) h = left_none ys e i (omega arith)

-- all bindings and then the last expression
pub block_done : (w : World) (r : Scope) (b : Bool) (ts : List (Option ℕ)) (xs : List Binding) (e f : T.Expression) (i : ℕ) → length xs ≤ i → f ≡ fill w r b ts e → Block_half w r b ts i xs e ≡ block_of (map binding xs) f
block_done w r b ts [] e f zero h g = rw g refl
block_done w r b ts [] e f (suc i) h g = rw g refl
block_done w r b ts (y ∷ ys) e f zero h g = absurd (omega arith)
block_done w r b ts (y ∷ ys) e f (suc i) h g = ap (λ z. T.Let (binding y).binders (binding y).bound z) (block_done w r b ts ys e f i (omega arith) g)

-- ---- parameters

abbrev following : List Param → List Param
following [] = []
following (p ∷ ps) = ps

no_params : (i : ℕ) → drop i (following []) ≡ []
no_params zero = refl
no_params (suc i) = refl

drop_after : (ps : List Param) (i : ℕ) → drop (suc i) ps ≡ drop i (following ps)
drop_after [] i = sym (no_params i)
drop_after (p ∷ ps) i = refl

after_drop : (ps : List Param) (i : ℕ) → following (drop i ps) ≡ drop (i + 1) ps
after_drop [] i = rw (no_params i, no_params (i + 1)) refl
after_drop (p ∷ ps) zero = refl
after_drop (p ∷ ps) (suc i) = after_drop ps i ∙ ap (λ k. drop k ps) (add-one i) ∙ sym (ap (λ k. drop k (p ∷ ps)) (add-one (suc i)))

fill_next : (ps : List Param) (b : Binder) (bs : List Binder) → fill_parameters ps (b ∷ bs) ≡ fill_first ps b ∷ fill_parameters (following ps) bs
fill_next [] b bs = refl
fill_next (p ∷ ps) b bs = refl

fill_end : (ps : List Param) → fill_parameters ps [] ≡ []
fill_end [] = refl
fill_end (p ∷ ps) = refl

entries_next : (ps : List Param) (b : Binder) (bs : List Binder) → parameter_entries ps (b ∷ bs) ≡ entry_first ps b ++ parameter_entries (following ps) bs
entries_next [] b bs = refl
entries_next (p ∷ ps) b bs = refl

pub entries_end : (ps : List Param) → parameter_entries ps [] ≡ []
entries_end [] = refl
entries_end (p ∷ ps) = refl

abbrev pub Params_half : List Param → ℕ → List Binder → List Binder
Params_half ps i bs = take i bs ++ fill_parameters (drop i ps) (drop i bs)

params_set : (ps : List Param) (bs : List Binder) (i : ℕ) (x d : Binder) → i < length bs → x ≡ fill_first (drop i ps) (get_or bs i d) → Params_half ps (suc i) (set bs i x) ≡ Params_half ps i bs
params_set ps [] i x d h e = absurd (omega arith)
params_set ps (y ∷ ys) zero x d h e = rw (e, drop_after ps 0) (sym (fill_next ps y ys))
params_set ps (y ∷ ys) (suc i) x d h e =
    let f = drop_after ps i in
    let g = drop_after ps (suc i) in
    rw (f, g) (ap (λ (r : List Binder). y ∷ r) (params_set (following ps) ys i x d (omega arith) (e ∙ ap (λ q. fill_first q (get_or ys i d)) f)))

pub params_step : (ps : List Param) (bs : List Binder) (i j : ℕ) (x d : Binder) → i < length bs → j ≡ i → x ≡ fill_first (drop j ps) (get_or bs i d) → Params_half ps (i + 1) (set bs i x) ≡ Params_half ps i bs
params_step ps bs i j x d h q e = ap (λ k. Params_half ps k (set bs i x)) (add-one i) ∙ params_set ps bs i x d h (e ∙ ap (λ k. fill_first (drop k ps) (get_or bs i d)) q)

pub params_entered : (ps : List Param) (bs : List Binder) (i j : ℕ) (x d : Binder) (s r : Scope) → i < length bs → j ≡ i → r ≡ s ++ entry_first (drop j ps) (get_or bs i d) → r ++ parameter_entries (drop (i + 1) ps) (drop (i + 1) (set bs i x)) ≡ s ++ parameter_entries (drop i ps) (drop i bs)
params_entered ps bs i j x d s r h q g =
    let y = get_or bs i d in
    let rest = drop (i + 1) (set bs i x) in
    ap (λ s. s ++ parameter_entries (drop (i + 1) ps) rest) (g ∙ ap (λ k. s ++ entry_first (drop k ps) y) q)
    ∙ append_assoc s (entry_first (drop i ps) y) (parameter_entries (drop (i + 1) ps) rest)
    ∙ sym (ap (λ q. s ++ (entry_first (drop i ps) y ++ parameter_entries q rest)) (after_drop ps i))
    ∙ sym (ap (λ z. s ++ z) (entries_next (drop i ps) y rest))
    ∙ sym (ap (λ r. s ++ parameter_entries (drop i ps) r) (item_first bs i x d h))

none_left : (ps : List Param) (bs : List Binder) (i : ℕ) → length bs ≤ i → parameter_entries ps (drop i bs) ≡ []
none_left ps [] zero h = entries_end ps
none_left ps [] (suc i) h = entries_end ps
none_left ps (y ∷ ys) zero h = absurd (omega arith)
none_left ps (y ∷ ys) (suc i) h = none_left ps ys i (omega arith)

pub and_none : (s : Scope) → s ++ [] ≡ s
and_none [] = refl
and_none (e ∷ s) = ap (λ (r : Scope). e ∷ r) (and_none s)

pub params_end : (ps : List Param) (bs : List Binder) (i : ℕ) (s r : Scope) → length bs ≤ i → s ++ parameter_entries ps (drop i bs) ≡ r → s ≡ r
params_end ps bs i s r h e = sym (and_none s) ∙ sym (ap (λ z. s ++ z) (none_left ps bs i h)) ∙ e

pub params_done : (ps : List Param) (bs : List Binder) (i : ℕ) → length bs ≤ i → Params_half ps i bs ≡ bs
params_done ps [] zero h = fill_end ps
params_done ps [] (suc i) h = fill_end (drop (suc i) ps)
params_done ps (y ∷ ys) zero h = absurd (omega arith)
params_done ps (y ∷ ys) (suc i) h = rw (drop_after ps i) (ap (λ (r : List Binder). y ∷ r) (params_done (following ps) ys i (omega arith)))

-- ---- instances

abbrev pub Instances_half : World → ℕ → List Instance → List T.Instance
Instances_half w i xs = map instance_of (take i xs) ++ map (fill_instance w) (map instance_of (drop i xs))

instances_set : (w : World) (xs : List Instance) (i : ℕ) (x d : Instance) → i < length xs → instance_of x ≡ fill_instance w (instance_of (get_or xs i d)) → Instances_half w (suc i) (set xs i x) ≡ Instances_half w i xs
instances_set w [] i x d h e = absurd (omega arith)
instances_set w (y ∷ ys) zero x d h e = ap (λ z. z ∷ map (fill_instance w) (map instance_of ys)) e
instances_set w (y ∷ ys) (suc i) x d h e = ap (λ (r : List T.Instance). instance_of y ∷ r) (instances_set w ys i x d (omega arith) e)

pub instances_step : (w : World) (xs : List Instance) (i : ℕ) (x d : Instance) → i < length xs → instance_of x ≡ fill_instance w (instance_of (get_or xs i d)) → Instances_half w (i + 1) (set xs i x) ≡ Instances_half w i xs
instances_step w xs i x d h e = ap (λ k. Instances_half w k (set xs i x)) (add-one i) ∙ instances_set w xs i x d h e

pub instances_noted : (w : World) (xs : List Instance) (i j : ℕ) (x d : Instance) (l m : Option Violation) → i < length xs → j ≡ i → m ≡ after l (instance_faults w j (instance_of (get_or xs i d))) →
    after m (instances_faults w (i + 1) (map instance_of (drop (i + 1) (set xs i x)))) ≡ after l (instances_faults w i (map instance_of (drop i xs)))
instances_noted w xs i j x d l m h q g =
    let y = instance_of (get_or xs i d) in
    let rest = map instance_of (drop (i + 1) (set xs i x)) in
    ap (λ k. after m (instances_faults w k rest)) (add-one i)
    ∙ ap (λ l. after l (instances_faults w (suc i) rest)) (g ∙ ap (λ j. after l (instance_faults w j y)) q)
    ∙ sym (after-append l (instance_faults w i y) (instances_faults w (suc i) rest))
    ∙ sym (ap (λ r. after l (instances_faults w i (map instance_of r))) (item_first xs i x d h))

pub instances_done : (w : World) (xs : List Instance) (i : ℕ) → length xs ≤ i → Instances_half w i xs ≡ map instance_of xs
instances_done w [] zero h = refl
instances_done w [] (suc i) h = refl
instances_done w (y ∷ ys) zero h = absurd (omega arith)
instances_done w (y ∷ ys) (suc i) h = ap (λ (r : List T.Instance). instance_of y ∷ r) (instances_done w ys i (omega arith))
