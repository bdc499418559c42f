-- Static arguments, one after another.
use Rattle.std.proofs.Common.{◌≡◌, ℕ, zero, suc, ◌+◌, ◌<◌, ◌≤◌, Bool, true, false, not, ◌&&◌, List, [], ◌∷◌, ◌++◌, length, map, drop, get_or, slice_get, Option, Some, None, option_map, refl, ap, sym, subst, ◌∙◌, arith, append_assoc, append-nil, drop_of_length-le}
use Rattle.fip_base.specs.fip_language.Core.{Written, Writtens, NoWritten, MoreWritten, Static, TypeParameter, FunctionParameter}
use Rattle.fip_base.proofs.fip_language.Plain.{every_append}
use Rattle.fip_base.specs.CoreView as V
use Rattle.fip_base.specs.declared.core_form.Written as W
use Rattle.fip_trees.specs.Least.{after}
use Rattle.fip_trees.specs.declared.least.Violation.{Violation}
use Rattle.fip_trees.proofs.Leasts.{after-append}
use Rattle.closed_types.specs.Closed.{Closed}
use Rattle.closed_types.specs.Source.{Source, Instance}
use Rattle.closed_types.specs.SharedTrees.{Branch, Grows, NoneOrWithin, tree_at, trees}
use Rattle.closed_types.specs.Uses.{all_fit, arguments_faults, closed_arguments, misfits, static_fits}
use Rattle.closed_types.specs.UsesView.{AreAllWithin, IsPlaceOf, all_trees, argument_of, argument_or_none, faults_of_argument, misfit_at}
use Rattle.closed_types.proofs.Using.{arguments_kept, arguments_within}
use Rattle.closed_types.proofs.Lists.{drop_item}
use Rattle.fip_base.proofs.fip_language.Facts.{and_assoc, and_true}

-- ---- one after another

pub drop_get : {A : Type 0} (xs : List A) (k : ℕ) → slice_get (drop k xs) 0 ≡ slice_get xs k
drop_get [] zero = refl
drop_get [] (suc k) = refl
drop_get (x ∷ xs) zero = refl
drop_get (x ∷ xs) (suc k) = drop_get xs k

pub drop_more : {A : Type 0} (xs : List A) (k : ℕ) → drop 1 (drop k xs) ≡ drop (k + 1) xs
drop_more xs k = by xs k ∙ ap (λ n. drop n xs) (let e : suc k ≡ k + 1 = omega arith in e)
  where
    by : {A : Type 0} (xs : List A) (k : ℕ) → drop 1 (drop k xs) ≡ drop (suc k) xs
    by [] zero = refl
    by [] (suc k) = refl
    by (x ∷ xs) zero = refl
    by (x ∷ xs) (suc k) = by xs k

no_more_faults : (s : Source) (i : ℕ) (h : Instance) (ws : Writtens) → arguments_faults s i h [] ws ≡ []
no_more_faults s i h NoWritten = refl
no_more_faults s i h (MoreWritten w ws) = refl

first_argument : (s : Source) (h : Instance) (xs : List Static) (w : Written) (ws : Writtens) → closed_arguments s h xs (MoreWritten w ws) ≡ argument_of s h (slice_get xs 0) w ∷ closed_arguments s h (drop 1 xs) ws
first_argument s h [] w ws = refl
first_argument s h (TypeParameter n p ∷ xs) w ws = refl
first_argument s h (FunctionParameter n p ps r ∷ xs) w ws = refl

first_faults : (s : Source) (i : ℕ) (h : Instance) (xs : List Static) (w : Written) (ws : Writtens) → arguments_faults s i h xs (MoreWritten w ws) ≡ faults_of_argument s i h (slice_get xs 0) w ++ arguments_faults s i h (drop 1 xs) ws
first_faults s i h [] w ws = sym (no_more_faults s i h ws)
first_faults s i h (TypeParameter n p ∷ xs) w ws = refl
first_faults s i h (FunctionParameter n p ps r ∷ xs) w ws = refl

next_argument : (s : Source) (h : Instance) (xs : List Static) (k : ℕ) (w : Written) (ws : Writtens) → closed_arguments s h (drop k xs) (MoreWritten w ws) ≡ argument_of s h (slice_get xs k) w ∷ closed_arguments s h (drop (k + 1) xs) ws
next_argument s h xs k w ws =
    first_argument s h (drop k xs) w ws
    ∙ ap (λ (x : Option Static). argument_of s h x w ∷ closed_arguments s h (drop 1 (drop k xs)) ws) (drop_get xs k)
    ∙ ap (λ (ys : List Static). argument_of s h (slice_get xs k) w ∷ closed_arguments s h ys ws) (drop_more xs k)

next_faults : (s : Source) (i : ℕ) (h : Instance) (xs : List Static) (k : ℕ) (w : Written) (ws : Writtens) → arguments_faults s i h (drop k xs) (MoreWritten w ws) ≡ faults_of_argument s i h (slice_get xs k) w ++ arguments_faults s i h (drop (k + 1) xs) ws
next_faults s i h xs k w ws =
    first_faults s i h (drop k xs) w ws
    ∙ ap (λ (x : Option Static). faults_of_argument s i h x w ++ arguments_faults s i h (drop 1 (drop k xs)) ws) (drop_get xs k)
    ∙ ap (λ (ys : List Static). faults_of_argument s i h (slice_get xs k) w ++ arguments_faults s i h ys ws) (drop_more xs k)

-- ---- the arguments of a use, closed up to place k

pub record IsArguing (s : Source) (h : Instance) (xs : List Static) (list : List W.Written) (bs : List Branch) (as' : List (Option ℕ)) (k : ℕ) : Type 0 where
  pub within : AreAllWithin bs as'
  pub row : all_trees (trees bs) as' ++ closed_arguments s h (drop k xs) (V.writtens (drop k list)) ≡ closed_arguments s h xs (V.writtens list)

pub arguing_starts : (s : Source) (h : Instance) (xs : List Static) (list : List W.Written) (bs : List Branch) → IsArguing s h xs list bs [] 0
arguing_starts s h xs list bs = record { within = tt; row = refl }

all_append : (ts : List Closed) (as' bs : List (Option ℕ)) → all_trees ts (as' ++ bs) ≡ all_trees ts as' ++ all_trees ts bs
all_append ts [] bs = refl
all_append ts (a ∷ as') bs = ap (λ l. option_map (tree_at ts) a ∷ l) (all_append ts as' bs)

pub arguing_goes : (s : Source) (h : Instance) (xs : List Static) (list : List W.Written) (bs cs : List Branch) (as' bs' : List (Option ℕ)) (k : ℕ) (w : W.Written) (o : Option ℕ) → k < length list → w ≡ get_or list k w → Grows bs cs → IsPlaceOf cs o (argument_of s h (slice_get xs k) (V.written w)) → bs' ≡ as' ++ o ∷ [] → IsArguing s h xs list bs as' k → IsArguing s h xs list cs bs' (k + 1)
arguing_goes s h xs list bs cs as' bs' k w o l e g p f a =
    let rest = closed_arguments s h (drop (k + 1) xs) (V.writtens (drop (k + 1) list)) in
    record {
      within = subst (AreAllWithin cs) (sym f) (every_append (NoneOrWithin cs) as' (o ∷ []) (arguments_within bs cs as' g a.within) (p.within, tt));
      row =
          ap (λ ys. all_trees (trees cs) ys ++ rest) f
          ∙ ap (λ ys. ys ++ rest) (all_append (trees cs) as' (o ∷ []))
          ∙ append_assoc (all_trees (trees cs) as') (option_map (tree_at (trees cs)) o ∷ []) rest
          ∙ ap (λ c. all_trees (trees cs) as' ++ c ∷ rest) p.tree
          ∙ ap (λ ys. ys ++ argument_of s h (slice_get xs k) (V.written w) ∷ rest) (arguments_kept bs cs as' g a.within)
          ∙ ap (λ ys. all_trees (trees bs) as' ++ ys) (sym (next_argument s h xs k (V.written w) (V.writtens (drop (k + 1) list))) ∙ ap (λ (ws : List W.Written). closed_arguments s h (drop k xs) (V.writtens ws)) (sym (drop_item list k w l e)))
          ∙ a.row;
    }

pub arguing_ends : (s : Source) (h : Instance) (xs : List Static) (list : List W.Written) (bs : List Branch) (as' : List (Option ℕ)) (k : ℕ) → length list ≤ k → IsArguing s h xs list bs as' k → all_trees (trees bs) as' ≡ closed_arguments s h xs (V.writtens list)
arguing_ends s h xs list bs as' k l a =
    sym (append-nil (all_trees (trees bs) as'))
    ∙ ap (λ (ws : List W.Written). all_trees (trees bs) as' ++ closed_arguments s h (drop k xs) (V.writtens ws)) (sym (drop_of_length-le list l))
    ∙ a.row

-- what they break
pub arguing_noted : (s : Source) (i : ℕ) (h : Instance) (xs : List Static) (list : List W.Written) (k : ℕ) (w : W.Written) (l m n : Option Violation) → k < length list → w ≡ get_or list k w → n ≡ after m (faults_of_argument s i h (slice_get xs k) (V.written w)) → after m (arguments_faults s i h (drop k xs) (V.writtens (drop k list))) ≡ after l (arguments_faults s i h xs (V.writtens list)) → after n (arguments_faults s i h (drop (k + 1) xs) (V.writtens (drop (k + 1) list))) ≡ after l (arguments_faults s i h xs (V.writtens list))
arguing_noted s i h xs list k w l m n less e noted before =
    let rest = arguments_faults s i h (drop (k + 1) xs) (V.writtens (drop (k + 1) list)) in
    ap (λ o. after o rest) noted
    ∙ sym (after-append m (faults_of_argument s i h (slice_get xs k) (V.written w)) rest)
    ∙ ap (after m) (sym (next_faults s i h xs k (V.written w) (V.writtens (drop (k + 1) list))) ∙ ap (λ (ws : List W.Written). arguments_faults s i h (drop k xs) (V.writtens ws)) (sym (drop_item list k w less e)))
    ∙ before

pub arguing_noted_all : (s : Source) (i : ℕ) (h : Instance) (xs : List Static) (list : List W.Written) (k : ℕ) (l m : Option Violation) → length list ≤ k → after m (arguments_faults s i h (drop k xs) (V.writtens (drop k list))) ≡ after l (arguments_faults s i h xs (V.writtens list)) → m ≡ after l (arguments_faults s i h xs (V.writtens list))
arguing_noted_all s i h xs list k l m less e =
    ap (λ (ws : List W.Written). after m (arguments_faults s i h (drop k xs) (V.writtens ws))) (sym (drop_of_length-le list less)) ∙ e

-- ---- whether they fit, up to place k

no_argument_fits : (s : Source) (there : Instance) (x : Static) → static_fits s there x None ≡ true
no_argument_fits s there (TypeParameter n p) = refl
no_argument_fits s there (FunctionParameter n p ps r) = refl

no_arguments_fit : (s : Source) (there : Instance) (xs : List Static) → all_fit s there xs [] ≡ true
no_arguments_fit s there [] = refl
no_arguments_fit s there (x ∷ xs) = refl

abbrev pub first_or_none : List (Option Closed) → Option Closed
first_or_none [] = None
first_or_none (o ∷ os) = o

first_fit : (s : Source) (there : Instance) (x : Static) (xs : List Static) (os : List (Option Closed)) → all_fit s there (x ∷ xs) os ≡ (static_fits s there x (first_or_none os) && all_fit s there xs (drop 1 os))
first_fit s there x xs [] = sym (ap (λ b. b && all_fit s there xs []) (no_argument_fits s there x) ∙ no_arguments_fit s there xs)
first_fit s there x xs (o ∷ os) = refl

pub given_there : (ts : List Closed) (as' : List (Option ℕ)) (k : ℕ) → first_or_none (drop k (all_trees ts as')) ≡ option_map (tree_at ts) (argument_or_none (slice_get as' k))
given_there ts [] zero = refl
given_there ts [] (suc k) = refl
given_there ts (a ∷ as') zero = refl
given_there ts (a ∷ as') (suc k) = given_there ts as' k

pub fit_step : (s : Source) (there : Instance) (xs : List Static) (os : List (Option Closed)) (k : ℕ) (x : Static) (c : Option Closed) (all fit next whole : Bool) → drop k xs ≡ x ∷ drop (k + 1) xs → first_or_none (drop k os) ≡ c → fit ≡ static_fits s there x c → next ≡ (all && fit) → (all && all_fit s there (drop k xs) (drop k os)) ≡ whole → (next && all_fit s there (drop (k + 1) xs) (drop (k + 1) os)) ≡ whole
fit_step s there xs os k x c all fit next whole d f g n before =
    let rest = all_fit s there (drop (k + 1) xs) (drop (k + 1) os) in
    ap (λ b. b && rest) (n ∙ ap (λ b. all && b) (g ∙ ap (static_fits s there x) (sym f)))
    ∙ and_assoc all (static_fits s there x (first_or_none (drop k os))) rest
    ∙ ap (λ (ys : List (Option Closed)). all && (static_fits s there x (first_or_none (drop k os)) && all_fit s there (drop (k + 1) xs) ys)) (sym (drop_more os k))
    ∙ ap (λ b. all && b) (sym (first_fit s there x (drop (k + 1) xs) (drop k os)))
    ∙ ap (λ (ys : List Static). all && all_fit s there ys (drop k os)) (sym d)
    ∙ before

pub fit_ends : (s : Source) (there : Instance) (xs : List Static) (os : List (Option Closed)) (k : ℕ) (all whole : Bool) → length xs ≤ k → (all && all_fit s there (drop k xs) (drop k os)) ≡ whole → all ≡ whole
fit_ends s there xs os k all whole l e = sym (and_true all) ∙ ap (λ (ys : List Static). all && all_fit s there ys (drop k os)) (sym (drop_of_length-le xs l)) ∙ e

-- the misfits
abbrev pub first_written : Writtens → Option Written
first_written NoWritten = None
first_written (MoreWritten w ws) = Some w

abbrev pub later : Writtens → Writtens
later NoWritten = NoWritten
later (MoreWritten w ws) = ws

no_misfits_left : (s : Source) (i : ℕ) (there : Instance) (xs : List Static) (ws : Writtens) → misfits s i there xs ws [] ≡ []
no_misfits_left s i there [] ws = refl
no_misfits_left s i there (x ∷ xs) NoWritten = refl
no_misfits_left s i there (x ∷ xs) (MoreWritten w ws) = refl

no_misfits_written : (s : Source) (i : ℕ) (there : Instance) (xs : List Static) (os : List (Option Closed)) → misfits s i there xs NoWritten os ≡ []
no_misfits_written s i there [] os = refl
no_misfits_written s i there (x ∷ xs) os = refl

fits_no_misfit : (i : ℕ) (b : Bool) (w : Written) → b ≡ true → misfit_at i (not b) (Some w) ≡ []
fits_no_misfit i true w e = refl
fits_no_misfit i false w e = cc

first_misfit : (s : Source) (i : ℕ) (there : Instance) (x : Static) (xs : List Static) (ws : Writtens) (os : List (Option Closed)) → misfits s i there (x ∷ xs) ws os ≡ misfit_at i (not (static_fits s there x (first_or_none os))) (first_written ws) ++ misfits s i there xs (later ws) (drop 1 os)
first_misfit s i there x xs NoWritten os = sym (no_misfits_written s i there xs (drop 1 os))
first_misfit s i there x xs (MoreWritten w ws) [] =
    sym (ap (λ l. l ++ misfits s i there xs ws []) (fits_no_misfit i (static_fits s there x None) w (no_argument_fits s there x)) ∙ no_misfits_left s i there xs ws)
first_misfit s i there x xs (MoreWritten w ws) (o ∷ os) = refl

written_there : (list : List W.Written) (k : ℕ) → first_written (V.writtens (drop k list)) ≡ slice_get (map V.written list) k
written_there [] zero = refl
written_there [] (suc k) = refl
written_there (w ∷ list) zero = refl
written_there (w ∷ list) (suc k) = written_there list k

later_there : (list : List W.Written) (k : ℕ) → later (V.writtens (drop k list)) ≡ V.writtens (drop (k + 1) list)
later_there list k = by (drop k list) ∙ ap V.writtens (drop_more list k)
  where
    by : (ys : List W.Written) → later (V.writtens ys) ≡ V.writtens (drop 1 ys)
    by [] = refl
    by (y ∷ ys) = refl

pub misfit_step : (s : Source) (i : ℕ) (there : Instance) (xs : List Static) (list : List W.Written) (os : List (Option Closed)) (k : ℕ) (x : Static) (c : Option Closed) (fit : Bool) (l m n : Option Violation) → drop k xs ≡ x ∷ drop (k + 1) xs → first_or_none (drop k os) ≡ c → fit ≡ static_fits s there x c → n ≡ after m (misfit_at i (not fit) (slice_get (map V.written list) k)) → after m (misfits s i there (drop k xs) (V.writtens (drop k list)) (drop k os)) ≡ after l (misfits s i there xs (V.writtens list) os) → after n (misfits s i there (drop (k + 1) xs) (V.writtens (drop (k + 1) list)) (drop (k + 1) os)) ≡ after l (misfits s i there xs (V.writtens list) os)
misfit_step s i there xs list os k x c fit l m n d f g noted before =
    let rest = misfits s i there (drop (k + 1) xs) (V.writtens (drop (k + 1) list)) (drop (k + 1) os) in
    ap (λ o. after o rest) (noted ∙ ap (λ b. after m (misfit_at i (not b) (slice_get (map V.written list) k))) (g ∙ ap (static_fits s there x) (sym f)) ∙ ap (λ (w : Option Written). after m (misfit_at i (not (static_fits s there x (first_or_none (drop k os)))) w)) (sym (written_there list k)))
    ∙ sym (after-append m (misfit_at i (not (static_fits s there x (first_or_none (drop k os)))) (first_written (V.writtens (drop k list)))) rest)
    ∙ ap (λ (ws : Writtens). after m (misfit_at i (not (static_fits s there x (first_or_none (drop k os)))) (first_written (V.writtens (drop k list))) ++ misfits s i there (drop (k + 1) xs) ws (drop (k + 1) os))) (sym (later_there list k))
    ∙ ap (λ (ys : List (Option Closed)). after m (misfit_at i (not (static_fits s there x (first_or_none (drop k os)))) (first_written (V.writtens (drop k list))) ++ misfits s i there (drop (k + 1) xs) (later (V.writtens (drop k list))) ys)) (sym (drop_more os k))
    ∙ ap (after m) (sym (first_misfit s i there x (drop (k + 1) xs) (V.writtens (drop k list)) (drop k os)))
    ∙ ap (λ (ys : List Static). after m (misfits s i there ys (V.writtens (drop k list)) (drop k os))) (sym d)
    ∙ before

pub misfit_ends : (s : Source) (i : ℕ) (there : Instance) (xs : List Static) (list : List W.Written) (os : List (Option Closed)) (k : ℕ) (l m : Option Violation) → length xs ≤ k → after m (misfits s i there (drop k xs) (V.writtens (drop k list)) (drop k os)) ≡ after l (misfits s i there xs (V.writtens list) os) → m ≡ after l (misfits s i there xs (V.writtens list) os)
misfit_ends s i there xs list os k l m less e = ap (λ (ys : List Static). after m (misfits s i there ys (V.writtens (drop k list)) (drop k os))) (sym (drop_of_length-le xs less)) ∙ e
