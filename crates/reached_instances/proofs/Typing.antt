-- The types that are met on the way from the instances.
use Rattle.std.proofs.Common.{◌≡◌, ℕ, ◌<◌, List, [], ◌∷◌, ◌++◌, length, map, get_or, slice_get, Option, Some, None, refl, ap, sym, ◌∙◌}
use Rattle.fip_base.specs.fip_language.Core.{Written}
use Rattle.fip_base.specs.fip_language.Mentions.{all_of}
use Rattle.fip_base.specs.CoreView.{written}
use Rattle.closed_types.specs.declared.closed.Head.TheVariants as H
use Rattle.closed_types.specs.declared.closed.Head.{Head}
use Rattle.reached_instances.specs.declared.source.Source as D
use Rattle.reached_instances.specs.declared.source.Here.{Here}
use Rattle.reached_instances.specs.declared.source.FunctionSource.{FunctionSource}
use Rattle.closed_types.specs.Closed.{Closed, Closeds, Int, Applied, NoClosed, MoreClosed, arguments_of, head_of}
use Rattle.closed_types.specs.Instances.{functions_among, passed_to}
use Rattle.reached_instances.specs.KnownFits.{AreRoots}
use Rattle.closed_types.specs.PutView.{Put}
use Rattle.closed_types.specs.SharedTrees.{Grows, Kept, tree_at, trees, trees_at}
use Rattle.closed_types.specs.Source.{Source, Instance, declared_at}
use Rattle.reached_instances.specs.SourceView.{IsReady, function_source, instance, source}
use Rattle.closed_types.specs.TypeInstances.{annotations_in_block, fields_of, numbers_named, parts_of, unless_ints, types_among, types_given, types_in, types_of_instance, types_written, written_in_header}
use Rattle.reached_instances.proofs.Closing.{instance_kept}
use Rattle.reached_instances.proofs.Fitting.{right_kept}
use Rattle.closed_types.proofs.Declarations.{at_there}
use Rattle.closed_types.proofs.Growing.{within_more}
use Rattle.reached_instances.proofs.Mentioned.{annotations_there, header_there, named_there}
use Rattle.reached_instances.proofs.Putting.{put_as, put_more}

-- what is right of the roots stays
pub roots_kept : (s : D.Source) (is ps : List ℕ) (k l : Kept) → Grows k.branches l.branches → l.fits ≡ k.fits → AreRoots s is ps k → AreRoots s is ps l
roots_kept s is ps k l g f r = record {
  right = right_kept s k l g f r.right;
  instances = within_more k.branches l.branches is g r.instances;
  passed = within_more k.branches l.branches ps g r.passed;
}

-- the types in a header, those in annotations, and those that are named
pub puts_mentioned : (s : D.Source) (here : Here) (f : FunctionSource) (k l m n : Kept) (is js ks ls : List ℕ) (hs ws : List Written) (ns : List ℕ) → IsReady s k.branches here → here.function < length s.functions.items → f ≡ get_or s.functions.items here.function f → hs ≡ map (λ w. written w.now) f.header.items → ws ≡ map (λ w. written w.now) f.mentions.annotations.items → ns ≡ f.mentions.named.keys → Put k l is js (types_written (source s) (instance (trees k.branches) here) hs) → Put l m js ks (types_written (source s) (instance (trees l.branches) here) ws) → Put m n ks ls (map (λ x. Applied (H.«Type» x) NoClosed) ns) → Put k n is ls (types_in (source s) (instance (trees k.branches) here) (slice_get (source s).functions here.function))
puts_mentioned s here f k l m n is js ks ls hs ws ns r h e eh ew en p q t =
    let i = here.function in
    let g = function_source f in
    let at = instance (trees k.branches) here in
    let a = types_written (source s) at (written_in_header g) in
    let b = types_written (source s) at (annotations_in_block g.body) in
    let c = map (λ (x : ℕ). Applied (H.«Type» x) NoClosed) (numbers_named (source s) g.body) in
    put_as k n is ls (a ++ (b ++ c)) _ (sym (ap (types_in (source s) at) (at_there function_source s.functions.items i f h e)))
    (put_more k l n is js ls a (b ++ c)
    (put_as k l is js _ a (ap (types_written (source s) at) (eh ∙ header_there s i f r.looked_up h e)) p)
    (put_more l m n js ks ls b c
    (put_as l m js ks _ b (ap (λ (x : Instance). types_written (source s) x ws) (instance_kept here k.branches l.branches p.grows r.within) ∙ ap (types_written (source s) at) (ew ∙ annotations_there s i f r.looked_up h e)) q)
    (put_as m n ks ls _ c (ap (map (λ (x : ℕ). Applied (H.«Type» x) NoClosed)) (en ∙ named_there s i f r.looked_up h e)) t)))

-- no function stands there
pub no_instance : (s : Source) (c : Closed) → ((f : ℕ) (cs : Closeds) → c ≡ Applied (H.Function f) cs → ⊥) → types_of_instance s c ≡ []
no_instance s Int h = refl
no_instance s (Applied (H.«Type» n) cs) h = refl
no_instance s (Applied (H.Function f) cs) h = absurd (h f cs refl)

-- ---- types and functions among static arguments

pub types_first : (c : Closed) (cs : Closeds) → types_among (MoreClosed c NoClosed) ++ types_among cs ≡ types_among (MoreClosed c cs)
types_first Int cs = refl
types_first (Applied (H.«Type» n) ds) cs = refl
types_first (Applied (H.Function f) ds) cs = refl

pub types_each : (ts : List Closed) (is : List ℕ) → all_of (λ i. types_among (MoreClosed (tree_at ts i) NoClosed)) is ≡ types_among (trees_at ts is)
types_each ts [] = refl
types_each ts (i ∷ is) = ap (λ l. types_among (MoreClosed (tree_at ts i) NoClosed) ++ l) (types_each ts is) ∙ types_first (tree_at ts i) (trees_at ts is)

pub functions_first : (c : Closed) (cs : Closeds) → functions_among (MoreClosed c NoClosed) ++ functions_among cs ≡ functions_among (MoreClosed c cs)
functions_first Int cs = refl
functions_first (Applied (H.«Type» n) ds) cs = refl
functions_first (Applied (H.Function f) ds) cs = refl

pub functions_each : (ts : List Closed) (is : List ℕ) → all_of (λ i. functions_among (MoreClosed (tree_at ts i) NoClosed)) is ≡ functions_among (trees_at ts is)
functions_each ts [] = refl
functions_each ts (i ∷ is) = ap (λ l. functions_among (MoreClosed (tree_at ts i) NoClosed) ++ l) (functions_each ts is) ∙ functions_first (tree_at ts i) (trees_at ts is)

pub given_types : (c : Closed) → types_among (arguments_of c) ≡ types_given c
given_types Int = refl
given_types (Applied h cs) = refl

pub given_functions : (c : Closed) → functions_among (arguments_of c) ≡ passed_to c
given_functions Int = refl
given_functions (Applied h cs) = refl

-- by the head of a tree
pub type_of_head : (c : Closed) (n : ℕ) → head_of c ≡ Some (H.«Type» n) → types_among (MoreClosed c NoClosed) ≡ c ∷ []
type_of_head Int n e = cc
type_of_head (Applied (H.«Type» m) cs) n e = refl
type_of_head (Applied (H.Function f) cs) n e = cc

pub type_of_function : (c : Closed) (f : ℕ) → head_of c ≡ Some (H.Function f) → types_among (MoreClosed c NoClosed) ≡ []
type_of_function Int f e = refl
type_of_function (Applied (H.«Type» m) cs) f e = cc
type_of_function (Applied (H.Function g) cs) f e = refl

pub type_of_int : (c : Closed) → head_of c ≡ None → types_among (MoreClosed c NoClosed) ≡ []
type_of_int Int e = refl
type_of_int (Applied h cs) e = cc

pub function_of_head : (c : Closed) (f : ℕ) → head_of c ≡ Some (H.Function f) → functions_among (MoreClosed c NoClosed) ≡ c ∷ []
function_of_head Int f e = cc
function_of_head (Applied (H.«Type» m) cs) f e = cc
function_of_head (Applied (H.Function g) cs) f e = refl

pub function_of_type : (c : Closed) (n : ℕ) → head_of c ≡ Some (H.«Type» n) → functions_among (MoreClosed c NoClosed) ≡ []
function_of_type Int n e = refl
function_of_type (Applied (H.«Type» m) cs) n e = refl
function_of_type (Applied (H.Function g) cs) n e = cc

pub function_of_int : (c : Closed) → head_of c ≡ None → functions_among (MoreClosed c NoClosed) ≡ []
function_of_int Int e = refl
function_of_int (Applied h cs) e = cc

-- ---- a type's parts, by its head

number_of : Option Head → ℕ
number_of None = 0
number_of (Some (H.«Type» n)) = n
number_of (Some (H.Function f)) = f

same_number : (m n : ℕ) → Some (H.«Type» m) ≡ Some (H.«Type» n) → m ≡ n
unfolding number_of
same_number m n e = ap number_of e

pub parts_of_type : (s : Source) (c : Closed) (n : ℕ) → head_of c ≡ Some (H.«Type» n) → unless_ints (arguments_of c) ++ fields_of (arguments_of c) (declared_at s n) ≡ parts_of s c
parts_of_type s Int n e = cc
parts_of_type s (Applied (H.«Type» m) cs) n e = ap (λ k. unless_ints cs ++ fields_of cs (declared_at s k)) (sym (same_number m n e))
parts_of_type s (Applied (H.Function f) cs) n e = cc

pub parts_of_function : (s : Source) (c : Closed) (f : ℕ) → head_of c ≡ Some (H.Function f) → unless_ints (arguments_of c) ≡ parts_of s c
parts_of_function s Int f e = cc
parts_of_function s (Applied (H.«Type» m) cs) f e = cc
parts_of_function s (Applied (H.Function g) cs) f e = refl

pub parts_of_int : (s : Source) (c : Closed) → head_of c ≡ None → unless_ints (arguments_of c) ≡ parts_of s c
parts_of_int s Int e = refl
parts_of_int s (Applied h cs) e = cc
