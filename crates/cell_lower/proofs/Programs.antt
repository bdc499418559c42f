-- The functions of a program's instances, one after another.
use Rattle.std.proofs.Common.{◌≡◌, refl, sym, ap, ◌∙◌, subst, arith, ℕ, zero, suc, ◌+◌, ◌≤◌, Bool, true, false, List, [], ◌∷◌, ◌++◌, length, length-append, map, drop, Option, Some, None, slice_get}
use Rattle.fip_language.specs.declared.FunKind.{FunKind}
use Rattle.fip_language.specs.declared.FunKind.TheVariants.{Fip, Fbip, Fun}
use Rattle.fip_language.specs.Every.{Every}
use Rattle.fip_trees.specs.declared.program.Instance.{Instance as Tree}
use Rattle.fip_trees.specs.Tree.{Instance, Program}
use Rattle.fip_trees.specs.TreeView.{instance_of, instances}
use Rattle.cell_code.specs.declared.code.Function.{Function}
use Rattle.cell_code.specs.declared.code.Instr.{Instr}
use Rattle.cell_code.specs.Plain.{plain_function, instrs_of}
use Rattle.lower_parts.specs.lowering_relation.Known.{Known, joined}
use Rattle.lower_parts.specs.lowering_relation.Values.{Setting}
use Rattle.lower_parts.specs.lowering_relation.LoweredBodies.{Return, has_function, one_more, if_function, function_of}
use Rattle.lower_parts.specs.lowering_relation.LoweredFunctions.{IsSettingOf, AreLowered, known_at_start}
use Rattle.lower_parts.specs.lowering_relation.Written.{Written, settled, place_of}
use Rattle.lower_parts.specs.lowering_relation.WellMatched.{WellMatchedBlock, IsWellMatched}
use Rattle.lower_parts.proofs.lowering_relation.Placing.{has_all}
use Rattle.fip_trees.specs.declared.groups.Member.{Member}
use Rattle.cell_lower.specs.Limits.{is_ruled, registers}
use Rattle.cell_lower.specs.Shape.{Header, header_of, headers_from}
use Rattle.cell_lower.proofs.Headers.{and_if-append}
use Rattle.cell_lower.specs.Lowered.{function_instrs, IsCodeOf, HaveCodes, AddsCode}
use Rattle.lower_parts.specs.Writing.{WritesBlock}
use Rattle.fip_language.proofs.Facts.{append_nil as append_none, same_some}
pub use Rattle.fip_language.proofs.Plain.{every_at as at_place}

pub ruled_is : (k : FunKind) → is_ruled k ≡ has_function k
ruled_is Fip = refl
ruled_is Fbip = refl
ruled_is Fun = refl

-- the numbers of functions

abbrev pub numbers_if : Bool → ℕ → List (Option ℕ) → (ℕ → List (Option ℕ)) → List (Option ℕ)
numbers_if true n none more = Some n ∷ more (suc n)
numbers_if false n none more = None ∷ none

abbrev pub numbers_from : ℕ → List Instance → List (Option ℕ)
numbers_from n [] = []
numbers_from n (d ∷ ds) = numbers_if (has_function d.kind) n (numbers_from n ds) (λ m. numbers_from m ds)

abbrev pub from : ℕ → Option ℕ → Option ℕ
from n None = None
from n (Some f) = Some (n + f)

first_number : (b : Bool) (n : ℕ) (none : List (Option ℕ)) (more : ℕ → List (Option ℕ)) → joined (slice_get (numbers_if b n none more) zero) ≡ from n (if_function b)
first_number true n none more = ap Some (omega arith)
first_number false n none more = refl

more_from : (n : ℕ) (o : Option ℕ) → from (suc n) o ≡ from n (one_more true o)
more_from n None = refl
more_from n (Some f) = ap Some (omega arith)

same_from : (n : ℕ) (o : Option ℕ) → from n o ≡ from n (one_more false o)
same_from n None = refl
same_from n (Some f) = refl

later_number : (b : Bool) (n g : ℕ) (none : List (Option ℕ)) (more : ℕ → List (Option ℕ)) (o : Option ℕ) → joined (slice_get none g) ≡ from n o → joined (slice_get (more (suc n)) g) ≡ from (suc n) o → joined (slice_get (numbers_if b n none more) (suc g)) ≡ from n (one_more b o)
later_number true n g none more o e f = f ∙ more_from n o
later_number false n g none more o e f = e ∙ same_from n o

pub numbered : (ds : List Instance) (n g : ℕ) → joined (slice_get (numbers_from n ds) g) ≡ from n (function_of ds g)
numbered [] n g = refl
numbered (d ∷ ds) n zero = first_number (has_function d.kind) n (numbers_from n ds) (λ m. numbers_from m ds)
numbered (d ∷ ds) n (suc g) = later_number (has_function d.kind) n g (numbers_from n ds) (λ m. numbers_from m ds) (function_of ds g) (numbered ds n g) (numbered ds (suc n) g)

from_zero : (o : Option ℕ) → from 0 o ≡ o
from_zero None = refl
from_zero (Some f) = ap Some (omega arith)

pub numbered_all : (ds : List Instance) (ns : List (Option ℕ)) → ns ≡ numbers_from 0 ds → (g : ℕ) → joined (slice_get ns g) ≡ function_of ds g
numbered_all ds ns e g = ap (λ x. joined (slice_get x g)) e ∙ numbered ds 0 g ∙ from_zero (function_of ds g)

pub instances_at : (ts : List Tree) (i : ℕ) (t : Tree) → slice_get ts i ≡ Some t → instances (drop i ts) ≡ instance_of t ∷ instances (drop (suc i) ts)
instances_at [] i t e = absurd (cc)
instances_at (u ∷ ts) zero t e = ap (λ x. instance_of x ∷ instances ts) (same_some u t e)
instances_at (u ∷ ts) (suc i) t e = instances_at ts i t e

pub instances_past : (ts : List Tree) (i : ℕ) → length ts ≤ i → instances (drop i ts) ≡ []
instances_past [] zero h = refl
instances_past [] (suc i) h = refl
instances_past (t ∷ ts) zero h = absurd (omega (arith, h))
instances_past (t ∷ ts) (suc i) h = instances_past ts i (omega (arith, h))

append_one : {A : Type 0} (xs : List A) (x : A) (ys : List A) → xs ++ (x ∷ ys) ≡ (xs ++ x ∷ []) ++ ys
append_one [] x ys = refl
append_one (z ∷ xs) x ys = ap (λ u. z ∷ u) (append_one xs x ys)

numbers_true : (b : Bool) (n : ℕ) (none : List (Option ℕ)) (more : ℕ → List (Option ℕ)) → b ≡ true → numbers_if b n none more ≡ Some n ∷ more (suc n)
numbers_true true n none more e = refl
numbers_true false n none more e = absurd (cc)

numbers_false : (b : Bool) (n : ℕ) (none : List (Option ℕ)) (more : ℕ → List (Option ℕ)) → b ≡ false → numbers_if b n none more ≡ None ∷ none
numbers_false true n none more e = absurd (cc)
numbers_false false n none more e = refl

pub numbers_ruled : (xs ys : List (Option ℕ)) (ts : List Tree) (i j n m : ℕ) (t : Tree) (all : List (Option ℕ)) → ys ≡ xs ++ Some n ∷ [] → m ≡ suc n → j ≡ suc i → slice_get ts i ≡ Some t → is_ruled t.kind ≡ true → xs ++ numbers_from n (instances (drop i ts)) ≡ all → ys ++ numbers_from m (instances (drop j ts)) ≡ all
numbers_ruled xs ys ts i j n m t all e f g h k l =
    ap (λ x. x ++ numbers_from m (instances (drop j ts))) e ∙ ap (λ x. (xs ++ Some n ∷ []) ++ numbers_from x (instances (drop j ts))) f ∙ ap (λ x. (xs ++ Some n ∷ []) ++ numbers_from (suc n) (instances (drop x ts))) g
    ∙ sym (append_one xs (Some n) rest) ∙ sym (ap (λ x. xs ++ x) (ap (numbers_from n) (instances_at ts i t h) ∙ numbers_true (has_function t.kind) n (numbers_from n (instances (drop (suc i) ts))) (λ z. numbers_from z (instances (drop (suc i) ts))) (sym (ruled_is t.kind) ∙ k))) ∙ l
  where
    rest : List (Option ℕ)
    rest = numbers_from (suc n) (instances (drop (suc i) ts))

pub numbers_plain : (xs ys : List (Option ℕ)) (ts : List Tree) (i j n : ℕ) (t : Tree) (all : List (Option ℕ)) → ys ≡ xs ++ None ∷ [] → j ≡ suc i → slice_get ts i ≡ Some t → is_ruled t.kind ≡ false → xs ++ numbers_from n (instances (drop i ts)) ≡ all → ys ++ numbers_from n (instances (drop j ts)) ≡ all
numbers_plain xs ys ts i j n t all e g h k l =
    ap (λ x. x ++ numbers_from n (instances (drop j ts))) e ∙ ap (λ x. (xs ++ None ∷ []) ++ numbers_from n (instances (drop x ts))) g
    ∙ sym (append_one xs None rest) ∙ sym (ap (λ x. xs ++ x) (ap (numbers_from n) (instances_at ts i t h) ∙ numbers_false (has_function t.kind) n (numbers_from n (instances (drop (suc i) ts))) (λ z. numbers_from z (instances (drop (suc i) ts))) (sym (ruled_is t.kind) ∙ k))) ∙ l
  where
    rest : List (Option ℕ)
    rest = numbers_from n (instances (drop (suc i) ts))

pub numbers_end : (xs : List (Option ℕ)) (ts : List Tree) (i n : ℕ) → length ts ≤ i → xs ++ numbers_from n (instances (drop i ts)) ≡ numbers_from 0 (instances ts) → (g : ℕ) → joined (slice_get xs g) ≡ function_of (instances ts) g
numbers_end xs ts i n e k = numbered_all (instances ts) xs (sym (append_none xs) ∙ sym (ap (λ x. xs ++ numbers_from n x) (instances_past ts i e)) ∙ k)

-- headers

append_again : {A : Type 0} (xs ys zs : List A) → (xs ++ ys) ++ zs ≡ xs ++ (ys ++ zs)
append_again [] ys zs = refl
append_again (x ∷ xs) ys zs = ap (λ u. x ∷ u) (append_again xs ys zs)

pub headers_next : (ms : List Member) (ts : List Tree) (i j n m : ℕ) (t : Tree) (hs more all : List Header) → j ≡ suc i → m ≡ suc n → slice_get ts i ≡ Some t → more ≡ hs ++ headers_from ms n (instance_of t ∷ []) → hs ++ headers_from ms n (instances (drop i ts)) ≡ all → more ++ headers_from ms m (instances (drop j ts)) ≡ all
headers_next ms ts i j n m t hs more all e f h a k =
    ap (λ x. x ++ headers_from ms m (instances (drop j ts))) a ∙ ap (λ x. (hs ++ headers_from ms n (instance_of t ∷ [])) ++ headers_from ms x (instances (drop j ts))) f
    ∙ ap (λ x. (hs ++ headers_from ms n (instance_of t ∷ [])) ++ headers_from ms (suc n) (instances (drop x ts))) e ∙ append_again hs (headers_from ms n (instance_of t ∷ [])) rest
    ∙ ap (λ x. hs ++ x) (and_if-append (is_ruled t.kind) (header_of (registers ms n) (instance_of t)) rest) ∙ sym (ap (λ x. hs ++ headers_from ms n x) (instances_at ts i t h)) ∙ k
  where
    rest : List Header
    rest = headers_from ms (suc n) (instances (drop (suc i) ts))

-- codes

-- the first ones of a list
pub record Begins (xs ys : List (List Instr)) : Type 0 where
  pub by : (p : ℕ) (x : List Instr) → slice_get xs p ≡ Some x → slice_get ys p ≡ Some x

kept : (xs ys : List (List Instr)) (p : ℕ) (x : List Instr) → slice_get xs p ≡ Some x → slice_get (xs ++ ys) p ≡ Some x
kept [] ys p x h = absurd (cc)
kept (z ∷ xs) ys zero x h = h
kept (z ∷ xs) ys (suc p) x h = kept xs ys p x h

last_there : (xs : List (List Instr)) (x : List Instr) → slice_get (xs ++ x ∷ []) (length xs) ≡ Some x
last_there [] x = refl
last_there (z ∷ xs) x = last_there xs x

-- the codes that follow are said of the whole
pub record FollowCodes (s : Setting) (ds0 ds : List Instance) (codes : List (List Instr)) : Type 0 where
  pub by : (all : List (List Instr)) → Begins codes all → HaveCodes s ds (length codes) all → HaveCodes s ds0 0 all

pub codes_start : (s : Setting) (ds : List Instance) → FollowCodes s ds ds []
codes_start s ds = record { by = λ all b h. h }

has_one : (s : Setting) (b : Bool) (d : Instance) (ds : List Instance) (n : ℕ) (code : List Instr) (all : List (List Instr)) → has_function d.kind ≡ b → b ≡ true → slice_get all n ≡ Some code → IsCodeOf s d code → HaveCodes s ds (suc n) all → HaveCodes s (d ∷ ds) n all
has_one s false d ds n code all e f at is h = absurd (cc)
has_one s true d ds n code all e f at is h = record { by = by }
  where
    in_first : (k : ℕ) (x : Instance) → if_function (has_function d.kind) ≡ Some k → Some d ≡ Some x → (c : List Instr) × (slice_get all (n + k) ≡ Some c) × IsCodeOf s x c
    in_first k x p q = (code, ap (slice_get all) (sym (same_number k (sym (ap if_function e) ∙ p))) ∙ at, subst (λ z. IsCodeOf s z code) (same_some d x q) is)
      where
        same_number : (k : ℕ) → Some 0 ≡ Some k → n ≡ n + k
        same_number k r = let z = same_some 0 k r in omega (arith, z)

    in_rest : (g k : ℕ) (x : Instance) (o : Option ℕ) → function_of ds g ≡ o → one_more true o ≡ Some k → slice_get ds g ≡ Some x → (c : List Instr) × (slice_get all (n + k) ≡ Some c) × IsCodeOf s x c
    in_rest g k x None p q r = absurd (cc)
    in_rest g k x (Some j) p q r =
        let found = h.by g j x p r in
        (found.0, ap (slice_get all) (same_place k q) ∙ found.1, found.2)
      where
        same_place : (k : ℕ) → Some (suc j) ≡ Some k → n + k ≡ suc n + j
        same_place k r' = let z = same_some (suc j) k r' in omega (arith, z)

    by : (g k : ℕ) (x : Instance) → function_of (d ∷ ds) g ≡ Some k → slice_get (d ∷ ds) g ≡ Some x → (c : List Instr) × (slice_get all (n + k) ≡ Some c) × IsCodeOf s x c
    by zero k x p q = in_first k x p q
    by (suc g) k x p q = in_rest g k x (function_of ds g) refl (sym (ap (λ z. one_more z (function_of ds g)) e) ∙ p) q

has_none : (s : Setting) (d : Instance) (ds : List Instance) (n : ℕ) (all : List (List Instr)) → has_function d.kind ≡ false → HaveCodes s ds n all → HaveCodes s (d ∷ ds) n all
has_none s d ds n all e h = record { by = by }
  where
    no_first : (k : ℕ) → if_function (has_function d.kind) ≡ Some k → ⊥
    no_first k p = none_some (sym (ap if_function e) ∙ p)
      where
        none_some : None ≡ Some k → ⊥
        none_some r = absurd (cc)

    same : (o : Option ℕ) → one_more false o ≡ o
    same None = refl
    same (Some j) = refl

    by : (g k : ℕ) (x : Instance) → function_of (d ∷ ds) g ≡ Some k → slice_get (d ∷ ds) g ≡ Some x → (c : List Instr) × (slice_get all (n + k) ≡ Some c) × IsCodeOf s x c
    by zero k x p q = absurd (no_first k p)
    by (suc g) k x p q = h.by g k x (sym (ap (λ z. one_more z (function_of ds g)) e ∙ same (function_of ds g)) ∙ p) q

begins_less : (xs : List (List Instr)) (x : List Instr) (all : List (List Instr)) → Begins (xs ++ x ∷ []) all → Begins xs all × (slice_get all (length xs) ≡ Some x)
begins_less xs x all b = (record { by = λ p y e. b.by p y (kept xs (x ∷ []) p y e) }, b.by (length xs) x (last_there xs x))

pub codes_more : (s : Setting) (ds0 ds : List Instance) (d : Instance) (codes : List (List Instr)) (code : List Instr) → is_ruled d.kind ≡ true → IsCodeOf s d code → FollowCodes s ds0 (d ∷ ds) codes → FollowCodes s ds0 ds (codes ++ code ∷ [])
codes_more s ds0 ds d codes code e is f = record {
  by = λ all b h. let two = begins_less codes code all b in
      f.by all two.0 (has_one s true d ds (length codes) code all (sym (ruled_is d.kind) ∙ e) refl two.1 is (subst (λ n. HaveCodes s ds n all) (omega (arith, length-append codes (code ∷ []))) h));
}

pub codes_same : (s : Setting) (ds0 ds : List Instance) (d : Instance) (codes : List (List Instr)) → is_ruled d.kind ≡ false → FollowCodes s ds0 (d ∷ ds) codes → FollowCodes s ds0 ds codes
codes_same s ds0 ds d codes e f = record {
  by = λ all b h. f.by all b (has_none s d ds (length codes) all (sym (ruled_is d.kind) ∙ e) h);
}

pub codes_next : (s : Setting) (ts : List Tree) (i j : ℕ) (t : Tree) (codes more : List (List Instr)) → j ≡ suc i → slice_get ts i ≡ Some t → FollowCodes s (instances ts) (instances (drop i ts)) codes → AddsCode s (is_ruled t.kind) (instance_of t) codes more → FollowCodes s (instances ts) (instances (drop j ts)) more
codes_next s ts i j t codes more e h f a = subst (λ z. FollowCodes s (instances ts) (instances (drop z ts)) more) (sym e) (by_kind (is_ruled t.kind) refl a)
  where
    here : FollowCodes s (instances ts) (instance_of t ∷ instances (drop (suc i) ts)) codes
    here = subst (λ z. FollowCodes s (instances ts) z codes) (instances_at ts i t h) f

    by_kind : (b : Bool) → is_ruled t.kind ≡ b → AddsCode s b (instance_of t) codes more → FollowCodes s (instances ts) (instances (drop (suc i) ts)) more
    by_kind true k x = subst (FollowCodes s (instances ts) (instances (drop (suc i) ts))) (sym x.1) (codes_more s (instances ts) (instances (drop (suc i) ts)) (instance_of t) codes x.0 k x.2 here)
    by_kind false k x = subst (FollowCodes s (instances ts) (instances (drop (suc i) ts))) (sym x) (codes_same s (instances ts) (instances (drop (suc i) ts)) (instance_of t) codes k here)

pub codes_end : (s : Setting) (ts : List Tree) (i : ℕ) (codes : List (List Instr)) → length ts ≤ i → FollowCodes s (instances ts) (instances (drop i ts)) codes → HaveCodes s (instances ts) 0 codes
codes_end s ts i codes e f = f.by codes (record { by = λ p x h. h }) (subst (λ z. HaveCodes s z (length codes) codes) (sym (instances_past ts i e)) (record { by = λ g k d p q. absurd (none_some q) }))
  where
    none_some : {x : Instance} → None ≡ Some x → ⊥
    none_some h = absurd (cc)

-- one function

pub is_code : (s : Setting) (n : ℕ) (d : Instance) (k l : Known) (v w : Written) (code : List Instr) → k ≡ known_at_start s n d → v ≡ record { instrs = []; places = []; maps = [] } → (WellMatchedBlock s.types d.body → WritesBlock s k v d.body Return l w) → code ≡ map (settled (place_of w.places)) w.instrs → IsCodeOf s d code
is_code s n d k l v w code e f b h = record {
  by = λ well.
      let written = subst (λ x. WritesBlock s (known_at_start s n d) x d.body Return l w) f (subst (λ x. WritesBlock s x v d.body Return l w) e (b well)) in
      (n, record { end = length w.instrs; after = l; body = written.code (place_of w.places) code (has_all w code h) });
}

-- the whole

are_lowered : (p : Program) (s : Setting) (codes : List (List Instr)) → IsSettingOf p s → HaveCodes s p.instances 0 codes → IsWellMatched p → AreLowered p codes
are_lowered p s codes so h well = record {
  setting = s;
  so = so;
  of = λ g f d e at.
      let found = h.by g f d e at in
      let made = found.2.by (subst (λ tb. WellMatchedBlock tb d.body) (sym so.types) (at_place (λ (x : Instance). WellMatchedBlock p.types x.body) p.instances g d well at)) in
      (made.0, found.0, ap (slice_get codes) (omega arith) ∙ found.1, made.1);
}

same_codes : (fs : List Function) → map instrs_of (map plain_function fs) ≡ map function_instrs fs
same_codes [] = refl
same_codes (f ∷ fs) = ap (λ x. function_instrs f ∷ x) (same_codes fs)

pub functions_lowered : (p : Program) (s : Setting) (fs : List Function) → IsSettingOf p s → HaveCodes s p.instances 0 (map function_instrs fs) → IsWellMatched p → AreLowered p (map instrs_of (map plain_function fs))
functions_lowered p s fs so h well = are_lowered p s (map instrs_of (map plain_function fs)) so (subst (HaveCodes s p.instances 0) (sym (same_codes fs)) h) well
