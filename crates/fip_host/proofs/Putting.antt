-- Values that are put under free numbers, one after another.
use Rattle.std.proofs.Common.{◌≡◌, ◌≢◌, ◌∙◌, ℕ, zero, suc, ◌+◌, ◌<◌, ◌≤◌, List, [], ◌∷◌, ◌++◌, length, drop, Option, Some, None, slice_get, refl, sym, ap, subst, arith}
use Rattle.std.specs.Prelude.{min, slice_set, take}
use Rattle.std.proofs.lemmas.List.{take_all, take_more, take_more_set}
use Rattle.std.proofs.lemmas.Option.{none-some, same_Some, get_or_from_slice_get, slice_get_within}
use Rattle.fip_host.specs.declared.hosted.Kept.{Kept}
use Rattle.fip_machine.specs.cell_code.declared.code.Function.{Function}
use Rattle.fip_host.specs.Hosting.{Seen, results_of}
use Rattle.fip_host.specs.Keeping.{ArePut, HasKept, count_free, typed_words}
use Rattle.fip_host.specs.Telling.{flat, kept_at}

-- ---- free numbers

drop_free : (os : List (Option Kept)) (i : ℕ) → slice_get os i ≡ Some None → count_free (drop i os) ≡ suc (count_free (drop (suc i) os))
drop_free [] i e = absurd (none-some None e)
drop_free (o ∷ os) zero e = ap (λ (x : Option Kept). count_free (x ∷ os)) (same_Some o None e)
drop_free (o ∷ os) (suc i) e = drop_free os i e

drop_kept : (os : List (Option Kept)) (i : ℕ) (k : Kept) → slice_get os i ≡ Some (Some k) → count_free (drop i os) ≡ count_free (drop (suc i) os)
drop_kept [] i k e = absurd (none-some (Some k) e)
drop_kept (o ∷ os) zero k e = ap (λ (x : Option Kept). count_free (x ∷ os)) (same_Some o (Some k) e)
drop_kept (o ∷ os) (suc i) k e = drop_kept os i k e

next : (os : List (Option Kept)) (i : ℕ) → count_free (drop (suc i) os) ≡ count_free (drop (i + 1) os)
next os i = let on : suc i ≡ i + 1 = omega arith in ap (λ (n : ℕ). count_free (drop n os)) on

-- one that is free is counted
pub counted : (os : List (Option Kept)) (i all now : ℕ) → slice_get os i ≡ Some None → now + count_free (drop i os) ≡ all → now + 1 + count_free (drop (i + 1) os) ≡ all
counted os i all now e h = let a = drop_free os i e in let b = next os i in omega (arith, a, b, h)

-- one that isn't, is not
pub passed : (os : List (Option Kept)) (i all now : ℕ) (k : Kept) → slice_get os i ≡ Some (Some k) → now + count_free (drop i os) ≡ all → now + count_free (drop (i + 1) os) ≡ all
passed os i all now k e h = let a = drop_kept os i k e in let b = next os i in omega (arith, a, b, h)

pub none_left : (os : List (Option Kept)) (i : ℕ) → length os ≤ i → count_free (drop i os) ≡ 0
none_left [] zero h = refl
none_left [] (suc i) h = refl
none_left (o ∷ os) zero h = absurd (omega (arith, h))
none_left (o ∷ os) (suc i) h = none_left os i (omega (arith, h))

pub one_fewer : (os : List (Option Kept)) (n : ℕ) (k : Kept) → slice_get os n ≡ Some None → suc (count_free (slice_set os n (Some k))) ≡ count_free os
one_fewer [] n k e = absurd (none-some None e)
one_fewer (o ∷ os) zero k e = sym (ap (λ (x : Option Kept). count_free (x ∷ os)) (same_Some o None e))
one_fewer (None ∷ os) (suc n) k e = ap suc (one_fewer os n k e)
one_fewer (Some x ∷ os) (suc n) k e = one_fewer os n k e

-- ---- one more value

pub put_on : (ks : List Kept) (ns : List ℕ) (k : Kept) (n : ℕ) (first mid : List (Option Kept)) → ArePut ks ns first mid → slice_get mid n ≡ Some None → ArePut (ks ++ k ∷ []) (ns ++ n ∷ []) first (slice_set mid n (Some k))
put_on [] [] k n first mid h free = (subst (λ (os : List (Option Kept)). slice_get os n ≡ Some None) h free, ap (λ (os : List (Option Kept)). slice_set os n (Some k)) h)
put_on [] (m ∷ ns) k n first mid h free = absurd h
put_on (x ∷ ks) [] k n first mid h free = absurd h
put_on (x ∷ ks) (m ∷ ns) k n first mid (here, rest) free = (here, put_on ks ns k n (slice_set first m (Some x)) mid rest free)

-- ---- what is kept then

set_here : (os : List (Option Kept)) (n : ℕ) (o x : Option Kept) → slice_get os n ≡ Some x → slice_get (slice_set os n o) n ≡ Some o
set_here [] n o x e = absurd (none-some x e)
set_here (y ∷ os) zero o x e = refl
set_here (y ∷ os) (suc n) o x e = set_here os n o x e

set_other : (os : List (Option Kept)) (n m : ℕ) (o : Option Kept) → m ≢ n → slice_get (slice_set os n o) m ≡ slice_get os m
set_other [] n m o u = refl
set_other (y ∷ os) zero zero o u = absurd (u refl)
set_other (y ∷ os) zero (suc m) o u = refl
set_other (y ∷ os) (suc n) zero o u = refl
set_other (y ∷ os) (suc n) (suc m) o u = set_other os n m o (λ e. u (ap suc e))

-- a number that is free is another one than that of a value
unlike : (os : List (Option Kept)) (n m : ℕ) (k : Kept) → slice_get os n ≡ Some None → slice_get os m ≡ Some (Some k) → m ≢ n
unlike os n m k free full e = none-some k (same_Some None (Some k) (sym free ∙ ap (slice_get os) (sym e) ∙ full))

stays : (ks : List Kept) (ns : List ℕ) (old new : List (Option Kept)) (n : ℕ) (k : Kept) → ArePut ks ns old new → slice_get old n ≡ Some (Some k) → slice_get new n ≡ Some (Some k)
stays [] [] old new n k h e = ap (λ (os : List (Option Kept)). slice_get os n) h ∙ e
stays [] (m ∷ ns) old new n k h e = absurd h
stays (x ∷ ks) [] old new n k h e = absurd h
stays (x ∷ ks) (m ∷ ns) old new n k (free, rest) e = stays ks ns (slice_set old m (Some x)) new n k rest (set_other old m n (Some x) (unlike old m n k free e) ∙ e)

named : (ks : List Kept) (ns : List ℕ) (old new : List (Option Kept)) (i n : ℕ) (k : Kept) → ArePut ks ns old new → slice_get ns i ≡ Some n → slice_get ks i ≡ Some k → slice_get new n ≡ Some (Some k)
named [] [] old new i n k h at is = absurd (none-some k is)
named [] (m ∷ ns) old new i n k h at is = absurd h
named (x ∷ ks) [] old new i n k h at is = absurd h
named (x ∷ ks) (m ∷ ns) old new zero n k (free, rest) at is =
    let same : m ≡ n = same_Some m n at in
    let value : x ≡ k = same_Some x k is in
    stays ks ns (slice_set old m (Some x)) new n k rest
    (subst (λ (j : ℕ). slice_get (slice_set old m (Some x)) j ≡ Some (Some k)) same (set_here old m (Some x) None free ∙ ap (λ (y : Kept). Some (Some y)) value))
named (x ∷ ks) (m ∷ ns) old new (suc i) n k (free, rest) at is = named ks ns (slice_set old m (Some x)) new i n k rest at is

pub names : (ks : List Kept) (ns : List ℕ) (old new : List (Option Kept)) (i n : ℕ) (k : Kept) → ArePut ks ns old new → slice_get ns i ≡ Some n → slice_get ks i ≡ Some k → kept_at new n ≡ Some k
names ks ns old new i n k h at is = ap flat (named ks ns old new i n k h at is)

-- what was free after a value was put under a number was free before
free_before : (os : List (Option Kept)) (m n : ℕ) (k : Kept) → slice_get os m ≡ Some None → slice_get (slice_set os m (Some k)) n ≡ Some None → slice_get os n ≡ Some None
free_before [] m n k free e = absurd (none-some None free)
free_before (y ∷ os) zero zero k free e = free
free_before (y ∷ os) zero (suc n) k free e = e
free_before (y ∷ os) (suc m) zero k free e = e
free_before (y ∷ os) (suc m) (suc n) k free e = free_before os m n k free e

free_numbered : (ks : List Kept) (ns : List ℕ) (old new : List (Option Kept)) (i n : ℕ) → ArePut ks ns old new → slice_get ns i ≡ Some n → slice_get old n ≡ Some None
free_numbered [] [] old new i n h at = absurd (none-some n at)
free_numbered [] (m ∷ ns) old new i n h at = absurd h
free_numbered (x ∷ ks) [] old new i n h at = absurd h
free_numbered (x ∷ ks) (m ∷ ns) old new zero n (free, rest) at = subst (λ (j : ℕ). slice_get old j ≡ Some None) (same_Some m n at) free
free_numbered (x ∷ ks) (m ∷ ns) old new (suc i) n (free, rest) at = free_before old m n x free (free_numbered ks ns (slice_set old m (Some x)) new i n rest at)

pub was_free : (ks : List Kept) (ns : List ℕ) (old new : List (Option Kept)) (i n : ℕ) → ArePut ks ns old new → slice_get ns i ≡ Some n → kept_at old n ≡ None
was_free ks ns old new i n h at = ap flat (free_numbered ks ns old new i n h at)

-- ---- words with their types

few_types : (ts ws : List ℕ) → length (typed_words ts ws) ≤ length ts
few_types [] ws = omega arith
few_types (t ∷ ts) [] = omega arith
few_types (t ∷ ts) (w ∷ ws) = let h = few_types ts ws in omega (arith, h)

few_words : (ts ws : List ℕ) → length (typed_words ts ws) ≤ length ws
few_words [] ws = omega arith
few_words (t ∷ ts) [] = omega arith
few_words (t ∷ ts) (w ∷ ws) = let h = few_words ts ws in omega (arith, h)

-- so many are all
pub typed_all : (ts ws : List ℕ) (n : ℕ) → n ≡ min (length ws) (length ts) → take n (typed_words ts ws) ≡ typed_words ts ws
typed_all ts ws n e =
    let a = few_types ts ws in
    let b = few_words ts ws in
    take_all n (typed_words ts ws) (omega (arith, a, b, e))

pub typed_at : (ts ws : List ℕ) (i t w : ℕ) → slice_get ts i ≡ Some t → slice_get ws i ≡ Some w → slice_get (typed_words ts ws) i ≡ Some (record { ty = t; word = w })
typed_at [] ws i t w a b = absurd (none-some t a)
typed_at (x ∷ ts) [] i t w a b = absurd (none-some w b)
typed_at (x ∷ ts) (y ∷ ws) zero t w a b = let p : x ≡ t = same_Some x t a in let q : y ≡ w = same_Some y w b in cc
typed_at (x ∷ ts) (y ∷ ws) (suc i) t w a b = typed_at ts ws i t w a b

-- one more of the values is put
pub put_one : (ts ws ns : List ℕ) (i t w n : ℕ) (k : Kept) (first mid last : List (Option Kept)) → i < length ns → slice_get ts i ≡ Some t → slice_get ws i ≡ Some w → k ≡ record { ty = t; word = w } → ArePut (take i (typed_words ts ws)) (take i ns) first mid → slice_get mid n ≡ Some None → last ≡ slice_set mid n (Some k) → ArePut (take (i + 1) (typed_words ts ws)) (take (i + 1) (slice_set ns i n)) first last
put_one ts ws ns i t w n k first mid last lt ty word value put free e =
    let at : slice_get (typed_words ts ws) i ≡ Some k = typed_at ts ws i t w ty word ∙ ap (λ (x : Kept). Some x) (sym value) in
    let within : i < length (typed_words ts ws) = slice_get_within (typed_words ts ws) i k at in
    let values : take (i + 1) (typed_words ts ws) ≡ take i (typed_words ts ws) ++ k ∷ [] =
    take_more (typed_words ts ws) i k within ∙ ap (λ (x : Kept). take i (typed_words ts ws) ++ x ∷ []) (get_or_from_slice_get (typed_words ts ws) i k k at) in
    let numbers : take (i + 1) (slice_set ns i n) ≡ take i ns ++ n ∷ [] = take_more_set ns i n lt in
    let more = put_on (take i (typed_words ts ws)) (take i ns) k n first mid put free in
    subst (λ (ks : List Kept). ArePut ks (take (i + 1) (slice_set ns i n)) first last) (sym values)
    (subst (λ (ms : List ℕ). ArePut (take i (typed_words ts ws) ++ k ∷ []) ms first last) (sym numbers)
    (subst (λ (os : List (Option Kept)). ArePut (take i (typed_words ts ws) ++ k ∷ []) (take i ns ++ n ∷ []) first os) (sym e) more))

-- the results of a run are kept
pub has_kept : (old new : Seen) (words : List ℕ) (g : Function) (ns : List ℕ) → results_of old ≡ Some words → slice_get old.code.code.functions.items old.entry ≡ Some g → ArePut (typed_words g.results words) ns old.kept new.kept → HasKept old new ns
has_kept old new words g ns results at put = record {
  words = words;
  results = results;
  function = g;
  is = at;
  put = put;
  free = λ i n here. was_free (typed_words g.results words) ns old.kept new.kept i n put here;
  names = λ i n k here is. names (typed_words g.results words) ns old.kept new.kept i n k put here is;
}
